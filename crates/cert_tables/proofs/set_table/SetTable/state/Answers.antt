use Rattle.std.proofs.Common.{List, slice_get, sym, ap, ◌∙◌}
use Rattle.cert_text.specs.declared.line.SetLine.{SetLine}
use Rattle.cert_tables.proofs.SetKeysLemmas.{if-none, set-of, no-set}
use Rattle.cert_tables.proofs.set_table.SetTable.state.Goals as goal

pub returns-in_err-place-clause-none : goal.returns-in_err-place-clause-none
returns-in_err-place-clause-none c =
    if-none c.from_residual.result _ (no-set c.args.self.now c.args.space c.args.members.items c.in_err-place.ensures.none)

pub returns-clause-found : goal.returns-clause-found
returns-clause-found c =
    set-of c.args.self.now c.args.space c.args.members.items c.in_ok-place.place c.in_ok-line.line.now c.in_ok-place.ensures.found
    (sym (c.in_ok-line.ensures.value ∙ ap (λ (ls : List SetLine). slice_get ls c.in_ok-place.place) c.self.view_is))
