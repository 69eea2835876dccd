use Rattle.std.proofs.Common.{nat_lt, is_none, sym, ap, ◌∙◌}
use Rattle.store_core.specs.Tables.{place_of}
use Rattle.pale_tables.proofs.FaultLemmas.{stop_returned, stop_same}
use Rattle.pale_tables.proofs.NamesLemmas.{new-first, new-second, none_is}
use Rattle.pale_tables.proofs.names.Names.need_new.Goals as goal

pub returns-in_err-need-clause-stop : goal.returns-in_err-need-clause-stop
returns-in_err-need-clause-stop c =
    let e = c.in_err-need.field-0.0 in
    stop_returned _ c.from_residual.result e c.from_residual.ensures.1
    (new-first c.args.most c.args.many c.args.self.now c.args.name.now _ e
    (none_is _ _ (sym c.is_none-is_new.ensures) ∙ ap is_none (c.find.ensures ∙ ap (λ name. place_of name c.args.self.now) c.as_slice.ensures))
    c.in_err-need.ensures.stop)

pub returns-clause-stop : goal.returns-clause-stop
returns-clause-stop c =
    stop_same _ _ c.need-2.result
    (λ e is. new-second c.args.most c.args.many c.args.self.now c.args.name.now _ _ e
    (none_is _ _ (sym c.is_none-is_new.ensures) ∙ ap is_none (c.find.ensures ∙ ap (λ name. place_of name c.args.self.now) c.as_slice.ensures))
    c.in_ok-need.ensures.met (ap (λ n. nat_lt n c.args.most) c.len.ensures) is)
    c.need-2.ensures.stop
