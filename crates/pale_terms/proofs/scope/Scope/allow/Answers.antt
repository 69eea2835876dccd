use Rattle.std.proofs.Common.{sym, ap, ◌∙◌}
use Rattle.store_core.specs.Tables.{place_of}
use Rattle.pale_terms.specs.Visibles.{entries_of}
use Rattle.pale_terms.specs.Scopes.{visible_names, allowed}
use Rattle.pale_terms.proofs.ScopeLemmas.{place-kept, allowed-missing, allowed-written}
use Rattle.pale_terms.proofs.scope.Scope.allow.Goals as goal

pub returns-in_default : goal.returns-in_default
returns-in_default c =
    sym (allowed-missing c.args.name.now c.args.may c.args.self.now
    (ap (λ s. place_of c.args.name.now (visible_names s)) (sym c.self.view_is)
    ∙ sym (place-kept c.args.name.now c.self.inside.visible.entries) ∙ sym c.in_default.ensures.index))

pub returns : goal.returns
returns c =
    let es = c.self.inside.visible.entries in
    allowed-written c.args.name.now c.args.may es c.in-Some.place c.in-Some-get_index_mut.visible.now
    (sym (place-kept c.args.name.now es) ∙ sym c.in-Some.ensures.index) (sym c.in-Some-get_index_mut.ensures.value)
    ∙ ap (allowed c.args.name.now c.args.may) c.self.view_is
