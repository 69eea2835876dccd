use Rattle.std.proofs.Common.{is_some, ap, ◌∙◌}
use Rattle.store_core.specs.Tables.{place_of}
use Rattle.pale_terms.specs.Scopes.{visible_names}
use Rattle.pale_terms.proofs.ScopeLemmas.{place-kept}
use Rattle.pale_terms.proofs.scope.Scope.sees.Goals as goal

pub returns : goal.returns
returns c =
    c.is_some.ensures ∙ ap is_some (c.get_index_of.ensures.index ∙ place-kept c.args.name.now c.self.inside.visible.entries
    ∙ ap (λ s. place_of c.args.name.now (visible_names s)) c.self.view_is)
