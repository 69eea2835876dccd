use Rattle.std.proofs.Common.{◌++◌, ◌∷◌, [], ap, ◌∙◌}
use Rattle.store_core.specs.Tables.{place_of}
use Rattle.store_core.proofs.Bodies.{map-insert_entry}
use Rattle.pale_terms.specs.Visibles.{entry_of, entries_of}
use Rattle.pale_terms.specs.Scopes.{visible_names}
use Rattle.pale_terms.proofs.ScopeLemmas.{place-kept}
use Rattle.pale_terms.proofs.scope.Scope.add.Goals as goal

pub returns-clause-added : goal.returns-clause-added
returns-clause-added c =
    let es = c.self.inside.visible.entries in
    ap entries_of c.in_ok-insert.ensures.entries
    ∙ map-insert_entry entry_of c.in_ok-key.key c.args.visible es
    (place-kept c.in_ok-key.key.items es ∙ ap (λ n. place_of n (visible_names (entries_of es))) c.in_ok-key.ensures.items
    ∙ ap (λ s. place_of c.args.name.now (visible_names s)) c.self.view_is ∙ c.requires)
    ∙ ap (λ n. entries_of es ++ record { name = n; visible = c.args.visible } ∷ []) c.in_ok-key.ensures.items
    ∙ ap (λ s. s ++ record { name = c.args.name.now; visible = c.args.visible } ∷ []) c.self.view_is
