use Rattle.std.proofs.Common.{◌++◌, ◌∷◌, [], ap, ◌∙◌}
use Rattle.store_core.specs.Tables.{place_of}
use Rattle.store_core.proofs.Bodies.{map-insert_entry}
use Rattle.pale_vocabulary.specs.Heads.{head_of, heads_of, head_names}
use Rattle.pale_vocabulary.proofs.HeadLemmas.{place-kept}
use Rattle.pale_vocabulary.proofs.vocabulary.PredHeads.add.Goals as goal

pub returns-clause-added : goal.returns-clause-added
returns-clause-added c =
    let es = c.self.inside.heads.entries in
    ap heads_of c.in_ok-insert.ensures.entries
    ∙ map-insert_entry head_of c.in_ok-key.key c.args.params es
    (place-kept c.in_ok-key.key.items es ∙ ap (λ n. place_of n (head_names (heads_of es))) c.in_ok-key.ensures.items
    ∙ ap (λ preds. place_of c.args.name.now (head_names preds)) c.self.view_is ∙ c.requires)
    ∙ ap (λ n. heads_of es ++ record { name = n; params = c.args.params } ∷ []) c.in_ok-key.ensures.items
    ∙ ap (λ preds. preds ++ record { name = c.args.name.now; params = c.args.params } ∷ []) c.self.view_is
