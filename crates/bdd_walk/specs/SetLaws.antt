-- The laws of sets of references as keys.
use Rattle.std.specs.Prelude.{ℕ, true, false, List, ◌++◌, Some, IsTrue}
use Rattle.std.specs.List.{list_all}
use Rattle.std.proofs.Common.{◌∙◌, ap}
use Rattle.bdd_nodes.specs.declared.node_ref.NodeRef.{NodeRef}
use Rattle.bdd_nodes.specs.Shelf.{Contents}
use Rattle.bdd_nodes.specs.Changes.{Keeps, is_valid}
use Rattle.labels.specs.Labels.{with_track}
use Rattle.bdd_walk.specs.Asked.{leaves_of, asked_of}
use Rattle.bdd_walk.specs.Sets.{set_of}
use Rattle.bdd_walk.specs.Stands.{AsksSame}
use Rattle.bdd_walk.specs.Laws.{leaves-kept}

pub sets-asks_still : (old new : Contents) → Keeps old new → (t : ℕ) (rs : List NodeRef) → IsTrue (list_all (is_valid old) rs) →
    AsksSame (λ label. set_of (asked_of new rs (Some t) label)) (λ label. set_of (asked_of old rs (Some t) label))
unfolding AsksSame
sets-asks_still old new keeps t rs valid = λ label.
    ap (λ (states : List ℕ). set_of (states ++ leaves_of new rs (with_track label t true)))
    (leaves-kept old new keeps rs (with_track label t false) valid)
    ∙ ap (λ (states : List ℕ). set_of (leaves_of old rs (with_track label t false) ++ states))
    (leaves-kept old new keeps rs (with_track label t true) valid)
