-- Shelves: which references differ, which tracks matter, and which functions are constant.
use Rattle.std.proofs.Common.{◌≡◌, ◌≢◌, ℕ, suc, ◌≤◌, Bool, true, false, if◌then◌else◌, sym, ◌∙◌, ap, inl, inr, arith}
use Rattle.std.proofs.lemmas.Bool.{cases_lt}
use Rattle.bdd_nodes.specs.declared.node_ref.NodeRef.{NodeRef}
use Rattle.labels.specs.Labels.{Label, with_track}
use Rattle.bdd_nodes.specs.Shelf.{Contents, IsShelf, IsValid, IsSideFor, AsksFrom, state_of, choice_of, low_of, high_of}
use Rattle.bdd_nodes.proofs.SplitLemmas.{same_reference, unasked, is_leaf, splits, cases_of}
use Rattle.bdd_walk.specs.Under.{Varies}
use Rattle.bdd_nodes.specs.Nodes.{node_of}
use Rattle.bdd_nodes.proofs.RefLemmas.{node_of-injective}
use Rattle.bdd_nodes.proofs.CanonicalLemmas.{differ_named}
use Rattle.labels.proofs.LabelsLemmas.{with_track-same, with_track-later}

-- a side is what the choice is where the track is fixed
module _ (shelf : Contents) (is_shelf : IsShelf shelf) (track : ℕ) (low high : NodeRef)
    (low_side : IsSideFor shelf track low) (high_side : IsSideFor shelf track high) where
  low_is_choice : (label : Label) → state_of shelf low label ≡ choice_of shelf track low high (with_track label track false)
  low_is_choice label =
      unasked shelf low (suc track) label (with_track label track false) is_shelf low_side.valid low_side.later
      (λ u later. sym (with_track-later label track u false later))
      ∙ ap (λ (b : Bool). if b then state_of shelf high (with_track label track false) else state_of shelf low
      (with_track label track false)) (sym (with_track-same label track false))

  high_is_choice : (label : Label) → state_of shelf high label ≡ choice_of shelf track low high (with_track label track true)
  high_is_choice label =
      unasked shelf high (suc track) label (with_track label track true) is_shelf high_side.valid high_side.later
      (λ u later. sym (with_track-later label track u true later))
      ∙ ap (λ (b : Bool). if b then state_of shelf high (with_track label track true) else state_of shelf low
      (with_track label track true)) (sym (with_track-same label track true))

  -- a choice that doesn't depend on its track has one side
  pub choice-same_sides : ((label : Label) → choice_of shelf track low high (with_track label track false)
      ≡ choice_of shelf track low high (with_track label track true)) → low ≡ high
  choice-same_sides same =
      same_reference shelf low high is_shelf low_side.valid high_side.valid
      (λ label. low_is_choice label ∙ same label ∙ sym (high_is_choice label))

-- a reference whose function depends on the tracks from t on alone asks from t
pub AsksFrom-of_function : (shelf : Contents) (r : NodeRef) (t : ℕ) → IsShelf shelf → IsValid shelf r →
    ((l m : Label) → ((u : ℕ) → t ≤ u → l u ≡ m u) → state_of shelf r l ≡ state_of shelf r m) → AsksFrom shelf t r
AsksFrom-of_function shelf r t is_shelf valid depends = elim (cases_of shelf r is_shelf valid) [
  | is_leaf top others asks ↦ asks t
  | splits track top split asks_to asks_of ↦ elim (cases_lt track t) [
    | inr from ↦ asks_to t from
    | inl below ↦ absurd (split.differ (choice-same_sides shelf is_shelf track (low_of shelf r) (high_of shelf r) split.low split.high
        (λ label. sym (split.states (with_track label track false))
        ∙ depends (with_track label track false) (with_track label track true)
        (λ u later. with_track-later label track u false (omega arith) ∙ sym (with_track-later label track u true (omega arith)))
        ∙ split.states (with_track label track true))))
  ]
]

-- a choice between two references that differ isn't constant
pub varies-choice : (shelf : Contents) (track : ℕ) (low high : NodeRef) → IsShelf shelf →
    IsSideFor shelf track low → IsSideFor shelf track high → low ≢ high → Varies (choice_of shelf track low high)
varies-choice shelf track low high is_shelf low_side high_side differ =
    let apart = differ_named shelf.nodes is_shelf.canonical (node_of low) (node_of high) low_side.valid high_side.valid
    (λ same. differ (node_of-injective low high same)) in
    record {
      one = with_track apart.0 track false;
      other = with_track apart.0 track true;
      differs = λ same. apart.1 (low_is_choice shelf is_shelf track low high low_side high_side apart.0 ∙ same
          ∙ sym (high_is_choice shelf is_shelf track low high low_side high_side apart.0));
    }

-- a reference that isn't valid everywhere has a function that isn't constant
pub varies-of_absent : (shelf other : Contents) (r : NodeRef) → IsShelf shelf → IsValid shelf r → (IsValid other r → ⊥) → Varies (state_of shelf r)
varies-of_absent shelf other r is_shelf valid absent = elim (cases_of shelf r is_shelf valid) [
  | is_leaf top others asks ↦ absurd (absent (others other))
  | splits track top split asks_to asks_of ↦
      let varies = varies-choice shelf track (low_of shelf r) (high_of shelf r) is_shelf split.low split.high split.differ in
      record {
        one = varies.one;
        other = varies.other;
        differs = λ same. varies.differs (sym (split.states varies.one) ∙ same ∙ split.states varies.other);
      }
]
