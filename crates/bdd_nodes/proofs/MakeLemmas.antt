-- What `make` finds or adds.
use Rattle.std.proofs.Common.{◌≡◌, ◌≢◌, ◌⊎◌, ℕ, suc, ◌+◌, ◌<◌, ◌≤◌, Bool, true, false, List, [], ◌∷◌, length, ltb, if◌then◌else◌}
use Rattle.std.proofs.Common.{sym, ◌∙◌, ap, refl, subst, inl, inr, arith}
use Rattle.std.proofs.lemmas.Bool.{cases_lt}
use Rattle.std.proofs.lemmas.Bool.Decides.{nat_tests}
use Rattle.bdd_nodes.specs.declared.node_ref.NodeRef.{NodeRef}
use Rattle.bdd_nodes.specs.declared.node_ref.Named.{Named}
use Rattle.bdd_nodes.specs.declared.node_ref.Named.TheVariants.{Leaf, Inner}
use Rattle.bdd_nodes.specs.declared.node.Node.{Node}
use Rattle.labels.specs.Labels.{Label}
use Rattle.bdd_nodes.specs.Nodes.{node_of, node_at, state_named, IsNamedIn, AsksNoneBelow, IsSide}
use Rattle.bdd_nodes.specs.Shelf.{Contents, IsShelf, IsValid, IsSideFor, Has, AsksFrom, count_of, limit_of, state_of, choice_of, low_named, high_named}
use Rattle.bdd_nodes.specs.Changes.{Keeps, AddsOnly, is_valid, is_named_in}
use Rattle.bdd_nodes.proofs.RefLemmas.{node_of-injective}
use Rattle.bdd_nodes.proofs.NodesLemmas.{state_named-inner, state_named-append}
use Rattle.bdd_nodes.proofs.CanonicalLemmas.{rank-IsNamedIn}
use Rattle.bdd_nodes.proofs.GrowLemmas.{grown, length-grown, node_at-grown, node_at-last, IsNamedIn-grown, first_track-grown}
use Rattle.bdd_nodes.proofs.GrowLemmas.{AsksNoneBelow-grown, AreCanonical-grown, state_named-last, none_stood}

is_named_in-valid : (nodes : List Node) (named : Named) → IsNamedIn nodes named → is_named_in nodes named ≡ true
is_named_in-valid nodes (Leaf state) valid = refl
is_named_in-valid nodes (Inner index) valid = grind (arith, nat_tests)

-- a valid reference needs no node more
pub count-valid : (shelf : Contents) (r : NodeRef) → IsValid shelf r → count_of shelf ≡ (if is_valid shelf r then count_of shelf else count_of shelf + 1)
unfolding is_valid
count-valid shelf r valid =
    sym (ap (λ (b : Bool). if b then count_of shelf else count_of shelf + 1) (is_named_in-valid shelf.nodes (node_of r) valid))

pub AddsOnly-valid : (shelf : Contents) (r : NodeRef) → AddsOnly shelf shelf r
unfolding AddsOnly
AddsOnly-valid shelf r = λ other valid. inl valid

-- an index's reference is valid, and stands for the choice of the node there
module _ (shelf : Contents) (is_shelf : IsShelf shelf) (made : NodeRef) (index : ℕ) (named : node_of made
    ≡ Inner index) (within : index < length shelf.nodes) where
  pub valid-index : IsValid shelf made
  valid-index = subst (IsNamedIn shelf.nodes) (sym named) (let w : index < length shelf.nodes = within in w)

  pub states-index : (n : Node) → node_at shelf.nodes index ≡ n → (label : Label) → state_of shelf made label ≡ choice_of shelf n.track n.low n.high label
  states-index n e label =
      ap (λ (m : Named). state_named shelf.nodes m label) named
      ∙ state_named-inner shelf.nodes index label within (is_shelf.canonical.low index within).before (is_shelf.canonical.high index within).before
      ∙ ap (λ (m : Node). choice_of shelf m.track m.low m.high label) e

  pub Has-index : (n : Node) → node_at shelf.nodes index ≡ n → Has shelf (choice_of shelf n.track n.low n.high)
  Has-index n e = record { at = made; valid = valid-index; states = states-index n e }

-- a node with two different sides that isn't there
module _ (shelf : Contents) (is_shelf : IsShelf shelf) (n : Node) (low : IsSideFor shelf n.track n.low)
    (high : IsSideFor shelf n.track n.high) (differ : n.low ≢ n.high) (absent : (i : ℕ) → i < length shelf.nodes →
    node_at shelf.nodes i ≢ n) where
  low_side : IsSide shelf.nodes (length shelf.nodes) n.track n.low
  low_side = record { before = rank-IsNamedIn shelf.nodes _ low.valid; later = low.later }

  high_side : IsSide shelf.nodes (length shelf.nodes) n.track n.high
  high_side = record { before = rank-IsNamedIn shelf.nodes _ high.valid; later = high.later }

  -- nothing stands for its function
  pub Has-absent : Has shelf (choice_of shelf n.track n.low n.high) → ⊥
  Has-absent has = none_stood shelf.nodes is_shelf.canonical n low_side high_side differ absent (node_of has.at) has.valid has.states

  abbrev pub with_node : Contents
  with_node = record { nodes = grown shelf.nodes n; limit = shelf.limit; roots = shelf.roots }

  -- the shelf with it is one
  pub IsShelf-with_node : count_of shelf < limit_of shelf → IsShelf with_node
  IsShelf-with_node room = record {
    canonical = AreCanonical-grown shelf.nodes is_shelf.canonical n low_side high_side differ absent;
    within = let l = length-grown shelf.nodes n in omega arith;
    some = is_shelf.some;
    small = is_shelf.small;
    numbered = is_shelf.numbered;
    roots = λ number index root registered. IsNamedIn-grown shelf.nodes n _ (is_shelf.roots number index root registered);
  }

  low_named-grown : (r : NodeRef) (named : Named) → IsNamedIn shelf.nodes named → low_named (grown shelf.nodes n) r named ≡ low_named shelf.nodes r named
  low_named-grown r (Leaf state) valid = refl
  low_named-grown r (Inner index) valid = ap (λ (m : Node). m.low) (node_at-grown shelf.nodes n index valid)

  high_named-grown : (r : NodeRef) (named : Named) → IsNamedIn shelf.nodes named → high_named (grown shelf.nodes n) r named ≡ high_named shelf.nodes r named
  high_named-grown r (Leaf state) valid = refl
  high_named-grown r (Inner index) valid = ap (λ (m : Node). m.high) (node_at-grown shelf.nodes n index valid)

  -- and keeps what was there
  pub Keeps-with_node : Keeps shelf with_node
  Keeps-with_node = record {
    valid = λ r valid. IsNamedIn-grown shelf.nodes n _ valid;
    states = λ r label valid. state_named-append shelf.nodes (n ∷ []) (node_of r) label (rank-IsNamedIn shelf.nodes _ valid);
    top = λ r valid. first_track-grown shelf.nodes n (node_of r) valid;
    low = λ r valid. low_named-grown r (node_of r) valid;
    high = λ r valid. high_named-grown r (node_of r) valid;
    asks = λ r t valid asks. AsksNoneBelow-grown shelf.nodes n t (node_of r) valid asks;
  }

  module _ (made : NodeRef) (named : node_of made ≡ Inner (length shelf.nodes)) where
    pub valid-made : IsValid with_node made
    valid-made = subst (IsNamedIn (grown shelf.nodes n)) (sym named)
        (let f : length shelf.nodes < length (grown shelf.nodes n) = (let l = length-grown shelf.nodes n in
        omega arith) in f)

    pub states-made : (label : Label) → state_of with_node made label ≡ choice_of shelf n.track n.low n.high label
    states-made label = ap (λ (m : Named). state_named (grown shelf.nodes n) m label) named
        ∙ state_named-last shelf.nodes is_shelf.canonical n low_side high_side differ absent label

    pub later-made : AsksFrom with_node n.track made
    later-made = subst (AsksNoneBelow (grown shelf.nodes n) n.track) (sym named)
        (subst (λ (m : Node). n.track ≤ m.track) (sym (node_at-last shelf.nodes n)) (let f : n.track ≤ n.track = omega arith in f))

    only_made : (r : NodeRef) (m : Named) → node_of r ≡ m → IsNamedIn (grown shelf.nodes n) m → IsNamedIn shelf.nodes m ⊎ (r ≡ made)
    only_made r (Leaf state) e valid = inl tt
    only_made r (Inner index) e valid = elim (cases_lt index (length shelf.nodes)) [
      | inl before ↦ inl before
      | inr not_before ↦ inr (node_of-injective r made (e ∙ ap Inner (let l = length-grown shelf.nodes n in omega arith) ∙ sym named))
    ]

    pub AddsOnly-made : AddsOnly shelf with_node made
    unfolding AddsOnly
    AddsOnly-made = λ r valid. only_made r (node_of r) refl valid

    pub count-made : count_of with_node ≡ (if is_valid shelf made then count_of shelf else count_of shelf + 1)
    unfolding is_valid
    count-made =
        length-grown shelf.nodes n ∙ (let e : suc (length shelf.nodes) ≡ length shelf.nodes + 1 = omega arith in e)
        ∙ sym (ap (λ (b : Bool). if b then count_of shelf else count_of shelf + 1)
        (ap (is_named_in shelf.nodes) named ∙ (let e : ltb (length shelf.nodes) (length shelf.nodes) ≡ false = grind (arith, nat_tests) in e)))
