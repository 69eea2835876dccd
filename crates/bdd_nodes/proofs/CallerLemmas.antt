-- What callers of a shelf cite.
use Rattle.std.proofs.Common.{◌≡◌, ◌⊎◌, ◌≤◌, ℕ, suc, true, false, ltb, List, length, Option, sym, ◌∙◌, ap, refl, subst, inl, inr, arith}
use Rattle.std.specs.Prelude.{MatchOption}
use Rattle.std.proofs.lemmas.Bool.Decides.{nat_tests}
use Rattle.std.proofs.lemmas.Bool.{cases_lt}
use Rattle.bdd_nodes.specs.declared.node_ref.NodeRef.{NodeRef}
use Rattle.bdd_nodes.specs.declared.node_ref.Named.{Named}
use Rattle.bdd_nodes.specs.declared.node_ref.Named.TheVariants.{Leaf, Inner}
use Rattle.bdd_nodes.specs.declared.node.Node.{Node}
use Rattle.bdd_nodes.specs.Nodes.{node_of, state_named, first_track, IsNamedIn, AsksNoneBelow}
use Rattle.bdd_nodes.specs.Shelf.{Contents, IsShelf, IsValid, IsSideFor, Has, AsksFrom, state_of, top_of, low_named, high_named}
use Rattle.bdd_nodes.specs.Changes.{Keeps, AddsOnly, SameNodes, is_valid, is_named_in}
use Rattle.bdd_nodes.proofs.RefLemmas.{node_of-injective}
use Rattle.bdd_nodes.proofs.CanonicalLemmas.{equal_named}

-- nothing changes
pub Keeps-refl : (shelf : Contents) → Keeps shelf shelf
Keeps-refl shelf = record {
  valid = λ r valid. valid;
  states = λ r label valid. refl;
  top = λ r valid. refl;
  low = λ r valid. refl;
  high = λ r valid. refl;
  asks = λ r t valid asks. asks;
}

-- one change after the other
pub Keeps-trans : (old middle new : Contents) → Keeps old middle → Keeps middle new → Keeps old new
Keeps-trans old middle new first second = record {
  valid = λ r valid. second.valid r (first.valid r valid);
  states = λ r label valid. second.states r label (first.valid r valid) ∙ first.states r label valid;
  top = λ r valid. second.top r (first.valid r valid) ∙ first.top r valid;
  low = λ r valid. second.low r (first.valid r valid) ∙ first.low r valid;
  high = λ r valid. second.high r (first.valid r valid) ∙ first.high r valid;
  asks = λ r t valid asks. second.asks r t (first.valid r valid) (first.asks r t valid asks);
}

-- a side stays a side
pub IsSideFor-kept : (old new : Contents) (track : ℕ) (r : NodeRef) → Keeps old new → IsSideFor old track r → IsSideFor new track r
IsSideFor-kept old new track r kept side = record {
  valid = kept.valid r side.valid;
  later = kept.asks r (suc track) side.valid side.later;
}

-- what is valid now was valid before, or is the reference that was made
pub AddsOnly-cases : (old new : Contents) (made r : NodeRef) → AddsOnly old new made → IsValid new r → IsValid old r ⊎ (r ≡ made)
unfolding AddsOnly
AddsOnly-cases old new made r only valid = only r valid

is_named_in-cases : (nodes : List Node) (named : Named) → ((is_named_in nodes named ≡ true) × IsNamedIn nodes named)
    ⊎ ((is_named_in nodes named ≡ false) × (IsNamedIn nodes named → ⊥))
is_named_in-cases nodes (Leaf state) = inl (refl, tt)
is_named_in-cases nodes (Inner index) = elim (cases_lt index (length nodes)) [
  | inl within ↦ inl ((let e : ltb index (length nodes) ≡ true = grind (arith, nat_tests) in e), within)
  | inr past ↦ inr ((let e : ltb index (length nodes) ≡ false = grind (arith, nat_tests) in e), λ within. omega arith)
]

-- a reference is valid or isn't
pub is_valid-cases : (shelf : Contents) (r : NodeRef) → ((is_valid shelf r ≡ true) × IsValid shelf r) ⊎ ((is_valid shelf r ≡ false) × (IsValid shelf r → ⊥))
unfolding is_valid
is_valid-cases shelf r = is_named_in-cases shelf.nodes (node_of r)

-- what wasn't valid before stands for a function that nothing stood for
pub Has-before : (old new : Contents) (made : NodeRef) → IsShelf new → Keeps old new → IsValid new made →
    (IsValid old made → ⊥) → Has old (state_of new made) → ⊥
Has-before old new made is_shelf kept valid unknown has =
    let same : has.at ≡ made = node_of-injective has.at made
    (equal_named new.nodes is_shelf.canonical (node_of has.at) (node_of made) (kept.valid has.at has.valid) valid
    (λ label. kept.states has.at label has.valid ∙ has.states label)) in
    unknown (subst (IsValid old) same has.valid)

-- the same nodes keep everything
pub Keeps-same : (old new : Contents) → SameNodes old new → Keeps old new
Keeps-same old new same = record {
  valid = λ r valid. subst (λ (nodes : List Node). IsNamedIn nodes (node_of r)) (sym same.nodes) valid;
  states = λ r label valid. ap (λ (nodes : List Node). state_named nodes (node_of r) label) same.nodes;
  top = λ r valid. ap (λ (nodes : List Node). first_track nodes (node_of r)) same.nodes;
  low = λ r valid. ap (λ (nodes : List Node). low_named nodes r (node_of r)) same.nodes;
  high = λ r valid. ap (λ (nodes : List Node). high_named nodes r (node_of r)) same.nodes;
  asks = λ r t valid asks. subst (λ (nodes : List Node). AsksNoneBelow nodes t (node_of r)) (sym same.nodes) asks;
}

-- the first track tells which tracks are asked, in another shelf too
pub AsksFrom-top : (old new : Contents) (was now : NodeRef) (t : ℕ) → top_of new now ≡ top_of old was → AsksFrom old t was → AsksFrom new t now
AsksFrom-top old new was now t same asks = subst (λ (first : Option ℕ). MatchOption first (Unit {0}) (λ u. t ≤ u)) (sym same) asks
