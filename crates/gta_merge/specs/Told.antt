-- States of a child that are told apart by a few of their roots.
use Rattle.std.specs.Prelude.{◌≡◌, ℕ, Bool, List, Option, Some, None, nat_eq, ◌&&◌, slice_get}
use Rattle.std.specs.declared.hash.FoldHasher.{FoldHasher}
use Rattle.std.specs.declared.hash.BuildHasherDefault.{BuildHasherDefault}
use Rattle.std.specs.HashMap.{get, HashMap, Updates}
use Rattle.bdd_nodes.specs.declared.node_ref.NodeRef.{NodeRef}

-- the classes by the class before and a root
abbrev pub ByPair : Type 0
ByPair = HashMap (ℕ × NodeRef) ℕ (BuildHasherDefault FoldHasher)

abbrev pub same_pair : ℕ × NodeRef → ℕ × NodeRef → Bool
same_pair a b = nat_eq a.0 b.0 && nat_eq a.1.word b.1.word

-- the class of a pair
abbrev pub class_by : ByPair → ℕ → NodeRef → Option ℕ
class_by found had root = get same_pair found (had, root)

-- the pair has the class, or it gets it
pub data IsPairStep (had : ℕ) (root : NodeRef) (before : ByPair) : ByPair → ℕ → Type 0 where
  had_one : (class : ℕ) → class_by before had root ≡ Some class → IsPairStep had root before before class
  gets_one : (after : ByPair) (class : ℕ) → class_by before had root ≡ None → Updates same_pair before after (had, root) (Some class) →
      IsPairStep had root before after class

module _ (root : ℕ → ℕ → Option NodeRef) where
  -- states of the list that have the same roots have one class
  abbrev pub ShareClasses : List ℕ → List ℕ → Type 0
  ShareClasses states classes = (i j q r : ℕ) → slice_get states i ≡ Some q → slice_get states j ≡ Some r →
      ((x : ℕ) → root q x ≡ root r x) → slice_get classes i ≡ slice_get classes j

  -- states of the list that have the same roots are one
  abbrev pub AreApart : List ℕ → Type 0
  AreApart states = (i j q r : ℕ) → slice_get states i ≡ Some q → slice_get states j ≡ Some r →
      ((x : ℕ) → root q x ≡ root r x) → q ≡ r
