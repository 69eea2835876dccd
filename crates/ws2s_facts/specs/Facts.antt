-- What is known of formulas by their numbers: which tracks are free.
use Rattle.std.specs.Prelude.{◌≡◌, ℕ, List, All, nat_eq}
use Rattle.std.specs.Prelude.{Bool}
use Rattle.std.specs.HashSet.{HashSet, contains}
use Rattle.std.specs.declared.hash.BuildHasherDefault.{BuildHasherDefault}
use Rattle.std.specs.declared.hash.FoldHasher.{FoldHasher}
use Rattle.ws2s_core.specs.declared.formula.Formula.{Formula}
use Rattle.ws2s_core.specs.Tracks.{is_free}
use Rattle.ws2s_facts.specs.declared.facts.Fact.{Fact}
use Rattle.ws2s_facts.specs.Conjuncts.{IsThere, formula_of}

-- sets of tracks' numbers
abbrev pub TrackSet : Type 0
TrackSet = HashSet ℕ (BuildHasherDefault FoldHasher)

-- the fact has exactly the free tracks of its formula
pub record IsFact (formulas : List Formula) (fact : Fact) : Type 0 where
  pub there : IsThere formulas fact.id
  pub free : (t : ℕ) → contains nat_eq fact.tracks t ≡ is_free t (formula_of formulas fact.id)

abbrev pub AreFacts : List Formula → List Fact → Type 0
AreFacts formulas facts = All (IsFact formulas) facts

-- wherever the facts hold, the tracks are exactly the free ones
pub record Finds (facts : List Fact) (free : List Formula → ℕ → Bool) (tracks : TrackSet) : Type 0 where
  pub exactly : (formulas : List Formula) → AreFacts formulas facts → (t : ℕ) → contains nat_eq tracks t ≡ free formulas t
