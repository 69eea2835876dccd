-- Networks of constraints: tracks without weight are eliminated one after the other, each from the constraints that have it, and their
-- values are found afterwards, the last one first. (Dechter 1999, Bucket elimination: a unifying framework for reasoning.) Constraints
-- are formulas; a list of them is satisfied where each is.
use Rattle.std.specs.Prelude.{◌≡◌, ℕ, ◌≤◌, ◌↔◌, List, [], ◌∷◌, Contains, map}
use Rattle.gta_theory.specs.Assignments.{Position, PositionSet, Assignment, IsFinite, IsFiniteSet, Covers, replace}
use Rattle.gta_theory.specs.Weights.{weight}
use Rattle.ws2s_core.specs.declared.formula.Formula.{Formula}
use Rattle.ws2s_core.specs.Satisfaction.{WSat}
use Rattle.ws2s_theory.specs.Contexts.{SatisfiesAll}

-- the two assignments have the same sets on those tracks
abbrev pub Agree : (ℕ → Type 0) → Assignment → Assignment → Type 0
Agree on a b = (t : ℕ) (p : Position) → on t → a t p ≡ b t p

-- the constraints depend only on those tracks: what agrees there with what satisfies them satisfies them too
abbrev pub DependOn : (ℕ → Type 0) → List Formula → Type 0
DependOn on fs = (a b : Assignment) → IsFinite a → IsFinite b → Agree on a b → SatisfiesAll fs a → SatisfiesAll fs b

-- the same assignments satisfy both lists
abbrev pub AreSame : List Formula → List Formula → Type 0
AreSame fs rest = (a : Assignment) → IsFinite a → SatisfiesAll fs a ↔ SatisfiesAll rest a

-- the track is eliminated from the constraints by the bucket, and others are left: those are satisfied with any set on the track, and
-- exactly where the bucket is too with some set; what satisfies both satisfies the constraints
pub record IsEliminated (t : ℕ) (bucket : Formula) (fs rest : List Formula) : Type 0 where
  pub satisfies : (a : Assignment) → IsFinite a → SatisfiesAll fs a → SatisfiesAll rest a
  pub has_value : (a : Assignment) → IsFinite a → SatisfiesAll rest a → (set : PositionSet) × IsFiniteSet set × WSat bucket (replace a t set)
  pub completes : (a : Assignment) → IsFinite a → SatisfiesAll rest a → WSat bucket a → SatisfiesAll fs a
  pub unbound : DependOn (λ u. ¬ (u ≡ t)) rest

-- tracks with their buckets, in the order in which they were eliminated; none of them is weighed
abbrev pub AreEliminated : List ℕ → List (ℕ × Formula) → List Formula → List Formula → Type 0
AreEliminated weighed [] fs rest = AreSame fs rest
AreEliminated weighed (one ∷ others) fs rest =
    (between : List Formula) × (¬ Contains weighed one.0) × IsEliminated one.0 one.1 fs between × AreEliminated weighed others between rest

-- the tracks that were eliminated
abbrev pub tracks_of : List (ℕ × Formula) → List ℕ
tracks_of = map (λ one. one.0)

-- nothing satisfies the constraints
abbrev pub HaveNoModel : List Formula → Type 0
HaveNoModel fs = (n : ℕ) (a : Assignment) → Covers n a → SatisfiesAll fs a → ⊥

-- nothing that satisfies the constraints has fewer positions on the tracks
abbrev pub HaveBound : List ℕ → List Formula → ℕ → Type 0
HaveBound weighed fs w = (n : ℕ) (a : Assignment) → Covers n a → SatisfiesAll fs a → w ≤ weight weighed n a
