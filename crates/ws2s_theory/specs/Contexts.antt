-- Deciding in a context: what holds around a formula may be conjoined inside it.
use Rattle.std.specs.Prelude.{◌≡◌, ℕ, ◌≤◌, ◌↔◌, List, [], ◌∷◌, All, Contains}
use Rattle.gta_theory.specs.Assignments.{Assignment, IsFinite, Covers}
use Rattle.gta_theory.specs.Weights.{weight}
use Rattle.ws2s_core.specs.declared.track.Track.{Track}
use Rattle.ws2s_core.specs.declared.formula.Formula.{Formula}
use Rattle.ws2s_core.specs.declared.formula.Formula.TheVariants.{And, Not, Ex2}
use Rattle.ws2s_core.specs.Satisfaction.{WSat}
use Rattle.ws2s_core.specs.Tracks.{IsFree}

-- the assignment satisfies every conjunct of the context
abbrev pub SatisfiesAll : List Formula → Assignment → Type 0
SatisfiesAll context a = All (λ c. WSat c a) context

-- the two formulas agree in every assignment of finite sets that satisfies the context
pub record SameUnder (context : List Formula) (f h : Formula) : Type 0 where
  pub satisfied : (a : Assignment) → IsFinite a → SatisfiesAll context a → WSat f a ↔ WSat h a

-- all free tracks of the conjunct are free in the formula
abbrev pub IsRelevant : Formula → Formula → Type 0
IsRelevant c f = (t : ℕ) → IsFree t c → IsFree t f

-- what is taken from a context: its conjuncts, their halves, and projections of what was taken
pub data Entails (context : List Formula) : Formula → Type 0 where
  member : (c : Formula) → Contains context c → Entails context c
  left_half : (f g : Formula) → Entails context (And f g) → Entails context f
  right_half : (f g : Formula) → Entails context (And f g) → Entails context g
  projected : (t : Track) (f : Formula) → Entails context f → Entails context (Ex2 t f)

-- what is taken from a context and holds under a quantifier of the track t
pub record EntailsUnder (context : List Formula) (t : ℕ) (c : Formula) : Type 0 where
  pub entailed : Entails context c
  pub unbound : IsFree t c → ⊥

-- the conjuncts, and then the formula
abbrev pub conjoined : List Formula → Formula → Formula
conjoined [] f = f
conjoined (c ∷ conjuncts) f = And c (conjoined conjuncts f)

-- how a formula is rewritten in a context. A formula may stay as it is. The right half of a conjunction has the left
-- one in its context. What stands under a quantifier keeps from the context what hasn't the bound track free, and of
-- that some is conjoined under the quantifier. A negation gets some of the context conjoined outside.
pub data Rewrites : List Formula → Formula → Formula → Type 0 where
  stays : (context : List Formula) (f : Formula) → Rewrites context f f
  in_conjunction : (context inner : List Formula) (f g f' g' : Formula) → All (Entails (f ∷ context)) inner →
      Rewrites context f f' → Rewrites inner g g' → Rewrites context (And f g) (And f' g')
  in_negation : (context added : List Formula) (f f' : Formula) → All (Entails context) added →
      Rewrites context f f' → Rewrites context (Not f) (conjoined added (Not f'))
  in_quantifier : (context inner added : List Formula) (t : Track) (f f' : Formula) →
      All (EntailsUnder context t.0) inner → All (Entails inner) added →
      Rewrites inner f f' → Rewrites context (Ex2 t f) (Ex2 t (conjoined added f'))

-- some assignment that satisfies the formula has that weight, and none that satisfies it weighs less
pub record IsLightestOf (tracks : List ℕ) (f : Formula) (w : ℕ) : Type 0 where
  pub assignment : Assignment
  pub depth : ℕ
  pub covers : Covers depth assignment
  pub satisfied : WSat f assignment
  pub is_weight : weight tracks depth assignment ≡ w
  pub least : (n : ℕ) (a : Assignment) → Covers n a → WSat f a → w ≤ weight tracks n a
