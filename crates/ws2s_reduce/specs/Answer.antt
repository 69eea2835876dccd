-- What `reduce` answers.
use Rattle.std.specs.Prelude.{◌≡◌, ◌↔◌, ℕ, zero, suc, List, [], ◌∷◌, length}
use Rattle.gta_theory.specs.Assignments.{Assignment}
use Rattle.ws2s_core.specs.Satisfaction.{WSat}
use Rattle.ws2s_core.specs.declared.formula.Formula.{Formula}
use Rattle.ws2s_syntax.specs.Meaning.{Value, Gives, Satisfies}
use Rattle.ws2s_core.specs.declared.track.Track.{Track}
use Rattle.ws2s_syntax.specs.Checked.{Text}
use Rattle.ws2s_reduce.specs.declared.reduction.Reduced.{Reduced}
use Rattle.ws2s_forms.specs.Forms.{track}
use Rattle.ws2s_reduce.specs.Reducing.{holds_of, breaks_of}

-- so many tracks, from this one on
abbrev pub free_from : ℕ → ℕ → List Track
free_from first zero = []
free_from first (suc count) = track first ∷ free_from (suc first) count

-- both formulas of the text, and the tracks of its free variables
pub record IsReduced (text : Text) (reduced : Reduced) : Type 0 where
  pub holds : reduced.holds ≡ holds_of text
  pub breaks : reduced.breaks ≡ breaks_of text
  pub free : reduced.free ≡ free_from 0 (length text.free)

-- the formula is satisfied exactly by the assignments that give each `var1` one position and satisfy the text
abbrev pub MeansText : Text → Formula → Type 0
MeansText text formula = (a : Assignment) → WSat formula a ↔ ((free : List Value) × Gives a text free × Satisfies text free)

-- the formula is satisfied exactly by the assignments that give each `var1` one position and don't satisfy the text
abbrev pub MeansBroken : Text → Formula → Type 0
MeansBroken text formula = (a : Assignment) → WSat formula a ↔ ((free : List Value) × Gives a text free × (¬ Satisfies text free))
