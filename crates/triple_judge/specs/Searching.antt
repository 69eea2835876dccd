-- What is known once the first sites of a triple are decided: nothing satisfies their formulas, or a lightest tree does, of the first
-- site that has one as light.
use Rattle.std.specs.Prelude.{◌≡◌, ◌≤◌, ◌<◌, ◌==◌, ℕ, Bool, true, false, List, Option, Some}
use Rattle.gta_theory.specs.Assignments.{Assignment, Covers}
use Rattle.gta_theory.specs.Weights.{weight}
use Rattle.gta_witness.specs.Lightest.{each_once}
use Rattle.ws2s_core.specs.declared.track.Track.{Track}
use Rattle.ws2s_core.specs.declared.formula.Formula.{Formula}
use Rattle.ws2s_core.specs.Satisfaction.{WSat}
use Rattle.ws2s_decide.specs.declared.verdict.Verdict.{Verdict}
use Rattle.ws2s_decide.specs.declared.verdict.Verdict.TheVariants as verdict
use Rattle.ws2s_decide.specs.Deciding.{IsUnsatisfiable, IsLightestModel}
use Rattle.triple_judge.specs.declared.searching.Found.{Found}
use Rattle.triple_judge.specs.declared.searching.Searched.{Searched}
use Rattle.triple_judge.specs.declared.searching.Searched.TheVariants as searched

-- ---- one site

-- no finite sets satisfy the formula of the site with this number, where there is one
abbrev pub IsNowhere : (ℕ → Option Formula) → ℕ → Type 0
IsNowhere formulas site = (f : Formula) → formulas site ≡ Some f → IsUnsatisfiable f

-- the site with this number has a formula, of which this tree is a lightest one
pub record IsLightestOf (formulas : ℕ → Option Formula) (tracks : List Track) (found : Found) : Type 0 where
  pub formula : Formula
  pub there : formulas found.site ≡ Some formula
  pub model : IsLightestModel tracks formula found.tree found.weight

-- the verdict on the formula of the site with this number; nothing satisfies that of a site that isn't there
abbrev pub IsVerdictAt : (ℕ → Option Formula) → List Track → ℕ → Verdict → Type 0
IsVerdictAt formulas tracks site verdict.None = IsNowhere formulas site
IsVerdictAt formulas tracks site (verdict.Witness nodes w) = IsLightestOf formulas tracks (record { site = site; tree = nodes; weight = w })
IsVerdictAt formulas tracks site verdict.TooLarge = Unit {0}
IsVerdictAt formulas tracks site verdict.Limit = Unit {0}

-- ---- the sites before a number

-- the tree is a lightest one of its site; no sets that satisfy the formula of a site before n are lighter, and none that satisfy that
-- of an earlier site than its own are as light
pub record IsLightest (formulas : ℕ → Option Formula) (tracks : List Track) (n : ℕ) (found : Found) : Type 0 where
  pub own : IsLightestOf formulas tracks found
  pub inside : found.site < n
  pub least : (site : ℕ) (f : Formula) (depth : ℕ) (a : Assignment) → site < n → formulas site ≡ Some f → Covers depth a → WSat f a →
      found.weight ≤ weight (each_once tracks) depth a
  pub first : (site : ℕ) (f : Formula) (depth : ℕ) (a : Assignment) → site < found.site → formulas site ≡ Some f → Covers depth a → WSat f a →
      found.weight < weight (each_once tracks) depth a

-- what is known of the sites before n; a limit, and trees that are too large, say nothing of them
abbrev pub IsSearched : (ℕ → Option Formula) → List Track → ℕ → Searched → Type 0
IsSearched formulas tracks n searched.Nothing = (site : ℕ) → site < n → IsNowhere formulas site
IsSearched formulas tracks n (searched.Lightest found) = IsLightest formulas tracks n found
IsSearched formulas tracks n searched.TooLarge = Unit {0}
IsSearched formulas tracks n searched.Limit = Unit {0}

-- no later site changes it: no tree is lighter than one without weight
abbrev pub is_settled : Searched → Bool
is_settled searched.Nothing = false
is_settled (searched.Lightest found) = found.weight == 0
is_settled searched.TooLarge = true
is_settled searched.Limit = true
