-- The lightest finite sets that satisfy a formula. (Knuth 1977: least weights over trees.)
use Rattle.std.specs.Prelude.{◌≤◌, ℕ, List}
use Rattle.gta_theory.specs.Assignments.{Assignment, Covers}
use Rattle.gta_theory.specs.Weights.{weight}
use Rattle.ws2s_core.specs.declared.formula.Formula.{Formula}
use Rattle.ws2s_core.specs.Satisfaction.{WSat}

-- no finite sets satisfy it
abbrev pub HasNoModel : Formula → Type 0
HasNoModel f = (depth : ℕ) (a : Assignment) → Covers depth a → WSat f a → ⊥

-- the sets satisfy it, and none that do have fewer positions on the tracks
pub record IsLightestFor (tracks : List ℕ) (f : Formula) (depth : ℕ) (a : Assignment) : Type 0 where
  pub covers : Covers depth a
  pub satisfies : WSat f a
  pub least : (other : ℕ) (b : Assignment) → Covers other b → WSat f b → weight tracks depth a ≤ weight tracks other b
