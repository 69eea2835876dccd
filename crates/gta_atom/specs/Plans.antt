-- How the automaton of an atom is made: its form, its tracks, and whether they are one, so that it holds always or never.
use Rattle.std.specs.Prelude.{◌≡◌, ◌≢◌, ℕ, Bool, true, false, ◌==◌, if◌then◌else◌}
use Rattle.ws2s_core.specs.declared.track.Track.{Track}
use Rattle.ws2s_core.specs.declared.formula.Formula.{Formula}
use Rattle.ws2s_core.specs.declared.formula.Formula.TheVariants as formula
use Rattle.ws2s_theory.specs.Merging.{is_below}
use Rattle.gta_atom.specs.declared.known.Form.{Form}
use Rattle.gta_atom.specs.declared.known.Form.TheVariants.{Sub, Single, Root, Succ0, Succ1}
use Rattle.gta_atom.specs.declared.kept.Kept.{Kept}
use Rattle.gta_atom.specs.declared.plan.Plan.{Plan}
use Rattle.gta_atom.specs.States.{keeps_none, kept_of}

abbrev pub plan : Form → Track → Track → Bool → Plan
plan form x y constant = record { form = form; first = x.0; second = y.0; constant = constant }

-- the plan is that of the atom
pub data IsPlanOf : Plan → Formula → Type 0 where
  sub : (x y : Track) → y.0 ≢ x.0 → IsPlanOf (plan Sub x y false) (formula.Sub x y)
  sub_same : (x y : Track) → y.0 ≡ x.0 → IsPlanOf (plan Sub x y true) (formula.Sub x y)
  single : (x : Track) → IsPlanOf (plan Single x x false) (formula.Single x)
  succ0 : (x y : Track) → y.0 ≢ x.0 → IsPlanOf (plan Succ0 x y false) (formula.Succ0 x y)
  succ0_same : (x y : Track) → y.0 ≡ x.0 → IsPlanOf (plan Succ0 x y true) (formula.Succ0 x y)
  succ1 : (x y : Track) → y.0 ≢ x.0 → IsPlanOf (plan Succ1 x y false) (formula.Succ1 x y)
  succ1_same : (x y : Track) → y.0 ≡ x.0 → IsPlanOf (plan Succ1 x y true) (formula.Succ1 x y)
  root : (x : Track) → IsPlanOf (plan Root x x false) (formula.Root x)

-- the letter by which the child of a successor is reached
abbrev pub letter_of : Form → Bool
letter_of Sub = false
letter_of Single = false
letter_of Root = false
letter_of Succ0 = false
letter_of Succ1 = true

-- the states that a space keeps, with a test of children
abbrev pub kept_in : Plan → (Bool → ℕ → Bool) → ℕ → Kept
kept_in plan is_child s =
    if plan.constant then keeps_none
    else kept_of plan.form (is_below is_child s) (is_child (letter_of plan.form) s) (s == 0)
