-- What comes by the rules from nothing.
use Rattle.std.specs.Prelude.{◌≡◌, List, [], ◌∷◌, ℕ, Bool}
use Rattle.gta_reach.specs.declared.form.Form.{Form}
use Rattle.gta_witness.specs.declared.goal.Goal.{Goal}
use Rattle.gta_witness.specs.declared.goal.Reason.{Reason}
use Rattle.gta_witness.specs.declared.goal.Weight.{Weight}
use Rattle.gta_witness.specs.Rules.{Rule, nothing, together}

-- each of the goals comes by a rule from goals that come so, and they weigh so much together
pub data Derives (form : Form) (weighs : ℕ → Bool) : List Goal → Weight → Type 0 where
  no_goals : Derives form weighs [] nothing
  by_rule : (premises goals : List Goal) (cost : Weight → Weight) (goal : Goal) (reason : Reason) (total v : Weight) →
      Rule form weighs premises cost goal reason → Derives form weighs premises total → Derives form weighs goals v →
      Derives form weighs (goal ∷ goals) (together (cost total) v)

-- the goal comes by a rule, at that weight
pub record IsDerived (form : Form) (weighs : ℕ → Bool) (goal : Goal) (w : Weight) : Type 0 where
  pub premises : List Goal
  pub cost : Weight → Weight
  pub reason : Reason
  pub total : Weight
  pub rule : Rule form weighs premises cost goal reason
  pub derives : Derives form weighs premises total
  pub weighs_so : cost total ≡ w
