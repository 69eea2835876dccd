-- A class that is found is one of a space, and so has a list.
use Rattle.std.proofs.Common.{ℕ, Bool, List, arith}
use Rattle.std.proofs.lemmas.Option.{slice_get_within}
use Rattle.bdd_list.specs.declared.listing.Listed.{Listed}
use Rattle.bdd_list.specs.declared.listing.Listed.TheVariants.{Leaf, Inner}
use Rattle.gta_reach.specs.declared.form.Form.{Form}
use Rattle.gta_witness.specs.declared.goal.Goal.{Goal}
use Rattle.gta_witness.specs.declared.goal.Reason.{Reason}
use Rattle.gta_witness.specs.declared.goal.Weight.{Weight}
use Rattle.gta_witness.specs.declared.expand.Lines.{Lines}
use Rattle.gta_witness.specs.Rules.{Rule, initial, row, column, cell, low, high, goal_at}
use Rattle.gta_witness.specs.Searching.{Findings, IsJustified}
use Rattle.gta_witness.specs.Lists.{AreLines, HasLine}

module _ (form : Form) (weighs : ℕ → Bool) (lines : Lines) (are : AreLines form lines) where
  -- what is listed is no class
  line-listed : (s : ℕ) (listed : Listed) → HasLine lines (goal_at s listed)
  line-listed s (Leaf q) = tt
  line-listed s (Inner i) = tt

  line-rule : (premises : List Goal) (cost : Weight → Weight) (goal : Goal) (reason : Reason) → Rule form weighs premises cost goal reason →
      HasLine lines goal
  line-rule _ _ _ _ (initial s space at) = tt
  line-rule _ _ _ _ (row t q class space at at_class) =
      let inside = slice_get_within form.spaces t space at in let many = are.rows in omega arith
  line-rule _ _ _ _ (column t q class space at at_class) =
      let inside = slice_get_within form.spaces t space at in let many = are.columns in omega arith
  line-rule _ _ _ _ (cell s k c at space listed at_space at_cell at_root) = line-listed s listed
  line-rule _ _ _ _ (low s i space node at_space at) = line-listed s node.low
  line-rule _ _ _ _ (high s i space node at_space at) = line-listed s node.high

  pub line-justified : (found : Findings) (goal : Goal) (reason : Reason) (w : Weight) → IsJustified form weighs found goal reason w → HasLine lines goal
  line-justified found goal reason w j = line-rule j.premises j.cost goal reason j.rule
