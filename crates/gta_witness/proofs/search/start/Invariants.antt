use Rattle.std.proofs.Common.{◌≡◌, ◌<◌, ℕ, Some, slice_get}
use Rattle.gta_reach.specs.declared.form.FormSpace.{FormSpace}
use Rattle.gta_witness.specs.declared.goal.Goal.{Goal}
use Rattle.gta_witness.specs.declared.goal.Goal.TheVariants.{State}
use Rattle.gta_witness.specs.declared.goal.Weight.{Weight}
use Rattle.gta_witness.specs.Rules.{nothing}
use Rattle.gta_witness.specs.Searching.{found_by, weighs_in, IsSearch, IsCovered, IsSettled}
use Rattle.gta_witness.proofs.search.start.Given as goal

abbrev pub invariant-loop-s : goal.invariant-loop-s
invariant-loop-s l = record {
  is_search : IsSearch l.form (weighs_in l.weighed) 0 l.search;
  initial : (k : ℕ) (space : FormSpace) → k < l.s → slice_get l.form.spaces k ≡ Some space → IsCovered (found_by l.search) (State k space.initial) nothing;
  none : (goal : Goal) (w : Weight) → IsSettled (found_by l.search) goal w → ⊥;
}
