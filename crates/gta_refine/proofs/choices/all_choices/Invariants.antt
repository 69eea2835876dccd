use Rattle.std.proofs.Common.{◌≡◌, ℕ, Some, vec_len}
use Rattle.std.specs.Prelude.{slice_get}
use Rattle.gta_reach.specs.declared.sides.Side.TheVariants.{Left, Right}
use Rattle.gta_refine.specs.declared.choices.Choices.{Choices}
use Rattle.gta_refine.specs.Choices.{AreChoices}
use Rattle.gta_refine.proofs.choices.all_choices.Given as goal

abbrev pub invariant-loop-s : goal.invariant-loop-s
invariant-loop-s l = record {
  many : vec_len l.all ≡ l.s;
  left : (s : ℕ) (choices : Choices) → slice_get l.all.items s ≡ Some choices → AreChoices l.form s Left choices.left.items;
  right : (s : ℕ) (choices : Choices) → slice_get l.all.items s ≡ Some choices → AreChoices l.form s Right choices.right.items;
}
