use Rattle.std.proofs.Common.{◌≡◌, ℕ, Some, vec_len}
use Rattle.std.specs.Prelude.{slice_get}
use Rattle.gta_refine.specs.Refined.{part_at}
use Rattle.gta_classes.specs.Cuts.{Covers}
use Rattle.gta_refine.specs.Cuts.{ClassLists}
use Rattle.gta_refine.proofs.cascade.all_lists.Given as goal

abbrev pub invariant-loop-s : goal.invariant-loop-s
invariant-loop-s l = record {
  many : vec_len l.lists ≡ l.s;
  each : (s : ℕ) (one : ClassLists) → slice_get l.lists.items s ≡ Some one → Covers (part_at l.spaces s) one.items;
}
