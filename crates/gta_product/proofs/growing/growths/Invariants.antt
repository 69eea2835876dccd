use Rattle.std.specs.Prelude.{◌≡◌, length, Some, slice_get}
use Rattle.std.proofs.Common.{ℕ}
use Rattle.gta_product.specs.declared.growing.Growth.{Growth}
use Rattle.gta_product.specs.Growing.{IsNew}
use Rattle.gta_product.proofs.growing.growths.Given as goal

abbrev pub invariant-loop-space : goal.invariant-loop-space
invariant-loop-space l = record {
  many : length l.growths.items ≡ l.space;
  none : (s : ℕ) (growth : Growth) → slice_get l.growths.items s ≡ Some growth → IsNew growth;
}
