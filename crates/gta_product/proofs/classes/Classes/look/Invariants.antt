use Rattle.std.specs.Prelude.{◌≡◌, length}
use Rattle.gta_product.specs.Numbers.{Extends}
use Rattle.gta_product.specs.Classes.{IsKeyed}
use Rattle.gta_product.proofs.classes.Classes.look.Given as goal

abbrev pub invariant-loop-k : goal.invariant-loop-k
invariant-loop-k l = record {
  at : l.k ≡ length l.self.of;
  ones : Extends l.fn.self.ones l.self.ones;
  keyed : IsKeyed l.pairs l.left l.right l.self;
}
