use Rattle.std.proofs.Common.{◌≡◌, ◌++◌, take}
use Rattle.gta_product.proofs.pairing.add_row.Given as goal

abbrev pub invariant-loop-root : goal.invariant-loop-root
invariant-loop-root l = l.roots ≡ l.fn.roots ++ take l.root-index l.row
