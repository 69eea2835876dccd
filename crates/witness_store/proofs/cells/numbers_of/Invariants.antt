use Rattle.std.proofs.Common.{◌≡◌, suc, take}
use Rattle.witness_store.specs.Finding.{AreNumbers}
use Rattle.witness_store.proofs.cells.numbers_of.Given as goal

-- the cells so far have their numbers
abbrev pub invariant-loop-cell : goal.invariant-loop-cell
invariant-loop-cell l = record { next : l.next ≡ suc l.cell-index; numbers : AreNumbers (take l.cell-index l.cells) l.count l.numbers.items }
