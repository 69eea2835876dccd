use Rattle.std.proofs.Common.{◌≡◌, get_or, slice_get, Some, arith}
use Rattle.std.proofs.lemmas.Option.{slice_get-get_or}
use Rattle.witness_store.specs.declared.cells.Found.{Found}
use Rattle.witness_store.proofs.NumbersLemmas.{AreNumbers-next}
use Rattle.witness_store.proofs.cells.numbers_of.Goals as goal

pub loop-cell-preserved : goal.loop-cell-preserved
loop-cell-preserved c =
    let found = c.args.cells.now in
    let i = c.loop-cell.cell-index in
    let no_cell : Found = record { node = 0; variant = record { ty = record { 0 = 0 }; index = 0 } } in
    let f = get_or found i no_cell in
    let at : slice_get found i ≡ Some f = slice_get-get_or found i no_cell c.loop-cell-test.true in
    record {
      next = omega arith;
      numbers = AreNumbers-next found c.args.count i c.loop-cell.next f c.loop-cell.numbers.items at (c.requires.inside i f at) c.loop-cell.invariant.next
          c.loop-cell.invariant.numbers;
    }
