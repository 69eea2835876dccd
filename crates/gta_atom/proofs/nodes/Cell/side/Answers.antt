use Rattle.std.proofs.Common.{◌<◌, arith}
use Rattle.labels.specs.Labels.{IsUnder}
use Rattle.bdd_nodes.specs.Shelf.{choice_of}
use Rattle.gta_atom.specs.Cells.{cell_function, lower_track}
use Rattle.gta_atom.proofs.CellsLemmas.{IsUnder-side, side-first, side-second}
use Rattle.gta_room.proofs.ProgressLemmas.{Adds-make, IsStuck-make}
use Rattle.gta_atom.proofs.nodes.Cell.side.Goals as goal

pub returns-then-self-clause-side : goal.returns-then-self-clause-side
returns-then-self-clause-side c = c.end.ensures.side c.args.shelf.now (lower_track c.args.self)

pub make-requires-clause-low : goal.make-requires-clause-low
make-requires-clause-low c = c.end-low.ensures.side c.args.shelf.now c.args.self.second

pub make-requires-clause-high : goal.make-requires-clause-high
make-requires-clause-high c = c.end-high.ensures.side c.args.shelf.now c.args.self.second

pub make-requires-2-clause-low : goal.make-requires-2-clause-low
make-requires-2-clause-low c = c.end-low-2.ensures.side c.args.shelf.now c.args.self.first

pub make-requires-2-clause-high : goal.make-requires-2-clause-high
make-requires-2-clause-high c = c.end-high-2.ensures.side c.args.shelf.now c.args.self.first

pub returns-then-self-2-clause-adds : goal.returns-then-self-2-clause-adds
returns-then-self-2-clause-adds c =
    let cell = c.args.self in
    let old = c.args.shelf.now in
    let low = c.end-low.result in
    let high = c.end-high.result in
    let m = c.make.ensures in
    Adds-make (IsUnder (cell_function cell)) old c.make.new.self cell.second low high c.make.result c.requires
    (IsUnder-side cell c.args.bit (choice_of old cell.second low high)
    (side-first cell old c.args.bit low high c.if-self-2.true c.end-low.ensures c.end-high.ensures))
    m.value m.valid m.kept m.only m.count m.limit m.tables m.shelf m.err

pub returns-then-self-2-clause-stuck : goal.returns-then-self-2-clause-stuck
returns-then-self-2-clause-stuck c =
    let cell = c.args.self in
    let old = c.args.shelf.now in
    let low = c.end-low.result in
    let high = c.end-high.result in
    let m = c.make.ensures in
    IsStuck-make (IsUnder (cell_function cell)) old c.make.new.self cell.second low high c.make.result c.requires
    (IsUnder-side cell c.args.bit (choice_of old cell.second low high)
    (side-first cell old c.args.bit low high c.if-self-2.true c.end-low.ensures c.end-high.ensures))
    m.value m.valid m.kept m.only m.count m.limit m.tables m.shelf m.err
    (c.end-low.ensures.side old cell.second) (c.end-high.ensures.side old cell.second) m.full

pub returns-clause-adds : goal.returns-clause-adds
returns-clause-adds c =
    let cell = c.args.self in
    let old = c.args.shelf.now in
    let low = c.end-low-2.result in
    let high = c.end-high-2.result in
    let m = c.make-2.ensures in
    let later : cell.second < cell.first = (let a = c.if-self.false in let b = c.if-self-2.false in omega arith) in
    Adds-make (IsUnder (cell_function cell)) old c.make-2.new.self cell.first low high c.make-2.result c.requires
    (IsUnder-side cell c.args.bit (choice_of old cell.first low high)
    (side-second cell old c.args.bit low high later c.end-low-2.ensures c.end-high-2.ensures))
    m.value m.valid m.kept m.only m.count m.limit m.tables m.shelf m.err

pub returns-clause-stuck : goal.returns-clause-stuck
returns-clause-stuck c =
    let cell = c.args.self in
    let old = c.args.shelf.now in
    let low = c.end-low-2.result in
    let high = c.end-high-2.result in
    let m = c.make-2.ensures in
    let later : cell.second < cell.first = (let a = c.if-self.false in let b = c.if-self-2.false in omega arith) in
    IsStuck-make (IsUnder (cell_function cell)) old c.make-2.new.self cell.first low high c.make-2.result c.requires
    (IsUnder-side cell c.args.bit (choice_of old cell.first low high)
    (side-second cell old c.args.bit low high later c.end-low-2.ensures c.end-high-2.ensures))
    m.value m.valid m.kept m.only m.count m.limit m.tables m.shelf m.err
    (c.end-low-2.ensures.side old cell.first) (c.end-high-2.ensures.side old cell.first) m.full
