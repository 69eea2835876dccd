use Rattle.std.proofs.Common.{get_or, Contains, refl, sym, ◌∙◌, arith}
use Rattle.std.proofs.lemmas.Bool.{false≢true}
use Rattle.std.proofs.lemmas.Option.{slice_get-get_or}
use Rattle.store_core.specs.declared.ids.CellId.{CellId}
use Rattle.store_core.specs.Stores.{IsLive}
use Rattle.routing_walks.proofs.GatheringLemmas.{Contains-at}
use Rattle.store_sat.proofs.BelowLemmas.{AllBelow-next, AllBelow-all}
use Rattle.store_sat.proofs.atoms.are_covered.Goals as goal

abbrev no_cell : CellId
no_cell = record { 0 = 0 }

pub loop-cell-init : goal.loop-cell-init
loop-cell-init c = λ j v less at. absurd (omega (arith, less))

pub loop-cell-preserved : goal.loop-cell-preserved
loop-cell-preserved c =
    let cells = c.args.cells.now in
    let others = c.args.others.now in
    AllBelow-next (λ d. IsLive c.args.store.now d → Contains others d) cells c.loop-cell.cell-index (get_or cells c.loop-cell.cell-index no_cell)
    (slice_get-get_or cells c.loop-cell.cell-index no_cell c.loop-cell-test.true) c.loop-cell.invariant
    (c.is_covered.ensures.0 c.if-not-is_covered.false)

pub returns-then-not-is_covered : goal.returns-then-not-is_covered
returns-then-not-is_covered c = (
  λ wrong. absurd (false≢true wrong),
  λ all. absurd (false≢true (sym c.if-not-is_covered.true ∙ c.is_covered.ensures.1 (λ live.
      all (get_or c.args.cells.now c.loop-cell.cell-index no_cell) live
      (Contains-at c.args.cells.now c.loop-cell.cell-index (get_or c.args.cells.now c.loop-cell.cell-index no_cell)
      (slice_get-get_or c.args.cells.now c.loop-cell.cell-index no_cell c.loop-cell-test.true))))),
)

pub returns : goal.returns
returns c = (
  λ yes d live m. AllBelow-all (λ e. IsLive c.args.store.now e → Contains c.args.others.now e) c.args.cells.now c.loop-cell.cell-index
      (omega (arith, c.loop-cell-test.false)) c.loop-cell.invariant d m live,
  λ h. refl,
)
