use Rattle.std.proofs.Common.{◌+◌, get_or, sym, subst, ◌∙◌, arith}
use Rattle.std.proofs.lemmas.Bool.{false≢true}
use Rattle.std.proofs.lemmas.Option.{slice_get-get_or}
use Rattle.store_core.specs.declared.ids.CellId.{CellId}
use Rattle.witness_store.proofs.FindingLemmas.{AmongFirst, OneAtMost, only_skip, only_take, only_two, only_end, nothing_yet}
use Rattle.witness_store.proofs.finding.only_of_type.Goals as goal
use Rattle.witness_store.proofs.finding.only_of_type.Goals.{then-is_of_type+else-is_some, else-is_of_type}

abbrev no_cell : CellId
no_cell = record { 0 = 0 }

pub returns-then-is_some : goal.returns-then-is_some
returns-then-is_some c =
    let cells = c.args.cells.now in
    let i = c.loop-cell.cell-index in
    only_two c.args.store.now c.args.target cells c.requires i (get_or cells i no_cell) c.loop-cell.only (sym c.is_some.ensures ∙ c.if-is_some.true)
    (slice_get-get_or cells i no_cell c.loop-cell-test.true) (c.is_of_type.ensures.0 c.if-is_of_type.true) c.loop-cell.invariant

pub loop-cell-preserved : goal.loop-cell-preserved
loop-cell-preserved c =
    let cells = c.args.cells.now in
    let s = c.args.store.now in
    let target = c.args.target in
    let i = c.loop-cell.cell-index in
    let here = get_or cells i no_cell in
    let at = slice_get-get_or cells i no_cell c.loop-cell-test.true in
    elim c.if-is_of_type.branch [
      | then-is_of_type+else-is_some w ↦
          subst (OneAtMost (AmongFirst s target cells (i + 1))) (sym w.only-is)
          (only_take s target cells i here at (c.is_of_type.ensures.0 w.if-is_of_type.true)
          (nothing_yet (AmongFirst s target cells i) c.loop-cell.only (sym w.is_some.ensures ∙ w.if-is_some.false) c.loop-cell.invariant))
      | else-is_of_type w ↦
          subst (OneAtMost (AmongFirst s target cells (i + 1))) (sym w.only-is)
          (only_skip s target cells i here c.loop-cell.only at (λ h. false≢true (sym w.if-is_of_type.false ∙ c.is_of_type.ensures.1 h)) c.loop-cell.invariant)
    ]

pub returns : goal.returns
returns c = only_end c.args.store.now c.args.target c.args.cells.now c.loop-cell.cell-index c.loop-cell.only (omega (arith, c.loop-cell-test.false))
    c.loop-cell.invariant
