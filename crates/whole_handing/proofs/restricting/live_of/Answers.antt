use Rattle.std.proofs.Common.{◌<◌, ◌∙◌, filter, get_or, is_some, sym, ap, subst, arith}
use Rattle.std.specs.List.{AllByRecursion}
use Rattle.std.proofs.lemmas.List.{take_all}
use Rattle.std.proofs.lemmas.Option.{slice_get-get_or}
use Rattle.store_core.specs.declared.ids.CellId.{CellId}
use Rattle.store_core.specs.Stores.{cell_of}
use Rattle.whole_handing.proofs.RestrictingLemmas.{no_cell, kept_low, kept_more, kept_same, typed_live}
use Rattle.whole_handing.proofs.restricting.live_of.Goals as goal
use Rattle.whole_handing.proofs.restricting.live_of.Goals.{then-is_some+in_ok-push, else-is_some}

pub push-requires : goal.push-requires
push-requires c =
    let cells = c.args.cells.now in
    let test = λ (d : CellId). is_some (cell_of c.args.store.now d) in
    let cell = get_or cells c.loop-cell.cell-index no_cell in
    subst (AllByRecursion (λ (d : CellId). d.0 < cell.0)) (sym c.loop-cell.invariant)
    (kept_low test cells c.loop-cell.cell-index cell c.requires (slice_get-get_or cells c.loop-cell.cell-index no_cell c.loop-cell-test.true))

pub loop-cell-preserved : goal.loop-cell-preserved
loop-cell-preserved c =
    let cells = c.args.cells.now in
    let index = c.loop-cell.cell-index in
    let cell = get_or cells index no_cell in
    let test = λ (d : CellId). is_some (cell_of c.args.store.now d) in
    let here = slice_get-get_or cells index no_cell c.loop-cell-test.true in
    -- whether it is live: that its type is there
    let told = c.is_some.ensures ∙ ap is_some c.type_of.ensures ∙ typed_live _ (cell_of c.args.store.now cell) in
    elim c.if-is_some.branch [
      | then-is_some+in_ok-push w ↦ w.live-is ∙ w.in_ok-push.ensures.ok
          ∙ kept_more test cells c.loop-cell.live index cell here (sym told ∙ w.if-is_some.true) c.loop-cell.invariant
      | else-is_some w ↦ w.live-is ∙ kept_same test cells c.loop-cell.live index cell here (sym told ∙ w.if-is_some.false) c.loop-cell.invariant
    ]

pub returns : goal.returns
returns c = c.loop-cell.invariant
    ∙ ap (filter (λ (d : CellId). is_some (cell_of c.args.store.now d)))
    (take_all c.loop-cell.cell-index c.args.cells.now (omega (arith, c.loop-cell-test.false)))
