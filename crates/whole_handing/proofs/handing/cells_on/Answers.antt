use Rattle.std.proofs.Common.{◌<◌, ◌∙◌, filter, get_or, sym, ap, subst, arith}
use Rattle.std.specs.List.{AllByRecursion}
use Rattle.std.proofs.lemmas.List.{take_all}
use Rattle.std.proofs.lemmas.Option.{slice_get-get_or}
use Rattle.store_core.specs.declared.ids.CellId.{CellId}
use Rattle.routing_walks.specs.Regions.{has_number}
use Rattle.whole_handing.proofs.RestrictingLemmas.{no_cell, kept_low, kept_more, kept_same}
use Rattle.whole_handing.proofs.handing.cells_on.Goals as goal
use Rattle.whole_handing.proofs.handing.cells_on.Goals.{then-is_member+in_ok-push, else-is_member}

pub push-requires : goal.push-requires
push-requires c =
    let others = c.args.others.now in
    let test = λ (d : CellId). has_number c.args.cells.now d.0 in
    let cell = get_or others c.loop-cell.cell-index no_cell in
    subst (AllByRecursion (λ (d : CellId). d.0 < cell.0)) (sym c.loop-cell.invariant)
    (kept_low test others c.loop-cell.cell-index cell c.requires.others
    (slice_get-get_or others c.loop-cell.cell-index no_cell c.loop-cell-test.true))

pub loop-cell-preserved : goal.loop-cell-preserved
loop-cell-preserved c =
    let others = c.args.others.now in
    let index = c.loop-cell.cell-index in
    let cell = get_or others index no_cell in
    let test = λ (d : CellId). has_number c.args.cells.now d.0 in
    let here = slice_get-get_or others index no_cell c.loop-cell-test.true in
    elim c.if-is_member.branch [
      | then-is_member+in_ok-push w ↦ w.on-is ∙ w.in_ok-push.ensures.ok
          ∙ kept_more test others c.loop-cell.on index cell here (sym c.is_member.ensures ∙ w.if-is_member.true) c.loop-cell.invariant
      | else-is_member w ↦ w.on-is
          ∙ kept_same test others c.loop-cell.on index cell here (sym c.is_member.ensures ∙ w.if-is_member.false) c.loop-cell.invariant
    ]

pub returns : goal.returns
returns c = c.loop-cell.invariant
    ∙ ap (filter (λ (d : CellId). has_number c.args.cells.now d.0)) (take_all c.loop-cell.cell-index c.args.others.now (omega (arith, c.loop-cell-test.false)))
