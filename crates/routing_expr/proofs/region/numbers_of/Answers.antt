use Rattle.std.proofs.Common.{arith, inl, inr, get_or}
use Rattle.std.proofs.lemmas.Option.{slice_get-get_or}
use Rattle.store_core.specs.declared.ids.CellId.{CellId}
use Rattle.routing_expr.proofs.RegionLemmas.{one_step, one_all, Has-insert}
use Rattle.routing_expr.proofs.region.numbers_of.Goals as goal

pub loop-cell-preserved : goal.loop-cell-preserved
loop-cell-preserved c = λ d.
    let cells = c.args.cells.now in
    let index = c.loop-cell.cell-index in
    let cell : CellId = get_or cells index (record { 0 = 0 }) in
    let step = one_step cells index cell (slice_get-get_or cells index (record { 0 = 0 }) c.loop-cell-test.true) d in
    let has = Has-insert c.loop-cell.numbers c.insert.new.self cell d (c.in_ok-insert.ensures.updates.0 d.0) in
    let was = c.loop-cell.invariant d in (
      λ h. step.0 (elim (has.0 h) [ inl old ↦ inl (was.0 old) | inr same ↦ inr same ]),
      λ h. has.1 (elim (step.1 h) [ inl old ↦ inl (was.1 old) | inr same ↦ inr same ]),
    )

pub returns : goal.returns
returns c = λ d.
    let all = one_all c.args.cells.now c.loop-cell.cell-index (omega (arith, c.loop-cell-test.false)) d in
    let was = c.loop-cell.invariant d in
    (λ h. all.0 (was.0 h), λ h. was.1 (all.1 h))
