use Rattle.std.proofs.Common.{arith}
use Rattle.std.proofs.lemmas.Option.{slice_get-get_or}
use Rattle.store_sat.proofs.PartLemmas.{covered_next, covered_all, IsPart-made}
use Rattle.store_sat.proofs.region_cells.part_of.Goals as goal

pub loop-root-init : goal.loop-root-init
loop-root-init c = λ j v less at there few. absurd (omega (arith, less))

pub loop-root-preserved : goal.loop-root-preserved
loop-root-preserved c = covered_next c.args.store.now c.args.roots.now c.loop-root.root-index c.loop-root.count _ _
    (slice_get-get_or c.args.roots.now c.loop-root.root-index (record { 0 = 0 }) c.loop-root-test.true)
    c.covering-count.ensures.more c.covering-count.ensures.covered c.loop-root.invariant

pub returns : goal.returns
returns c = λ vars table known. IsPart-made c.args.types.now c.in_ok-vars.vars vars c.args.store.now c.args.roots.now c.loop-root.count
    c.in_ok-vars.ensures
    (covered_all c.args.store.now c.args.roots.now c.loop-root.root-index c.loop-root.count (omega (arith, c.loop-root-test.false)) c.loop-root.invariant)
    table known _ c.in_ok-cells.ensures
