use Rattle.std.proofs.Common.{◌∙◌, ◌++◌, ◌∷◌, [], ◌+◌, Some, ap, sym, subst, arith}
use Rattle.std.proofs.lemmas.Option.{slice_get_within}
use Rattle.std.specs.FinMap.{entries}
use Rattle.store_core.specs.declared.store.CellBody.{CellBody}
use Rattle.store_core.specs.StoreBodies.{cell_entry}
use Rattle.whole_handing.specs.declared.beside.Which.{Which}
use Rattle.whole_handing.specs.Beside.{IsNext}
use Rattle.whole_handing.proofs.Merging.{AreMerged, none_merged, merged_first, merged_second, merged_all}
use Rattle.whole_handing.proofs.beside.all_cells.Goals as goal

pub loop-next-init : goal.loop-next-init
loop-next-init c = subst (AreMerged c.args.one.now c.args.other.now 0 0) (sym c.in_ok-made.ensures.items) (none_merged c.args.one.now c.args.other.now)

pub loop-next-preserved-in-First : goal.loop-next-preserved-in-First
loop-next-preserved-in-First c =
    let s = c.args.one.now in
    let t = c.args.other.now in
    let made = c.loop-next.made.items in
    let body = c.in-First.body.now in
    let next = subst (λ (w : Which). IsNext s t c.loop-next.i c.loop-next.j (Some w)) c.in-First.is c.in-Some.ensures in
    subst (AreMerged s t (c.loop-next.i + 1) c.loop-next.j)
    (sym (c.in_ok-push-in-First.ensures.items ∙ ap (λ (b : CellBody). made ++ b ∷ []) c.in_ok-copy-in-First.ensures))
    (merged_first s t c.requires c.loop-next.i c.loop-next.j made body c.loop-next.invariant next)

pub loop-next-preserved : goal.loop-next-preserved
loop-next-preserved c =
    let s = c.args.one.now in
    let t = c.args.other.now in
    let made = c.loop-next.made.items in
    let body = c.in-Second.body.now in
    let next = subst (λ (w : Which). IsNext s t c.loop-next.i c.loop-next.j (Some w)) c.in-Second.is c.in-Some.ensures in
    subst (AreMerged s t c.loop-next.i (c.loop-next.j + 1))
    (sym (c.in_ok-push-in-Second.ensures.items ∙ ap (λ (b : CellBody). made ++ b ∷ []) c.in_ok-copy-in-Second.ensures))
    (merged_second s t c.requires c.loop-next.i c.loop-next.j made body c.loop-next.invariant next)

-- the place that goes on was within its store
pub loop-next-smaller-in-First : goal.loop-next-smaller-in-First
loop-next-smaller-in-First c =
    let s = c.args.one.now in
    let t = c.args.other.now in
    let next = subst (λ (w : Which). IsNext s t c.loop-next.i c.loop-next.j (Some w)) c.in-First.is c.in-Some.ensures in
    let low = slice_get_within (entries s.cells) c.loop-next.i (cell_entry c.in-First.body.now) next.here in
    omega (arith, low)

pub loop-next-smaller : goal.loop-next-smaller
loop-next-smaller c =
    let s = c.args.one.now in
    let t = c.args.other.now in
    let next = subst (λ (w : Which). IsNext s t c.loop-next.i c.loop-next.j (Some w)) c.in-Second.is c.in-Some.ensures in
    let low = slice_get_within (entries t.cells) c.loop-next.j (cell_entry c.in-Second.body.now) next.here in
    omega (arith, low)

pub returns : goal.returns
returns c = merged_all c.args.one.now c.args.other.now c.requires c.loop-next.i c.loop-next.j c.loop-next.made.items c.loop-next.invariant
    c.in_default.ensures.0 c.in_default.ensures.1
