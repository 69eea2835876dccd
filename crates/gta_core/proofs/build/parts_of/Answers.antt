use Rattle.std.proofs.Common.{[], ◌∷◌, List, length, sym, ◌∙◌, ap, subst, arith, length-append}
use Rattle.bdd_nodes.specs.declared.node_ref.NodeRef.{NodeRef}
use Rattle.gta_core.specs.declared.part.Part.{Part}
use Rattle.gta_core.specs.Placing.{IsPlaced, ArePlaced}
use Rattle.gta_core.proofs.PlacingLemmas.{ArePlaced-none, ArePlaced-push}
use Rattle.gta_core.proofs.build.parts_of.Goals as goal

pub loop-space-init : goal.loop-space-init
loop-space-init c = (
  ap (λ (ps : List Part). length ps) c.new-parts.ensures,
  subst (λ (ps : List Part). ArePlaced c.args.g.now c.args.spaces.now ps c.args.roots.now) (sym c.new-parts.ensures)
      (subst (λ (rs : List NodeRef). ArePlaced c.args.g.now c.args.spaces.now [] rs) (sym c.requires.none) (ArePlaced-none c.args.g.now c.args.spaces.now)),
)

pub loop-space-preserved : goal.loop-space-preserved
loop-space-preserved c =
    let g = c.args.g.now in
    let spaces = c.args.spaces.now in
    let parts = c.loop-space.parts in
    let part = c.in_ok-part_of.field-0 in
    let new = c.part_of.new.roots in
    let placed = subst (λ k. IsPlaced g spaces new k part) (sym c.loop-space.invariant.0) c.in_ok-part_of.ensures.placed in
    let pushed =
    ArePlaced-push g spaces parts c.loop-space.roots new part c.loop-space.invariant.1 c.in_ok-part_of.ensures.grown placed c.in_ok-part_of.ensures.used in (
      ap (λ (ps : List Part). length ps) c.in_ok-push.ensures.ok ∙ (let n = c.loop-space.invariant.0 in omega (arith, length-append parts (part ∷ []))),
      subst (λ (ps : List Part). ArePlaced g spaces ps new) (sym c.in_ok-push.ensures.ok) pushed,
    )
