-- Who uses what in a space.
use Rattle.std.proofs.Common.{◌≡◌, List, Some, length, sym, ◌∙◌, ap, subst}
use Rattle.bdd_list.specs.declared.listing.Listed.{Listed}
use Rattle.bdd_list.specs.declared.listing.ListedNode.{ListedNode}
use Rattle.gta_reach.specs.declared.form.FormSpace.{FormSpace}
use Rattle.gta_classes.specs.declared.part.SpaceClasses.{SpaceClasses}
use Rattle.gta_refine.specs.declared.uses.SpaceUses.{SpaceUses}
use Rattle.gta_reach.specs.Form.{states_of}
use Rattle.gta_refine.specs.Uses.{AreAbove, HasSide, IsRoot, IsUses}
use Rattle.gta_refine.proofs.RefineLemmas.{there-is}
use Rattle.gta_refine.proofs.uses.space_uses.Goals as goal

pub returns : goal.returns
returns c = λ other_space other_at.
    let form = c.args.form.now in
    let space = c.space-space.result.now in
    let parents = c.in_ok-parents_of.field-0 in
    let roots = c.in_ok-roots_of.field-0 in
    let uses : SpaceUses = record { parents = parents; roots = roots; left = c.in_ok-side_uses.field-0; right = c.in_ok-side_uses-2.field-0 } in
    let there = there-is form c.requires.form c.args.spaces.now c.requires.partition c.args.s space c.space-space.ensures in
    let states : c.len-states.result ≡ states_of form c.args.s =
    c.len-states.ensures ∙ ap (λ (part : SpaceClasses). length part.reached) c.part_of.ensures ∙ c.requires.partition.many c.args.s there in
    let nodes : length c.as_slice-nodes.result.now ≡ length space.listing.nodes = ap length c.as_slice-nodes.ensures in
    let same : Some space ≡ Some other_space = sym c.space-space.ensures ∙ other_at in
    let is : space ≡ other_space = cc in
    subst (λ (p : FormSpace). IsUses form c.args.s p uses) is (record {
      parents = subst (λ (xs : List ListedNode). AreAbove (HasSide xs) parents.leaves parents.nodes) c.as_slice-nodes.ensures
          c.in_ok-parents_of.ensures.above;
      parents_leaves = c.in_ok-parents_of.ensures.leaves ∙ states;
      parents_nodes = c.in_ok-parents_of.ensures.nodes ∙ nodes;
      roots = subst (λ (xs : List Listed). AreAbove (IsRoot xs) roots.leaves roots.nodes) c.as_slice.ensures c.in_ok-roots_of.ensures.above;
      roots_leaves = c.in_ok-roots_of.ensures.leaves ∙ states;
      roots_nodes = c.in_ok-roots_of.ensures.nodes ∙ nodes;
      left = c.in_ok-side_uses.ensures space c.space-space.ensures;
      right = c.in_ok-side_uses-2.ensures space c.space-space.ensures;
    })
