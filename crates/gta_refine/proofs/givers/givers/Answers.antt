-- The child states that give states of a class.
use Rattle.std.proofs.Common.{◌≡◌, ℕ, List, map, sym, ◌∙◌, ap, subst, arith}
use Rattle.std.specs.Prelude.{Contains, flat_map, slice_index, ◌↔◌}
use Rattle.bdd_list.specs.declared.listing.ListedNode.{ListedNode}
use Rattle.bdd_list.specs.Listing.{AreOrdered}
use Rattle.gta_classes.specs.declared.part.SpaceClasses.{SpaceClasses}
use Rattle.gta_refine.specs.declared.uses.SideUses.{SideUses}
use Rattle.gta_reach.specs.Sides.{kinds_in}
use Rattle.gta_classes.specs.Lists.{list_at}
use Rattle.gta_refine.specs.Uses.{above_of, side_of}
use Rattle.gta_refine.specs.Givers.{AreClimbed, AreMembers}
use Rattle.gta_refine.specs.Refined.{part_at}
use Rattle.gta_refine.proofs.RefineLemmas.{ordered-nodes}
use Rattle.gta_refine.proofs.GiversLemmas.{member-small, AreGivers-found}
use Rattle.gta_refine.proofs.givers.givers.Goals as goal

pub climb-requires-clause-ordered : goal.climb-requires-clause-ordered
climb-requires-clause-ordered c =
    subst (λ (nodes : List ListedNode). AreOrdered nodes) (sym c.as_slice.ensures)
    (ordered-nodes c.args.form.now c.requires.form c.args.spaces.now c.requires.partition c.args.s c.space-space.result.now c.space-space.ensures)

pub climb-requires-clause-states : goal.climb-requires-clause-states
climb-requires-clause-states c = λ q there.
    let space = c.space-space.result.now in
    let small = member-small c.args.form.now c.requires.form c.args.spaces.now c.requires.partition c.args.s space c.space-space.ensures c.args.class
    c.in_ok-states.states.items
    (subst (λ (part : SpaceClasses). AreMembers part c.args.class c.in_ok-states.states.items) c.part_of.ensures c.in_ok-states.ensures) q
    (subst (λ (xs : List ℕ). Contains xs q) c.deref.ensures.value there) in
    let many = (c.requires.uses space c.space-space.ensures).parents_leaves in
    omega arith

pub returns-clause-givers : goal.returns-clause-givers
returns-clause-givers c =
    let form = c.args.form.now in
    let spaces = c.args.spaces.now in
    let space = c.space-space.result.now in
    let uses = c.args.uses.now in
    let side = c.args.side in
    let states = c.in_ok-states.states.items in
    let list = c.in_ok-list.list.items in
    let owners = c.in_ok-owners.owners.items in
    let once = c.in_ok-once.once.items in
    let members : AreMembers (part_at spaces c.args.s) c.args.class states =
    subst (λ (part : SpaceClasses). AreMembers part c.args.class states) c.part_of.ensures c.in_ok-states.ensures in
    let climbed : AreClimbed space.listing.nodes states list =
    subst (λ (nodes : List ListedNode). AreClimbed nodes states list) c.as_slice.ensures
    (subst (λ (xs : List ℕ). AreClimbed c.as_slice.result.now xs list) c.deref.ensures.value c.in_ok-list.ensures.climbed) in
    let roots : c.deref-3.result.now ≡ flat_map (above_of uses.roots.leaves uses.roots.nodes) list =
    c.deref-3.ensures.value ∙ c.in_ok-roots.ensures ∙ ap (flat_map (above_of uses.roots.leaves uses.roots.nodes)) c.deref-2.ensures.value in
    let owners_are : owners ≡ flat_map (list_at (side_of uses side).owners) (flat_map (above_of uses.roots.leaves uses.roots.nodes) list) =
    c.in_ok-owners.ensures
    ∙ ap (λ (lists : List (List ℕ)). flat_map (list_at lists) c.deref-3.result.now)
    (c.as_slice-2.ensures ∙ ap (λ (u : SideUses). u.owners) c.side-side_uses.ensures)
    ∙ ap (flat_map (list_at (side_of uses side).owners)) roots in
    let same : (number : ℕ) → Contains once number ↔ Contains owners number = λ number.
    subst (λ (xs : List ℕ). Contains once number ↔ Contains xs number) c.deref-4.ensures.value (c.in_ok-once.ensures.once number) in
    let kinds : c.deref-6.result.now ≡ map (slice_index (kinds_in space side)) once =
    c.deref-6.ensures.value ∙ c.in_ok-owner_kinds.ensures
    ∙ ap (λ (ids : List ℕ). map (slice_index ids) c.deref-5.result.now) c.kinds_of-kinds.ensures
    ∙ ap (map (slice_index (kinds_in space side))) c.deref-5.ensures.value in
    AreGivers-found form c.requires.form spaces c.requires.partition c.args.s space c.space-space.ensures c.args.class states members uses
    (c.requires.uses space c.space-space.ensures) side list climbed owners once owners_are same c.in_ok-givers.givers.items
    (c.in_ok-givers.ensures
    ∙ ap (λ (lists : List (List ℕ)). flat_map (list_at lists) c.deref-6.result.now)
    (c.as_slice-3.ensures ∙ ap (λ (u : SideUses). u.likes) c.side-side_uses.ensures)
    ∙ ap (flat_map (list_at (side_of uses side).likes)) kinds)
