-- The child states on a side.
use Rattle.std.proofs.Common.{◌≡◌, ◌<◌, ◌≤◌, ◌^◌, ℕ, Bool, List, Some, length, sym, ◌∙◌, ap, subst, arith}
use Rattle.std.specs.Prelude.{Contains, nat_lt}
use Rattle.gta_reach.specs.declared.form.FormSpace.{FormSpace}
use Rattle.gta_classes.specs.declared.part.SpaceClasses.{SpaceClasses}
use Rattle.gta_reach.specs.declared.sides.Side.{Side}
use Rattle.gta_refine.specs.declared.uses.SideUses.{SideUses}
use Rattle.gta_reach.specs.Form.{guide_of}
use Rattle.gta_classes.specs.Chosen.{AreChosen}
use Rattle.gta_reach.specs.Sides.{kinds_in, child_of, child_at, opposite}
use Rattle.gta_refine.specs.Uses.{AreOwners, AreLikes, AreSideUses}
use Rattle.gta_refine.specs.Refined.{part_at}
use Rattle.gta_classes.proofs.ListsLemmas.{Contains-among}
use Rattle.gta_refine.proofs.RefineLemmas.{child-inside, child-kinds, child-few, child-is, child-chosen, has_root-at}
use Rattle.gta_refine.proofs.UsesLemmas.{AreSideUses-chosen}
use Rattle.gta_refine.proofs.uses.side_uses.Goals as goal

pub choose_of-requires-clause-inside : goal.choose_of-requires-clause-inside
choose_of-requires-clause-inside c =
    child-inside c.args.form.now c.requires.form c.args.spaces.now c.requires.partition c.args.s c.space-space.result.now c.space-space.ensures c.args.side

pub choose_of-requires-clause-many : goal.choose_of-requires-clause-many
choose_of-requires-clause-many c =
    child-kinds c.args.form.now c.requires.form c.args.spaces.now c.requires.partition c.args.s c.space-space.result.now c.space-space.ensures c.args.side

pub choose_of-requires-clause-few : goal.choose_of-requires-clause-few
choose_of-requires-clause-few c =
    child-few c.args.form.now c.requires.form c.args.spaces.now c.requires.partition c.args.s c.space-space.result.now c.space-space.ensures c.args.side

pub choose_of-requires-2-clause-inside : goal.choose_of-requires-2-clause-inside
choose_of-requires-2-clause-inside c =
    subst (λ (side : Side). child_of c.space-space.result.now side < length c.args.spaces.now) (sym c.other.ensures)
    (child-inside c.args.form.now c.requires.form c.args.spaces.now c.requires.partition c.args.s c.space-space.result.now c.space-space.ensures
    (opposite c.args.side))

pub choose_of-requires-2-clause-many : goal.choose_of-requires-2-clause-many
choose_of-requires-2-clause-many c =
    subst (λ (side : Side). length (part_at c.args.spaces.now (child_of c.space-space.result.now side)).reached
    ≤ length (kinds_in c.space-space.result.now side)) (sym c.other.ensures)
    (child-kinds c.args.form.now c.requires.form c.args.spaces.now c.requires.partition c.args.s c.space-space.result.now c.space-space.ensures
    (opposite c.args.side))

pub choose_of-requires-2-clause-few : goal.choose_of-requires-2-clause-few
choose_of-requires-2-clause-few c =
    subst (λ (side : Side). length (part_at c.args.spaces.now (child_of c.space-space.result.now side)).reached ≤ 2 ^ 31) (sym c.other.ensures)
    (child-few c.args.form.now c.requires.form c.args.spaces.now c.requires.partition c.args.s c.space-space.result.now c.space-space.ensures
    (opposite c.args.side))

pub part_of-requires : goal.part_of-requires
part_of-requires c =
    let i = child-inside c.args.form.now c.requires.form c.args.spaces.now c.requires.partition c.args.s c.space-space.result.now c.space-space.ensures
    c.args.side in
    let e = c.child.ensures in
    omega arith

pub owners_of-requires : goal.owners_of-requires
owners_of-requires c = λ state other state_in other_in.
    let form = c.args.form.now in
    let spaces = c.args.spaces.now in
    let space = c.space-space.result.now in
    let side = c.args.side in
    let own = c.in_ok-own.own.items in
    let beside = c.in_ok-beside.beside.items in
    let chosen = child-chosen form c.requires.form spaces c.requires.partition c.args.s space c.space-space.ensures side own c.in_ok-own.ensures in
    let chosen_beside = child-chosen form c.requires.form spaces c.requires.partition c.args.s space c.space-space.ensures (opposite side) beside
    (subst (λ (k : Side). AreChosen (kinds_in space k) (part_at spaces (child_of space k)).reached beside) c.other.ensures c.in_ok-beside.ensures) in
    has_root-at form c.requires.form spaces c.requires.partition c.args.s space c.space-space.ensures side state other
    (chosen.each state (Contains-among own state (subst (λ (xs : List ℕ). Contains xs state) c.deref.ensures.value state_in)))
    (chosen_beside.each other (Contains-among beside other (subst (λ (xs : List ℕ). Contains xs other) c.deref-2.ensures.value other_in)))

pub likes_of-requires : goal.likes_of-requires
likes_of-requires c =
    let k = child-kinds c.args.form.now c.requires.form c.args.spaces.now c.requires.partition c.args.s c.space-space.result.now c.space-space.ensures
    c.args.side in
    let a = ap length (c.as_slice-reached.ensures ∙ ap (λ (part : SpaceClasses). part.reached) (c.part_of.ensures
    ∙ ap (part_at c.args.spaces.now) c.child.ensures)) in
    let b = ap length c.kinds_of.ensures in
    omega arith

pub returns : goal.returns
returns c = λ other_space other_at.
    let form = c.args.form.now in
    let spaces = c.args.spaces.now in
    let space = c.space-space.result.now in
    let side = c.args.side in
    let own = c.in_ok-own.own.items in
    let beside = c.in_ok-beside.beside.items in
    let owners = c.in_ok-owners_of.field-0 in
    let likes = c.in_ok-likes_of.field-0 in
    let uses : SideUses = record { owners = owners; likes = likes; is_single = nat_lt c.len.result 2 } in
    let chosen = child-chosen form c.requires.form spaces c.requires.partition c.args.s space c.space-space.ensures side own c.in_ok-own.ensures in
    let chosen_beside = child-chosen form c.requires.form spaces c.requires.partition c.args.s space c.space-space.ensures (opposite side) beside
    (subst (λ (k : Side). AreChosen (kinds_in space k) (part_at spaces (child_of space k)).reached beside) c.other.ensures c.in_ok-beside.ensures) in
    let owned : AreOwners space side own beside owners =
    subst (λ (xs : List ℕ). AreOwners space side own xs owners) c.deref-2.ensures.value
    (subst (λ (xs : List ℕ). AreOwners space side xs c.deref-2.result.now owners) c.deref.ensures.value c.in_ok-owners_of.ensures) in
    let marks : c.as_slice-reached.result.now ≡ (part_at spaces (child_at (guide_of form) side c.args.s)).reached =
    c.as_slice-reached.ensures ∙ ap (λ (part : SpaceClasses). part.reached) (c.part_of.ensures ∙ ap (part_at spaces) (c.child.ensures
    ∙ sym (child-is form c.requires.form spaces c.requires.partition c.args.s space c.space-space.ensures side))) in
    let liked : AreLikes (kinds_in space side) (part_at spaces (child_at (guide_of form) side c.args.s)).reached likes =
    subst (λ (xs : List Bool). AreLikes (kinds_in space side) xs likes) marks
    (subst (λ (xs : List ℕ). AreLikes xs c.as_slice-reached.result.now likes) c.kinds_of.ensures c.in_ok-likes_of.ensures) in
    let same : Some space ≡ Some other_space = sym c.space-space.ensures ∙ other_at in
    let is : space ≡ other_space = cc in
    subst (λ (p : FormSpace). AreSideUses form c.args.s p side uses) is
    (AreSideUses-chosen form c.requires.form spaces c.requires.partition c.args.s space c.space-space.ensures side own beside uses
    chosen chosen_beside owned liked)
