-- The space of the child, as the guide has it.
use Rattle.std.proofs.Common.{◌≡◌, Some, sym, ◌∙◌, subst}
use Rattle.gta_reach.specs.declared.form.FormSpace.{FormSpace}
use Rattle.gta_reach.specs.Form.{guide_of}
use Rattle.gta_reach.specs.Sides.{kinds_in, child_at}
use Rattle.gta_classes.specs.Chosen.{AreChosen}
use Rattle.gta_refine.specs.Refined.{part_at}
use Rattle.gta_refine.proofs.RefineLemmas.{child-inside, child-kinds, child-few, child-chosen}
use Rattle.gta_refine.proofs.rounds.choose_at.Goals as goal

pub choose_of-requires-clause-inside : goal.choose_of-requires-clause-inside
choose_of-requires-clause-inside c =
    child-inside c.args.form.now c.requires.form c.args.spaces.now c.requires.partition c.args.s c.space-space.result.now c.space-space.ensures c.args.side

pub choose_of-requires-clause-many : goal.choose_of-requires-clause-many
choose_of-requires-clause-many c =
    child-kinds c.args.form.now c.requires.form c.args.spaces.now c.requires.partition c.args.s c.space-space.result.now c.space-space.ensures c.args.side

pub choose_of-requires-clause-few : goal.choose_of-requires-clause-few
choose_of-requires-clause-few c =
    child-few c.args.form.now c.requires.form c.args.spaces.now c.requires.partition c.args.s c.space-space.result.now c.space-space.ensures c.args.side

pub returns : goal.returns
returns c = λ other other_at.
    let form = c.args.form.now in
    let spaces = c.args.spaces.now in
    let space = c.space-space.result.now in
    let side = c.args.side in
    let chosen = c.in_ok-chosen.chosen.items in
    let same : Some space ≡ Some other = sym c.space-space.ensures ∙ other_at in
    let is : space ≡ other = cc in
    subst (λ (p : FormSpace). AreChosen (kinds_in p side) (part_at spaces (child_at (guide_of form) side c.args.s)).reached chosen) is
    (child-chosen form c.requires.form spaces c.requires.partition c.args.s space c.space-space.ensures side chosen c.in_ok-chosen.ensures)
