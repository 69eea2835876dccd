-- Refinement has come to an end.
use Rattle.std.proofs.Common.{ℕ, List, sym, subst, arith}
use Rattle.gta_classes.specs.declared.part.SpaceClasses.{SpaceClasses}
use Rattle.gta_reach.specs.declared.sides.Side.TheVariants.{Left, Right}
use Rattle.gta_refine.specs.Refined.{IsRefined}
use Rattle.gta_refine.specs.Looked.{AreLooked}
use Rattle.gta_refine.proofs.RefineLemmas.{IsRefined-stable}
use Rattle.gta_refine.proofs.FinerLemmas.{AreLooked-ones}
use Rattle.gta_refine.proofs.rounds.refine.Goals as goal

pub refine_fully-requires-clause-looked : goal.refine_fully-requires-clause-looked
refine_fully-requires-clause-looked c =
    let form = c.args.form.now in
    let spaces = c.in_ok-spaces.spaces.items in
    let partition = c.in_ok-spaces.ensures in
    let many = c.len.result in
    subst (λ (xs : List ℕ). AreLooked form spaces xs) (sym (c.in_ok-looked.ensures.items_if_clones_equal (λ y h. h)))
    (AreLooked-ones form spaces c.requires partition many
    (let l = c.len.ensures in let a = partition.all in let v = c.in_ok-spaces.spaces.ok in omega arith))

pub returns : goal.returns
returns c =
    let e = c.in_ok-refine_fully.ensures in
    subst (λ (xs : List SpaceClasses). IsRefined c.args.form.now xs) (sym c.from_vec.ensures)
    (IsRefined-stable c.args.form.now c.refine_fully.new.spaces.items c.requires e.partition (λ s inside. e.stable s Left inside)
    (λ s inside. e.stable s Right inside))
