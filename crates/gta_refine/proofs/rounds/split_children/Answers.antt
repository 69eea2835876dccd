-- Both children, or none where both have one row.
use Rattle.std.proofs.Common.{◌<◌, ℕ, List, length, sym, ap, subst, arith}
use Rattle.gta_reach.specs.declared.sides.Side.TheVariants.{Left, Right}
use Rattle.gta_refine.specs.Looked.{AreChosenAt, IsStableFrom}
use Rattle.gta_refine.proofs.ChoicesLemmas.{chosen-at}
use Rattle.gta_refine.proofs.FinerLemmas.{AreFiner-same, both-sides}
use Rattle.gta_refine.proofs.SplitLemmas.{IsStableFrom-single}
use Rattle.gta_refine.proofs.rounds.split_children.Goals as goal

pub choices_of-chosen-requires : goal.choices_of-chosen-requires
choices_of-chosen-requires c = let m = c.requires.choices.many in let s = c.requires.space in omega arith

pub split_sides-requires-clause-left : goal.split_sides-requires-clause-left
split_sides-requires-clause-left c =
    let form = c.args.form.now in
    let old = c.args.spaces.now.items in
    let s = c.args.s in
    let chosen = c.choices_of-chosen.result.now in
    subst (λ (xs : List ℕ). AreChosenAt form old s Left xs) (sym c.as_slice-left.ensures.value)
    (chosen-at form c.requires.form old c.requires.partition s Left chosen.left.items (c.requires.choices.left s chosen c.choices_of-chosen.ensures))

pub split_sides-requires-clause-right : goal.split_sides-requires-clause-right
split_sides-requires-clause-right c =
    let form = c.args.form.now in
    let old = c.args.spaces.now.items in
    let s = c.args.s in
    let chosen = c.choices_of-chosen.result.now in
    subst (λ (xs : List ℕ). AreChosenAt form old s Right xs) (sym c.as_slice-right.ensures.value)
    (chosen-at form c.requires.form old c.requires.partition s Right chosen.right.items (c.requires.choices.right s chosen c.choices_of-chosen.ensures))

pub returns-then-are_single-clause-finer : goal.returns-then-are_single-clause-finer
returns-then-are_single-clause-finer c = AreFiner-same c.args.spaces.now.items

pub returns-then-are_single-clause-stable : goal.returns-then-are_single-clause-stable
returns-then-are_single-clause-stable c =
    let form = c.args.form.now in
    let old = c.args.spaces.now.items in
    let s = c.args.s in
    let chosen = c.choices_of-chosen.result.now in
    let few = c.are_single.ensures.0 c.if-are_single.true in
    let left = chosen-at form c.requires.form old c.requires.partition s Left chosen.left.items
    (c.requires.choices.left s chosen c.choices_of-chosen.ensures) in
    let right = chosen-at form c.requires.form old c.requires.partition s Right chosen.right.items
    (c.requires.choices.right s chosen c.choices_of-chosen.ensures) in
    let left_few : length chosen.left.items < 2 = (let f = few.0 in let e = ap length c.as_slice-left.ensures.value in omega arith) in
    let right_few : length chosen.right.items < 2 = (let f = few.1 in let e = ap length c.as_slice-right.ensures.value in omega arith) in
    both-sides (IsStableFrom form old old s)
    (IsStableFrom-single form old old s c.requires.space Left chosen.left.items left left_few (AreFiner-same old))
    (IsStableFrom-single form old old s c.requires.space Right chosen.right.items right right_few (AreFiner-same old))
