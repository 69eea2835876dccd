use Rattle.std.proofs.Common.{true, false, Some, sym, ◌∙◌, ap, subst}
use Rattle.bdd_nodes.proofs.SplitLemmas.{is_valid-true}
use Rattle.bdd_walk.proofs.OneRootLemmas.{StepsOne, StepsOne-skip, StepsOne-split}
use Rattle.bdd_walk.proofs.one_root.OneRootWalk.step.Goals as goal
use Rattle.bdd_walk.proofs.one_root.OneRootWalk.step.Goals.{in-Some-true, in-Some-false, in-None}

pub top-requires : goal.top-requires
top-requires c = is_valid-true c.args.shelf.now c.args.root.now c.requires

pub returns : goal.returns
returns c = λ before is_shelf keeps inside.
    let fixed = c.args.self.now.fixed in
    let now = c.args.shelf.now in
    let r = c.args.root.now in
    let top = sym c.in-Some.ensures.value in
    elim c.match-bit_of.branch [
      | in-Some-true w ↦ subst (StepsOne fixed before r) (sym w.result-is)
          (StepsOne-skip fixed before now is_shelf keeps r inside c.in-Some.track top true c.side_of-high.result
          (sym w.in-Some-true.ensures ∙ ap Some w.in-Some-true.field-0-test) c.side_of-high.ensures)
      | in-Some-false w ↦ subst (StepsOne fixed before r) (sym w.result-is)
          (StepsOne-skip fixed before now is_shelf keeps r inside c.in-Some.track top false c.side_of-low.result
          (sym w.in-Some-false.ensures ∙ ap Some w.in-Some-false.field-0-test) c.side_of-low.ensures)
      | in-None w ↦ subst (StepsOne fixed before r) (sym w.result-is)
          (StepsOne-split fixed before now is_shelf keeps r inside c.in-Some.track top c.side_of-low.result
          c.side_of-high.result (sym w.in-None.ensures) c.side_of-low.ensures c.side_of-high.ensures)
    ]
