-- One number after the other.
use Rattle.std.proofs.Common.{◌≡◌, ◌+◌, Bool, List, length, sym, subst, arith}
use Rattle.gta_classes.proofs.MarksLemmas.{UnmarkedBelow, UnmarkedBelow-none, UnmarkedBelow-next, unmarked-all}
use Rattle.gta_classes.proofs.chosen.unmark_all.Goals as goal

pub loop-number-init : goal.loop-number-init
loop-number-init c = UnmarkedBelow-none c.args.marks.now.items c.args.numbers.now

pub loop-number-preserved : goal.loop-number-preserved
loop-number-preserved c =
    let at = c.loop-number.number-index in
    subst (λ (xs : List Bool). UnmarkedBelow c.args.marks.now.items c.args.numbers.now xs (at + 1)) (sym c.unmark.ensures)
    (UnmarkedBelow-next c.args.marks.now.items c.args.numbers.now c.loop-number.marks.items at c.loop-number.invariant)

pub returns : goal.returns
returns c =
    let numbers = c.args.numbers.now in
    let end : c.loop-number.number-index ≡ length numbers =
    (let t = c.loop-number-test.false in let e = c.loop-number.auto.number-index-end in omega arith) in
    unmarked-all c.args.marks.now.items numbers c.loop-number.marks.items
    (subst (UnmarkedBelow c.args.marks.now.items numbers c.loop-number.marks.items) end c.loop-number.invariant)
