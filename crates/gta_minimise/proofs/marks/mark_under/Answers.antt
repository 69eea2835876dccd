-- The roots, and then the sides.
use Rattle.std.proofs.Common.{◌∙◌, List, Bool, sym, subst, arith}
use Rattle.gta_classes.specs.Marks.{IsClear}
use Rattle.gta_classes.proofs.MarksLemmas.{IsClear-replicate}
use Rattle.gta_minimise.proofs.MarksLemmas.{touched-kept, AreUnder-roots}
use Rattle.gta_minimise.proofs.marks.mark_under.Goals as goal

pub returns : goal.returns
returns c =
    let space = c.args.space.now in
    let roots = c.args.roots.now in
    let start = c.in_ok-marks.marks.items in
    let mid = c.mark_roots.new.marks.items in
    let new = c.mark_sides.new.marks.items in
    let e = c.mark_sides.ensures in
    let clear : IsClear start = subst (λ (xs : List Bool). IsClear xs) (sym (c.in_ok-marks.ensures.items_if_clones_equal (λ y h. h))) (IsClear-replicate _) in
    let first = c.mark_roots.ensures in
    record {
      many = e.many ∙ first.many ∙ (let l = c.in_ok-marks.ensures.len in let v = c.in_ok-marks.marks.ok in let n = c.len.ensures in omega arith);
      touched = λ k root there. touched-kept mid new root e.many e.kept (first.touched k root there);
      sides = e.sides;
      under = e.under roots (AreUnder-roots space.listing.nodes roots start mid clear first);
    }
