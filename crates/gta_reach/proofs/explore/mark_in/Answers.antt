-- The marks of one space.
use Rattle.std.proofs.Common.{◌≡◌, ◌<◌, List, [], Bool, true, length, sym, ◌∙◌, ap, arith}
use Rattle.std.specs.Prelude.{slice_index_or, slice_set}
use Rattle.std.proofs.lemmas.List.{get_or_read, set_past}
use Rattle.gta_reach.specs.Unset.{unset}
use Rattle.gta_reach.proofs.UnsetLemmas.{unset_in-set}
use Rattle.gta_reach.proofs.explore.mark_in.Goals as goal

pub returns-then-s-len-clause-marks : goal.returns-then-s-len-clause-marks
returns-then-s-len-clause-marks c =
    let marks = c.args.marks.now.items in
    let s = c.args.s in
    sym (set_past marks s (slice_set (slice_index_or marks s []) c.args.number true)
    (let t = c.if-s-len.true in let e = c.len.ensures in let o = c.args.marks.now.ok in omega arith))

pub returns-clause-marks : goal.returns-clause-marks
returns-clause-marks c =
    let marks = c.args.marks.now.items in
    let s = c.args.s in
    let inside : s < length marks = (let t = c.if-s-len.false in let e = c.len.ensures in let o = c.args.marks.now.ok in omega arith) in
    let is : c.index_mut.result.now ≡ slice_index_or marks s [] = get_or_read marks s c.index_mut.result.now inside c.index_mut.ensures.value [] in
    ap (slice_set marks s) (c.mark_new.ensures.marks ∙ ap (λ (xs : List Bool). slice_set xs c.args.number true) is)

pub returns-clause-fewer : goal.returns-clause-fewer
returns-clause-fewer c =
    let marks = c.args.marks.now.items in
    let s = c.args.s in
    let inside : s < length marks = (let t = c.if-s-len.false in let e = c.len.ensures in let o = c.args.marks.now.ok in omega arith) in
    let is : c.index_mut.result.now ≡ slice_index_or marks s [] = get_or_read marks s c.index_mut.result.now inside c.index_mut.ensures.value [] in
    let own = ap unset is in
    let others = unset_in-set marks s c.mark_new.new.marks inside in
    let fewer = c.mark_new.ensures.fewer in
    omega arith
