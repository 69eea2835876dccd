-- One space more.
use Rattle.std.proofs.Common.{◌≡◌, ◌<◌, ℕ, List, [], length, Some, sym, ◌∙◌, subst, arith}
use Rattle.std.specs.Prelude.{slice_get, slice_index_or}
use Rattle.std.proofs.lemmas.List.{get_or_default}
use Rattle.gta_reach.specs.declared.form.Form.{Form}
use Rattle.gta_classes.specs.declared.part.SpaceClasses.{SpaceClasses}
use Rattle.gta_classes.specs.Classes.{AreClasses}
use Rattle.gta_classes.specs.Cuts.{Covers}
use Rattle.gta_refine.specs.Cuts.{ClassLists}
use Rattle.gta_refine.specs.Refined.{part_at, ArePartition}
use Rattle.gta_reach.proofs.ReachLemmas.{many_spaces}
use Rattle.gta_refine.proofs.CutLemmas.{AllCover-push}
use Rattle.gta_refine.proofs.cascade.all_lists.Goals as goal

-- what is read is the part of the space
part-read : (form : Form) (spaces : List SpaceClasses) (s : ℕ) (part : SpaceClasses) → ArePartition form spaces → s < length form.spaces →
    part ≡ slice_index_or spaces s part → part_at spaces s ≡ part
part-read form spaces s part partition inside is =
    get_or_default spaces s (record { reached = []; classes = []; representatives = [] }) part
    (let m = many_spaces form in let a = partition.all in omega arith) ∙ sym is

pub lists_of-requires : goal.lists_of-requires
lists_of-requires c =
    let form = c.args.form.now in
    let spaces = c.args.spaces.now in
    let s = c.loop-s.s in
    let inside : s < length form.spaces = (let t = c.loop-s-test.true in let e = c.len-s-end.ensures in omega arith) in
    subst (λ (part : SpaceClasses). AreClasses part.reached part.classes part.representatives)
    (part-read form spaces s c.index-spaces-s.result c.requires.partition inside c.index-spaces-s.is)
    (c.requires.partition.classes s (let m = many_spaces form in omega arith))

pub loop-s-preserved : goal.loop-s-preserved
loop-s-preserved c =
    let form = c.args.form.now in
    let spaces = c.args.spaces.now in
    let s = c.loop-s.s in
    let lists = c.loop-s.lists.items in
    let more = c.in_ok-lists_of.field-0 in
    let inside : s < length form.spaces = (let t = c.loop-s-test.true in let e = c.len-s-end.ensures in omega arith) in
    record {
      many = let l = c.in_ok-push.ensures.len in let m = c.loop-s.invariant.many in omega arith;
      each = λ k one there. AllCover-push spaces lists s more (let m = c.loop-s.invariant.many in let o = c.loop-s.lists.ok in omega arith)
          c.loop-s.invariant.each
          (subst (λ (part : SpaceClasses). Covers part more.items)
          (sym (part-read form spaces s c.index-spaces-s.result c.requires.partition inside c.index-spaces-s.is)) c.in_ok-lists_of.ensures)
          k one (subst (λ (xs : List ClassLists). slice_get xs k ≡ Some one) c.in_ok-push.ensures.items there);
    }
