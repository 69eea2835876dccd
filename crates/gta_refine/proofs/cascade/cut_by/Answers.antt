-- The states that are listed give states of the class.
use Rattle.std.proofs.Common.{◌≡◌, ◌<◌, ℕ, List, length, Some, sym, ◌∙◌, ap, subst, arith}
use Rattle.std.specs.Prelude.{Contains, slice_get, true}
use Rattle.std.proofs.lemmas.Option.{slice_get-get_or}
use Rattle.gta_classes.specs.declared.part.SpaceClasses.{SpaceClasses}
use Rattle.gta_classes.specs.Classes.{AreClasses}
use Rattle.gta_classes.specs.Cuts.{Covers}
use Rattle.gta_refine.specs.Cuts.{ClassLists, IsCutAt}
use Rattle.gta_refine.specs.Givers.{AreGivers}
use Rattle.gta_refine.specs.Refined.{part_at, is_reached_in}
use Rattle.gta_reach.specs.Sides.{child_of}
use Rattle.gta_reach.proofs.ReachLemmas.{many_spaces}
use Rattle.gta_refine.proofs.RefineLemmas.{child-inside, child-classes}
use Rattle.gta_refine.proofs.CutLemmas.{listed-reached, ArePartition-cut_at, AreFiner-cut_at, room-cut_at}
use Rattle.gta_classes.specs.Marks.{AreZero}
use Rattle.gta_refine.proofs.cascade.cut_by.Goals as goal

pub givers-requires-clause-uses : goal.givers-requires-clause-uses
givers-requires-clause-uses c = λ space at. c.requires.uses.each c.args.s space c.uses_at-uses.result.now at c.uses_at-uses.ensures

pub givers-requires-clause-covers : goal.givers-requires-clause-covers
givers-requires-clause-covers c =
    let lists = c.args.lists.now.items in
    let one = c.index.result.now in
    let inside : c.args.s < length lists =
    (let m = many_spaces c.args.form.now in let a = c.requires.partition.all in let k = c.requires.covers.many in let s = c.requires.space in omega arith) in
    let at : slice_get lists c.args.s ≡ Some one = slice_get-get_or lists c.args.s one inside ∙ ap (λ (x : ClassLists). Some x) (sym c.index.ensures) in
    subst (λ (xs : List (List ℕ)). Covers (part_at c.deref.result.now c.args.s) xs) (sym c.deref-2.ensures.value)
    (subst (λ (spaces : List SpaceClasses). Covers (part_at spaces c.args.s) one.items) (sym c.deref.ensures.value)
    (c.requires.covers.each c.args.s one at))

pub cut_at-requires-clause-inside : goal.cut_at-requires-clause-inside
cut_at-requires-clause-inside c =
    let i = child-inside c.args.form.now c.requires.form c.args.spaces.now.items c.requires.partition c.args.s c.space-space.result.now c.space-space.ensures
    c.args.side in
    let e = c.child.ensures in
    omega arith

pub cut_at-requires-clause-classes : goal.cut_at-requires-clause-classes
cut_at-requires-clause-classes c =
    let spaces = c.args.spaces.now.items in
    subst (λ (k : ℕ). AreClasses (part_at spaces k).reached (part_at spaces k).classes (part_at spaces k).representatives) (sym c.child.ensures)
    (child-classes c.args.form.now c.requires.form spaces c.requires.partition c.args.s c.space-space.result.now c.space-space.ensures c.args.side)

pub cut_at-requires-clause-reached : goal.cut_at-requires-clause-reached
cut_at-requires-clause-reached c = λ q there.
    let spaces = c.args.spaces.now.items in
    let listed = c.in_ok-listed.listed.items in
    subst (λ (k : ℕ). is_reached_in spaces k q ≡ true) (sym c.child.ensures)
    (listed-reached c.args.form.now c.requires.form spaces c.requires.partition c.args.s c.space-space.result.now c.space-space.ensures c.args.side
    c.args.class listed
    (subst (λ (xs : List SpaceClasses). AreGivers c.args.form.now xs c.args.s c.args.side c.args.class listed)
    c.deref.ensures.value c.in_ok-listed.ensures.givers)
    q (subst (λ (xs : List ℕ). Contains xs q) c.deref-3.ensures.value there))

pub returns-clause-partition : goal.returns-clause-partition
returns-clause-partition c =
    let spaces = c.args.spaces.now.items in
    let new = c.cut_at.new.spaces.items in
    let listed = c.in_ok-listed.listed.items in
    ArePartition-cut_at c.args.form.now c.requires.form spaces c.requires.partition c.args.s c.space-space.result.now c.space-space.ensures c.args.side
    c.args.class listed
    (subst (λ (xs : List SpaceClasses). AreGivers c.args.form.now xs c.args.s c.args.side c.args.class listed)
    c.deref.ensures.value c.in_ok-listed.ensures.givers)
    new
    (subst (λ (xs : List ℕ). IsCutAt spaces (child_of c.space-space.result.now c.args.side) xs new) c.deref-3.ensures.value
    (subst (λ (k : ℕ). IsCutAt spaces k c.deref-3.result.now new) c.child.ensures c.in_ok-cut_at.ensures.cut))

pub returns-clause-finer : goal.returns-clause-finer
returns-clause-finer c =
    let spaces = c.args.spaces.now.items in
    let new = c.cut_at.new.spaces.items in
    let listed = c.in_ok-listed.listed.items in
    AreFiner-cut_at c.args.form.now c.requires.form spaces c.requires.partition c.args.s c.space-space.result.now c.space-space.ensures c.args.side
    c.args.class listed
    (subst (λ (xs : List SpaceClasses). AreGivers c.args.form.now xs c.args.s c.args.side c.args.class listed)
    c.deref.ensures.value c.in_ok-listed.ensures.givers)
    new
    (subst (λ (xs : List ℕ). IsCutAt spaces (child_of c.space-space.result.now c.args.side) xs new) c.deref-3.ensures.value
    (subst (λ (k : ℕ). IsCutAt spaces k c.deref-3.result.now new) c.child.ensures c.in_ok-cut_at.ensures.cut))

pub returns-clause-room : goal.returns-clause-room
returns-clause-room c =
    let spaces = c.args.spaces.now.items in
    let new = c.cut_at.new.spaces.items in
    let listed = c.in_ok-listed.listed.items in
    room-cut_at c.args.form.now c.requires.form spaces c.requires.partition c.args.s c.space-space.result.now c.space-space.ensures c.args.side
    c.args.class listed
    (subst (λ (xs : List SpaceClasses). AreGivers c.args.form.now xs c.args.s c.args.side c.args.class listed)
    c.deref.ensures.value c.in_ok-listed.ensures.givers)
    new
    (subst (λ (xs : List ℕ). IsCutAt spaces (child_of c.space-space.result.now c.args.side) xs new) c.deref-3.ensures.value
    (subst (λ (k : ℕ). IsCutAt spaces k c.deref-3.result.now new) c.child.ensures c.in_ok-cut_at.ensures.cut))

pub cut_at-requires-clause-ready : goal.cut_at-requires-clause-ready
cut_at-requires-clause-ready c =
    let ids : c.givers.new.scratch.ids.items ≡ c.args.scratch.now.ids.items = ap (λ v. v.items) c.in_ok-listed.ensures.ids in
    record {
      zero = subst (λ (xs : List ℕ). AreZero xs) (sym ids) c.requires.ready.zero;
      seen = c.in_ok-listed.ensures.seen;
      found = c.in_ok-listed.ensures.found;
      long = λ s. let l = c.requires.ready.long s in let e = ap length ids in omega arith;
    }
