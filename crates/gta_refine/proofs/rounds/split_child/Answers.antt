-- A child's classes are split by rows.
use Rattle.std.proofs.Common.{◌≤◌, ◌^◌, ℕ, List, length, sym, ap, subst, arith}
use Rattle.gta_classes.specs.Classes.{AreClasses}
use Rattle.gta_reach.specs.Sides.{child_of}
use Rattle.gta_refine.specs.Refined.{part_at}
use Rattle.gta_refine.specs.Looked.{IsSplitAt}
use Rattle.gta_refine.proofs.RefineLemmas.{child-inside, child-few, child-classes}
use Rattle.gta_refine.proofs.FinerLemmas.{AreFiner-same}
use Rattle.gta_refine.proofs.SplitLemmas.{IsStableFrom-single, AreFiner-split, unchanged-split, TakesRoom-split, rows-roots, rows-kinds, rows-many}
use Rattle.gta_refine.proofs.SplitLemmas.{rows-long, ArePartition-rows, IsStableFrom-rows}
use Rattle.gta_refine.proofs.rounds.split_child.Goals as goal

pub ids_of-requires-clause-roots : goal.ids_of-requires-clause-roots
ids_of-requires-clause-roots c =
    let was = c.requires.rows in
    rows-roots c.args.form.now c.requires.form c.args.spaces.now.items c.requires.partition c.args.s
    c.space-space.result.now c.space-space.ensures c.args.side
    c.args.numbers.now c.args.own.now c.args.beside.now was.before was.rows was.finer

pub ids_of-requires-clause-kinds : goal.ids_of-requires-clause-kinds
ids_of-requires-clause-kinds c =
    let was = c.requires.rows in
    rows-kinds c.args.form.now c.requires.form c.args.spaces.now.items c.requires.partition c.args.s
    c.space-space.result.now c.space-space.ensures c.args.side
    c.args.numbers.now c.args.own.now c.args.beside.now was.before was.rows was.finer

pub ids_of-requires-clause-many : goal.ids_of-requires-clause-many
ids_of-requires-clause-many c =
    let was = c.requires.rows in
    rows-many c.args.form.now c.requires.form c.args.spaces.now.items c.requires.partition c.args.s
    c.space-space.result.now c.space-space.ensures c.args.side
    c.args.numbers.now c.args.own.now c.args.beside.now was.before was.rows was.finer

pub split_at-requires-clause-inside : goal.split_at-requires-clause-inside
split_at-requires-clause-inside c =
    let b = child-inside c.args.form.now c.requires.form c.args.spaces.now.items c.requires.partition c.args.s
    c.space-space.result.now c.space-space.ensures c.args.side in
    let e = c.child.ensures in
    omega arith

pub split_at-requires-clause-classes : goal.split_at-requires-clause-classes
split_at-requires-clause-classes c =
    let now = c.args.spaces.now.items in
    subst (λ (k : ℕ). AreClasses (part_at now k).reached (part_at now k).classes (part_at now k).representatives) (sym c.child.ensures)
    (child-classes c.args.form.now c.requires.form c.args.spaces.now.items c.requires.partition c.args.s
    c.space-space.result.now c.space-space.ensures c.args.side)

pub split_at-requires-clause-many : goal.split_at-requires-clause-many
split_at-requires-clause-many c =
    let now = c.args.spaces.now.items in
    let was = c.requires.rows in
    let l = rows-long c.args.form.now c.requires.form c.args.spaces.now.items c.requires.partition c.args.s
    c.space-space.result.now c.space-space.ensures c.args.side
    c.args.numbers.now c.args.own.now c.args.beside.now was.before was.rows was.finer c.in_ok-ids.ids.items c.in_ok-ids.ensures in
    let a = ap (λ (k : ℕ). length (part_at now k).reached) c.child.ensures in
    let b = ap length c.deref.ensures.value in
    omega arith

pub split_at-requires-clause-few : goal.split_at-requires-clause-few
split_at-requires-clause-few c =
    let now = c.args.spaces.now.items in
    subst (λ (k : ℕ). length (part_at now k).reached ≤ 2 ^ 31) (sym c.child.ensures)
    (child-few c.args.form.now c.requires.form c.args.spaces.now.items c.requires.partition c.args.s
    c.space-space.result.now c.space-space.ensures c.args.side)

pub returns-clause-partition : goal.returns-clause-partition
returns-clause-partition c =
    let now = c.args.spaces.now.items in
    let new = c.split_at.new.spaces.items in
    let ids = c.in_ok-ids.ids.items in
    let more = c.in_ok-is_more.is_more in
    let c_is = child_of c.space-space.result.now c.args.side in
    let split : IsSplitAt now c_is ids new more = subst (λ (xs : List ℕ). IsSplitAt now c_is xs new more) c.deref.ensures.value
    (subst (λ (k : ℕ). IsSplitAt now k c.deref.result.now new more) c.child.ensures c.in_ok-is_more.ensures) in
    let was = c.requires.rows in
    ArePartition-rows c.args.form.now c.requires.form c.args.spaces.now.items c.requires.partition c.args.s
    c.space-space.result.now c.space-space.ensures c.args.side
    c.args.numbers.now c.args.own.now c.args.beside.now was.before was.rows was.finer ids c.in_ok-ids.ensures new more split

pub returns-clause-finer : goal.returns-clause-finer
returns-clause-finer c =
    let now = c.args.spaces.now.items in
    let new = c.split_at.new.spaces.items in
    let ids = c.in_ok-ids.ids.items in
    let more = c.in_ok-is_more.is_more in
    let c_is = child_of c.space-space.result.now c.args.side in
    let split : IsSplitAt now c_is ids new more = subst (λ (xs : List ℕ). IsSplitAt now c_is xs new more) c.deref.ensures.value
    (subst (λ (k : ℕ). IsSplitAt now k c.deref.result.now new more) c.child.ensures c.in_ok-is_more.ensures) in
    AreFiner-split c.args.form.now c.requires.form c.args.spaces.now.items c.requires.partition c.args.s
    c.space-space.result.now c.space-space.ensures c.args.side
    ids new more split

pub returns-clause-unchanged : goal.returns-clause-unchanged
returns-clause-unchanged c =
    let now = c.args.spaces.now.items in
    let new = c.split_at.new.spaces.items in
    let ids = c.in_ok-ids.ids.items in
    let more = c.in_ok-is_more.is_more in
    let c_is = child_of c.space-space.result.now c.args.side in
    let split : IsSplitAt now c_is ids new more = subst (λ (xs : List ℕ). IsSplitAt now c_is xs new more) c.deref.ensures.value
    (subst (λ (k : ℕ). IsSplitAt now k c.deref.result.now new more) c.child.ensures c.in_ok-is_more.ensures) in
    unchanged-split c.args.form.now c.requires.form c.args.spaces.now.items c.requires.partition c.args.s
    c.space-space.result.now c.space-space.ensures c.args.side
    ids new more split

pub returns-clause-stable : goal.returns-clause-stable
returns-clause-stable c = λ before rows finer.
    let now = c.args.spaces.now.items in
    let new = c.split_at.new.spaces.items in
    let ids = c.in_ok-ids.ids.items in
    let more = c.in_ok-is_more.is_more in
    let c_is = child_of c.space-space.result.now c.args.side in
    let split : IsSplitAt now c_is ids new more = subst (λ (xs : List ℕ). IsSplitAt now c_is xs new more) c.deref.ensures.value
    (subst (λ (k : ℕ). IsSplitAt now k c.deref.result.now new more) c.child.ensures c.in_ok-is_more.ensures) in
    IsStableFrom-rows c.args.form.now c.requires.form c.args.spaces.now.items c.requires.partition c.args.s
    c.space-space.result.now c.space-space.ensures c.args.side
    c.args.numbers.now c.args.own.now c.args.beside.now before rows finer ids c.in_ok-ids.ensures new more split

pub returns-clause-room : goal.returns-clause-room
returns-clause-room c =
    let now = c.args.spaces.now.items in
    let new = c.split_at.new.spaces.items in
    let ids = c.in_ok-ids.ids.items in
    let more = c.in_ok-is_more.is_more in
    let c_is = child_of c.space-space.result.now c.args.side in
    let split : IsSplitAt now c_is ids new more = subst (λ (xs : List ℕ). IsSplitAt now c_is xs new more) c.deref.ensures.value
    (subst (λ (k : ℕ). IsSplitAt now k c.deref.result.now new more) c.child.ensures c.in_ok-is_more.ensures) in
    TakesRoom-split c.args.form.now c.requires.form c.args.spaces.now.items c.requires.partition c.args.s
    c.space-space.result.now c.space-space.ensures c.args.side
    ids new more split

pub returns-then-own-lt2-clause-finer : goal.returns-then-own-lt2-clause-finer
returns-then-own-lt2-clause-finer c = AreFiner-same c.args.spaces.now.items

pub returns-then-own-lt2-clause-stable : goal.returns-then-own-lt2-clause-stable
returns-then-own-lt2-clause-stable c = λ before rows finer.
    IsStableFrom-single c.args.form.now before c.args.spaces.now.items c.args.s c.requires.space c.args.side c.args.own.now rows.chosen_own
    c.if-own-lt2.true finer
