-- A space is looked at, or was since its classes were split.
use Rattle.std.proofs.Common.{◌≡◌, ◌<◌, List, length, sym, ◌∙◌, ap, subst, arith}
use Rattle.std.proofs.lemmas.List.{get_or_read}
use Rattle.gta_classes.specs.declared.part.SpaceClasses.{SpaceClasses}
use Rattle.gta_refine.specs.Refined.{part_at, classes_in}
use Rattle.gta_refine.specs.Looked.{IsStableFrom}
use Rattle.gta_refine.proofs.FinerLemmas.{AreLooked-set, IsStableAt-now}
use Rattle.gta_refine.proofs.rounds.look_at.Goals as goal

pub returns-then-index-many-clause-stable : goal.returns-then-index-many-clause-stable
returns-then-index-many-clause-stable c = λ none side.
    let spaces = c.args.spaces.now.items in
    let looked = c.args.looked.now.items in
    let so_far = c.requires.looked in
    let inside : c.args.s < length looked = (let m = so_far.many in let s = c.requires.space in omega arith) in
    let many : c.len-many.result ≡ classes_in spaces c.args.s = c.len-many.ensures
    ∙ ap (λ (p : SpaceClasses). length p.representatives) (c.part_of.ensures ∙ ap (λ (xs : List SpaceClasses). part_at xs c.args.s) c.deref.ensures.value) in
    so_far.stable c.args.s side c.requires.space
    (sym (get_or_read looked c.args.s c.index.result.now inside c.index.ensures 0) ∙ c.if-index-many.true ∙ many)

pub returns-clause-looked : goal.returns-clause-looked
returns-clause-looked c =
    let form = c.args.form.now in
    let old = c.args.spaces.now.items in
    let new = c.split_children.new.spaces.items in
    let e = c.in_ok-is_more.ensures in
    let many : c.len-many.result ≡ classes_in old c.args.s = c.len-many.ensures
    ∙ ap (λ (p : SpaceClasses). length p.representatives) (c.part_of.ensures ∙ ap (λ (xs : List SpaceClasses). part_at xs c.args.s) c.deref.ensures.value) in
    AreLooked-set form old new c.args.looked.now.items c.args.s c.len-many.result c.requires.form c.requires.partition e.finer c.requires.space many
    e.stable c.requires.looked

pub returns-clause-stable : goal.returns-clause-stable
returns-clause-stable c = λ none side.
    let form = c.args.form.now in
    let old = c.args.spaces.now.items in
    let new = c.split_children.new.spaces.items in
    let e = c.in_ok-is_more.ensures in
    IsStableAt-now form new c.args.s side
    (subst (λ (xs : List SpaceClasses). IsStableFrom form xs new c.args.s side) (sym (e.unchanged none)) (e.stable side))
