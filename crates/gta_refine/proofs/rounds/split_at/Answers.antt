-- The part of the space that is split.
use Rattle.std.proofs.Common.{◌≡◌, ◌<◌, ◌≤◌, ◌^◌, [], length, refl, sym, ◌∙◌, ap, subst}
use Rattle.std.proofs.lemmas.List.{get_or_read}
use Rattle.gta_classes.specs.declared.part.SpaceClasses.{SpaceClasses}
use Rattle.gta_classes.specs.Classes.{AreClasses, IsSplit}
use Rattle.gta_refine.specs.Refined.{part_at}
use Rattle.gta_refine.proofs.rounds.split_at.Goals as goal

pub split_part-requires-clause-classes : goal.split_part-requires-clause-classes
split_part-requires-clause-classes c =
    let spaces = c.args.spaces.now.items in
    let part : SpaceClasses = c.index_mut-part.result.now in
    let is : part ≡ part_at spaces c.args.c = get_or_read spaces c.args.c part c.requires.inside c.index_mut-part.ensures.value
    (record { reached = []; classes = []; representatives = [] }) in
    subst (λ (p : SpaceClasses). AreClasses p.reached p.classes p.representatives) (sym is) c.requires.classes

pub split_part-requires-clause-many : goal.split_part-requires-clause-many
split_part-requires-clause-many c =
    let spaces = c.args.spaces.now.items in
    let part : SpaceClasses = c.index_mut-part.result.now in
    let is : part ≡ part_at spaces c.args.c = get_or_read spaces c.args.c part c.requires.inside c.index_mut-part.ensures.value
    (record { reached = []; classes = []; representatives = [] }) in
    subst (λ (p : SpaceClasses). length p.reached ≤ length c.args.ids.now) (sym is) c.requires.many

pub split_part-requires-clause-few : goal.split_part-requires-clause-few
split_part-requires-clause-few c =
    let spaces = c.args.spaces.now.items in
    let part : SpaceClasses = c.index_mut-part.result.now in
    let is : part ≡ part_at spaces c.args.c = get_or_read spaces c.args.c part c.requires.inside c.index_mut-part.ensures.value
    (record { reached = []; classes = []; representatives = [] }) in
    subst (λ (p : SpaceClasses). length p.reached ≤ 2 ^ 31) (sym is) c.requires.few

pub returns : goal.returns
returns c =
    let spaces = c.args.spaces.now.items in
    let ids = c.args.ids.now in
    let part : SpaceClasses = c.index_mut-part.result.now in
    let new : SpaceClasses = c.split_part.new.part in
    let is : part ≡ part_at spaces c.args.c = get_or_read spaces c.args.c part c.requires.inside c.index_mut-part.ensures.value
    (record { reached = []; classes = []; representatives = [] }) in
    let e = c.in_ok-is_more.ensures in
    record {
      part = new;
      is = refl;
      reached = e.reached ∙ ap (λ (p : SpaceClasses). p.reached) is;
      classes = subst (λ (p : SpaceClasses). AreClasses p.reached new.classes new.representatives) is e.classes;
      split = subst (λ (p : SpaceClasses). IsSplit p.reached ids p.classes new.classes) is e.split;
      unchanged = λ none.
          let same = e.unchanged none in
          (same.0 ∙ ap (λ (p : SpaceClasses). p.classes) is, same.1 ∙ ap (λ (p : SpaceClasses). p.representatives) is);
      grown = λ more. subst (λ (p : SpaceClasses). length p.representatives < length new.representatives) is (e.more more);
    }
