-- The first classes.
use Rattle.std.proofs.Common.{◌≡◌, ℕ, ◌<◌, List, [], true, length, map, sym, ◌∙◌, ap, subst, arith}
use Rattle.std.proofs.lemmas.List.{get_or_read, length-map}
use Rattle.gta_classes.specs.declared.part.SpaceClasses.{SpaceClasses}
use Rattle.gta_classes.specs.Classes.{AreClasses, IsSplit}
use Rattle.gta_refine.specs.Refined.{part_at, is_reached_in, bit_of, ArePartition}
use Rattle.gta_classes.proofs.ChosenLemmas.{marked-inside}
use Rattle.gta_reach.proofs.ReachLemmas.{few-states}
use Rattle.gta_refine.proofs.RefineLemmas.{zero_inside, bits-say, ArePartition-first, after-part}
use Rattle.gta_refine.proofs.rounds.classes_at_first.Goals as goal

pub split_part-requires-clause-classes : goal.split_part-requires-clause-classes
split_part-requires-clause-classes c =
    let form = c.args.form.now in
    let spaces = c.in_ok-spaces.spaces.items in
    let single = c.in_ok-spaces.ensures in
    let there = c.requires.guide.not_empty in
    let part : SpaceClasses = c.index_mut.result.now in
    let is : part ≡ part_at spaces 0 = get_or_read spaces 0 part (zero_inside form spaces c.requires single) c.index_mut.ensures.value
    (record { reached = []; classes = []; representatives = [] }) in
    subst (λ (p : SpaceClasses). AreClasses p.reached p.classes p.representatives) (sym is) (single.classes 0 there)

pub split_part-requires-clause-many : goal.split_part-requires-clause-many
split_part-requires-clause-many c =
    let form = c.args.form.now in
    let spaces = c.in_ok-spaces.spaces.items in
    let single = c.in_ok-spaces.ensures in
    let there = c.requires.guide.not_empty in
    let part : SpaceClasses = c.index_mut.result.now in
    let is : part ≡ part_at spaces 0 = get_or_read spaces 0 part (zero_inside form spaces c.requires single) c.index_mut.ensures.value
    (record { reached = []; classes = []; representatives = [] }) in
    let reached = ap (λ (p : SpaceClasses). length p.reached) is in
    let many = single.many 0 there in
    let bits = ap length (c.deref.ensures.value ∙ c.in_ok-bits.ensures) in
    let map = length-map c.as_slice.result.now bit_of in
    let accepting = ap length c.as_slice.ensures in
    let all = c.requires.accepting in
    omega arith

pub split_part-requires-clause-few : goal.split_part-requires-clause-few
split_part-requires-clause-few c =
    let form = c.args.form.now in
    let spaces = c.in_ok-spaces.spaces.items in
    let single = c.in_ok-spaces.ensures in
    let there = c.requires.guide.not_empty in
    let part : SpaceClasses = c.index_mut.result.now in
    let is : part ≡ part_at spaces 0 = get_or_read spaces 0 part (zero_inside form spaces c.requires single) c.index_mut.ensures.value
    (record { reached = []; classes = []; representatives = [] }) in
    let reached = ap (λ (p : SpaceClasses). length p.reached) is in
    let many = single.many 0 there in
    let few = few-states form c.requires 0 there in
    omega arith

pub returns : goal.returns
returns c =
    let form = c.args.form.now in
    let spaces = c.in_ok-spaces.spaces.items in
    let single = c.in_ok-spaces.ensures in
    let there = c.requires.guide.not_empty in
    let part : SpaceClasses = c.index_mut.result.now in
    let is : part ≡ part_at spaces 0 = get_or_read spaces 0 part (zero_inside form spaces c.requires single) c.index_mut.ensures.value
    (record { reached = []; classes = []; representatives = [] }) in
    let new : SpaceClasses = c.split_part.new.part in
    let bits = c.in_ok-bits.bits.items in
    let are : bits ≡ map bit_of form.accepting = c.in_ok-bits.ensures ∙ ap (map bit_of) c.as_slice.ensures in
    let marks : new.reached ≡ (part_at spaces 0).reached = c.in_ok-split_part.ensures.reached ∙ ap (λ (p : SpaceClasses). p.reached) is in
    let classes : AreClasses (part_at spaces 0).reached new.classes new.representatives =
    subst (λ (p : SpaceClasses). AreClasses p.reached new.classes new.representatives) is c.in_ok-split_part.ensures.classes in
    let split : IsSplit (part_at spaces 0).reached bits (part_at spaces 0).classes new.classes =
    subst (λ (p : SpaceClasses). IsSplit p.reached bits p.classes new.classes) is
    (subst (λ (xs : List ℕ). IsSplit part.reached xs part.classes new.classes) c.deref.ensures.value c.in_ok-split_part.ensures.split) in
    let inside : (q : ℕ) → is_reached_in spaces 0 q ≡ true → q < length form.accepting =
    λ q reached. (let i = marked-inside (part_at spaces 0).reached q reached in let m = single.many 0 there in let a = c.requires.accepting in omega arith) in
    subst (ArePartition form) (after-part form spaces 0 (zero_inside form spaces c.requires single) new marks)
    (ArePartition-first form spaces c.requires single bits new.classes new.representatives classes split
    (λ p q p_reached q_reached. bits-say form bits p q are (inside p p_reached) (inside q q_reached)))
