-- Classes that are split: what they keep, and which spaces stay stable.
use Rattle.std.proofs.Common.{◌≡◌, ℕ, ◌+◌, ◌<◌, ◌≤◌, Bool, true, List, [], ◌∷◌, ◌++◌, length, inl, inr}
use Rattle.std.proofs.Common.{sym, ◌∙◌, ap, refl, subst, arith}
use Rattle.std.specs.Prelude.{slice_index, slice_set, replicate}
use Rattle.std.proofs.lemmas.List.{get_or-set_same, get_or-set_other, length-set, length-replicate, get_or-replicate}
use Rattle.std.proofs.Math.ListN.{get_or-append}
use Rattle.std.proofs.Math.Seq.{get_or-append_seam}
use Rattle.std.proofs.lemmas.Bool.{cases_eq, cases_lt}
use Rattle.labels.specs.Labels.{Label}
use Rattle.gta_theory.specs.Guides.{IsSpace}
use Rattle.gta_theory.specs.Automata.{Has}
use Rattle.gta_theory.proofs.AutomataLemmas.{IsClosed-reached}
use Rattle.gta_reach.specs.declared.form.Form.{Form}
use Rattle.gta_reach.specs.declared.sides.Side.{Side}
use Rattle.gta_reach.specs.declared.sides.Side.TheVariants.{Left, Right}
use Rattle.gta_reach.specs.Form.{guide_of, automaton_of, IsForm}
use Rattle.gta_reach.specs.Sides.{child_at, opposite, step_by}
use Rattle.gta_reach.proofs.ReachLemmas.{many_spaces}
use Rattle.gta_classes.specs.declared.part.SpaceClasses.{SpaceClasses}
use Rattle.gta_classes.specs.Chosen.{is_marked}
use Rattle.gta_classes.specs.Classes.{AreClasses, IsSplit}
use Rattle.gta_classes.proofs.ChosenLemmas.{marked-inside}
use Rattle.gta_refine.specs.Refined.{part_at, is_reached_in, class_at, classes_in, ArePartition, IsStableAt}
use Rattle.gta_refine.specs.Looked.{AreFiner, IsStableFrom, AreLooked}
use Rattle.gta_refine.proofs.PigeonLemmas.{pigeonhole}

-- ---- classes of one space that are split

-- where there are as many classes as before, none is split: one more would have no number
module _ (reached : List Bool) (ids classes representatives new_classes new_representatives : List ℕ)
    (old : AreClasses reached classes representatives) (new : AreClasses reached new_classes new_representatives)
    (split : IsSplit reached ids classes new_classes) where
  -- the state of a class, and one more behind them
  state_of : ℕ → ℕ → ℕ
  state_of last i = slice_index (representatives ++ last ∷ []) i

  state-before : (last i : ℕ) → i < length representatives → state_of last i ≡ slice_index representatives i
  unfolding state_of
  state-before last i inside = get_or-append representatives (last ∷ []) 0 i inside

  state-last : (last : ℕ) → state_of last (length representatives) ≡ last
  unfolding state_of
  state-last last = get_or-append_seam representatives last [] 0

  new-within : (q : ℕ) → is_marked reached q ≡ true → slice_index new_classes q < length new_representatives
  new-within q marked = new.within q (let i = marked-inside reached q marked in let m = new.many in omega arith)

  -- a state of a class is of another class now than the one that represented it
  module _ (last : ℕ) (marked : is_marked reached last ≡ true)
      (apart : slice_index new_classes last ≡ slice_index new_classes (slice_index representatives (slice_index classes last)) → ⊥) where
    place : ℕ → ℕ
    place i = slice_index new_classes (state_of last i)

    state-marked : (i : ℕ) → i < length representatives + 1 → is_marked reached (state_of last i) ≡ true
    state-marked i i_in = elim (cases_lt i (length representatives)) [
      | inl before ↦ subst (λ (q : ℕ). is_marked reached q ≡ true) (sym (state-before last i before)) (old.inside i before)
      | inr past ↦
          let is : i ≡ length representatives = omega arith in
          subst (λ (q : ℕ). is_marked reached q ≡ true) (sym (ap (state_of last) is ∙ state-last last)) marked
    ]

    place-inside : (i : ℕ) → i < length representatives + 1 → place i < length new_representatives
    unfolding place
    place-inside i i_in = new-within (state_of last i) (state-marked i i_in)

    -- the new one has no place of another
    not-last : (i : ℕ) → i < length representatives → place i ≡ slice_index new_classes last → ⊥
    unfolding place
    not-last i inside same =
        let e : slice_index new_classes (slice_index representatives i) ≡ slice_index new_classes last =
        sym (ap (slice_index new_classes) (state-before last i inside)) ∙ same in
        let class : slice_index classes (slice_index representatives i) ≡ slice_index classes last =
        (split.together (slice_index representatives i) last (old.inside i inside) marked e).0 in
        let is : i ≡ slice_index classes last = sym (old.has i inside) ∙ class in
        apart (sym e ∙ ap (λ (k : ℕ). slice_index new_classes (slice_index representatives k)) is)

    place-last : place (length representatives) ≡ slice_index new_classes last
    unfolding place
    place-last = ap (slice_index new_classes) (state-last last)

    place-once : (i j : ℕ) → i < length representatives + 1 → j < length representatives + 1 → place i ≡ place j → i ≡ j
    unfolding place
    place-once i j i_in j_in same = elim (cases_lt i (length representatives)) [
      | inl i_before ↦ elim (cases_lt j (length representatives)) [
        | inl j_before ↦
            let e : slice_index new_classes (slice_index representatives i) ≡ slice_index new_classes (slice_index representatives j) =
            sym (ap (slice_index new_classes) (state-before last i i_before)) ∙ same ∙ ap (slice_index new_classes) (state-before last j j_before) in
            sym (old.has i i_before)
            ∙ (split.together (slice_index representatives i) (slice_index representatives j) (old.inside i i_before) (old.inside j j_before) e).0
            ∙ old.has j j_before
        | inr j_past ↦
            let is : j ≡ length representatives = omega arith in
            absurd (not-last i i_before (same ∙ ap place is ∙ place-last))
      ]
      | inr i_past ↦ elim (cases_lt j (length representatives)) [
        | inl j_before ↦
            let is : i ≡ length representatives = omega arith in
            absurd (not-last j j_before (sym same ∙ ap place is ∙ place-last))
        | inr j_past ↦ omega arith
      ]
    ]

    more-places : length representatives + 1 ≤ length new_representatives
    more-places = pigeonhole (length representatives + 1) (length new_representatives) place place-inside place-once

  with-representative : (q : ℕ) → is_marked reached q ≡ true → length new_representatives ≡ length representatives →
      slice_index new_classes q ≡ slice_index new_classes (slice_index representatives (slice_index classes q))
  with-representative q marked many =
      elim (cases_eq (slice_index new_classes q) (slice_index new_classes (slice_index representatives (slice_index classes q)))) [
        | inl same ↦ same
        | inr apart ↦ absurd (let b = more-places q marked apart in omega arith)
      ]

  pub unsplit-classes : (p q : ℕ) → is_marked reached p ≡ true → is_marked reached q ≡ true →
      length new_representatives ≡ length representatives → slice_index classes p ≡ slice_index classes q →
      slice_index new_classes p ≡ slice_index new_classes q
  unsplit-classes p q p_marked q_marked many same =
      with-representative p p_marked many
      ∙ ap (λ (x : ℕ). slice_index new_classes (slice_index representatives x)) same
      ∙ sym (with-representative q q_marked many)

-- ---- classes of all spaces

pub AreFiner-same : (spaces : List SpaceClasses) → AreFiner spaces spaces
AreFiner-same spaces = record {
  marks = λ s. refl;
  least = λ s. omega arith;
  finer = λ s p q p_reached q_reached same. same;
  kept = λ s p q many p_reached q_reached same. same;
}

pub reached-finer : (old new : List SpaceClasses) → AreFiner old new → (s q : ℕ) → is_reached_in new s q ≡ is_reached_in old s q
reached-finer old new finer s q = ap (λ (marks : List Bool). is_marked marks q) (finer.marks s)

pub AreFiner-both : (old mid new : List SpaceClasses) → AreFiner old mid → AreFiner mid new → AreFiner old new
AreFiner-both old mid new first second =
    let was : (s q : ℕ) → is_reached_in old s q ≡ true → is_reached_in mid s q ≡ true = λ s q reached. reached-finer old mid first s q ∙ reached in
    record {
      marks = λ s. second.marks s ∙ first.marks s;
      least = λ s. let a = first.least s in let b = second.least s in omega arith;
      finer = λ s p q p_reached q_reached same.
          first.finer s p q p_reached q_reached (second.finer s p q (was s p p_reached) (was s q q_reached) same);
      kept = λ s p q many p_reached q_reached same.
          let a = first.least s in
          let b = second.least s in
          let here : classes_in mid s ≡ classes_in old s = omega arith in
          let after : classes_in new s ≡ classes_in mid s = omega arith in
          second.kept s p q after (was s p p_reached) (was s q q_reached) (first.kept s p q here p_reached q_reached same);
    }

-- the classes of one space are split
module _ (spaces : List SpaceClasses) (c : ℕ) (c_inside : c < length spaces) (part : SpaceClasses) (ids : List ℕ)
    (marks : part.reached ≡ (part_at spaces c).reached)
    (old : AreClasses (part_at spaces c).reached (part_at spaces c).classes (part_at spaces c).representatives)
    (new : AreClasses (part_at spaces c).reached part.classes part.representatives)
    (least : length (part_at spaces c).representatives ≤ length part.representatives)
    (split : IsSplit (part_at spaces c).reached ids (part_at spaces c).classes part.classes) where
  part-here : (s : ℕ) → s ≡ c → part_at (slice_set spaces c part) s ≡ part
  part-here s same = ap (part_at (slice_set spaces c part)) same
      ∙ get_or-set_same spaces c part (record { reached = []; classes = []; representatives = [] }) c_inside

  part-other : (s : ℕ) → (s ≡ c → ⊥) → part_at (slice_set spaces c part) s ≡ part_at spaces s
  part-other s other = get_or-set_other spaces c s part (record { reached = []; classes = []; representatives = [] }) other

  class-here : (s q : ℕ) → s ≡ c → class_at (slice_set spaces c part) s q ≡ slice_index part.classes q
  class-here s q same = ap (λ (p : SpaceClasses). slice_index p.classes q) (part-here s same)

  class-other : (s q : ℕ) → (s ≡ c → ⊥) → class_at (slice_set spaces c part) s q ≡ class_at spaces s q
  class-other s q other = ap (λ (p : SpaceClasses). slice_index p.classes q) (part-other s other)

  class-was : (s q : ℕ) → s ≡ c → class_at spaces s q ≡ slice_index (part_at spaces c).classes q
  class-was s q same = ap (λ (k : ℕ). class_at spaces k q) same

  reached-was : (s q : ℕ) → s ≡ c → is_reached_in spaces s q ≡ true → is_marked (part_at spaces c).reached q ≡ true
  reached-was s q same reached = ap (λ (k : ℕ). is_reached_in spaces k q) (sym same) ∙ reached

  marks-set : (s : ℕ) → (part_at (slice_set spaces c part) s).reached ≡ (part_at spaces s).reached
  marks-set s = elim (cases_eq s c) [
    | inl same ↦ ap (λ (p : SpaceClasses). p.reached) (part-here s same) ∙ marks ∙ ap (λ (k : ℕ). (part_at spaces k).reached) (sym same)
    | inr other ↦ ap (λ (p : SpaceClasses). p.reached) (part-other s other)
  ]

  least-set : (s : ℕ) → classes_in spaces s ≤ classes_in (slice_set spaces c part) s
  least-set s = elim (cases_eq s c) [
    | inl same ↦
        let a = ap (λ (p : SpaceClasses). length p.representatives) (part-here s same) in
        let b = ap (classes_in spaces) same in
        let l = least in
        omega arith
    | inr other ↦ let a = ap (λ (p : SpaceClasses). length p.representatives) (part-other s other) in omega arith
  ]

  finer-set : (s p q : ℕ) → is_reached_in spaces s p ≡ true → is_reached_in spaces s q ≡ true →
      class_at (slice_set spaces c part) s p ≡ class_at (slice_set spaces c part) s q → class_at spaces s p ≡ class_at spaces s q
  finer-set s p q p_reached q_reached same_class = elim (cases_eq s c) [
    | inl same ↦
        class-was s p same
        ∙ (split.together p q (reached-was s p same p_reached) (reached-was s q same q_reached)
        (sym (class-here s p same) ∙ same_class ∙ class-here s q same)).0
        ∙ sym (class-was s q same)
    | inr other ↦ sym (class-other s p other) ∙ same_class ∙ class-other s q other
  ]

  kept-set : (s p q : ℕ) → classes_in (slice_set spaces c part) s ≡ classes_in spaces s → is_reached_in spaces s p ≡ true →
      is_reached_in spaces s q ≡ true → class_at spaces s p ≡ class_at spaces s q →
      class_at (slice_set spaces c part) s p ≡ class_at (slice_set spaces c part) s q
  kept-set s p q many p_reached q_reached same_class = elim (cases_eq s c) [
    | inl same ↦
        class-here s p same
        ∙ unsplit-classes (part_at spaces c).reached ids (part_at spaces c).classes (part_at spaces c).representatives part.classes part.representatives
        old new split p q (reached-was s p same p_reached) (reached-was s q same q_reached)
        (sym (ap (λ (x : SpaceClasses). length x.representatives) (part-here s same)) ∙ many ∙ ap (classes_in spaces) same)
        (sym (class-was s p same) ∙ same_class ∙ class-was s q same)
        ∙ sym (class-here s q same)
    | inr other ↦ class-other s p other ∙ same_class ∙ sym (class-other s q other)
  ]

  pub AreFiner-set : AreFiner spaces (slice_set spaces c part)
  AreFiner-set = record { marks = marks-set; least = least-set; finer = finer-set; kept = kept-set }

-- ---- what stays stable

-- what holds of each side
pub both-sides : (P : Side → Type 0) → P Left → P Right → (side : Side) → P side
both-sides P left right Left = left
both-sides P left right Right = right

-- where no class is split, steps go along
pub IsStableAt-now : (form : Form) (spaces : List SpaceClasses) (s : ℕ) (side : Side) → IsStableFrom form spaces spaces s side →
    IsStableAt form spaces s side
IsStableAt-now form spaces s side stable = record { step = stable.step }

-- steps give reached states
pub step-reached : (form : Form) (spaces : List SpaceClasses) → IsForm form → ArePartition form spaces → (s : ℕ) → IsSpace (guide_of form) s →
    (side : Side) (p b : ℕ) (label : Label) → is_reached_in spaces (child_at (guide_of form) side s) p ≡ true →
    is_reached_in spaces (child_at (guide_of form) (opposite side) s) b ≡ true →
    is_reached_in spaces s (step_by (automaton_of form) s side p b label) ≡ true
step-reached form spaces is_form partition s there Left p b label p_reached b_reached =
    (IsClosed-reached (guide_of form) is_form.guide (automaton_of form) is_form.stable (Has (is_reached_in spaces)) partition.reached).step
    s p b label there p_reached b_reached
step-reached form spaces is_form partition s there Right p b label p_reached b_reached =
    (IsClosed-reached (guide_of form) is_form.guide (automaton_of form) is_form.stable (Has (is_reached_in spaces)) partition.reached).step
    s b p label there b_reached p_reached

-- finer classes of the children go along
pub IsStableFrom-finer : (form : Form) (before old new : List SpaceClasses) (s : ℕ) (side : Side) → AreFiner old new →
    IsStableFrom form before old s side → IsStableFrom form before new s side
IsStableFrom-finer form before old new s side finer stable = record {
  step = λ p q beside label p_reached q_reached beside_reached same.
      let was : (k x : ℕ) → is_reached_in new k x ≡ true → is_reached_in old k x ≡ true = λ k x reached. sym (reached-finer old new finer k x) ∙ reached in
      let c = child_at (guide_of form) side s in
      let p_was = was c p p_reached in
      let q_was = was c q q_reached in
      stable.step p q beside label p_was q_was (was (child_at (guide_of form) (opposite side) s) beside beside_reached)
      (finer.finer c p q p_was q_was same);
}

-- where a space has as many classes as before, they are the same
pub IsStableAt-from : (form : Form) (before now : List SpaceClasses) → IsForm form → ArePartition form before → AreFiner before now → (s : ℕ) →
    s < length form.spaces → (side : Side) → classes_in now s ≡ classes_in before s → IsStableFrom form before now s side →
    IsStableAt form now s side
IsStableAt-from form before now is_form partition finer s inside side many stable = record {
  step = λ p q beside label p_reached q_reached beside_reached same.
      let was : (k x : ℕ) → is_reached_in now k x ≡ true → is_reached_in before k x ≡ true =
      λ k x reached. sym (reached-finer before now finer k x) ∙ reached in
      let there : IsSpace (guide_of form) s = (let m = many_spaces form in omega arith) in
      let c = child_at (guide_of form) side s in
      let other = child_at (guide_of form) (opposite side) s in
      finer.kept s (step_by (automaton_of form) s side p beside label) (step_by (automaton_of form) s side q beside label) many
      (step-reached form before is_form partition s there side p beside label (was c p p_reached) (was other beside beside_reached))
      (step-reached form before is_form partition s there side q beside label (was c q q_reached) (was other beside beside_reached))
      (stable.step p q beside label p_reached q_reached beside_reached same);
}

-- a stable space stays so while it has as many classes
pub IsStableAt-finer : (form : Form) (old new : List SpaceClasses) → IsForm form → ArePartition form old → AreFiner old new → (s : ℕ) →
    s < length form.spaces → (side : Side) → classes_in new s ≡ classes_in old s → IsStableAt form old s side → IsStableAt form new s side
IsStableAt-finer form old new is_form partition finer s inside side many stable =
    IsStableAt-from form old new is_form partition finer s inside side many
    (IsStableFrom-finer form old old new s side finer (record { step = stable.step }))

-- ---- the spaces that were looked at

-- each reached state of a space has a class
class-within : (form : Form) (spaces : List SpaceClasses) → ArePartition form spaces → (s q : ℕ) → IsSpace (guide_of form) s →
    is_reached_in spaces s q ≡ true → class_at spaces s q < classes_in spaces s
class-within form spaces partition s q there reached =
    let are = partition.classes s there in
    are.within q (let i = marked-inside (part_at spaces s).reached q reached in let m = are.many in omega arith)

pub least-one : (form : Form) (spaces : List SpaceClasses) → IsForm form → ArePartition form spaces → (s : ℕ) → s < length form.spaces →
    1 ≤ classes_in spaces s
least-one form spaces is_form partition s inside =
    let there : IsSpace (guide_of form) s = (let m = many_spaces form in omega arith) in
    let closed = IsClosed-reached (guide_of form) is_form.guide (automaton_of form) is_form.stable (Has (is_reached_in spaces)) partition.reached in
    let w = class-within form spaces partition s ((automaton_of form).initial s) there (closed.initial s there) in
    omega arith

-- a space with one class is stable
IsStableAt-one : (form : Form) (spaces : List SpaceClasses) → IsForm form → ArePartition form spaces → (s : ℕ) → s < length form.spaces →
    (side : Side) → 1 ≡ classes_in spaces s → IsStableAt form spaces s side
IsStableAt-one form spaces is_form partition s inside side one = record {
  step = λ p q beside label p_reached q_reached beside_reached same.
      let there : IsSpace (guide_of form) s = (let m = many_spaces form in omega arith) in
      let a = class-within form spaces partition s (step_by (automaton_of form) s side p beside label) there
      (step-reached form spaces is_form partition s there side p beside label p_reached beside_reached) in
      let b = class-within form spaces partition s (step_by (automaton_of form) s side q beside label) there
      (step-reached form spaces is_form partition s there side q beside label q_reached beside_reached) in
      omega arith;
}

-- with 1 for each space
pub AreLooked-ones : (form : Form) (spaces : List SpaceClasses) → IsForm form → ArePartition form spaces → (many : ℕ) → many ≡ length form.spaces →
    AreLooked form spaces (replicate many 1)
AreLooked-ones form spaces is_form partition many all =
    let at : (s : ℕ) → s < length form.spaces → slice_index (replicate many 1) s ≡ 1 = λ s inside. get_or-replicate many s 1 0 (omega arith) in
    record {
      many = length-replicate many 1 ∙ all;
      least = λ s inside. let a = at s inside in let l = least-one form spaces is_form partition s inside in omega arith;
      stable = λ s side inside same. IsStableAt-one form spaces is_form partition s inside side (sym (at s inside) ∙ same);
    }

-- while classes are split
pub AreLooked-finer : (form : Form) (old new : List SpaceClasses) (looked : List ℕ) → IsForm form → ArePartition form old → AreFiner old new →
    AreLooked form old looked → AreLooked form new looked
AreLooked-finer form old new looked is_form partition finer so_far = record {
  many = so_far.many;
  least = λ s inside. let a = so_far.least s inside in let b = finer.least s in omega arith;
  stable = λ s side inside same.
      let a = so_far.least s inside in
      let b = finer.least s in
      let was : slice_index looked s ≡ classes_in old s = omega arith in
      let many : classes_in new s ≡ classes_in old s = omega arith in
      IsStableAt-finer form old new is_form partition finer s inside side many (so_far.stable s side inside was);
}

-- one space is looked at: it has split the classes of its children
pub AreLooked-set : (form : Form) (old new : List SpaceClasses) (looked : List ℕ) (s many : ℕ) → IsForm form → ArePartition form old →
    AreFiner old new → s < length form.spaces → many ≡ classes_in old s → ((side : Side) → IsStableFrom form old new s side) →
    AreLooked form old looked → AreLooked form new (slice_set looked s many)
AreLooked-set form old new looked s many is_form partition finer inside many_is stable so_far =
    let rest = AreLooked-finer form old new looked is_form partition finer so_far in
    let here : (k : ℕ) → k ≡ s → slice_index (slice_set looked s many) k ≡ many = λ k same.
    ap (slice_index (slice_set looked s many)) same ∙ get_or-set_same looked s many 0 (let m = so_far.many in omega arith) in
    let other : (k : ℕ) → (k ≡ s → ⊥) → slice_index (slice_set looked s many) k ≡ slice_index looked k = λ k apart.
    get_or-set_other looked s k many 0 apart in
    record {
      many = length-set looked s many ∙ so_far.many;
      least = λ k k_in. elim (cases_eq k s) [
        | inl same ↦
            let a = here k same in
            let b = finer.least k in
            let e = ap (classes_in old) same in
            let m = many_is in
            omega arith
        | inr apart ↦ let a = other k apart in let b = rest.least k k_in in omega arith
      ];
      stable = λ k side k_in same_many. elim (cases_eq k s) [
        | inl same ↦
            let a = here k same in
            let e = ap (classes_in old) same in
            let f = ap (classes_in new) same in
            let m = many_is in
            let as_many : classes_in new s ≡ classes_in old s = omega arith in
            subst (λ (j : ℕ). IsStableAt form new j side) (sym same)
            (IsStableAt-from form old new is_form partition finer s inside side as_many (stable side))
        | inr apart ↦ rest.stable k side k_in (sym (other k apart) ∙ same_many)
      ];
    }
