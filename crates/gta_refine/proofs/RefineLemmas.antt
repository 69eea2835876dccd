-- Classes of the reached states of all spaces.
use Rattle.std.proofs.Common.{◌≡◌, ◌≢◌, ℕ, ◌+◌, ◌<◌, ◌≤◌, ◌^◌, Bool, true, false, List, [], ◌∷◌, ◌++◌, length, map, Some, inl, inr}
use Rattle.std.proofs.Common.{sym, ◌∙◌, ap, refl, subst, arith, length-append}
use Rattle.std.specs.Prelude.{slice_get, slice_index, slice_index_or, slice_set, ◌↔◌, All}
use Rattle.std.proofs.lemmas.List.{get_or-set_same, get_or-set_other, length-set, set-get_or, get_or-map, get_or_default}
use Rattle.std.proofs.Math.ListN.{get_or-append}
use Rattle.std.proofs.Math.Seq.{get_or-append_seam}
use Rattle.std.proofs.lemmas.Bool.{cases_eq, cases_lt, ltb-true, lt-ltb}
use Rattle.std.proofs.lemmas.Option.{slice_get_within}
use Rattle.bdd_list.specs.declared.listing.Listed.TheVariants.{Leaf}
use Rattle.bdd_list.specs.Listing.{IsIn, AreOrdered}
use Rattle.gta_theory.specs.Guides.{IsSpace, left, right}
use Rattle.gta_theory.specs.Automata.{Has}
use Rattle.gta_theory.specs.Constructions.{IsReached, IsClosed, IsNaming}
use Rattle.gta_theory.specs.Minimal.{AreSeparated, at_root, below_left, below_right}
use Rattle.gta_theory.specs.Numbered.{Below}
use Rattle.gta_theory.proofs.AutomataLemmas.{IsClosed-reached, Accepts-named}
use Rattle.gta_theory.proofs.MinimalLemmas.{IsMinimal-classes}
use Rattle.gta_reach.specs.declared.form.FormSpace.{FormSpace}
use Rattle.gta_reach.specs.declared.form.Form.{Form}
use Rattle.gta_classes.specs.declared.part.SpaceClasses.{SpaceClasses}
use Rattle.gta_reach.specs.declared.sides.Side.{Side}
use Rattle.gta_reach.specs.declared.sides.Side.TheVariants.{Left, Right}
use Rattle.gta_reach.specs.Form.{cell_in, guide_of, states_of, initial_of, automaton_of, IsForm}
use Rattle.gta_classes.specs.Chosen.{is_marked, AreChosen}
use Rattle.gta_reach.specs.Reached.{is_reached, AreReached, HasRoot}
use Rattle.gta_reach.specs.Sides.{kinds_in, cell_at, HasRootAt, child_at, child_of, opposite}
use Rattle.gta_classes.specs.Classes.{AreClasses, IsSplit}
use Rattle.gta_refine.specs.Refined.{part_at, is_reached_in, class_at, representative_at, classes_in, quotient_of, ArePartition}
use Rattle.gta_refine.specs.Refined.{bit_of}
use Rattle.gta_refine.specs.Refined.{IsStableAt, GiveOthersAt, AreSingle, IsRefined}
use Rattle.gta_classes.proofs.ChosenLemmas.{marked-inside}
use Rattle.gta_reach.proofs.ReachLemmas.{many_spaces, initial-form, left-at, right-at, few-states, accepting-form}

-- the classes of one space are split
module _ (form : Form) (spaces : List SpaceClasses) (c : ℕ) (c_inside : c < length spaces) (new_classes new_representatives : List ℕ) where
  new_part : SpaceClasses
  new_part = record { reached = (part_at spaces c).reached; classes = new_classes; representatives = new_representatives }

  pub after_split : List SpaceClasses
  after_split = slice_set spaces c new_part

  part-here : part_at after_split c ≡ new_part
  unfolding after_split new_part
  part-here = get_or-set_same spaces c new_part (record { reached = []; classes = []; representatives = [] }) c_inside

  part-other : (s : ℕ) → (s ≡ c → ⊥) → part_at after_split s ≡ part_at spaces s
  unfolding after_split
  part-other s other = get_or-set_other spaces c s new_part (record { reached = []; classes = []; representatives = [] }) other

  pub marks-after : (s : ℕ) → (part_at after_split s).reached ≡ (part_at spaces s).reached
  unfolding new_part
  marks-after s = elim (cases_eq s c) [
    | inl same ↦ ap (λ (k : ℕ). (part_at after_split k).reached) same ∙ ap (λ (part : SpaceClasses). part.reached) part-here
        ∙ ap (λ (k : ℕ). (part_at spaces k).reached) (sym same)
    | inr other ↦ ap (λ (part : SpaceClasses). part.reached) (part-other s other)
  ]

  reached-after : (s q : ℕ) → is_reached_in after_split s q ≡ is_reached_in spaces s q
  reached-after s q = ap (λ (marks : List Bool). is_marked marks q) (marks-after s)

  class-here : (q : ℕ) → class_at after_split c q ≡ slice_index new_classes q
  unfolding new_part
  class-here q = ap (λ (part : SpaceClasses). slice_index part.classes q) part-here

  class-other : (s q : ℕ) → (s ≡ c → ⊥) → class_at after_split s q ≡ class_at spaces s q
  class-other s q other = ap (λ (part : SpaceClasses). slice_index part.classes q) (part-other s other)

  pub IsReached-after : IsReached (guide_of form) (automaton_of form) (Has (is_reached_in spaces)) →
      IsReached (guide_of form) (automaton_of form) (Has (is_reached_in after_split))
  IsReached-after reached = record {
    state = λ s q there. (
      (λ h. (reached.state s q there).0 (sym (reached-after s q) ∙ h)),
      (λ v. reached-after s q ∙ (reached.state s q there).1 v),
    );
  }

  AreClasses-after : (s : ℕ) → IsSpace (guide_of form) s → AreClasses (part_at spaces c).reached new_classes new_representatives →
      ((k : ℕ) → IsSpace (guide_of form) k → AreClasses (part_at spaces k).reached (part_at spaces k).classes (part_at spaces k).representatives) →
      AreClasses (part_at after_split s).reached (part_at after_split s).classes (part_at after_split s).representatives
  unfolding new_part
  AreClasses-after s there here classes = elim (cases_eq s c) [
    | inl same ↦ subst (λ (k : ℕ). AreClasses (part_at after_split k).reached (part_at after_split k).classes (part_at after_split k).representatives)
        (sym same)
        (subst (λ (part : SpaceClasses). AreClasses part.reached part.classes part.representatives) (sym part-here) here)
    | inr other ↦ subst (λ (part : SpaceClasses). AreClasses part.reached part.classes part.representatives) (sym (part-other s other)) (classes s there)
  ]

  -- a partition again, where states that were split are kept apart
  pub ArePartition-split : (ids : List ℕ) → ArePartition form spaces → AreClasses (part_at spaces c).reached new_classes new_representatives →
      IsSplit (part_at spaces c).reached ids (part_at spaces c).classes new_classes →
      ((p q : ℕ) → is_reached_in spaces c p ≡ true → is_reached_in spaces c q ≡ true → slice_index ids p ≢ slice_index ids q →
      AreSeparated (guide_of form) (automaton_of form) c p q) →
      ArePartition form after_split
  unfolding after_split
  ArePartition-split ids partition here split separated = record {
    all = length-set spaces c new_part ∙ partition.all;
    many = λ s there. ap length (marks-after s) ∙ partition.many s there;
    classes = λ s there. AreClasses-after s there here partition.classes;
    reached = IsReached-after partition.reached;
    apart = λ s p q there p_reached q_reached differ.
        let p_was = sym (reached-after s p) ∙ p_reached in
        let q_was = sym (reached-after s q) ∙ q_reached in
        elim (cases_eq s c) [
          | inl same ↦
              let p_here = sym (ap (λ (k : ℕ). is_reached_in spaces k p) same) ∙ p_was in
              let q_here = sym (ap (λ (k : ℕ). is_reached_in spaces k q) same) ∙ q_was in
              let differ_here : slice_index new_classes p ≢ slice_index new_classes q = λ e. differ
              (ap (λ (k : ℕ). class_at after_split k p) same ∙ class-here p ∙ e ∙ sym (class-here q) ∙ ap (λ (k : ℕ). class_at after_split k q) (sym same)) in
              subst (λ (k : ℕ). AreSeparated (guide_of form) (automaton_of form) k p q) (sym same)
              (elim (cases_eq (slice_index (part_at spaces c).classes p) (slice_index (part_at spaces c).classes q)) [
                | inr other_class ↦ partition.apart c p q (subst (IsSpace (guide_of form)) same there) p_here q_here other_class
                | inl same_class ↦ separated p q p_here q_here (λ same_id. differ_here (split.same p q p_here q_here same_class same_id))
              ])
          | inr other ↦ partition.apart s p q there p_was q_was
              (λ e. differ (class-other s p other ∙ e ∙ sym (class-other s q other)))
        ];
    accepting = λ p q p_reached q_reached same_class.
        let p_was = sym (reached-after 0 p) ∙ p_reached in
        let q_was = sym (reached-after 0 q) ∙ q_reached in
        elim (cases_eq 0 c) [
          | inl same ↦
              let p_here = sym (ap (λ (k : ℕ). is_reached_in spaces k p) same) ∙ p_was in
              let q_here = sym (ap (λ (k : ℕ). is_reached_in spaces k q) same) ∙ q_was in
              let new_same : slice_index new_classes p ≡ slice_index new_classes q =
              sym (class-here p) ∙ sym (ap (λ (k : ℕ). class_at after_split k p) same) ∙ same_class
              ∙ ap (λ (k : ℕ). class_at after_split k q) same ∙ class-here q in
              partition.accepting p q p_was q_was
              (ap (λ (k : ℕ). class_at spaces k p) same ∙ (split.together p q p_here q_here new_same).0 ∙ ap (λ (k : ℕ). class_at spaces k q) (sym same))
          | inr other ↦ partition.accepting p q p_was q_was (sym (class-other 0 p other) ∙ same_class ∙ class-other 0 q other)
        ];
  }

  -- nothing is split
  pub unsplit : new_classes ≡ (part_at spaces c).classes → new_representatives ≡ (part_at spaces c).representatives → after_split ≡ spaces
  unfolding after_split new_part
  unsplit classes_same representatives_same =
      ap (λ (xs : List ℕ). slice_set spaces c (record { reached = (part_at spaces c).reached; classes = xs; representatives = new_representatives }))
      classes_same
      ∙ ap (λ (xs : List ℕ). slice_set spaces c (record { reached = (part_at spaces c).reached; classes = (part_at spaces c).classes; representatives = xs }))
      representatives_same
      ∙ set-get_or spaces c (record { reached = []; classes = []; representatives = [] })

-- the part is put where it was
pub after-part : (form : Form) (spaces : List SpaceClasses) (c : ℕ) (c_inside : c < length spaces) (part : SpaceClasses) →
    part.reached ≡ (part_at spaces c).reached → after_split form spaces c c_inside part.classes part.representatives ≡ slice_set spaces c part
unfolding after_split new_part
after-part form spaces c c_inside part marks =
    ap (λ (xs : List Bool). slice_set spaces c (record { reached = xs; classes = part.classes; representatives = part.representatives })) (sym marks)

-- what steps keep apart in the space is kept apart in the child
pub separated-child : (form : Form) (spaces : List SpaceClasses) → IsForm form → ArePartition form spaces → (s : ℕ) → IsSpace (guide_of form) s →
    (side : Side) (p q : ℕ) → is_reached_in spaces (child_at (guide_of form) side s) p ≡ true →
    is_reached_in spaces (child_at (guide_of form) side s) q ≡ true → GiveOthersAt form spaces s side p q →
    AreSeparated (guide_of form) (automaton_of form) (child_at (guide_of form) side s) p q
separated-child form spaces is_form partition s there Left p q p_reached q_reached give =
    let g = guide_of form in
    let A = automaton_of form in
    let closed = IsClosed-reached g is_form.guide A is_form.stable (Has (is_reached_in spaces)) partition.reached in
    below_left s p q give.beside give.label there
    ((partition.reached.state (right g s) give.beside (is_form.guide.right_inside s there)).0 give.reached)
    (partition.apart s (A.step s p give.beside give.label) (A.step s q give.beside give.label) there
    (closed.step s p give.beside give.label there p_reached give.reached)
    (closed.step s q give.beside give.label there q_reached give.reached) give.differs)
separated-child form spaces is_form partition s there Right p q p_reached q_reached give =
    let g = guide_of form in
    let A = automaton_of form in
    let closed = IsClosed-reached g is_form.guide A is_form.stable (Has (is_reached_in spaces)) partition.reached in
    below_right s p q give.beside give.label there
    ((partition.reached.state (left g s) give.beside (is_form.guide.left_inside s there)).0 give.reached)
    (partition.apart s (A.step s give.beside p give.label) (A.step s give.beside q give.label) there
    (closed.step s give.beside p give.label there give.reached p_reached)
    (closed.step s give.beside q give.label there give.reached q_reached) give.differs)

-- one class in each of the first spaces
pub record IsSingle (reached : List (List Bool)) (spaces : List SpaceClasses) (s : ℕ) : Type 0 where
  pub marks : (part_at spaces s).reached ≡ slice_index_or reached s []
  pub classes : AreClasses (part_at spaces s).reached (part_at spaces s).classes (part_at spaces s).representatives
  pub one : length (part_at spaces s).representatives ≡ 1

pub record SinglesBelow (reached : List (List Bool)) (spaces : List SpaceClasses) (below : ℕ) : Type 0 where
  pub all : length spaces ≡ below
  pub each : (s : ℕ) → s < below → IsSingle reached spaces s

pub SinglesBelow-none : (reached : List (List Bool)) → SinglesBelow reached [] 0
SinglesBelow-none reached = record { all = refl; each = λ s inside. absurd (omega arith) }

pub SinglesBelow-push : (reached : List (List Bool)) (spaces : List SpaceClasses) (below : ℕ) (part : SpaceClasses) → SinglesBelow reached spaces below →
    part.reached ≡ slice_index_or reached below [] → AreClasses part.reached part.classes part.representatives →
    length part.representatives ≡ 1 → SinglesBelow reached (spaces ++ part ∷ []) (below + 1)
SinglesBelow-push reached spaces below part so_far marks classes one =
    let none : SpaceClasses = record { reached = []; classes = []; representatives = [] } in
    record {
      all = length-append spaces (part ∷ []) ∙ (let a = so_far.all in omega arith);
      each = λ s inside. elim (cases_lt s below) [
        | inl before ↦
            let was = so_far.each s before in
            let at : part_at (spaces ++ part ∷ []) s ≡ part_at spaces s = get_or-append spaces (part ∷ []) none s (let a = so_far.all in omega arith) in
            record {
              marks = ap (λ (p : SpaceClasses). p.reached) at ∙ was.marks;
              classes = subst (λ (p : SpaceClasses). AreClasses p.reached p.classes p.representatives) (sym at) was.classes;
              one = ap (λ (p : SpaceClasses). length p.representatives) at ∙ was.one;
            }
        | inr last ↦
            let is : s ≡ below = omega arith in
            let at : part_at (spaces ++ part ∷ []) s ≡ part = ap (part_at (spaces ++ part ∷ [])) (is ∙ sym so_far.all)
            ∙ get_or-append_seam spaces part [] none in
            record {
              marks = ap (λ (p : SpaceClasses). p.reached) at ∙ marks ∙ ap (λ (k : ℕ). slice_index_or reached k []) (sym is);
              classes = subst (λ (p : SpaceClasses). AreClasses p.reached p.classes p.representatives) (sym at) classes;
              one = ap (λ (p : SpaceClasses). length p.representatives) at ∙ one;
            }
      ];
    }

-- the initial state is reached
pub initial-reached : (form : Form) (reached : List (List Bool)) → IsForm form → AreReached form reached → (s : ℕ) → IsSpace (guide_of form) s →
    is_reached reached s (initial_of form s) ≡ true
initial-reached form reached is_form all s there =
    subst (λ (q : ℕ). is_reached reached s q ≡ true) (initial-form form s)
    ((IsClosed-reached (guide_of form) is_form.guide (automaton_of form) is_form.stable (Has (is_reached reached)) all.exactly).initial s there)

pub AreSingle-all : (form : Form) (reached : List (List Bool)) (spaces : List SpaceClasses) → AreReached form reached →
    SinglesBelow reached spaces (length form.spaces) → AreSingle form spaces
AreSingle-all form reached spaces all singles =
    let at : (s : ℕ) → IsSpace (guide_of form) s → IsSingle reached spaces s = λ s there. singles.each s (let e = many_spaces form in omega arith) in
    record {
      all = singles.all;
      many = λ s there. ap length (at s there).marks ∙ all.many s there;
      classes = λ s there. (at s there).classes;
      one = λ s there. (at s there).one;
      reached = record {
        state = λ s q there.
            let e : is_reached_in spaces s q ≡ is_reached reached s q = ap (λ (marks : List Bool). is_marked marks q) (at s there).marks in (
              (λ h. (all.exactly.state s q there).0 (sym e ∙ h)),
              (λ v. e ∙ (all.exactly.state s q there).1 v),
            );
      };
    }

-- the first classes: one in each space but space 0, which has those of accepting states and of others
module _ (form : Form) (spaces : List SpaceClasses) (is_form : IsForm form) (single : AreSingle form spaces) where
  same-single : (s p q : ℕ) → IsSpace (guide_of form) s → is_reached_in spaces s p ≡ true → is_reached_in spaces s q ≡ true → class_at spaces s p ≡ class_at
      spaces s q
  same-single s p q there p_reached q_reached =
      let classes = single.classes s there in
      let one = single.one s there in
      let m = classes.many in
      let a = classes.within p (let i = marked-inside (part_at spaces s).reached p p_reached in omega arith) in
      let b = classes.within q (let i = marked-inside (part_at spaces s).reached q q_reached in omega arith) in
      omega arith

  pub zero_inside : 0 < length spaces
  zero_inside = let a = is_form.guide.not_empty in let b = many_spaces form in let c = single.all in omega arith

  pub ArePartition-first : (bits new_classes new_representatives : List ℕ) →
      AreClasses (part_at spaces 0).reached new_classes new_representatives →
      IsSplit (part_at spaces 0).reached bits (part_at spaces 0).classes new_classes →
      ((p q : ℕ) → is_reached_in spaces 0 p ≡ true → is_reached_in spaces 0 q ≡ true →
      (slice_index bits p ≡ slice_index bits q) ↔ ((automaton_of form).accepting p ≡ (automaton_of form).accepting q)) →
      ArePartition form (after_split form spaces 0 zero_inside new_classes new_representatives)
  unfolding after_split
  ArePartition-first bits new_classes new_representatives here split exactly =
      let after = after_split form spaces 0 zero_inside new_classes new_representatives in
      let was = reached-after form spaces 0 zero_inside new_classes new_representatives in
      record {
        all = length-set spaces 0 (new_part form spaces 0 zero_inside new_classes new_representatives) ∙ single.all;
        many = λ s there. ap length (marks-after form spaces 0 zero_inside new_classes new_representatives s) ∙ single.many s there;
        classes = λ s there. AreClasses-after form spaces 0 zero_inside new_classes new_representatives s there here single.classes;
        reached = IsReached-after form spaces 0 zero_inside new_classes new_representatives single.reached;
        apart = λ s p q there p_reached q_reached differ.
            let p_was = sym (was s p) ∙ p_reached in
            let q_was = sym (was s q) ∙ q_reached in
            elim (cases_eq s 0) [
              | inl same ↦
                  let p_here = sym (ap (λ (k : ℕ). is_reached_in spaces k p) same) ∙ p_was in
                  let q_here = sym (ap (λ (k : ℕ). is_reached_in spaces k q) same) ∙ q_was in
                  let at = class-here form spaces 0 zero_inside new_classes new_representatives in
                  subst (λ (k : ℕ). AreSeparated (guide_of form) (automaton_of form) k p q) (sym same)
                  (at_root p q (λ e. differ (ap (λ (k : ℕ). class_at after k p) same ∙ at p
                  ∙ split.same p q p_here q_here (same-single 0 p q is_form.guide.not_empty p_here q_here) ((exactly p q p_here q_here).1 e)
                  ∙ sym (at q) ∙ ap (λ (k : ℕ). class_at after k q) (sym same))))
              | inr other ↦
                  let at = class-other form spaces 0 zero_inside new_classes new_representatives in
                  absurd (differ (at s p other ∙ same-single s p q there p_was q_was ∙ sym (at s q other)))
            ];
        accepting = λ p q p_reached q_reached same_class.
            let p_was = sym (was 0 p) ∙ p_reached in
            let q_was = sym (was 0 q) ∙ q_reached in
            let at = class-here form spaces 0 zero_inside new_classes new_representatives in
            (exactly p q p_was q_was).0 (split.together p q p_was q_was (sym (at p) ∙ same_class ∙ at q)).1;
      }

-- stable everywhere: the automaton of classes
module _ (form : Form) (spaces : List SpaceClasses) (is_form : IsForm form) (partition : ArePartition form spaces)
    (stable_left : (s : ℕ) → s < length form.spaces → IsStableAt form spaces s Left)
    (stable_right : (s : ℕ) → s < length form.spaces → IsStableAt form spaces s Right) where
  closed : IsClosed (guide_of form) (automaton_of form) (Has (is_reached_in spaces))
  closed = IsClosed-reached (guide_of form) is_form.guide (automaton_of form) is_form.stable (Has (is_reached_in spaces)) partition.reached

  space-inside : (s : ℕ) → IsSpace (guide_of form) s → s < length form.spaces
  space-inside s there = let e = many_spaces form in omega arith

  class-within : (s q : ℕ) → IsSpace (guide_of form) s → is_reached_in spaces s q ≡ true → class_at spaces s q < classes_in spaces s
  class-within s q there reached =
      let classes = partition.classes s there in
      classes.within q (let i = marked-inside (part_at spaces s).reached q reached in let m = classes.many in omega arith)

  -- the representative of the class of a state
  representative-reached : (s q : ℕ) → IsSpace (guide_of form) s → is_reached_in spaces s q ≡ true →
      is_reached_in spaces s (representative_at spaces s (class_at spaces s q)) ≡ true
  representative-reached s q there reached = (partition.classes s there).inside (class_at spaces s q) (class-within s q there reached)

  representative-class : (s q : ℕ) → IsSpace (guide_of form) s → is_reached_in spaces s q ≡ true →
      class_at spaces s q ≡ class_at spaces s (representative_at spaces s (class_at spaces s q))
  representative-class s q there reached = sym ((partition.classes s there).has (class_at spaces s q) (class-within s q there reached))

  naming : IsNaming (guide_of form) (automaton_of form) (Has (is_reached_in spaces)) (quotient_of form spaces) (class_at spaces)
  unfolding quotient_of
  naming = record {
    initial = λ s there. refl;
    step = λ s p q label there p_reached q_reached.
        let g = guide_of form in
        let l_there = is_form.guide.left_inside s there in
        let r_there = is_form.guide.right_inside s there in
        let p' = representative_at spaces (left g s) (class_at spaces (left g s) p) in
        let q' = representative_at spaces (right g s) (class_at spaces (right g s) q) in
        (stable_left s (space-inside s there)).step p p' q label p_reached (representative-reached (left g s) p l_there p_reached) q_reached
        (representative-class (left g s) p l_there p_reached)
        ∙ (stable_right s (space-inside s there)).step q q' p' label q_reached (representative-reached (right g s) q r_there q_reached)
        (representative-reached (left g s) p l_there p_reached) (representative-class (right g s) q r_there q_reached);
    accepting = λ q q_reached. partition.accepting q (representative_at spaces 0 (class_at spaces 0 q)) q_reached
        (representative-reached 0 q is_form.guide.not_empty q_reached) (representative-class 0 q is_form.guide.not_empty q_reached);
  }

  pub IsRefined-stable : IsRefined form spaces
  IsRefined-stable = record {
    all = partition.all;
    many = partition.many;
    classes = partition.classes;
    reached = partition.reached;
    naming = naming;
    minimal = IsMinimal-classes (guide_of form) is_form.guide (automaton_of form) is_form.stable (Has (is_reached_in spaces)) partition.reached
        (quotient_of form spaces) (class_at spaces) naming (Below (classes_in spaces))
        (λ s x there. (
          (λ below.
              let inside = ltb-true x (classes_in spaces s) below in
              (representative_at spaces s x, (partition.classes s there).inside x inside, (partition.classes s there).has x inside)),
          (λ q. lt-ltb x (classes_in spaces s) (subst (λ (k : ℕ). k < classes_in spaces s) q.2 (class-within s q.0 there q.1))),
        ))
        partition.apart;
    apart = partition.apart;
    same = λ a. Accepts-named (guide_of form) is_form.guide (automaton_of form) (Has (is_reached_in spaces)) (quotient_of form spaces)
        (class_at spaces) closed naming a;
  }

-- a space and its children
module _ (form : Form) (is_form : IsForm form) (spaces : List SpaceClasses) (partition : ArePartition form spaces)
    (s : ℕ) (space : FormSpace) (at : slice_get form.spaces s ≡ Some space) where
  pub there-is : IsSpace (guide_of form) s
  there-is = let e = many_spaces form in let b = slice_get_within form.spaces s space at in omega arith

  pub child-space : (side : Side) → IsSpace (guide_of form) (child_at (guide_of form) side s)
  child-space Left = is_form.guide.left_inside s there-is
  child-space Right = is_form.guide.right_inside s there-is

  pub child-is : (side : Side) → child_at (guide_of form) side s ≡ child_of space side
  child-is Left = left-at form s space at
  child-is Right = right-at form s space at

  pub child-inside : (side : Side) → child_of space side < length spaces
  child-inside side = let e = child-is side in let b = child-space side in let m = many_spaces form in let a = partition.all in omega arith

  pub child-many : (side : Side) → length (part_at spaces (child_of space side)).reached ≡ states_of form (child_at (guide_of form) side s)
  child-many side = ap (λ (k : ℕ). length (part_at spaces k).reached) (sym (child-is side)) ∙ partition.many (child_at (guide_of form) side s)
      (child-space side)

  kinds-states : (side : Side) → states_of form (child_at (guide_of form) side s) ≤ length (kinds_in space side)
  kinds-states Left = (is_form.spaces s space at).rows
  kinds-states Right = (is_form.spaces s space at).columns

  pub child-kinds : (side : Side) → length (part_at spaces (child_of space side)).reached ≤ length (kinds_in space side)
  child-kinds side = let m = child-many side in let k = kinds-states side in omega arith

  pub child-few : (side : Side) → length (part_at spaces (child_of space side)).reached ≤ 2 ^ 31
  child-few side = let m = child-many side in let f = few-states form is_form (child_at (guide_of form) side s) (child-space side) in omega arith

  state-below : (k q : ℕ) → IsSpace (guide_of form) k → is_reached_in spaces k q ≡ true → q < states_of form k
  state-below k q there reached =
      let i = marked-inside (part_at spaces k).reached q reached in let m = partition.many k there in omega arith

  has_root-in : (l r : ℕ) → is_reached_in spaces (left (guide_of form) s) l ≡ true → is_reached_in spaces (right (guide_of form) s) r ≡ true → HasRoot space l r
  has_root-in l r l_reached r_reached =
      let fs = is_form.spaces s space at in
      let l_in = state-below (left (guide_of form) s) l (child-space Left) l_reached in
      let r_in = state-below (right (guide_of form) s) r (child-space Right) r_reached in
      record {
        row = let e = fs.rows in omega arith;
        column = let e = fs.columns in omega arith;
        cell = fs.cells l r l_in r_in;
        root = fs.roots l r l_in r_in;
        inside = fs.inside (cell_in space l r) (fs.roots l r l_in r_in);
      }

  pub has_root-at : (side : Side) (p b : ℕ) → is_reached_in spaces (child_at (guide_of form) side s) p ≡ true →
      is_reached_in spaces (child_at (guide_of form) (opposite side) s) b ≡ true → HasRootAt space side p b
  has_root-at Left p b p_reached b_reached = has_root-in p b p_reached b_reached
  has_root-at Right p b p_reached b_reached = has_root-in b p b_reached p_reached

  cell-inside : (side : Side) (p b : ℕ) → HasRootAt space side p b → cell_at space side p b < length space.listing.roots
  cell-inside Left p b has = has.root
  cell-inside Right p b has = has.root

  pub root-inside : (side : Side) (p b : ℕ) → is_reached_in spaces (child_at (guide_of form) side s) p ≡ true →
      is_reached_in spaces (child_at (guide_of form) (opposite side) s) b ≡ true → cell_at space side p b < length space.listing.roots
  root-inside side p b p_reached b_reached = cell-inside side p b (has_root-at side p b p_reached b_reached)

  pub child-chosen : (side : Side) (chosen : List ℕ) → AreChosen (kinds_in space side) (part_at spaces (child_of space side)).reached chosen →
      AreChosen (kinds_in space side) (part_at spaces (child_at (guide_of form) side s)).reached chosen
  child-chosen side chosen are =
      subst (λ (k : ℕ). AreChosen (kinds_in space side) (part_at spaces k).reached chosen) (sym (child-is side)) are

  pub child-classes : (side : Side) → AreClasses (part_at spaces (child_of space side)).reached (part_at spaces (child_of space side)).classes
      (part_at spaces (child_of space side)).representatives
  child-classes side = subst (λ (k : ℕ). AreClasses (part_at spaces k).reached (part_at spaces k).classes (part_at spaces k).representatives) (child-is side)
      (partition.classes (child_at (guide_of form) side s) (child-space side))

  pub small-classes : All (λ class. class < 2 ^ 31) (part_at spaces s).classes
  small-classes = λ k d k_in.
      let are = partition.classes s there-is in
      let w = are.within k k_in in
      let f = are.few in
      let e = get_or_default (part_at spaces s).classes k d 0 k_in in
      omega arith

  pub ordered-nodes : AreOrdered space.listing.nodes
  ordered-nodes = (is_form.spaces s space at).ordered

  pub roots-inside : All (IsIn space.listing.nodes) space.listing.roots
  roots-inside = λ k d k_in. subst (IsIn space.listing.nodes) (sym (get_or_default space.listing.roots k d (Leaf 0) k_in))
      ((is_form.spaces s space at).inside k k_in)

-- bits say which states are accepting
pub bits-say : (form : Form) (bits : List ℕ) (p q : ℕ) → bits ≡ map bit_of form.accepting → p < length form.accepting → q < length form.accepting →
    (slice_index bits p ≡ slice_index bits q) ↔ ((automaton_of form).accepting p ≡ (automaton_of form).accepting q)
bits-say form bits p q are p_in q_in =
    let at_p : slice_index bits p ≡ bit_of ((automaton_of form).accepting p) = ap (λ (xs : List ℕ). slice_index xs p) are
    ∙ get_or-map bit_of form.accepting p false 0 p_in ∙ ap bit_of (sym (accepting-form form p)) in
    let at_q : slice_index bits q ≡ bit_of ((automaton_of form).accepting q) = ap (λ (xs : List ℕ). slice_index xs q) are
    ∙ get_or-map bit_of form.accepting q false 0 q_in ∙ ap bit_of (sym (accepting-form form q)) in
    ((λ e. bit-same ((automaton_of form).accepting p) ((automaton_of form).accepting q) (sym at_p ∙ e ∙ at_q)), (λ e. at_p ∙ ap bit_of e ∙ sym at_q))
  where
    bit-same : (a b : Bool) → bit_of a ≡ bit_of b → a ≡ b
    bit-same true true e = refl
    bit-same true false e = absurd (omega arith)
    bit-same false true e = absurd (omega arith)
    bit-same false false e = refl
