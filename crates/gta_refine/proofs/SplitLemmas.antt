-- A space that is looked at splits the classes of a child.
use Rattle.std.proofs.Common.{◌≡◌, ℕ, zero, suc, ◌<◌, ◌≤◌, Bool, true, false, List, [], ◌∷◌, length, Option, Some, None, inl, inr}
use Rattle.std.proofs.Common.{sym, ◌∙◌, ap, refl, subst, arith}
use Rattle.std.specs.Prelude.{slice_get, slice_index, slice_set}
use Rattle.std.proofs.lemmas.List.{get_or-set_same}
use Rattle.std.proofs.lemmas.Bool.{cases_Bool}
use Rattle.std.proofs.lemmas.Option.{slice_get_within}
use Rattle.bdd_nodes.specs.declared.node_ref.NodeRef.{NodeRef}
use Rattle.gta_theory.specs.Minimal.{AreSeparated}
use Rattle.gta_reach.specs.declared.form.FormSpace.{FormSpace}
use Rattle.gta_reach.specs.declared.form.Form.{Form}
use Rattle.gta_reach.specs.declared.sides.Side.{Side}
use Rattle.gta_reach.specs.Form.{guide_of, automaton_of, IsForm}
use Rattle.gta_reach.specs.Sides.{kinds_in, HasRootAt, child_at, child_of, opposite}
use Rattle.gta_classes.specs.declared.part.SpaceClasses.{SpaceClasses}
use Rattle.gta_reach.proofs.ReachLemmas.{none-inside}
use Rattle.gta_classes.specs.Chosen.{IsAmong}
use Rattle.gta_classes.proofs.ChosenLemmas.{marked-inside}
use Rattle.gta_refine.specs.Refined.{part_at, is_reached_in, class_at, ArePartition, AreChildIds, room_in, TakesRoom}
use Rattle.gta_refine.specs.Looked.{IsSplitAt, AreFiner, IsStableFrom, AreChosenAt, AreRows, AreSpread}
use Rattle.gta_refine.proofs.RefineLemmas.{after-part, ArePartition-split, unsplit, separated-child, there-is, child-is, child-inside}
use Rattle.gta_refine.proofs.RefineLemmas.{child-kinds, child-classes, has_root-at, root-inside}
use Rattle.gta_refine.proofs.RoomLemmas.{TakesRoom-part}
use Rattle.gta_refine.proofs.IdsLemmas.{class-like, AreChildIds-rows}
use Rattle.gta_refine.proofs.FinerLemmas.{reached-finer, AreFiner-set}

-- ---- a side with one row

only-one : (z x place : ℕ) → slice_get (z ∷ []) place ≡ Some x → z ≡ x
only-one z x zero there = cc
only-one z x (suc k) there = absurd (let b = slice_get_within (z ∷ []) (suc k) x there in omega arith)

one-own : (own : List ℕ) → length own < 2 → (x y : ℕ) → IsAmong own x → IsAmong own y → x ≡ y
one-own [] few x y x_in y_in = absurd (let b = slice_get_within [] x_in.place x x_in.there in omega arith)
one-own (z ∷ []) few x y x_in y_in = sym (only-one z x x_in.place x_in.there) ∙ only-one z y y_in.place y_in.there
one-own (z ∷ w ∷ rest) few x y x_in y_in = absurd (omega arith)

space-at : (form : Form) (s : ℕ) → s < length form.spaces → (space : FormSpace) × (slice_get form.spaces s ≡ Some space)
space-at form s inside = pick (slice_get form.spaces s) refl
  where
    pick : (o : Option FormSpace) → slice_get form.spaces s ≡ o → (space : FormSpace) × (slice_get form.spaces s ≡ Some space)
    pick None e = absurd (none-inside form.spaces s e inside)
    pick (Some space) e = (space, e)

-- all its states have the same steps
pub IsStableFrom-single : (form : Form) (before now : List SpaceClasses) (s : ℕ) → s < length form.spaces → (side : Side) (own : List ℕ) →
    AreChosenAt form before s side own → length own < 2 → AreFiner before now → IsStableFrom form before now s side
IsStableFrom-single form before now s inside side own chosen_at few finer =
    let space = space-at form s inside in
    let chosen = chosen_at space.0 space.1 in
    record {
      step = λ p q beside label p_reached q_reached beside_reached same.
          let c = child_at (guide_of form) side s in
          let one = chosen.all p (sym (reached-finer before now finer c p) ∙ p_reached) in
          let two = chosen.all q (sym (reached-finer before now finer c q) ∙ q_reached) in
          class-like form before s space.0 space.1 side p q beside label
          (sym one.same ∙ ap (slice_index (kinds_in space.0 side)) (one-own own few one.like two.like one.among two.among) ∙ two.same);
    }

-- ---- a side with more

-- the classes of a child, split by numbers
module _ (form : Form) (is_form : IsForm form) (now : List SpaceClasses) (partition : ArePartition form now)
    (s : ℕ) (space : FormSpace) (at : slice_get form.spaces s ≡ Some space) (side : Side) where
  module _ (ids : List ℕ) (new : List SpaceClasses) (more : Bool) (split : IsSplitAt now (child_of space side) ids new more) where
    inside : child_of space side < length now
    inside = child-inside form is_form now partition s space at side

    more-classes : length (part_at now (child_of space side)).representatives ≤ length (split.part).representatives
    more-classes = elim (cases_Bool more) [
      | inl is_more ↦ let g = split.grown is_more in omega arith
      | inr is_none ↦ let e = ap length (split.unchanged is_none).1 in omega arith
    ]

    pub AreFiner-split : AreFiner now new
    AreFiner-split = subst (λ (xs : List SpaceClasses). AreFiner now xs) (sym split.is)
        (AreFiner-set now (child_of space side) inside split.part ids split.reached (child-classes form is_form now partition s space at side)
        split.classes more-classes split.split)

    pub unchanged-split : more ≡ false → new ≡ now
    unchanged-split none =
        split.is ∙ sym (after-part form now (child_of space side) inside split.part split.reached)
        ∙ unsplit form now (child_of space side) inside (split.part).classes (split.part).representatives (split.unchanged none).0 (split.unchanged none).1

    pub TakesRoom-split : TakesRoom more (room_in now) (room_in new)
    TakesRoom-split = subst (λ (xs : List SpaceClasses). TakesRoom more (room_in now) (room_in xs)) (sym split.is)
        (TakesRoom-part more now (child_of space side) split.part inside (split.classes).few split.grown (λ none. (split.unchanged none).1))

    class-split : (p : ℕ) → class_at new (child_at (guide_of form) side s) p ≡ slice_index (split.part).classes p
    class-split p =
        ap (λ (xs : List SpaceClasses). class_at xs (child_at (guide_of form) side s) p) split.is
        ∙ ap (λ (k : ℕ). class_at (slice_set now (child_of space side) split.part) k p) (child-is form is_form now partition s space at side)
        ∙ ap (λ (x : SpaceClasses). slice_index x.classes p)
        (get_or-set_same now (child_of space side) split.part (record { reached = []; classes = []; representatives = [] }) inside)

    pub same-ids : (p q : ℕ) → is_reached_in now (child_at (guide_of form) side s) p ≡ true →
        is_reached_in now (child_at (guide_of form) side s) q ≡ true →
        class_at new (child_at (guide_of form) side s) p ≡ class_at new (child_at (guide_of form) side s) q → slice_index ids p ≡ slice_index ids q
    same-ids p q p_reached q_reached same =
        let is = child-is form is_form now partition s space at side in
        let here : (x : ℕ) → is_reached_in now (child_at (guide_of form) side s) x ≡ true → is_reached_in now (child_of space side) x ≡ true =
        λ x reached. ap (λ (k : ℕ). is_reached_in now k x) (sym is) ∙ reached in
        ((split.split).together p q (here p p_reached) (here q q_reached) (sym (class-split p) ∙ same ∙ class-split q)).1

  -- the numbers are those of rows
  module _ (numbers : List NodeRef) (own beside : List ℕ) (before : List SpaceClasses) (rows : AreRows form before s side numbers own beside)
      (finer : AreFiner before now) where
    pub rows-roots : (state other : ℕ) → IsAmong own state → IsAmong beside other → HasRootAt space side state other
    rows-roots state other state_in other_in = has_root-at form is_form before rows.partition s space at side state other
        ((rows.chosen_own space at).each state state_in) ((rows.chosen_beside space at).each other other_in)

    many-kinds : length (part_at before (child_at (guide_of form) side s)).reached ≤ length (kinds_in space side)
    many-kinds =
        let k = child-kinds form is_form before rows.partition s space at side in
        let e = ap (λ (k : ℕ). length (part_at before k).reached) (child-is form is_form before rows.partition s space at side) in
        omega arith

    pub rows-kinds : (state : ℕ) → IsAmong own state → state < length (kinds_in space side)
    rows-kinds state state_in =
        let i = marked-inside (part_at before (child_at (guide_of form) side s)).reached state ((rows.chosen_own space at).each state state_in) in
        let m = many-kinds in
        omega arith

    pub rows-many : length numbers ≡ length space.listing.roots
    rows-many = (rows.tells space at).many

    module _ (ids : List ℕ) (spread : AreSpread space side numbers own beside ids) where
      ids-rows : AreChildIds form before s side ids
      ids-rows = AreChildIds-rows form before s space at side numbers own beside spread.kind_ids ids (rows.tells space at) (rows.chosen_own space at)
          (rows.chosen_beside space at) (root-inside form is_form before rows.partition s space at side) spread.are many-kinds spread.spread

      reached-before : (x : ℕ) → is_reached_in now (child_of space side) x ≡ true → is_reached_in before (child_at (guide_of form) side s) x ≡ true
      reached-before x reached = sym (reached-finer before now finer (child_at (guide_of form) side s) x)
          ∙ ap (λ (k : ℕ). is_reached_in now k x) (child-is form is_form now partition s space at side) ∙ reached

      pub rows-long : length (part_at now (child_of space side)).reached ≤ length ids
      rows-long =
          let m = ids-rows.many in
          let e = ap length (finer.marks (child_at (guide_of form) side s)) in
          let f = ap (λ (k : ℕ). length (part_at now k).reached) (child-is form is_form now partition s space at side) in
          omega arith

      module _ (new : List SpaceClasses) (more : Bool) (split : IsSplitAt now (child_of space side) ids new more) where
        pub ArePartition-rows : ArePartition form new
        ArePartition-rows = subst (ArePartition form)
            (after-part form now (child_of space side) (inside ids new more split) split.part split.reached ∙ sym split.is)
            (ArePartition-split form now (child_of space side) (inside ids new more split) (split.part).classes (split.part).representatives ids partition
            split.classes split.split
            (λ p q p_reached q_reached differ.
            let p_was = reached-before p p_reached in
            let q_was = reached-before q q_reached in
            subst (λ (k : ℕ). AreSeparated (guide_of form) (automaton_of form) k p q) (child-is form is_form now partition s space at side)
            (separated-child form before is_form rows.partition s (there-is form is_form before rows.partition s space at) side p q p_was q_was
            (ids-rows.apart p q p_was q_was differ))))

        pub IsStableFrom-rows : IsStableFrom form before new s side
        IsStableFrom-rows = record {
          step = λ p q b label p_reached q_reached b_reached same.
              let c = child_at (guide_of form) side s in
              let other = child_at (guide_of form) (opposite side) s in
              let after = AreFiner-split ids new more split in
              let mid : (k x : ℕ) → is_reached_in new k x ≡ true → is_reached_in now k x ≡ true =
              λ k x reached. sym (reached-finer now new after k x) ∙ reached in
              let was : (k x : ℕ) → is_reached_in new k x ≡ true → is_reached_in before k x ≡ true =
              λ k x reached. sym (reached-finer before now finer k x) ∙ mid k x reached in
              ids-rows.same p q b label (was c p p_reached) (was c q q_reached) (was other b b_reached)
              (same-ids ids new more split p q (mid c p p_reached) (mid c q q_reached) same);
        }
