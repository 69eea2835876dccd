-- The classes of one space are cut in two, and what that keeps of all spaces.
use Rattle.std.proofs.Common.{◌≡◌, ◌≢◌, ℕ, ◌<◌, ◌≤◌, true, List, [], ◌∷◌, ◌++◌, length, inl, inr}
use Rattle.std.proofs.Common.{sym, ◌∙◌, ap, subst, arith}
use Rattle.std.specs.Prelude.{Contains, slice_get, slice_index, slice_set, Some}
use Rattle.std.proofs.lemmas.List.{get_or-set_same, get_or-set_other, length-set}
use Rattle.std.proofs.lemmas.Option.{slice_get_within, slice_get-get_or}
use Rattle.std.proofs.lemmas.Bool.{cases_eq}
use Rattle.gta_theory.proofs.ListedLemmas.{slice_get-push}
use Rattle.gta_theory.specs.Guides.{IsSpace}
use Rattle.gta_theory.specs.Minimal.{AreSeparated}
use Rattle.gta_reach.specs.declared.form.FormSpace.{FormSpace}
use Rattle.gta_reach.specs.declared.form.Form.{Form}
use Rattle.gta_classes.specs.declared.part.SpaceClasses.{SpaceClasses}
use Rattle.gta_reach.specs.declared.sides.Side.{Side}
use Rattle.gta_reach.specs.Form.{guide_of, automaton_of, IsForm}
use Rattle.gta_classes.specs.Classes.{AreClasses}
use Rattle.gta_classes.specs.Cuts.{IsIndicator, Covers, IsCut}
use Rattle.gta_refine.specs.Cuts.{IsCutAt, ClassLists, AllCover}
use Rattle.gta_refine.specs.Looked.{AreFiner}
use Rattle.gta_refine.specs.Givers.{AreGivers}
use Rattle.gta_refine.specs.Refined.{part_at, is_reached_in, ArePartition, GiveOthersAt, room_in}
use Rattle.gta_reach.specs.Sides.{child_at, child_of}
use Rattle.gta_refine.proofs.RoomLemmas.{room-set, room_of}
use Rattle.gta_refine.proofs.RefineLemmas.{ArePartition-split, after-part, separated-child, there-is, child-is, child-inside, child-classes}
use Rattle.gta_refine.proofs.FinerLemmas.{AreFiner-set}

-- the lists of another space stay
pub AllCover-set : (spaces : List SpaceClasses) (lists : List ClassLists) (c : ℕ) (part : SpaceClasses) (own : ClassLists) → AllCover spaces lists →
    c < length spaces → Covers part own.items → AllCover (slice_set spaces c part) (slice_set lists c own)
AllCover-set spaces lists c part own all inside covers =
    let none : SpaceClasses = record { reached = []; classes = []; representatives = [] } in
    record {
      many = length-set lists c own ∙ all.many ∙ sym (length-set spaces c part);
      each = λ s one there. elim (cases_eq s c) [
        | inl same ↦
            let at : slice_get (slice_set lists c own) c ≡ Some own =
            slice_get-get_or (slice_set lists c own) c own (let e = length-set lists c own in let m = all.many in omega arith)
            ∙ ap (λ (x : ClassLists). Some x) (get_or-set_same lists c own own (let m = all.many in omega arith)) in
            let is : Some own ≡ Some one = sym at ∙ ap (slice_get (slice_set lists c own)) (sym same) ∙ there in
            let same_lists : own ≡ one = cc in
            subst (λ (x : ClassLists). Covers (part_at (slice_set spaces c part) s) x.items) same_lists
            (subst (λ (p : SpaceClasses). Covers p own.items)
            (sym (ap (part_at (slice_set spaces c part)) same ∙ get_or-set_same spaces c part none inside)) covers)
        | inr other ↦
            let b = slice_get_within (slice_set lists c own) s one there in
            let at : slice_get lists s ≡ Some one =
            slice_get-get_or lists s one (let e = length-set lists c own in omega arith)
            ∙ ap (λ (x : ClassLists). Some x) (sym (get_or-set_other lists c s own one other))
            ∙ sym (slice_get-get_or (slice_set lists c own) s one b) ∙ there in
            subst (λ (p : SpaceClasses). Covers p one.items) (sym (get_or-set_other spaces c s part none other)) (all.each s one at)
      ];
    }

-- a part with no fewer classes leaves no more room
pub room-less : (spaces : List SpaceClasses) (c : ℕ) (part : SpaceClasses) → c < length spaces →
    length (part_at spaces c).representatives ≤ length part.representatives → room_in (slice_set spaces c part) ≤ room_in spaces
unfolding room_of
room-less spaces c part inside more = let e = room-set spaces c part inside in omega arith

-- the classes of a child are cut
module _ (form : Form) (is_form : IsForm form) (spaces : List SpaceClasses) (partition : ArePartition form spaces)
    (s : ℕ) (there : IsSpace (guide_of form) s) (side : Side) (class : ℕ) (listed ids : List ℕ)
    (givers : AreGivers form spaces s side class listed) (indicator : IsIndicator listed ids) where
  others-given : (p q : ℕ) → is_reached_in spaces (child_at (guide_of form) side s) q ≡ true →
      Contains listed p → (Contains listed q → ⊥) → GiveOthersAt form spaces s side p q
  others-given p q q_reached p_listed q_unlisted =
      let gives = (givers.sound p p_listed).1 in
      record {
        beside = gives.beside;
        label = gives.label;
        reached = gives.reached;
        differs = λ e. q_unlisted (givers.complete q q_reached
            (record { beside = gives.beside; label = gives.label; reached = gives.reached; gives = sym e ∙ gives.gives }));
      }

  others-given-back : (p q : ℕ) → is_reached_in spaces (child_at (guide_of form) side s) p ≡ true →
      (Contains listed p → ⊥) → Contains listed q → GiveOthersAt form spaces s side p q
  others-given-back p q p_reached p_unlisted q_listed =
      let other = others-given q p p_reached q_listed p_unlisted in
      record { beside = other.beside; label = other.label; reached = other.reached; differs = λ e. other.differs (sym e) }

  give-others : (p q : ℕ) → is_reached_in spaces (child_at (guide_of form) side s) p ≡ true →
      is_reached_in spaces (child_at (guide_of form) side s) q ≡ true → slice_index ids p ≢ slice_index ids q → GiveOthersAt form spaces s side p q
  give-others p q p_reached q_reached differ = elim (indicator p) [
    | inl p_one ↦ elim (indicator q) [
      | inl q_one ↦ absurd (differ (p_one.0 ∙ sym q_one.0))
      | inr q_zero ↦ others-given p q q_reached p_one.1 q_zero.1
    ]
    | inr p_zero ↦ elim (indicator q) [
      | inl q_one ↦ others-given-back p q p_reached p_zero.1 q_one.1
      | inr q_zero ↦ absurd (differ (p_zero.0 ∙ sym q_zero.0))
    ]
  ]

  pub separated-cut : (p q : ℕ) → is_reached_in spaces (child_at (guide_of form) side s) p ≡ true →
      is_reached_in spaces (child_at (guide_of form) side s) q ≡ true → slice_index ids p ≢ slice_index ids q →
      AreSeparated (guide_of form) (automaton_of form) (child_at (guide_of form) side s) p q
  separated-cut p q p_reached q_reached differ =
      separated-child form spaces is_form partition s there side p q p_reached q_reached (give-others p q p_reached q_reached differ)

pub ArePartition-cut : (form : Form) (is_form : IsForm form) (spaces : List SpaceClasses) (partition : ArePartition form spaces)
    (s : ℕ) (there : IsSpace (guide_of form) s) (side : Side) (class c : ℕ) (child : child_at (guide_of form) side s ≡ c) (c_inside : c < length spaces)
    (listed : List ℕ) (part : SpaceClasses) → AreGivers form spaces s side class listed →
    part.reached ≡ (part_at spaces c).reached → AreClasses (part_at spaces c).reached part.classes part.representatives →
    IsCut (part_at spaces c).reached listed (part_at spaces c).classes part.classes → ArePartition form (slice_set spaces c part)
ArePartition-cut form is_form spaces partition s there side class c child c_inside listed part givers marks classes cut =
    subst (ArePartition form) (after-part form spaces c c_inside part marks)
    (ArePartition-split form spaces c c_inside part.classes part.representatives cut.ids partition classes cut.split
    (λ p q p_reached q_reached differ.
    subst (λ (k : ℕ). AreSeparated (guide_of form) (automaton_of form) k p q) child
    (separated-cut form is_form spaces partition s there side class listed cut.ids givers cut.indicator p q
    (ap (λ (k : ℕ). is_reached_in spaces k p) child ∙ p_reached) (ap (λ (k : ℕ). is_reached_in spaces k q) child ∙ q_reached) differ)))

-- a space cuts the classes of a child
module _ (form : Form) (is_form : IsForm form) (spaces : List SpaceClasses) (partition : ArePartition form spaces)
    (s : ℕ) (space : FormSpace) (at : slice_get form.spaces s ≡ Some space) (side : Side) (class : ℕ) (listed : List ℕ)
    (givers : AreGivers form spaces s side class listed) where
  pub listed-reached : (q : ℕ) → Contains listed q → is_reached_in spaces (child_of space side) q ≡ true
  listed-reached q q_in = ap (λ (k : ℕ). is_reached_in spaces k q) (sym (child-is form is_form spaces partition s space at side)) ∙ (givers.sound q q_in).0

  module _ (new : List SpaceClasses) (cut : IsCutAt spaces (child_of space side) listed new) where
    pub ArePartition-cut_at : ArePartition form new
    ArePartition-cut_at = subst (ArePartition form) (sym cut.is)
        (ArePartition-cut form is_form spaces partition s (there-is form is_form spaces partition s space at) side class (child_of space side)
        (child-is form is_form spaces partition s space at side) (child-inside form is_form spaces partition s space at side) listed cut.part givers
        cut.reached cut.classes cut.cut)

    pub AreFiner-cut_at : AreFiner spaces new
    AreFiner-cut_at = subst (λ (xs : List SpaceClasses). AreFiner spaces xs) (sym cut.is)
        (AreFiner-set spaces (child_of space side) (child-inside form is_form spaces partition s space at side) cut.part (cut.cut).ids cut.reached
        (child-classes form is_form spaces partition s space at side) cut.classes cut.more (cut.cut).split)

    pub room-cut_at : room_in new ≤ room_in spaces
    room-cut_at =
        let e = ap room_in cut.is in
        let l = room-less spaces (child_of space side) cut.part (child-inside form is_form spaces partition s space at side) cut.more in
        omega arith

-- the lists of one space more
pub AllCover-push : (spaces : List SpaceClasses) (lists : List ClassLists) (below : ℕ) (more : ClassLists) → length lists ≡ below →
    ((s : ℕ) (one : ClassLists) → slice_get lists s ≡ Some one → Covers (part_at spaces s) one.items) → Covers (part_at spaces below) more.items →
    (s : ℕ) (one : ClassLists) → slice_get (lists ++ more ∷ []) s ≡ Some one → Covers (part_at spaces s) one.items
AllCover-push spaces lists below more many each new s one there = elim (slice_get-push lists more one s there) [
  | inl before ↦ each s one before
  | inr last ↦
      let is : below ≡ s = sym many ∙ sym last.0 in
      subst (λ (k : ℕ). Covers (part_at spaces k) one.items) is (subst (λ (x : ClassLists). Covers (part_at spaces below) x.items) last.1 new)
]
