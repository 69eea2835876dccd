-- Numbers of the states of a child, by the rows of numbers that they have.
use Rattle.std.proofs.Common.{◌≡◌, ◌≢◌, ℕ, zero, suc, ◌<◌, ◌≤◌, true, List, [], ◌∷◌, length, map, Some, ◌⊎◌, inl, inr}
use Rattle.std.proofs.Common.{sym, ◌∙◌, ap, refl, arith}
use Rattle.std.specs.Prelude.{slice_get, slice_index}
use Rattle.std.proofs.lemmas.List.{get_or-map, length-map}
use Rattle.std.proofs.lemmas.Bool.{cases_eq}
use Rattle.labels.specs.Labels.{Label}
use Rattle.bdd_nodes.specs.declared.node_ref.NodeRef.{NodeRef}
use Rattle.bdd_list.specs.Listing.{function_of}
use Rattle.gta_reach.specs.declared.form.FormSpace.{FormSpace}
use Rattle.gta_reach.specs.declared.form.Form.{Form}
use Rattle.gta_classes.specs.declared.part.SpaceClasses.{SpaceClasses}
use Rattle.gta_reach.specs.declared.sides.Side.{Side}
use Rattle.gta_reach.specs.declared.sides.Side.TheVariants.{Left, Right}
use Rattle.gta_reach.specs.Form.{root_in, guide_of, automaton_of}
use Rattle.gta_classes.specs.Chosen.{IsAmong, AreChosen}
use Rattle.gta_refine.specs.Numbered.{number_at, class_given, TellApart}
use Rattle.gta_refine.specs.Rows.{row_of, id_of, AreIds}
use Rattle.gta_reach.specs.Sides.{kinds_in, cell_at, child_at, opposite, step_by}
use Rattle.gta_refine.specs.Refined.{part_at, is_reached_in, class_at}
use Rattle.gta_refine.specs.Refined.{AreChildIds}
use Rattle.gta_classes.proofs.ChosenLemmas.{marked-inside}
use Rattle.gta_reach.proofs.ReachLemmas.{step-at, cell-same}
use Rattle.gta_refine.proofs.RowsLemmas.{row_of-same}

-- a place where two lists of numbers differ
pub record DifferAt (f h : ℕ → NodeRef) (xs : List ℕ) : Type 0 where
  pub place : ℕ
  pub number : ℕ
  pub there : slice_get xs place ≡ Some number
  pub differs : f number ≢ h number

cases_ref : (a b : NodeRef) → (a ≡ b) ⊎ (a ≢ b)
cases_ref a b = elim (cases_eq a.word b.word) [
  | inl same ↦ inl (ap (λ (w : ℕ). let r : NodeRef = record { word = w } in r) same)
  | inr other ↦ inr (λ e. other (ap (λ (r : NodeRef). r.word) e))
]

pub cases_map : (f h : ℕ → NodeRef) (xs : List ℕ) → (map f xs ≡ map h xs) ⊎ DifferAt f h xs
cases_map f h [] = inl refl
cases_map f h (x ∷ xs) = elim (cases_ref (f x) (h x)) [
  | inr other ↦ inr (record { place = 0; number = x; there = refl; differs = other })
  | inl same ↦ elim (cases_map f h xs) [
    | inl rest ↦ inl (ap (λ (r : NodeRef). r ∷ map f xs) same ∙ ap (λ (rs : List NodeRef). h x ∷ rs) rest)
    | inr differ ↦ inr (record { place = suc differ.place; number = differ.number; there = differ.there; differs = differ.differs })
  ]
]

map-at : (f h : ℕ → NodeRef) (xs : List ℕ) → map f xs ≡ map h xs → (x : ℕ) → IsAmong xs x → f x ≡ h x
map-at f h xs same x among = walk xs same among.place among.there
  where
    walk : (ys : List ℕ) → map f ys ≡ map h ys → (k : ℕ) → slice_get ys k ≡ Some x → f x ≡ h x
    walk [] e k there = absurd cc
    walk (y ∷ ys) e zero there = let is : y ≡ x = cc in let first : f y ≡ h y = cc in sym (ap f is) ∙ first ∙ ap h is
    walk (y ∷ ys) e (suc k) there = let rest : map f ys ≡ map h ys = cc in walk ys rest k there

-- the classes that steps give
module _ (form : Form) (spaces : List SpaceClasses) (s : ℕ) (space : FormSpace) (at : slice_get form.spaces s ≡ Some space) where
  step-cell : (side : Side) (p b : ℕ) (label : Label) → step_by (automaton_of form) s side p b label
      ≡ function_of space.listing (root_in space (cell_at space side p b)) label
  step-cell Left p b label = step-at form s space at p b label
  step-cell Right p b label = step-at form s space at b p label

  pub class-cell : (side : Side) (p b : ℕ) (label : Label) → class_at spaces s (step_by (automaton_of form) s side p b label)
      ≡ class_given space.listing (part_at spaces s).classes (cell_at space side p b) label
  class-cell side p b label = ap (class_at spaces s) (step-cell side p b label)

  cell-own : (side : Side) (p q b : ℕ) → slice_index (kinds_in space side) p ≡ slice_index (kinds_in space side) q →
      cell_at space side p b ≡ cell_at space side q b
  cell-own Left p q b same = cell-same space p q b b same refl
  cell-own Right p q b same = cell-same space b b p q refl same

  -- states of one kind have the same steps
  pub class-like : (side : Side) (p q b : ℕ) (label : Label) → slice_index (kinds_in space side) p ≡ slice_index (kinds_in space side) q →
      class_at spaces s (step_by (automaton_of form) s side p b label) ≡ class_at spaces s (step_by (automaton_of form) s side q b label)
  class-like side p q b label same = class-cell side p b label
      ∙ ap (λ (i : ℕ). class_given space.listing (part_at spaces s).classes i label) (cell-own side p q b same)
      ∙ sym (class-cell side q b label)

-- the numbers of the states of a child
module _ (form : Form) (spaces : List SpaceClasses) (s : ℕ) (space : FormSpace) (at : slice_get form.spaces s ≡ Some space)
    (side : Side) (numbers : List NodeRef) (own beside kind_ids ids : List ℕ)
    (tell : TellApart space.listing (part_at spaces s).classes numbers)
    (chosen_own : AreChosen (kinds_in space side) (part_at spaces (child_at (guide_of form) side s)).reached own)
    (chosen_beside : AreChosen (kinds_in space (opposite side)) (part_at spaces (child_at (guide_of form) (opposite side) s)).reached beside)
    (roots : (p b : ℕ) → is_reached_in spaces (child_at (guide_of form) side s) p ≡ true →
    is_reached_in spaces (child_at (guide_of form) (opposite side) s) b ≡ true → cell_at space side p b < length space.listing.roots)
    (are_ids : AreIds space side numbers own beside kind_ids)
    (many : length (part_at spaces (child_at (guide_of form) side s)).reached ≤ length (kinds_in space side))
    (spread : ids ≡ map (slice_index kind_ids) (kinds_in space side)) where
  id-at : (q : ℕ) → is_reached_in spaces (child_at (guide_of form) side s) q ≡ true → slice_index ids q ≡ id_of space side kind_ids q
  id-at q reached = ap (λ (xs : List ℕ). slice_index xs q) spread
      ∙ get_or-map (slice_index kind_ids) (kinds_in space side) q 0 0
      (let i = marked-inside (part_at spaces (child_at (guide_of form) side s)).reached q reached in let m = many in omega arith)

  -- a state beside is as good as a chosen one
  cell-beside : (side' : Side) (p b c : ℕ) → slice_index (kinds_in space (opposite side')) b ≡ slice_index (kinds_in space (opposite side')) c →
      cell_at space side' p b ≡ cell_at space side' p c
  cell-beside Left p b c same = cell-same space p p b c refl same
  cell-beside Right p b c same = cell-same space b c p p same refl

  row-chosen : (p : ℕ) (reached : is_reached_in spaces (child_at (guide_of form) side s) p ≡ true) →
      row_of space side numbers beside (chosen_own.all p reached).like ≡ row_of space side numbers beside p
  row-chosen p reached = row_of-same space side numbers beside (chosen_own.all p reached).like p (chosen_own.all p reached).same

  id-chosen : (p : ℕ) (reached : is_reached_in spaces (child_at (guide_of form) side s) p ≡ true) →
      id_of space side kind_ids (chosen_own.all p reached).like ≡ id_of space side kind_ids p
  id-chosen p reached = ap (slice_index kind_ids) (chosen_own.all p reached).same

  rows-same : (p q : ℕ) → is_reached_in spaces (child_at (guide_of form) side s) p ≡ true →
      is_reached_in spaces (child_at (guide_of form) side s) q ≡ true → slice_index ids p ≡ slice_index ids q →
      row_of space side numbers beside p ≡ row_of space side numbers beside q
  rows-same p q p_reached q_reached same =
      let one = chosen_own.all p p_reached in
      let two = chosen_own.all q q_reached in
      sym (row-chosen p p_reached)
      ∙ are_ids.same one.like two.like one.among two.among
      (id-chosen p p_reached ∙ sym (id-at p p_reached) ∙ same ∙ id-at q q_reached ∙ sym (id-chosen q q_reached))
      ∙ row-chosen q q_reached

  ids-same : (p q : ℕ) → is_reached_in spaces (child_at (guide_of form) side s) p ≡ true →
      is_reached_in spaces (child_at (guide_of form) side s) q ≡ true →
      row_of space side numbers beside p ≡ row_of space side numbers beside q → slice_index ids p ≡ slice_index ids q
  ids-same p q p_reached q_reached same =
      let one = chosen_own.all p p_reached in
      let two = chosen_own.all q q_reached in
      id-at p p_reached ∙ sym (id-chosen p p_reached)
      ∙ are_ids.apart one.like two.like one.among two.among (row-chosen p p_reached ∙ same ∙ sym (row-chosen q q_reached))
      ∙ id-chosen q q_reached ∙ sym (id-at q q_reached)

  pub AreChildIds-rows : AreChildIds form spaces s side ids
  AreChildIds-rows = record {
    many = let e = ap length spread in let f = length-map (kinds_in space side) (slice_index kind_ids) in let m = many in omega arith;
    same = λ p q b label p_reached q_reached b_reached same.
        let like = chosen_beside.all b b_reached in
        let c = like.like in
        let c_reached = chosen_beside.each c like.among in
        let numbers_same = map-at (λ other. number_at numbers (cell_at space side p other)) (λ other. number_at numbers (cell_at space side q other))
        beside (rows-same p q p_reached q_reached same) c like.among in
        class-cell form spaces s space at side p b label
        ∙ ap (λ (i : ℕ). class_given space.listing (part_at spaces s).classes i label) (cell-beside side p b c (sym like.same))
        ∙ tell.same (cell_at space side p c) (cell_at space side q c) (roots p c p_reached c_reached) (roots q c q_reached c_reached) numbers_same label
        ∙ ap (λ (i : ℕ). class_given space.listing (part_at spaces s).classes i label) (cell-beside side q c b like.same)
        ∙ sym (class-cell form spaces s space at side q b label);
    apart = λ p q p_reached q_reached differ.
        elim (cases_map (λ other. number_at numbers (cell_at space side p other)) (λ other. number_at numbers (cell_at space side q other)) beside) [
          | inl same ↦ absurd (differ (ids-same p q p_reached q_reached same))
          | inr at_place ↦
              let b = at_place.number in
              let b_reached = chosen_beside.each b (record { place = at_place.place; there = at_place.there }) in
              let give = tell.apart (cell_at space side p b) (cell_at space side q b) (roots p b p_reached b_reached) (roots q b q_reached b_reached)
              at_place.differs in
              record {
                beside = b;
                label = give.label;
                reached = b_reached;
                differs = λ e. give.differs (sym (class-cell form spaces s space at side p b give.label) ∙ e
                    ∙ class-cell form spaces s space at side q b give.label);
              }
        ];
  }
