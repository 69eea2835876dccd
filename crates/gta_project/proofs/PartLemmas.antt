-- The part of a space, and joiners that go on fitting.
use Rattle.std.proofs.Common.{◌≡◌, ◌≢◌, ℕ, zero, suc, ◌+◌, ◌*◌, ◌<◌, List, [], ◌∷◌, length, Option, Some, Contains, All, get_or, slice_get}
use Rattle.std.proofs.Common.{refl, sym, ◌∙◌, ap, subst, inl, inr, arith}
use Rattle.std.specs.Prelude.{slice_set, IsSome}
use Rattle.std.specs.List.{range_with_len}
use Rattle.std.proofs.lemmas.Bool.Decides.{eqb_tells}
use Rattle.std.proofs.lemmas.Option.{slice_get_within, slice_get-get_or}
use Rattle.bdd_nodes.specs.declared.node_ref.NodeRef.{NodeRef}
use Rattle.bdd_nodes.specs.Shelf.{Contents}
use Rattle.bdd_nodes.specs.Changes.{Keeps}
use Rattle.bdd_walk.specs.declared.set_joiner.SetJoiner.{SetJoiner}
use Rattle.bdd_walk.specs.Fits.{FitsSets}
use Rattle.bdd_walk.proofs.FitsLemmas.{FitsSets-kept}
use Rattle.gta_theory.specs.Guides.{Spaces, IsGuide, IsSpace, left, right}
use Rattle.gta_theory.specs.Automata.{Automaton}
use Rattle.gta_theory.specs.Numbered.{Below}
use Rattle.gta_theory.proofs.ListsLemmas.{All-from_contains}
use Rattle.gta_subsets.specs.Subsets.{subsets, AreInitial}
use Rattle.gta_core.specs.declared.part.Part.{Part}
use Rattle.gta_core.specs.Auto.{AutoView, states_of, guide_of, root_at, automaton_of, IsAuto}
use Rattle.gta_subsets.specs.declared.classes.Classes.{Classes}
use Rattle.gta_subsets.specs.Numbers.{numbered}
use Rattle.gta_subsets.specs.Classes.{AreClasses}
use Rattle.gta_project.specs.Filling.{AreCells}
use Rattle.gta_project.specs.Building.{AreSpaces, IsBuilt, FitAll}
use Rattle.gta_project.proofs.ShelfLemmas.{Contains-get, row-within, column-within, generated-below}
use Rattle.gta_project.proofs.BuildingLemmas.{ChangesSpace}

pub get-set : {X : Type 0} (xs : List X) (i : ℕ) (x : X) → i < length xs → slice_get (slice_set xs i x) i ≡ Some x
get-set [] i x within = absurd (omega arith)
get-set (y ∷ ys) zero x within = refl
get-set (y ∷ ys) (suc i) x within = get-set ys i x (omega arith)

pub get-set_other : {X : Type 0} (xs : List X) (i t : ℕ) (x : X) → t ≢ i → slice_get (slice_set xs i x) t ≡ slice_get xs t
get-set_other [] i t x other = refl
get-set_other (y ∷ ys) zero zero x other = absurd (other refl)
get-set_other (y ∷ ys) zero (suc t) x other = refl
get-set_other (y ∷ ys) (suc i) zero x other = refl
get-set_other (y ∷ ys) (suc i) (suc t) x other = get-set_other ys i t x (λ same. other (ap suc same))

pub length-set_at : {X : Type 0} (xs : List X) (i : ℕ) (x : X) → length (slice_set xs i x) ≡ length xs
length-set_at [] i x = refl
length-set_at (y ∷ ys) zero x = refl
length-set_at (y ∷ ys) (suc i) x = ap suc (length-set_at ys i x)

pub ChangesSpace-at : (old : List (List (List ℕ))) (s : ℕ) (before after : List (List ℕ)) → slice_get old s ≡ Some before →
    ChangesSpace old (slice_set old s after) s before after
ChangesSpace-at old s before after was = record {
  many = length-set_at old s after;
  was = was;
  is = get-set old s after (slice_get_within old s before was);
  others = λ t other. get-set_other old s t after other;
}

same_joiner : (a b : SetJoiner) → ◌≡◌ {A = Option SetJoiner} (Some a) (Some b) → a ≡ b
same_joiner a b e = cc

same_pairs : (a b : List (List ℕ)) → ◌≡◌ {A = Option (List (List ℕ))} (Some a) (Some b) → a ≡ b
same_pairs a b e = cc

-- a joiner has gone on
pub FitAll-set : (d : ℕ) (shelf now : Contents) (joiners : List SetJoiner) (old new : List (List (List ℕ))) (s : ℕ) (joiner : SetJoiner)
    (before after : List (List ℕ)) → Keeps shelf now → s < length joiners → FitAll d shelf joiners old → ChangesSpace old new s before after →
    FitsSets joiner d now (numbered after) → FitAll d now (slice_set joiners s joiner) new
FitAll-set d shelf now joiners old new s joiner before after keeps within fits change here = record {
  many = length-set_at joiners s joiner ∙ fits.many ∙ sym change.many;
  each = λ t other sets at_joiner at_pairs. elim (eqb_tells t s) [
    | inl same ↦
        let is_joiner = ap (slice_get (slice_set joiners s joiner)) (sym same.1) ∙ at_joiner in
        let is_pairs = ap (slice_get new) (sym same.1) ∙ at_pairs in
        subst (λ (j : SetJoiner). FitsSets j d now (numbered sets)) (same_joiner _ _ (sym (get-set joiners s joiner within) ∙ is_joiner))
        (subst (λ (ps : List (List ℕ)). FitsSets joiner d now (numbered ps)) (same_pairs _ _ (sym change.is ∙ is_pairs)) here)
    | inr apart ↦ FitsSets-kept shelf now (numbered sets) (numbered sets) keeps (λ states n there. there) other d
        (fits.each t other sets (sym (get-set_other joiners s t joiner apart.1) ∙ at_joiner) (sym (change.others t apart.1) ∙ at_pairs))
  ];
}

length-guide : (parts : List Part) → length (guide_of (record { table = 0; parts = parts; accepting = [] })) ≡ length parts
length-guide [] = refl
length-guide (part ∷ parts) = ap suc (length-guide parts)

pub parts-length : (g : Spaces) (shelf : Contents) (a : AutoView) → IsAuto g shelf a → length a.parts ≡ length g
parts-length g shelf a auto = sym (length-guide a.parts) ∙ ap (λ (spaces : Spaces). length spaces) auto.over

-- the rows and the columns of a space have roots
module _ (g : Spaces) (guide : IsGuide g) (shelf : Contents) (a : AutoView) (auto : IsAuto g shelf a) (t : ℕ) (initials : List (List ℕ))
    (are_initial : AreInitial g (automaton_of shelf a) t initials) (spaces : List (List (List ℕ)))
    (are : AreSpaces g (subsets (automaton_of shelf a) t initials) spaces) (s : ℕ) (inside : IsSpace g s) where
  pub below-at : (child : ℕ) (list : List (List ℕ)) → slice_get spaces child ≡ Some list → (k : ℕ) (set : List ℕ) → slice_get list k ≡ Some set →
      (q : ℕ) → Contains set q → Below (states_of a) child q
  below-at child list is k set there = generated-below g shelf a auto t initials are_initial child set ((are.each child list is).generated k set there)

  module _ (own : Part) (in_own : slice_get a.parts s ≡ Some own) where
    pub row-inside : (lefts : List (List ℕ)) → slice_get spaces (left g s) ≡ Some lefts → (k : ℕ) (set : List ℕ) → slice_get lefts k ≡ Some set →
        All (λ q. q < length own.rows) set
    row-inside lefts at_left k set there = All-from_contains (λ q. q < length own.rows) set
        (λ q in_set. row-within g guide shelf a auto s inside own in_own q (below-at (left g s) lefts at_left k set there q in_set))

    pub column-inside : (rights : List (List ℕ)) → slice_get spaces (right g s) ≡ Some rights → (k : ℕ) (set : List ℕ) → slice_get rights k ≡ Some set →
        All (λ q. q < length own.columns) set
    column-inside rights at_right k set there = All-from_contains (λ q. q < length own.columns) set
        (λ q in_set. column-within g guide shelf a auto s inside own in_own q (below-at (right g s) rights at_right k set there q in_set))

  module _ (lefts rights : List (List ℕ)) (at_left : slice_get spaces (left g s) ≡ Some lefts) (at_right : slice_get spaces (right g s) ≡ Some rights) where
    pub roots-known : (j k : ℕ) (row column : List ℕ) → slice_get lefts j ≡ Some row → slice_get rights k ≡ Some column → (l r : ℕ) →
        Contains row l → Contains column r → IsSome (root_at shelf a s l r)
    roots-known j k row column at_row at_column l r in_l in_r = (auto.complete s l r).1
        (inside, (below-at (left g s) lefts at_left j row at_row l in_l, below-at (right g s) rights at_right k column at_column r in_r))

-- each class has a set of the list
pub ones-inside : (sets : List (List ℕ)) (states : List ℕ) (classes : Classes) → AreClasses sets states classes →
    (x : List ℕ) → Contains classes.ones x → (k : ℕ) × (slice_get sets k ≡ Some x)
ones-inside sets states classes are x there =
    let at = Contains-get classes.ones x there in
    let class = are.used at.0 (slice_get_within classes.ones at.0 x at.1) in
    (class.at, sym class.stands ∙ at.1)

-- what has been filled is a part
pub IsBuilt-made : (g : Spaces) (Sets : Automaton (List ℕ)) (s : ℕ) (lefts rights numbers : List (List ℕ)) (own : Part) (shelf : Contents)
    (old new : List NodeRef) (rows columns : Classes) (part : Part) → slice_get g s ≡ Some part.children → part.states ≡ length numbers →
    part.initial ≡ 0 → part.first ≡ length old → part.rows ≡ rows.of → part.columns ≡ columns.of → part.width ≡ length columns.ones →
    part.cells ≡ range_with_len 0 (length rows.ones * length columns.ones) → AreClasses lefts own.rows rows →
    AreClasses rights own.columns columns → AreCells Sets.step s rows.ones columns.ones numbers shelf old new →
    IsBuilt g Sets s lefts rights numbers own shelf new part
IsBuilt-made g Sets s lefts rights numbers own shelf old new rows columns part children states initial start is_rows is_columns width cells
    row_classes column_classes filled =
    record {
      children = children;
      states = states;
      initial = initial;
      rows = rows.ones;
      columns = columns.ones;
      row_classes = subst (λ (of : List ℕ). AreClasses lefts own.rows (record { of = of; ones = rows.ones })) (sym is_rows)
          (record { many = row_classes.many; each = row_classes.each; used = row_classes.used });
      column_classes = subst (λ (of : List ℕ). AreClasses rights own.columns (record { of = of; ones = columns.ones })) (sym is_columns)
          (record { many = column_classes.many; each = column_classes.each; used = column_classes.used });
      width = width;
      cells = cells;
      within = omega (arith, filled.many, start);
      cell = λ i j row column root at_row at_column there. filled.cell i j row column root at_row at_column
          (ap (λ (n : ℕ). slice_get new (n + (i * length columns.ones + j))) (sym start) ∙ there);
    }

pub get-at : {X : Type 0} (xs : List X) (i : ℕ) (x : X) → i < length xs → x ≡ get_or xs i x → slice_get xs i ≡ Some x
get-at {X} xs i x within is = slice_get-get_or xs i x within ∙ ap (λ (y : X). let o : Option X = Some y in o) (sym is)

-- the sets of a child
pub at-child : (g : Spaces) (Sets : Automaton (List ℕ)) (spaces : List (List (List ℕ))) → AreSpaces g Sets spaces → (child : ℕ) → IsSpace g child →
    (index : ℕ) → index ≡ child → (held slice : List (List ℕ)) → held ≡ get_or spaces index held → slice ≡ held → slice_get spaces child ≡ Some slice
at-child g Sets spaces are child inside index same held slice is lent =
    ap (slice_get spaces) (sym same) ∙ get-at spaces index held (omega (arith, are.many, same, inside)) is
    ∙ ap (λ (ps : List (List ℕ)). let o : Option (List (List ℕ)) = Some ps in o) (sym lent)

-- the part of a space
pub part-at : (g : Spaces) (shelf : Contents) (a : AutoView) → IsAuto g shelf a → (s : ℕ) → IsSpace g s → (slice : List Part) (part : Part) →
    slice ≡ a.parts → part ≡ get_or slice s part → slice_get a.parts s ≡ Some part
part-at g shelf a auto s inside slice part lent is =
    get-at a.parts s part (omega (arith, parts-length g shelf a auto, inside)) (is ∙ ap (λ (ps : List Part). get_or ps s part) lent)
