-- The automaton of classes, as it is made in a shelf.
use Rattle.std.proofs.Common.{◌≡◌, ℕ, ◌+◌, ◌*◌, ◌/◌, ◌%◌, ◌<◌, ◌≤◌, ◌^◌, List, [], ◌∷◌, ◌++◌, length, Option, Some, None, inl, inr}
use Rattle.std.proofs.Common.{refl, sym, ◌∙◌, ap, subst, arith, length-append}
use Rattle.std.specs.Prelude.{slice_get, slice_index, slice_index_or, option_map, option_and_then, All}
use Rattle.std.specs.List.{range_with_len}
use Rattle.std.proofs.Math.Nat.{mul_comm, div-lt_iff_lt-mul}
use Rattle.std.proofs.lemmas.Nat.{mul-add-lt, div-mul-add, mod-mul-add, div-add-mod'}
use Rattle.std.proofs.lemmas.Bool.{cases_lt, ltb-true, lt-ltb}
use Rattle.std.proofs.lemmas.List.{get_or_default}
use Rattle.std.proofs.lemmas.List.FromFn.{length-range_with_len, get_or-range_with_len}
use Rattle.std.proofs.lemmas.Option.{slice_get_within, slice_get-get_or, slice_get-map}
use Rattle.labels.specs.Labels.{Label, Function, with_below}
use Rattle.bdd_nodes.specs.declared.node_ref.NodeRef.{NodeRef}
use Rattle.bdd_nodes.specs.Shelf.{Contents}
use Rattle.bdd_list.specs.declared.listing.Listed.{Listed}
use Rattle.bdd_list.specs.declared.listing.Listed.TheVariants.{Leaf}
use Rattle.bdd_list.specs.Listing.{function_in, IsIn}
use Rattle.gta_theory.specs.Guides.{Spaces, IsSpace, left, right}
use Rattle.gta_theory.proofs.ListedLemmas.{slice_get-front, slice_get-last, slice_get-push}
use Rattle.gta_core.specs.declared.part.Part.{Part}
use Rattle.gta_core.specs.Auto.{place_in}
use Rattle.gta_reach.specs.declared.form.FormSpace.{FormSpace}
use Rattle.gta_reach.specs.declared.form.Form.{Form}
use Rattle.gta_classes.specs.declared.part.SpaceClasses.{SpaceClasses}
use Rattle.gta_reach.specs.Form as form
use Rattle.gta_reach.specs.Form.{cell_in, root_in}
use Rattle.gta_reach.specs.Reached.{HasRoot}
use Rattle.gta_refine.specs.Refined.{part_at, class_at, representative_at, classes_in, quotient_of, IsRefined}
use Rattle.gta_classes.proofs.ChosenLemmas.{marked-inside}
use Rattle.gta_reach.proofs.ReachLemmas.{none-inside, many_spaces, initial-form, initial-at, left-at, right-at, step-at, step-same}
use Rattle.gta_minimise.specs.Rows.{AreSharedRows}
use Rattle.gta_minimise.specs.Renamed.{IsUnderRenamed, AreRenamed}
use Rattle.gta_minimise.specs.Quotient.{ArePairs, IsUnderClasses, IsRootOf, IsSharedPart, IsQuotientSpace}
use Rattle.gta_minimise.proofs.ReadLemmas.{step-quotient}

-- what is listed for a pair
abbrev pub root_of : FormSpace → List ℕ → List ℕ → ℕ → Listed
root_of space lefts rights k = root_in space (cell_in space (slice_index lefts (k / length rights)) (slice_index rights (k % length rights)))

-- what is listed for the first pairs
pub record PairsBelow (space : FormSpace) (lefts rights : List ℕ) (roots : List Listed) (below : ℕ) : Type 0 where
  pub many : length roots ≡ below
  pub each : (k : ℕ) → k < below → slice_get roots k ≡ Some (root_of space lefts rights k)
  pub inside : (k : ℕ) (one : Listed) → slice_get roots k ≡ Some one → IsIn space.listing.nodes one

pub PairsBelow-push : (space : FormSpace) (lefts rights : List ℕ) (roots : List Listed) (below : ℕ) (root : Listed) →
    PairsBelow space lefts rights roots below → root ≡ root_of space lefts rights below → IsIn space.listing.nodes root →
    PairsBelow space lefts rights (roots ++ root ∷ []) (below + 1)
PairsBelow-push space lefts rights roots below root so_far is inside = record {
  many = length-append roots (root ∷ []) ∙ (let m = so_far.many in omega arith);
  each = λ k k_in. elim (cases_lt k below) [
    | inl before ↦ slice_get-front roots (root ∷ []) k (let m = so_far.many in omega arith) ∙ so_far.each k before
    | inr last ↦
        let k_is : k ≡ below = omega arith in
        let m = so_far.many in
        ap (slice_get (roots ++ root ∷ [])) (k_is ∙ sym m) ∙ slice_get-last roots root
        ∙ ap (λ (l : Listed). Some l) (is ∙ ap (root_of space lefts rights) (sym k_is))
  ];
  inside = λ k one there. elim (slice_get-push roots root one k there) [
    | inl before ↦ so_far.inside k one before
    | inr last ↦ subst (λ (l : Listed). IsIn space.listing.nodes l) last.1 inside
  ];
}

pub ArePairs-all : (space : FormSpace) (lefts rights : List ℕ) (roots : List Listed) → 0 < length rights →
    PairsBelow space lefts rights roots (length lefts * length rights) → ArePairs space lefts rights roots
ArePairs-all space lefts rights roots some all = record {
  many = all.many;
  left_inside = λ k k_in. (div-lt_iff_lt-mul {k = length rights} {x = k} {y = length lefts} some).1 (let m = all.many in omega arith);
  right_inside = λ k k_in. omega arith;
  each = λ k k_in. all.each k (let m = all.many in omega arith);
}

pub ArePairs-none : (space : FormSpace) (lefts rights : List ℕ) → length rights ≡ 0 → ArePairs space lefts rights []
ArePairs-none space lefts rights none = record {
  many = sym (ap (λ (n : ℕ). length lefts * n) none ∙ (omega arith));
  left_inside = λ k k_in. absurd (omega arith);
  right_inside = λ k k_in. absurd (omega arith);
  each = λ k k_in. absurd (omega arith);
}

-- a form, and the classes of its states
module _ (f : Form) (classes : List SpaceClasses) (is_form : form.IsForm f) (refined : IsRefined f classes) where
  -- a representative is a state
  pub representative-below : (k x : ℕ) → IsSpace (form.guide_of f) k → x < classes_in classes k → representative_at classes k x < form.states_of f k
  representative-below k x there x_in =
      let reached = (refined.classes k there).inside x x_in in
      let i = marked-inside (part_at classes k).reached (representative_at classes k x) reached in
      let m = refined.many k there in
      omega arith

  pub spaces-there : (k : ℕ) → IsSpace (form.guide_of f) k → k < length classes
  spaces-there k there = let a = refined.all in let m = many_spaces f in omega arith

  -- the part of a space is there
  pub part-read : (k : ℕ) → IsSpace (form.guide_of f) k → (d : SpaceClasses) → slice_index_or classes k d ≡ part_at classes k
  part-read k there d =
      get_or_default classes k d (record { reached = []; classes = []; representatives = [] }) (spaces-there k there)

  pub small-classes : (k : ℕ) → IsSpace (form.guide_of f) k → All (λ class. class < 2 ^ 31) (part_at classes k).classes
  small-classes k there = λ q d q_in.
      let are = refined.classes k there in
      let w = are.within q q_in in
      let e = get_or_default (part_at classes k).classes q d 0 q_in in
      let few = are.few in
      omega arith

  pub few-classes : (k : ℕ) → IsSpace (form.guide_of f) k → classes_in classes k ≤ 2 ^ 31
  few-classes k there = (refined.classes k there).few

  -- the initial state has a class
  pub initial-classed : (k : ℕ) → IsSpace (form.guide_of f) k → (form.automaton_of f).initial k < length (part_at classes k).classes
  initial-classed k there =
      let below = ltb-true ((form.automaton_of f).initial k) (form.states_of f k) (is_form.closed.initial k there) in
      let m = refined.many k there in
      let n = (refined.classes k there).many in
      omega arith

  -- the space of a form, with its children
  module _ (s : ℕ) (inside : IsSpace (form.guide_of f) s) (space : FormSpace) (at : slice_get f.spaces s ≡ Some space) where
    pub left-space : IsSpace (form.guide_of f) space.children.0
    left-space = subst (IsSpace (form.guide_of f)) (left-at f s space at) (is_form.guide.left_inside s inside)

    pub right-space : IsSpace (form.guide_of f) space.children.1
    right-space = subst (IsSpace (form.guide_of f)) (right-at f s space at) (is_form.guide.right_inside s inside)

    pub rows-there : (x : ℕ) → x < classes_in classes space.children.0 → representative_at classes space.children.0 x < length space.rows
    rows-there x x_in =
        let b = representative-below space.children.0 x left-space x_in in
        let r = (is_form.spaces s space at).rows in
        let e = ap (form.states_of f) (left-at f s space at) in
        omega arith

    pub columns-there : (y : ℕ) → y < classes_in classes space.children.1 → representative_at classes space.children.1 y < length space.columns
    columns-there y y_in =
        let b = representative-below space.children.1 y right-space y_in in
        let r = (is_form.spaces s space at).columns in
        let e = ap (form.states_of f) (right-at f s space at) in
        omega arith

-- the space of a form
pub space-of : (f : Form) (s : ℕ) → IsSpace (form.guide_of f) s → (space : FormSpace) × (slice_get f.spaces s ≡ Some space)
space-of f s there = pick (slice_get f.spaces s) refl
  where
    pick : (o : Option FormSpace) → slice_get f.spaces s ≡ o → (space : FormSpace) × (slice_get f.spaces s ≡ Some space)
    pick None e = absurd (none-inside f.spaces s e (let m = many_spaces f in omega arith))
    pick (Some space) e = (space, e)

pub space-inside : (f : Form) (s : ℕ) (spaces : List FormSpace) → spaces ≡ f.spaces → IsSpace (form.guide_of f) s → s < length spaces
space-inside f s spaces same there = let m = many_spaces f in let e = ap (λ (xs : List FormSpace). length xs) same in omega arith

-- the part of a space that was made
module _ (f : Form) (classes : List SpaceClasses) (s : ℕ) (space : FormSpace) (at : slice_get f.spaces s ≡ Some space)
    (rows columns lefts rights cells : List ℕ) (states initial width : ℕ) (states_are : states ≡ classes_in classes s)
    (initial_is : initial ≡ class_at classes s space.initial) (width_is : width ≡ length rights)
    (cells_are : cells ≡ range_with_len 0 (length lefts * length rights))
    (rows_are : AreSharedRows space.rows (part_at classes space.children.0).representatives rows lefts)
    (columns_are : AreSharedRows space.columns (part_at classes space.children.1).representatives columns rights) where
  same-space : (other : FormSpace) → slice_get f.spaces s ≡ Some other → space ≡ other
  same-space other there = let e : ◌≡◌ {A = Option FormSpace} (Some space) (Some other) = sym at ∙ there in cc

  pub IsSharedPart-made : IsSharedPart f classes s (record {
    states = states;
    initial = initial;
    children = space.children;
    first = 0;
    rows = rows;
    columns = columns;
    width = width;
    cells = cells;
  }) lefts rights
  IsSharedPart-made = record {
    children = slice_get-map (λ (p : FormSpace). p.children) f.spaces s ∙ ap (option_map (λ (p : FormSpace). p.children)) at;
    states = states_are;
    initial = initial_is ∙ ap (class_at classes s) (sym (initial-form f s ∙ initial-at f s space at));
    first = refl;
    width = width_is;
    cells = cells_are;
    rows = λ other there. subst (λ (p : FormSpace). AreSharedRows p.rows (part_at classes (left (form.guide_of f) s)).representatives rows lefts)
        (same-space other there)
        (subst (λ (k : ℕ). AreSharedRows space.rows (part_at classes k).representatives rows lefts) (sym (left-at f s space at)) rows_are);
    columns = λ other there. subst (λ (p : FormSpace). AreSharedRows p.columns (part_at classes (right (form.guide_of f) s)).representatives columns rights)
        (same-space other there)
        (subst (λ (k : ℕ). AreSharedRows space.columns (part_at classes k).representatives columns rights) (sym (right-at f s space at)) columns_are);
  }

range-get : (n i : ℕ) → i < n → slice_get (range_with_len 0 n) i ≡ Some i
range-get n i inside =
    let e : slice_index (range_with_len 0 n) i ≡ i = get_or-range_with_len 0 n i 0 inside ∙ (omega arith) in
    slice_get-get_or (range_with_len 0 n) i 0 (omega (arith, length-range_with_len 0 n)) ∙ ap (λ (k : ℕ). let o : Option ℕ = Some k in o) e

-- the part of a space by the rows that classes share
module _ (f : Form) (classes : List SpaceClasses) (is_form : form.IsForm f) (refined : IsRefined f classes) (s : ℕ)
    (inside : IsSpace (form.guide_of f) s) (space : FormSpace) (at : slice_get f.spaces s ≡ Some space) (part : Part) (lefts rights : List ℕ)
    (shared : IsSharedPart f classes s part lefts rights) where
  g : Spaces
  g = form.guide_of f

  left-in : IsSpace (form.guide_of f) (left (form.guide_of f) s)
  left-in = is_form.guide.left_inside s inside

  right-in : IsSpace (form.guide_of f) (right (form.guide_of f) s)
  right-in = is_form.guide.right_inside s inside

  rows-are : AreSharedRows space.rows (part_at classes (left (form.guide_of f) s)).representatives part.rows lefts
  rows-are = shared.rows space at

  columns-are : AreSharedRows space.columns (part_at classes (right (form.guide_of f) s)).representatives part.columns rights
  columns-are = shared.columns space at

  -- the state of a row is one
  left-below : (i : ℕ) → i < length lefts → slice_index lefts i < form.states_of f (left (form.guide_of f) s)
  left-below i i_in =
      let found = rows-are.has i i_in in
      let b = representative-below f classes is_form refined (left (form.guide_of f) s) found.class left-in found.inside in
      let is = found.state in
      omega arith

  right-below : (j : ℕ) → j < length rights → slice_index rights j < form.states_of f (right (form.guide_of f) s)
  right-below j j_in =
      let found = columns-are.has j j_in in
      let b = representative-below f classes is_form refined (right (form.guide_of f) s) found.class right-in found.inside in
      let is = found.state in
      omega arith

  -- the states of a row and a column have a root
  pub pair-root : (i j : ℕ) → i < length lefts → j < length rights → HasRoot space (slice_index lefts i) (slice_index rights j)
  pair-root i j i_in j_in =
      let l = slice_index lefts i in
      let r = slice_index rights j in
      let fs = is_form.spaces s space at in
      let l_in = left-below i i_in in
      let r_in = right-below j j_in in
      record {
        row = let e = fs.rows in omega arith;
        column = let e = fs.columns in omega arith;
        cell = fs.cells l r l_in r_in;
        root = fs.roots l r l_in r_in;
        inside = fs.inside (cell_in space l r) (fs.roots l r l_in r_in);
      }

  -- where the root of a pair of classes stands
  place : ℕ → ℕ → ℕ
  place x y = slice_index part.rows x * length rights + slice_index part.columns y

  module _ (x y : ℕ) (x_in : x < classes_in classes (left (form.guide_of f) s)) (y_in : y < classes_in classes (right (form.guide_of f) s)) where
    row-in : slice_index part.rows x < length lefts
    row-in = rows-are.within x x_in

    column-in : slice_index part.columns y < length rights
    column-in = columns-are.within y y_in

    place-inside : place x y < length lefts * length rights
    unfolding place
    place-inside =
        let b = mul-add-lt (slice_index part.rows x) (length rights) (slice_index part.columns y) (length lefts) row-in column-in in
        let c = mul_comm (length rights) (length lefts) in
        omega arith

    place-row : place x y / length rights ≡ slice_index part.rows x
    unfolding place
    place-row = div-mul-add (slice_index part.rows x) (length rights) (slice_index part.columns y) column-in

    place-column : place x y % length rights ≡ slice_index part.columns y
    unfolding place
    place-column = mod-mul-add (slice_index part.rows x) (length rights) (slice_index part.columns y) column-in

    cell-is : slice_get part.cells (slice_index part.rows x * part.width + slice_index part.columns y) ≡ Some (place x y)
    unfolding place
    cell-is =
        ap (λ (w : ℕ). slice_get part.cells (slice_index part.rows x * w + slice_index part.columns y)) shared.width
        ∙ ap (λ (xs : List ℕ). slice_get xs (slice_index part.rows x * length rights + slice_index part.columns y)) shared.cells
        ∙ range-get (length lefts * length rights) (slice_index part.rows x * length rights + slice_index part.columns y) place-inside

    place-is : place_in part x y ≡ Some (place x y)
    place-is =
        ap (λ (o : Option ℕ). option_and_then (λ row. option_and_then (λ column.
        option_map (λ cell. part.first + cell) (slice_get part.cells (row * part.width + column)))
        (slice_get part.columns y)) o) (slice_get-get_or part.rows x 0 (let m = rows-are.many in omega arith))
        ∙ ap (λ (o : Option ℕ). option_and_then (λ column.
        option_map (λ cell. part.first + cell) (slice_get part.cells (slice_index part.rows x * part.width + column))) o)
        (slice_get-get_or part.columns y 0 (let m = columns-are.many in omega arith))
        ∙ ap (λ (o : Option ℕ). option_map (λ cell. part.first + cell) o) cell-is
        ∙ ap (λ (n : ℕ). Some (n + place x y)) shared.first ∙ ap (λ (n : ℕ). Some n) (omega arith)

  module _ (roots : List Listed) (pairs : ArePairs space lefts rights roots) where
    -- the states of a row and a column step as the representatives of classes that have these
    step-root : (x y : ℕ) (root : Listed) (label : Label) → x < classes_in classes (left (form.guide_of f) s) →
        y < classes_in classes (right (form.guide_of f) s) → slice_get roots (place x y) ≡ Some root →
        class_at classes s (function_in space.listing.nodes root label) ≡ (quotient_of f classes).step s x y label
    step-root x y root label x_in y_in there =
        let l = slice_index lefts (slice_index part.rows x) in
        let r = slice_index rights (slice_index part.columns y) in
        let p = representative_at classes (left (form.guide_of f) s) x in
        let q = representative_at classes (right (form.guide_of f) s) y in
        let k_in = slice_get_within roots (place x y) root there in
        let same_root : Some root ≡ Some (root_of space lefts rights (place x y)) = sym there ∙ pairs.each (place x y) k_in in
        let is : root ≡ root_of space lefts rights (place x y) = cc in
        let here : root_of space lefts rights (place x y) ≡ root_in space (cell_in space l r) =
        ap (λ (n : ℕ). root_in space (cell_in space (slice_index lefts n) (slice_index rights (place x y % length rights)))) (place-row x y x_in y_in)
        ∙ ap (λ (n : ℕ). root_in space (cell_in space l (slice_index rights n))) (place-column x y x_in y_in) in
        ap (λ (one : Listed). class_at classes s (function_in space.listing.nodes one label)) (is ∙ here)
        ∙ ap (class_at classes s) (step-same space l p r q label (rows-are.same x x_in) (columns-are.same y y_in)
        ∙ sym (step-at f s space at p q label))
        ∙ sym (step-quotient f classes s x y label)

    -- classes that have the row and the column of a place
    record Pair (k : ℕ) : Type 0 where
      pub left_class : ℕ
      pub right_class : ℕ
      pub left_inside : left_class < classes_in classes (left (form.guide_of f) s)
      pub right_inside : right_class < classes_in classes (right (form.guide_of f) s)
      pub is : place left_class right_class ≡ k

    pair-of : (k : ℕ) → k < length roots → Pair k
    unfolding place
    pair-of k k_in =
        let one = rows-are.has (k / length rights) (pairs.left_inside k k_in) in
        let two = columns-are.has (k % length rights) (pairs.right_inside k k_in) in
        record {
          left_class = one.class;
          right_class = two.class;
          left_inside = one.inside;
          right_inside = two.inside;
          is = ap (λ (i : ℕ). i * length rights + slice_index part.columns two.class) one.number
              ∙ ap (λ (j : ℕ). k / length rights * length rights + j) two.number ∙ div-add-mod' k (length rights);
        }

    -- what is under a root is under the table of the automaton of classes
    pub under-classes : (h : Function) → IsUnderRenamed (part_at classes s).classes space.listing.nodes roots h → IsUnderClasses f classes h
    under-classes h under =
        let pair = pair-of under.place (slice_get_within roots under.place under.root under.there) in
        let there : slice_get roots (place pair.left_class pair.right_class) ≡ Some under.root = ap (slice_get roots) pair.is ∙ under.there in
        record {
          space = s;
          inside = inside;
          under = record {
            at_left = pair.left_class;
            at_right = pair.right_class;
            in_left = lt-ltb pair.left_class (classes_in classes (left (form.guide_of f) s)) pair.left_inside;
            in_right = lt-ltb pair.right_class (classes_in classes (right (form.guide_of f) s)) pair.right_inside;
            below = under.below;
            fixed = under.fixed;
            states = λ label. under.states label
                ∙ step-root pair.left_class pair.right_class under.root (with_below under.below under.fixed label) pair.left_inside pair.right_inside there;
          };
        }

    module _ (new : Contents) (made : List NodeRef)
        (renamed : AreRenamed new (part_at classes s).classes space.listing.nodes roots made) where
      root-of : (x y : ℕ) → x < classes_in classes (left (form.guide_of f) s) → y < classes_in classes (right (form.guide_of f) s) →
          IsRootOf new f classes s x y part made
      root-of x y x_in y_in =
          let none : NodeRef = record { word = 0 } in
          let k = place x y in
          let b = place-inside x y x_in y_in in
          let m = pairs.many in
          let n = renamed.many in
          let root : NodeRef = slice_index_or made k none in
          let there = slice_get-get_or made k none (omega arith) in
          let was : Listed = slice_index_or roots k (Leaf 0) in
          let was_there = slice_get-get_or roots k (Leaf 0) (omega arith) in
          record {
            place = k;
            at = place-is x y x_in y_in;
            root = root;
            there = there;
            valid = renamed.valid k root there;
            states = λ label. renamed.states k was root label was_there there ∙ step-root x y was label x_in y_in was_there;
          }

      pub IsQuotientSpace-made : IsQuotientSpace new f classes s part made
      IsQuotientSpace-made = record {
        is_part = record {
          children = shared.children;
          states = shared.states;
          initial = shared.initial;
          lefts = rows-are.many;
          rights = columns-are.many;
          each = root-of;
        };
        first = shared.first;
        used = λ k k_in.
            let n = renamed.many in
            let pair = pair-of k (omega arith) in
            record {
              left = pair.left_class;
              right = pair.right_class;
              there = place-is pair.left_class pair.right_class pair.left_inside pair.right_inside ∙ ap (λ (i : ℕ). Some i) pair.is;
            };
        valid = renamed.valid;
      }
