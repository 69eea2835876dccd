-- Rows of roots: a root more, a row more, longer lists, and the roots of all rows.
use Rattle.std.proofs.Common.{◌≡◌, ℕ, zero, suc, ◌+◌, ◌*◌, ◌<◌, ◌⊎◌, List, [], ◌∷◌, ◌++◌, length, length-append, append_assoc, append-nil}
use Rattle.std.proofs.Common.{Option, Some, get_or, slice_get, sym, ◌∙◌, ap, refl, subst, inl, inr, arith, suc-mul}
use Rattle.std.specs.Prelude.{slice_set}
use Rattle.std.specs.List.{All}
use Rattle.std.proofs.lemmas.Bool.Decides.{eqb_tells}
use Rattle.std.proofs.lemmas.Option.{slice_get_within, slice_get-get_or}
use Rattle.bdd_nodes.specs.declared.node_ref.NodeRef.{NodeRef}
use Rattle.bdd_nodes.specs.Shelf.{Contents, IsValid}
use Rattle.bdd_nodes.specs.Changes.{Keeps}
use Rattle.gta_theory.specs.Automata.{Automaton}
use Rattle.gta_core.proofs.CellsLemmas.{get-index}
use Rattle.gta_product.specs.Numbers.{AreNumbers, Extends}
use Rattle.gta_product.specs.Filling.{IsCell, IsRow, AreRows, row_by_row}
use Rattle.gta_product.proofs.NumbersLemmas.{extends-longer, get-snoc}
use Rattle.gta_product.proofs.JoinsLemmas.{All-append, IsCell-kept}
use Rattle.gta_product.proofs.PartLemmas.{get-set, get-set_other, length-set_at}

same_pair : (a b : ℕ × ℕ) → ◌≡◌ {A = Option (ℕ × ℕ)} (Some a) (Some b) → a ≡ b
same_pair a b e = cc

same_roots : (a b : List NodeRef) → ◌≡◌ {A = Option (List NodeRef)} (Some a) (Some b) → a ≡ b
same_roots a b e = cc

module _ (AB : Automaton (ℕ × ℕ)) (s : ℕ) where
  -- a row stays
  pub IsRow-kept : (row : ℕ × ℕ) (columns pairs more : List (ℕ × ℕ)) (shelf after : Contents) (roots : List NodeRef) → Keeps shelf after →
      AreNumbers more → Extends pairs more → IsRow AB s row columns pairs shelf roots → IsRow AB s row columns more after roots
  IsRow-kept row columns pairs more shelf after roots keeps numbers extends is = record {
    few = is.few;
    cell = λ j column root at there. IsCell-kept AB s pairs more row column shelf after root keeps numbers extends (is.cell j column root at there);
  }

  -- a root more, for the next column
  pub IsRow-more : (row : ℕ × ℕ) (columns : List (ℕ × ℕ)) (column : ℕ × ℕ) (pairs more : List (ℕ × ℕ)) (shelf after : Contents)
      (roots : List NodeRef) (root : NodeRef) → Keeps shelf after → AreNumbers more → Extends pairs more →
      slice_get columns (length roots) ≡ Some column → IsRow AB s row columns pairs shelf roots → IsCell AB s more row column after root →
      IsRow AB s row columns more after (roots ++ root ∷ [])
  IsRow-more row columns column pairs more shelf after roots root keeps numbers extends at is cell = record {
    few = omega (arith, slice_get_within columns (length roots) column at, length-append roots (root ∷ []));
    cell = λ j c r at_column there. elim (get-snoc roots root r j there) [
      | inl early ↦ IsCell-kept AB s pairs more row c shelf after r keeps numbers extends (is.cell j c r at_column early)
      | inr last ↦ subst (λ (x : NodeRef). IsCell AB s more row c after x) (sym last.1)
          (subst (λ (x : ℕ × ℕ). IsCell AB s more row x after root)
          (same_pair column c (sym at ∙ ap (slice_get columns) (sym last.0) ∙ at_column)) cell)
    ];
  }

  -- a row has its roots for more columns too
  pub IsRow-wider : (row : ℕ × ℕ) (columns wider pairs : List (ℕ × ℕ)) (shelf : Contents) (roots : List NodeRef) → Extends columns wider →
      IsRow AB s row columns pairs shelf roots → IsRow AB s row wider pairs shelf roots
  IsRow-wider row columns wider pairs shelf roots extends is = record {
    few = omega (arith, is.few, extends-longer columns wider extends);
    cell = λ j column root at there.
        let known = get-index columns j (omega (arith, is.few, slice_get_within roots j root there)) in
        is.cell j column root (known.1 ∙ sym (extends.kept j known.0 known.1) ∙ at) there;
  }

  pub IsRow-none : (row : ℕ × ℕ) (columns pairs : List (ℕ × ℕ)) (shelf : Contents) → IsRow AB s row columns pairs shelf []
  IsRow-none row columns pairs shelf = record {
    few = omega arith;
    cell = λ j column root at there. absurd (omega (arith, slice_get_within [] j root there));
  }

  pub AreRows-none : (from : ℕ) (pairs : List (ℕ × ℕ)) (shelf : Contents) (rows columns : List (ℕ × ℕ)) (cells : List (List NodeRef)) →
      rows ≡ [] → cells ≡ [] → AreRows AB s rows columns from pairs shelf cells
  AreRows-none from pairs shelf rows columns cells no_rows no_cells = record {
    many = ap (λ (rs : List (List NodeRef)). length rs) no_cells ∙ ap (λ (ps : List (ℕ × ℕ)). length ps) (sym no_rows);
    each = λ i row roots at there. absurd (nowhere i roots there);
    full = λ i roots there later. absurd (nowhere i roots there);
  }
    where
      nowhere : (i : ℕ) (roots : List NodeRef) → slice_get cells i ≡ Some roots → ⊥
      nowhere i roots there = omega (arith, slice_get_within [] i roots (ap (λ (rs : List (List NodeRef)). slice_get rs i) (sym no_cells) ∙ there))

  -- behind the last row nothing has to be full
  pub AreRows-any : (rows columns : List (ℕ × ℕ)) (from : ℕ) (pairs : List (ℕ × ℕ)) (shelf : Contents) (cells : List (List NodeRef)) →
      AreRows AB s rows columns from pairs shelf cells → AreRows AB s rows columns (length rows) pairs shelf cells
  AreRows-any rows columns from pairs shelf cells are = record {
    many = are.many;
    each = are.each;
    full = λ i roots there later. absurd (omega (arith, are.many, slice_get_within cells i roots there, later));
  }

  -- rows stay
  module _ (rows columns : List (ℕ × ℕ)) (from : ℕ) (pairs more : List (ℕ × ℕ)) (shelf after : Contents) (cells : List (List NodeRef))
      (keeps : Keeps shelf after) (numbers : AreNumbers more) (extends : Extends pairs more)
      (are : AreRows AB s rows columns from pairs shelf cells) where
    pub AreRows-kept : AreRows AB s rows columns from more after cells
    AreRows-kept = record {
      many = are.many;
      each = λ i row roots at there. IsRow-kept row columns pairs more shelf after roots keeps numbers extends (are.each i row roots at there);
      full = are.full;
    }

    -- and one of them has got more roots
    pub AreRows-set : (i : ℕ) (row : ℕ × ℕ) (roots : List NodeRef) → i < length cells → slice_get rows i ≡ Some row →
        IsRow AB s row columns more after roots → AreRows AB s rows columns (length rows) more after (slice_set cells i roots)
    AreRows-set i row roots within at is = record {
      many = length-set_at cells i roots ∙ are.many;
      each = λ t other list at_other there. elim (eqb_tells t i) [
        | inl same ↦
            let is_row = same_pair row other (sym at ∙ ap (slice_get rows) (sym same.1) ∙ at_other) in
            let is_list = same_roots roots list (sym (get-set cells i roots within) ∙ ap (slice_get (slice_set cells i roots)) (sym same.1) ∙ there) in
            subst (λ (r : ℕ × ℕ). IsRow AB s r columns more after list) is_row
            (subst (λ (rs : List NodeRef). IsRow AB s row columns more after rs) is_list is)
        | inr apart ↦ IsRow-kept other columns pairs more shelf after list keeps numbers extends
            (are.each t other list at_other (sym (get-set_other cells i t roots apart.1) ∙ there))
      ];
      full = λ t list there later.
          absurd (omega (arith, are.many, length-set_at cells i roots, slice_get_within (slice_set cells i roots) t list there, later));
    }

  -- rows and columns that have come, for which there are no roots yet
  pub AreRows-wider : (rows more_rows columns more_columns : List (ℕ × ℕ)) (from : ℕ) (pairs : List (ℕ × ℕ)) (shelf : Contents)
      (cells more_cells : List (List NodeRef)) → Extends rows more_rows → Extends columns more_columns → length more_cells ≡ length more_rows →
      ((i : ℕ) (roots : List NodeRef) → slice_get more_cells i ≡ Some roots → (slice_get cells i ≡ Some roots) ⊎ (roots ≡ [])) →
      AreRows AB s rows columns from pairs shelf cells → AreRows AB s more_rows more_columns (length more_rows) pairs shelf more_cells
  AreRows-wider rows more_rows columns more_columns from pairs shelf cells more_cells in_rows in_columns many known are = record {
    many = many;
    each = λ i row roots at there. elim (known i roots there) [
      | inl before ↦
          let old = get-index rows i (omega (arith, are.many, slice_get_within cells i roots before)) in
          IsRow-wider row columns more_columns pairs shelf roots in_columns
          (are.each i row roots (old.1 ∙ sym (in_rows.kept i old.0 old.1) ∙ at) before)
      | inr none ↦ subst (λ (rs : List NodeRef). IsRow AB s row more_columns pairs shelf rs) (sym none) (IsRow-none row more_columns pairs shelf)
    ];
    full = λ i roots there later. absurd (omega (arith, many, slice_get_within more_cells i roots there, later));
  }

-- roots behind others
pub get-before : {X : Type 0} (xs ys : List X) (k : ℕ) → k < length xs → slice_get (xs ++ ys) k ≡ slice_get xs k
get-before [] ys k within = absurd (omega arith)
get-before (x ∷ xs) ys zero within = refl
get-before (x ∷ xs) ys (suc k) within = get-before xs ys k (omega arith)

pub get-behind : {X : Type 0} (xs ys : List X) (k : ℕ) → slice_get (xs ++ ys) (length xs + k) ≡ slice_get ys k
get-behind [] ys k = let at : 0 + k ≡ k = omega arith in ap (slice_get ys) at
get-behind (x ∷ xs) ys k =
    let at : suc (length xs) + k ≡ suc (length xs + k) = omega arith in
    ap (slice_get (x ∷ (xs ++ ys))) at ∙ get-behind xs ys k

pub row_by_row-more : (cells : List (List NodeRef)) (row : List NodeRef) → row_by_row (cells ++ row ∷ []) ≡ row_by_row cells ++ row
row_by_row-more [] row = append-nil row
row_by_row-more (x ∷ xs) row = ap (λ (rs : List NodeRef). x ++ rs) (row_by_row-more xs row) ∙ sym (append_assoc x (row_by_row xs) row)

-- rows that each have so many roots
abbrev pub AreWide : ℕ → List (List NodeRef) → Type 0
AreWide width cells = (i : ℕ) (roots : List NodeRef) → slice_get cells i ≡ Some roots → length roots ≡ width

pub length-row_by_row : (width : ℕ) (cells : List (List NodeRef)) → AreWide width cells → length (row_by_row cells) ≡ length cells * width
length-row_by_row width [] wide = omega arith
length-row_by_row width (row ∷ rows) wide =
    let first = wide 0 row refl in
    let rest = length-row_by_row width rows (λ i roots there. wide (suc i) roots there) in
    let both : length row + length (row_by_row rows) ≡ length rows * width + width = omega (arith, first, rest) in
    length-append row (row_by_row rows) ∙ both ∙ sym (suc-mul (length rows) width)

pub get-row_by_row : (width : ℕ) (cells : List (List NodeRef)) → AreWide width cells → (i j : ℕ) (row : List NodeRef) → slice_get cells i ≡ Some row →
    j < width → slice_get (row_by_row cells) (i * width + j) ≡ slice_get row j
get-row_by_row width [] wide i j row at within = absurd (omega (arith, slice_get_within [] i row at))
get-row_by_row width (x ∷ xs) wide zero j row at within =
    let long = wide 0 x refl in
    let place : 0 * width + j ≡ j = omega arith in
    ap (slice_get (x ++ row_by_row xs)) place ∙ get-before x (row_by_row xs) j (omega arith)
    ∙ ap (λ (rs : List NodeRef). slice_get rs j) (same_roots x row at)
get-row_by_row width (x ∷ xs) wide (suc i) j row at within =
    let long = wide 0 x refl in
    let step = suc-mul i width in
    let place : suc i * width + j ≡ length x + (i * width + j) = omega arith in
    ap (slice_get (x ++ row_by_row xs)) place ∙ get-behind x (row_by_row xs) (i * width + j)
    ∙ get-row_by_row width xs (λ k roots there. wide (suc k) roots there) i j row at within

valid-row_by_row : (shelf : Contents) (cells : List (List NodeRef)) →
    ((i : ℕ) (roots : List NodeRef) → slice_get cells i ≡ Some roots → All (IsValid shelf) roots) → All (IsValid shelf) (row_by_row cells)
valid-row_by_row shelf [] each = λ k d within. absurd (omega arith)
valid-row_by_row shelf (row ∷ rows) each =
    All-append (IsValid shelf) row (row_by_row rows) (each 0 row refl) (valid-row_by_row shelf rows (λ i roots there. each (suc i) roots there))

-- the roots of rows are valid
pub AreRows-valid : (AB : Automaton (ℕ × ℕ)) (s : ℕ) (rows columns : List (ℕ × ℕ)) (from : ℕ) (pairs : List (ℕ × ℕ)) (shelf : Contents)
    (cells : List (List NodeRef)) → AreRows AB s rows columns from pairs shelf cells → All (IsValid shelf) (row_by_row cells)
AreRows-valid AB s rows columns from pairs shelf cells are = valid-row_by_row shelf cells (λ i roots there k d within.
    let row = get-index rows i (omega (arith, are.many, slice_get_within cells i roots there)) in
    let is = are.each i row.0 roots row.1 there in
    let column = get-index columns k (omega (arith, within, is.few)) in
    (is.cell k column.0 (get_or roots k d) column.1 (slice_get-get_or roots k d within)).valid)
