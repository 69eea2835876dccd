-- Parts whose cells are numbered row after row: which roots they have for states of their children.
use Rattle.std.proofs.Common.{◌≡◌, ℕ, zero, suc, ◌+◌, ◌*◌, ◌-◌, ◌<◌, ◌≤◌, List, [], ◌∷◌, length, Option, Some, slice_get, refl}
use Rattle.std.proofs.Common.{sym, ◌∙◌, ap, subst, inl, inr, arith, suc-mul, mul-le-mul_right}
use Rattle.std.specs.Prelude.{option_map, option_and_then, unwrap_or}
use Rattle.std.specs.List.{range_with_len}
use Rattle.std.proofs.lemmas.Bool.{cases_lt}
use Rattle.std.proofs.lemmas.Option.{slice_get-get_or}
use Rattle.std.proofs.lemmas.List.FromFn.{length-range_with_len, get_or-range_with_len}
use Rattle.labels.specs.Labels.{Label}
use Rattle.bdd_nodes.specs.declared.node_ref.NodeRef.{NodeRef}
use Rattle.bdd_nodes.specs.Shelf.{Contents, state_of, root_of}
use Rattle.gta_core.specs.declared.part.Part.{Part}
use Rattle.gta_core.specs.Auto.{AutoView, place_in, root_at, automaton_of}
use Rattle.gta_core.specs.Placing.{HasPlace}

pub get-index : {X : Type 0} (xs : List X) (k : ℕ) → k < length xs → (x : X) × (slice_get xs k ≡ Some x)
get-index [] k within = absurd (omega arith)
get-index (x ∷ xs) zero within = (x, refl)
get-index (x ∷ xs) (suc k) within = get-index xs k (omega arith)

get-range : (n k : ℕ) → k < n → slice_get (range_with_len 0 n) k ≡ Some k
get-range n k within =
    let inside : k < length (range_with_len 0 n) = omega (arith, length-range_with_len 0 n) in
    slice_get-get_or (range_with_len 0 n) k 0 inside
    ∙ ap (λ (m : ℕ). let o : Option ℕ = Some m in o) (get_or-range_with_len 0 n k 0 within ∙ (let e : 0 + k ≡ k = omega arith in e))

-- a cell of a row and a column
pub cell-inside : (rows columns i j : ℕ) → i < rows → j < columns → i * columns + j < rows * columns
cell-inside rows columns i j below within =
    let most = mul-le-mul_right columns below in
    let step = suc-mul i columns in
    omega arith

-- the row and the column of a cell in a table of so many rows and columns
pub record IsInTable (rows columns cell : ℕ) : Type 0 where
  pub row : ℕ
  pub column : ℕ
  pub row_within : row < rows
  pub column_within : column < columns
  pub is : cell ≡ row * columns + column

pub in-table : (rows columns cell : ℕ) → cell < rows * columns → IsInTable rows columns cell
in-table zero columns cell within = absurd (omega arith)
in-table (suc rows) columns cell within = elim (cases_lt cell columns) [
  | inl first ↦ record { row = 0; column = cell; row_within = omega arith; column_within = first; is = omega arith }
  | inr later ↦
      let before = in-table rows columns (cell - columns) (omega arith) in
      let at = before.is in
      record {
        row = suc before.row;
        column = before.column;
        row_within = omega (arith, before.row_within);
        column_within = before.column_within;
        is = omega arith;
      }
]

-- states of a class have the same roots
pub root_at-classes : (shelf : Contents) (a : AutoView) (s : ℕ) (part : Part) (l m r q : ℕ) → slice_get a.parts s ≡ Some part →
    slice_get part.rows l ≡ slice_get part.rows m → slice_get part.columns r ≡ slice_get part.columns q →
    root_at shelf a s l r ≡ root_at shelf a s m q
unfolding root_at
root_at-classes shelf a s part l m r q at rows columns =
    ap (λ (o : Option Part). option_and_then (root_of shelf a.table) (option_and_then (λ (p : Part). place_in p l r) o)) at
    ∙ ap (λ (o : Option ℕ). option_and_then (root_of shelf a.table) (option_and_then (λ (row : ℕ). option_and_then (λ (column : ℕ).
    option_map (λ (cell : ℕ). part.first + cell) (slice_get part.cells (row * part.width + column))) (slice_get part.columns r)) o)) rows
    ∙ ap (λ (o : Option ℕ). option_and_then (root_of shelf a.table) (option_and_then (λ (row : ℕ). option_and_then (λ (column : ℕ).
    option_map (λ (cell : ℕ). part.first + cell) (slice_get part.cells (row * part.width + column))) o) (slice_get part.rows m))) columns
    ∙ sym (ap (λ (o : Option Part). option_and_then (root_of shelf a.table) (option_and_then (λ (p : Part). place_in p m q) o)) at)

-- and steps from them are the same
pub step-classes : (shelf : Contents) (a : AutoView) (s : ℕ) (part : Part) (l m r q : ℕ) → slice_get a.parts s ≡ Some part →
    slice_get part.rows l ≡ slice_get part.rows m → slice_get part.columns r ≡ slice_get part.columns q → (label : Label) →
    (automaton_of shelf a).step s l r label ≡ (automaton_of shelf a).step s m q label
unfolding automaton_of
step-classes shelf a s part l m r q at rows columns label =
    ap (λ (o : Option NodeRef). unwrap_or (option_map (state_of shelf) o) (λ _. 0) label) (root_at-classes shelf a s part l m r q at rows columns)

-- a place behind the first one
behind : (first place cell : ℕ) → first ≤ place → place - first ≡ cell → first + cell ≡ place
behind first place cell from is = omega arith

-- a part whose cells are numbered
module _ (part : Part) (height width : ℕ) (is_width : part.width ≡ width) (numbered : part.cells ≡ range_with_len 0 (height * width)) where
  -- the place of a row and a column
  cell-at : (i j : ℕ) → i < height → j < width → slice_get part.cells (i * part.width + j) ≡ Some (i * width + j)
  cell-at i j below within =
      ap (λ (n : ℕ). slice_get part.cells (i * n + j)) is_width
      ∙ ap (λ (cells : List ℕ). slice_get cells (i * width + j)) numbered
      ∙ get-range (height * width) (i * width + j) (cell-inside height width i j below within)

  pub place_in-numbered : (l r i j : ℕ) → slice_get part.rows l ≡ Some i → slice_get part.columns r ≡ Some j → i < height → j < width →
      place_in part l r ≡ Some (part.first + (i * width + j))
  place_in-numbered l r i j row column below within =
      ap (λ (o : Option ℕ). option_and_then (λ (row : ℕ). option_and_then (λ (column : ℕ).
      option_map (λ (cell : ℕ). part.first + cell) (slice_get part.cells (row * part.width + column))) (slice_get part.columns r)) o) row
      ∙ ap (λ (o : Option ℕ). option_and_then (λ (column : ℕ).
      option_map (λ (cell : ℕ). part.first + cell) (slice_get part.cells (i * part.width + column))) o) column
      ∙ ap (option_map (λ (cell : ℕ). part.first + cell)) (cell-at i j below within)

  -- a place of the part is that of some states, where each row and each column has one
  pub HasPlace-numbered : ((i : ℕ) → i < height → (l : ℕ) × (slice_get part.rows l ≡ Some i)) →
      ((j : ℕ) → j < width → (r : ℕ) × (slice_get part.columns r ≡ Some j)) →
      (place : ℕ) → part.first ≤ place → place < part.first + length part.cells → HasPlace part place
  HasPlace-numbered row column place from to =
      let many = ap length numbered ∙ length-range_with_len 0 (height * width) in
      let at = in-table height width (place - part.first) (omega arith) in
      let l = row at.row at.row_within in
      let r = column at.column at.column_within in
      record {
        left = l.0;
        right = r.0;
        there = subst (λ (n : ℕ). place_in part l.0 r.0 ≡ Some n) (behind part.first place (at.row * width + at.column) from at.is)
            (place_in-numbered l.0 r.0 at.row at.column l.1 r.1 at.row_within at.column_within);
      }
