-- The automaton of a grid.
use Rattle.std.proofs.Common.{◌≡◌, ℕ, zero, suc, ◌+◌, ◌*◌, ◌/◌, ◌%◌, ◌^◌, ◌<◌, ◌≤◌, Bool, List, [], ◌∷◌, length, Option, Some, None}
use Rattle.std.proofs.Common.{refl, sym, ◌∙◌, ap, subst, arith, inl, inr}
use Rattle.std.specs.Prelude.{IsSome, is_some, slice_get, option_map, option_and_then}
use Rattle.std.proofs.lemmas.Bool.{false≢true, lt-ltb, ltb-true, cases_lt}
use Rattle.std.proofs.lemmas.Nat.{mul-add-lt}
use Rattle.std.proofs.lemmas.Option.{slice_get_past}
use Rattle.std.proofs.Math.Nat.{mul_comm, mod-lt, div-lt_iff_lt-mul, div-add-mod}
use Rattle.labels.specs.Labels.{Label, empty_label}
use Rattle.bdd_nodes.specs.declared.node_ref.NodeRef.{NodeRef}
use Rattle.bdd_nodes.specs.Nodes.{node_of, state_named}
use Rattle.bdd_nodes.specs.declared.node.Node.{Node}
use Rattle.bdd_nodes.specs.Shelf.{Contents, state_of, root_of, tables_added}
use Rattle.bdd_nodes.specs.Changes.{AddsTable}
use Rattle.gta_theory.specs.Guides.{IsGuide, IsSpace, left, right}
use Rattle.gta_theory.specs.Numbered.{Below}
use Rattle.gta_theory.specs.Sizes.{IsChildPair}
use Rattle.gta_core.specs.declared.part.Part.{Part}
use Rattle.gta_core.specs.Auto.{AutoView, states_of, place_in, root_at, automaton_of, IsUsed, IsAuto, IsWhole}
use Rattle.gta_core.proofs.AutoLemmas.{step-some}
use Rattle.gta_gallery.specs.Functions.{GoTo}
use Rattle.gta_gallery.specs.Grids.{IsGridPart, AreGridParts}

abbrev pub grid_view : ℕ → Part → List Bool → AutoView
grid_view table part accepting = record { table = table; parts = part ∷ []; accepting = accepting }

pub IsWhole-grid : (table states columns : ℕ) (part : Part) (accepting : List Bool) → IsGridPart states columns part → 0 < states → states ≤ 2 ^ 31 →
    length accepting ≡ states → IsWhole (grid_view table part accepting)
IsWhole-grid table states columns part accepting is some few many = record {
  guide = subst (λ (pair : ℕ × ℕ). IsGuide (pair ∷ [])) (sym is.children_are) plain;
  few = few-at;
  accepting = many ∙ sym is.states_are;
}
  where
    inside : (s : ℕ) → s < 1 → left ((0, 0) ∷ []) s < 1
    inside zero s_in = omega arith
    inside (suc s) s_in = absurd (omega arith)

    inside-right : (s : ℕ) → s < 1 → right ((0, 0) ∷ []) s < 1
    inside-right zero s_in = omega arith
    inside-right (suc s) s_in = absurd (omega arith)

    plain : IsGuide ((0, 0) ∷ [])
    plain = record { not_empty = omega arith; left_inside = inside; right_inside = inside-right }

    few-at : (s : ℕ) → states_of (grid_view table part accepting) s ≤ 2 ^ 31
    few-at zero = let e = is.states_are in omega arith
    few-at (suc s) = omega arith

within-some : {X : Type 0} (xs : List X) (i : ℕ) → IsSome (slice_get xs i) → i < length xs
within-some [] i some = absurd (false≢true some)
within-some (x ∷ xs) zero some = omega arith
within-some (x ∷ xs) (suc i) some = let rest = within-some xs i some in omega arith

some-within : {X : Type 0} (xs : List X) (i : ℕ) → i < length xs → IsSome (slice_get xs i)
some-within [] i inside = absurd (omega arith)
some-within (x ∷ xs) zero inside = refl
some-within (x ∷ xs) (suc i) inside = some-within xs i (omega arith)

get-some : {X : Type 0} (xs : List X) (i : ℕ) → i < length xs → (x : X) × (slice_get xs i ≡ Some x)
get-some [] i inside = absurd (omega arith)
get-some (x ∷ xs) zero inside = (x, refl)
get-some (x ∷ xs) (suc i) inside = get-some xs i (omega arith)

module _ (old new : Contents) (table rows columns : ℕ) (refs : List NodeRef) (part : Part) (accepting : List Bool)
    (some_columns : 0 < columns) (many : rows * columns ≡ length refs)
    (is : IsGridPart (length refs) columns part) (go : GoTo old (length refs) refs) (some : 0 < length refs)
    (adds : AddsTable old new table refs) where
  -- where the reference of a pair stands
  place : ℕ → ℕ → ℕ
  place l r = l / columns * columns + r % columns

  place-inside : (l r : ℕ) → l < length refs → r < length refs → place l r < length refs
  unfolding place
  place-inside l r l_in r_in =
      let row : l / columns < rows = (div-lt_iff_lt-mul some_columns).1 (omega (arith, many)) in
      let column = mod-lt r some_columns in
      omega (arith, mul-add-lt (l / columns) columns (r % columns) rows row column, mul_comm columns rows, many)

  place-known : (l r : ℕ) → l < length refs → r < length refs → place_in part l r ≡ Some (place l r)
  unfolding place
  place-known l r l_in r_in =
      ap (λ (o : Option ℕ). option_and_then (λ row. option_and_then (λ column.
      option_map (λ cell. part.first + cell) (slice_get part.cells (row * part.width + column)))
      (slice_get part.columns r)) o) (is.rows_are.each l l_in)
      ∙ ap (λ (o : Option ℕ). option_and_then (λ column.
      option_map (λ cell. part.first + cell) (slice_get part.cells (l / columns * part.width + column))) o) (is.columns_are.each r r_in)
      ∙ ap (λ (w : ℕ). option_map (λ cell. part.first + cell) (slice_get part.cells (l / columns * w + r % columns))) is.width_is
      ∙ ap (λ (o : Option ℕ). option_map (λ cell. part.first + cell) o) (is.cells_are.each (l / columns * columns + r % columns) (place-inside l r l_in r_in))
      ∙ ap (λ (k : ℕ). Some (k + (l / columns * columns + r % columns))) is.first_is ∙ ap (λ (k : ℕ). Some k) (omega arith)

  place-above : (l r : ℕ) → length refs ≤ l → place_in part l r ≡ None
  place-above l r past =
      ap (λ (o : Option ℕ). option_and_then (λ row. option_and_then (λ column.
      option_map (λ cell. part.first + cell) (slice_get part.cells (row * part.width + column)))
      (slice_get part.columns r)) o) (slice_get_past part.rows l (let m = is.rows_are.many in omega arith))

  no-columns : (o : Option ℕ) (r : ℕ) → slice_get part.columns r ≡ None → option_and_then (λ row. option_and_then (λ column.
      option_map (λ cell. part.first + cell) (slice_get part.cells (row * part.width + column)))
      (slice_get part.columns r)) o ≡ None
  no-columns None r none = refl
  no-columns (Some row) r none = ap (λ (o : Option ℕ). option_and_then (λ column.
      option_map (λ cell. part.first + cell) (slice_get part.cells (row * part.width + column))) o) none

  place-beside : (l r : ℕ) → length refs ≤ r → place_in part l r ≡ None
  place-beside l r past = no-columns (slice_get part.rows l) r (slice_get_past part.columns r (let m = is.columns_are.many in omega arith))

  root-is : (k : ℕ) → root_of new table k ≡ slice_get refs k
  root-is k = ap (λ (o : Option (List NodeRef)). option_and_then (λ (rs : List NodeRef). slice_get rs k) o) adds.roots

  root-known : (l r : ℕ) → l < length refs → r < length refs → root_at new (grid_view table part accepting) 0 l r ≡ slice_get refs (place l r)
  unfolding root_at
  root-known l r l_in r_in = ap (option_and_then (root_of new table)) (place-known l r l_in r_in) ∙ root-is (place l r)

  state-same : (r : NodeRef) (label : Label) → state_of new r label ≡ state_of old r label
  state-same r label = ap (λ (nodes : List Node). state_named nodes (node_of r) label) adds.nodes.nodes

  step-is : (l r : ℕ) (label : Label) (root : NodeRef) → l < length refs → r < length refs → slice_get refs (place l r) ≡ Some root →
      (automaton_of new (grid_view table part accepting)).step 0 l r label ≡ state_of old root label
  step-is l r label root l_in r_in there =
      sym (step-some new (grid_view table part accepting) 0 l r label root (root-known l r l_in r_in ∙ there)) ∙ state-same root label

  below-state : (q : ℕ) → Below (states_of (grid_view table part accepting)) 0 q → q < length refs
  below-state q below = let b = ltb-true q part.states below in let e = is.states_are in omega arith

  state-below : (q : ℕ) → q < length refs → Below (states_of (grid_view table part accepting)) 0 q
  state-below q inside = lt-ltb q part.states (let e = is.states_are in omega arith)

  none-some : {X : Type 0} (o : Option X) → o ≡ None → IsSome o → ⊥
  none-some {X} o none there = false≢true (sym (ap (λ (p : Option X). is_some p) none) ∙ there)

  no-root : (l r : ℕ) → place_in part l r ≡ None → root_at new (grid_view table part accepting) 0 l r ≡ None
  unfolding root_at
  no-root l r none = ap (option_and_then (root_of new table)) none

  no-space : (s l r : ℕ) → root_at new (grid_view table part accepting) (suc s) l r ≡ None
  unfolding root_at
  no-space s l r = refl

  known-pair : (l r : ℕ) → IsSome (root_at new (grid_view table part accepting) 0 l r) → (l < length refs) × (r < length refs)
  known-pair l r there = elim (cases_lt l (length refs)) [
    | inr above ↦ absurd (none-some (root_at new (grid_view table part accepting) 0 l r) (no-root l r (place-above l r (omega arith))) there)
    | inl l_in ↦ elim (cases_lt r (length refs)) [
      | inr beside ↦ absurd (none-some (root_at new (grid_view table part accepting) 0 l r) (no-root l r (place-beside l r (omega arith))) there)
      | inl r_in ↦ (l_in, r_in)
    ]
  ]

  pair-there : (s l r : ℕ) → IsSome (root_at new (grid_view table part accepting) s l r) →
      IsSpace ((0, 0) ∷ []) s × IsChildPair ((0, 0) ∷ []) (Below (states_of (grid_view table part accepting))) s (l, r)
  pair-there zero l r there =
      let known = known-pair l r there in
      (omega arith, (state-below l known.0, state-below r known.1))
  pair-there (suc s) l r there = absurd (none-some (root_at new (grid_view table part accepting) (suc s) l r) (no-space s l r) there)

  there-pair : (s l r : ℕ) → IsSpace ((0, 0) ∷ []) s → IsChildPair ((0, 0) ∷ []) (Below (states_of (grid_view table part accepting))) s (l, r) →
      IsSome (root_at new (grid_view table part accepting) s l r)
  there-pair zero l r space pair =
      let l_in = below-state l pair.0 in
      let r_in = below-state r pair.1 in
      subst (λ (o : Option NodeRef). IsSome o) (sym (root-known l r l_in r_in)) (some-within refs (place l r) (place-inside l r l_in r_in))
  there-pair (suc s) l r space pair = absurd (omega arith)

  used-at : (k : ℕ) → IsSome (root_of new table k) → IsUsed (grid_view table part accepting) k
  unfolding place
  used-at k there =
      let inside = within-some refs k (subst (λ (o : Option NodeRef). IsSome o) (root-is k) there) in
      let whole : place k k ≡ k = omega (arith, div-add-mod k columns, mul_comm columns (k / columns)) in
      record { space = 0; left = k; right = k; there = place-known k k inside inside ∙ ap (λ (n : ℕ). Some n) whole }

  closed-step : (s p q : ℕ) (label : Label) → IsSpace ((0, 0) ∷ []) s →
      Below (states_of (grid_view table part accepting)) (left ((0, 0) ∷ []) s) p →
      Below (states_of (grid_view table part accepting)) (right ((0, 0) ∷ []) s) q →
      Below (states_of (grid_view table part accepting)) s ((automaton_of new (grid_view table part accepting)).step s p q label)
  closed-step zero p q label space p_below q_below =
      let p_in = below-state p p_below in
      let q_in = below-state q q_below in
      let at = get-some refs (place p q) (place-inside p q p_in q_in) in
      state-below ((automaton_of new (grid_view table part accepting)).step 0 p q label)
      (let e = step-is p q label at.0 p_in q_in at.1 in let b = (go.each (place p q) at.0 at.1).below label in omega arith)
  closed-step (suc s) p q label space p_below q_below = absurd (omega arith)

  initial-zero : (automaton_of new (grid_view table part accepting)).initial 0 ≡ 0
  unfolding automaton_of
  initial-zero = is.initial_is

  initial-below : (s : ℕ) → IsSpace ((0, 0) ∷ []) s →
      Below (states_of (grid_view table part accepting)) s ((automaton_of new (grid_view table part accepting)).initial s)
  initial-below zero space = state-below ((automaton_of new (grid_view table part accepting)).initial 0) (let e = initial-zero in omega arith)
  initial-below (suc s) space = absurd (omega arith)

  place-zero : place 0 0 ≡ 0
  unfolding place
  place-zero = omega (arith, div-add-mod 0 columns, mul_comm columns (0 / columns))

  stable-at : (s : ℕ) → IsSpace ((0, 0) ∷ []) s → (automaton_of new (grid_view table part accepting)).step s
      ((automaton_of new (grid_view table part accepting)).initial (left ((0, 0) ∷ []) s))
      ((automaton_of new (grid_view table part accepting)).initial (right ((0, 0) ∷ []) s)) empty_label
      ≡ (automaton_of new (grid_view table part accepting)).initial s
  stable-at zero space =
      let at = get-some refs 0 some in
      ap (λ (k : ℕ). (automaton_of new (grid_view table part accepting)).step 0 k
      ((automaton_of new (grid_view table part accepting)).initial 0) empty_label) initial-zero
      ∙ ap (λ (k : ℕ). (automaton_of new (grid_view table part accepting)).step 0 0 k empty_label) initial-zero
      ∙ step-is 0 0 empty_label at.0 some some (ap (slice_get refs) place-zero ∙ at.1) ∙ go.first at.0 at.1 ∙ sym initial-zero
  stable-at (suc s) space = absurd (omega arith)

  pub IsAuto-grid : IsAuto ((0, 0) ∷ []) new (grid_view table part accepting)
  IsAuto-grid = record {
    over = ap (λ (pair : ℕ × ℕ). pair ∷ []) is.children_are;
    registered = ap (λ (o : Option (List NodeRef)). is_some o) adds.roots;
    complete = λ s l r. (pair-there s l r, λ pair. there-pair s l r pair.0 pair.1);
    used = used-at;
    closed = record { initial = initial-below; step = closed-step };
    stable = record { at = stable-at };
  }

-- what is kept of a grid
pub IsWhole-built : (states columns : ℕ) (parts : List Part) (accepting : List Bool) → AreGridParts states columns parts → 0 < states →
    states ≤ 2 ^ 31 → length accepting ≡ states → (table : ℕ) → IsWhole (record { table = table; parts = parts; accepting = accepting })
IsWhole-built states columns parts accepting are some few many table =
    subst (λ (ps : List Part). IsWhole (record { table = table; parts = ps; accepting = accepting })) (sym are.parts_are)
    (IsWhole-grid table states columns are.part accepting are.is_grid some few many)

pub IsAuto-built : (old new : Contents) (rows columns : ℕ) (refs : List NodeRef) (parts : List Part) (accepting : List Bool) (auto : AutoView) →
    0 < columns → rows * columns ≡ length refs → AreGridParts (rows * columns) columns parts → GoTo old (length refs) refs → 0 < length refs →
    auto ≡ record { table = tables_added old; parts = parts; accepting = accepting } → AddsTable old new auto.table refs →
    IsAuto ((0, 0) ∷ []) new auto
IsAuto-built old new rows columns refs parts accepting auto some_columns many are go some is adds =
    let whole : auto ≡ grid_view (tables_added old) are.part accepting = is
    ∙ ap (λ (ps : List Part). let a : AutoView = record { table = tables_added old; parts = ps; accepting = accepting } in a) are.parts_are in
    subst (λ (a : AutoView). IsAuto ((0, 0) ∷ []) new a) (sym whole)
    (IsAuto-grid old new (tables_added old) rows columns refs are.part accepting some_columns many
    (subst (λ (n : ℕ). IsGridPart n columns are.part) many are.is_grid) go some
    (subst (λ (t : ℕ). AddsTable old new t refs) (ap (λ (a : AutoView). a.table) is) adds))
