-- The cells of a finite assignment, as a list in preorder.
use Rattle.std.proofs.Common.{◌≡◌, ◌⊎◌, ℕ, zero, suc, ◌+◌, ◌<◌, ◌≤◌, Bool, true, false, cond, IsTrue, inl, inr, List, [], ◌∷◌, ◌++◌, length, map, slice_get}
use Rattle.std.proofs.Common.{Option, Some, None, IsSomeAnd}
use Rattle.std.proofs.Common.{refl, sym, ap, ◌∙◌, subst, arith, append_assoc, append-nil}
use Rattle.std.proofs.lemmas.Bool.{cases_lt, false≢true}
use Rattle.std.proofs.lemmas.Option.{slice_get_within, same_Some}
use Rattle.gta_theory.specs.Assignments.{Position, Assignment, IsFinite}
use Rattle.ws2s_core.specs.declared.track.Track.{Track}
use Rattle.store_core.specs.declared.ids.VariantId.{VariantId}
use Rattle.store_core.specs.declared.ids.FieldId.{FieldId}
use Rattle.store_core.specs.declared.ids.VarId.{VarId}
use Rattle.store_core.specs.Tables.{TypeEntry, VarEntry}
use Rattle.store_core.specs.Stores.{StoreMap}
use Rattle.store_core.proofs.FittingLemmas.{IsSomeAnd-at}
use Rattle.tree_encode.specs.Tracks.{of_variant, of_bool, of_var, variants_from, bools_from, vars_from, variant_track}
use Rattle.tree_encode.proofs.TracksLemmas.{in_first, in_second, track-variant}
use Rattle.tree_store.specs.Shapes.{IsCellOf, LaysOut}
use Rattle.tree_store.specs.Preorder.{ComesBefore}
use Rattle.tree_store.specs.Decoded.{Standing, AreCells, is_on, cell_at, cells_below, decoded}
use Rattle.tree_store.specs.Stores.{IsStoreOf}
use Rattle.tree_store.proofs.MarksLemmas.{one-variant}
use Rattle.tree_store.proofs.StoreLemmas.{IsStoreOf-decoded}

-- ---- the variants in order

not_bool : (fs : List FieldId) (vs : List VarId) (k : ℕ) (v : VariantId) → slice_get (map of_bool fs ++ map of_var vs) k ≡ Some (of_variant v) → ⊥
not_bool [] [] k v at = cc
not_bool [] (w ∷ vs) zero v at = cc
not_bool [] (w ∷ vs) (suc k) v at = not_bool [] vs k v at
not_bool (f ∷ fs) vs zero v at = cc
not_bool (f ∷ fs) vs (suc k) v at = not_bool fs vs k v at

among : (variants : List VariantId) (fs : List FieldId) (vs : List VarId) (k : ℕ) (v : VariantId) →
    slice_get (map of_variant variants ++ (map of_bool fs ++ map of_var vs)) k ≡ Some (of_variant v) → slice_get variants k ≡ Some v
among [] fs vs k v at = absurd (not_bool fs vs k v at)
among (w ∷ variants) fs vs zero v at = cc
among (w ∷ variants) fs vs (suc k) v at = among variants fs vs k v at

-- a variant stands in the list of all at the number of its track
pub variant-listed : (types : List TypeEntry) (v : VariantId) (t : Track) → variant_track types v ≡ Some t → slice_get (variants_from 0 types) t.0 ≡ Some v
variant-listed types v t is = among (variants_from 0 types) (bools_from 0 types) (vars_from 0 []) t.0 v (track-variant types [] v t is)

-- ---- lists in preorder

appended : (xs ys : List Standing) (i : ℕ) (x : Standing) → slice_get (xs ++ ys) i ≡ Some x →
    (slice_get xs i ≡ Some x) ⊎ ((k : ℕ) × (i ≡ length xs + k) × (slice_get ys k ≡ Some x))
appended [] ys i x at = inr (i, omega arith, at)
appended (y ∷ xs) ys zero x at = inl at
appended (y ∷ xs) ys (suc i) x at = elim (appended xs ys i x at) [
  | inl front ↦ inl front
  | inr back ↦ inr (back.0, (let e : i ≡ length xs + back.0 = back.1 in omega arith), back.2)
]

InOrder : List Standing → Type 0
InOrder xs = (i j : ℕ) (x y : Standing) → i < j → slice_get xs i ≡ Some x → slice_get xs j ≡ Some y → ComesBefore x.at y.at

InOrder-append : (xs ys : List Standing) → InOrder xs → InOrder ys →
    ((i j : ℕ) (x y : Standing) → slice_get xs i ≡ Some x → slice_get ys j ≡ Some y → ComesBefore x.at y.at) → InOrder (xs ++ ys)
unfolding InOrder
InOrder-append xs ys of_xs of_ys between i j x y less at_i at_j = by (appended xs ys i x at_i) (appended xs ys j y at_j)
  where
    by : (slice_get xs i ≡ Some x) ⊎ ((k : ℕ) × (i ≡ length xs + k) × (slice_get ys k ≡ Some x)) →
        (slice_get xs j ≡ Some y) ⊎ ((k : ℕ) × (j ≡ length xs + k) × (slice_get ys k ≡ Some y)) → ComesBefore x.at y.at
    by (inl one) (inl other) = of_xs i j x y less one other
    by (inl one) (inr other) = between i other.0 x y one other.2
    by (inr one) (inr other) = let e = one.1 in let h = other.1 in of_ys one.0 other.0 x y (omega arith) one.2 other.2
    by (inr one) (inl other) = let e = one.1 in let inside = slice_get_within xs j y other in absurd (omega arith)

further : (p u v : Position) → ComesBefore u v → ComesBefore (p ++ u) (p ++ v)
further [] u v h = h
further (false ∷ p) u v h = further p u v h
further (true ∷ p) u v h = further p u v h

-- ---- the cells at a position

module _ (types : List TypeEntry) (vars : List VarEntry) (a : Assignment) (lays : LaysOut types vars a) where
  on_cell : (v : VariantId) (p : Position) → is_on a (variant_track types v) p ≡ true → IsCellOf types a v p
  on_cell v p on = by (variant_track types v) on
    where
      by : (o : Option Track) → is_on a o p ≡ true → IsSomeAnd o (λ t. IsTrue (a t.0 p))
      by None e = cc
      by (Some t) e = e

  cell_on : (v : VariantId) (p : Position) → IsCellOf types a v p → is_on a (variant_track types v) p ≡ true
  cell_on v p of = by (variant_track types v) of
    where
      by : (o : Option Track) → IsSomeAnd o (λ t. IsTrue (a t.0 p)) → is_on a o p ≡ true
      by None e = absurd e
      by (Some t) e = e

  -- it is one at most, and stands there
  cell_each : (p : Position) (variants : List VariantId) (i : ℕ) (x : Standing) → slice_get (cell_at types a p variants) i ≡ Some x →
      (x.at ≡ p) × IsCellOf types a x.variant x.at × (i ≡ 0)
  cell_each p [] i x at = absurd (cc)
  cell_each p (v ∷ variants) i x at = by (is_on a (variant_track types v) p) refl at (λ later. cell_each p variants i x later)
    where
      found : (i : ℕ) → is_on a (variant_track types v) p ≡ true → slice_get (record { variant = v; at = p } ∷ []) i ≡ Some x →
          (x.at ≡ p) × IsCellOf types a x.variant x.at × (i ≡ 0)
      found zero on at =
          let same : record { variant = v; at = p } ≡ x = same_Some _ x at in
          (sym (ap (λ (y : Standing). y.at) same), subst (λ (y : Standing). IsCellOf types a y.variant y.at) same (on_cell v p on), refl)
      found (suc i) on at = absurd (cc)

      by : (b : Bool) → is_on a (variant_track types v) p ≡ b → slice_get (cond b (record { variant = v; at = p } ∷ []) (cell_at types a p variants)) i ≡
          Some x →
          (slice_get (cell_at types a p variants) i ≡ Some x → (x.at ≡ p) × IsCellOf types a x.variant x.at × (i ≡ 0)) →
          (x.at ≡ p) × IsCellOf types a x.variant x.at × (i ≡ 0)
      by true on at rest = found i on at
      by false off at rest = rest at

  cell_all : (p : Position) (variants : List VariantId) (k : ℕ) (v : VariantId) → slice_get variants k ≡ Some v → IsCellOf types a v p →
      slice_get (cell_at types a p variants) 0 ≡ Some (record { variant = v; at = p })
  cell_all p [] k v at of = absurd (cc)
  cell_all p (w ∷ variants) zero v at of =
      let same : w ≡ v = cc in
      ap (λ b. slice_get (cond b (record { variant = w; at = p } ∷ []) (cell_at types a p variants)) 0)
      (ap (λ u. is_on a (variant_track types u) p) same ∙ cell_on v p of) ∙ ap (λ u. Some (record { variant = u; at = p })) same
  cell_all p (w ∷ variants) (suc k) v at of = by (is_on a (variant_track types w) p) refl (cell_all p variants k v at of)
    where
      by : (b : Bool) → is_on a (variant_track types w) p ≡ b → slice_get (cell_at types a p variants) 0 ≡ Some (record { variant = v; at = p }) →
          slice_get (cond b (record { variant = w; at = p } ∷ []) (cell_at types a p variants)) 0 ≡ Some (record { variant = v; at = p })
      by true on rest = ap (λ u. Some (record { variant = u; at = p })) (one-variant types vars a lays w v p (on_cell w p on) of)
      by false off rest = rest

  -- ---- and below it

  record Below (p : Position) (x : Standing) : Type 0 where
    word : Position
    is : x.at ≡ p ++ word

  deeper : (b : Bool) (p : Position) (x : Standing) → Below (p ++ b ∷ []) x → (w : Position) × (x.at ≡ p ++ (b ∷ w))
  deeper b p x h = (h.word, h.is ∙ append_assoc p (b ∷ []) h.word)

  abbrev here : Position → List Standing
  here p = cell_at types a p (variants_from 0 types)

  below_each : (n : ℕ) (p : Position) (i : ℕ) (x : Standing) → slice_get (cells_below types a n p) i ≡ Some x → IsCellOf types a x.variant x.at × Below p x
  below_each zero p i x at = absurd (cc)
  below_each (suc n) p i x at = elim (appended (here p) _ i x at) [
    | inl front ↦ let h = cell_each p (variants_from 0 types) i x front in (h.1, record { word = []; is = h.0 ∙ sym (append-nil p) })
    | inr back ↦ elim (appended (cells_below types a n (p ++ false ∷ [])) (cells_below types a n (p ++ true ∷ [])) back.0 x back.2) [
      | inl left ↦ let h = below_each n (p ++ false ∷ []) back.0 x left in let w = deeper false p x h.1 in (h.0, record { word = false ∷ w.0; is = w.1 })
      | inr right ↦ let h = below_each n (p ++ true ∷ []) right.0 x right.2 in let w = deeper true p x h.1 in (h.0, record { word = true ∷ w.0; is = w.1 })
    ]
  ]

  below_all : (n : ℕ) (p w : Position) (v : VariantId) → length w < n → IsCellOf types a v (p ++ w) →
      (i : ℕ) × (slice_get (cells_below types a n p) i ≡ Some (record { variant = v; at = p ++ w }))
  below_all zero p w v short of = absurd (omega arith)
  below_all (suc n) p [] v short of =
      let (t, is, on) = IsSomeAnd-at (variant_track types v) _ of in
      let at_p : IsCellOf types a v p = subst (IsCellOf types a v) (append-nil p) of in (
        0,
        in_first (here p) _ 0 (record { variant = v; at = p ++ [] })
            (cell_all p (variants_from 0 types) t.0 v (variant-listed types v t is) at_p ∙ ap (λ q. Some (record { variant = v; at = q }))
            (sym (append-nil p))),
      )
  below_all (suc n) p (false ∷ w) v short of =
      let deep : p ++ (false ∷ w) ≡ (p ++ false ∷ []) ++ w = sym (append_assoc p (false ∷ []) w) in
      let rest = below_all n (p ++ false ∷ []) w v (omega arith) (subst (IsCellOf types a v) deep of) in (
        length (here p) + rest.0,
        in_second (here p) _ (length (here p)) rest.0 (record { variant = v; at = p ++ (false ∷ w) }) refl
            (in_first (cells_below types a n (p ++ false ∷ [])) (cells_below types a n (p ++ true ∷ [])) rest.0 (record { variant = v; at = p ++ (false ∷ w) })
            (rest.1 ∙ ap (λ q. Some (record { variant = v; at = q })) (sym deep))),
      )
  below_all (suc n) p (true ∷ w) v short of =
      let deep : p ++ (true ∷ w) ≡ (p ++ true ∷ []) ++ w = sym (append_assoc p (true ∷ []) w) in
      let left = cells_below types a n (p ++ false ∷ []) in
      let rest = below_all n (p ++ true ∷ []) w v (omega arith) (subst (IsCellOf types a v) deep of) in (
        length (here p) + (length left + rest.0),
        in_second (here p) _ (length (here p)) (length left + rest.0) (record { variant = v; at = p ++ (true ∷ w) }) refl
            (in_second left (cells_below types a n (p ++ true ∷ [])) (length left) rest.0 (record { variant = v; at = p ++ (true ∷ w) }) refl
            (rest.1 ∙ ap (λ q. Some (record { variant = v; at = q })) (sym deep))),
      )

  below_order : (n : ℕ) (p : Position) → InOrder (cells_below types a n p)
  unfolding InOrder
  below_order zero p = λ i j x y less at_i at_j. absurd (cc)
  below_order (suc n) p =
      InOrder-append (here p) (cells_below types a n (p ++ false ∷ []) ++ cells_below types a n (p ++ true ∷ []))
      (λ i j x y less at_i at_j.
      let one = (cell_each p (variants_from 0 types) i x at_i).2 in
      let other = (cell_each p (variants_from 0 types) j y at_j).2 in absurd (omega arith))
      (InOrder-append (cells_below types a n (p ++ false ∷ [])) (cells_below types a n (p ++ true ∷ [])) (below_order n (p ++ false ∷ []))
      (below_order n (p ++ true ∷ []))
      (λ i j x y at_i at_j.
      let one = deeper false p x (below_each n (p ++ false ∷ []) i x at_i).1 in
      let other = deeper true p y (below_each n (p ++ true ∷ []) j y at_j).1 in
      subst (λ q. ComesBefore q y.at) (sym one.1) (subst (ComesBefore (p ++ (false ∷ one.0))) (sym other.1) (further p (false ∷ one.0) (true ∷ other.0) tt))))
      (λ i j x y at_i at_j. elim (appended (cells_below types a n (p ++ false ∷ [])) (cells_below types a n (p ++ true ∷ [])) j y at_j) [
        | inl left ↦ above p x y false (cell_each p (variants_from 0 types) i x at_i).0 (deeper false p y (below_each n (p ++ false ∷ []) j y left).1)
        | inr right ↦ above p x y true (cell_each p (variants_from 0 types) i x at_i).0 (deeper true p y (below_each n (p ++ true ∷ []) right.0 y right.2).1)
      ])
    where
      above : (p : Position) (x y : Standing) (b : Bool) → x.at ≡ p → (w : Position) × (y.at ≡ p ++ (b ∷ w)) → ComesBefore x.at y.at
      above p x y b at h = subst (λ q. ComesBefore q y.at) (sym at) (subst (ComesBefore p) (sym h.1)
          (subst (λ q. ComesBefore q (p ++ (b ∷ h.0))) (append-nil p) (further p [] (b ∷ h.0) tt)))

  -- ---- all of them

  pub AreCells-below : (depth : ℕ) → ((v : VariantId) (p : Position) → IsCellOf types a v p → length p < depth) → AreCells types a
      (cells_below types a depth [])
  unfolding InOrder
  AreCells-below depth short = record {
    each = λ i x at. (below_each depth [] i x at).0;
    all = λ v p of. below_all depth [] p v (short v p of) of;
    in_order = below_order depth [];
  }

  pub bound : IsFinite a → ℕ → ℕ
  bound finite zero = 0
  bound finite (suc n) = bound finite n + (finite n).0

  bounded : (finite : IsFinite a) (n t : ℕ) → t < n → (finite t).0 ≤ bound finite n
  unfolding bound
  bounded finite zero t less = absurd (omega arith)
  bounded finite (suc n) t less = elim (cases_lt t n) [
    | inl below ↦ let rest = bounded finite n t below in omega arith
    | inr same ↦ let e : t ≡ n = omega arith in subst (λ m. (finite t).0 ≤ bound finite n + (finite m).0) e (omega arith)
  ]

  pub cell_short : (finite : IsFinite a) (v : VariantId) (p : Position) → IsCellOf types a v p → length p < bound finite (length (variants_from 0 types))
  cell_short finite v p of =
      let (t, is, on) = IsSomeAnd-at (variant_track types v) _ of in
      let inside = slice_get_within (variants_from 0 types) t.0 v (variant-listed types v t is) in
      let below = bounded finite (length (variants_from 0 types)) t.0 inside in
      elim (cases_lt (length p) (finite t.0).0) [
        | inl less ↦ omega arith
        | inr more ↦ absurd (false≢true (sym ((finite t.0).1 p (omega arith)) ∙ on))
      ]

pub store_of_finite : (types : List TypeEntry) (vars : List VarEntry) (a : Assignment) → LaysOut types vars a → IsFinite a → (s : StoreMap) × IsStoreOf
    types vars a s
store_of_finite types vars a lays finite =
    let depth = bound types vars a lays finite (length (variants_from 0 types)) in
    let cells = cells_below types a depth [] in
    (decoded types vars a cells, IsStoreOf-decoded types vars a cells lays (AreCells-below types vars a lays depth (cell_short types vars a lays finite)))
