-- The callee's cells beside the rest, and the caller's variables after a return.
use Rattle.std.proofs.Common.{◌≡◌, ◌==◌, ◌<◌, ◌+◌, ◌⊎◌, inl, inr, ℕ, zero, suc, Bool, true, false, cond, not, ◌&&◌, ◌||◌, List, [], ◌∷◌, ◌++◌, map, length}
use Rattle.std.proofs.Common.{slice_get, Option, Some, None, IsSome, Contains, if◌then◌else◌, is_some, refl, sym, ap, ap₂, ◌∙◌, subst, arith}
use Rattle.std.specs.Prelude.{option_map}
use Rattle.std.specs.List.{AllZip, find, zip, range_with_len}
use Rattle.std.specs.Option.{option_map_or}
use Rattle.std.specs.Ordering.{nat_cmp, eq_by_cmp}
use Rattle.std.specs.FinMap.{FinMap, get, entries, get-entries, get-from_entries, get-retain_keys, retain_keys, nat_cmp-IsAntisymmetric}
use Rattle.std.specs.FinMap.{find as find_key}
use Rattle.std.specs.Cmp.{nat_cmp_total}
use Rattle.std.proofs.lemmas.Bool.{false≢true}
use Rattle.std.proofs.lemmas.Option.{slice_get-map, slice_get-get_or}
use Rattle.std.proofs.lemmas.List.FromFn.{get_or-range_with_len, length-range_with_len}
use Rattle.store_core.specs.declared.ids.VarId.{VarId}
use Rattle.store_core.specs.declared.ids.CellId.{CellId}
use Rattle.store_core.specs.declared.value.Value.{Value}
use Rattle.store_core.specs.Tables.{VarEntry}
use Rattle.store_core.specs.Stores.{StoreMap, CellEntry, IsLive, cell_of, var_value}
use Rattle.routing_walks.specs.Regions.{has_number, IsRest}
use Rattle.routing_walks.specs.Pieces.{piece_on}
use Rattle.routing_walks.proofs.DecidedLemmas.{decided_in}
use Rattle.routing_walks.proofs.DecidedWalks.{decided_same_cell}
use Rattle.routing_walks.proofs.PieceLemmas.{piece_on-IsOn}
use Rattle.routing_walks.proofs.RegionLemmas.{number_in, number_out}
use Rattle.store_logic.specs.Terms.{null}
use Rattle.store_exec.specs.Steps.{variable}
use Rattle.pale_typed.specs.declared.typed.CallParts.{CallParts}
use Rattle.hoare_split.specs.Picking.{class_at, is_listed, is_argument, is_spent, numbered}
use Rattle.hoare_split.proofs.FittingVariableLemmas.{same-var}
use Rattle.whole_run.specs.Handing.{rest_store, value_after, beside_rest}

-- ---- the rest

pub rest_cell : (r : StoreMap) (cells : List CellId) (c : CellId) → cell_of (rest_store r cells) c ≡ cond (not (has_number cells c.0)) (cell_of r c) None
rest_cell r cells c = get-retain_keys r.cells (λ number. not (has_number cells number)) c.0
    (λ x e. ap (λ (n : ℕ). not (has_number cells n)) (sym (nat_cmp-IsAntisymmetric c.0 x e)))

pub rest_out : (r : StoreMap) (cells : List CellId) (c : CellId) → (Contains cells c → ⊥) → cell_of (rest_store r cells) c ≡ cell_of r c
rest_out r cells c out = rest_cell r cells c ∙ ap (λ b. cond (not b) (cell_of r c) None) (number_out cells c out)

pub rest_in : (r : StoreMap) (cells : List CellId) (c : CellId) → Contains cells c → cell_of (rest_store r cells) c ≡ None
rest_in r cells c m = rest_cell r cells c ∙ ap (λ b. cond (not b) (cell_of r c) None) (number_in cells c m)

pub rest_live : (r : StoreMap) (cells : List CellId) (c : CellId) → IsLive (rest_store r cells) c → (Contains cells c → ⊥) × IsLive r c
rest_live r cells c live = elim (decided_in decided_same_cell cells c) [
  | inl m ↦ absurd (false≢true (ap is_some (sym (rest_in r cells c m)) ∙ live))
  | inr out ↦ (out, subst IsSome (rest_out r cells c out) live)
]

none_or : (o : Option CellEntry) → (IsSome o → ⊥) → o ≡ None
none_or None dead = refl
none_or (Some cell) dead = absurd (dead refl)

-- the rest has the cells of the piece on the other cells
pub rest_piece : (r : StoreMap) (cells others : List CellId) → IsRest r cells others → (c : CellId) →
    cell_of (rest_store r cells) c ≡ cell_of (piece_on r others) c
rest_piece r cells others rest c = elim (decided_in decided_same_cell others c) [
  | inl m ↦ rest_out r cells c ((rest.members c).0 m).1 ∙ sym ((piece_on-IsOn others r).inside c m)
  | inr out ↦ none_or (cell_of (rest_store r cells) c) (λ live. let h = rest_live r cells c live in out ((rest.members c).1 (h.1, h.0)))
      ∙ sym ((piece_on-IsOn others r).outside c out)
]

-- ---- the cells

find_or : (q : ℕ) (xs ys : List (ℕ × CellEntry)) →
    find_key nat_cmp q (xs ++ ys) ≡ cond (is_some (find_key nat_cmp q xs)) (find_key nat_cmp q xs) (find_key nat_cmp q ys)
find_or q [] ys = refl
find_or q (e ∷ xs) ys =
    elim (eq_by_cmp nat_cmp q e.0) as (λ b. cond b (Some e.1) (find_key nat_cmp q (xs ++ ys))
    ≡ cond (is_some (cond b (Some e.1) (find_key nat_cmp q xs))) (cond b (Some e.1) (find_key nat_cmp q xs)) (find_key nat_cmp q ys)) [
      | true ↦ refl
      | false ↦ find_or q xs ys
    ]

module _ (vars : List VarEntry) (call : CallParts) (results : List VarId) (rest t : StoreMap) where
  abbrev pub b : StoreMap
  b = beside_rest vars call results rest t

  cell_at : (c : CellId) → cell_of b c ≡ cond (is_some (cell_of t c)) (cell_of t c) (cell_of rest c)
  cell_at c = get-from_entries nat_cmp_total (entries t.cells ++ entries rest.cells) c.0 ∙ find_or c.0 (entries t.cells) (entries rest.cells)
      ∙ ap₂ (λ (x y : Option CellEntry). cond (is_some x) x y) (sym (get-entries t.cells c.0)) (sym (get-entries rest.cells c.0))

  pub of_exit : (c : CellId) → IsLive t c → cell_of b c ≡ cell_of t c
  of_exit c live = cell_at c ∙ ap (λ z. cond z (cell_of t c) (cell_of rest c)) live

  pub of_rest : (c : CellId) → (IsLive t c → ⊥) → cell_of b c ≡ cell_of rest c
  of_rest c dead = cell_at c ∙ ap (λ (o : Option CellEntry). cond (is_some o) o (cell_of rest c)) (none_or (cell_of t c) dead)

  pub of_either : (c : CellId) → IsLive b c → IsLive t c ⊎ IsLive rest c
  of_either c live = by (is_some (cell_of t c)) refl
    where
      by : (z : Bool) → is_some (cell_of t c) ≡ z → IsLive t c ⊎ IsLive rest c
      by true is = inl is
      by false is = inr (subst IsSome (of_rest c (λ alive. false≢true (sym is ∙ alive))) live)

  -- ---- the variables

  -- a result, null, or as it was
  pub data After (v : VarId) (x : Value) : Type 0 where
    is_result : (k : ℕ) (u : VarId) → slice_get call.results k ≡ Some v → slice_get results k ≡ Some u → x ≡ variable t u → After v x
    is_null : is_listed call.results v ≡ false → is_spent call (class_at vars v) v ≡ true → x ≡ null → After v x
    stays : is_listed call.results v ≡ false → is_spent call (class_at vars v) v ≡ false → x ≡ variable rest v → After v x

  abbrev Found : VarId → Value → List VarId → List VarId → Type 0
  Found v otherwise rs us =
      ((k : ℕ) × (u : VarId) × (slice_get rs k ≡ Some v) × (slice_get us k ≡ Some u)
      × (option_map_or (λ (pair : VarId × VarId). variable t pair.1) (find (λ (pair : VarId × VarId). pair.0.0 == v.0) (zip rs us)) otherwise ≡ variable t u))
      ⊎ ((is_listed rs v ≡ false)
      × (option_map_or (λ (pair : VarId × VarId). variable t pair.1) (find (λ (pair : VarId × VarId). pair.0.0 == v.0) (zip rs us)) otherwise ≡ otherwise))

  found : (R : VarId → VarId → Type 0) (v : VarId) (otherwise : Value) (rs us : List VarId) → AllZip R rs us → Found v otherwise rs us
  found R v otherwise [] [] all = inr (refl, refl)
  found R v otherwise [] (u ∷ us) all = absurd all
  found R v otherwise (w ∷ rs) [] all = absurd all
  found R v otherwise (w ∷ rs) (u ∷ us) all = by (found R v otherwise rs us all.1) (w.0 == v.0) refl
    where
      by : Found v otherwise rs us → (z : Bool) → (w.0 == v.0) ≡ z → Found v otherwise (w ∷ rs) (u ∷ us)
      by later true same = inl (
        0,
        u,
        ap (λ x. Some x) (same-var w v same),
        refl,
        ap (λ z. option_map_or (λ (pair : VarId × VarId). variable t pair.1)
            (cond z (Some (w, u)) (find (λ (pair : VarId × VarId). pair.0.0 == v.0) (zip rs us))) otherwise) same,
      )
      by (inl h) false same = inl (
        suc h.0,
        h.1,
        h.2,
        h.3,
        ap (λ z. option_map_or (λ (pair : VarId × VarId). variable t pair.1)
            (cond z (Some (w, u)) (find (λ (pair : VarId × VarId). pair.0.0 == v.0) (zip rs us))) otherwise) same ∙ h.4,
      )
      by (inr h) false same = inr (
        ap (λ z. z || is_listed rs v) same ∙ h.0,
        ap (λ z. option_map_or (λ (pair : VarId × VarId). variable t pair.1)
            (cond z (Some (w, u)) (find (λ (pair : VarId × VarId). pair.0.0 == v.0) (zip rs us))) otherwise) same ∙ h.1,
      )

  pub after : (R : VarId → VarId → Type 0) (v : VarId) → AllZip R call.results results → After v (value_after vars call results rest t v)
  after R v all = by (is_spent call (class_at vars v) v) refl
      (found R v (if is_spent call (class_at vars v) v then null else variable rest v) call.results results all)
    where
      by : (z : Bool) → is_spent call (class_at vars v) v ≡ z → Found v (if is_spent call (class_at vars v) v then null else variable rest v) call.results
          results →
          After v (value_after vars call results rest t v)
      by z is (inl h) = is_result h.0 h.1 h.2 h.3 h.4
      by true is (inr h) = is_null h.0 is (h.1 ∙ ap (λ z. if z then null else variable rest v) is)
      by false is (inr h) = stays h.0 is (h.1 ∙ ap (λ z. if z then null else variable rest v) is)

  number_at : (n k : ℕ) → k < n → slice_get (range_with_len 0 n) k ≡ Some k
  number_at n k low =
      let len : length (range_with_len 0 n) ≡ n = length-range_with_len 0 n in
      slice_get-get_or (range_with_len 0 n) k 0 (omega (arith, low, len)) ∙ ap (λ (m : ℕ). Some m) (get_or-range_with_len 0 n k 0 low ∙ (omega arith))

  -- what a variable of the table holds
  pub holds_after : (v : VarId) → v.0 < length vars → var_value b v ≡ Some (value_after vars call results rest t v)
  holds_after v low =
      slice_get-map (value_after vars call results rest t) (numbered (range_with_len 0 (length vars))) v.0
      ∙ ap (option_map (value_after vars call results rest t))
      (slice_get-map (λ (n : ℕ). record { 0 = n }) (range_with_len 0 (length vars)) v.0
      ∙ ap (option_map (λ (n : ℕ). record { 0 = n })) (number_at (length vars) v.0 low))
