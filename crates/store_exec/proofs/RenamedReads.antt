-- What two stores that are the same but for the names of their cells read.
use Rattle.std.proofs.Common.{◌≡◌, ◌==◌, ℕ, Bool, true, false, List, [], ◌∷◌, Option, Some, None, is_some, unwrap_or, if◌then◌else◌, refl, sym, ap}
use Rattle.std.proofs.Common.{◌∙◌, subst, Result, Ok, Err, arith, inl, inr}
use Rattle.std.specs.Option.{ok_or, option_map_or}
use Rattle.std.proofs.lemmas.Bool.{cases_eq}
use Rattle.std.proofs.lemmas.Bool.Decides.{nat_tests}
use Rattle.store_core.specs.declared.ids.VariantId.{VariantId}
use Rattle.store_core.specs.declared.ids.FieldId.{FieldId}
use Rattle.store_core.specs.declared.ids.VarId.{VarId}
use Rattle.store_core.specs.declared.ids.CellId.{CellId}
use Rattle.store_core.specs.declared.value.Value.{Value}
use Rattle.store_core.specs.declared.value.Value.TheVariants as value
use Rattle.store_core.specs.Stores.{StoreMap, CellEntry, cell_of, field_value, var_value}
use Rattle.routing_walks.specs.Pairing.{PairsReference, PairsValue, PairsSlot, PairsEntry, ArePaired}
use Rattle.routing_walks.proofs.PairLemmas.{field_paired, var_paired}
use Rattle.store_logic.specs.declared.path.Path.{Path}
use Rattle.store_logic.specs.declared.path.Operand.{Operand}
use Rattle.store_logic.specs.declared.path.Operand.TheVariants as operand
use Rattle.store_logic.specs.declared.cond.Cond.{Cond}
use Rattle.store_logic.specs.declared.cond.Cond.TheOpen.{Cond-F}
use Rattle.store_logic.specs.declared.cond.Cond.TheFolds.{fold-Cond}
use Rattle.store_logic.specs.Terms.{null, cell_in, truth_in}
use Rattle.store_exec.specs.declared.cause.Cause.{Cause}
use Rattle.store_exec.specs.declared.cause.Cause.TheVariants as cause
use Rattle.store_exec.specs.Steps.{and_then, made_of, cell_through, field_read, read, read_along, variable, path_value, operand_value}
use Rattle.store_exec.specs.Steps.{is_same, is_variant, is_of}
use Rattle.store_exec.specs.Steps.{truth_node, truth_of, last_step}
use Rattle.store_exec.specs.Renamed.{Alike}

-- ---- results

pub alike-then : {X Y Z W : Type 0} (K : X → Y → Type 0) (L : Z → W → Type 0) (next : X → Result Z Cause) (other : Y → Result W Cause) →
    ((x : X) (y : Y) → K x y → Alike L (next x) (other y)) → (r : Result X Cause) (q : Result Y Cause) → Alike K r q →
    Alike L (and_then next r) (and_then other q)
alike-then K L next other each (Ok x) (Ok y) h = each x y h
alike-then K L next other each (Err why) (Err also) h = h
alike-then K L next other each (Ok x) (Err also) h = absurd h
alike-then K L next other each (Err why) (Ok y) h = absurd h

pub alike-made : {X Y Z W : Type 0} (K : X → Y → Type 0) (L : Z → W → Type 0) (make : X → Z) (other : Y → W) →
    ((x : X) (y : Y) → K x y → L (make x) (other y)) → (r : Result X Cause) (q : Result Y Cause) → Alike K r q →
    Alike L (made_of make r) (made_of other q)
alike-made K L make other each (Ok x) (Ok y) h = each x y h
alike-made K L make other each (Err why) (Err also) h = h
alike-made K L make other each (Ok x) (Err also) h = absurd h
alike-made K L make other each (Err why) (Ok y) h = absurd h

pub alike-same : {X : Type 0} (r q : Result X Cause) → Alike (λ x y. x ≡ y) r q → r ≡ q
alike-same (Ok x) (Ok y) h = ap (λ z. Ok z) h
alike-same (Err why) (Err other) h = ap (λ z. Err z) h
alike-same (Ok x) (Err other) h = absurd h
alike-same (Err why) (Ok y) h = absurd h

-- ---- what is read

module _ (R : CellId → CellId → Type 0) (s t : StoreMap) (h : ArePaired R s t) where
  live_through : (c d : CellId) → R c d → (o p : Option CellEntry) → PairsEntry R o p →
      Alike R (if is_some o then Ok c else Err cause.Dangling) (if is_some p then Ok d else Err cause.Dangling)
  live_through c d k None None e = refl
  live_through c d k None (Some other) e = absurd e
  live_through c d k (Some cell) None e = absurd e
  live_through c d k (Some cell) (Some other) e = k

  pub through-alike : (x y : Value) → PairsValue R x y → Alike R (cell_through s x) (cell_through t y)
  through-alike (value.Bool truth) (value.Bool other) k = refl
  through-alike (value.Cell None) (value.Cell None) k = refl
  through-alike (value.Cell (Some c)) (value.Cell (Some d)) k = live_through c d k (cell_of s c) (cell_of t d) (h.cells c d k)
  through-alike (value.Cells cells) (value.Cells others) k = refl
  through-alike x y k = absurd k

  slot_read : (o p : Option Value) → PairsSlot R o p → Alike (PairsValue R) (ok_or o cause.Variant) (ok_or p cause.Variant)
  slot_read None None e = refl
  slot_read None (Some y) e = absurd e
  slot_read (Some x) None e = absurd e
  slot_read (Some x) (Some y) e = e

  pub read-alike : (f : FieldId) (x y : Value) → PairsValue R x y → Alike (PairsValue R) (read s x f) (read t y f)
  read-alike f x y k = alike-then R (PairsValue R) (field_read s f) (field_read t f)
      (λ c d e. slot_read (field_value s c f) (field_value t d f) (field_paired R s t h c d f e))
      (cell_through s x) (cell_through t y) (through-alike x y k)

  pub along-alike : (fields : List FieldId) (x y : Value) → PairsValue R x y → Alike (PairsValue R) (read_along s x fields) (read_along t y fields)
  along-alike [] x y k = k
  along-alike (f ∷ fields) x y k = alike-then (PairsValue R) (PairsValue R) (λ z. read_along s z fields) (λ z. read_along t z fields)
      (λ z w e. along-alike fields z w e) (read s x f) (read t y f) (read-alike f x y k)

  or_null : (o p : Option Value) → PairsSlot R o p → PairsValue R (unwrap_or o null) (unwrap_or p null)
  or_null None None e = tt
  or_null None (Some y) e = absurd e
  or_null (Some x) None e = absurd e
  or_null (Some x) (Some y) e = e

  pub variable-alike : (v : VarId) → PairsValue R (variable s v) (variable t v)
  variable-alike v = or_null (var_value s v) (var_value t v) (var_paired R s t h v)

  path-alike : (p : Path) → Alike (PairsValue R) (path_value s p) (path_value t p)
  path-alike p = along-alike p.fields (variable s p.var) (variable t p.var) (variable-alike p.var)

  pub operand-alike : (p : Operand) → Alike (PairsValue R) (operand_value s p) (operand_value t p)
  operand-alike operand.Null = tt
  operand-alike (operand.Path p) = path-alike p

  -- the last step of a place
  abbrev pub LastAlike : (Value × FieldId) → (Value × FieldId) → Type 0
  LastAlike x y = PairsValue R x.0 y.0 × (x.1 ≡ y.1)

  pub last-alike : (f : FieldId) (fields : List FieldId) (x y : Value) → PairsValue R x y → Alike LastAlike (last_step s x f fields) (last_step t y f fields)
  last-alike f [] x y k = (k, refl)
  last-alike f (g ∷ fields) x y k = alike-then (PairsValue R) LastAlike (λ z. last_step s z g fields) (λ z. last_step t z g fields)
      (λ z w e. last-alike g fields z w e) (read s x f) (read t y f) (read-alike f x y k)

  -- ---- conditions

  truth-in : (x y : Value) → PairsValue R x y → truth_in x ≡ truth_in y
  truth-in (value.Bool truth) (value.Bool other) k = k
  truth-in (value.Cell c) (value.Cell d) k = refl
  truth-in (value.Cells cells) (value.Cells others) k = refl
  truth-in x y k = absurd k

  pub cell-in : (x y : Value) → PairsValue R x y → PairsReference R (cell_in x) (cell_in y)
  cell-in (value.Bool truth) (value.Bool other) k = tt
  cell-in (value.Cell c) (value.Cell d) k = k
  cell-in (value.Cells cells) (value.Cells others) k = tt
  cell-in x y k = absurd k

  of-entry : (v : VariantId) (o p : Option CellEntry) → PairsEntry R o p →
      option_map_or (λ (cell : CellEntry). is_variant cell.variant v) o false ≡ option_map_or (λ (cell : CellEntry). is_variant cell.variant v) p false
  of-entry v None None e = refl
  of-entry v None (Some other) e = absurd e
  of-entry v (Some cell) None e = absurd e
  of-entry v (Some cell) (Some other) e = ap (λ (w : VariantId). is_variant w v) e.variant

  equal : (m n : ℕ) → m ≡ n → (m == n) ≡ true
  equal m n e = grind (arith, nat_tests)

  unequal : (m n : ℕ) → (m ≡ n → ⊥) → (m == n) ≡ false
  unequal m n ne = grind (arith, nat_tests)

  number : (c d : CellId) → c.0 ≡ d.0 → c ≡ d
  number c d e = ap (λ (n : ℕ). record { 0 = n }) e

  same-reference : (o u p w : Option CellId) → PairsReference R o p → PairsReference R u w → is_same o u ≡ is_same p w
  same-reference None None None None k l = refl
  same-reference None (Some b) None (Some d) k l = refl
  same-reference (Some a) None (Some c) None k l = refl
  same-reference (Some a) (Some b) (Some c) (Some d) k l = elim (cases_eq a.0 b.0) [
    | inl same ↦ equal a.0 b.0 same
        ∙ sym (equal c.0 d.0 (ap (λ (x : CellId). x.0) (h.one b c d (subst (λ x. R x c) (number a b same) k) l)))
    | inr apart ↦ unequal a.0 b.0 apart
        ∙ sym (unequal c.0 d.0 (λ e. apart (ap (λ (x : CellId). x.0) (h.other a b d (subst (λ x. R a x) (number c d e) k) l))))
  ]
  same-reference None u (Some c) w k l = absurd k
  same-reference (Some a) u None w k l = absurd k
  same-reference o None p (Some d) k l = absurd l
  same-reference o (Some b) p None k l = absurd l

  node-same : (x : Cond-F (Result Bool Cause)) → truth_node s x ≡ truth_node t x
  node-same Cond-F.True = refl
  node-same Cond-F.False = refl
  node-same (Cond-F.Bool p) = alike-same (made_of truth_in (path_value s p)) (made_of truth_in (path_value t p))
      (alike-made (PairsValue R) (λ (a b : Bool). a ≡ b) truth_in truth_in truth-in (path_value s p) (path_value t p) (path-alike p))
  node-same (Cond-F.Is p v) = alike-same (truth_node s (Cond-F.Is p v)) (truth_node t (Cond-F.Is p v))
      (alike-made R (λ (a b : Bool). a ≡ b) (is_of s v) (is_of t v) (λ c d k. of-entry v (cell_of s c) (cell_of t d) (h.cells c d k))
      (and_then (cell_through s) (path_value s p)) (and_then (cell_through t) (path_value t p))
      (alike-then (PairsValue R) R (cell_through s) (cell_through t) through-alike (path_value s p) (path_value t p) (path-alike p)))
  node-same (Cond-F.Same p q) = alike-same (truth_node s (Cond-F.Same p q)) (truth_node t (Cond-F.Same p q))
      (alike-then (PairsValue R) (λ (a b : Bool). a ≡ b) (λ x. made_of (λ y. is_same (cell_in x) (cell_in y)) (operand_value s q))
      (λ x. made_of (λ y. is_same (cell_in x) (cell_in y)) (operand_value t q))
      (λ x y k. alike-made (PairsValue R) (λ (a b : Bool). a ≡ b) (λ z. is_same (cell_in x) (cell_in z)) (λ z. is_same (cell_in y) (cell_in z))
      (λ z w l. same-reference (cell_in x) (cell_in z) (cell_in y) (cell_in w) (cell-in x y k) (cell-in z w l))
      (operand_value s q) (operand_value t q) (operand-alike q))
      (operand_value s p) (operand_value t p) (operand-alike p))
  node-same (Cond-F.Not c) = refl
  node-same (Cond-F.And c d) = refl
  node-same (Cond-F.Or c d) = refl

  -- a condition has the same truth, or is stopped by the same cause
  pub truth-same : (c : Cond) → truth_of s c ≡ truth_of t c
  truth-same c = ap (λ (step : Cond-F (Result Bool Cause) → Result Bool Cause). fold-Cond (Result Bool Cause) step c) (λ i x. node-same x i)
