-- The spaces of slots and children under a layout's guide.
use Rattle.std.proofs.Common.{◌≡◌, ℕ, zero, suc, ◌+◌, ◌<◌, Bool, false, cond, eqb, List, [], ◌∷◌, ◌++◌, length, map, take, slice_get, unwrap_or, Option, Some}
use Rattle.std.proofs.Common.{None, refl, sym, ap, ◌∙◌, zero-add, arith}
use Rattle.std.specs.Prelude.{count_by, flat_map}
use Rattle.std.specs.Option.{option_map_or}
use Rattle.std.proofs.Math.Dec.{eqb-suc-zero}
use Rattle.std.proofs.lemmas.List.Concat.{flat_map-cons}
use Rattle.std.proofs.lemmas.List.{length-map}
use Rattle.std.proofs.lemmas.Option.{slice_get_within}
use Rattle.std.proofs.lemmas.List.Sums.{sum_by-cons}
use Rattle.gta_theory.specs.Guides.{Spaces, right, space_at}
use Rattle.store_core.specs.declared.ids.TypeId.{TypeId}
use Rattle.store_core.specs.declared.ids.VariantId.{VariantId}
use Rattle.store_core.specs.declared.ids.FieldId.{FieldId}
use Rattle.store_core.specs.declared.ids.VarId.{VarId}
use Rattle.store_core.specs.declared.kind.FieldKind.TheVariants as field
use Rattle.store_core.specs.declared.kind.VarKind.{VarKind}
use Rattle.store_core.specs.declared.kind.VarKind.TheVariants as var
use Rattle.store_core.specs.Tables.{TypeEntry, FieldEntry, VarEntry, fields_of, field_at, var_at}
use Rattle.ws2s_forms.specs.Places.{ones, slot_of}
use Rattle.tree_encode.specs.declared.counting.Counted.TheVariants.{Children}
use Rattle.tree_encode.specs.Counting.{is_counted, rank, is_data_kind, is_data_var}
use Rattle.tree_encode.specs.Tracks.{slot_of_var, child_number}
use Rattle.tree_encode.specs.Spaces.{row_length, row_of_some, row, slot_types, child_types, spaces_in, first_space, rows_after, types_start, guide_of}
use Rattle.tree_encode.specs.Spaces.{var_targets, field_targets}
use Rattle.tree_encode.proofs.SpacesLemmas.{row-some, length-row}
use Rattle.tree_encode.proofs.IndexLemmas.{field-sizes}
use Rattle.tree_encode.proofs.TracksLemmas.{in_first, in_second, mapped, cond-some, and_then-some}

-- the row stands in the guide from a number on
pub record HasRow (g : Spaces) (first rest : ℕ) (zs : List ℕ) : Type 0 where
  pub at : (i : ℕ) (c : ℕ × ℕ) → slice_get (row first rest zs) i ≡ Some c → slice_get g (first + i) ≡ Some c

-- ---- along a row

-- the space at a place of a row
get-row_of_some : (first rest i z : ℕ) (zs : List ℕ) → slice_get zs i ≡ Some z →
    (next : ℕ) × (slice_get (row_of_some first rest zs) i ≡ Some (z, next)) × (suc i < length zs → next ≡ suc (first + i))
get-row_of_some first rest i z [] is = cc
get-row_of_some first rest zero z (y ∷ zs) is =
    let same : y ≡ z = cc in (
      cond (eqb (length zs) 0) rest (suc first),
      ap (λ x. Some (x, cond (eqb (length zs) 0) rest (suc first))) same,
      λ more. later zs (omega (arith, more)),
    )
  where
    later : (ws : List ℕ) → 0 < length ws → cond (eqb (length ws) 0) rest (suc first) ≡ suc (first + 0)
    later [] some = absurd (omega arith)
    later (w ∷ ws) some =
        ap (λ b. cond b rest (suc first)) (eqb-suc-zero (length ws)) ∙ (let e : suc first ≡ suc (first + 0) = omega arith in e)
get-row_of_some first rest (suc i) z (y ∷ zs) is =
    let (next, at, more) = get-row_of_some (suc first) rest i z zs is in (
      next,
      at,
      λ inside. more (omega (arith, inside)) ∙ (let e : suc (suc first + i) ≡ suc (first + suc i) = omega arith in e),
    )

get-row : (first rest i z : ℕ) (zs : List ℕ) → slice_get zs i ≡ Some z →
    (next : ℕ) × (slice_get (row first rest zs) i ≡ Some (z, next)) × (suc i < length zs → next ≡ suc (first + i))
get-row first rest i z [] is = cc
get-row first rest i z (y ∷ zs) is =
    let (next, at, more) = get-row_of_some first rest i z (y ∷ zs) is in
    (next, ap (λ r. slice_get r i) (row-some first rest y zs) ∙ at, more)

-- so many steps by 1 along the row, and one by 0
pub along-row : (g : Spaces) (first rest : ℕ) (zs : List ℕ) → HasRow g first rest zs → (j i z : ℕ) → slice_get zs (i + j) ≡ Some z →
    space_at g (first + i) (ones j ++ false ∷ []) ≡ z
along-row g first rest zs has zero i z is =
    let here : slice_get zs i ≡ Some z = ap (λ k. slice_get zs k) (let e : i ≡ i + 0 = omega arith in e) ∙ is in
    let (next, at, more) = get-row first rest i z zs here in
    ap (λ (o : Option (ℕ × ℕ)). (unwrap_or o (0, 0)).0) (has.at i (z, next) at)
along-row g first rest zs has (suc j) i z is =
    let inside : i + suc j < length zs = slice_get_within zs (i + suc j) z is in
    let (y, here) = present zs i (omega (arith, inside)) in
    let (next, at, more) = get-row first rest i y zs here in
    let step : right g (first + i) ≡ first + suc i =
    ap (λ (o : Option (ℕ × ℕ)). (unwrap_or o (0, 0)).1) (has.at i (y, next) at) ∙ more (omega (arith, inside))
    ∙ (let e : suc (first + i) ≡ first + suc i = omega arith in e) in
    ap (λ s. space_at g s (ones j ++ false ∷ [])) step
    ∙ along-row g first rest zs has j (suc i) z (ap (λ k. slice_get zs k) (let e : suc i + j ≡ i + suc j = omega arith in e) ∙ is)
  where
    present : (ws : List ℕ) (k : ℕ) → k < length ws → (w : ℕ) × (slice_get ws k ≡ Some w)
    present [] k inside = absurd (omega arith)
    present (w ∷ ws) zero inside = (w, refl)
    present (w ∷ ws) (suc k) inside = present ws k (omega arith)

-- ---- the rows of the guide

-- the row of a type among the rows of types
get-rows_after : (types : List TypeEntry) (start rest n k i : ℕ) (ts : List TypeEntry) (t : TypeEntry) (c : ℕ × ℕ) → slice_get ts k ≡ Some t →
    slice_get (row (n + spaces_in (take k ts)) rest (map (first_space types start) (child_types t))) i ≡ Some c →
    slice_get (rows_after types start rest n ts) (spaces_in (take k ts) + i) ≡ Some c
get-rows_after types start rest n k i [] t c is at = cc
get-rows_after types start rest n zero i (s ∷ ts) t c is at =
    let same : t ≡ s = cc in
    let e : n + spaces_in [] ≡ n = omega arith in
    ap (λ j. slice_get (rows_after types start rest n (s ∷ ts)) j) (zero-add i)
    ∙ in_first (row n rest (map (first_space types start) (child_types s))) (rows_after types start rest (n + row_length (length (child_types s))) ts) i c
    (ap (λ u. slice_get (row n rest (map (first_space types start) (child_types u))) i) (sym same)
    ∙ ap (λ m. slice_get (row m rest (map (first_space types start) (child_types t))) i) (sym e) ∙ at)
get-rows_after types start rest n (suc k) i (s ∷ ts) t c is at =
    let sum : spaces_in (s ∷ take k ts) ≡ row_length (length (child_types s)) + spaces_in (take k ts)
    = sum_by-cons (λ u. row_length (length (child_types u))) s (take k ts) in
    let place : spaces_in (s ∷ take k ts) + i ≡ row_length (length (child_types s)) + (spaces_in (take k ts) + i) = omega (arith, sum) in
    let first : n + row_length (length (child_types s)) + spaces_in (take k ts) ≡ n + spaces_in (s ∷ take k ts) = omega (arith, sum) in
    ap (λ j. slice_get (rows_after types start rest n (s ∷ ts)) j) place
    ∙ in_second (row n rest (map (first_space types start) (child_types s)))
    (rows_after types start rest (n + row_length (length (child_types s))) ts) (row_length (length (child_types s))) (spaces_in (take k ts) + i) c
    (sym (length-row n rest (map (first_space types start) (child_types s)) ∙ ap (λ m. row_length m) (length-map (child_types s) (first_space types start))))
    (get-rows_after types start rest (n + row_length (length (child_types s))) k i ts t c is
    (ap (λ m. slice_get (row m rest (map (first_space types start) (child_types t))) i) first ∙ at))

has_slots : (types : List TypeEntry) (vars : List VarEntry) (spares : List VariantId) →
    HasRow (guide_of types vars spares) 0 (types_start vars spares + spaces_in types)
    (map (first_space types (types_start vars spares)) (slot_types vars spares))
has_slots types vars spares = record {
  at = λ i c is.
      ap (λ j. slice_get (guide_of types vars spares) j) (zero-add i)
      ∙ in_first _ _ i c (in_first _ _ i c is);
}

has_children : (types : List TypeEntry) (vars : List VarEntry) (spares : List VariantId) (k : ℕ) (t : TypeEntry) → slice_get types k ≡ Some t →
    HasRow (guide_of types vars spares) (types_start vars spares + spaces_in (take k types)) (types_start vars spares + spaces_in types)
    (map (first_space types (types_start vars spares)) (child_types t))
has_children types vars spares k t there = record {
  at = λ i c is.
      let place : (types_start vars spares + spaces_in (take k types)) + i ≡ types_start vars spares + (spaces_in (take k types) + i) = omega arith in
      ap (λ j. slice_get (guide_of types vars spares) j) place
      ∙ in_first _ _ (types_start vars spares + (spaces_in (take k types) + i)) c
      (in_second (row 0 (types_start vars spares + spaces_in types) (map (first_space types (types_start vars spares)) (slot_types vars spares)))
      (rows_after types (types_start vars spares) (types_start vars spares + spaces_in types) (types_start vars spares) types)
      (types_start vars spares) (spaces_in (take k types) + i) c
      (sym (length-row 0 (types_start vars spares + spaces_in types) (map (first_space types (types_start vars spares)) (slot_types vars spares))
      ∙ ap (λ m. row_length m) (length-map (slot_types vars spares) (first_space types (types_start vars spares)))))
      (get-rows_after types (types_start vars spares) (types_start vars spares + spaces_in types) (types_start vars spares) k i types t c there is));
}

-- ---- what the guide says of positions

pub space-slot : (types : List TypeEntry) (vars : List VarEntry) (spares : List VariantId) (i : ℕ) (ty : TypeId) →
    slice_get (slot_types vars spares) i ≡ Some ty →
    space_at (guide_of types vars spares) 0 (slot_of i) ≡ first_space types (types_start vars spares) ty
space-slot types vars spares i ty is =
    along-row (guide_of types vars spares) 0 (types_start vars spares + spaces_in types)
    (map (first_space types (types_start vars spares)) (slot_types vars spares)) (has_slots types vars spares) i 0
    (first_space types (types_start vars spares) ty)
    (ap (λ k. slice_get (map (first_space types (types_start vars spares)) (slot_types vars spares)) k) (zero-add i)
    ∙ mapped (first_space types (types_start vars spares)) (slot_types vars spares) i ty is)

pub space-child : (types : List TypeEntry) (vars : List VarEntry) (spares : List VariantId) (parent : TypeId) (t : TypeEntry) (j : ℕ) (ty : TypeId) →
    slice_get types parent.0 ≡ Some t → slice_get (child_types t) j ≡ Some ty →
    space_at (guide_of types vars spares) (first_space types (types_start vars spares) parent) (ones j ++ false ∷ [])
    ≡ first_space types (types_start vars spares) ty
space-child types vars spares parent t j ty there is =
    let begin : first_space types (types_start vars spares) parent ≡ first_space types (types_start vars spares) parent + 0 = omega arith in
    ap (λ s. space_at (guide_of types vars spares) s (ones j ++ false ∷ [])) begin
    ∙ along-row (guide_of types vars spares) (first_space types (types_start vars spares) parent) (types_start vars spares + spaces_in types)
    (map (first_space types (types_start vars spares)) (child_types t)) (has_children types vars spares parent.0 t there) j 0
    (first_space types (types_start vars spares) ty)
    (ap (λ k. slice_get (map (first_space types (types_start vars spares)) (child_types t)) k) (zero-add j)
    ∙ mapped (first_space types (types_start vars spares)) (child_types t) j ty is)

-- ---- the types of slots and children

get-flat_map : {X Y : Type 0} (g : X → List Y) (p : X → Bool) → ((x : X) → cond (p x) 1 0 ≡ length (g x)) → (xs : List X) (k : ℕ) (x : X) (y : Y) →
    slice_get xs k ≡ Some x → g x ≡ y ∷ [] → slice_get (flat_map g xs) (count_by p (take k xs)) ≡ Some y
get-flat_map g p sizes [] k x y is one = cc
get-flat_map g p sizes (z ∷ xs) zero x y is one =
    let same : z ≡ x = cc in
    ap (λ ys. slice_get ys 0) (flat_map-cons g z xs)
    ∙ in_first (g z) (flat_map g xs) 0 y (ap (λ u. slice_get (g u) 0) same ∙ ap (λ ys. slice_get ys 0) one)
get-flat_map g p sizes (z ∷ xs) (suc k) x y is one =
    ap (λ ys. slice_get ys (count_by p (z ∷ take k xs))) (flat_map-cons g z xs)
    ∙ ap (λ i. slice_get (g z ++ flat_map g xs) i) (sum_by-cons (λ u. cond (p u) 1 0) z (take k xs))
    ∙ in_second (g z) (flat_map g xs) (cond (p z) 1 0) (count_by p (take k xs)) y (sizes z) (get-flat_map g p sizes xs k x y is one)

var-sizes : (kind : VarKind) → cond (is_data_kind kind) 1 0 ≡ length (var_targets kind)
var-sizes var.Bool = refl
var-sizes (var.Data ty) = refl
var-sizes (var.Pointer ty) = refl
var-sizes (var.LogicSet ty) = refl
var-sizes var.LogicBool = refl

pub slot-type : (vars : List VarEntry) (spares : List VariantId) (v : VarId) (entry : VarEntry) (i : ℕ) (ty : TypeId) →
    slot_of_var vars v ≡ Some i → var_at vars v ≡ Some entry → entry.kind ≡ var.Data ty → slice_get (slot_types vars spares) i ≡ Some ty
slot-type vars spares v entry i ty is there kind =
    let own = and_then-some (λ e. cond (is_data_var e) (Some (count_by is_data_var (take v.0 vars))) None) (slice_get vars v.0) i is in
    let both = cond-some (is_data_var own.0) (count_by is_data_var (take v.0 vars)) i own.2 in
    ap (λ k. slice_get (slot_types vars spares) k) (sym both.1)
    ∙ in_first (flat_map (λ e. var_targets e.kind) vars) (map (λ s. s.ty) spares) (count_by is_data_var (take v.0 vars)) ty
    (get-flat_map (λ e. var_targets e.kind) is_data_var (λ e. var-sizes e.kind) vars v.0 entry ty there (ap (λ k. var_targets k) kind))

pub child-type : (types : List TypeEntry) (f : FieldId) (t : TypeEntry) (entry : FieldEntry) (j : ℕ) (ty : TypeId) →
    child_number types f ≡ Some j → slice_get types f.ty.0 ≡ Some t → field_at types f ≡ Some entry → entry.kind ≡ field.Data ty →
    slice_get (child_types t) j ≡ Some ty
child-type types f t entry j ty is typed_by there kind =
    let own = and_then-some (λ e. cond (is_counted Children e) (Some (rank Children types f)) None) (slice_get (fields_of types f.ty) f.index) j is in
    let both = cond-some (is_counted Children own.0) (rank Children types f) j own.2 in
    let fields : fields_of types f.ty ≡ t.fields = ap (λ o. option_map_or (λ u. u.fields) o []) typed_by in
    ap (λ k. slice_get (child_types t) k) (sym both.1)
    ∙ ap (λ fs. slice_get (child_types t) (count_by (is_counted Children) (take f.index fs))) fields
    ∙ get-flat_map (λ e. field_targets e.kind) (is_counted Children) (λ e. field-sizes e.kind) t.fields f.index entry ty
    (ap (λ fs. slice_get fs f.index) (sym fields) ∙ there) (ap (λ k. field_targets k) kind)
