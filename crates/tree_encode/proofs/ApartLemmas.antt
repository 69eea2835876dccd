-- Cells at one position are one cell, and a cell of a backbone has one position.
use Rattle.std.proofs.Common.{◌≡◌, ℕ, zero, suc, ◌+◌, Bool, true, false, cond, List, [], ◌∷◌, ◌++◌, take, slice_get, unwrap_or, Some, refl, sym, ap, ◌∙◌, subst}
use Rattle.std.proofs.Common.{append_assoc, append-nil, arith}
use Rattle.std.specs.Prelude.{count_by}
use Rattle.std.proofs.lemmas.List.Sums.{sum_by-cons}
use Rattle.gta_theory.specs.Assignments.{Position}
use Rattle.store_core.specs.declared.ids.TypeId.{TypeId}
use Rattle.store_core.specs.declared.ids.FieldId.{FieldId}
use Rattle.store_core.specs.declared.ids.VarId.{VarId}
use Rattle.store_core.specs.declared.ids.CellId.{CellId}
use Rattle.store_core.specs.declared.value.Value.TheVariants as value
use Rattle.store_core.specs.Tables.{TypeEntry, VarEntry, fields_of, field_at, var_at}
use Rattle.store_core.specs.Stores.{StoreMap, CellEntry, IsLive, field_value, var_value}
use Rattle.store_core.proofs.FittingLemmas.{IsSomeAnd-at}
use Rattle.routing_walks.specs.Walks.{DataAlone, IsFollowed, Leads}
use Rattle.routing_walks.specs.WellFormed.{IsDataVar, IsBackbone}
use Rattle.routing_walks.specs.Paths.{LeadsAlong}
use Rattle.routing_walks.proofs.PathLemmas.{HasOnePath-backbone}
use Rattle.ws2s_forms.specs.Places.{ones, slot_of}
use Rattle.tree_encode.specs.declared.counting.Counted.TheVariants.{Children}
use Rattle.tree_encode.specs.Counting.{counts, is_counted, rank, is_data_var, is_data_kind}
use Rattle.tree_encode.specs.Tracks.{slot_of_var, child_number}
use Rattle.tree_encode.specs.Positions.{below, path_position, IsPlaced, HasOnePosition}
use Rattle.tree_encode.proofs.PositionsLemmas.{data_field, data_var, numbered, slotted, own_type}

-- ---- words

ones-apart : (i j : ℕ) (u v : Position) → ones i ++ false ∷ u ≡ ones j ++ false ∷ v → (i ≡ j) × (u ≡ v)
ones-apart zero zero u v e = (refl, (cc))
ones-apart zero (suc j) u v e = cc
ones-apart (suc i) zero u v e = cc
ones-apart (suc i) (suc j) u v e =
    let later : ones i ++ false ∷ u ≡ ones j ++ false ∷ v = cc in
    let (same, left) = ones-apart i j u v later in
    (ap (λ n. suc n) same, left)

not-empty : (j : ℕ) (u : Position) → [] ≡ ones j ++ false ∷ u → ⊥
not-empty zero u e = cc
not-empty (suc j) u e = cc

-- the word of the steps along fields
abbrev steps : List TypeEntry → List FieldId → Position
steps types [] = []
steps types (f ∷ fields) = ones (unwrap_or (child_number types f) 0) ++ false ∷ steps types fields

below-steps : (types : List TypeEntry) (u : Position) (fields : List FieldId) → below types u fields ≡ u ++ steps types fields
below-steps types u [] = sym (append-nil u)
below-steps types u (f ∷ fields) =
    let j = unwrap_or (child_number types f) 0 in
    below-steps types (u ++ (ones j ++ false ∷ [])) fields
    ∙ append_assoc u (ones j ++ false ∷ []) (steps types fields)
    ∙ ap (λ w. u ++ w) (append_assoc (ones j) (false ∷ []) (steps types fields))

word-of-path : (types : List TypeEntry) (vars : List VarEntry) (v : VarId) (fields : List FieldId) →
    path_position types vars v fields ≡ ones (unwrap_or (slot_of_var vars v) 0) ++ false ∷ steps types fields
word-of-path types vars v fields =
    below-steps types (slot_of (unwrap_or (slot_of_var vars v) 0)) fields
    ∙ append_assoc (ones (unwrap_or (slot_of_var vars v) 0)) (false ∷ []) (steps types fields)

-- ---- elements that are counted

-- those that as many stand before are one
count-apart : {X : Type 0} (p : X → Bool) (xs : List X) (i j : ℕ) (x y : X) → slice_get xs i ≡ Some x → p x ≡ true → slice_get xs j ≡ Some y → p y ≡ true →
    count_by p (take i xs) ≡ count_by p (take j xs) → i ≡ j
count-apart p [] i j x y at one is other e = cc
count-apart p (z ∷ xs) zero zero x y at one is other e = refl
count-apart p (z ∷ xs) zero (suc j) x y at one is other e =
    let same : x ≡ z = cc in
    let counted : ◌≡◌ {A = ℕ} (cond (p z) 1 0) 1 = ap (λ b. cond b 1 0) (ap (λ u. p u) (sym same) ∙ one) in
    let sum : count_by p (z ∷ take j xs) ≡ cond (p z) 1 0 + count_by p (take j xs) = sum_by-cons (λ u. cond (p u) 1 0) z (take j xs) in
    let none : 0 ≡ count_by p (z ∷ take j xs) = e in
    absurd (omega (arith, counted, sum, none))
count-apart p (z ∷ xs) (suc i) zero x y at one is other e =
    let same : y ≡ z = cc in
    let counted : ◌≡◌ {A = ℕ} (cond (p z) 1 0) 1 = ap (λ b. cond b 1 0) (ap (λ u. p u) (sym same) ∙ other) in
    let sum : count_by p (z ∷ take i xs) ≡ cond (p z) 1 0 + count_by p (take i xs) = sum_by-cons (λ u. cond (p u) 1 0) z (take i xs) in
    let none : count_by p (z ∷ take i xs) ≡ 0 = e in
    absurd (omega (arith, counted, sum, none))
count-apart p (z ∷ xs) (suc i) (suc j) x y at one is other e =
    let sum : count_by p (z ∷ take i xs) ≡ cond (p z) 1 0 + count_by p (take i xs) = sum_by-cons (λ u. cond (p u) 1 0) z (take i xs) in
    let more : count_by p (z ∷ take j xs) ≡ cond (p z) 1 0 + count_by p (take j xs) = sum_by-cons (λ u. cond (p u) 1 0) z (take j xs) in
    let both : count_by p (z ∷ take i xs) ≡ count_by p (z ∷ take j xs) = e in
    let left : count_by p (take i xs) ≡ count_by p (take j xs) = omega (arith, sum, more, both) in
    ap (λ n. suc n) (count-apart p xs i j x y at one is other left)

same_field : (ty uy : TypeId) (i j : ℕ) → ty ≡ uy → i ≡ j →
    let f : FieldId = record { ty = ty; index = i } in
    let g : FieldId = record { ty = uy; index = j } in
    f ≡ g
same_field ty uy i j e h = cc

same_var : (i j : ℕ) → i ≡ j →
    let v : VarId = record { 0 = i } in
    let w : VarId = record { 0 = j } in
    v ≡ w
same_var i j e = cc

cell-one : (r q : CellId) → Some (value.Cell (Some r)) ≡ Some (value.Cell (Some q)) → r ≡ q
cell-one r q e = cc

some-one : (x y : CellEntry) → Some x ≡ Some y → x ≡ y
some-one x y e = cc

-- data fields of one cell with one number are one field
field-apart : (types : List TypeEntry) (s : StoreMap) (f g : FieldId) (a b d : CellId) → Leads types s DataAlone f a b → Leads types s DataAlone g a d →
    unwrap_or (child_number types f) 0 ≡ unwrap_or (child_number types g) 0 → f ≡ g
field-apart types s f g a b d leads goes e =
    let (cell, at, of_f) = own_type s a f (value.Cell (Some b)) leads.value in
    let (own, own_at, of_g) = own_type s a g (value.Cell (Some d)) goes.value in
    let same_cell : cell ≡ own = some-one cell own (sym at ∙ own_at) in
    let same_type : f.ty ≡ g.ty = sym of_f ∙ ap (λ (x : CellEntry). x.variant.ty) same_cell ∙ of_g in
    let (entry, there, is_data) = IsSomeAnd-at (field_at types f) (λ x. IsFollowed DataAlone x.kind) leads.kind in
    let (other, found, is_too) = IsSomeAnd-at (field_at types g) (λ x. IsFollowed DataAlone x.kind) goes.kind in
    let (ty, kind) = data_field entry.kind is_data in
    let (uy, sort) = data_field other.kind is_too in
    let ranks : rank Children types f ≡ rank Children types g =
    sym (ap (λ o. unwrap_or o 0) (numbered types f entry ty there kind)) ∙ e ∙ ap (λ o. unwrap_or o 0) (numbered types g other uy found sort) in
    let fields = fields_of types f.ty in
    same_field f.ty g.ty f.index g.index same_type
    (count-apart (is_counted Children) fields f.index g.index entry other there (ap (λ k. counts Children k) kind)
    (ap (λ t. slice_get (fields_of types t) g.index) same_type ∙ found) (ap (λ k. counts Children k) sort)
    (ranks ∙ ap (λ t. count_by (is_counted Children) (take g.index (fields_of types t))) (sym same_type)))

-- fields with the same steps lead from one cell to one cell
walk-apart : (types : List TypeEntry) (s : StoreMap) (fields others : List FieldId) (a c d : CellId) → LeadsAlong types s fields a c →
    LeadsAlong types s others a d → steps types fields ≡ steps types others → c ≡ d
walk-apart types s [] [] a c d stays rests e = sym stays.0 ∙ rests.0
walk-apart types s [] (g ∷ others) a c d stays goes e = absurd (not-empty (unwrap_or (child_number types g) 0) (steps types others) e)
walk-apart types s (f ∷ fields) [] a c d goes stays e = absurd (not-empty (unwrap_or (child_number types f) 0) (steps types fields) (sym e))
walk-apart types s (f ∷ fields) (g ∷ others) a c d (next, leads, rest) (other, goes, more) e =
    let (number, left) = ones-apart (unwrap_or (child_number types f) 0) (unwrap_or (child_number types g) 0) (steps types fields) (steps types others) e in
    let same : f ≡ g = field-apart types s f g a next other leads goes number in
    let both : Some (value.Cell (Some next)) ≡ Some (value.Cell (Some other)) = sym leads.value ∙ ap (λ h. field_value s a h) same ∙ goes.value in
    let cells : next ≡ other = cell-one next other both in
    walk-apart types s fields others other c d (subst (λ x. LeadsAlong types s fields x c) cells rest) more left

-- data variables with one slot are one variable
var-apart : (vars : List VarEntry) (v w : VarId) → (x : VarEntry) → var_at vars v ≡ Some x → IsDataVar x.kind → (y : VarEntry) → var_at vars w ≡ Some y →
    IsDataVar y.kind → unwrap_or (slot_of_var vars v) 0 ≡ unwrap_or (slot_of_var vars w) 0 → v ≡ w
var-apart vars v w x there is_data y found is_too e =
    let (ty, kind) = data_var x.kind is_data in
    let (uy, sort) = data_var y.kind is_too in
    same_var v.0 w.0
    (count-apart is_data_var vars v.0 w.0 x y there (ap (λ k. is_data_kind k) kind) found (ap (λ k. is_data_kind k) sort)
    (sym (ap (λ o. unwrap_or o 0) (slotted vars v x ty there kind)) ∙ e ∙ ap (λ o. unwrap_or o 0) (slotted vars w y uy found sort)))

-- ---- positions

pub placed-apart : (types : List TypeEntry) (vars : List VarEntry) (s : StoreMap) (c d : CellId) (p : Position) → IsPlaced types vars s c p →
    IsPlaced types vars s d p → c ≡ d
placed-apart types vars s c d p placed other =
    let words : ones (unwrap_or (slot_of_var vars placed.var) 0) ++ false ∷ steps types placed.fields
    ≡ ones (unwrap_or (slot_of_var vars other.var) 0) ++ false ∷ steps types other.fields =
    sym (word-of-path types vars placed.var placed.fields) ∙ sym placed.position ∙ other.position ∙ word-of-path types vars other.var other.fields in
    let (slot, left) = ones-apart (unwrap_or (slot_of_var vars placed.var) 0) (unwrap_or (slot_of_var vars other.var) 0)
    (steps types placed.fields) (steps types other.fields) words in
    let (x, there, is_data) = IsSomeAnd-at (var_at vars placed.var) (λ e. IsDataVar e.kind) placed.at.named.place in
    let (y, found, is_too) = IsSomeAnd-at (var_at vars other.var) (λ e. IsDataVar e.kind) other.at.named.place in
    let same : placed.var ≡ other.var = var-apart vars placed.var other.var x there is_data y found is_too slot in
    let root : placed.at.root ≡ other.at.root
    = cell-one placed.at.root other.at.root (sym placed.at.named.value ∙ ap (λ v. var_value s v) same ∙ other.at.named.value) in
    walk-apart types s placed.fields other.fields other.at.root c d (subst (λ r. LeadsAlong types s placed.fields r c) root placed.at.along)
    other.at.along left

pub one-position : (types : List TypeEntry) (vars : List VarEntry) (s : StoreMap) (c : CellId) → IsBackbone types vars s → IsLive s c →
    HasOnePosition types vars s c
one-position types vars s c backbone live =
    let one = HasOnePath-backbone types vars s backbone c live in
    record {
      position = path_position types vars one.var one.fields;
      placed = record { var = one.var; fields = one.fields; at = one.at; position = refl };
      only = λ p placed.
          placed.position
          ∙ ap (λ v. path_position types vars v placed.fields) (one.only placed.var placed.fields placed.at).0
          ∙ ap (λ fields. path_position types vars one.var fields) (one.only placed.var placed.fields placed.at).1;
    }
