-- The numbers of children and slots tell fields and variables apart.
use Rattle.std.proofs.Common.{◌≡◌, ℕ, zero, suc, ◌+◌, ◌<◌, Bool, true, cond, inl, inr, List, [], ◌∷◌, take, slice_get, Some, None, sym, ap, ◌∙◌, arith}
use Rattle.std.specs.Prelude.{count_by}
use Rattle.std.proofs.lemmas.Bool.{cases_order}
use Rattle.std.proofs.lemmas.List.Sums.{sum_by-cons}
use Rattle.store_core.specs.declared.ids.TypeId.{TypeId}
use Rattle.store_core.specs.declared.ids.FieldId.{FieldId}
use Rattle.store_core.specs.declared.ids.VarId.{VarId}
use Rattle.store_core.specs.Tables.{TypeEntry, FieldEntry, VarEntry, fields_of, field_at, var_at}
use Rattle.tree_encode.specs.declared.counting.Counted.TheVariants.{Children}
use Rattle.tree_encode.specs.Counting.{is_counted, rank, is_data_var}
use Rattle.tree_encode.specs.Tracks.{slot_of_var, child_number}
use Rattle.tree_encode.proofs.TracksLemmas.{cond-some, and_then-some}

-- ---- elements that are counted

counted-less : {X : Type 0} (p : X → Bool) (xs : List X) (i j : ℕ) (x : X) → i < j → slice_get xs i ≡ Some x → p x ≡ true →
    count_by p (take i xs) < count_by p (take j xs)
counted-less p [] i j x less at is = cc
counted-less p (z ∷ xs) i zero x less at is = absurd (omega arith)
counted-less p (z ∷ xs) zero (suc j) x less at is =
    let same : x ≡ z = cc in
    let counted : ◌≡◌ {A = ℕ} (cond (p z) 1 0) 1 = ap (λ b. cond b 1 0) (ap (λ u. p u) (sym same) ∙ is) in
    let sum : count_by p (z ∷ take j xs) ≡ cond (p z) 1 0 + count_by p (take j xs) = sum_by-cons (λ u. cond (p u) 1 0) z (take j xs) in
    omega (arith, counted, sum)
counted-less p (z ∷ xs) (suc i) (suc j) x less at is =
    let sum : count_by p (z ∷ take i xs) ≡ cond (p z) 1 0 + count_by p (take i xs) = sum_by-cons (λ u. cond (p u) 1 0) z (take i xs) in
    let more : count_by p (z ∷ take j xs) ≡ cond (p z) 1 0 + count_by p (take j xs) = sum_by-cons (λ u. cond (p u) 1 0) z (take j xs) in
    omega (arith, sum, more, counted-less p xs i j x (omega arith) at is)

-- those that as many stand before are one
pub count-one : {X : Type 0} (p : X → Bool) (xs : List X) (i j : ℕ) (x y : X) → slice_get xs i ≡ Some x → p x ≡ true → slice_get xs j ≡ Some y →
    p y ≡ true → count_by p (take i xs) ≡ count_by p (take j xs) → i ≡ j
count-one p xs i j x y at is found also e =
    elim (cases_order i j) as (λ _. i ≡ j) [
      | inl same ↦ same
      | inr differ ↦ elim differ as (λ _. i ≡ j) [
        | inl less ↦ absurd (omega (arith, e, counted-less p xs i j x less at is))
        | inr more ↦ absurd (omega (arith, e, counted-less p xs j i y more found also))
      ]
    ]

-- ---- fields and variables

pub fields-apart : (types : List TypeEntry) (f g : FieldId) (j : ℕ) → f.ty ≡ g.ty → child_number types f ≡ Some j → child_number types g ≡ Some j → f ≡ g
fields-apart types f g j typed one other =
    let (x, there, of_x) = and_then-some (λ (e : FieldEntry). cond (is_counted Children e) (Some (rank Children types f)) None) (field_at types f) j one in
    let (y, found, of_y) = and_then-some (λ (e : FieldEntry). cond (is_counted Children e) (Some (rank Children types g)) None) (field_at types g) j other in
    let first = cond-some (is_counted Children x) (rank Children types f) j of_x in
    let second = cond-some (is_counted Children y) (rank Children types g) j of_y in
    let index : f.index ≡ g.index =
    count-one (is_counted Children) (fields_of types f.ty) f.index g.index x y there first.0
    (ap (λ (ty : TypeId). slice_get (fields_of types ty) g.index) typed ∙ found) second.0
    (first.1 ∙ sym second.1 ∙ ap (λ (ty : TypeId). count_by (is_counted Children) (take g.index (fields_of types ty))) (sym typed)) in
    λ i. record { ty = typed i; index = index i }

pub variables-apart : (vars : List VarEntry) (v w : VarId) (k : ℕ) → slot_of_var vars v ≡ Some k → slot_of_var vars w ≡ Some k → v ≡ w
variables-apart vars v w k one other =
    let (x, there, of_x) = and_then-some (λ (e : VarEntry). cond (is_data_var e) (Some (count_by is_data_var (take v.0 vars))) None) (var_at vars v) k one in
    let (y, found, of_y) = and_then-some (λ (e : VarEntry). cond (is_data_var e) (Some (count_by is_data_var (take w.0 vars))) None) (var_at vars w) k other in
    let first = cond-some (is_data_var x) (count_by is_data_var (take v.0 vars)) k of_x in
    let second = cond-some (is_data_var y) (count_by is_data_var (take w.0 vars)) k of_y in
    let number : v.0 ≡ w.0 = count-one is_data_var vars v.0 w.0 x y there first.0 found second.0 (first.1 ∙ sym second.1) in
    λ i. record { 0 = number i }
