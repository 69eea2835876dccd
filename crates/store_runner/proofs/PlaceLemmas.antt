-- Assignments to a field, by the fields before it and the last.
use Rattle.std.proofs.Common.{◌≡◌, List, [], ◌∷◌, ◌++◌, Option, IfSome, refl, ap, ◌∙◌, subst, Result, Ok, Err}
use Rattle.store_core.specs.declared.ids.FieldId.{FieldId}
use Rattle.store_core.specs.declared.ids.VarId.{VarId}
use Rattle.store_core.specs.declared.ids.CellId.{CellId}
use Rattle.store_core.specs.declared.value.Value.{Value}
use Rattle.store_core.specs.declared.value.Value.TheVariants as value
use Rattle.store_core.specs.Tables.{TypeEntry}
use Rattle.store_core.specs.Stores.{StoreMap, class_of, field_value}
use Rattle.store_logic.specs.declared.act.Rhs.{Rhs}
use Rattle.store_logic.specs.Terms.{cell_in}
use Rattle.store_exec.specs.declared.cause.Cause.{Cause}
use Rattle.store_exec.specs.Steps.{and_then, made_of, read, read_along, variable, evaluated, written, last_step, assigned}
use Rattle.store_exec.specs.declared.halt.Halt.{Halt}
use Rattle.store_runner.specs.Conditions.{IsTold, IsToldBy}
use Rattle.store_exec.proofs.SortLemmas.{ok-one, err-ok}
use Rattle.store_exec.specs.Ready.{TakesClassAt, TakesFieldClass, field_assigned}

first_is : {X : Type 0} (x y : X) (xs ys : List X) → x ∷ xs ≡ y ∷ ys → x ≡ y
first_is x y xs ys e = cc

rest_is : {X : Type 0} (x y : X) (xs ys : List X) → x ∷ xs ≡ y ∷ ys → xs ≡ ys
rest_is x y xs ys e = cc

-- what comes after a pair is made is made at once
made-after : (r : Result Value Cause) (last : FieldId) (next : Value → Result Value Cause) →
    and_then (λ y. made_of (λ z. (z, last)) (next y)) r ≡ made_of {Y = Value × FieldId} (λ z. (z, last)) (and_then next r)
made-after (Ok y) last next = refl
made-after (Err why) last next = refl

-- the last step of a place is by the fields before the last
step-of : (s : StoreMap) (x : Value) (f : FieldId) (fields before : List FieldId) (last : FieldId) → f ∷ fields ≡ before ++ last ∷ [] →
    last_step s x f fields ≡ made_of (λ y. (y, last)) (read_along s x before)
step-of s x f [] [] last e = ap (λ (g : FieldId). made_of {Y = Value × FieldId} (λ y. (y, g)) (Ok x)) (first_is f last [] [] e)
step-of s x f (g ∷ fields) [] last e = absurd cc
step-of s x f [] (h ∷ []) last e = absurd cc
step-of s x f [] (h ∷ i ∷ before) last e = absurd cc
step-of s x f (g ∷ fields) (h ∷ before) last e =
    and_same (read s x f) (λ y. step-of s y g fields before last (rest_is f h (g ∷ fields) (before ++ last ∷ []) e))
    ∙ made-after (read s x f) last (λ y. read_along s y before)
    ∙ ap (λ (k : FieldId). made_of {Y = Value × FieldId} (λ z. (z, last)) (and_then (λ y. read_along s y before) (read s x k)))
    (first_is f h (g ∷ fields) (before ++ last ∷ []) e)
  where
    and_same : {k l : Value → Result (Value × FieldId) Cause} (r : Result Value Cause) → ((y : Value) → k y ≡ l y) → and_then k r ≡ and_then l r
    and_same (Ok y) each = each y
    and_same (Err why) each = refl

-- what is written through matters by its cell alone
written-by_cell : (t : StoreMap) (x : Value) (last : FieldId) (y : Value) → written t x last y ≡ written t (value.Cell (cell_in x)) last y
written-by_cell t (value.Bool truth) last y = refl
written-by_cell t (value.Cell c) last y = refl
written-by_cell t (value.Cells cells) last y = refl

by_cell : (types : List TypeEntry) (s : StoreMap) (last : FieldId) (x : Rhs) (through : Value) →
    and_then (λ (got : StoreMap × Value). written got.0 through last got.1) (evaluated types s x)
    ≡ and_then (λ (got : StoreMap × Value). written got.0 (value.Cell (cell_in through)) last got.1) (evaluated types s x)
by_cell types s last x through = by (evaluated types s x)
  where
    by : (r : Result (StoreMap × Value) Cause) → and_then (λ (got : StoreMap × Value). written got.0 through last got.1) r
        ≡ and_then (λ (got : StoreMap × Value). written got.0 (value.Cell (cell_in through)) last got.1) r
    by (Ok got) = written-by_cell got.0 through last got.1
    by (Err why) = refl

pub assigned-by_field : (types : List TypeEntry) (s : StoreMap) (v : VarId) (fields before : List FieldId) (last : FieldId) (x : Rhs) →
    fields ≡ before ++ last ∷ [] → assigned types s v fields x ≡ field_assigned types s v before last x
assigned-by_field types s v [] [] last x e = absurd cc
assigned-by_field types s v [] (h ∷ before) last x e = absurd cc
assigned-by_field types s v (f ∷ fields) before last x e =
    ap (and_then (λ (step : Value × FieldId). and_then (λ (got : StoreMap × Value). written got.0 step.0 step.1 got.1) (evaluated types s x)))
    (step-of s (variable s v) f fields before last e)
    ∙ by (read_along s (variable s v) before)
  where
    by : (r : Result Value Cause) →
        and_then (λ (step : Value × FieldId). and_then (λ (got : StoreMap × Value). written got.0 step.0 step.1 got.1) (evaluated types s x))
        (made_of (λ y. (y, last)) r)
        ≡ and_then (λ (through : Value). and_then (λ (got : StoreMap × Value). written got.0 through last got.1) (evaluated types s x))
        (made_of (λ y. value.Cell (cell_in y)) r)
    by (Ok y) = by_cell types s last x y
    by (Err why) = refl

pub class-by_field : (types : List TypeEntry) (s : StoreMap) (v : VarId) (fields before : List FieldId) (last : FieldId) (x : Rhs) →
    fields ≡ before ++ last ∷ [] → TakesClassAt types s v fields x → TakesFieldClass types s v before last x
class-by_field types s v [] [] last x e h = absurd cc
class-by_field types s v [] (g ∷ before) last x e h = absurd cc
class-by_field types s v (f ∷ fields) before last x e h = λ t y is through reads. h t y is through last
    (step-of s (variable s v) f fields before last e ∙ ap (made_of (λ z. (z, last))) reads)

ok-value : {X E : Type 0} (r : Result X E) (x : X) → r ≡ Ok x → (P : Result X E → Type 0) → P r → P (Ok x)
ok-value r x e P h = subst P e h

-- what was evaluated is of the class of what stands in the field that was found
pub class-found : (types : List TypeEntry) (s t : StoreMap) (v : VarId) (before : List FieldId) (last : FieldId) (x : Rhs) (y : Value) (through : Option CellId)
    (found : Result (Option CellId) Halt) (got : Result Value Halt) → TakesFieldClass types s v before last x →
    IsTold (made_of cell_in (read_along s (variable s v) before)) found → found ≡ Ok through →
    IsToldBy (λ z. (t, z)) (evaluated types s x) got → got ≡ Ok y →
    IfSome through (λ c. IfSome (field_value t c last) (λ old. class_of y ≡ class_of old))
class-found types s t v before last x y through found got h told_found is_found told_got is_got =
    by (read_along s (variable s v) before) refl (ok-value found through is_found (IsTold (made_of cell_in (read_along s (variable s v) before))) told_found)
  where
    by : (r : Result Value Cause) → read_along s (variable s v) before ≡ r → made_of cell_in r ≡ Ok through →
        IfSome through (λ c. IfSome (field_value t c last) (λ old. class_of y ≡ class_of old))
    by (Ok z) is e = subst (λ o. IfSome o (λ c. IfSome (field_value t c last) (λ old. class_of y ≡ class_of old))) (ok-one (cell_in z) through e)
        (h t y (ok-value got y is_got (IsToldBy (λ w. (t, w)) (evaluated types s x)) told_got) z is)
    by (Err why) is e = err-ok why e
