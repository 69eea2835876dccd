-- What stands at a path is of the path's sort.
use Rattle.std.proofs.Common.{◌≡◌, ℕ, suc, zero, ◌==◌, Bool, true, false, cond, List, [], ◌∷◌, Option, Some, None, IfSome, refl, sym}
use Rattle.std.proofs.Common.{ap, ◌∙◌, subst}
use Rattle.std.proofs.Common.{slice_get, Result, Ok, Err, unwrap_or}
use Rattle.std.specs.Option.{option_and_then, ok_or}
use Rattle.store_core.specs.declared.ids.FieldId.{FieldId}
use Rattle.store_core.specs.declared.ids.VarId.{VarId}
use Rattle.store_core.specs.declared.ids.CellId.{CellId}
use Rattle.store_core.specs.declared.kind.FieldKind.{FieldKind}
use Rattle.store_core.specs.declared.kind.FieldKind.TheVariants as field
use Rattle.store_core.specs.declared.kind.VarKind.{VarKind}
use Rattle.store_core.specs.declared.kind.VarKind.TheVariants as var
use Rattle.store_core.specs.declared.value.Class.{Class}
use Rattle.store_core.specs.declared.value.Class.TheVariants as class
use Rattle.store_core.specs.declared.value.Value.{Value}
use Rattle.store_core.specs.declared.value.Value.TheVariants as value
use Rattle.store_core.specs.Tables.{TypeEntry, VarEntry, FieldEntry, fields_of, field_at, var_at}
use Rattle.store_core.specs.Stores.{StoreMap, field_value, class_of, NamesType, FieldFits, VarFits, VarsFit, Fits}
use Rattle.store_core.proofs.FittingLemmas.{SlotAt, slot_at_value}
use Rattle.store_logic.specs.declared.path.Path.{Path}
use Rattle.store_logic.specs.declared.path.Operand.{Operand}
use Rattle.store_logic.specs.declared.path.Operand.TheVariants as operand
use Rattle.store_logic.specs.Sorts.{Sort, Truth, Cell, Set, IsCellSort, field_sort, sort_along}
use Rattle.store_logic.specs.FitsCode.{code_sort, PathFits, OperandFits}
use Rattle.store_logic.specs.Terms.{null}
use Rattle.store_exec.specs.declared.cause.Cause.{Cause}
use Rattle.store_exec.specs.declared.cause.Cause.TheVariants as cause
use Rattle.store_exec.specs.Steps.{and_then, cell_through, field_read, read, read_along, variable, path_value, operand_value, last_step}

-- the value is of the sort: a live cell that it names is of the type
abbrev pub IsOfSort : StoreMap → Sort → Value → Type 0
IsOfSort s Truth (value.Bool truth) = Unit {0}
IsOfSort s (Cell ty) (value.Cell c) = IfSome c (NamesType s ty)
IsOfSort s _ _ = ⊥

-- the class of the values of a sort
abbrev pub sort_class : Sort → Class
sort_class Truth = class.Truth
sort_class (Cell ty) = class.Reference
sort_class (Set ty) = class.Set

pub class-of_sort : (s : StoreMap) (sort : Sort) (x : Value) → IsOfSort s sort x → class_of x ≡ sort_class sort
class-of_sort s Truth (value.Bool truth) h = refl
class-of_sort s Truth (value.Cell c) h = absurd h
class-of_sort s Truth (value.Cells cells) h = absurd h
class-of_sort s (Cell ty) (value.Bool truth) h = absurd h
class-of_sort s (Cell ty) (value.Cell c) h = refl
class-of_sort s (Cell ty) (value.Cells cells) h = absurd h
class-of_sort s (Set ty) x h = absurd h

-- ---- fields and variables

pub sort-of_field : (s : StoreMap) (kind : FieldKind) (x : Value) → FieldFits s kind x → IsOfSort s (field_sort kind) x
sort-of_field s field.Bool (value.Bool truth) h = tt
sort-of_field s field.Bool (value.Cell c) h = absurd h
sort-of_field s field.Bool (value.Cells cells) h = absurd h
sort-of_field s (field.Data target) (value.Bool truth) h = absurd h
sort-of_field s (field.Data target) (value.Cell c) h = h
sort-of_field s (field.Data target) (value.Cells cells) h = absurd h
sort-of_field s (field.Pointer target along) (value.Bool truth) h = absurd h
sort-of_field s (field.Pointer target along) (value.Cell c) h = h
sort-of_field s (field.Pointer target along) (value.Cells cells) h = absurd h

pub field-of_sort : (s : StoreMap) (kind : FieldKind) (x : Value) → IsOfSort s (field_sort kind) x → FieldFits s kind x
field-of_sort s field.Bool (value.Bool truth) h = tt
field-of_sort s field.Bool (value.Cell c) h = absurd h
field-of_sort s field.Bool (value.Cells cells) h = absurd h
field-of_sort s (field.Data target) (value.Bool truth) h = absurd h
field-of_sort s (field.Data target) (value.Cell c) h = h
field-of_sort s (field.Data target) (value.Cells cells) h = absurd h
field-of_sort s (field.Pointer target along) (value.Bool truth) h = absurd h
field-of_sort s (field.Pointer target along) (value.Cell c) h = h
field-of_sort s (field.Pointer target along) (value.Cells cells) h = absurd h

-- a value in execution
abbrev pub gives : {X : Type 0} → X → Result X Cause
gives x = Ok x

abbrev pub stops : {X : Type 0} → Cause → Result X Cause
stops why = Err why

pub err-ok : {X A : Type 0} {x : X} (why : Cause) → stops {X = X} why ≡ Ok x → A
err-ok why e = absurd cc

pub ok-one : {X : Type 0} (x y : X) → gives x ≡ Ok y → x ≡ y
ok-one x y e = cc

pub some-one : {X : Type 0} (x y : X) → Some x ≡ Some y → x ≡ y
some-one x y e = cc

pub none-some : {X A : Type 0} (x : X) → None ≡ Some x → A
none-some x e = absurd cc

-- ..and the other way
pub sort-of_var : (s : StoreMap) (kind : VarKind) (sort : Sort) (x : Value) → code_sort kind ≡ Some sort → VarFits s kind x → IsOfSort s sort x
sort-of_var s var.Bool sort (value.Bool truth) e h = subst (λ so. IsOfSort s so (value.Bool truth)) (some-one Truth sort e) tt
sort-of_var s var.Bool sort (value.Cell c) e h = absurd h
sort-of_var s var.Bool sort (value.Cells cells) e h = absurd h
sort-of_var s (var.Data target) sort (value.Bool truth) e h = absurd h
sort-of_var s (var.Data target) sort (value.Cell c) e h = subst (λ so. IsOfSort s so (value.Cell c)) (some-one (Cell target) sort e) h
sort-of_var s (var.Data target) sort (value.Cells cells) e h = absurd h
sort-of_var s (var.Pointer target) sort (value.Bool truth) e h = absurd h
sort-of_var s (var.Pointer target) sort (value.Cell c) e h = subst (λ so. IsOfSort s so (value.Cell c)) (some-one (Cell target) sort e) h
sort-of_var s (var.Pointer target) sort (value.Cells cells) e h = absurd h
sort-of_var s (var.LogicSet target) sort x e h = none-some sort e
sort-of_var s var.LogicBool sort x e h = none-some sort e

pub var-of_sort : (s : StoreMap) (kind : VarKind) (sort : Sort) (x : Value) → code_sort kind ≡ Some sort → IsOfSort s sort x → VarFits s kind x
var-of_sort s var.Bool sort x e h = by x (subst (λ so. IsOfSort s so x) (sym (some-one Truth sort e)) h)
  where
    by : (x : Value) → IsOfSort s Truth x → VarFits s var.Bool x
    by (value.Bool truth) g = tt
    by (value.Cell c) g = absurd g
    by (value.Cells cells) g = absurd g
var-of_sort s (var.Data target) sort x e h = by x (subst (λ so. IsOfSort s so x) (sym (some-one (Cell target) sort e)) h)
  where
    by : (x : Value) → IsOfSort s (Cell target) x → VarFits s (var.Data target) x
    by (value.Bool truth) g = absurd g
    by (value.Cell c) g = g
    by (value.Cells cells) g = absurd g
var-of_sort s (var.Pointer target) sort x e h = by x (subst (λ so. IsOfSort s so x) (sym (some-one (Cell target) sort e)) h)
  where
    by : (x : Value) → IsOfSort s (Cell target) x → VarFits s (var.Pointer target) x
    by (value.Bool truth) g = absurd g
    by (value.Cell c) g = g
    by (value.Cells cells) g = absurd g
var-of_sort s (var.LogicSet target) sort x e h = none-some sort e
var-of_sort s var.LogicBool sort x e h = none-some sort e

-- ---- the fields of paths

-- the first of the fields that are followed is one of the type, and the others go on from it
pub record FirstField (types : List TypeEntry) (start : Sort) (f : FieldId) (fields : List FieldId) (sort : Sort) : Type 0 where
  pub entry : FieldEntry
  pub known : field_at types f ≡ Some entry
  pub rest : sort_along types (field_sort entry.kind) fields ≡ Some sort

pub first-field : (types : List TypeEntry) (start : Sort) (f : FieldId) (fields : List FieldId) (sort : Sort) →
    sort_along types start (f ∷ fields) ≡ Some sort → FirstField types start f fields sort
first-field types Truth f fields sort e = none-some sort e
first-field types (Set ty) f fields sort e = none-some sort e
first-field types (Cell ty) f fields sort e = by_type (f.ty.0 == ty.0) e
  where
    by_field : (o : Option FieldEntry) → field_at types f ≡ o → option_and_then (λ (entry : FieldEntry). sort_along types (field_sort entry.kind) fields) o ≡
        Some sort →
        FirstField types (Cell ty) f fields sort
    by_field None is q = none-some sort q
    by_field (Some entry) is q = record { entry = entry; known = is; rest = q }

    by_type : (b : Bool) → cond b (option_and_then (λ (entry : FieldEntry). sort_along types (field_sort entry.kind) fields) (field_at types f)) None ≡ Some
        sort →
        FirstField types (Cell ty) f fields sort
    by_type false q = none-some sort q
    by_type true q = by_field (field_at types f) refl q

-- ---- what stands at paths

-- the value of a variable of the table
pub record HeldBy (s : StoreMap) (kind : VarKind) (i : ℕ) (xs : List Value) : Type 0 where
  pub held : Value
  pub at : slice_get xs i ≡ Some held
  pub fits : VarFits s kind held

pub held_at : (s : StoreMap) (vs : List VarEntry) (xs : List Value) (i : ℕ) (entry : VarEntry) → VarsFit s vs xs → slice_get vs i ≡ Some entry →
    HeldBy s entry.kind i xs
held_at s [] xs i entry h e = none-some entry e
held_at s (v ∷ vs) [] i entry h e = absurd h
held_at s (v ∷ vs) (x ∷ xs) zero entry h e = record { held = x; at = refl; fits = subst (λ (w : VarEntry). VarFits s w.kind x) (some-one v entry e) h.0 }
held_at s (v ∷ vs) (x ∷ xs) (suc i) entry h e = let it = held_at s vs xs i entry h.1 e in record { held = it.held; at = it.at; fits = it.fits }

module _ (types : List TypeEntry) (vars : List VarEntry) (s : StoreMap) (fits : Fits types vars s) where
  -- a variable of code
  pub variable-sort : (v : VarId) (sort : Sort) → option_and_then (λ (entry : VarEntry). code_sort entry.kind) (var_at vars v) ≡ Some sort →
      IsOfSort s sort (variable s v)
  variable-sort v sort e = by (var_at vars v) refl e
    where
      by : (o : Option VarEntry) → var_at vars v ≡ o → option_and_then (λ (entry : VarEntry). code_sort entry.kind) o ≡ Some sort →
          IsOfSort s sort (variable s v)
      by None is g = none-some sort g
      by (Some entry) is g = let it = held_at s vars s.vars v.0 entry fits.values is in
          subst (λ o. IsOfSort s sort (unwrap_or o null)) (sym it.at) (sort-of_var s entry.kind sort it.held g it.fits)

  -- a field that is read
  pub read-sort : (x y : Value) (f : FieldId) (entry : FieldEntry) → field_at types f ≡ Some entry → read s x f ≡ Ok y → IsOfSort s (field_sort entry.kind) y
  read-sort x y f entry known e = by (cell_through s x) e
    where
      at_cell : (c : CellId) (o : Option Value) → field_value s c f ≡ o → ok_or o cause.Variant ≡ Ok y → IsOfSort s (field_sort entry.kind) y
      at_cell c None is g = err-ok cause.Variant g
      at_cell c (Some z) is g = let at : SlotAt s (fields_of types f.ty) f.index z = slot_at_value types vars s fits c f z is in
          let same : at.entry ≡ entry = some-one at.entry entry (sym at.at ∙ known) in
          let of_z = sort-of_field s entry.kind z (subst (λ (w : FieldEntry). FieldFits s w.kind z) same at.fits) in
          subst (IsOfSort s (field_sort entry.kind)) (ok-one z y g) of_z

      by : (r : Result CellId Cause) → and_then (field_read s f) r ≡ Ok y → IsOfSort s (field_sort entry.kind) y
      by (Ok c) g = at_cell c (field_value s c f) refl g
      by (Err why) g = err-ok why g

  after_read : (f : FieldId) (fields : List FieldId) (end : Sort) (x y : Value) {start : Sort} (first : FirstField types start f fields end) →
      ((z : Value) → read s x f ≡ Ok z → read_along s z fields ≡ Ok y → IsOfSort s end y) →
      (r : Result Value Cause) → read s x f ≡ r → and_then (λ z. read_along s z fields) r ≡ Ok y → IsOfSort s end y
  after_read f fields end x y first next (Ok z) is rest = next z is rest
  after_read f fields end x y first next (Err why) is rest = err-ok why rest

  -- the fields that are read one after the other
  pub along-sort : (fields : List FieldId) (sort end : Sort) (x y : Value) → sort_along types sort fields ≡ Some end → IsOfSort s sort x →
      read_along s x fields ≡ Ok y → IsOfSort s end y
  along-sort [] sort end x y e h g = subst (λ so. IsOfSort s so y) (some-one sort end e) (subst (IsOfSort s sort) (ok-one x y g) h)
  along-sort (f ∷ fields) sort end x y e h g = let first = first-field types sort f fields end e in
      after_read f fields end x y first (λ z is rest. along-sort fields (field_sort first.entry.kind) end z y first.rest
      (read-sort x z f first.entry first.known is) rest) (read s x f) refl g

  -- what stands at a path
  pub path-sort : (p : Path) (sort : Sort) (y : Value) → PathFits types vars p sort → path_value s p ≡ Ok y → IsOfSort s sort y
  path-sort p sort y e g = by (option_and_then (λ (entry : VarEntry). code_sort entry.kind) (var_at vars p.var)) refl e
    where
      by : (o : Option Sort) → option_and_then (λ (entry : VarEntry). code_sort entry.kind) (var_at vars p.var) ≡ o →
          option_and_then (λ start. sort_along types start p.fields) o ≡ Some sort → IsOfSort s sort y
      by None is q = none-some sort q
      by (Some start) is q = along-sort p.fields start sort (variable s p.var) y q (variable-sort p.var start is) g

  -- an operand, which is null or of the sort
  pub operand-sort : (p : Operand) (sort : Sort) (y : Value) → IsCellSort sort → OperandFits types vars p sort → operand_value s p ≡ Ok y → IsOfSort s sort y
  operand-sort operand.Null Truth y c h g = absurd c
  operand-sort operand.Null (Cell ty) y c h g = subst (IsOfSort s (Cell ty)) (ok-one null y g) tt
  operand-sort operand.Null (Set ty) y c h g = absurd c
  operand-sort (operand.Path p) sort y c h g = path-sort p sort y h g

-- ---- the last step of a place

-- the field of the last step holds values of the place's sort
pub record IsLastField (types : List TypeEntry) (sort : Sort) (f : FieldId) : Type 0 where
  pub entry : FieldEntry
  pub known : field_at types f ≡ Some entry
  pub sort_is : field_sort entry.kind ≡ sort

last_after : (types : List TypeEntry) (s : StoreMap) (fields : List FieldId) (h : FieldId) (sort : Sort) (through : Value) (last : FieldId) →
    ((y : Value) → last_step s y h fields ≡ Ok (through, last) → IsLastField types sort last) →
    (r : Result Value Cause) → and_then (λ y. last_step s y h fields) r ≡ Ok (through, last) → IsLastField types sort last
last_after types s fields h sort through last next (Ok y) q = next y q
last_after types s fields h sort through last next (Err why) q = err-ok why q

pub last-field : (types : List TypeEntry) (s : StoreMap) (fields : List FieldId) (f : FieldId) (start sort : Sort) (x through : Value) (last : FieldId) →
    sort_along types start (f ∷ fields) ≡ Some sort → last_step s x f fields ≡ Ok (through, last) → IsLastField types sort last
last-field types s [] f start sort x through last e g = record {
  entry = first.entry;
  known = subst (λ (h : FieldId). field_at types h ≡ Some first.entry) (ap (λ (step : Value × FieldId). step.1) (ok-one (x, f) (through, last) g)) first.known;
  sort_is = some-one (field_sort first.entry.kind) sort first.rest;
}
  where
    first : FirstField types start f [] sort
    first = first-field types start f [] sort e
last-field types s (h ∷ fields) f start sort x through last e g = let first = first-field types start f (h ∷ fields) sort e in
    last_after types s fields h sort through last (λ y rest. last-field types s fields h (field_sort first.entry.kind) sort y through last first.rest rest)
    (read s x f) g
