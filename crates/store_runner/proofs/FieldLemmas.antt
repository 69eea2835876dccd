-- Assignments to a field of a cell that was found.
use Rattle.std.proofs.Common.{◌≡◌, ◌<◌, List, Option, Some, None, IfSome, Result, Ok, Err, refl, sym, ap, subst}
use Rattle.store_core.specs.declared.ids.FieldId.{FieldId}
use Rattle.store_core.specs.declared.ids.VarId.{VarId}
use Rattle.store_core.specs.declared.ids.CellId.{CellId}
use Rattle.store_core.specs.declared.ids.VariantId.{VariantId}
use Rattle.store_core.specs.declared.value.Class.TheVariants.{Reference}
use Rattle.store_core.specs.declared.value.Value.{Value}
use Rattle.store_core.specs.declared.value.Value.TheVariants as value
use Rattle.store_core.specs.Tables.{TypeEntry}
use Rattle.store_core.specs.Stores.{StoreMap, class_of, field_value, put_cell}
use Rattle.store_logic.specs.declared.act.Rhs.{Rhs}
use Rattle.store_logic.specs.declared.act.Rhs.TheVariants as rhs
use Rattle.store_logic.specs.Terms.{cell_in}
use Rattle.store_exec.specs.declared.cause.Cause.{Cause}
use Rattle.store_exec.specs.Steps.{and_then, made_of, read_along, variable, evaluated, written}
use Rattle.store_exec.specs.Ready.{TakesFieldClass, field_assigned}
use Rattle.store_exec.proofs.SortLemmas.{ok-one, err-ok}
use Rattle.store_exec.specs.declared.halt.Halt.{Halt}
use Rattle.store_runner.specs.Conditions.{IsTold, IsToldBy}
use Rattle.store_runner.specs.Assigning.{GivesClass, cell_assigned}
use Rattle.store_runner.proofs.BelowLemmas.{kept-field}

module _ (types : List TypeEntry) (s : StoreMap) (v : VarId) (before : List FieldId) (last : FieldId) (x : Rhs) (through : Option CellId)
    (found : made_of cell_in (read_along s (variable s v) before) ≡ Ok through) where
  -- the assignment is one to a field of the cell that was found
  pub field-through : field_assigned types s v before last x ≡ cell_assigned types s through last x
  field-through = by (read_along s (variable s v) before) found
    where
      by : (r : Result Value Cause) → made_of cell_in r ≡ Ok through →
          and_then (λ (y : Value). and_then (λ (got : StoreMap × Value). written got.0 y last got.1) (evaluated types s x))
          (made_of (λ (y : Value). value.Cell (cell_in y)) r) ≡ cell_assigned types s through last x
      by (Ok y) e = ap (λ (o : Option CellId). cell_assigned types s o last x) (ok-one (cell_in y) through e)
      by (Err why) e = err-ok why e

  -- and gives it what is of the class of what stands there
  pub class-through : TakesFieldClass types s v before last x → GivesClass types s through last x
  class-through h = λ t y is. by (read_along s (variable s v) before) refl found t y is
    where
      by : (r : Result Value Cause) → read_along s (variable s v) before ≡ r → made_of cell_in r ≡ Ok through → (t : StoreMap) (y : Value) →
          evaluated types s x ≡ Ok (t, y) → IfSome through (λ c. IfSome (field_value t c last) (λ old. class_of y ≡ class_of old))
      by (Ok z) reads e t y is = subst (λ (o : Option CellId). IfSome o (λ c. IfSome (field_value t c last) (λ old. class_of y ≡ class_of old)))
          (ok-one (cell_in z) through e) (h t y is z reads)
      by (Err why) reads e t y is = err-ok why e

-- a field that a new cell can be put into holds a reference
pub new-class : (types : List TypeEntry) (s : StoreMap) (v : VariantId) (last : FieldId) (through : Option CellId) → IfSome through (λ c. c.0 < s.next) →
    GivesClass types s through last (rhs.New v) → IfSome through (λ c. IfSome (field_value s c last) (λ old. class_of old ≡ Reference))
new-class types s v last None below h = tt
new-class types s v last (Some c) below h =
    by (field_value s c last) (subst (λ (o : Option Value). IfSome o (λ old. Reference ≡ class_of old)) (kept-field types s v c last below)
    (h (put_cell s types v) (value.Cell (Some (record { 0 = s.next }))) refl))
  where
    by : (o : Option Value) → IfSome o (λ old. Reference ≡ class_of old) → IfSome o (λ old. class_of old ≡ Reference)
    by None is = tt
    by (Some old) is = sym is

-- what was evaluated is of the class of what stands in the field
pub given-class : (types : List TypeEntry) (s t : StoreMap) (through : Option CellId) (last : FieldId) (x : Rhs) (y : Value) (got : Result Value Halt) →
    GivesClass types s through last x → IsToldBy (λ z. (t, z)) (evaluated types s x) got → got ≡ Ok y →
    IfSome through (λ c. IfSome (field_value t c last) (λ old. class_of y ≡ class_of old))
given-class types s t through last x y got h told is = h t y (subst (IsToldBy (λ z. (t, z)) (evaluated types s x)) is told)

-- the cell that was found
pub found-told : (defined : Result (Option CellId) Cause) (answer : Result (Option CellId) Halt) (through : Option CellId) → IsTold defined answer →
    answer ≡ Ok through → defined ≡ Ok through
found-told defined answer through told is = subst (IsTold defined) is told
