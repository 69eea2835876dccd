-- Fields behind fields.
use Rattle.std.proofs.Common.{◌≡◌, List, [], ◌∷◌, ◌++◌, Option, Some, None, Bool, true, false, ◌==◌, if◌then◌else◌, refl, ap, ◌∙◌}
use Rattle.std.specs.Option.{option_and_then}
use Rattle.store_core.specs.declared.ids.FieldId.{FieldId}
use Rattle.store_core.specs.Tables.{TypeEntry, FieldEntry, field_at}
use Rattle.store_logic.specs.declared.term.Base.{Base}
use Rattle.store_logic.specs.declared.term.Term.TheVariants as term
use Rattle.store_logic.specs.Sorts.{Sort, Truth, Cell, Set, Scope, field_sort, sort_along, base_sort, TermFits}

pub along-append : (types : List TypeEntry) (start : Sort) (more fields : List FieldId) (middle : Sort) → sort_along types start more ≡ Some middle →
    sort_along types start (more ++ fields) ≡ sort_along types middle fields
along-append types start [] fields middle is = ap (λ o. option_and_then (λ s. sort_along types s fields) o) is
along-append types Truth (f ∷ more) fields middle is = absurd cc
along-append types (Set ty) (f ∷ more) fields middle is = absurd cc
along-append types (Cell ty) (f ∷ more) fields middle is = by (f.ty.0 == ty.0) (field_at types f) (λ s. along-append types s more fields middle) is
  where
    by : (b : Bool) (o : Option FieldEntry) →
        ((s : Sort) → sort_along types s more ≡ Some middle → sort_along types s (more ++ fields) ≡ sort_along types middle fields) →
        (if b then option_and_then (λ (e : FieldEntry). sort_along types (field_sort e.kind) more) o else None) ≡ Some middle →
        (if b then option_and_then (λ (e : FieldEntry). sort_along types (field_sort e.kind) (more ++ fields)) o else None) ≡ sort_along types middle fields
    by false o next is = absurd cc
    by true None next is = absurd cc
    by true (Some e) next is = next (field_sort e.kind) is

-- the name of a path has a sort from which the fields lead to this one
pub record Leads (types : List TypeEntry) (scope : Scope) (name : Base) (fields : List FieldId) (s : Sort) : Type 0 where
  pub start : Sort
  pub stands : base_sort scope name ≡ Some start
  pub along : sort_along types start fields ≡ Some s

pub leads-of : (types : List TypeEntry) (scope : Scope) (name : Base) (fields : List FieldId) (s : Sort) → TermFits types scope (term.At name fields) s →
    Leads types scope name fields s
leads-of types scope name fields s fits = by (base_sort scope name) refl fits
  where
    by : (o : Option Sort) → base_sort scope name ≡ o → option_and_then (λ start. sort_along types start fields) o ≡ Some s → Leads types scope name fields s
    by None at is = absurd cc
    by (Some start) at is = record { start = start; stands = at; along = is }

pub leads-fits : (types : List TypeEntry) (scope : Scope) (name : Base) (fields : List FieldId) (s start : Sort) → base_sort scope name ≡ Some start →
    sort_along types start fields ≡ Some s → TermFits types scope (term.At name fields) s
leads-fits types scope name fields s start at along = ap (option_and_then (λ start. sort_along types start fields)) at ∙ along
