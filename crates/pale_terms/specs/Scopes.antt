-- Scopes: what each name stands for at a place in an assertion or a condition, and whether the place may name it.
use Rattle.std.specs.Prelude.{ℕ, ◌-◌, ◌&&◌, Bool, false, not, List, [], ◌∷◌, map, length, slice_get, Option, option_map, is_some, unwrap_or, if◌then◌else◌}
use Rattle.std.specs.Str.{bytes_eq}
use Rattle.std.specs.Option.{option_and_then}
use Rattle.pale_text.specs.declared.refusal.RefusalKind.TheVariants as kind
use Rattle.pale_syntax.specs.declared.tree.names.Name.{Name}
use Rattle.store_core.specs.Tables.{place_of}
use Rattle.store_logic.specs.declared.term.Base.{Base}
use Rattle.store_logic.specs.declared.term.Base.TheVariants as base
use Rattle.pale_tables.specs.Faults.{Fault, need, ◌>>◌}
use Rattle.pale_terms.specs.declared.sort.Sort.TheVariants as sort
use Rattle.pale_terms.specs.declared.scope.Origin.{Origin}
use Rattle.pale_terms.specs.declared.scope.Origin.TheVariants as origin
use Rattle.pale_terms.specs.declared.scope.Visible.{Visible}
use Rattle.pale_terms.specs.declared.scope.Meaning.{Meaning}
use Rattle.pale_terms.specs.Sorts.{is_set}
use Rattle.pale_terms.specs.Visibles.{Entry}

-- ---- what a name stands for

abbrev pub visible_names : List Entry → List (List ℕ)
visible_names scope = map (λ e. e.name) scope

-- what is visible under a name, and how many names became visible after it
unfoldable pub sight_of : List Entry → List ℕ → Option (Visible × ℕ)
sight_of scope name =
    option_and_then (λ place. option_map (λ e. (e.visible, length scope - 1 - place)) (slice_get scope place)) (place_of name (visible_names scope))

-- variables and parameters are known by their numbers, and what a quantifier binds by the number of quantifiers between
abbrev pub base_of : Origin → ℕ → Base
base_of (origin.Variable var) after = base.Var var
base_of (origin.Parameter number) after = base.Param number
base_of origin.Quantifier after = base.Bound after

abbrev pub meaning_at : Visible × ℕ → Meaning
meaning_at sight = record { base = base_of sight.0.origin sight.1; sort = sight.0.sort; may = sight.0.may }

-- what a name stands for, where it is visible
abbrev pub meaning_named : List Entry → List ℕ → Option Meaning
meaning_named scope name = option_map meaning_at (sight_of scope name)

-- a name that isn't visible, which is refused, counts as a truth value
unfoldable pub meaning_of : List Entry → Name → Meaning
meaning_of scope x = unwrap_or (meaning_named scope x.bytes) (record { base = base.Param 0; sort = sort.Truth; may = false })

-- a path may begin with it: the place may name it, and it is no set
abbrev pub may_begin_path : Meaning → Bool
may_begin_path m = m.may && not (is_set m.sort)

-- it may stand where a set does
abbrev pub may_be_set : Meaning → Bool
may_be_set m = m.may && is_set m.sort

-- ---- what a place may name

abbrev pub with_may : Bool → Entry → Entry
with_may may e = record e { visible = record e.visible { may = may } }

-- the scope where what is visible under the name has this permission
abbrev pub allowed : List ℕ → Bool → List Entry → List Entry
allowed name may [] = []
allowed name may (e ∷ scope) = if bytes_eq name e.name then with_may may e ∷ scope else e ∷ allowed name may scope

-- ---- faults

-- the name is visible
unfoldable pub visible_fault : List Entry → Name → Fault
visible_fault scope x = need (is_some (meaning_named scope x.bytes)) kind.Unknown x.place

-- a path begins with a name that is visible and may begin one
unfoldable pub base_fault : List Entry → Name → Fault
base_fault scope x = visible_fault scope x >> need (may_begin_path (meaning_of scope x)) kind.Kind x.place

-- the name of a set
unfoldable pub set_fault : List Entry → Name → Fault
set_fault scope x = visible_fault scope x >> need (may_be_set (meaning_of scope x)) kind.Kind x.place

-- a name that is to become visible isn't yet
unfoldable pub new_name_fault : List Entry → Name → Fault
new_name_fault scope x = need (not (is_some (place_of x.bytes (visible_names scope)))) kind.Duplicate x.place
