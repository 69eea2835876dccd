-- What terms and arguments stand for with a predicate's arguments put in.
use Rattle.std.proofs.Common.{◌≡◌, ℕ, ◌+◌, ◌<◌, List, [], ◌∷◌, ◌++◌, length, map, flat_map, slice_get}
use Rattle.std.proofs.Common.{Option, Some, None, IsSomeAnd, is_some, unwrap_or, sym, refl, ap, ap₂, ◌∙◌}
use Rattle.std.specs.List.{AllByRecursion}
use Rattle.std.specs.Prelude.{option_map, if◌then◌else◌}
use Rattle.std.specs.Option.{option_map_or, option_and_then}
use Rattle.std.proofs.lemmas.Option.{slice_get-map}
use Rattle.store_core.specs.declared.ids.FieldId.{FieldId}
use Rattle.store_core.specs.declared.ids.CellId.{CellId}
use Rattle.store_core.specs.declared.value.Class.{Class}
use Rattle.store_core.specs.declared.value.Class.TheVariants as class
use Rattle.store_core.specs.declared.value.Value.{Value}
use Rattle.store_core.specs.declared.value.Value.TheVariants as value
use Rattle.store_core.specs.Stores.{StoreMap, CellEntry, cell_of, field_of}
use Rattle.store_logic.specs.declared.term.Base.{Base}
use Rattle.store_logic.specs.declared.term.Base.TheVariants as base
use Rattle.store_logic.specs.declared.term.Term.{Term}
use Rattle.store_logic.specs.declared.term.Term.TheVariants as term
use Rattle.store_logic.specs.declared.arg.Arg.{Arg}
use Rattle.store_logic.specs.declared.arg.Arg.TheVariants as arg
use Rattle.store_logic.specs.Terms.{Environment, null, base_value, field_of_value, value_along, live_value, term_value, arg_value}
use Rattle.store_logic.specs.Filling.{of_term, arg_term, args_for, shifted_base, shifted_term, shifted, path_from, filled_term, name_in, filled_set, filled_arg}
use Rattle.store_logic.specs.Uses.{term_names, set_name, arg_names, arg_class}
use Rattle.store_logic.proofs.ExpandingLists.{slice_get-first, slice_get-later, all-first, all-second}
use Rattle.store_logic.proofs.ExpandingTerms.{IsBoth}

-- ---- paths

module _ (s : StoreMap) where
  value_along-append : (x : Value) (fields more : List FieldId) → value_along s x (fields ++ more) ≡ value_along s (value_along s x fields) more
  value_along-append x [] more = refl
  value_along-append x (f ∷ fields) more = value_along-append (field_of_value s x f) fields more

  value_along-null : (fields : List FieldId) → value_along s null fields ≡ null
  value_along-null [] = refl
  value_along-null (f ∷ fields) = value_along-null fields

  -- from a cell that is dead a path leads where it leads from null
  from_cell : (c : CellId) (o : Option CellEntry) → cell_of s c ≡ o → (fields : List FieldId) →
      live_value s (value_along s (if is_some o then value.Cell (Some c) else null) fields) ≡ live_value s (value_along s (value.Cell (Some c)) fields)
  from_cell c (Some cell) at fields = refl
  from_cell c None at [] = sym (ap (λ (o : Option CellEntry). if is_some o then value.Cell (Some c) else null) at)
  from_cell c None at (f ∷ fields) =
      ap (λ (o : Option CellEntry). live_value s (value_along s (unwrap_or (option_and_then (λ cell. field_of cell f) o) null) fields)) (sym at)

  pub live_along : (x : Value) (fields : List FieldId) → live_value s (value_along s (live_value s x) fields) ≡ live_value s (value_along s x fields)
  live_along (value.Bool truth) fields = refl
  live_along (value.Cells cells) fields = refl
  live_along (value.Cell None) fields = refl
  live_along (value.Cell (Some c)) fields = from_cell c (cell_of s c) refl fields

-- ---- with the arguments of a use put in, in the environment of the use under more quantifiers, and in that of the body
module _ (s : StoreMap) (args : List Arg) (e : Environment) (params : ℕ) where
  abbrev pub in_body : List Value → Environment
  in_body bound = record { bound = bound; params = map (arg_value s e) args }

  abbrev pub around : List Value → Environment
  around bound = record { bound = bound ++ e.bound; params = e.params }

  base_value-shifted : (bound : List Value) (name : Base) → base_value s (around bound) (shifted_base (length bound) name) ≡ base_value s e name
  base_value-shifted bound (base.Var v) = refl
  base_value-shifted bound (base.Bound k) = ap (λ o. unwrap_or o null) (slice_get-later bound e.bound k (k + length bound) refl)
  base_value-shifted bound (base.Param k) = refl

  term_value-path : (bound : List Value) (t : Term) (fields : List FieldId) →
      term_value s (around bound) (path_from (of_term (shifted_term (length bound) t)) fields) ≡ live_value s (value_along s (term_value s e t) fields)
  term_value-path bound term.Null fields = sym (ap (live_value s) (value_along-null s fields))
  term_value-path bound (term.At name more) fields =
      ap (λ x. live_value s (value_along s x (more ++ fields))) (base_value-shifted bound name)
      ∙ ap (live_value s) (value_along-append s (base_value s e name) more fields)
      ∙ sym (live_along s (value_along s (base_value s e name) more) fields)

  term_value-arg : (bound : List Value) (x : Arg) (fields : List FieldId) →
      term_value s (around bound) (path_from (of_term (shifted_term (length bound) (arg_term x))) fields)
      ≡ live_value s (value_along s (arg_value s e x) fields)
  term_value-arg bound (arg.Cell t) fields = term_value-path bound t fields
  term_value-arg bound (arg.Set name) fields = ap (λ x. live_value s (value_along s x fields)) (base_value-shifted bound name)
  term_value-arg bound (arg.Truth t) fields = term_value-path bound t fields

  is_inside : (c : Class) (k d : ℕ) (fields : List FieldId) → AllByRecursion (IsBoth params args) (term_names c (term.At (base.Bound k) fields) d) → k < d
  is_inside c k d [] h = h.0.0
  is_inside c k d (f ∷ fields) h = h.0.0

  pub term_value-filled : (c : Class) (bound : List Value) (t : Term) → AllByRecursion (IsBoth params args) (term_names c t (length bound)) →
      term_value s (around bound) (filled_term (args_for args) (length bound) t) ≡ term_value s (in_body bound) t
  term_value-filled c bound term.Null h = refl
  term_value-filled c bound (term.At (base.Var v) fields) h = refl
  term_value-filled c bound (term.At (base.Bound k) fields) h = ap (λ o. live_value s (value_along s (unwrap_or o null) fields))
      (slice_get-first bound e.bound k (is_inside c k (length bound) fields h))
  term_value-filled c bound (term.At (base.Param k) fields) h =
      of (slice_get args k)
      ∙ ap (λ o. live_value s (value_along s (unwrap_or o null) fields)) (sym (slice_get-map (arg_value s e) args k))
    where
      of : (o : Option Arg) →
          term_value s (around bound) (path_from (shifted (length bound) (of_term (option_map_or arg_term o term.Null))) fields)
          ≡ live_value s (value_along s (unwrap_or (option_map (arg_value s e) o) null) fields)
      of None = sym (ap (live_value s) (value_along-null s fields))
      of (Some x) = term_value-arg bound x fields

  pub base_value-filled : (bound : List Value) (name : Base) → AllByRecursion (IsBoth params args) (set_name name (length bound)) →
      base_value s (around bound) (filled_set (args_for args) (length bound) name) ≡ base_value s (in_body bound) name
  base_value-filled bound (base.Var v) h = refl
  base_value-filled bound (base.Bound k) h = ap (λ o. unwrap_or o null) (slice_get-first bound e.bound k h.0.0)
  base_value-filled bound (base.Param k) h =
      of (slice_get args k) h.0.1 ∙ ap (λ o. unwrap_or o null) (sym (slice_get-map (arg_value s e) args k))
    where
      of : (o : Option Arg) → IsSomeAnd o (λ x. arg_class x ≡ class.Set) →
          base_value s (around bound) (name_in (shifted (length bound) (of_term (option_map_or arg_term o term.Null))) (base.Param k))
          ≡ unwrap_or (option_map (arg_value s e) o) null
      of None given = absurd given
      of (Some (arg.Cell t)) given = let clash : class.Reference ≡ class.Set = given in absurd cc
      of (Some (arg.Set name)) given = base_value-shifted bound name
      of (Some (arg.Truth t)) given = let clash : class.Truth ≡ class.Set = given in absurd cc

  pub arg_value-filled : (bound : List Value) (x : Arg) → AllByRecursion (IsBoth params args) (arg_names x (length bound)) →
      arg_value s (around bound) (filled_arg (args_for args) (length bound) x) ≡ arg_value s (in_body bound) x
  arg_value-filled bound (arg.Cell t) h = term_value-filled class.Reference bound t h
  arg_value-filled bound (arg.Set name) h = base_value-filled bound name h
  arg_value-filled bound (arg.Truth t) h = term_value-filled class.Truth bound t h

  pub arg_values-filled : (bound : List Value) (xs : List Arg) → AllByRecursion (IsBoth params args) (flat_map (λ x. arg_names x (length bound)) xs) →
      map (arg_value s (around bound)) (map (filled_arg (args_for args) (length bound)) xs) ≡ map (arg_value s (in_body bound)) xs
  arg_values-filled bound [] h = refl
  arg_values-filled bound (x ∷ xs) h =
      let rest = flat_map (λ y. arg_names y (length bound)) xs in
      ap₂ (λ (y : Value) (ys : List Value). y ∷ ys)
      (arg_value-filled bound x (all-first (IsBoth params args) (arg_names x (length bound)) rest h))
      (arg_values-filled bound xs (all-second (IsBoth params args) (arg_names x (length bound)) rest h))
