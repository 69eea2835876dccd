-- What the terms of an assertion stand for. (Møller and Schwartzbach, PLDI 2001, "pointer assertion logic"; the rules on null
-- are this project's.)
use Rattle.std.specs.Prelude.{Bool, false, List, [], ◌∷◌, slice_get, unwrap_or, Option, Some, None, is_some, if◌then◌else◌}
use Rattle.store_core.specs.declared.ids.FieldId.{FieldId}
use Rattle.store_core.specs.declared.ids.CellId.{CellId}
use Rattle.store_core.specs.declared.value.Value.{Value}
use Rattle.store_core.specs.declared.value.Value.TheVariants as value
use Rattle.store_core.specs.Stores.{StoreMap, cell_of, field_value, var_value}
use Rattle.store_logic.specs.declared.term.Base.{Base}
use Rattle.store_logic.specs.declared.term.Base.TheVariants as base
use Rattle.store_logic.specs.declared.term.Term.{Term}
use Rattle.store_logic.specs.declared.term.Term.TheVariants as term
use Rattle.store_logic.specs.declared.arg.Arg.{Arg}
use Rattle.store_logic.specs.declared.arg.Arg.TheVariants as arg

-- what the names around a place in an assertion stand for: the cell or the set of each quantifier, the nearest first, and the
-- arguments of the predicate
pub record Environment : Type 0 where
  pub bound : List Value
  pub params : List Value

-- outside of all quantifiers and predicates
abbrev pub outside : Environment
outside = record { bound = []; params = [] }

-- under one quantifier more, which binds this value
abbrev pub under : Value → Environment → Environment
under x e = record e { bound = x ∷ e.bound }

-- in the body of a predicate with these arguments
abbrev pub given : List Value → Environment
given args = record { bound = []; params = args }

abbrev pub null : Value
null = value.Cell None

-- ---- values

-- what a name stands for
abbrev pub base_value : StoreMap → Environment → Base → Value
base_value s e (base.Var v) = unwrap_or (var_value s v) null
base_value s e (base.Bound n) = unwrap_or (slice_get e.bound n) null
base_value s e (base.Param n) = unwrap_or (slice_get e.params n) null

-- the value of a field of what a value is: null of null, of a dead cell, and where the cell hasn't the field
abbrev pub field_of_value : StoreMap → Value → FieldId → Value
field_of_value s (value.Cell (Some c)) f = unwrap_or (field_value s c f) null
field_of_value s _ f = null

-- what the fields lead to, one after the other
abbrev pub value_along : StoreMap → Value → List FieldId → Value
value_along s x [] = x
value_along s x (f ∷ fields) = value_along s (field_of_value s x f) fields

-- the value, with null for a dead cell
abbrev pub live_value : StoreMap → Value → Value
live_value s (value.Cell (Some c)) = if is_some (cell_of s c) then value.Cell (Some c) else null
live_value s x = x

-- the value of a term: null, a live cell or a truth value. A dead cell counts as null. A path is null where it goes through
-- null, through a dead cell or through a field that the cell hasn't
abbrev pub term_value : StoreMap → Environment → Term → Value
term_value s e term.Null = null
term_value s e (term.At name fields) = live_value s (value_along s (base_value s e name) fields)

-- ---- what is read of a value

-- the cell, where it is one
abbrev pub cell_in : Value → Option CellId
cell_in (value.Cell c) = c
cell_in _ = None

-- the truth value; null is false
abbrev pub truth_in : Value → Bool
truth_in (value.Bool truth) = truth
truth_in _ = false

-- the set of cells, which may be dead
abbrev pub set_in : Value → List CellId
set_in (value.Cells cells) = cells
set_in _ = []

-- ---- the readings of terms and names

-- the live cell that a term is; none where it is null
abbrev pub cell_at : StoreMap → Environment → Term → Option CellId
cell_at s e t = cell_in (term_value s e t)

-- whether a term is true: a bool field of null is false, and so is one that the cell hasn't
abbrev pub truth_at : StoreMap → Environment → Term → Bool
truth_at s e t = truth_in (term_value s e t)

-- the set that a name stands for
abbrev pub set_at : StoreMap → Environment → Base → List CellId
set_at s e name = set_in (base_value s e name)

-- the value of a predicate's argument
abbrev pub arg_value : StoreMap → Environment → Arg → Value
arg_value s e (arg.Cell t) = term_value s e t
arg_value s e (arg.Set name) = base_value s e name
arg_value s e (arg.Truth t) = term_value s e t
