-- Assertions of a procedure that is called, with what is handed over put in for its variables: for `null`, a path that begins with
-- the variable is null, or false where it ends in a bool field.
use Rattle.std.specs.Prelude.{◌==◌, List, map}
use Rattle.std.specs.Option.{option_map_or}
use Rattle.std.specs.List.{find, zip}
use Rattle.store_core.specs.declared.ids.VarId.{VarId}
use Rattle.store_logic.specs.declared.term.Base.{Base}
use Rattle.store_logic.specs.declared.term.Base.TheVariants as base
use Rattle.store_logic.specs.declared.term.Term.TheVariants as term
use Rattle.store_logic.specs.declared.assertion.Assertion.{Assertion}
use Rattle.store_logic.specs.Filling.{Filling, of_term, of_truth, kept, filled}
use Rattle.pale_calls.specs.declared.actual.Actual.{Actual}
use Rattle.pale_calls.specs.declared.actual.Actual.TheVariants as actual
use Rattle.hoare_fill.specs.declared.putting.Put.{Put}
use Rattle.hoare_fill.specs.declared.putting.Filled.{Filled}
use Rattle.hoare_fill.specs.declared.putting.Filled.TheVariants as made

-- each variable with what is handed over for it
abbrev pub beside : List VarId → List Actual → List Put
beside vars actuals = map (λ pair. record { var = pair.0; actual = pair.1 }) (zip vars actuals)

-- what is handed over for the variable; one for which nothing is stands for itself
abbrev pub actual_for : List Put → VarId → Actual
actual_for puts v = option_map_or (λ put. put.actual) (find (λ put. put.var.0 == v.0) puts) (actual.Var v)

abbrev pub filling_of : Actual → Filling
filling_of (actual.Var v) = kept (base.Var v)
filling_of actual.Null = of_term term.Null
filling_of (actual.Truth truth) = of_truth truth

-- what the code's name for it means
abbrev pub filling : Filled → Filling
filling (made.Name name) = kept name
filling made.Null = of_term term.Null
filling (made.Truth truth) = of_truth truth

-- what is put in for a name
abbrev pub put_for : List Put → Base → Filling
put_for puts (base.Var v) = filling_of (actual_for puts v)
put_for puts (base.Bound k) = kept (base.Bound k)
put_for puts (base.Param k) = kept (base.Param k)

-- the assertion with all that put in
abbrev pub with_puts : List Put → Assertion → Assertion
with_puts puts a = filled (put_for puts) a 0
