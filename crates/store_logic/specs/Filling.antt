-- Assertions with something else put in for their names: for a predicate's parameters its arguments. (De Bruijn 1972: a name
-- that is bound outside counts the quantifiers under which it comes to stand.)
use Rattle.std.specs.Prelude.{Bool, true, false, ℕ, suc, ◌+◌, List, [], ◌∷◌, ◌++◌, map, slice_get}
use Rattle.std.specs.Option.{option_map_or}
use Rattle.store_core.specs.declared.ids.FieldId.{FieldId}
use Rattle.store_logic.specs.declared.term.Base.{Base}
use Rattle.store_logic.specs.declared.term.Base.TheVariants as base
use Rattle.store_logic.specs.declared.term.Term.{Term}
use Rattle.store_logic.specs.declared.term.Term.TheVariants as term
use Rattle.store_logic.specs.declared.arg.Arg.{Arg}
use Rattle.store_logic.specs.declared.arg.Arg.TheVariants as arg
use Rattle.store_logic.specs.declared.assertion.Assertion.{Assertion}
use Rattle.store_logic.specs.declared.assertion.Assertion.TheVariants as assertion
use Rattle.store_logic.specs.declared.assertion.Assertion.TheOpen.{Assertion-F}
use Rattle.store_logic.specs.declared.assertion.Assertion.TheFolds.{fold-Assertion}

-- ---- what is put in

-- what is put in for a name: null or a path, or a truth value
pub data Filling : Type 0 where
  of_term : Term → Filling
  of_truth : Bool → Filling

-- the name itself
abbrev pub kept : Base → Filling
kept name = of_term (term.At name [])

-- an argument as a term
abbrev pub arg_term : Arg → Term
arg_term (arg.Cell t) = t
arg_term (arg.Set name) = term.At name []
arg_term (arg.Truth t) = t

-- for a parameter its argument, for any other name itself
abbrev pub args_for : List Arg → Base → Filling
args_for args (base.Var v) = kept (base.Var v)
args_for args (base.Bound k) = kept (base.Bound k)
args_for args (base.Param k) = of_term (option_map_or arg_term (slice_get args k) term.Null)

-- ---- under quantifiers

-- the name as it stands under so many quantifiers more
abbrev pub shifted_base : ℕ → Base → Base
shifted_base depth (base.Var v) = base.Var v
shifted_base depth (base.Bound k) = base.Bound (k + depth)
shifted_base depth (base.Param k) = base.Param k

abbrev pub shifted_term : ℕ → Term → Term
shifted_term depth term.Null = term.Null
shifted_term depth (term.At name fields) = term.At (shifted_base depth name) fields

abbrev pub shifted : ℕ → Filling → Filling
shifted depth (of_term t) = of_term (shifted_term depth t)
shifted depth (of_truth truth) = of_truth truth

-- what is put in for a name that stands under so many quantifiers; a bound name stays
abbrev pub put_under : (Base → Filling) → ℕ → Base → Filling
put_under put depth (base.Var v) = shifted depth (put (base.Var v))
put_under put depth (base.Bound k) = kept (base.Bound k)
put_under put depth (base.Param k) = shifted depth (put (base.Param k))

-- ---- terms and names

-- what is put in, with more fields behind it: null where it is null
abbrev pub path_from : Filling → List FieldId → Term
path_from (of_term term.Null) more = term.Null
path_from (of_term (term.At name fields)) more = term.At name (fields ++ more)
path_from (of_truth truth) more = term.Null

-- a term of cells: a path goes on from what is put in for its name
abbrev pub filled_term : (Base → Filling) → ℕ → Term → Term
filled_term put depth term.Null = term.Null
filled_term put depth (term.At name fields) = path_from (put_under put depth name) fields

-- that a term is true; null is false
abbrev pub is_true : Term → Assertion
is_true term.Null = assertion.False
is_true (term.At name fields) = assertion.Truth (term.At name fields)

abbrev pub constant : Bool → Assertion
constant true = assertion.True
constant false = assertion.False

-- that what is put in is true, with these fields behind it: a truth value is itself, and a bool field of null is false
abbrev pub truth_from : Filling → List FieldId → Assertion
truth_from (of_term t) fields = is_true (path_from (of_term t) fields)
truth_from (of_truth truth) [] = constant truth
truth_from (of_truth truth) (f ∷ fields) = assertion.False

abbrev pub filled_truth : (Base → Filling) → ℕ → Term → Assertion
filled_truth put depth term.Null = assertion.False
filled_truth put depth (term.At name fields) = truth_from (put_under put depth name) fields

-- the name with which what is put in begins, where it is a path
abbrev pub name_in : Filling → Base → Base
name_in (of_term term.Null) otherwise = otherwise
name_in (of_term (term.At name fields)) otherwise = name
name_in (of_truth truth) otherwise = otherwise

-- a name of a set
abbrev pub filled_set : (Base → Filling) → ℕ → Base → Base
filled_set put depth name = name_in (put_under put depth name) name

abbrev pub filled_arg : (Base → Filling) → ℕ → Arg → Arg
filled_arg put depth (arg.Cell t) = arg.Cell (filled_term put depth t)
filled_arg put depth (arg.Set name) = arg.Set (filled_set put depth name)
filled_arg put depth (arg.Truth t) = arg.Truth (filled_term put depth t)

-- ---- assertions

-- one form filled, by its parts filled; what a quantifier governs stands under one more
abbrev pub filled_node : (Base → Filling) → Assertion-F (ℕ → Assertion) → ℕ → Assertion
filled_node put Assertion-F.True depth = assertion.True
filled_node put Assertion-F.False depth = assertion.False
filled_node put (Assertion-F.Truth t) depth = filled_truth put depth t
filled_node put (Assertion-F.Is t v) depth = assertion.Is (filled_term put depth t) v
filled_node put (Assertion-F.Same t u) depth = assertion.Same (filled_term put depth t) (filled_term put depth u)
filled_node put (Assertion-F.Member t set) depth = assertion.Member (filled_term put depth t) (filled_set put depth set)
filled_node put (Assertion-F.Subset set other) depth = assertion.Subset (filled_set put depth set) (filled_set put depth other)
filled_node put (Assertion-F.Walk t along u) depth = assertion.Walk (filled_term put depth t) along (filled_term put depth u)
filled_node put (Assertion-F.Pred k args) depth = assertion.Pred k (map (filled_arg put depth) args)
filled_node put (Assertion-F.Not a) depth = assertion.Not (a depth)
filled_node put (Assertion-F.And a b) depth = assertion.And (a depth) (b depth)
filled_node put (Assertion-F.Or a b) depth = assertion.Or (a depth) (b depth)
filled_node put (Assertion-F.Imp a b) depth = assertion.Imp (a depth) (b depth)
filled_node put (Assertion-F.Iff a b) depth = assertion.Iff (a depth) (b depth)
filled_node put (Assertion-F.Ex ty a) depth = assertion.Ex ty (a (suc depth))
filled_node put (Assertion-F.All ty a) depth = assertion.All ty (a (suc depth))
filled_node put (Assertion-F.ExSet ty a) depth = assertion.ExSet ty (a (suc depth))
filled_node put (Assertion-F.AllSet ty a) depth = assertion.AllSet ty (a (suc depth))

-- the assertion, where it stands under so many quantifiers of the whole, with something put in for its names
abbrev pub filled : (Base → Filling) → Assertion → ℕ → Assertion
filled put = fold-Assertion (ℕ → Assertion) (filled_node put)

-- the body of a predicate with its arguments put in
abbrev pub put_in : List Arg → Assertion → Assertion
put_in args body = filled (args_for args) body 0
