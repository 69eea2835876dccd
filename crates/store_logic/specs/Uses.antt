-- Which names and predicates stand in an assertion, and when predicates can be put in.
use Rattle.std.specs.Prelude.{◌≡◌, ◌<◌, ℕ, suc, List, [], ◌∷◌, ◌++◌, length, slice_get, flat_map, IsSomeAnd, IfSome}
use Rattle.std.specs.List.{AllByRecursion}
use Rattle.store_core.specs.declared.value.Class.{Class}
use Rattle.store_core.specs.declared.value.Class.TheVariants as class
use Rattle.store_logic.specs.declared.term.Base.{Base}
use Rattle.store_logic.specs.declared.term.Base.TheVariants as base
use Rattle.store_logic.specs.declared.term.Term.{Term}
use Rattle.store_logic.specs.declared.term.Term.TheVariants as term
use Rattle.store_logic.specs.declared.arg.Arg.{Arg}
use Rattle.store_logic.specs.declared.arg.Arg.TheVariants as arg
use Rattle.store_logic.specs.declared.assertion.Assertion.{Assertion}
use Rattle.store_logic.specs.declared.assertion.Assertion.TheOpen.{Assertion-F}
use Rattle.store_logic.specs.declared.assertion.Assertion.TheFolds.{fold-Assertion}
use Rattle.store_logic.specs.declared.pred.PredDef.{PredDef}

-- ---- the names in an assertion

-- a name at a place, the class that the place needs, and how many quantifiers of the assertion stand around it
pub record NameUse : Type 0 where
  pub name : Base
  pub needs : Class
  pub depth : ℕ

-- the name of a term of this class; a name that fields follow is that of a cell
abbrev pub term_names : Class → Term → ℕ → List NameUse
term_names of term.Null depth = []
term_names of (term.At name []) depth = record { name = name; needs = of; depth = depth } ∷ []
term_names of (term.At name (f ∷ fields)) depth = record { name = name; needs = class.Reference; depth = depth } ∷ []

abbrev pub set_name : Base → ℕ → List NameUse
set_name name depth = record { name = name; needs = class.Set; depth = depth } ∷ []

abbrev pub arg_names : Arg → ℕ → List NameUse
arg_names (arg.Cell t) depth = term_names class.Reference t depth
arg_names (arg.Set name) depth = set_name name depth
arg_names (arg.Truth t) depth = term_names class.Truth t depth

abbrev pub names_of_node : Assertion-F (ℕ → List NameUse) → ℕ → List NameUse
names_of_node Assertion-F.True depth = []
names_of_node Assertion-F.False depth = []
names_of_node (Assertion-F.Truth t) depth = term_names class.Truth t depth
names_of_node (Assertion-F.Is t v) depth = term_names class.Reference t depth
names_of_node (Assertion-F.Same t u) depth = term_names class.Reference t depth ++ term_names class.Reference u depth
names_of_node (Assertion-F.Member t set) depth = term_names class.Reference t depth ++ set_name set depth
names_of_node (Assertion-F.Subset set other) depth = set_name set depth ++ set_name other depth
names_of_node (Assertion-F.Walk t along u) depth = term_names class.Reference t depth ++ term_names class.Reference u depth
names_of_node (Assertion-F.Pred k args) depth = flat_map (λ x. arg_names x depth) args
names_of_node (Assertion-F.Not a) depth = a depth
names_of_node (Assertion-F.And a b) depth = a depth ++ b depth
names_of_node (Assertion-F.Or a b) depth = a depth ++ b depth
names_of_node (Assertion-F.Imp a b) depth = a depth ++ b depth
names_of_node (Assertion-F.Iff a b) depth = a depth ++ b depth
names_of_node (Assertion-F.Ex ty a) depth = a (suc depth)
names_of_node (Assertion-F.All ty a) depth = a (suc depth)
names_of_node (Assertion-F.ExSet ty a) depth = a (suc depth)
names_of_node (Assertion-F.AllSet ty a) depth = a (suc depth)

-- the names that stand in an assertion
abbrev pub names_in : Assertion → List NameUse
names_in a = fold-Assertion (ℕ → List NameUse) names_of_node a 0

-- ---- the predicates in an assertion

abbrev pub uses_of_node : Assertion-F (List (ℕ × List Arg)) → List (ℕ × List Arg)
uses_of_node Assertion-F.True = []
uses_of_node Assertion-F.False = []
uses_of_node (Assertion-F.Truth t) = []
uses_of_node (Assertion-F.Is t v) = []
uses_of_node (Assertion-F.Same t u) = []
uses_of_node (Assertion-F.Member t set) = []
uses_of_node (Assertion-F.Subset set other) = []
uses_of_node (Assertion-F.Walk t along u) = []
uses_of_node (Assertion-F.Pred k args) = (k, args) ∷ []
uses_of_node (Assertion-F.Not a) = a
uses_of_node (Assertion-F.And a b) = a ++ b
uses_of_node (Assertion-F.Or a b) = a ++ b
uses_of_node (Assertion-F.Imp a b) = a ++ b
uses_of_node (Assertion-F.Iff a b) = a ++ b
uses_of_node (Assertion-F.Ex ty a) = a
uses_of_node (Assertion-F.All ty a) = a
uses_of_node (Assertion-F.ExSet ty a) = a
uses_of_node (Assertion-F.AllSet ty a) = a

-- the predicates that stand in an assertion, each with its arguments
abbrev pub uses_in : Assertion → List (ℕ × List Arg)
uses_in = fold-Assertion (List (ℕ × List Arg)) uses_of_node

-- ---- when predicates can be put in

abbrev pub arg_class : Arg → Class
arg_class (arg.Cell t) = class.Reference
arg_class (arg.Set name) = class.Set
arg_class (arg.Truth t) = class.Truth

-- a parameter gets an argument of the class that its place needs
abbrev pub GetsOfClass : List Arg → Class → Base → Type 0
GetsOfClass args needed (base.Var v) = Unit {0}
GetsOfClass args needed (base.Bound k) = Unit {0}
GetsOfClass args needed (base.Param k) = IsSomeAnd (slice_get args k) (λ x. arg_class x ≡ needed)

abbrev pub IsGiven : List Arg → NameUse → Type 0
IsGiven args n = GetsOfClass args n.needs n.name

-- a predicate among the first ones, as many as this, with as many arguments as it has parameters, each of the class in which
-- its body uses the parameter
pub record IsRightUse (preds : List PredDef) (first : ℕ) (u : ℕ × List Arg) : Type 0 where
  pub among : u.0 < first
  pub args : IsSomeAnd (slice_get preds u.0) (λ p. (length u.1 ≡ p.params) × AllByRecursion (IsGiven u.1) (names_in p.body))

-- a variable, a bound name of one of so many quantifiers, or one of so many parameters
abbrev pub IsAmong : ℕ → ℕ → Base → Type 0
IsAmong depth params (base.Var v) = Unit {0}
IsAmong depth params (base.Bound k) = k < depth
IsAmong depth params (base.Param k) = k < params

-- a parameter that the predicate has, a bound name of a quantifier in its body, or a variable
abbrev pub IsOwn : ℕ → NameUse → Type 0
IsOwn params n = IsAmong n.depth params n.name

-- a body uses predicates with smaller numbers alone, parameters that it has, and bound names of quantifiers in it
pub record IsBodyAt (preds : List PredDef) (k : ℕ) (p : PredDef) : Type 0 where
  pub uses : AllByRecursion (IsRightUse preds k) (uses_in p.body)
  pub names : AllByRecursion (IsOwn p.params) (names_in p.body)

-- the predicates can be put into the assertion
pub record CanExpand (preds : List PredDef) (a : Assertion) : Type 0 where
  pub bodies : (k : ℕ) → IfSome (slice_get preds k) (IsBodyAt preds k)
  pub uses : AllByRecursion (IsRightUse preds (length preds)) (uses_in a)
