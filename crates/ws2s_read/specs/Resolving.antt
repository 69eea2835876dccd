-- Names in source trees: what is visible where, and the first name or term at fault, from the left. Predicates and
-- variables share one name space.
use Rattle.std.specs.Prelude.{◌≡◌, ℕ, ◌-◌, ◌==◌, Bool, true, false, List, [], ◌∷◌, ◌++◌, length, map, Option, Some, None, is_some, Result, Ok, Err}
use Rattle.std.specs.Prelude.{if◌then◌else◌}
use Rattle.std.specs.Map.{lookup}
use Rattle.std.specs.Str.{bytes_eq}
use Rattle.pale_text.specs.declared.place.Pos.{Pos}
use Rattle.pale_text.specs.declared.refusal.Refusal.{Refusal}
use Rattle.pale_text.specs.declared.refusal.RefusalKind.{RefusalKind}
use Rattle.pale_text.specs.declared.refusal.RefusalKind.TheVariants as why
use Rattle.pale_text.specs.declared.refusal.TextStop.{TextStop}
use Rattle.pale_text.specs.declared.refusal.TextStop.TheVariants as stop
use Rattle.pale_text.specs.Refusals.{refused_at}
use Rattle.ws2s_syntax.specs.declared.name.Name.{Name}
use Rattle.ws2s_syntax.specs.declared.name.Name.TheVariants as name
use Rattle.ws2s_syntax.specs.declared.name.Successor.{Successor}
use Rattle.ws2s_syntax.specs.declared.name.Base.TheVariants as base
use Rattle.ws2s_syntax.specs.declared.name.Term.{Term}
use Rattle.ws2s_syntax.specs.declared.name.Argument.{Argument}
use Rattle.ws2s_syntax.specs.declared.name.Argument.TheVariants as argument
use Rattle.ws2s_syntax.specs.declared.declaration.Class.{Class}
use Rattle.ws2s_syntax.specs.declared.declaration.Class.TheVariants as class
use Rattle.ws2s_syntax.specs.declared.formula.Atom.{Atom}
use Rattle.ws2s_syntax.specs.declared.formula.Atom.TheVariants as atom
use Rattle.ws2s_syntax.specs.declared.formula.Connective.{Connective}
use Rattle.ws2s_syntax.specs.declared.formula.Quantifier.{Quantifier}
use Rattle.ws2s_syntax.specs.declared.formula.TextFormula.{TextFormula}
use Rattle.ws2s_syntax.specs.declared.formula.TextFormula.TheVariants as formula
use Rattle.ws2s_syntax.specs.declared.source.SourceName.{SourceName}
use Rattle.ws2s_syntax.specs.declared.source.SourceBase.{SourceBase}
use Rattle.ws2s_syntax.specs.declared.source.SourceBase.TheVariants as source_base
use Rattle.ws2s_syntax.specs.declared.source.SourceTerm.{SourceTerm}
use Rattle.ws2s_syntax.specs.declared.source.SourceFormula.{SourceFormula, out-SourceFormula}
use Rattle.ws2s_syntax.specs.declared.source.SourceFormula.TheOpen.{SourceFormula-F}
use Rattle.ws2s_syntax.specs.declared.source.SourceFormula.TheFolds.{fold-SourceFormula}
use Rattle.ws2s_syntax.specs.declared.source.SourceParameter.{SourceParameter}
use Rattle.ws2s_syntax.specs.declared.source.SourceItem.{SourceItem}
use Rattle.ws2s_syntax.specs.declared.source.SourceItem.TheVariants as item
use Rattle.ws2s_syntax.specs.declared.source.Source.{Source}
use Rattle.ws2s_read.specs.declared.names.Meaning.{Meaning}
use Rattle.ws2s_read.specs.declared.names.Meaning.TheVariants as meaning
use Rattle.ws2s_read.specs.declared.items.Stage.{Stage}
use Rattle.ws2s_syntax.specs.Checked.{Text, text_of, class_bound}

-- ---- refusals

-- what is found, or the refusal of the first fault
abbrev pub Found : Type 0 → Type 0
Found T = Result T Refusal

infixl 10 ◌>>=◌
-- looks further with what is found; a refusal is the last word
abbrev pub ◌>>=◌ : {A B : Type 0} → Found A → (A → Found B) → Found B
Ok a >>= next = next a
Err refusal >>= next = Err refusal

abbrev pub refused : {T : Type 0} → Pos → RefusalKind → Found T
refused place kind = Err (refused_at place kind)

-- what a stop says of what is to be found: a refusal is the one of the first fault, and want of memory says nothing
abbrev pub IsStop : {T : Type 0} → Found T → TextStop → Type 0
IsStop found (stop.Refused refusal) = found ≡ Err refusal
IsStop found stop.NoMemory = Unit {0}

-- ---- what is visible

-- the names that are visible at a place, in the order in which they became so, and what each stands for
abbrev pub Names : Type 0
Names = List (List ℕ × Meaning)

-- what a name stands for, where it is visible
abbrev pub meaning_of : Names → List ℕ → Option Meaning
meaning_of names bytes = lookup (bytes_eq bytes) names

abbrev pub known_as : SourceName → Option Meaning → Found Meaning
known_as x None = refused x.place why.Unknown
known_as x (Some meaning) = Ok meaning

-- what a name that is used stands for
unfoldable pub known : Names → SourceName → Found Meaning
known names x = known_as x (meaning_of names x.bytes)

-- the names, with one that is declared or bound
unfoldable pub declared : Names → SourceName → Meaning → Found Names
declared names x meaning =
    if is_some (meaning_of names x.bytes) then refused x.place why.Duplicate else Ok (names ++ (x.bytes, meaning) ∷ [])

-- ---- terms

-- the place of its first token
abbrev pub place_of_base : SourceBase → Pos
place_of_base (source_base.Root place) = place
place_of_base (source_base.Name x) = x.place

abbrev pub first_place : SourceTerm → Pos
first_place t = place_of_base t.base

abbrev pub as_variable : Pos → Meaning → Found (Name × Class)
as_variable place (meaning.Variable x c) = Ok (x, c)
as_variable place (meaning.Predicate p params) = refused place why.Kind

-- the variable of this name, and its class
unfoldable pub resolved_variable : Names → SourceName → Found (Name × Class)
resolved_variable names x = known names x >>= as_variable x.place

abbrev pub as_set : Pos → Name × Class → Found Name
as_set place (x, class.Position) = refused place why.Kind
as_set place (x, class.Set) = Ok x

-- the set of this name
unfoldable pub resolved_set : Names → SourceName → Found Name
resolved_set names x = resolved_variable names x >>= as_set x.place

-- the term that begins with this variable; a set has no successor
abbrev pub from_variable : Pos → List Successor → Name × Class → Found Argument
from_variable place steps (x, class.Position) = Ok (argument.Position (record { base = base.Variable x; steps = steps }))
from_variable place [] (x, class.Set) = Ok (argument.Set x)
from_variable place (step ∷ steps) (x, class.Set) = refused place why.Kind

unfoldable pub resolved_named : Names → SourceName → List Successor → Found Argument
resolved_named names x steps = resolved_variable names x >>= from_variable x.place steps

abbrev pub resolved_from : Names → SourceBase → List Successor → Found Argument
resolved_from names (source_base.Root place) steps = Ok (argument.Position (record { base = base.Root; steps = steps }))
resolved_from names (source_base.Name x) steps = resolved_named names x steps

-- what a term stands for, a position or a set
unfoldable pub resolved_side : Names → SourceTerm → Found Argument
resolved_side names t = resolved_from names t.base t.steps

abbrev pub as_position_side : Pos → Argument → Found Term
as_position_side place (argument.Position t) = Ok t
as_position_side place (argument.Set x) = refused place why.Kind

abbrev pub as_set_side : Pos → Argument → Found Name
as_set_side place (argument.Position t) = refused place why.Kind
as_set_side place (argument.Set x) = Ok x

-- the term, where a position is wanted
unfoldable pub resolved_position : Names → SourceTerm → Found Term
resolved_position names t = resolved_side names t >>= as_position_side (first_place t)

-- the term, where a set is wanted
unfoldable pub resolved_set_side : Names → SourceTerm → Found Name
resolved_set_side names t = resolved_side names t >>= as_set_side (first_place t)

abbrev pub as_argument : Class → Pos → Argument → Found Argument
as_argument class.Position place (argument.Position t) = Ok (argument.Position t)
as_argument class.Position place (argument.Set x) = refused place why.Kind
as_argument class.Set place (argument.Position t) = refused place why.Kind
as_argument class.Set place (argument.Set x) = Ok (argument.Set x)

-- the term as an argument for a parameter of this class
unfoldable pub resolved_argument : Names → Class → SourceTerm → Found Argument
resolved_argument names c t = resolved_side names t >>= as_argument c (first_place t)

-- ---- formulas without parts

unfoldable pub resolved_empty : Names → SourceName → Found Atom
resolved_empty names x = do
  set ← resolved_set names x
  Ok (atom.Empty set)

unfoldable pub resolved_in : Names → SourceTerm → SourceName → Found Atom
resolved_in names t x = do
  position ← resolved_position names t
  set ← resolved_set names x
  Ok (atom.In position set)

unfoldable pub resolved_sub : Names → SourceTerm → SourceName → Found Atom
resolved_sub names t x = do
  inner ← resolved_set_side names t
  outer ← resolved_set names x
  Ok (atom.Sub inner outer)

-- two positions or two sets; a right side of the other class is at fault
abbrev pub as_same : Pos → Argument → Argument → Found Atom
as_same place (argument.Position t) (argument.Position u) = Ok (atom.SamePosition t u)
as_same place (argument.Position t) (argument.Set y) = refused place why.Kind
as_same place (argument.Set x) (argument.Position u) = refused place why.Kind
as_same place (argument.Set x) (argument.Set y) = Ok (atom.SameSet x y)

unfoldable pub resolved_same : Names → SourceTerm → SourceTerm → Found Atom
resolved_same names t u = do
  left ← resolved_side names t
  right ← resolved_side names u
  as_same (first_place u) left right

-- the arguments in order, for parameters of these classes
abbrev pub resolved_arguments : Names → List Class → List SourceTerm → Found (List Argument)
resolved_arguments names [] terms = Ok []
resolved_arguments names (c ∷ params) [] = Ok []
resolved_arguments names (c ∷ params) (t ∷ terms) =
    resolved_argument names c t >>= λ first. resolved_arguments names params terms >>= λ others. Ok (first ∷ others)

-- a use of what a name stands for: as many arguments as parameters come first, and then each argument
abbrev pub as_use : Names → Pos → List SourceTerm → Meaning → Found Atom
as_use names place terms (meaning.Variable x c) = refused place why.Kind
as_use names place terms (meaning.Predicate p params) =
    if length params == length terms then (resolved_arguments names params terms >>= λ args. Ok (atom.Use p args)) else refused place why.Arity

unfoldable pub resolved_use : Names → SourceName → List SourceTerm → Found Atom
resolved_use names x terms = known names x >>= as_use names x.place terms

-- ---- formulas

-- a name of an item itself stands for its place among the item's names that are visible, where `outer` names are
-- visible outside of the item
unfoldable pub bound : ℕ → Class → SourceName → Names → Found Names
bound outer c x names = declared names x (meaning.Variable (name.Local (length names - outer)) c)

-- the names with those that a quantifier binds, in order
abbrev pub all_bound : ℕ → Class → List SourceName → Names → Found Names
all_bound outer c [] names = Ok names
all_bound outer c (x ∷ bound_names) names = bound outer c x names >>= all_bound outer c bound_names

-- how a formula is resolved where these names are visible
abbrev pub Resolving : Type 0
Resolving = Names → Found TextFormula

abbrev pub each_resolved : Names → List Resolving → Found (List TextFormula)
each_resolved names [] = Ok []
each_resolved names (f ∷ formulas) =
    f names >>= λ first. each_resolved names formulas >>= λ others. Ok (first ∷ others)

-- an atom as it is, and what denies it
abbrev pub stated : Atom → Found TextFormula
stated a = Ok (formula.Atom a)

abbrev pub denied : Atom → Found TextFormula
denied a = Ok (formula.Not (formula.Atom a))

abbrev pub resolved_differ : Names → SourceTerm → SourceTerm → Found TextFormula
resolved_differ names t u = resolved_same names t u >>= denied

abbrev pub resolved_not_in : Names → SourceTerm → SourceName → Found TextFormula
resolved_not_in names t x = resolved_in names t x >>= denied

-- the right side of an implication, whose left side is resolved
abbrev pub resolved_right : TextFormula → Resolving → Resolving
resolved_right left g names = g names >>= λ right. Ok (formula.Implies left right)

-- the others of a chain, whose first is resolved
abbrev pub resolved_others : Connective → TextFormula → List Resolving → Resolving
resolved_others c first others names = each_resolved names others >>= λ rest. Ok (formula.Chain c first rest)

-- a quantifier's names come first, and are visible in what it governs alone
abbrev pub resolved_quantified : ℕ → Quantifier → List SourceName → Resolving → Resolving
resolved_quantified outer q bound_names f names =
    all_bound outer (class_bound q) bound_names names >>= λ inside. f inside >>= λ inner. Ok (formula.Quantified q (length bound_names) inner)

-- the parts from the left
abbrev pub resolved_node : ℕ → SourceFormula-F Resolving → Resolving
resolved_node outer (SourceFormula-F.Truth b) names = Ok (formula.Atom (atom.Truth b))
resolved_node outer (SourceFormula-F.Empty x) names = resolved_empty names x >>= stated
resolved_node outer (SourceFormula-F.Same t u) names = resolved_same names t u >>= stated
resolved_node outer (SourceFormula-F.Differ t u) names = resolved_differ names t u
resolved_node outer (SourceFormula-F.In t x) names = resolved_in names t x >>= stated
resolved_node outer (SourceFormula-F.NotIn t x) names = resolved_not_in names t x
resolved_node outer (SourceFormula-F.Sub t x) names = resolved_sub names t x >>= stated
resolved_node outer (SourceFormula-F.Use p terms) names = resolved_use names p terms >>= stated
resolved_node outer (SourceFormula-F.Not f) names = f names >>= λ inner. Ok (formula.Not inner)
resolved_node outer (SourceFormula-F.Implies f g) names = f names >>= λ left. resolved_right left g names
resolved_node outer (SourceFormula-F.Chain c f others) names = f names >>= λ first. resolved_others c first others names
resolved_node outer (SourceFormula-F.Quantified q bound_names f) names = resolved_quantified outer q bound_names f names

-- whether a formula has parts
abbrev pub has_parts_in : {Part : Type 0} → SourceFormula-F Part → Bool
has_parts_in (SourceFormula-F.Truth b) = false
has_parts_in (SourceFormula-F.Empty x) = false
has_parts_in (SourceFormula-F.Same t u) = false
has_parts_in (SourceFormula-F.Differ t u) = false
has_parts_in (SourceFormula-F.In t x) = false
has_parts_in (SourceFormula-F.NotIn t x) = false
has_parts_in (SourceFormula-F.Sub t x) = false
has_parts_in (SourceFormula-F.Use p terms) = false
has_parts_in (SourceFormula-F.Not f) = true
has_parts_in (SourceFormula-F.Implies f g) = true
has_parts_in (SourceFormula-F.Chain c f others) = true
has_parts_in (SourceFormula-F.Quantified q bound_names f) = true

abbrev pub has_parts : SourceFormula → Bool
has_parts f = has_parts_in (out-SourceFormula f)

-- a formula of an item, outside of which `outer` names are visible
unfoldable pub resolved_formula : ℕ → SourceFormula → Resolving
resolved_formula outer = fold-SourceFormula Resolving (resolved_node outer)

-- ---- items

abbrev pub stands_for_set : Class → Bool
stands_for_set class.Position = false
stands_for_set class.Set = true

-- one free variable more
unfoldable pub with_variable : Class → SourceName → Stage → Found Stage
with_variable c x stage =
    declared stage.names x (meaning.Variable (name.Free (length stage.free)) c) >>= λ names.
    Ok (record stage { names = names; free = stage.free ++ record { name = x.bytes; set = stands_for_set c } ∷ [] })

abbrev pub with_variables : Class → List SourceName → Stage → Found Stage
with_variables c [] stage = Ok stage
with_variables c (x ∷ others) stage = with_variable c x stage >>= with_variables c others

abbrev pub parameters_bound : ℕ → List SourceParameter → Names → Found Names
parameters_bound outer [] names = Ok names
parameters_bound outer (p ∷ others) names = bound outer p.class p.name names >>= parameters_bound outer others

abbrev pub classes_of : List SourceParameter → List Class
classes_of parameters = map (λ p. p.class) parameters

-- a predicate's body, where its parameters are visible
unfoldable pub resolved_body : List SourceParameter → SourceFormula → Resolving
resolved_body parameters body names =
    parameters_bound (length names) parameters names >>= resolved_formula (length names) body

-- one predicate more: its name, its parameters, and its body, in which its own name isn't visible
unfoldable pub with_predicate : SourceName → List SourceParameter → SourceFormula → Stage → Found Stage
with_predicate x parameters body stage =
    declared stage.names x (meaning.Predicate (length stage.predicates) (classes_of parameters)) >>= λ names.
    resolved_body parameters body stage.names >>= λ f.
    Ok (record stage { names = names; predicates = stage.predicates ++ record { params = classes_of parameters; body = f } ∷ [] })

-- one formula more
unfoldable pub with_formula : SourceFormula → Stage → Found Stage
with_formula f stage =
    resolved_formula (length stage.names) f stage.names >>= λ formula.
    Ok (record stage { formulas = stage.formulas ++ formula ∷ [] })

abbrev pub with_item : SourceItem → Stage → Found Stage
with_item (item.Variables c names) stage = with_variables c names stage
with_item (item.Predicate x parameters body) stage = with_predicate x parameters body stage
with_item (item.Formula f) stage = with_formula f stage

-- the items in order, each where the ones before it are declared
abbrev pub with_items : List SourceItem → Stage → Found Stage
with_items [] stage = Ok stage
with_items (item ∷ items) stage = with_item item stage >>= with_items items

abbrev pub nothing : Stage
nothing = record { names = []; free = []; predicates = []; formulas = [] }

-- the text that a source tree is, or its first fault
unfoldable pub resolved : Source → Found Text
resolved source = with_items source.items nothing >>= λ stage. Ok (text_of stage.free stage.predicates stage.formulas)
