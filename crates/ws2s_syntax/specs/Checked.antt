-- Which trees are those of texts: every name is in scope and of the class that its place needs.
use Rattle.std.specs.Prelude.{◌^◌, Bool, true, false, ◌&&◌, IsTrue, nat_le, if◌then◌else◌, List, [], ◌∷◌, ◌++◌, length, map, slice_get, Option, Some, None}
use Rattle.std.specs.List.{list_all}
use Rattle.ws2s_syntax.specs.declared.name.Name.{Name}
use Rattle.ws2s_syntax.specs.declared.name.Name.TheVariants.{Free, Local}
use Rattle.ws2s_syntax.specs.declared.name.Base.{Base}
use Rattle.ws2s_syntax.specs.declared.name.Base.TheVariants.{Root, Variable}
use Rattle.ws2s_syntax.specs.declared.name.Term.{Term}
use Rattle.ws2s_syntax.specs.declared.name.Argument.{Argument}
use Rattle.ws2s_syntax.specs.declared.declaration.Class.{Class}
use Rattle.ws2s_syntax.specs.declared.declaration.Free as declared_free
use Rattle.ws2s_syntax.specs.declared.declaration.Predicate.{Predicate}
use Rattle.ws2s_syntax.specs.declared.formula.Atom.{Atom}
use Rattle.ws2s_syntax.specs.declared.formula.Quantifier.{Quantifier}
use Rattle.ws2s_syntax.specs.declared.formula.TextFormula.{TextFormula}
use Rattle.ws2s_syntax.specs.Sentences.{Sentence, said, negated, implied, joined, quantified, sentence_of}

-- what a text consists of
pub record Text : Type 0 where
  pub free : List declared_free.Free
  pub predicates : List Predicate
  pub formulas : List TextFormula

abbrev pub text_of : List declared_free.Free → List Predicate → List TextFormula → Text
text_of free predicates formulas = record { free = free; predicates = predicates; formulas = formulas }

-- the classes of the names that are visible at a place: the text's free variables, and the names of the item itself
pub record Scope : Type 0 where
  pub free : List Class
  pub local : List Class

-- the class of a name, where it is visible
abbrev pub class_of : Scope → Name → Option Class
class_of scope (Free i) = slice_get scope.free i
class_of scope (Local k) = slice_get scope.local k

abbrev pub is_position_class : Option Class → Bool
is_position_class None = false
is_position_class (Some Class.Position) = true
is_position_class (Some Class.Set) = false

abbrev pub is_set_class : Option Class → Bool
is_set_class None = false
is_set_class (Some Class.Position) = false
is_set_class (Some Class.Set) = true

-- the name is visible and stands for a set
abbrev pub is_set : Scope → Name → Bool
is_set scope x = is_set_class (class_of scope x)

-- the name is visible and stands for a position
abbrev pub is_position : Scope → Name → Bool
is_position scope x = is_position_class (class_of scope x)

abbrev pub is_base : Scope → Base → Bool
is_base scope Root = true
is_base scope (Variable x) = is_position scope x

-- the term is a position in this scope
abbrev pub is_term : Scope → Term → Bool
is_term scope t = is_base scope t.base

-- the argument fits a parameter of that class
abbrev pub is_argument : Scope → Class → Argument → Bool
is_argument scope Class.Position (Argument.Position t) = is_term scope t
is_argument scope Class.Position (Argument.Set x) = false
is_argument scope Class.Set (Argument.Position t) = false
is_argument scope Class.Set (Argument.Set x) = is_set scope x

-- as many arguments as parameters, each of the class of its parameter
abbrev pub are_arguments : Scope → List Class → List Argument → Bool
are_arguments scope [] [] = true
are_arguments scope [] (arg ∷ args) = false
are_arguments scope (c ∷ params) [] = false
are_arguments scope (c ∷ params) (arg ∷ args) = is_argument scope c arg && are_arguments scope params args

-- the same, of a predicate that may be missing
abbrev pub are_arguments_of : Scope → Option (List Class) → List Argument → Bool
are_arguments_of scope None args = false
are_arguments_of scope (Some params) args = are_arguments scope params args

-- the atom uses visible names of the right classes, and one of the predicates with these parameters
abbrev pub is_atom : List (List Class) → Scope → Atom → Bool
is_atom signatures scope (Atom.Truth b) = true
is_atom signatures scope (Atom.Empty x) = is_set scope x
is_atom signatures scope (Atom.In t x) = is_term scope t && is_set scope x
is_atom signatures scope (Atom.SamePosition t u) = is_term scope t && is_term scope u
is_atom signatures scope (Atom.SameSet x y) = is_set scope x && is_set scope y
is_atom signatures scope (Atom.Sub x y) = is_set scope x && is_set scope y
is_atom signatures scope (Atom.Use p args) = are_arguments_of scope (slice_get signatures p) args

-- what a quantifier's name stands for
abbrev pub class_bound : Quantifier → Class
class_bound Quantifier.Ex1 = Class.Position
class_bound Quantifier.All1 = Class.Position
class_bound Quantifier.Ex2 = Class.Set
class_bound Quantifier.All2 = Class.Set

-- the scope with one more name of the item itself
abbrev pub with_class : Scope → Class → Scope
with_class scope c = record { free = scope.free; local = scope.local ++ c ∷ [] }

abbrev pub is_sentence : List (List Class) → Scope → Sentence → Bool
is_sentence signatures scope (said a) = is_atom signatures scope a
is_sentence signatures scope (negated s) = is_sentence signatures scope s
is_sentence signatures scope (implied s t) = is_sentence signatures scope s && is_sentence signatures scope t
is_sentence signatures scope (joined c s t) = is_sentence signatures scope s && is_sentence signatures scope t
is_sentence signatures scope (quantified q s) = is_sentence signatures (with_class scope (class_bound q)) s

-- each predicate's body is checked, in the scope of its parameters, and uses those before it alone
abbrev pub are_predicates : List Class → List (List Class) → List Predicate → Bool
are_predicates free signatures [] = true
are_predicates free signatures (p ∷ predicates) =
    is_sentence signatures (record { free = free; local = p.params }) (sentence_of p.body)
    && are_predicates free (signatures ++ p.params ∷ []) predicates

abbrev pub class_of_free : declared_free.Free → Class
class_of_free variable = if variable.set then Class.Set else Class.Position

abbrev pub free_classes : Text → List Class
free_classes text = map class_of_free text.free

abbrev pub signatures_of : Text → List (List Class)
signatures_of text = map (λ p. p.params) text.predicates

-- the tree of a text
abbrev pub is_checked : Text → Bool
is_checked text =
    are_predicates (free_classes text) [] text.predicates
    && list_all (λ f. is_sentence (signatures_of text) (record { free = free_classes text; local = [] }) (sentence_of f))
    text.formulas

-- a tree of a text; a text of fewer than 2 ^ 32 bytes declares no more than 2 ^ 31 variables
pub record IsChecked (text : Text) : Type 0 where
  pub names : IsTrue (is_checked text)
  pub few : IsTrue (nat_le (length text.free) (2 ^ 31))
