-- What a text says. (Weak monadic second-order logic of two successors: Thatcher and Wright 1968; the spellings are
-- those of MONA: Klarlund and Møller, MONA Version 1.4 User Manual.) The logic is classical.
use Rattle.std.specs.Prelude.{◌≡◌, ℕ, suc, Bool, true, false, IsTrue, ◌↔◌, ◌⊎◌, ◌==◌, List, [], ◌∷◌, ◌++◌, map, fold, slice_get, All, Option, Some, None}
use Rattle.gta_theory.specs.Assignments.{Position, PositionSet, Assignment, IsFiniteSet, IsOnly, no_positions}
use Rattle.ws2s_syntax.specs.declared.name.Name.{Name}
use Rattle.ws2s_syntax.specs.declared.name.Name.TheVariants.{Free, Local}
use Rattle.ws2s_syntax.specs.declared.name.Successor.{Successor}
use Rattle.ws2s_syntax.specs.declared.name.Successor.TheVariants.{Zero, One}
use Rattle.ws2s_syntax.specs.declared.name.Base.{Base}
use Rattle.ws2s_syntax.specs.declared.name.Base.TheVariants.{Root, Variable}
use Rattle.ws2s_syntax.specs.declared.name.Term.{Term}
use Rattle.ws2s_syntax.specs.declared.name.Argument.{Argument}
use Rattle.ws2s_syntax.specs.declared.formula.Atom.{Atom}
use Rattle.ws2s_syntax.specs.declared.formula.Connective.{Connective}
use Rattle.ws2s_syntax.specs.declared.formula.Quantifier.{Quantifier}
use Rattle.ws2s_syntax.specs.Sentences.{Sentence, said, negated, implied, joined, quantified, sentence_of}
use Rattle.ws2s_syntax.specs.declared.declaration.Class.{Class}
use Rattle.ws2s_syntax.specs.Checked.{Text, free_classes}

-- what a name stands for
pub data Value : Type 0 where
  place : Position → Value
  places : PositionSet → Value

-- what the visible names stand for: the text's free variables, and the names of the item itself
pub record Env : Type 0 where
  pub free : List Value
  pub local : List Value

abbrev pub value_of : Env → Name → Option Value
value_of env (Free i) = slice_get env.free i
value_of env (Local k) = slice_get env.local k

-- the position, of a name that stands for one; where a text is checked no other is asked for one
abbrev pub position_in : Option Value → Position
position_in None = []
position_in (Some (place u)) = u
position_in (Some (places set)) = []

-- the set, likewise
abbrev pub set_in : Option Value → PositionSet
set_in None = no_positions
set_in (Some (place u)) = no_positions
set_in (Some (places set)) = set

abbrev pub set_of : Env → Name → PositionSet
set_of env x = set_in (value_of env x)

abbrev pub position_of_base : Env → Base → Position
position_of_base env Root = []
position_of_base env (Variable x) = position_in (value_of env x)

-- the letter that leads to a child
abbrev pub letter_of : Successor → Bool
letter_of Zero = false
letter_of One = true

-- the child of a position
abbrev pub child : Position → Successor → Position
child u successor = u ++ letter_of successor ∷ []

-- the position that a term stands for: from its base, one child after the other
abbrev pub position_of : Env → Term → Position
position_of env t = fold child (position_of_base env t.base) t.steps

abbrev pub argument_value : Env → Argument → Value
argument_value env (Argument.Position t) = place (position_of env t)
argument_value env (Argument.Set x) = places (set_of env x)

-- what predicates mean: when the one with a number holds of values
abbrev pub Predicates : Type 1
Predicates = ℕ → List Value → Type 0

abbrev pub MeansAtom : Predicates → Env → Atom → Type 0
MeansAtom known env (Atom.Truth b) = IsTrue b
MeansAtom known env (Atom.Empty x) = (p : Position) → ¬ IsTrue (set_of env x p)
MeansAtom known env (Atom.In t x) = IsTrue (set_of env x (position_of env t))
MeansAtom known env (Atom.SamePosition t u) = position_of env t ≡ position_of env u
MeansAtom known env (Atom.SameSet x y) = (p : Position) → IsTrue (set_of env x p) ↔ IsTrue (set_of env y p)
MeansAtom known env (Atom.Sub x y) = (p : Position) → IsTrue (set_of env x p) → IsTrue (set_of env y p)
MeansAtom known env (Atom.Use predicate args) = known predicate (map (argument_value env) args)

-- the claim, by classical logic: it can't fail
abbrev pub Classically : Type 0 → Type 0
Classically P = ¬ ¬ P

-- one name more, which stands for this
abbrev pub with_value : Env → Value → Env
with_value env v = record { free = env.free; local = env.local ++ v ∷ [] }

-- the sentence holds where its names stand for these values
abbrev pub Means : Predicates → Env → Sentence → Type 0
Means known env (said a) = MeansAtom known env a
Means known env (negated s) = ¬ Means known env s
Means known env (implied s t) = Means known env s → Classically (Means known env t)
Means known env (joined Connective.And s t) = Means known env s × Means known env t
Means known env (joined Connective.Or s t) = Classically (Means known env s ⊎ Means known env t)
Means known env (joined Connective.Iff s t) =
    (Means known env s → Classically (Means known env t)) × (Means known env t → Classically (Means known env s))
Means known env (quantified Quantifier.Ex1 s) = (u : Position) × Means known (with_value env (place u)) s
Means known env (quantified Quantifier.All1 s) = (u : Position) → Classically (Means known (with_value env (place u)) s)
Means known env (quantified Quantifier.Ex2 s) =
    (set : PositionSet) × IsFiniteSet set × Means known (with_value env (places set)) s
Means known env (quantified Quantifier.All2 s) =
    (set : PositionSet) → IsFiniteSet set → Classically (Means known (with_value env (places set)) s)

-- no predicate is known
abbrev pub no_predicates : Predicates
no_predicates predicate args = ⊥

-- one predicate more: the number n has this meaning
abbrev pub with_predicate : Predicates → ℕ → (List Value → Type 0) → Predicates
with_predicate known n meaning predicate args = elim (predicate == n) [ true ↦ meaning args | false ↦ known predicate args ]

-- the meanings of predicates, each body by those before it, where n are known
abbrev pub predicates_from : List Value → Predicates → ℕ → List Sentence → Predicates
predicates_from free known n [] = known
predicates_from free known n (body ∷ bodies) =
    predicates_from free
    (with_predicate known n (λ args. Means known (record { free = free; local = args }) body)) (suc n) bodies

abbrev pub bodies_of : Text → List Sentence
bodies_of text = map (λ p. sentence_of p.body) text.predicates

-- what the text's predicates mean, where its free variables stand for these values
abbrev pub predicates_of : Text → List Value → Predicates
predicates_of text free = predicates_from free no_predicates 0 (bodies_of text)

-- every formula of the text holds where its free variables stand for these values
abbrev pub Satisfies : Text → List Value → Type 0
Satisfies text free =
    All (λ f. Means (predicates_of text free) (record { free = free; local = [] }) (sentence_of f)) text.formulas

-- the set that an assignment has for a variable is what the variable stands for: the one position, or the set itself
abbrev pub IsGiven : PositionSet → Class → Value → Type 0
IsGiven given Class.Position (place u) = IsOnly given u
IsGiven given Class.Position (places set) = ⊥
IsGiven given Class.Set (place u) = ⊥
IsGiven given Class.Set (places set) = given ≡ set

-- the assignment gives the variables of these classes, numbered from n, these values
abbrev pub GivesFrom : Assignment → ℕ → List Class → List Value → Type 0
GivesFrom a n [] [] = Unit {0}
GivesFrom a n [] (v ∷ values) = ⊥
GivesFrom a n (c ∷ classes) [] = ⊥
GivesFrom a n (c ∷ classes) (v ∷ values) = IsGiven (a n) c v × GivesFrom a (suc n) classes values

-- the assignment, with the set of each free variable under its number, gives each `var1` one position, and the free
-- variables stand for these values
abbrev pub Gives : Assignment → Text → List Value → Type 0
Gives a text free = GivesFrom a 0 (free_classes text) free
