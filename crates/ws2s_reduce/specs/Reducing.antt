-- The reduction of a checked text to core formulas. A quantifier, of the text or of an abbreviation, binds the next
-- track: those of the free variables come first, and each quantifier around it took one.
use Rattle.std.specs.Prelude.{ℕ, suc, true, false, cond, ◌==◌, List, [], ◌∷◌, ◌++◌, length, map, reverse, slice_get, unwrap_or, Option, Some, None}
use Rattle.ws2s_core.specs.declared.formula.Formula.{Formula}
use Rattle.ws2s_core.specs.declared.formula.Formula.TheVariants.{Sub, Single, Succ0, Succ1, Root, And, Not, Ex2}
use Rattle.ws2s_forms.specs.Forms.{track, false_at, true_at, and_list, or, imp, iff, ex1, all1, all2, empty_at, equal}
use Rattle.ws2s_syntax.specs.declared.name.Name.{Name}
use Rattle.ws2s_syntax.specs.declared.name.Name.TheVariants.{Free, Local}
use Rattle.ws2s_syntax.specs.declared.name.Successor.{Successor}
use Rattle.ws2s_syntax.specs.declared.name.Successor.TheVariants.{Zero, One}
use Rattle.ws2s_syntax.specs.declared.name.Base.{Base}
use Rattle.ws2s_syntax.specs.declared.name.Term.{Term}
use Rattle.ws2s_syntax.specs.declared.name.Argument.{Argument}
use Rattle.ws2s_syntax.specs.declared.formula.Atom.{Atom}
use Rattle.ws2s_syntax.specs.declared.formula.Connective.{Connective}
use Rattle.ws2s_syntax.specs.declared.formula.Quantifier.{Quantifier}
use Rattle.ws2s_syntax.specs.declared.declaration.Class.{Class}
use Rattle.ws2s_syntax.specs.Sentences.{Sentence, said, negated, implied, joined, quantified, sentence_of}
use Rattle.ws2s_syntax.specs.Checked.{Text, free_classes}
use Rattle.ws2s_syntax.specs.Meaning.{bodies_of}

-- the track of a name, where the names of the item itself have these tracks: a free variable's is its number
abbrev pub track_of : List ℕ → Name → ℕ
track_of tracks (Free i) = i
track_of tracks (Local k) = unwrap_or (slice_get tracks k) 0

abbrev pub succ_of : Successor → ℕ → ℕ → Formula
succ_of Zero x y = Succ0 (track x) (track y)
succ_of One x y = Succ1 (track x) (track y)

abbrev pub is_base_at : List ℕ → Base → ℕ → Formula
is_base_at tracks Base.Root a = Root (track a)
is_base_at tracks (Base.Variable x) a = And (Single (track a)) (Sub (track a) (track (track_of tracks x)))

-- the track `a` is the position of a base and successors, the one that is taken last in front
abbrev pub is_stepped_at : ℕ → List ℕ → Base → List Successor → ℕ → Formula
is_stepped_at next tracks base [] a = is_base_at tracks base a
is_stepped_at next tracks base (step ∷ earlier) a =
    Ex2 (track next) (And (is_stepped_at (suc next) tracks base earlier next) (succ_of step next a))

-- the track `a` is the position of the term
abbrev pub is_at : ℕ → List ℕ → Term → ℕ → Formula
is_at next tracks t a = is_stepped_at next tracks t.base (reverse t.steps) a

-- the name that a term is, where it is no more than a name
abbrev pub plain_name : Base → List Successor → Option Name
plain_name Base.Root steps = None
plain_name (Base.Variable x) [] = Some x
plain_name (Base.Variable x) (step ∷ steps) = None

-- reductions of predicates: of the one with a number, at the next track, for the tracks of its parameters
abbrev pub Reductions : Type 0
Reductions = ℕ → ℕ → List ℕ → Formula

-- a term for a parameter: a name is put in, and another term bound around the rest; `given` are the tracks so far
abbrev pub passed_term : Option Name → Term → ℕ → List ℕ → List ℕ → (ℕ → List ℕ → Formula) → Formula
passed_term (Some x) t next tracks given rest = rest next (given ++ track_of tracks x ∷ [])
passed_term None t next tracks given rest =
    Ex2 (track next) (And (is_at (suc next) tracks t next) (rest (suc next) (given ++ next ∷ [])))

-- an argument for a parameter
abbrev pub passed : Argument → ℕ → List ℕ → List ℕ → (ℕ → List ℕ → Formula) → Formula
passed (Argument.Set x) next tracks given rest = rest next (given ++ track_of tracks x ∷ [])
passed (Argument.Position t) next tracks given rest = passed_term (plain_name t.base t.steps) t next tracks given rest

-- a predicate's use: the arguments, from the left, and then the body for their tracks
abbrev pub used : (ℕ → List ℕ → Formula) → ℕ → List ℕ → List Argument → List ℕ → Formula
used body next tracks [] given = body next given
used body next tracks (arg ∷ args) given =
    passed arg next tracks given (λ after with_arg. used body after tracks args with_arg)

abbrev pub atom_at : Reductions → ℕ → List ℕ → Atom → Formula
atom_at known next tracks (Atom.Truth true) = true_at next
atom_at known next tracks (Atom.Truth false) = false_at next
atom_at known next tracks (Atom.Empty x) = empty_at next (track_of tracks x)
atom_at known next tracks (Atom.In t x) =
    Ex2 (track next) (And (is_at (suc next) tracks t next) (Sub (track next) (track (track_of tracks x))))
atom_at known next tracks (Atom.SamePosition t u) =
    Ex2 (track next) (And (is_at (suc next) tracks t next) (is_at (suc next) tracks u next))
atom_at known next tracks (Atom.SameSet x y) = equal (track_of tracks x) (track_of tracks y)
atom_at known next tracks (Atom.Sub x y) = Sub (track (track_of tracks x)) (track (track_of tracks y))
atom_at known next tracks (Atom.Use predicate args) = used (known predicate) next tracks args []

-- a sentence's reduction, where its item's names have these tracks
abbrev pub reduced : Reductions → ℕ → List ℕ → Sentence → Formula
reduced known next tracks (said a) = atom_at known next tracks a
reduced known next tracks (negated s) = Not (reduced known next tracks s)
reduced known next tracks (implied s t) = imp (reduced known next tracks s) (reduced known next tracks t)
reduced known next tracks (joined Connective.And s t) = And (reduced known next tracks s) (reduced known next tracks t)
reduced known next tracks (joined Connective.Or s t) = or (reduced known next tracks s) (reduced known next tracks t)
reduced known next tracks (joined Connective.Iff s t) = iff (reduced known next tracks s) (reduced known next tracks t)
reduced known next tracks (quantified Quantifier.Ex1 s) = ex1 next (reduced known (suc next) (tracks ++ next ∷ []) s)
reduced known next tracks (quantified Quantifier.All1 s) = all1 next (reduced known (suc next) (tracks ++ next ∷ []) s)
reduced known next tracks (quantified Quantifier.Ex2 s) =
    Ex2 (track next) (reduced known (suc next) (tracks ++ next ∷ []) s)
reduced known next tracks (quantified Quantifier.All2 s) = all2 next (reduced known (suc next) (tracks ++ next ∷ []) s)

-- no predicate is known
abbrev pub no_reductions : Reductions
no_reductions predicate next given = true_at next

-- one predicate more: the number n has this reduction
abbrev pub with_reduction : Reductions → ℕ → (ℕ → List ℕ → Formula) → Reductions
with_reduction known n reduction predicate next given =
    cond (predicate == n) (reduction next given) (known predicate next given)

-- the reductions of predicates, each body by those before it, where n are known
abbrev pub reductions_from : Reductions → ℕ → List Sentence → Reductions
reductions_from known n [] = known
reductions_from known n (body ∷ bodies) =
    reductions_from (with_reduction known n (λ next given. reduced known next given body)) (suc n) bodies

abbrev pub reductions_of : Text → Reductions
reductions_of text = reductions_from no_reductions 0 (bodies_of text)

-- the reductions of the text's formulas
abbrev pub formulas_of : Text → List Formula
formulas_of text = map (λ f. reduced (reductions_of text) (length text.free) [] (sentence_of f)) text.formulas

-- `Single` for each free variable that is a position, numbered from n
abbrev pub singles_from : ℕ → List Class → List Formula
singles_from n [] = []
singles_from n (Class.Position ∷ classes) = Single (track n) ∷ singles_from (suc n) classes
singles_from n (Class.Set ∷ classes) = singles_from (suc n) classes

abbrev pub singles_of : Text → List Formula
singles_of text = singles_from 0 (free_classes text)

-- each `var1` is one position, and the text's formulas hold
abbrev pub holds_of : Text → Formula
holds_of text = and_list (length text.free) (singles_of text ++ formulas_of text)

-- each `var1` is one position, and not all of the text's formulas hold
abbrev pub breaks_of : Text → Formula
breaks_of text =
    and_list (length text.free) (singles_of text ++ Not (and_list (length text.free) (formulas_of text)) ∷ [])
