-- How many nodes reductions have, without building them.
use Rattle.std.specs.Prelude.{◌≡◌, ℕ, ◌+◌, ◌*◌, ◌≤◌, min, true, false, List, [], ◌∷◌, length, map, fold, slice_get, unwrap_or, Option, Some, None}
use Rattle.std.specs.List.{sum_by}
use Rattle.ws2s_core.specs.declared.formula.Formula.{Formula}
use Rattle.ws2s_core.specs.Sizes.{node_count}
use Rattle.ws2s_syntax.specs.declared.name.Name.{Name}
use Rattle.ws2s_syntax.specs.declared.name.Base.{Base}
use Rattle.ws2s_syntax.specs.declared.name.Term.{Term}
use Rattle.ws2s_syntax.specs.declared.name.Argument.{Argument}
use Rattle.ws2s_syntax.specs.declared.formula.Atom.{Atom}
use Rattle.ws2s_syntax.specs.declared.formula.Connective.{Connective}
use Rattle.ws2s_syntax.specs.declared.formula.Quantifier.{Quantifier}
use Rattle.ws2s_syntax.specs.declared.formula.TextFormula.{TextFormula}
use Rattle.ws2s_syntax.specs.Sentences.{Sentence, said, negated, implied, joined, quantified, sentence_of}
use Rattle.ws2s_reduce.specs.Reducing.{plain_name, Reductions}

abbrev pub base_size : Base → ℕ
base_size Base.Root = 1
base_size (Base.Variable x) = 3

-- of "the track is the position of the term"
abbrev pub term_size : Term → ℕ
term_size t = base_size t.base + 3 * length t.steps

-- what an argument puts around a body: nothing where it is a name
abbrev pub passed_term_size : Option Name → Term → ℕ
passed_term_size (Some x) t = 0
passed_term_size None t = term_size t + 2

abbrev pub argument_size : Argument → ℕ
argument_size (Argument.Set x) = 0
argument_size (Argument.Position t) = passed_term_size (plain_name t.base t.steps) t

-- the sizes of predicates, by their numbers
abbrev pub PredicateSizes : Type 0
PredicateSizes = ℕ → ℕ

abbrev pub atom_size : PredicateSizes → Atom → ℕ
atom_size known (Atom.Truth true) = 6
atom_size known (Atom.Truth false) = 5
atom_size known (Atom.Empty x) = 5
atom_size known (Atom.In t x) = term_size t + 3
atom_size known (Atom.SamePosition t u) = term_size t + term_size u + 2
atom_size known (Atom.SameSet x y) = 3
atom_size known (Atom.Sub x y) = 1
atom_size known (Atom.Use predicate args) = sum_by argument_size args + known predicate

abbrev pub joined_size : Connective → ℕ → ℕ → ℕ
joined_size Connective.And s t = s + t + 1
joined_size Connective.Or s t = s + t + 4
joined_size Connective.Iff s t = 2 * (s + t) + 7

-- what a quantifier puts around its sentence
abbrev pub quantifier_size : Quantifier → ℕ
quantifier_size Quantifier.Ex1 = 3
quantifier_size Quantifier.All1 = 5
quantifier_size Quantifier.Ex2 = 1
quantifier_size Quantifier.All2 = 3

abbrev pub sentence_size : PredicateSizes → Sentence → ℕ
sentence_size known (said a) = atom_size known a
sentence_size known (negated s) = sentence_size known s + 1
sentence_size known (implied s t) = sentence_size known s + sentence_size known t + 3
sentence_size known (joined c s t) = joined_size c (sentence_size known s) (sentence_size known t)
sentence_size known (quantified q s) = sentence_size known s + quantifier_size q

-- of the conjunction of formulas
abbrev pub formulas_size : PredicateSizes → List TextFormula → ℕ
formulas_size known [] = 6
formulas_size known (f ∷ formulas) =
    sentence_size known (fold (joined Connective.And) (sentence_of f) (map sentence_of formulas))

-- sizes by their places; a predicate that isn't there counts as True
abbrev pub sizes_in : List ℕ → PredicateSizes
sizes_in sizes predicate = unwrap_or (slice_get sizes predicate) 6

-- the sizes of predicates' reductions, told apart up to 65,537
pub record AreSizes (sizes : List ℕ) (reductions : Reductions) : Type 0 where
  pub each : (predicate next : ℕ) (given : List ℕ) →
      min (node_count (reductions predicate next given)) 65537 ≡ min (sizes_in sizes predicate) 65537

-- the formula has at most 65,536 nodes
abbrev pub IsSmall : Formula → Type 0
IsSmall f = node_count f ≤ 65536
