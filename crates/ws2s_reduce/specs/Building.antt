-- How reductions are built by a loop: what is left to do, and the formulas that are finished.
use Rattle.std.specs.Prelude.{ℕ, zero, suc, ◌+◌, nat_le, if◌then◌else◌, ◌==◌, List, [], ◌∷◌, length, map, reverse, take, drop, slice_get, Option}
use Rattle.std.specs.Prelude.{Some, None, option_and_then}
use Rattle.std.specs.List.{sum}
use Rattle.ws2s_core.specs.declared.formula.Formula.{Formula}
use Rattle.ws2s_core.specs.declared.formula.Formula.TheVariants.{And, Not, Ex2}
use Rattle.ws2s_syntax.specs.declared.formula.Atom.{Atom}
use Rattle.ws2s_syntax.specs.declared.formula.Connective.{Connective}
use Rattle.ws2s_syntax.specs.declared.formula.Quantifier.{Quantifier}
use Rattle.ws2s_syntax.specs.declared.formula.TextFormula.{TextFormula}
use Rattle.ws2s_syntax.specs.declared.formula.TextFormula.TheOpen.{TextFormula-F}
use Rattle.ws2s_syntax.specs.declared.formula.TextFormula.TheFolds.{fold-TextFormula}
use Rattle.ws2s_syntax.specs.declared.declaration.Predicate.{Predicate}
use Rattle.ws2s_syntax.specs.Sentences.{sentence_of}
use Rattle.ws2s_forms.specs.Forms.{track, or, imp, iff, ex1, all1, all2}
use Rattle.ws2s_reduce.specs.Reducing.{Reductions, no_reductions, reductions_from, reduced}
use Rattle.ws2s_reduce.specs.declared.task.Op.{Op}
use Rattle.ws2s_reduce.specs.declared.task.Place.{Place}
use Rattle.ws2s_reduce.specs.declared.task.Task.{Task}

-- two parts joined
abbrev pub joined_of : Connective → Formula → Formula → Formula
joined_of Connective.And f g = And f g
joined_of Connective.Or f g = or f g
joined_of Connective.Iff f g = iff f g

-- a quantifier that binds this track
abbrev pub quantified_at : Quantifier → ℕ → Formula → Formula
quantified_at Quantifier.Ex1 t f = ex1 t f
quantified_at Quantifier.All1 t f = all1 t f
quantified_at Quantifier.Ex2 t f = Ex2 (track t) f
quantified_at Quantifier.All2 t f = all2 t f

-- quantifiers that bind so many tracks from this one on, the first of them outside
abbrev pub wrapped : Quantifier → ℕ → ℕ → Formula → Formula
wrapped q first zero f = f
wrapped q first (suc names) f = quantified_at q first (wrapped q (suc first) names f)

-- so many tracks, from this one on
abbrev pub tracks_from : ℕ → ℕ → List ℕ
tracks_from first zero = []
tracks_from first (suc names) = first ∷ tracks_from (suc first) names

-- the finished formulas after an operation took the last of them, the last in front
abbrev pub applied : Op → List Formula → Option (List Formula)
applied Op.Negate [] = None
applied Op.Negate (f ∷ parts) = Some (Not f ∷ parts)
applied Op.Imply [] = None
applied Op.Imply (g ∷ []) = None
applied Op.Imply (g ∷ f ∷ parts) = Some (imp f g ∷ parts)
applied (Op.Join c) [] = None
applied (Op.Join c) (g ∷ []) = None
applied (Op.Join c) (g ∷ f ∷ parts) = Some (joined_of c f g ∷ parts)
applied (Op.Wrap q first names) [] = None
applied (Op.Wrap q first names) (f ∷ parts) = Some (wrapped q first names f ∷ parts)
applied (Op.Bind t) [] = None
applied (Op.Bind t) (g ∷ []) = None
applied (Op.Bind t) (g ∷ f ∷ parts) = Some (Ex2 (track t) (And f g) ∷ parts)

-- the reductions of the first so many predicates
abbrev pub reductions_to : List Predicate → ℕ → Reductions
reductions_to predicates rank = reductions_from no_reductions 0 (map (λ p. sentence_of p.body) (take rank predicates))

-- a task, without the pointer to its formula
pub data Step : Type 0 where
  to_build : TextFormula → Place → Step
  to_forget : ℕ → Step
  to_apply : Op → Step

abbrev pub step_of : Task → Step
step_of (Task.Build f place) = to_build f.now place
step_of (Task.Forget count) = to_forget count
step_of (Task.Apply op) = to_apply op

-- the steps of tasks, the next in front
abbrev pub steps_of : List Task → List Step
steps_of tasks = map step_of (reverse tasks)

-- the finished formulas after all steps, the last formula in front; None where a step can't be taken
abbrev pub finished : List Predicate → List Step → List ℕ → List Formula → Option (List Formula)
finished predicates [] tracks parts = Some parts
finished predicates (to_build f place ∷ steps) tracks parts =
    if nat_le place.start (length tracks)
    then finished predicates steps tracks
    (reduced (reductions_to predicates place.rank) place.next (drop place.start tracks) (sentence_of f) ∷ parts)
    else None
finished predicates (to_forget count ∷ steps) tracks parts = finished predicates steps (take count tracks) parts
finished predicates (to_apply op ∷ steps) tracks parts =
    option_and_then (λ after. finished predicates steps tracks after) (applied op parts)

-- the steps of the other parts of a chain
abbrev pub chain_steps : Connective → Place → List TextFormula → List Step
chain_steps c place [] = []
chain_steps c place (f ∷ others) = to_build f place ∷ to_apply (Op.Join c) ∷ chain_steps c place others

-- how many steps a formula takes, where predicates take so many

abbrev pub atom_work : (ℕ → ℕ) → Atom → ℕ
atom_work known (Atom.Truth b) = 1
atom_work known (Atom.Empty x) = 1
atom_work known (Atom.In t x) = 1
atom_work known (Atom.SamePosition t u) = 1
atom_work known (Atom.SameSet x y) = 1
atom_work known (Atom.Sub x y) = 1
atom_work known (Atom.Use predicate args) = known predicate + length args + 3

abbrev pub node_work : (ℕ → ℕ) → TextFormula-F ℕ → ℕ
node_work known (TextFormula-F.Atom atom) = atom_work known atom
node_work known (TextFormula-F.Not f) = f + 2
node_work known (TextFormula-F.Implies f g) = f + g + 2
node_work known (TextFormula-F.Chain c f others) = f + sum others + length others + 1
node_work known (TextFormula-F.Quantified q names f) = f + 3

abbrev pub formula_work : (ℕ → ℕ) → TextFormula → ℕ
formula_work known = fold-TextFormula ℕ (node_work known)

abbrev pub body_work : (ℕ → ℕ) → Option Predicate → ℕ
body_work known None = 0
body_work known (Some p) = formula_work known p.body

-- how many steps the first so many predicates take
abbrev pub works_to : List Predicate → ℕ → ℕ → ℕ
works_to predicates zero p = 0
works_to predicates (suc rank) p =
    if p == rank then body_work (works_to predicates rank) (slice_get predicates rank) else works_to predicates rank p

abbrev pub step_work : List Predicate → Step → ℕ
step_work predicates (to_build f place) = formula_work (works_to predicates place.rank) f
step_work predicates (to_forget count) = 1
step_work predicates (to_apply op) = 1

abbrev pub steps_work : List Predicate → List Step → ℕ
steps_work predicates [] = 0
steps_work predicates (s ∷ steps) = step_work predicates s + steps_work predicates steps
