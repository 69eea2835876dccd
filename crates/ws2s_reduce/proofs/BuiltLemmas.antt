-- What one step of the machine does.
use Rattle.std.proofs.Common.{◌≡◌, ℕ, ◌+◌, ◌≤◌, cond, List, [], ◌∷◌, ◌++◌, length, map, reverse, take, drop, Some, None, OnOk}
use Rattle.std.proofs.Common.{slice_get, refl, sym, ap, ap₂, ◌∙◌, arith, append-nil}
use Rattle.std.specs.List.{sum}
use Rattle.std.proofs.lemmas.Bool.{le-leb}
use Rattle.std.proofs.lemmas.List.{reverse-append}
use Rattle.std.proofs.lemmas.List.Sums.{sum_by-cons}
use Rattle.std.specs.declared.result.Result.{Result}
use Rattle.std.specs.declared.result.Result.TheVariants.{Ok, Err}
use Rattle.ws2s_core.specs.declared.formula.Formula.{Formula}
use Rattle.ws2s_syntax.specs.declared.formula.Connective.{Connective}
use Rattle.ws2s_syntax.specs.declared.formula.Quantifier.{Quantifier}
use Rattle.ws2s_syntax.specs.declared.formula.TextFormula as declared_formula
use Rattle.ws2s_syntax.specs.declared.formula.TextFormula.TheVariants.{Chain, Quantified}
use Rattle.ws2s_syntax.specs.declared.declaration.Predicate.{Predicate}
use Rattle.ws2s_syntax.specs.declared.name.Argument.{Argument}
use Rattle.ws2s_syntax.specs.Sentences.{sentence_of}
use Rattle.ws2s_reduce.specs.declared.task.Op.{Op}
use Rattle.ws2s_reduce.specs.declared.task.Place.{Place}
use Rattle.ws2s_reduce.specs.declared.task.Task.{Task}
use Rattle.ws2s_reduce.specs.declared.machine.Machine.{Machine}
use Rattle.ws2s_forms.specs.Forms.{true_at}
use Rattle.ws2s_reduce.specs.Reducing.{reduced, used}
use Rattle.ws2s_reduce.specs.Building.{reductions_to, Step, to_build, to_forget, to_apply, step_of, steps_of, finished}
use Rattle.ws2s_reduce.specs.Building.{tracks_from, chain_steps, formula_work, works_to, steps_work}
use Rattle.ws2s_reduce.specs.Machines.{IsPassed, IsBuilt}
use Rattle.ws2s_reduce.proofs.StepsLemmas.{work-Chain, work-Quantified, same-Chain, same-Quantified}
use Rattle.ws2s_reduce.proofs.PassingLemmas.{reductions_to-at, reductions_to-past, works_to-at}

-- two facts, where there is a value
pub on_ok_two : {T E P Q R : Type 0} (r : Result T E) → (P → Q → R) → OnOk r P → OnOk r Q → OnOk r R
on_ok_two (Ok x) f p q = f p q
on_ok_two (Err e) f p q = tt

-- one task more
pub steps_of-push : (tasks : List Task) (task : Task) → steps_of (tasks ++ task ∷ []) ≡ step_of task ∷ steps_of tasks
steps_of-push tasks task = ap (map step_of) (reverse-append tasks (task ∷ []))

-- a predicate's body, whose tracks are then forgotten
module _ (predicates : List Predicate) (rank : ℕ) (place : Place) (steps : List Step) (tracks : List ℕ) (parts : List Formula) where
  pub enter-Some : (p : Predicate) → place.start ≤ length tracks → slice_get (take rank predicates) place.rank ≡ Some p →
      finished predicates (to_build p.body place ∷ to_forget place.start ∷ steps) tracks parts
      ≡ finished predicates steps (take place.start tracks) (reductions_to predicates rank place.rank place.next (drop place.start tracks) ∷ parts)
  enter-Some p inside e =
      ap (λ b. cond b (finished predicates (to_forget place.start ∷ steps) tracks
      (reduced (reductions_to predicates place.rank) place.next (drop place.start tracks) (sentence_of p.body) ∷ parts)) None)
      (le-leb place.start (length tracks) inside)
      ∙ ap (λ f. finished predicates steps (take place.start tracks) (f ∷ parts))
      (sym (reductions_to-at predicates rank place.rank place.next (drop place.start tracks) p e))

  pub enter-None : slice_get (take rank predicates) place.rank ≡ None →
      finished predicates (to_forget place.start ∷ steps) tracks (true_at place.next ∷ parts)
      ≡ finished predicates steps (take place.start tracks) (reductions_to predicates rank place.rank place.next (drop place.start tracks) ∷ parts)
  enter-None e =
      ap (λ f. finished predicates steps (take place.start tracks) (f ∷ parts))
      (sym (reductions_to-past predicates rank place.rank place.next (drop place.start tracks) e))

  pub enter-work : (p : Predicate) → slice_get (take rank predicates) place.rank ≡ Some p →
      steps_work predicates (to_build p.body place ∷ to_forget place.start ∷ steps)
      ≤ works_to predicates rank place.rank + 1 + steps_work predicates steps
  enter-work p e = let h = works_to-at predicates rank place.rank p e in omega (arith, h)

take_all : {X : Type 0} (xs : List X) → take (length xs) xs ≡ xs
take_all [] = refl
take_all (x ∷ xs) = ap (λ ys. x ∷ ys) (take_all xs)

drop_all : {X : Type 0} (xs : List X) → drop (length xs) xs ≡ []
drop_all [] = refl
drop_all (x ∷ xs) = drop_all xs

-- a predicate's use
pub IsBuilt-use : (predicates : List Predicate) (rank k next after kept : ℕ) (frame : List ℕ) (args : List Argument) (before mid now : Machine) →
    kept ≡ length before.tracks.items → IsPassed frame args next before after mid →
    finished predicates (steps_of now.tasks.items) now.tracks.items (reverse now.parts.items)
    ≡ finished predicates (steps_of mid.tasks.items) (take kept mid.tracks.items)
    (reductions_to predicates rank k after (drop kept mid.tracks.items) ∷ reverse mid.parts.items) →
    steps_work predicates (steps_of now.tasks.items) ≤ works_to predicates rank k + 1 + steps_work predicates (steps_of mid.tasks.items) →
    IsBuilt predicates (used (reductions_to predicates rank k) next frame args []) (works_to predicates rank k + length args + 3) before now
IsBuilt-use predicates rank k next after kept frame args before mid now is_kept passed entered work = record {
  same =
      entered
      ∙ passed.same predicates kept (reductions_to predicates rank k) [] (omega (arith, is_kept))
      ∙ ap₂ (λ xs ys. finished predicates (steps_of before.tasks.items) xs
      (used (reductions_to predicates rank k) next frame (args ++ []) ys ∷ reverse before.parts.items))
      (ap (λ n. take n before.tracks.items) is_kept ∙ take_all before.tracks.items)
      (ap (λ n. drop n before.tracks.items) is_kept ∙ drop_all before.tracks.items)
      ∙ ap (λ all. finished predicates (steps_of before.tasks.items) before.tracks.items
      (used (reductions_to predicates rank k) next frame all [] ∷ reverse before.parts.items))
      (append-nil args);
  less = let h = passed.work predicates in omega (arith, h, work);
}

-- a formula, where it stands
abbrev pub IsMade : List Predicate → Place → Machine → Machine → declared_formula.TextFormula → Type 0
IsMade predicates place before now f =
    IsBuilt predicates (reduced (reductions_to predicates place.rank) place.next (drop place.start before.tracks.items) (sentence_of f))
    (formula_work (works_to predicates place.rank) f) before now

-- the forms of formulas
module _ (predicates : List Predicate) (place : Place) (before now : Machine) (inside : place.start ≤ length before.tracks.items) where
  module _ (parts : now.parts.items ≡ before.parts.items) where
    from_steps : (steps : List Step) (tracks : List ℕ) → steps_of now.tasks.items ≡ steps → now.tracks.items ≡ tracks →
        finished predicates (steps_of now.tasks.items) now.tracks.items (reverse now.parts.items)
        ≡ finished predicates steps tracks (reverse before.parts.items)
    from_steps steps tracks is_steps is_tracks =
        ap (λ all. finished predicates all now.tracks.items (reverse now.parts.items)) is_steps
        ∙ ap (λ all. finished predicates steps all (reverse now.parts.items)) is_tracks
        ∙ ap (λ all. finished predicates steps tracks (reverse all)) parts

    chain_work : (c : Connective) (others : List declared_formula.TextFormula) (steps : List Step) →
        steps_work predicates (chain_steps c place others ++ steps)
        ≡ sum (map (formula_work (works_to predicates place.rank)) others) + length
        (map (formula_work (works_to predicates place.rank)) others) + steps_work predicates steps
    chain_work c [] steps = omega arith
    chain_work c (f ∷ others) steps =
        let unfolded : steps_work predicates (chain_steps c place (f ∷ others) ++ steps)
        ≡ formula_work (works_to predicates place.rank) f + (1 + steps_work predicates (chain_steps c place others ++ steps)) = refl in
        let total = sum_by-cons (λ x. x) (formula_work (works_to predicates place.rank) f) (map (formula_work (works_to predicates place.rank)) others) in
        let h = chain_work c others steps in
        omega (arith, unfolded, total, h)

    pub Built-Chain : (c : Connective) (f : declared_formula.TextFormula) (others : List declared_formula.TextFormula) →
        steps_of now.tasks.items ≡ to_build f place ∷ (chain_steps c place others ++ steps_of before.tasks.items) → now.tracks.items ≡ before.tracks.items →
        IsMade predicates place before now (Chain c f others)
    Built-Chain c f others steps tracks = record {
      same = from_steps _ before.tracks.items steps tracks
          ∙ same-Chain predicates place (steps_of before.tasks.items) before.tracks.items inside c f others
          (reverse before.parts.items);
      less =
          let e = ap (steps_work predicates) steps in
          let h = chain_work c others (steps_of before.tasks.items) in
          let w = work-Chain (works_to predicates place.rank) c f others in omega (arith, e, h, w);
    }

    pub Built-Quantified : (q : Quantifier) (names : ℕ) (f : declared_formula.TextFormula) →
        steps_of now.tasks.items ≡ to_build f (record { rank = place.rank; start = place.start; next = place.next + names })
        ∷ to_forget (length before.tracks.items) ∷ to_apply (Op.Wrap q place.next names) ∷ steps_of before.tasks.items →
        now.tracks.items ≡ before.tracks.items ++ tracks_from place.next names →
        IsMade predicates place before now (Quantified q names f)
    Built-Quantified q names f steps tracks = record {
      same = from_steps _ (before.tracks.items ++ tracks_from place.next names) steps tracks
          ∙ same-Quantified predicates place (steps_of before.tasks.items) before.tracks.items inside q names f (reverse before.parts.items);
      less = let e = ap (steps_work predicates) steps in let w = work-Quantified (works_to predicates place.rank) q names f in omega (arith, e, w);
    }
