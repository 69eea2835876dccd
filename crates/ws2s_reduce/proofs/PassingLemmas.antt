-- Predicates' uses: what their reductions are, and the arguments that are passed.
use Rattle.std.proofs.Common.{◌≡◌, ℕ, zero, suc, ◌+◌, ◌<◌, Bool, true, false, cond, eqb, List, [], ◌∷◌, ◌++◌, length, map}
use Rattle.std.proofs.Common.{reverse, take, drop, Some, None, option_map, slice_get, refl, sym, ap, ap₂, ◌∙◌, arith}
use Rattle.std.proofs.Common.{append_assoc, add-one, zero-add, length-append, eq-eqb, ne_eqb, eqb-true}
use Rattle.std.proofs.lemmas.Bool.{eqb-false}
use Rattle.std.proofs.lemmas.List.{take-append-le, drop-append-le, take-take, take-map}
use Rattle.std.proofs.lemmas.Option.{slice_get_within, slice_get-map}
use Rattle.ws2s_core.specs.declared.formula.Formula.{Formula}
use Rattle.ws2s_core.specs.declared.formula.Formula.TheVariants.{And, Ex2}
use Rattle.ws2s_syntax.specs.declared.name.Term.{Term}
use Rattle.ws2s_syntax.specs.declared.name.Argument.{Argument}
use Rattle.ws2s_syntax.specs.declared.declaration.Predicate.{Predicate}
use Rattle.ws2s_syntax.specs.Sentences.{Sentence, sentence_of}
use Rattle.ws2s_reduce.specs.declared.task.Op.{Op}
use Rattle.ws2s_reduce.specs.declared.machine.Machine.{Machine}
use Rattle.ws2s_forms.specs.Forms.{track, true_at}
use Rattle.ws2s_reduce.specs.Reducing.{is_at, plain_name, passed_term, Reductions, no_reductions, with_reduction}
use Rattle.ws2s_reduce.specs.Reducing.{reductions_from, reduced, used}
use Rattle.ws2s_reduce.specs.Building.{reductions_to, to_apply, steps_of, finished, formula_work, body_work, works_to, steps_work}
use Rattle.ws2s_reduce.specs.Machines.{IsPassed}

-- the reductions of predicates that were known stay, and each other one is reduced by those before it
reductions-kept : (bodies : List Sentence) (known : Reductions) (n k next : ℕ) (given : List ℕ) → k < n →
    reductions_from known n bodies k next given ≡ known k next given
reductions-kept [] known n k next given below = refl
reductions-kept (body ∷ bodies) known n k next given below =
    reductions-kept bodies (with_reduction known n (λ next given. reduced known next given body)) (suc n) k next given (omega arith)
    ∙ ap (λ b. cond b (reduced known next given body) (known k next given)) (ne_eqb k n (λ e. let h : ⊥ = omega (arith, below) in h))

reductions-at : (bodies : List Sentence) (known : Reductions) (n i next : ℕ) (given : List ℕ) (body : Sentence) → slice_get bodies i ≡ Some body →
    reductions_from known n bodies (n + i) next given ≡ reduced (reductions_from known n (take i bodies)) next given body
reductions-at [] known n i next given body e = let h : i < 0 = slice_get_within [] i body e in absurd (omega (arith, h))
reductions-at (first ∷ bodies) known n zero next given body e =
    let here : n + 0 ≡ n = omega arith in
    let same : first ≡ body = cc in
    reductions-kept bodies (with_reduction known n (λ next given. reduced known next given first)) (suc n) (n + 0) next given (omega arith)
    ∙ ap (λ b. cond b (reduced known next given first) (known (n + 0) next given)) (eq-eqb (n + 0) n here)
    ∙ ap (reduced known next given) same
reductions-at (first ∷ bodies) known n (suc i) next given body e =
    let there : n + suc i ≡ suc n + i = omega arith in
    ap (λ k. reductions_from known n (first ∷ bodies) k next given) there
    ∙ reductions-at bodies (with_reduction known n (λ next given. reduced known next given first)) (suc n) i next given body e

reductions-past : (bodies : List Sentence) (known : Reductions) (n i next : ℕ) (given : List ℕ) → slice_get bodies i ≡ None →
    reductions_from known n bodies (n + i) next given ≡ known (n + i) next given
reductions-past [] known n i next given e = refl
reductions-past (first ∷ bodies) known n zero next given e = absurd cc
reductions-past (first ∷ bodies) known n (suc i) next given e =
    let there : n + suc i ≡ suc n + i = omega arith in
    ap (λ k. reductions_from known n (first ∷ bodies) k next given) there
    ∙ reductions-past bodies (with_reduction known n (λ next given. reduced known next given first)) (suc n) i next given e
    ∙ ap (λ b. cond b (reduced known next given first) (known (suc n + i) next given)) (ne_eqb (suc n + i) n (λ h. let k : ⊥ = omega (arith, h) in k))
    ∙ ap (λ k. known k next given) (sym there)

slice_get-take : {X : Type 0} (xs : List X) (rank k : ℕ) (x : X) → slice_get (take rank xs) k ≡ Some x → (k < rank) × (slice_get xs k ≡ Some x)
slice_get-take [] zero k x e = absurd cc
slice_get-take [] (suc rank) k x e = absurd cc
slice_get-take (y ∷ xs) zero k x e = absurd cc
slice_get-take (y ∷ xs) (suc rank) zero x e = (omega arith, e)
slice_get-take (y ∷ xs) (suc rank) (suc k) x e =
    let h = slice_get-take xs rank k x e in (omega (arith, h.0), h.1)

-- a predicate that may be used is reduced by those before it
pub reductions_to-at : (predicates : List Predicate) (rank k next : ℕ) (given : List ℕ) (p : Predicate) → slice_get (take rank predicates) k ≡ Some p →
    reductions_to predicates rank k next given ≡ reduced (reductions_to predicates k) next given (sentence_of p.body)
reductions_to-at predicates rank k next given p e =
    let h = slice_get-take predicates rank k p e in
    ap (λ i. reductions_to predicates rank i next given) (sym (zero-add k))
    ∙ reductions-at (map (λ q. sentence_of q.body) (take rank predicates)) no_reductions 0 k next given (sentence_of p.body)
    (slice_get-map (λ q. sentence_of q.body) (take rank predicates) k ∙ ap (option_map (λ q. sentence_of q.body)) e)
    ∙ ap (λ bodies. reduced (reductions_from no_reductions 0 bodies) next given (sentence_of p.body))
    (take-map (λ q. sentence_of q.body) k (take rank predicates) ∙ ap (map (λ q. sentence_of q.body)) (take-take k rank predicates (omega (arith, h.0))))

pub reductions_to-past : (predicates : List Predicate) (rank k next : ℕ) (given : List ℕ) → slice_get (take rank predicates) k ≡ None →
    reductions_to predicates rank k next given ≡ true_at next
reductions_to-past predicates rank k next given e =
    ap (λ i. reductions_to predicates rank i next given) (sym (zero-add k))
    ∙ reductions-past (map (λ q. sentence_of q.body) (take rank predicates)) no_reductions 0 k next given
    (slice_get-map (λ q. sentence_of q.body) (take rank predicates) k ∙ ap (option_map (λ q. sentence_of q.body)) e)

works_pick : (predicates : List Predicate) (rank k : ℕ) → k < suc rank →
    (k < rank → works_to predicates rank k ≡ body_work (works_to predicates k) (slice_get predicates k)) →
    (b : Bool) → eqb k rank ≡ b →
    works_to predicates (suc rank) k ≡ body_work (works_to predicates k) (slice_get predicates k)
works_pick predicates rank k below rest true is =
    ap (λ b. cond b (body_work (works_to predicates rank) (slice_get predicates rank)) (works_to predicates rank k)) is
    ∙ sym (ap (λ i. body_work (works_to predicates i) (slice_get predicates i)) (eqb-true k rank is))
works_pick predicates rank k below rest false is =
    let other = eqb-false k rank is in
    ap (λ b. cond b (body_work (works_to predicates rank) (slice_get predicates rank)) (works_to predicates rank k)) is
    ∙ rest (omega (arith, below, other))

works_below : (predicates : List Predicate) (rank k : ℕ) → k < rank →
    works_to predicates rank k ≡ body_work (works_to predicates k) (slice_get predicates k)
works_below predicates zero k below = absurd (omega (arith, below))
works_below predicates (suc rank) k below =
    works_pick predicates rank k below (works_below predicates rank k) (eqb k rank) refl

pub works_to-at : (predicates : List Predicate) (rank k : ℕ) (p : Predicate) → slice_get (take rank predicates) k ≡ Some p →
    works_to predicates rank k ≡ formula_work (works_to predicates k) p.body
works_to-at predicates rank k p e =
    let h = slice_get-take predicates rank k p e in
    works_below predicates rank k h.0 ∙ ap (body_work (works_to predicates k)) h.1

-- arguments that were passed
pub IsPassed-none : (frame : List ℕ) (next : ℕ) (m : Machine) → IsPassed frame [] next m next m
IsPassed-none frame next m = record {
  same = λ predicates kept body rest inside. refl;
  longer = omega arith;
  work = λ predicates. omega arith;
}

pub IsPassed-more : (frame : List ℕ) (args : List Argument) (arg : Argument) (next mid after : ℕ) (before between now : Machine) →
    IsPassed frame args next before mid between → IsPassed frame (arg ∷ []) mid between after now →
    IsPassed frame (args ++ arg ∷ []) next before after now
IsPassed-more frame args arg next mid after before between now first second = record {
  same = λ predicates kept body rest inside.
      second.same predicates kept body rest (omega (arith, inside, first.longer))
      ∙ first.same predicates kept body (arg ∷ rest) inside
      ∙ ap (λ all. finished predicates (steps_of before.tasks.items) (take kept before.tracks.items)
      (used body next frame all (drop kept before.tracks.items) ∷ reverse before.parts.items))
      (sym (append_assoc args (arg ∷ []) rest));
  longer = omega (arith, first.longer, second.longer);
  work = λ predicates.
      let one = first.work predicates in
      let two = second.work predicates in
      let e = length-append args (arg ∷ []) in
      omega (arith, one, two, e);
}

-- a name is put in
pub IsPassed-put : (frame : List ℕ) (arg : Argument) (next t : ℕ) (before now : Machine) →
    ((body : ℕ → List ℕ → Formula) (rest : List Argument) (given : List ℕ) → used body next frame (arg ∷ rest) given
    ≡ used body next frame rest (given ++ t ∷ [])) →
    now.tasks.items ≡ before.tasks.items → now.parts.items ≡ before.parts.items → now.tracks.items ≡ before.tracks.items ++ t ∷ [] →
    IsPassed frame (arg ∷ []) next before next now
IsPassed-put frame arg next t before now puts tasks parts tracks = record {
  same = λ predicates kept body rest inside.
      ap (λ steps. finished predicates (steps_of steps) (take kept now.tracks.items)
      (used body next frame rest (drop kept now.tracks.items) ∷ reverse now.parts.items)) tasks
      ∙ ap (λ all. finished predicates (steps_of before.tasks.items) (take kept now.tracks.items)
      (used body next frame rest (drop kept now.tracks.items) ∷ reverse all)) parts
      ∙ ap (λ all. finished predicates (steps_of before.tasks.items) (take kept all)
      (used body next frame rest (drop kept all) ∷ reverse before.parts.items)) tracks
      ∙ ap₂ (λ xs ys. finished predicates (steps_of before.tasks.items) xs (used body next frame rest ys ∷ reverse before.parts.items))
      (take-append-le kept before.tracks.items (t ∷ []) inside) (drop-append-le kept before.tracks.items (t ∷ []) inside)
      ∙ ap (λ f. finished predicates (steps_of before.tasks.items) (take kept before.tracks.items) (f ∷ reverse before.parts.items))
      (sym (puts body rest (drop kept before.tracks.items)));
  longer = let e = ap length tracks ∙ length-append before.tracks.items (t ∷ []) in omega (arith, e);
  work = λ predicates. let e = ap (λ all. steps_work predicates (steps_of all)) tasks in omega (arith, e);
}

-- a term is bound
pub IsPassed-bound : (frame : List ℕ) (t : Term) (next : ℕ) (before now : Machine) → plain_name t.base t.steps ≡ None →
    steps_of now.tasks.items ≡ to_apply (Op.Bind next) ∷ steps_of before.tasks.items →
    reverse now.parts.items ≡ is_at (next + 1) frame t next ∷ reverse before.parts.items →
    now.tracks.items ≡ before.tracks.items ++ next ∷ [] →
    IsPassed frame (Argument.Position t ∷ []) next before (next + 1) now
IsPassed-bound frame t next before now not_plain tasks parts tracks = record {
  same = λ predicates kept body rest inside.
      ap (λ steps. finished predicates steps (take kept now.tracks.items)
      (used body (next + 1) frame rest (drop kept now.tracks.items) ∷ reverse now.parts.items)) tasks
      ∙ ap (λ all. finished predicates (to_apply (Op.Bind next) ∷ steps_of before.tasks.items)
      (take kept now.tracks.items) (used body (next + 1) frame rest (drop kept now.tracks.items) ∷ all)) parts
      ∙ ap (λ all. finished predicates (to_apply (Op.Bind next) ∷ steps_of before.tasks.items) (take kept all)
      (used body (next + 1) frame rest (drop kept all) ∷ is_at
      (next + 1) frame t next ∷ reverse before.parts.items)) tracks
      ∙ ap₂ (λ xs ys. finished predicates (to_apply (Op.Bind next) ∷ steps_of before.tasks.items) xs
      (used body (next + 1) frame rest ys ∷ is_at (next + 1) frame t next ∷ reverse before.parts.items))
      (take-append-le kept before.tracks.items (next ∷ []) inside) (drop-append-le kept before.tracks.items (next ∷ []) inside)
      ∙ ap (λ f. finished predicates (steps_of before.tasks.items) (take kept before.tracks.items) (f ∷ reverse before.parts.items))
      (ap (λ n. Ex2 (track next) (And (is_at n frame t next) (used body n frame rest (drop kept before.tracks.items ++ next ∷ [])))) (add-one next)
      ∙ sym (ap (λ found. passed_term found t next frame (drop kept before.tracks.items) (λ after with_arg. used body after frame rest with_arg)) not_plain));
  longer = let e = ap length tracks ∙ length-append before.tracks.items (next ∷ []) in omega (arith, e);
  work = λ predicates. let e = ap (steps_work predicates) tasks in omega (arith, e);
}
