-- On conditions in postfix order.
use Rattle.std.proofs.Common.{◌≡◌, ℕ, ◌+◌, ◌<◌, List, [], ◌∷◌, ◌++◌, length, map, drop, get_or, IsSome, Option, Some, None}
use Rattle.std.proofs.Common.{option_and_then, drop-cons, add-one, rules, suc, sym, ap, ◌∙◌, subst, append_assoc, append-nil}
use Rattle.store_logic.specs.declared.cond.Cond.{Cond, roll-Cond}
use Rattle.store_logic.specs.declared.cond.Cond.TheOpen.{Cond-F}
use Rattle.store_logic.specs.declared.cond.Cond.TheFolds.{ind-Cond, map-Cond, fold-roll-Cond}
use Rattle.store_logic.specs.PostfixConds.{Form, postfix_of, postfix_of_node, applied, run_on}

-- ---- runs

abbrev Runs : Cond → Type 0
Runs a = (rest : List Form) (before : List Cond) → run_on (postfix_of a ++ rest) before ≡ run_on rest (a ∷ before)

-- the forms of a condition of two parts, run after one another
run_both : (u v : Cond) (form : Form) (rest : List Form) (before : List Cond) → Runs u → Runs v →
    run_on (((postfix_of u ++ (postfix_of v ++ [])) ++ form ∷ []) ++ rest) before ≡ run_on (form ∷ rest) (v ∷ u ∷ before)
run_both u v form rest before of_u of_v =
    ap (λ s. run_on (((postfix_of u ++ s) ++ form ∷ []) ++ rest) before) (append-nil (postfix_of v))
    ∙ ap (λ s. run_on s before) (append_assoc (postfix_of u ++ postfix_of v) (form ∷ []) rest
    ∙ append_assoc (postfix_of u) (postfix_of v) (form ∷ rest))
    ∙ of_u (postfix_of v ++ form ∷ rest) before
    ∙ of_v (form ∷ rest) (u ∷ before)

run_one : (u : Cond) (form : Form) (rest : List Form) (before : List Cond) → Runs u →
    run_on (((postfix_of u ++ []) ++ form ∷ []) ++ rest) before ≡ run_on (form ∷ rest) (u ∷ before)
run_one u form rest before of_u =
    ap (λ s. run_on ((s ++ form ∷ []) ++ rest) before) (append-nil (postfix_of u))
    ∙ ap (λ s. run_on s before) (append_assoc (postfix_of u) (form ∷ []) rest)
    ∙ of_u (form ∷ rest) before

module _ where
  abbrev rolled : Cond-F ((a : Cond) × Runs a) → Cond-F Cond
  rolled y = map-Cond ((a : Cond) × Runs a) Cond (λ e. e.0) y

  at : (y : Cond-F ((a : Cond) × Runs a)) (rest : List Form) (before : List Cond) →
      run_on (postfix_of (roll-Cond (rolled y)) ++ rest) before
      ≡ run_on (postfix_of_node (map-Cond Cond (List Form) postfix_of (rolled y)) ++ rest) before
  at y rest before = ap (λ s. run_on (s ++ rest) before) (fold-roll-Cond (List Form) postfix_of_node (rolled y))

  made : (y : Cond-F ((a : Cond) × Runs a)) → Runs (roll-Cond (rolled y))
  made Cond-F.True rest before = at Cond-F.True rest before
  made Cond-F.False rest before = at Cond-F.False rest before
  made (Cond-F.Bool p) rest before = at (Cond-F.Bool p) rest before
  made (Cond-F.Is t v) rest before = at (Cond-F.Is t v) rest before
  made (Cond-F.Same t u) rest before = at (Cond-F.Same t u) rest before
  made (Cond-F.Not u) rest before = at (Cond-F.Not u) rest before ∙ run_one u.0 (Cond-F.Not tt) rest before u.1
  made (Cond-F.And u v) rest before = at (Cond-F.And u v) rest before ∙ run_both u.0 v.0 (Cond-F.And tt tt) rest before u.1 v.1
  made (Cond-F.Or u v) rest before = at (Cond-F.Or u v) rest before ∙ run_both u.0 v.0 (Cond-F.Or tt tt) rest before u.1 v.1

-- a condition's forms put the condition in the place of its parts
pub run_on-postfix : (a : Cond) → Runs a
run_on-postfix = ind-Cond Runs (λ x y e. subst (λ z. Runs (roll-Cond z)) e (made y))

pub run_on-whole : (a : Cond) → run_on (postfix_of a) [] ≡ Some (a ∷ [])
run_on-whole a = ap (λ s. run_on s []) (sym (append-nil (postfix_of a))) ∙ run_on-postfix a [] []

-- ---- a walk over things that show forms

-- where a run ends well, its next form has its parts
some-before : {A B : Type 0} (o : Option A) (k : A → Option B) (b : B) → option_and_then k o ≡ Some b → IsSome o
some-before None k b e = absurd cc
some-before (Some a) k b e = search rules

module _ {X : Type 0} (f : X → Form) (xs : List X) (k : ℕ) (x : X) (is : x ≡ get_or xs k x) (inside : k < length xs) where
  next_form : (before : List Cond) →
      run_on (map f (drop k xs)) before ≡ option_and_then (run_on (map f (drop (suc k) xs))) (applied (f x) before)
  next_form before = ap (λ ys. run_on (map f ys) before) (drop-cons xs k x inside)
      ∙ ap (λ y. option_and_then (run_on (map f (drop (suc k) xs))) (applied (f y) before)) (sym is)

  pub applied-next : (before end : List Cond) → run_on (map f (drop k xs)) before ≡ Some end → IsSome (applied (f x) before)
  applied-next before end runs = some-before (applied (f x) before) (run_on (map f (drop (suc k) xs))) end (sym (next_form before) ∙ runs)

  -- and the rest runs on from there
  pub run_on-next : (before after end : List Cond) → run_on (map f (drop k xs)) before ≡ Some end → applied (f x) before ≡ Some after →
      run_on (map f (drop (k + 1) xs)) after ≡ Some end
  run_on-next before after end runs applies =
      let rest : option_and_then (run_on (map f (drop (suc k) xs))) (Some after) ≡ Some end =
      ap (option_and_then (run_on (map f (drop (suc k) xs)))) (sym applies) ∙ sym (next_form before) ∙ runs in
      ap (λ n. run_on (map f (drop n xs)) after) (add-one k) ∙ rest
