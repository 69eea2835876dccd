-- On assertions in postfix order.
use Rattle.std.proofs.Common.{◌≡◌, ℕ, ◌+◌, ◌<◌, List, [], ◌∷◌, ◌++◌, length, map, drop, get_or, IsSome, Option, Some, None}
use Rattle.std.proofs.Common.{option_and_then, drop-cons, add-one, rules, suc, sym, ap, ◌∙◌, subst, append_assoc, append-nil}
use Rattle.std.proofs.Common.{reverse, refl}
use Rattle.std.proofs.lemmas.List.{reverse-append, map_push}
use Rattle.store_logic.specs.declared.assertion.Assertion.{Assertion, roll-Assertion}
use Rattle.store_logic.specs.declared.assertion.Assertion.TheOpen.{Assertion-F}
use Rattle.store_logic.specs.declared.assertion.Assertion.TheFolds.{ind-Assertion, map-Assertion, fold-roll-Assertion}
use Rattle.store_logic.specs.Postfix.{Form, postfix_of, postfix_of_node, applied, run_on}

-- ---- runs

abbrev Runs : Assertion → Type 0
Runs a = (rest : List Form) (before : List Assertion) → run_on (postfix_of a ++ rest) before ≡ run_on rest (a ∷ before)

-- the forms of an assertion of two parts, run after one another
run_both : (u v : Assertion) (form : Form) (rest : List Form) (before : List Assertion) → Runs u → Runs v →
    run_on (((postfix_of u ++ (postfix_of v ++ [])) ++ form ∷ []) ++ rest) before ≡ run_on (form ∷ rest) (v ∷ u ∷ before)
run_both u v form rest before of_u of_v =
    ap (λ s. run_on (((postfix_of u ++ s) ++ form ∷ []) ++ rest) before) (append-nil (postfix_of v))
    ∙ ap (λ s. run_on s before) (append_assoc (postfix_of u ++ postfix_of v) (form ∷ []) rest
    ∙ append_assoc (postfix_of u) (postfix_of v) (form ∷ rest))
    ∙ of_u (postfix_of v ++ form ∷ rest) before
    ∙ of_v (form ∷ rest) (u ∷ before)

run_one : (u : Assertion) (form : Form) (rest : List Form) (before : List Assertion) → Runs u →
    run_on (((postfix_of u ++ []) ++ form ∷ []) ++ rest) before ≡ run_on (form ∷ rest) (u ∷ before)
run_one u form rest before of_u =
    ap (λ s. run_on ((s ++ form ∷ []) ++ rest) before) (append-nil (postfix_of u))
    ∙ ap (λ s. run_on s before) (append_assoc (postfix_of u) (form ∷ []) rest)
    ∙ of_u (form ∷ rest) before

module _ where
  abbrev rolled : Assertion-F ((a : Assertion) × Runs a) → Assertion-F Assertion
  rolled y = map-Assertion ((a : Assertion) × Runs a) Assertion (λ e. e.0) y

  at : (y : Assertion-F ((a : Assertion) × Runs a)) (rest : List Form) (before : List Assertion) →
      run_on (postfix_of (roll-Assertion (rolled y)) ++ rest) before
      ≡ run_on (postfix_of_node (map-Assertion Assertion (List Form) postfix_of (rolled y)) ++ rest) before
  at y rest before = ap (λ s. run_on (s ++ rest) before) (fold-roll-Assertion (List Form) postfix_of_node (rolled y))

  made : (y : Assertion-F ((a : Assertion) × Runs a)) → Runs (roll-Assertion (rolled y))
  made Assertion-F.True rest before = at Assertion-F.True rest before
  made Assertion-F.False rest before = at Assertion-F.False rest before
  made (Assertion-F.Truth t) rest before = at (Assertion-F.Truth t) rest before
  made (Assertion-F.Is t v) rest before = at (Assertion-F.Is t v) rest before
  made (Assertion-F.Same t u) rest before = at (Assertion-F.Same t u) rest before
  made (Assertion-F.Member t set) rest before = at (Assertion-F.Member t set) rest before
  made (Assertion-F.Subset set other) rest before = at (Assertion-F.Subset set other) rest before
  made (Assertion-F.Walk t along u) rest before = at (Assertion-F.Walk t along u) rest before
  made (Assertion-F.Pred k args) rest before = at (Assertion-F.Pred k args) rest before
  made (Assertion-F.Not u) rest before = at (Assertion-F.Not u) rest before ∙ run_one u.0 (Assertion-F.Not tt) rest before u.1
  made (Assertion-F.And u v) rest before = at (Assertion-F.And u v) rest before ∙ run_both u.0 v.0 (Assertion-F.And tt tt) rest before u.1 v.1
  made (Assertion-F.Or u v) rest before = at (Assertion-F.Or u v) rest before ∙ run_both u.0 v.0 (Assertion-F.Or tt tt) rest before u.1 v.1
  made (Assertion-F.Imp u v) rest before = at (Assertion-F.Imp u v) rest before ∙ run_both u.0 v.0 (Assertion-F.Imp tt tt) rest before u.1 v.1
  made (Assertion-F.Iff u v) rest before = at (Assertion-F.Iff u v) rest before ∙ run_both u.0 v.0 (Assertion-F.Iff tt tt) rest before u.1 v.1
  made (Assertion-F.Ex ty u) rest before = at (Assertion-F.Ex ty u) rest before ∙ run_one u.0 (Assertion-F.Ex ty tt) rest before u.1
  made (Assertion-F.All ty u) rest before = at (Assertion-F.All ty u) rest before ∙ run_one u.0 (Assertion-F.All ty tt) rest before u.1
  made (Assertion-F.ExSet ty u) rest before = at (Assertion-F.ExSet ty u) rest before ∙ run_one u.0 (Assertion-F.ExSet ty tt) rest before u.1
  made (Assertion-F.AllSet ty u) rest before = at (Assertion-F.AllSet ty u) rest before ∙ run_one u.0 (Assertion-F.AllSet ty tt) rest before u.1

-- an assertion's forms put the assertion in the place of its parts
pub run_on-postfix : (a : Assertion) → Runs a
run_on-postfix = ind-Assertion Runs (λ x y e. subst (λ z. Runs (roll-Assertion z)) e (made y))

pub run_on-whole : (a : Assertion) → run_on (postfix_of a) [] ≡ Some (a ∷ [])
run_on-whole a = ap (λ s. run_on s []) (sym (append-nil (postfix_of a))) ∙ run_on-postfix a [] []

-- ---- a walk over things that show forms

-- where a run ends well, its next form has its parts
some-before : {A B : Type 0} (o : Option A) (k : A → Option B) (b : B) → option_and_then k o ≡ Some b → IsSome o
some-before None k b e = absurd cc
some-before (Some a) k b e = search rules

module _ {X : Type 0} (f : X → Form) (xs : List X) (k : ℕ) (x : X) (is : x ≡ get_or xs k x) (inside : k < length xs) where
  next_form : (before : List Assertion) →
      run_on (map f (drop k xs)) before ≡ option_and_then (run_on (map f (drop (suc k) xs))) (applied (f x) before)
  next_form before = ap (λ ys. run_on (map f ys) before) (drop-cons xs k x inside)
      ∙ ap (λ y. option_and_then (run_on (map f (drop (suc k) xs))) (applied (f y) before)) (sym is)

  pub applied-next : (before end : List Assertion) → run_on (map f (drop k xs)) before ≡ Some end → IsSome (applied (f x) before)
  applied-next before end runs = some-before (applied (f x) before) (run_on (map f (drop (suc k) xs))) end (sym (next_form before) ∙ runs)

  -- and the rest runs on from there
  pub run_on-next : (before after end : List Assertion) → run_on (map f (drop k xs)) before ≡ Some end → applied (f x) before ≡ Some after →
      run_on (map f (drop (k + 1) xs)) after ≡ Some end
  run_on-next before after end runs applies =
      let rest : option_and_then (run_on (map f (drop (suc k) xs))) (Some after) ≡ Some end =
      ap (option_and_then (run_on (map f (drop (suc k) xs)))) (sym applies) ∙ sym (next_form before) ∙ runs in
      ap (λ n. run_on (map f (drop n xs)) after) (add-one k) ∙ rest

-- the forms of what is read from the last
pub map-reverse : {X Y : Type 0} (f : X → Y) (xs : List X) → map f (reverse xs) ≡ reverse (map f xs)
map-reverse f [] = refl
map-reverse f (x ∷ xs) = ap (map f) (reverse-append (x ∷ []) xs) ∙ map_push f (reverse xs) x ∙ ap (λ l. l ++ f x ∷ []) (map-reverse f xs)
    ∙ sym (reverse-append (f x ∷ []) (map f xs))
