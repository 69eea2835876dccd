-- Assertions with a predicate's arguments put in: the predicates and the names in them, and their size.
use Rattle.std.proofs.Common.{◌≡◌, ℕ, suc, ◌+◌, ◌*◌, List, [], ◌∷◌, ◌++◌, flat_map, sym, ap, ap₂, ◌∙◌, subst, arith}
use Rattle.std.specs.List.{AllByRecursion}
use Rattle.store_core.specs.declared.value.Class.TheVariants as class
use Rattle.store_logic.specs.declared.arg.Arg.{Arg}
use Rattle.store_logic.specs.declared.assertion.Assertion.{Assertion}
use Rattle.store_logic.specs.Filling.{args_for, filled_term, filled_set, filled}
use Rattle.store_logic.specs.Sizes.{node_count}
use Rattle.store_logic.specs.Uses.{NameUse, term_names, set_name, arg_names, uses_in}
use Rattle.store_logic.proofs.AssertionLemmas.{assertion-induction}
use Rattle.store_logic.proofs.ExpandingForms.{filled-True, filled-False, filled-Truth, filled-Is, filled-Same, filled-Member, filled-Subset, filled-Walk}
use Rattle.store_logic.proofs.ExpandingForms.{filled-Pred}
use Rattle.store_logic.proofs.ExpandingForms.{filled-Not, filled-And, filled-Or, filled-Imp, filled-Iff, filled-Ex, filled-All, filled-ExSet, filled-AllSet}
use Rattle.store_logic.proofs.ExpandingForms.{uses-True, uses-False, uses-Is, uses-Same, uses-Member, uses-Subset, uses-Walk, uses-Pred}
use Rattle.store_logic.proofs.ExpandingForms.{uses-Not, uses-And, uses-Or, uses-Imp, uses-Iff, uses-Ex, uses-All, uses-ExSet, uses-AllSet}
use Rattle.store_logic.proofs.ExpandingForms.{names-True, names-False, names-Truth, names-Is, names-Same, names-Member, names-Subset, names-Walk, names-Pred}
use Rattle.store_logic.proofs.ExpandingForms.{names-Not, names-And, names-Or, names-Imp, names-Iff, names-Ex, names-All, names-ExSet, names-AllSet}
use Rattle.store_logic.proofs.ExpandingForms.{count-Truth, count-Is, count-Same, count-Member, count-Subset, count-Walk, count-Pred}
use Rattle.store_logic.proofs.ExpandingForms.{count-Not, count-And, count-Or, count-Imp, count-Iff, count-Ex, count-All, count-ExSet, count-AllSet}
use Rattle.store_logic.proofs.ExpandingForms.{names_at}
use Rattle.store_logic.proofs.ExpandingLists.{append-empty, first-empty, second-empty, all-first, all-second, all-append}
use Rattle.store_logic.proofs.ExpandingTerms.{IsBoth, IsStable, filled_truth-is, uses-is_true, count-is_true, names-term, names-set, names-args, names-truth}

module _ (args : List Arg) where
  -- ---- predicates

  abbrev HasNoMore : Assertion → Type 0
  HasNoMore a = (d : ℕ) → uses_in a ≡ [] → uses_in (filled (args_for args) a d) ≡ []

  -- what is put in has no predicates
  pub uses-filled : (a : Assertion) → HasNoMore a
  uses-filled = assertion-induction HasNoMore (record {
    of_True = λ d none. ap uses_in (filled-True (args_for args) d) ∙ uses-True;
    of_False = λ d none. ap uses_in (filled-False (args_for args) d) ∙ uses-False;
    of_Truth = λ t d none. ap uses_in (filled-Truth (args_for args) t d) ∙ ap uses_in (filled_truth-is args t d)
        ∙ uses-is_true (filled_term (args_for args) d t);
    of_Is = λ t v d none. ap uses_in (filled-Is (args_for args) t v d) ∙ uses-Is _ v;
    of_Same = λ t u d none. ap uses_in (filled-Same (args_for args) t u d) ∙ uses-Same _ _;
    of_Member = λ t set d none. ap uses_in (filled-Member (args_for args) t set d) ∙ uses-Member _ _;
    of_Subset = λ set other d none. ap uses_in (filled-Subset (args_for args) set other d) ∙ uses-Subset _ _;
    of_Walk = λ t along u d none. ap uses_in (filled-Walk (args_for args) t along u d) ∙ uses-Walk _ along _;
    of_Pred = λ k args d none. let clash : (k, args) ∷ [] ≡ [] = sym (uses-Pred k args) ∙ none in absurd cc;
    of_Not = λ a of_a d none. ap uses_in (filled-Not (args_for args) a d) ∙ uses-Not _ ∙ of_a d (sym (uses-Not a) ∙ none);
    of_And = λ a b of_a of_b d none. ap uses_in (filled-And (args_for args) a b d) ∙ uses-And _ _
        ∙ append-empty _ _ (of_a d (first-empty _ (uses_in b) (sym (uses-And a b) ∙ none)))
        (of_b d (second-empty (uses_in a) _ (sym (uses-And a b) ∙ none)));
    of_Or = λ a b of_a of_b d none. ap uses_in (filled-Or (args_for args) a b d) ∙ uses-Or _ _
        ∙ append-empty _ _ (of_a d (first-empty _ (uses_in b) (sym (uses-Or a b) ∙ none)))
        (of_b d (second-empty (uses_in a) _ (sym (uses-Or a b) ∙ none)));
    of_Imp = λ a b of_a of_b d none. ap uses_in (filled-Imp (args_for args) a b d) ∙ uses-Imp _ _
        ∙ append-empty _ _ (of_a d (first-empty _ (uses_in b) (sym (uses-Imp a b) ∙ none)))
        (of_b d (second-empty (uses_in a) _ (sym (uses-Imp a b) ∙ none)));
    of_Iff = λ a b of_a of_b d none. ap uses_in (filled-Iff (args_for args) a b d) ∙ uses-Iff _ _
        ∙ append-empty _ _ (of_a d (first-empty _ (uses_in b) (sym (uses-Iff a b) ∙ none)))
        (of_b d (second-empty (uses_in a) _ (sym (uses-Iff a b) ∙ none)));
    of_Ex = λ ty a of_a d none. ap uses_in (filled-Ex (args_for args) ty a d) ∙ uses-Ex ty _ ∙ of_a (suc d) (sym (uses-Ex ty a) ∙ none);
    of_All = λ ty a of_a d none. ap uses_in (filled-All (args_for args) ty a d) ∙ uses-All ty _ ∙ of_a (suc d) (sym (uses-All ty a) ∙ none);
    of_ExSet = λ ty a of_a d none. ap uses_in (filled-ExSet (args_for args) ty a d) ∙ uses-ExSet ty _ ∙ of_a (suc d) (sym (uses-ExSet ty a) ∙ none);
    of_AllSet = λ ty a of_a d none. ap uses_in (filled-AllSet (args_for args) ty a d) ∙ uses-AllSet ty _ ∙ of_a (suc d) (sym (uses-AllSet ty a) ∙ none);
  })

  -- ---- size

  abbrev IsAsLarge : Assertion → Type 0
  IsAsLarge a = (d : ℕ) → node_count (filled (args_for args) a d) ≡ node_count a

  -- it has as many nodes as before
  pub count-filled : (a : Assertion) → IsAsLarge a
  count-filled = assertion-induction IsAsLarge (record {
    of_True = λ d. ap node_count (filled-True (args_for args) d);
    of_False = λ d. ap node_count (filled-False (args_for args) d);
    of_Truth = λ t d. ap node_count (filled-Truth (args_for args) t d) ∙ ap node_count (filled_truth-is args t d)
        ∙ count-is_true (filled_term (args_for args) d t) ∙ sym (count-Truth t);
    of_Is = λ t v d. ap node_count (filled-Is (args_for args) t v d) ∙ count-Is _ v ∙ sym (count-Is t v);
    of_Same = λ t u d. ap node_count (filled-Same (args_for args) t u d) ∙ count-Same _ _ ∙ sym (count-Same t u);
    of_Member = λ t set d. ap node_count (filled-Member (args_for args) t set d) ∙ count-Member _ _ ∙ sym (count-Member t set);
    of_Subset = λ set other d. ap node_count (filled-Subset (args_for args) set other d) ∙ count-Subset _ _ ∙ sym (count-Subset set other);
    of_Walk = λ t along u d. ap node_count (filled-Walk (args_for args) t along u d) ∙ count-Walk _ along _ ∙ sym (count-Walk t along u);
    of_Pred = λ k xs d. ap node_count (filled-Pred (args_for args) k xs d) ∙ count-Pred k _ ∙ sym (count-Pred k xs);
    of_Not = λ a of_a d. ap node_count (filled-Not (args_for args) a d) ∙ count-Not _ ∙ ap (λ n. n + 1) (of_a d) ∙ sym (count-Not a);
    of_And = λ a b of_a of_b d. ap node_count (filled-And (args_for args) a b d) ∙ count-And _ _ ∙ ap₂ (λ m n. m + n + 1) (of_a d) (of_b d)
        ∙ sym (count-And a b);
    of_Or = λ a b of_a of_b d. ap node_count (filled-Or (args_for args) a b d) ∙ count-Or _ _ ∙ ap₂ (λ m n. m + n + 1) (of_a d) (of_b d) ∙ sym (count-Or a b);
    of_Imp = λ a b of_a of_b d. ap node_count (filled-Imp (args_for args) a b d) ∙ count-Imp _ _ ∙ ap₂ (λ m n. m + n + 1) (of_a d) (of_b d)
        ∙ sym (count-Imp a b);
    of_Iff = λ a b of_a of_b d. ap node_count (filled-Iff (args_for args) a b d) ∙ count-Iff _ _ ∙ ap₂ (λ m n. 2 * (m + n) + 1) (of_a d) (of_b d)
        ∙ sym (count-Iff a b);
    of_Ex = λ ty a of_a d. ap node_count (filled-Ex (args_for args) ty a d) ∙ count-Ex ty _ ∙ ap (λ n. n + 1) (of_a (suc d)) ∙ sym (count-Ex ty a);
    of_All = λ ty a of_a d. ap node_count (filled-All (args_for args) ty a d) ∙ count-All ty _ ∙ ap (λ n. n + 1) (of_a (suc d)) ∙ sym (count-All ty a);
    of_ExSet = λ ty a of_a d. ap node_count (filled-ExSet (args_for args) ty a d) ∙ count-ExSet ty _ ∙ ap (λ n. n + 1) (of_a (suc d)) ∙ sym (count-ExSet ty a);
    of_AllSet = λ ty a of_a d. ap node_count (filled-AllSet (args_for args) ty a d) ∙ count-AllSet ty _ ∙ ap (λ n. n + 1) (of_a (suc d))
        ∙ sym (count-AllSet ty a);
  })

-- ---- names

module _ (P : NameUse → Type 0) (stable : IsStable P) (params : ℕ) (args : List Arg) (D : ℕ)
    (of_args : AllByRecursion P (flat_map (λ x. arg_names x D) args)) where
  abbrev KeepsNames : Assertion → Type 0
  KeepsNames a = (d : ℕ) → AllByRecursion (IsBoth params args) (names_at a d) → AllByRecursion P (names_at (filled (args_for args) a d) (D + d))

  as_names : {xs ys : List NameUse} → ys ≡ xs → AllByRecursion P xs → AllByRecursion P ys
  as_names same h = subst (AllByRecursion P) (sym same) h

  own : {xs ys : List NameUse} → xs ≡ ys → AllByRecursion (IsBoth params args) xs → AllByRecursion (IsBoth params args) ys
  own same h = subst (AllByRecursion (IsBoth params args)) same h

  -- the names of two parts
  two : (xs ys us vs : List NameUse) → (AllByRecursion (IsBoth params args) xs → AllByRecursion P us) →
      (AllByRecursion (IsBoth params args) ys → AllByRecursion P vs) → AllByRecursion (IsBoth params args) (xs ++ ys) → AllByRecursion P (us ++ vs)
  two xs ys us vs f g h = all-append P us vs (f (all-first (IsBoth params args) xs ys h)) (g (all-second (IsBoth params args) xs ys h))

  -- the names of a predicate's own are of those of the use, at its depth
  pub names-filled : (a : Assertion) → KeepsNames a
  names-filled = assertion-induction KeepsNames (record {
    of_True = λ d h. as_names (ap (λ z. names_at z (D + d)) (filled-True (args_for args) d) ∙ names-True (D + d)) tt;
    of_False = λ d h. as_names (ap (λ z. names_at z (D + d)) (filled-False (args_for args) d) ∙ names-False (D + d)) tt;
    of_Truth = λ t d h. as_names (ap (λ z. names_at z (D + d)) (filled-Truth (args_for args) t d))
        (names-truth P stable params args D of_args t d (own (names-Truth t d) h));
    of_Is = λ t v d h. as_names (ap (λ z. names_at z (D + d)) (filled-Is (args_for args) t v d) ∙ names-Is _ v (D + d))
        (names-term P stable params args D of_args class.Reference t d (own (names-Is t v d) h));
    of_Same = λ t u d h. as_names (ap (λ z. names_at z (D + d)) (filled-Same (args_for args) t u d) ∙ names-Same _ _ (D + d))
        (two (term_names class.Reference t d) (term_names class.Reference u d)
        (term_names class.Reference (filled_term (args_for args) d t) (D + d)) (term_names class.Reference (filled_term (args_for args) d u) (D + d))
        (names-term P stable params args D of_args class.Reference t d) (names-term P stable params args D of_args class.Reference u d)
        (own (names-Same t u d) h));
    of_Member = λ t set d h. as_names (ap (λ z. names_at z (D + d)) (filled-Member (args_for args) t set d) ∙ names-Member _ _ (D + d))
        (two (term_names class.Reference t d) (set_name set d)
        (term_names class.Reference (filled_term (args_for args) d t) (D + d)) (set_name (filled_set (args_for args) d set) (D + d))
        (names-term P stable params args D of_args class.Reference t d) (names-set P stable params args D of_args set d)
        (own (names-Member t set d) h));
    of_Subset = λ set other d h. as_names (ap (λ z. names_at z (D + d)) (filled-Subset (args_for args) set other d) ∙ names-Subset _ _ (D + d))
        (two (set_name set d) (set_name other d)
        (set_name (filled_set (args_for args) d set) (D + d)) (set_name (filled_set (args_for args) d other) (D + d))
        (names-set P stable params args D of_args set d) (names-set P stable params args D of_args other d) (own (names-Subset set other d) h));
    of_Walk = λ t along u d h. as_names (ap (λ z. names_at z (D + d)) (filled-Walk (args_for args) t along u d) ∙ names-Walk _ along _ (D + d))
        (two (term_names class.Reference t d) (term_names class.Reference u d)
        (term_names class.Reference (filled_term (args_for args) d t) (D + d)) (term_names class.Reference (filled_term (args_for args) d u) (D + d))
        (names-term P stable params args D of_args class.Reference t d) (names-term P stable params args D of_args class.Reference u d)
        (own (names-Walk t along u d) h));
    of_Pred = λ k xs d h. as_names (ap (λ z. names_at z (D + d)) (filled-Pred (args_for args) k xs d) ∙ names-Pred k _ (D + d))
        (names-args P stable params args D of_args xs d (own (names-Pred k xs d) h));
    of_Not = λ a of_a d h. as_names (ap (λ z. names_at z (D + d)) (filled-Not (args_for args) a d) ∙ names-Not _ (D + d)) (of_a d (own (names-Not a d) h));
    of_And = λ a b of_a of_b d h. as_names (ap (λ z. names_at z (D + d)) (filled-And (args_for args) a b d) ∙ names-And _ _ (D + d))
        (two (names_at a d) (names_at b d)
        (names_at (filled (args_for args) a d) (D + d)) (names_at (filled (args_for args) b d) (D + d)) (of_a d) (of_b d) (own (names-And a b d) h));
    of_Or = λ a b of_a of_b d h. as_names (ap (λ z. names_at z (D + d)) (filled-Or (args_for args) a b d) ∙ names-Or _ _ (D + d))
        (two (names_at a d) (names_at b d)
        (names_at (filled (args_for args) a d) (D + d)) (names_at (filled (args_for args) b d) (D + d)) (of_a d) (of_b d) (own (names-Or a b d) h));
    of_Imp = λ a b of_a of_b d h. as_names (ap (λ z. names_at z (D + d)) (filled-Imp (args_for args) a b d) ∙ names-Imp _ _ (D + d))
        (two (names_at a d) (names_at b d)
        (names_at (filled (args_for args) a d) (D + d)) (names_at (filled (args_for args) b d) (D + d)) (of_a d) (of_b d) (own (names-Imp a b d) h));
    of_Iff = λ a b of_a of_b d h. as_names (ap (λ z. names_at z (D + d)) (filled-Iff (args_for args) a b d) ∙ names-Iff _ _ (D + d))
        (two (names_at a d) (names_at b d)
        (names_at (filled (args_for args) a d) (D + d)) (names_at (filled (args_for args) b d) (D + d)) (of_a d) (of_b d) (own (names-Iff a b d) h));
    of_Ex = λ ty a of_a d h. as_names (ap (λ z. names_at z (D + d)) (filled-Ex (args_for args) ty a d) ∙ names-Ex ty _ (D + d))
        (subst (λ n. AllByRecursion P (names_at (filled (args_for args) a (suc d)) n)) (let more : D + suc d ≡ suc (D + d) = omega arith in more)
        (of_a (suc d) (own (names-Ex ty a d) h)));
    of_All = λ ty a of_a d h. as_names (ap (λ z. names_at z (D + d)) (filled-All (args_for args) ty a d) ∙ names-All ty _ (D + d))
        (subst (λ n. AllByRecursion P (names_at (filled (args_for args) a (suc d)) n)) (let more : D + suc d ≡ suc (D + d) = omega arith in more)
        (of_a (suc d) (own (names-All ty a d) h)));
    of_ExSet = λ ty a of_a d h. as_names (ap (λ z. names_at z (D + d)) (filled-ExSet (args_for args) ty a d) ∙ names-ExSet ty _ (D + d))
        (subst (λ n. AllByRecursion P (names_at (filled (args_for args) a (suc d)) n)) (let more : D + suc d ≡ suc (D + d) = omega arith in more)
        (of_a (suc d) (own (names-ExSet ty a d) h)));
    of_AllSet = λ ty a of_a d h. as_names (ap (λ z. names_at z (D + d)) (filled-AllSet (args_for args) ty a d) ∙ names-AllSet ty _ (D + d))
        (subst (λ n. AllByRecursion P (names_at (filled (args_for args) a (suc d)) n)) (let more : D + suc d ≡ suc (D + d) = omega arith in more)
        (of_a (suc d) (own (names-AllSet ty a d) h)));
  })
