-- An assertion with a predicate's arguments put in holds where the assertion holds with their values as parameters.
use Rattle.std.proofs.Common.{◌≡◌, ◌↔◌, ℕ, IsTrue, IsSomeAnd, List, ◌∷◌, ◌++◌, length, Contains, Option, Some, sym, ap}
use Rattle.std.proofs.Common.{◌∙◌, subst}
use Rattle.std.specs.List.{AllByRecursion}
use Rattle.store_core.specs.declared.ids.CellId.{CellId}
use Rattle.store_core.specs.declared.value.Class.TheVariants as class
use Rattle.store_core.specs.declared.value.Value.{Value}
use Rattle.store_core.specs.declared.value.Value.TheVariants as value
use Rattle.store_core.specs.Tables.{TypeEntry}
use Rattle.store_core.specs.Stores.{StoreMap, IsLive}
use Rattle.routing_walks.specs.Walks.{DataAndPointers, Walk, IsOfVariant}
use Rattle.store_logic.specs.declared.term.Base.{Base}
use Rattle.store_logic.specs.declared.term.Term.{Term}
use Rattle.store_logic.specs.declared.term.Term.TheVariants as term
use Rattle.store_logic.specs.declared.arg.Arg.{Arg}
use Rattle.store_logic.specs.declared.assertion.Assertion.{Assertion}
use Rattle.store_logic.specs.Terms.{Environment, cell_in, truth_in, set_in, cell_at, truth_at, set_at}
use Rattle.store_logic.specs.Satisfaction.{Holds}
use Rattle.store_logic.specs.Filling.{args_for, is_true, filled_term, filled_set, filled}
use Rattle.store_logic.specs.Uses.{NameUse, term_names, set_name}
use Rattle.store_logic.proofs.AssertionLemmas.{assertion-induction}
use Rattle.store_logic.proofs.HoldsLemmas.{Holds-True, Holds-False, Holds-Truth, Holds-Is, Holds-Same, Holds-Member, Holds-Subset, Holds-Walk, Holds-Pred}
use Rattle.store_logic.proofs.HoldsLemmas.{Holds-Not, Holds-And, Holds-Or, Holds-Imp, Holds-Iff, Holds-Ex, Holds-All, Holds-ExSet, Holds-AllSet}
use Rattle.store_logic.proofs.ExpandingForms.{filled-True, filled-False, filled-Truth, filled-Is, filled-Same, filled-Member, filled-Subset, filled-Walk}
use Rattle.store_logic.proofs.ExpandingForms.{filled-Pred}
use Rattle.store_logic.proofs.ExpandingForms.{filled-Not, filled-And, filled-Or, filled-Imp, filled-Iff, filled-Ex, filled-All, filled-ExSet, filled-AllSet}
use Rattle.store_logic.proofs.ExpandingForms.{names-Truth, names-Is, names-Same, names-Member, names-Subset, names-Walk, names-Pred}
use Rattle.store_logic.proofs.ExpandingForms.{names-Not, names-And, names-Or, names-Imp, names-Iff, names-Ex, names-All, names-ExSet, names-AllSet}
use Rattle.store_logic.proofs.ExpandingForms.{names_at}
use Rattle.store_logic.proofs.ExpandingLists.{all-first, all-second}
use Rattle.store_logic.proofs.ExpandingTerms.{IsBoth, filled_truth-is}
use Rattle.store_logic.proofs.ExpandingValues.{in_body, around, term_value-filled, base_value-filled, arg_values-filled}
use Rattle.store_logic.proofs.SameLemmas.{both, itself, not-both, and-both, or-both, then-both, iff-both, some-both, all-both}

pub chained : {A B C : Type 0} → A ↔ B → B ↔ C → A ↔ C
chained ab bc = (λ a. bc.0 (ab.0 a), λ c. ab.1 (bc.1 c))

by : {X : Type 0} (P : X → Type 0) {x y : X} → x ≡ y → P x ↔ P y
by P same = (λ h. subst P same h, λ h. subst P (sym same) h)

by_two : {X Y : Type 0} (P : X → Y → Type 0) {x y : X} {u v : Y} → x ≡ y → u ≡ v → P x u ↔ P y v
by_two P {x} {y} {u} {v} same alike = chained (by (λ z. P z u) same) (by (P y) alike)

module _ (types : List TypeEntry) (s : StoreMap) (says : ℕ → List Value → Type 0) where
  pub Holds-is_true : (t : Term) (e : Environment) → Holds types s says (is_true t) e ↔ IsTrue (truth_at s e t)
  Holds-is_true term.Null e = (λ h. absurd ((Holds-False types s says e).0 h), λ h. absurd cc)
  Holds-is_true (term.At name fields) e = Holds-Truth types s says (term.At name fields) e

  -- equal assertions and equal facts
  pub Holds-same : {a b : Assertion} → a ≡ b → (e : Environment) → Holds types s says a e ↔ Holds types s says b e
  Holds-same same e = (λ h. subst (λ z. Holds types s says z e) same h, λ h. subst (λ z. Holds types s says z e) (sym same) h)

  module _ (args : List Arg) (e : Environment) (params : ℕ) where
    abbrev IsBodyWith : Assertion → Type 0
    IsBodyWith a = (bound : List Value) → AllByRecursion (IsBoth params args) (names_at a (length bound)) →
        Holds types s says (filled (args_for args) a (length bound)) (around s args e params bound) ↔ Holds types s says a (in_body s args e params bound)

    own : {xs ys : List NameUse} → xs ≡ ys → AllByRecursion (IsBoth params args) xs → AllByRecursion (IsBoth params args) ys
    own same h = subst (AllByRecursion (IsBoth params args)) same h

    first : (xs ys : List NameUse) → AllByRecursion (IsBoth params args) (xs ++ ys) → AllByRecursion (IsBoth params args) xs
    first = all-first (IsBoth params args)

    second : (xs ys : List NameUse) → AllByRecursion (IsBoth params args) (xs ++ ys) → AllByRecursion (IsBoth params args) ys
    second = all-second (IsBoth params args)

    module _ (bound : List Value) where
      abbrev d : ℕ
      d = length bound

      abbrev out : Environment
      out = around s args e params bound

      abbrev inner : Environment
      inner = in_body s args e params bound

      cells : (t : Term) → AllByRecursion (IsBoth params args) (term_names class.Reference t d) →
          cell_at s out (filled_term (args_for args) d t) ≡ cell_at s inner t
      cells t h = ap cell_in (term_value-filled s args e params class.Reference bound t h)

      sets : (name : Base) → AllByRecursion (IsBoth params args) (set_name name d) →
          set_at s out (filled_set (args_for args) d name) ≡ set_at s inner name
      sets name h = ap set_in (base_value-filled s args e params bound name h)

      truths : (t : Term) → AllByRecursion (IsBoth params args) (term_names class.Truth t d) →
          truth_at s out (filled_term (args_for args) d t) ≡ truth_at s inner t
      truths t h = ap truth_in (term_value-filled s args e params class.Truth bound t h)

    -- the assertion as it stands under quantifiers of the body
    pub Holds-filled : (a : Assertion) → IsBodyWith a
    Holds-filled = assertion-induction IsBodyWith (record {
      of_True = λ bound h. chained (Holds-same (filled-True (args_for args) (length bound)) (around s args e params bound))
          (both (Holds-True types s says (around s args e params bound))
          (itself)
          (Holds-True types s says (in_body s args e params bound)));
      of_False = λ bound h. chained (Holds-same (filled-False (args_for args) (length bound)) (around s args e params bound))
          (both (Holds-False types s says (around s args e params bound))
          (itself)
          (Holds-False types s says (in_body s args e params bound)));
      of_Truth = λ t bound h. chained (Holds-same (filled-Truth (args_for args) t (length bound) ∙ filled_truth-is args t (length bound))
          (around s args e params bound))
          (both (Holds-is_true _ (around s args e params bound))
          (by IsTrue (truths bound t (own (names-Truth t (length bound)) h)))
          (Holds-Truth types s says t (in_body s args e params bound)));
      of_Is = λ t v bound h. chained (Holds-same (filled-Is (args_for args) t v (length bound)) (around s args e params bound))
          (both (Holds-Is types s says _ v (around s args e params bound))
          (by (λ (c : Option CellId). IsSomeAnd c (IsOfVariant s v)) (cells bound t (own (names-Is t v (length bound)) h)))
          (Holds-Is types s says t v (in_body s args e params bound)));
      of_Same = λ t u bound h. chained (Holds-same (filled-Same (args_for args) t u (length bound)) (around s args e params bound))
          (both (Holds-Same types s says _ _ (around s args e params bound))
          (by_two (λ (c c' : Option CellId). c ≡ c') (cells bound t
          (first (term_names class.Reference t (length bound)) (term_names class.Reference u (length bound)) (own (names-Same t u (length bound)) h)))
          (cells bound u (second (term_names class.Reference t (length bound)) (term_names class.Reference u (length bound))
          (own (names-Same t u (length bound)) h))))
          (Holds-Same types s says t u (in_body s args e params bound)));
      of_Member = λ t set bound h. chained (Holds-same (filled-Member (args_for args) t set (length bound)) (around s args e params bound))
          (both (Holds-Member types s says _ _ (around s args e params bound))
          (by_two (λ (c : Option CellId) (cs : List CellId). IsSomeAnd c (Contains cs))
          (cells bound t (first (term_names class.Reference t (length bound)) (set_name set (length bound)) (own (names-Member t set (length bound)) h)))
          (sets bound set (second (term_names class.Reference t (length bound)) (set_name set (length bound)) (own (names-Member t set (length bound)) h))))
          (Holds-Member types s says t set (in_body s args e params bound)));
      of_Subset = λ set other bound h. chained (Holds-same (filled-Subset (args_for args) set other (length bound)) (around s args e params bound))
          (both (Holds-Subset types s says _ _ (around s args e params bound))
          (by_two (λ (cs cs' : List CellId). (c : CellId) → IsLive s c → Contains cs c → Contains cs' c)
          (sets bound set (first (set_name set (length bound)) (set_name other (length bound)) (own (names-Subset set other (length bound)) h)))
          (sets bound other (second (set_name set (length bound)) (set_name other (length bound)) (own (names-Subset set other (length bound)) h))))
          (Holds-Subset types s says set other (in_body s args e params bound)));
      of_Walk = λ t along u bound h. chained (Holds-same (filled-Walk (args_for args) t along u (length bound)) (around s args e params bound))
          (both (Holds-Walk types s says _ along _ (around s args e params bound))
          (by_two (λ (c c' : Option CellId). IsSomeAnd c (λ from. IsSomeAnd c' (λ to. Walk types s DataAndPointers along from to)))
          (cells bound t (first (term_names class.Reference t (length bound)) (term_names class.Reference u (length bound))
          (own (names-Walk t along u (length bound)) h))) (cells bound u
          (second (term_names class.Reference t (length bound)) (term_names class.Reference u (length bound)) (own (names-Walk t along u (length bound)) h))))
          (Holds-Walk types s says t along u (in_body s args e params bound)));
      of_Pred = λ k xs bound h. chained (Holds-same (filled-Pred (args_for args) k xs (length bound)) (around s args e params bound))
          (both (Holds-Pred types s says k _ (around s args e params bound))
          (by (says k) (arg_values-filled s args e params bound xs (own (names-Pred k xs (length bound)) h)))
          (Holds-Pred types s says k xs (in_body s args e params bound)));
      of_Not = λ a of_a bound h. chained (Holds-same (filled-Not (args_for args) a (length bound)) (around s args e params bound))
          (both (Holds-Not types s says _ (around s args e params bound))
          (not-both (of_a bound (own (names-Not a (length bound)) h)))
          (Holds-Not types s says a (in_body s args e params bound)));
      of_And = λ a b of_a of_b bound h. chained (Holds-same (filled-And (args_for args) a b (length bound)) (around s args e params bound))
          (both (Holds-And types s says _ _ (around s args e params bound))
          (and-both (of_a bound (first (names_at a (length bound)) (names_at b (length bound)) (own (names-And a b (length bound)) h)))
          (of_b bound (second (names_at a (length bound)) (names_at b (length bound)) (own (names-And a b (length bound)) h))))
          (Holds-And types s says a b (in_body s args e params bound)));
      of_Or = λ a b of_a of_b bound h. chained (Holds-same (filled-Or (args_for args) a b (length bound)) (around s args e params bound))
          (both (Holds-Or types s says _ _ (around s args e params bound))
          (or-both (of_a bound (first (names_at a (length bound)) (names_at b (length bound)) (own (names-Or a b (length bound)) h)))
          (of_b bound (second (names_at a (length bound)) (names_at b (length bound)) (own (names-Or a b (length bound)) h))))
          (Holds-Or types s says a b (in_body s args e params bound)));
      of_Imp = λ a b of_a of_b bound h. chained (Holds-same (filled-Imp (args_for args) a b (length bound)) (around s args e params bound))
          (both (Holds-Imp types s says _ _ (around s args e params bound))
          (then-both (of_a bound (first (names_at a (length bound)) (names_at b (length bound)) (own (names-Imp a b (length bound)) h)))
          (of_b bound (second (names_at a (length bound)) (names_at b (length bound)) (own (names-Imp a b (length bound)) h))))
          (Holds-Imp types s says a b (in_body s args e params bound)));
      of_Iff = λ a b of_a of_b bound h. chained (Holds-same (filled-Iff (args_for args) a b (length bound)) (around s args e params bound))
          (both (Holds-Iff types s says _ _ (around s args e params bound))
          (iff-both (of_a bound (first (names_at a (length bound)) (names_at b (length bound)) (own (names-Iff a b (length bound)) h)))
          (of_b bound (second (names_at a (length bound)) (names_at b (length bound)) (own (names-Iff a b (length bound)) h))))
          (Holds-Iff types s says a b (in_body s args e params bound)));
      of_Ex = λ ty a of_a bound h. chained (Holds-same (filled-Ex (args_for args) ty a (length bound)) (around s args e params bound))
          (both (Holds-Ex types s says ty _ (around s args e params bound))
          (some-both (λ c. itself) (λ c. of_a (value.Cell (Some c) ∷ bound) (own (names-Ex ty a (length bound)) h)))
          (Holds-Ex types s says ty a (in_body s args e params bound)));
      of_All = λ ty a of_a bound h. chained (Holds-same (filled-All (args_for args) ty a (length bound)) (around s args e params bound))
          (both (Holds-All types s says ty _ (around s args e params bound))
          (all-both (λ c. itself) (λ c. of_a (value.Cell (Some c) ∷ bound) (own (names-All ty a (length bound)) h)))
          (Holds-All types s says ty a (in_body s args e params bound)));
      of_ExSet = λ ty a of_a bound h. chained (Holds-same (filled-ExSet (args_for args) ty a (length bound)) (around s args e params bound))
          (both (Holds-ExSet types s says ty _ (around s args e params bound))
          (some-both (λ c. itself) (λ c. of_a (value.Cells c ∷ bound) (own (names-ExSet ty a (length bound)) h)))
          (Holds-ExSet types s says ty a (in_body s args e params bound)));
      of_AllSet = λ ty a of_a bound h. chained (Holds-same (filled-AllSet (args_for args) ty a (length bound)) (around s args e params bound))
          (both (Holds-AllSet types s says ty _ (around s args e params bound))
          (all-both (λ c. itself) (λ c. of_a (value.Cells c ∷ bound) (own (names-AllSet ty a (length bound)) h)))
          (Holds-AllSet types s says ty a (in_body s args e params bound)));
    })
