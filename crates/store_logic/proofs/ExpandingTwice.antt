-- Arguments put in twice: first those of a use that stands in a predicate's body, and then that predicate's own.
use Rattle.std.proofs.Common.{◌≡◌, ℕ, suc, ◌+◌, Option, Some, None, IsSomeAnd, List, [], ◌∷◌, ◌++◌, map, flat_map, slice_get}
use Rattle.std.proofs.Common.{sym, refl, ap, ap₂, ◌∙◌, subst, arith, append_assoc}
use Rattle.std.specs.Prelude.{option_map}
use Rattle.std.specs.List.{AllByRecursion}
use Rattle.std.specs.Option.{option_map_or}
use Rattle.std.proofs.lemmas.Option.{slice_get-map}
use Rattle.store_core.specs.declared.ids.FieldId.{FieldId}
use Rattle.store_core.specs.declared.value.Class.{Class}
use Rattle.store_core.specs.declared.value.Class.TheVariants as class
use Rattle.store_logic.specs.declared.term.Base.{Base}
use Rattle.store_logic.specs.declared.term.Base.TheVariants as base
use Rattle.store_logic.specs.declared.term.Term.{Term}
use Rattle.store_logic.specs.declared.term.Term.TheVariants as term
use Rattle.store_logic.specs.declared.arg.Arg.{Arg}
use Rattle.store_logic.specs.declared.arg.Arg.TheVariants as arg
use Rattle.store_logic.specs.declared.assertion.Assertion.{Assertion}
use Rattle.store_logic.specs.declared.assertion.Assertion.TheVariants as assertion
use Rattle.store_logic.specs.Filling.{of_term, arg_term, args_for, shifted_base, shifted_term, shifted, path_from, name_in}
use Rattle.store_logic.specs.Filling.{is_true, filled_term, filled_truth, filled_set, filled_arg, filled}
use Rattle.store_logic.specs.Uses.{NameUse, term_names, set_name, arg_names, arg_class, IsGiven}
use Rattle.store_logic.proofs.AssertionLemmas.{assertion-induction}
use Rattle.store_logic.proofs.ExpandingForms.{filled-True, filled-False, filled-Truth, filled-Is, filled-Same, filled-Member, filled-Subset, filled-Walk}
use Rattle.store_logic.proofs.ExpandingForms.{filled-Pred}
use Rattle.store_logic.proofs.ExpandingForms.{filled-Not, filled-And, filled-Or, filled-Imp, filled-Iff, filled-Ex, filled-All, filled-ExSet, filled-AllSet}
use Rattle.store_logic.proofs.ExpandingForms.{names-Truth, names-Is, names-Same, names-Member, names-Subset, names-Walk, names-Pred}
use Rattle.store_logic.proofs.ExpandingForms.{names-Not, names-And, names-Or, names-Imp, names-Iff, names-Ex, names-All, names-ExSet, names-AllSet}
use Rattle.store_logic.proofs.ExpandingForms.{names_at}
use Rattle.store_logic.proofs.ExpandingLists.{all-first, all-second}
use Rattle.store_logic.proofs.ExpandingTerms.{class_before, filled_truth-is, filled-is_true}

shifted_base-add : (D d : ℕ) (name : Base) → shifted_base (D + d) name ≡ shifted_base d (shifted_base D name)
shifted_base-add D d (base.Var v) = refl
shifted_base-add D d (base.Bound k) = ap base.Bound (let same : k + (D + d) ≡ (k + D) + d = omega arith in same)
shifted_base-add D d (base.Param k) = refl

shifted_term-add : (D d : ℕ) (t : Term) → shifted_term (D + d) t ≡ shifted_term d (shifted_term D t)
shifted_term-add D d term.Null = refl
shifted_term-add D d (term.At name fields) = ap (λ (b : Base). term.At b fields) (shifted_base-add D d name)

path_from-append : (t : Term) (fields more : List FieldId) →
    path_from (of_term t) (fields ++ more) ≡ path_from (of_term (path_from (of_term t) fields)) more
path_from-append term.Null fields more = refl
path_from-append (term.At name before) fields more = ap (term.At name) (sym (append_assoc before fields more))

shifted-path : (d : ℕ) (t : Term) (fields : List FieldId) →
    shifted_term d (path_from (of_term t) fields) ≡ path_from (of_term (shifted_term d t)) fields
shifted-path d term.Null fields = refl
shifted-path d (term.At name before) fields = refl

-- a predicate's arguments put into a use under D quantifiers of its body, and what the use's arguments become
module _ (args : List Arg) (D : ℕ) (inner : List Arg) where
  abbrev pub through : List Arg
  through = map (filled_arg (args_for args) D) inner

  abbrev Gets : List NameUse → Type 0
  Gets = AllByRecursion (IsGiven inner)

  term_twice : (t : Term) (fields : List FieldId) (d : ℕ) →
      filled_term (args_for args) (D + d) (path_from (of_term (shifted_term d t)) fields)
      ≡ path_from (of_term (shifted_term d (filled_term (args_for args) D t))) fields
  term_twice term.Null fields d = refl
  term_twice (term.At (base.Var v) more) fields d = refl
  term_twice (term.At (base.Bound k) more) fields d = refl
  term_twice (term.At (base.Param j) more) fields d = of (option_map_or arg_term (slice_get args j) term.Null)
    where
      of : (u : Term) → path_from (of_term (shifted_term (D + d) u)) (more ++ fields)
          ≡ path_from (of_term (shifted_term d (path_from (of_term (shifted_term D u)) more))) fields
      of u = ap (λ (t : Term). path_from (of_term t) (more ++ fields)) (shifted_term-add D d u)
          ∙ path_from-append (shifted_term d (shifted_term D u)) more fields
          ∙ ap (λ (t : Term). path_from (of_term t) fields) (sym (shifted-path d (shifted_term D u) more))

  set_twice : (name : Base) (d : ℕ) → filled_set (args_for args) (D + d) (shifted_base d name) ≡ shifted_base d (filled_set (args_for args) D name)
  set_twice (base.Var v) d = refl
  set_twice (base.Bound k) d = refl
  set_twice (base.Param j) d = of (option_map_or arg_term (slice_get args j) term.Null)
    where
      of : (u : Term) → name_in (of_term (shifted_term (D + d) u)) (base.Param j)
          ≡ shifted_base d (name_in (of_term (shifted_term D u)) (base.Param j))
      of term.Null = refl
      of (term.At name fields) = shifted_base-add D d name

  gets : (c : Class) (k d : ℕ) (fields : List FieldId) → Gets (term_names c (term.At (base.Param k) fields) d) →
      IsSomeAnd (slice_get inner k) (λ x. arg_class x ≡ class_before fields c)
  gets c k d [] h = h.0
  gets c k d (f ∷ fields) h = h.0

  no_set : (c : Class) (fields : List FieldId) → (class.Set ≡ c → ⊥) → class.Set ≡ class_before fields c → ⊥
  no_set c [] other h = other h
  no_set c (f ∷ fields) other h = let clash : class.Set ≡ class.Reference = h in absurd cc

  term-twice : (c : Class) → (class.Set ≡ c → ⊥) → (t : Term) (d : ℕ) → Gets (term_names c t d) →
      filled_term (args_for args) (D + d) (filled_term (args_for inner) d t) ≡ filled_term (args_for through) d t
  term-twice c other term.Null d h = refl
  term-twice c other (term.At (base.Var v) fields) d h = refl
  term-twice c other (term.At (base.Bound k) fields) d h = refl
  term-twice c other (term.At (base.Param k) fields) d h =
      of (slice_get inner k) (gets c k d fields h)
      ∙ ap (λ (o : Option Arg). path_from (shifted d (of_term (option_map_or arg_term o term.Null))) fields)
      (sym (slice_get-map (filled_arg (args_for args) D) inner k))
    where
      of : (o : Option Arg) → IsSomeAnd o (λ x. arg_class x ≡ class_before fields c) →
          filled_term (args_for args) (D + d) (path_from (shifted d (of_term (option_map_or arg_term o term.Null))) fields)
          ≡ path_from (shifted d (of_term (option_map_or arg_term (option_map (filled_arg (args_for args) D) o) term.Null))) fields
      of None given = absurd given
      of (Some (arg.Cell t)) given = term_twice t fields d
      of (Some (arg.Set name)) given = absurd (no_set c fields other given)
      of (Some (arg.Truth t)) given = term_twice t fields d

  set-twice : (name : Base) (d : ℕ) → Gets (set_name name d) →
      filled_set (args_for args) (D + d) (filled_set (args_for inner) d name) ≡ filled_set (args_for through) d name
  set-twice (base.Var v) d h = refl
  set-twice (base.Bound k) d h = refl
  set-twice (base.Param k) d h =
      of (slice_get inner k) h.0
      ∙ ap (λ (o : Option Arg). name_in (shifted d (of_term (option_map_or arg_term o term.Null))) (base.Param k))
      (sym (slice_get-map (filled_arg (args_for args) D) inner k))
    where
      of : (o : Option Arg) → IsSomeAnd o (λ x. arg_class x ≡ class.Set) →
          filled_set (args_for args) (D + d) (name_in (shifted d (of_term (option_map_or arg_term o term.Null))) (base.Param k))
          ≡ name_in (shifted d (of_term (option_map_or arg_term (option_map (filled_arg (args_for args) D) o) term.Null))) (base.Param k)
      of None given = absurd given
      of (Some (arg.Cell t)) given = let clash : class.Reference ≡ class.Set = given in absurd cc
      of (Some (arg.Set name)) given = set_twice name d
      of (Some (arg.Truth t)) given = let clash : class.Truth ≡ class.Set = given in absurd cc

  not_reference : class.Set ≡ class.Reference → ⊥
  not_reference clash = absurd cc

  not_truth : class.Set ≡ class.Truth → ⊥
  not_truth clash = absurd cc

  cell-twice : (t : Term) (d : ℕ) → Gets (term_names class.Reference t d) →
      filled_term (args_for args) (D + d) (filled_term (args_for inner) d t) ≡ filled_term (args_for through) d t
  cell-twice = term-twice class.Reference not_reference

  truth-twice : (t : Term) (d : ℕ) → Gets (term_names class.Truth t d) →
      filled (args_for args) (filled_truth (args_for inner) d t) (D + d) ≡ filled_truth (args_for through) d t
  truth-twice t d h = ap (λ (a : Assertion). filled (args_for args) a (D + d)) (filled_truth-is inner t d)
      ∙ filled-is_true args (filled_term (args_for inner) d t) (D + d)
      ∙ ap is_true (term-twice class.Truth not_truth t d h)
      ∙ sym (filled_truth-is through t d)

  arg-twice : (x : Arg) (d : ℕ) → Gets (arg_names x d) →
      filled_arg (args_for args) (D + d) (filled_arg (args_for inner) d x) ≡ filled_arg (args_for through) d x
  arg-twice (arg.Cell t) d h = ap arg.Cell (cell-twice t d h)
  arg-twice (arg.Set name) d h = ap arg.Set (set-twice name d h)
  arg-twice (arg.Truth t) d h = ap arg.Truth (term-twice class.Truth not_truth t d h)

  args-twice : (xs : List Arg) (d : ℕ) → Gets (flat_map (λ x. arg_names x d) xs) →
      map (filled_arg (args_for args) (D + d)) (map (filled_arg (args_for inner) d) xs) ≡ map (filled_arg (args_for through) d) xs
  args-twice [] d h = refl
  args-twice (x ∷ xs) d h =
      let rest = flat_map (λ y. arg_names y d) xs in
      ap₂ (λ (y : Arg) (ys : List Arg). y ∷ ys) (arg-twice x d (all-first (IsGiven inner) (arg_names x d) rest h))
      (args-twice xs d (all-second (IsGiven inner) (arg_names x d) rest h))

  abbrev IsOnce : Assertion → Type 0
  IsOnce a = (d : ℕ) → Gets (names_at a d) → filled (args_for args) (filled (args_for inner) a d) (D + d) ≡ filled (args_for through) a d

  own : {xs ys : List NameUse} → xs ≡ ys → Gets xs → Gets ys
  own same h = subst Gets same h

  first : (xs ys : List NameUse) → Gets (xs ++ ys) → Gets xs
  first = all-first (IsGiven inner)

  second : (xs ys : List NameUse) → Gets (xs ++ ys) → Gets ys
  second = all-second (IsGiven inner)

  -- under one quantifier more
  deeper : (a : Assertion) (d : ℕ) → filled (args_for args) (filled (args_for inner) a (suc d)) (D + suc d) ≡ filled (args_for through) a (suc d) →
      filled (args_for args) (filled (args_for inner) a (suc d)) (suc (D + d)) ≡ filled (args_for through) a (suc d)
  deeper a d h = subst (λ (n : ℕ). filled (args_for args) (filled (args_for inner) a (suc d)) n ≡ filled (args_for through) a (suc d))
      (let more : D + suc d ≡ suc (D + d) = omega arith in more) h

  -- it is the same as the use's arguments, filled, put in once
  pub filled-twice : (a : Assertion) → IsOnce a
  filled-twice = assertion-induction IsOnce (record {
    of_True = λ d h. ap (λ z. filled (args_for args) z (D + d)) (filled-True (args_for inner) d)
        ∙ filled-True (args_for args) (D + d) ∙ sym (filled-True (args_for through) d);
    of_False = λ d h. ap (λ z. filled (args_for args) z (D + d)) (filled-False (args_for inner) d)
        ∙ filled-False (args_for args) (D + d) ∙ sym (filled-False (args_for through) d);
    of_Truth = λ t d h. ap (λ z. filled (args_for args) z (D + d)) (filled-Truth (args_for inner) t d)
        ∙ truth-twice t d (own (names-Truth t d) h) ∙ sym (filled-Truth (args_for through) t d);
    of_Is = λ t v d h. ap (λ z. filled (args_for args) z (D + d)) (filled-Is (args_for inner) t v d)
        ∙ filled-Is (args_for args) _ v (D + d) ∙ ap (λ z. assertion.Is z v) (cell-twice t d (own (names-Is t v d) h))
        ∙ sym (filled-Is (args_for through) t v d);
    of_Same = λ t u d h. ap (λ z. filled (args_for args) z (D + d)) (filled-Same (args_for inner) t u d)
        ∙ filled-Same (args_for args) _ _ (D + d)
        ∙ ap₂ assertion.Same (cell-twice t d (first (term_names class.Reference t d) (term_names class.Reference u d) (own (names-Same t u d) h)))
        (cell-twice u d (second (term_names class.Reference t d) (term_names class.Reference u d) (own (names-Same t u d) h)))
        ∙ sym (filled-Same (args_for through) t u d);
    of_Member = λ t set d h. ap (λ z. filled (args_for args) z (D + d)) (filled-Member (args_for inner) t set d)
        ∙ filled-Member (args_for args) _ _ (D + d)
        ∙ ap₂ assertion.Member (cell-twice t d (first (term_names class.Reference t d) (set_name set d) (own (names-Member t set d) h)))
        (set-twice set d (second (term_names class.Reference t d) (set_name set d) (own (names-Member t set d) h)))
        ∙ sym (filled-Member (args_for through) t set d);
    of_Subset = λ set other d h. ap (λ z. filled (args_for args) z (D + d)) (filled-Subset (args_for inner) set other d)
        ∙ filled-Subset (args_for args) _ _ (D + d)
        ∙ ap₂ assertion.Subset (set-twice set d (first (set_name set d) (set_name other d) (own (names-Subset set other d) h)))
        (set-twice other d (second (set_name set d) (set_name other d) (own (names-Subset set other d) h)))
        ∙ sym (filled-Subset (args_for through) set other d);
    of_Walk = λ t along u d h. ap (λ z. filled (args_for args) z (D + d)) (filled-Walk (args_for inner) t along u d)
        ∙ filled-Walk (args_for args) _ along _ (D + d)
        ∙ ap₂ (λ (y z : Term). assertion.Walk y along z) (cell-twice t d
        (first (term_names class.Reference t d) (term_names class.Reference u d) (own (names-Walk t along u d) h)))
        (cell-twice u d (second (term_names class.Reference t d) (term_names class.Reference u d) (own (names-Walk t along u d) h)))
        ∙ sym (filled-Walk (args_for through) t along u d);
    of_Pred = λ k xs d h. ap (λ z. filled (args_for args) z (D + d)) (filled-Pred (args_for inner) k xs d)
        ∙ filled-Pred (args_for args) k _ (D + d) ∙ ap (assertion.Pred k) (args-twice xs d (own (names-Pred k xs d) h))
        ∙ sym (filled-Pred (args_for through) k xs d);
    of_Not = λ a of_a d h. ap (λ z. filled (args_for args) z (D + d)) (filled-Not (args_for inner) a d)
        ∙ filled-Not (args_for args) _ (D + d) ∙ ap assertion.Not (of_a d (own (names-Not a d) h)) ∙ sym (filled-Not (args_for through) a d);
    of_And = λ a b of_a of_b d h. ap (λ z. filled (args_for args) z (D + d)) (filled-And (args_for inner) a b d)
        ∙ filled-And (args_for args) _ _ (D + d)
        ∙ ap₂ assertion.And (of_a d (first (names_at a d) (names_at b d) (own (names-And a b d) h)))
        (of_b d (second (names_at a d) (names_at b d) (own (names-And a b d) h))) ∙ sym (filled-And (args_for through) a b d);
    of_Or = λ a b of_a of_b d h. ap (λ z. filled (args_for args) z (D + d)) (filled-Or (args_for inner) a b d)
        ∙ filled-Or (args_for args) _ _ (D + d)
        ∙ ap₂ assertion.Or (of_a d (first (names_at a d) (names_at b d) (own (names-Or a b d) h)))
        (of_b d (second (names_at a d) (names_at b d) (own (names-Or a b d) h))) ∙ sym (filled-Or (args_for through) a b d);
    of_Imp = λ a b of_a of_b d h. ap (λ z. filled (args_for args) z (D + d)) (filled-Imp (args_for inner) a b d)
        ∙ filled-Imp (args_for args) _ _ (D + d)
        ∙ ap₂ assertion.Imp (of_a d (first (names_at a d) (names_at b d) (own (names-Imp a b d) h)))
        (of_b d (second (names_at a d) (names_at b d) (own (names-Imp a b d) h))) ∙ sym (filled-Imp (args_for through) a b d);
    of_Iff = λ a b of_a of_b d h. ap (λ z. filled (args_for args) z (D + d)) (filled-Iff (args_for inner) a b d)
        ∙ filled-Iff (args_for args) _ _ (D + d)
        ∙ ap₂ assertion.Iff (of_a d (first (names_at a d) (names_at b d) (own (names-Iff a b d) h)))
        (of_b d (second (names_at a d) (names_at b d) (own (names-Iff a b d) h))) ∙ sym (filled-Iff (args_for through) a b d);
    of_Ex = λ ty a of_a d h. ap (λ z. filled (args_for args) z (D + d)) (filled-Ex (args_for inner) ty a d)
        ∙ filled-Ex (args_for args) ty _ (D + d) ∙ ap (assertion.Ex ty) (deeper a d (of_a (suc d) (own (names-Ex ty a d) h)))
        ∙ sym (filled-Ex (args_for through) ty a d);
    of_All = λ ty a of_a d h. ap (λ z. filled (args_for args) z (D + d)) (filled-All (args_for inner) ty a d)
        ∙ filled-All (args_for args) ty _ (D + d) ∙ ap (assertion.All ty) (deeper a d (of_a (suc d) (own (names-All ty a d) h)))
        ∙ sym (filled-All (args_for through) ty a d);
    of_ExSet = λ ty a of_a d h. ap (λ z. filled (args_for args) z (D + d)) (filled-ExSet (args_for inner) ty a d)
        ∙ filled-ExSet (args_for args) ty _ (D + d) ∙ ap (assertion.ExSet ty) (deeper a d (of_a (suc d) (own (names-ExSet ty a d) h)))
        ∙ sym (filled-ExSet (args_for through) ty a d);
    of_AllSet = λ ty a of_a d h. ap (λ z. filled (args_for args) z (D + d)) (filled-AllSet (args_for inner) ty a d)
        ∙ filled-AllSet (args_for args) ty _ (D + d) ∙ ap (assertion.AllSet ty) (deeper a d (of_a (suc d) (own (names-AllSet ty a d) h)))
        ∙ sym (filled-AllSet (args_for through) ty a d);
  })
