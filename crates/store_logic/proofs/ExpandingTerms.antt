-- The names in what terms and arguments become with a predicate's arguments put in.
use Rattle.std.proofs.Common.{◌≡◌, ℕ, ◌+◌, ◌<◌, List, [], ◌∷◌, map, flat_map, slice_get, Option, Some, None, IsSomeAnd}
use Rattle.std.proofs.Common.{sym, refl, ap, ◌∙◌, subst, arith}
use Rattle.std.specs.List.{AllByRecursion}
use Rattle.std.specs.Option.{option_map_or}
use Rattle.store_core.specs.declared.ids.FieldId.{FieldId}
use Rattle.store_core.specs.declared.ids.VarId.{VarId}
use Rattle.store_core.specs.declared.value.Class.{Class}
use Rattle.store_core.specs.declared.value.Class.TheVariants as class
use Rattle.store_logic.specs.declared.term.Base.{Base}
use Rattle.store_logic.specs.declared.term.Base.TheVariants as base
use Rattle.store_logic.specs.declared.term.Term.{Term}
use Rattle.store_logic.specs.declared.term.Term.TheVariants as term
use Rattle.store_logic.specs.declared.arg.Arg.{Arg}
use Rattle.store_logic.specs.declared.arg.Arg.TheVariants as arg
use Rattle.store_logic.specs.declared.assertion.Assertion.{Assertion}
use Rattle.store_logic.specs.Filling.{of_term, arg_term, args_for, shifted_base, shifted_term, shifted, path_from, filled_term}
use Rattle.store_logic.specs.Filling.{is_true, filled_truth, name_in, filled_set, filled_arg, filled}
use Rattle.store_logic.specs.Sizes.{node_count}
use Rattle.store_logic.specs.Uses.{NameUse, term_names, set_name, arg_names, uses_in, arg_class, IsGiven, IsOwn}
use Rattle.store_logic.proofs.ExpandingForms.{names_at, names-False, names-Truth, uses-False, uses-Truth, count-False, count-Truth, filled-False, filled-Truth}
use Rattle.store_logic.proofs.ExpandingLists.{all-first, all-second, all-append, all-at}

abbrev pub use_of : Base → Class → ℕ → NameUse
use_of name needs depth = record { name = name; needs = needs; depth = depth }

-- the class that a name needs before these fields
abbrev pub class_before : List FieldId → Class → Class
class_before [] of = of
class_before (f ∷ fields) of = class.Reference

-- a name of the predicate's own, and its parameter is given an argument of the class
abbrev pub IsBoth : ℕ → List Arg → NameUse → Type 0
IsBoth params args n = IsOwn params n × IsGiven args n

-- ---- truths

pub filled_truth-is : (args : List Arg) (t : Term) (d : ℕ) → filled_truth (args_for args) d t ≡ is_true (filled_term (args_for args) d t)
filled_truth-is args term.Null d = refl
filled_truth-is args (term.At (base.Var v) fields) d = refl
filled_truth-is args (term.At (base.Bound k) fields) d = refl
filled_truth-is args (term.At (base.Param k) fields) d = refl

pub names-is_true : (t : Term) (d : ℕ) → names_at (is_true t) d ≡ term_names class.Truth t d
names-is_true term.Null d = names-False d
names-is_true (term.At name fields) d = names-Truth (term.At name fields) d

pub uses-is_true : (t : Term) → uses_in (is_true t) ≡ []
uses-is_true term.Null = uses-False
uses-is_true (term.At name fields) = uses-Truth (term.At name fields)

pub count-is_true : (t : Term) → node_count (is_true t) ≡ 1
count-is_true term.Null = count-False
count-is_true (term.At name fields) = count-Truth (term.At name fields)

pub filled-is_true : (args : List Arg) (t : Term) (d : ℕ) → filled (args_for args) (is_true t) d ≡ is_true (filled_term (args_for args) d t)
filled-is_true args term.Null d = filled-False (args_for args) d
filled-is_true args (term.At name fields) d =
    filled-Truth (args_for args) (term.At name fields) d ∙ filled_truth-is args (term.At name fields) d

-- ---- what is so of names

-- it is so of variables, of names of quantifiers around, and goes on being so under more of them
pub record IsStable (P : NameUse → Type 0) : Type 0 where
  pub of_var : (v : VarId) (c : Class) (d : ℕ) → P (use_of (base.Var v) c d)
  pub of_bound : (k : ℕ) (c : Class) (d : ℕ) → k < d → P (use_of (base.Bound k) c d)
  pub under : (name : Base) (c : Class) (d more : ℕ) → P (use_of name c d) → P (use_of (shifted_base more name) c (d + more))

module _ (params : ℕ) (args : List Arg) where
  under_more : (name : Base) (c : Class) (d more : ℕ) → IsBoth params args (use_of name c d) →
      IsBoth params args (use_of (shifted_base more name) c (d + more))
  under_more (base.Var v) c d more h = (tt, tt)
  under_more (base.Bound k) c d more h = (let inside : k < d = h.0 in omega arith, tt)
  under_more (base.Param k) c d more h = (h.0, h.1)

  pub IsStable-both : IsStable (IsBoth params args)
  IsStable-both = record { of_var = λ v c d. (tt, tt); of_bound = λ k c d inside. (inside, tt); under = under_more }

-- ---- with the arguments of a use under d quantifiers put in, of whose names it is so
module _ (P : NameUse → Type 0) (stable : IsStable P) (params : ℕ) (args : List Arg) (D : ℕ)
    (of_args : AllByRecursion P (flat_map (λ x. arg_names x D) args)) where
  path_names : (c : Class) (fields : List FieldId) (t : Term) (d : ℕ) → AllByRecursion P (term_names (class_before fields c) t D) →
      AllByRecursion P (term_names c (path_from (of_term (shifted_term d t)) fields) (D + d))
  path_names c fields term.Null d h = tt
  path_names c [] (term.At name []) d h = (stable.under name c D d h.0, tt)
  path_names c [] (term.At name (g ∷ more)) d h = (stable.under name class.Reference D d h.0, tt)
  path_names c (f ∷ fields) (term.At name []) d h = (stable.under name class.Reference D d h.0, tt)
  path_names c (f ∷ fields) (term.At name (g ∷ more)) d h = (stable.under name class.Reference D d h.0, tt)

  arg_is : (k : ℕ) (x : Arg) → slice_get args k ≡ Some x → AllByRecursion P (arg_names x D)
  arg_is k x at = all-at P (λ y. arg_names y D) args k x at of_args

  param_names : (c : Class) (fields : List FieldId) (k d : ℕ) → IsSomeAnd (slice_get args k) (λ x. arg_class x ≡ class_before fields c) →
      AllByRecursion P (term_names c (path_from (shifted d (args_for args (base.Param k))) fields) (D + d))
  param_names c fields k d = of (slice_get args k) refl
    where
      of : (o : Option Arg) → slice_get args k ≡ o → IsSomeAnd o (λ x. arg_class x ≡ class_before fields c) →
          AllByRecursion P (term_names c (path_from (shifted d (of_term (option_map_or arg_term o term.Null))) fields) (D + d))
      of None at h = absurd h
      of (Some (arg.Cell t)) at h = path_names c fields t d (subst (λ z. AllByRecursion P (term_names z t D)) h (arg_is k (arg.Cell t) at))
      of (Some (arg.Set name)) at h =
          path_names c fields (term.At name []) d (subst (λ z. AllByRecursion P (term_names z (term.At name []) D)) h (arg_is k (arg.Set name) at))
      of (Some (arg.Truth t)) at h = path_names c fields t d (subst (λ z. AllByRecursion P (term_names z t D)) h (arg_is k (arg.Truth t) at))

  pub names-term : (c : Class) (t : Term) (d : ℕ) → AllByRecursion (IsBoth params args) (term_names c t d) →
      AllByRecursion P (term_names c (filled_term (args_for args) d t) (D + d))
  names-term c term.Null d h = tt
  names-term c (term.At (base.Var v) []) d h = (stable.of_var v c (D + d), tt)
  names-term c (term.At (base.Var v) (f ∷ fields)) d h = (stable.of_var v class.Reference (D + d), tt)
  names-term c (term.At (base.Bound k) []) d h = (stable.of_bound k c (D + d) (let inside : k < d = h.0.0 in omega arith), tt)
  names-term c (term.At (base.Bound k) (f ∷ fields)) d h =
      (stable.of_bound k class.Reference (D + d) (let inside : k < d = h.0.0 in omega arith), tt)
  names-term c (term.At (base.Param k) []) d h = param_names c [] k d h.0.1
  names-term c (term.At (base.Param k) (f ∷ fields)) d h = param_names c (f ∷ fields) k d h.0.1

  pub names-set : (name : Base) (d : ℕ) → AllByRecursion (IsBoth params args) (set_name name d) →
      AllByRecursion P (set_name (filled_set (args_for args) d name) (D + d))
  names-set (base.Var v) d h = (stable.of_var v class.Set (D + d), tt)
  names-set (base.Bound k) d h = (stable.of_bound k class.Set (D + d) (let inside : k < d = h.0.0 in omega arith), tt)
  names-set (base.Param k) d h = of (slice_get args k) refl h.0.1
    where
      of : (o : Option Arg) → slice_get args k ≡ o → IsSomeAnd o (λ x. arg_class x ≡ class.Set) →
          AllByRecursion P (set_name (name_in (shifted d (of_term (option_map_or arg_term o term.Null))) (base.Param k)) (D + d))
      of None at given = absurd given
      of (Some (arg.Cell t)) at given = let clash : class.Reference ≡ class.Set = given in absurd cc
      of (Some (arg.Set name)) at given = (stable.under name class.Set D d (arg_is k (arg.Set name) at).0, tt)
      of (Some (arg.Truth t)) at given = let clash : class.Truth ≡ class.Set = given in absurd cc

  pub names-arg : (x : Arg) (d : ℕ) → AllByRecursion (IsBoth params args) (arg_names x d) →
      AllByRecursion P (arg_names (filled_arg (args_for args) d x) (D + d))
  names-arg (arg.Cell t) d h = names-term class.Reference t d h
  names-arg (arg.Set name) d h = names-set name d h
  names-arg (arg.Truth t) d h = names-term class.Truth t d h

  pub names-args : (xs : List Arg) (d : ℕ) → AllByRecursion (IsBoth params args) (flat_map (λ x. arg_names x d) xs) →
      AllByRecursion P (flat_map (λ x. arg_names x (D + d)) (map (filled_arg (args_for args) d) xs))
  names-args [] d h = tt
  names-args (x ∷ xs) d h =
      let rest = flat_map (λ y. arg_names y d) xs in
      all-append P _ _ (names-arg x d (all-first (IsBoth params args) (arg_names x d) rest h))
      (names-args xs d (all-second (IsBoth params args) (arg_names x d) rest h))

  pub names-truth : (t : Term) (d : ℕ) → AllByRecursion (IsBoth params args) (term_names class.Truth t d) →
      AllByRecursion P (names_at (filled_truth (args_for args) d t) (D + d))
  names-truth t d h = subst (AllByRecursion P)
      (sym (ap (λ (a : Assertion). names_at a (D + d)) (filled_truth-is args t d) ∙ names-is_true (filled_term (args_for args) d t) (D + d)))
      (names-term class.Truth t d h)
