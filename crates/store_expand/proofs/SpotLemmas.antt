-- An assertion where it stands, form by form: with the arguments put in, and in postfix order.
use Rattle.std.proofs.Common.{◌≡◌, ℕ, suc, List, [], ◌∷◌, map, Option, Some, None, sym, refl, ap, ◌∙◌, subst}
use Rattle.store_core.specs.declared.ids.TypeId.{TypeId}
use Rattle.store_core.specs.declared.ids.VariantId.{VariantId}
use Rattle.store_core.specs.declared.kind.Route.{Route}
use Rattle.store_logic.specs.declared.term.Base.{Base}
use Rattle.store_logic.specs.declared.term.Term.{Term}
use Rattle.store_logic.specs.declared.term.Term.TheVariants as term
use Rattle.store_logic.specs.declared.arg.Arg.{Arg}
use Rattle.store_logic.specs.declared.arg.Arg.TheVariants as arg
use Rattle.store_logic.specs.declared.assertion.Assertion.{Assertion, roll-Assertion, out-roll-Assertion}
use Rattle.store_logic.specs.declared.assertion.Assertion.TheVariants as assertion
use Rattle.store_logic.specs.declared.assertion.Assertion.TheVariants.{rolls-False, rolls-Truth}
use Rattle.store_logic.specs.declared.assertion.Assertion.TheOpen.{Assertion-F}
use Rattle.store_logic.specs.declared.assertion.Assertion.TheFolds.{fold-roll-Assertion}
use Rattle.store_logic.specs.Filling.{args_for, filled_arg, filled_term, is_true}
use Rattle.store_logic.specs.Postfix.{Form, without_parts, form_of, postfix_of, postfix_of_node, applied}
use Rattle.store_logic.proofs.ExpandingForms.{filled-True, filled-False, filled-Truth, filled-Is, filled-Same, filled-Member, filled-Subset, filled-Walk}
use Rattle.store_logic.proofs.ExpandingForms.{filled-Pred}
use Rattle.store_logic.proofs.ExpandingForms.{filled-Not, filled-And, filled-Or, filled-Imp, filled-Iff, filled-Ex, filled-All, filled-ExSet, filled-AllSet}
use Rattle.store_logic.proofs.ExpandingTerms.{filled_truth-is}
use Rattle.store_expand.specs.Standing.{Standing, put_term, put_set, put_truth, put_args, put_whole}

abbrev pub stands : Option (List Arg) → ℕ → Standing
stands o d = record { args = o; depth = d }

-- ---- arguments

pub put_args-none : (d : ℕ) (xs : List Arg) → put_args (stands None d) xs ≡ xs
put_args-none d [] = refl
put_args-none d (arg.Cell t ∷ xs) = ap (λ (l : List Arg). arg.Cell t ∷ l) (put_args-none d xs)
put_args-none d (arg.Set name ∷ xs) = ap (λ (l : List Arg). arg.Set name ∷ l) (put_args-none d xs)
put_args-none d (arg.Truth t ∷ xs) = ap (λ (l : List Arg). arg.Truth t ∷ l) (put_args-none d xs)

pub put_args-some : (args : List Arg) (d : ℕ) (xs : List Arg) → put_args (stands (Some args) d) xs ≡ map (filled_arg (args_for args) d) xs
put_args-some args d [] = refl
put_args-some args d (arg.Cell t ∷ xs) = ap (λ (l : List Arg). filled_arg (args_for args) d (arg.Cell t) ∷ l) (put_args-some args d xs)
put_args-some args d (arg.Set name ∷ xs) = ap (λ (l : List Arg). filled_arg (args_for args) d (arg.Set name) ∷ l) (put_args-some args d xs)
put_args-some args d (arg.Truth t ∷ xs) = ap (λ (l : List Arg). filled_arg (args_for args) d (arg.Truth t) ∷ l) (put_args-some args d xs)

-- ---- the whole

module _ where
  pub put-True : (o : Option (List Arg)) (d : ℕ) → put_whole (stands o d) assertion.True ≡ assertion.True
  put-True None d = refl
  put-True (Some args) d = filled-True (args_for args) d

  pub put-False : (o : Option (List Arg)) (d : ℕ) → put_whole (stands o d) assertion.False ≡ assertion.False
  put-False None d = refl
  put-False (Some args) d = filled-False (args_for args) d

  pub put-Truth : (o : Option (List Arg)) (d : ℕ) (t : Term) → put_whole (stands o d) (assertion.Truth t) ≡ put_truth (stands o d) t
  put-Truth None d t = refl
  put-Truth (Some args) d t = filled-Truth (args_for args) t d

  pub put-Is : (o : Option (List Arg)) (d : ℕ) (t : Term) (v : VariantId) →
      put_whole (stands o d) (assertion.Is t v) ≡ assertion.Is (put_term (stands o d) t) v
  put-Is None d t v = refl
  put-Is (Some args) d t v = filled-Is (args_for args) t v d

  pub put-Same : (o : Option (List Arg)) (d : ℕ) (t u : Term) →
      put_whole (stands o d) (assertion.Same t u) ≡ assertion.Same (put_term (stands o d) t) (put_term (stands o d) u)
  put-Same None d t u = refl
  put-Same (Some args) d t u = filled-Same (args_for args) t u d

  pub put-Member : (o : Option (List Arg)) (d : ℕ) (t : Term) (set : Base) →
      put_whole (stands o d) (assertion.Member t set) ≡ assertion.Member (put_term (stands o d) t) (put_set (stands o d) set)
  put-Member None d t set = refl
  put-Member (Some args) d t set = filled-Member (args_for args) t set d

  pub put-Subset : (o : Option (List Arg)) (d : ℕ) (set other : Base) →
      put_whole (stands o d) (assertion.Subset set other) ≡ assertion.Subset (put_set (stands o d) set) (put_set (stands o d) other)
  put-Subset None d set other = refl
  put-Subset (Some args) d set other = filled-Subset (args_for args) set other d

  pub put-Walk : (o : Option (List Arg)) (d : ℕ) (t : Term) (along : Route) (u : Term) →
      put_whole (stands o d) (assertion.Walk t along u) ≡ assertion.Walk (put_term (stands o d) t) along (put_term (stands o d) u)
  put-Walk None d t along u = refl
  put-Walk (Some args) d t along u = filled-Walk (args_for args) t along u d

  pub put-Pred : (o : Option (List Arg)) (d : ℕ) (k : ℕ) (xs : List Arg) →
      put_whole (stands o d) (assertion.Pred k xs) ≡ assertion.Pred k (put_args (stands o d) xs)
  put-Pred None d k xs = ap (assertion.Pred k) (sym (put_args-none d xs))
  put-Pred (Some args) d k xs = filled-Pred (args_for args) k xs d ∙ ap (assertion.Pred k) (sym (put_args-some args d xs))

  pub put-Not : (o : Option (List Arg)) (d : ℕ) (a : Assertion) → put_whole (stands o d) (assertion.Not a) ≡ assertion.Not (put_whole (stands o d) a)
  put-Not None d a = refl
  put-Not (Some args) d a = filled-Not (args_for args) a d

  pub put-And : (o : Option (List Arg)) (d : ℕ) (a b : Assertion) →
      put_whole (stands o d) (assertion.And a b) ≡ assertion.And (put_whole (stands o d) a) (put_whole (stands o d) b)
  put-And None d a b = refl
  put-And (Some args) d a b = filled-And (args_for args) a b d

  pub put-Or : (o : Option (List Arg)) (d : ℕ) (a b : Assertion) →
      put_whole (stands o d) (assertion.Or a b) ≡ assertion.Or (put_whole (stands o d) a) (put_whole (stands o d) b)
  put-Or None d a b = refl
  put-Or (Some args) d a b = filled-Or (args_for args) a b d

  pub put-Imp : (o : Option (List Arg)) (d : ℕ) (a b : Assertion) →
      put_whole (stands o d) (assertion.Imp a b) ≡ assertion.Imp (put_whole (stands o d) a) (put_whole (stands o d) b)
  put-Imp None d a b = refl
  put-Imp (Some args) d a b = filled-Imp (args_for args) a b d

  pub put-Iff : (o : Option (List Arg)) (d : ℕ) (a b : Assertion) →
      put_whole (stands o d) (assertion.Iff a b) ≡ assertion.Iff (put_whole (stands o d) a) (put_whole (stands o d) b)
  put-Iff None d a b = refl
  put-Iff (Some args) d a b = filled-Iff (args_for args) a b d

  pub put-Ex : (o : Option (List Arg)) (d : ℕ) (ty : TypeId) (a : Assertion) →
      put_whole (stands o d) (assertion.Ex ty a) ≡ assertion.Ex ty (put_whole (stands o (suc d)) a)
  put-Ex None d ty a = refl
  put-Ex (Some args) d ty a = filled-Ex (args_for args) ty a d

  pub put-All : (o : Option (List Arg)) (d : ℕ) (ty : TypeId) (a : Assertion) →
      put_whole (stands o d) (assertion.All ty a) ≡ assertion.All ty (put_whole (stands o (suc d)) a)
  put-All None d ty a = refl
  put-All (Some args) d ty a = filled-All (args_for args) ty a d

  pub put-ExSet : (o : Option (List Arg)) (d : ℕ) (ty : TypeId) (a : Assertion) →
      put_whole (stands o d) (assertion.ExSet ty a) ≡ assertion.ExSet ty (put_whole (stands o (suc d)) a)
  put-ExSet None d ty a = refl
  put-ExSet (Some args) d ty a = filled-ExSet (args_for args) ty a d

  pub put-AllSet : (o : Option (List Arg)) (d : ℕ) (ty : TypeId) (a : Assertion) →
      put_whole (stands o d) (assertion.AllSet ty a) ≡ assertion.AllSet ty (put_whole (stands o (suc d)) a)
  put-AllSet None d ty a = refl
  put-AllSet (Some args) d ty a = filled-AllSet (args_for args) ty a d

-- ---- truths have no parts

abbrev pub IsLeaf : Assertion → Type 0
IsLeaf a = (postfix_of a ≡ form_of a ∷ []) × ((before : List Assertion) → applied (form_of a) before ≡ Some (a ∷ before))

form_of-roll : (x : Assertion-F Assertion) → form_of (roll-Assertion x) ≡ without_parts Assertion x
form_of-roll x = ap (without_parts Assertion) (out-roll-Assertion x)

pub leaf-False : IsLeaf assertion.False
leaf-False = subst IsLeaf rolls-False (
  fold-roll-Assertion (List Form) postfix_of_node Assertion-F.False ∙ ap (λ (f : Form). f ∷ []) (sym (form_of-roll Assertion-F.False)),
  λ before. ap (λ (f : Form). applied f before) (form_of-roll Assertion-F.False),
)

pub leaf-Truth : (t : Term) → IsLeaf (assertion.Truth t)
leaf-Truth t = subst IsLeaf (rolls-Truth t) (
  fold-roll-Assertion (List Form) postfix_of_node (Assertion-F.Truth t) ∙ ap (λ (f : Form). f ∷ []) (sym (form_of-roll (Assertion-F.Truth t))),
  λ before. ap (λ (f : Form). applied f before) (form_of-roll (Assertion-F.Truth t)),
)

leaf-is_true : (t : Term) → IsLeaf (is_true t)
leaf-is_true term.Null = leaf-False
leaf-is_true (term.At name fields) = leaf-Truth (term.At name fields)

pub leaf-put_truth : (o : Option (List Arg)) (d : ℕ) (t : Term) → IsLeaf (put_truth (stands o d) t)
leaf-put_truth None d t = leaf-Truth t
leaf-put_truth (Some args) d t = subst IsLeaf (sym (filled_truth-is args t d)) (leaf-is_true (filled_term (args_for args) d t))
