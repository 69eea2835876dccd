-- On assertions with what is handed over put in, form by form.
use Rattle.std.proofs.Common.{◌≡◌, ℕ, Bool, List, [], ◌∷◌, ◌++◌, map, append-nil, suc, true, false, Some, refl, sym, ap, ◌∙◌, subst}
use Rattle.std.proofs.lemmas.List.{map-append}
use Rattle.store_logic.specs.declared.term.Base.{Base}
use Rattle.store_logic.specs.declared.term.Base.TheVariants as base
use Rattle.store_logic.specs.declared.term.Term.{Term}
use Rattle.store_logic.specs.declared.term.Term.TheVariants as term
use Rattle.store_logic.specs.declared.arg.Arg.{Arg}
use Rattle.store_logic.specs.declared.arg.Arg.TheVariants as arg
use Rattle.store_core.specs.declared.ids.FieldId.{FieldId}
use Rattle.store_logic.specs.declared.assertion.Assertion.{Assertion, roll-Assertion, out-roll-Assertion}
use Rattle.store_logic.specs.declared.assertion.Assertion.TheVariants.{rolls-True, rolls-False, rolls-Truth}
use Rattle.store_logic.specs.declared.assertion.Assertion.TheVariants as assertion
use Rattle.store_logic.specs.declared.assertion.Assertion.TheOpen.{Assertion-F}
use Rattle.store_logic.specs.declared.assertion.Assertion.TheFolds.{fold-roll-Assertion}
use Rattle.store_logic.specs.Filling.{Filling, of_term, of_truth, shifted, put_under, path_from, truth_from, name_in, constant, is_true, filled_term}
use Rattle.store_logic.specs.Filling.{filled_truth, filled_set, filled_arg, filled}
use Rattle.store_logic.specs.Postfix.{Form, without_parts, form_of, postfix_of, postfix_of_node, applied}
use Rattle.store_logic.proofs.ExpandingForms.{filled-True, filled-False, filled-Truth, filled-Is, filled-Same, filled-Member, filled-Subset, filled-Walk}
use Rattle.store_logic.proofs.ExpandingForms.{filled-Pred}
use Rattle.store_logic.proofs.ExpandingForms.{filled-Not, filled-And, filled-Or, filled-Imp, filled-Iff, filled-Ex, filled-All, filled-ExSet, filled-AllSet}
use Rattle.store_logic.proofs.AssertionLemmas.{IsHereditary, assertion-induction}
use Rattle.store_logic.proofs.AssertionLemmas.{fold-True, fold-False, fold-Truth, fold-Is, fold-Same, fold-Member, fold-Subset, fold-Walk, fold-Pred}
use Rattle.store_logic.proofs.AssertionLemmas.{fold-Not, fold-And, fold-Or, fold-Imp, fold-Iff, fold-Ex, fold-All, fold-ExSet, fold-AllSet}
use Rattle.pale_calls.specs.declared.actual.Actual.{Actual}
use Rattle.pale_calls.specs.declared.actual.Actual.TheVariants as actual
use Rattle.hoare_fill.specs.declared.putting.Put.{Put}
use Rattle.hoare_fill.specs.declared.putting.Filled.{Filled}
use Rattle.hoare_fill.specs.Putting.{actual_for, filling_of, filling, put_for, with_puts}
use Rattle.hoare_fill.specs.Forms.{filled_form}

-- ---- what is handed over stands the same under quantifiers

same_filling : (depth : ℕ) (x : Actual) → shifted depth (filling_of x) ≡ filling_of x
same_filling depth (actual.Var v) = refl
same_filling depth actual.Null = refl
same_filling depth (actual.Truth truth) = refl

module _ (puts : List Put) (depth : ℕ) where
  same_name : (name : Base) → put_under (put_for puts) depth name ≡ put_under (put_for puts) 0 name
  same_name (base.Var v) = same_filling depth (actual_for puts v) ∙ sym (same_filling 0 (actual_for puts v))
  same_name (base.Bound k) = refl
  same_name (base.Param k) = refl

  same_term : (t : Term) → filled_term (put_for puts) depth t ≡ filled_term (put_for puts) 0 t
  same_term term.Null = refl
  same_term (term.At name fields) = ap (λ f. path_from f fields) (same_name name)

  same_truth : (t : Term) → filled_truth (put_for puts) depth t ≡ filled_truth (put_for puts) 0 t
  same_truth term.Null = refl
  same_truth (term.At name fields) = ap (λ f. truth_from f fields) (same_name name)

  same_set : (name : Base) → filled_set (put_for puts) depth name ≡ filled_set (put_for puts) 0 name
  same_set name = ap (λ f. name_in f name) (same_name name)

  same_arg : (a : Arg) → filled_arg (put_for puts) depth a ≡ filled_arg (put_for puts) 0 a
  same_arg (arg.Cell t) = ap (λ t. arg.Cell t) (same_term t)
  same_arg (arg.Set name) = ap (λ name. arg.Set name) (same_set name)
  same_arg (arg.Truth t) = ap (λ t. arg.Truth t) (same_term t)

  same_args : (args : List Arg) → map (filled_arg (put_for puts) depth) args ≡ map (filled_arg (put_for puts) 0) args
  same_args [] = refl
  same_args (a ∷ args) = ap (λ one. one ∷ map (filled_arg (put_for puts) depth) args) (same_arg a)
      ∙ ap (λ rest. filled_arg (put_for puts) 0 a ∷ rest) (same_args args)

-- outside of quantifiers a name stands for what is put in for it
pub put_under-outside : (puts : List Put) (name : Base) → put_under (put_for puts) 0 name ≡ put_for puts name
put_under-outside puts (base.Var v) = same_filling 0 (actual_for puts v)
put_under-outside puts (base.Bound k) = refl
put_under-outside puts (base.Param k) = refl

-- a term, a truth and a set whose name this is put in for
module _ (puts : List Put) (made : Filled) (name : Base) (is : filling made ≡ put_for puts name) where
  same_made : put_under (put_for puts) 0 name ≡ filling made
  same_made = put_under-outside puts name ∙ sym is

  pub filled_term-by : (fields : List FieldId) → filled_term (put_for puts) 0 (term.At name fields) ≡ path_from (filling made) fields
  filled_term-by fields = ap (λ f. path_from f fields) same_made

  pub filled_truth-by : (fields : List FieldId) → filled_truth (put_for puts) 0 (term.At name fields) ≡ truth_from (filling made) fields
  filled_truth-by fields = ap (λ f. truth_from f fields) same_made

  pub filled_set-by : filled_set (put_for puts) 0 name ≡ name_in (filling made) name
  filled_set-by = ap (λ f. name_in f name) same_made

-- ---- what a truth is made

-- it has no parts
abbrev pub IsLeaf : Assertion → Type 0
IsLeaf a = (postfix_of a ≡ form_of a ∷ []) × ((before : List Assertion) → applied (form_of a) before ≡ Some (a ∷ before))

form_of-roll : (x : Assertion-F Assertion) → form_of (roll-Assertion x) ≡ without_parts Assertion x
form_of-roll x = ap (without_parts Assertion) (out-roll-Assertion x)

leaf-True : IsLeaf assertion.True
leaf-True = subst IsLeaf rolls-True (
  fold-roll-Assertion (List Form) postfix_of_node Assertion-F.True ∙ ap (λ (f : Form). f ∷ []) (sym (form_of-roll Assertion-F.True)),
  λ before. ap (λ (f : Form). applied f before) (form_of-roll Assertion-F.True),
)

leaf-False : IsLeaf assertion.False
leaf-False = subst IsLeaf rolls-False (
  fold-roll-Assertion (List Form) postfix_of_node Assertion-F.False ∙ ap (λ (f : Form). f ∷ []) (sym (form_of-roll Assertion-F.False)),
  λ before. ap (λ (f : Form). applied f before) (form_of-roll Assertion-F.False),
)

leaf-Truth : (t : Term) → IsLeaf (assertion.Truth t)
leaf-Truth t = subst IsLeaf (rolls-Truth t) (
  fold-roll-Assertion (List Form) postfix_of_node (Assertion-F.Truth t) ∙ ap (λ (f : Form). f ∷ []) (sym (form_of-roll (Assertion-F.Truth t))),
  λ before. ap (λ (f : Form). applied f before) (form_of-roll (Assertion-F.Truth t)),
)

leaf-is_true : (t : Term) → IsLeaf (is_true t)
leaf-is_true term.Null = leaf-False
leaf-is_true (term.At name fields) = leaf-Truth (term.At name fields)

leaf-constant : (truth : Bool) → IsLeaf (constant truth)
leaf-constant true = leaf-True
leaf-constant false = leaf-False

leaf-truth_from : (f : Filling) (fields : List FieldId) → IsLeaf (truth_from f fields)
leaf-truth_from (of_term t) fields = leaf-is_true (path_from (of_term t) fields)
leaf-truth_from (of_truth truth) [] = leaf-constant truth
leaf-truth_from (of_truth truth) (f ∷ fields) = leaf-False

pub leaf-filled_truth : (puts : List Put) (t : Term) → IsLeaf (filled_truth (put_for puts) 0 t)
leaf-filled_truth puts term.Null = leaf-False
leaf-filled_truth puts (term.At name fields) = leaf-truth_from (put_under (put_for puts) 0 name) fields

-- ---- forms

module _ (puts : List Put) where
  abbrev put_in : Assertion → ℕ → Assertion
  put_in a depth = filled (put_for puts) a depth

  abbrev Goes : Assertion → Type 0
  Goes a = (depth : ℕ) → postfix_of (put_in a depth) ≡ map (filled_form puts) (postfix_of a)

  -- a form of one part, and a form of two
  one : (make : Assertion → Assertion) (form : Form) → filled_form puts form ≡ form →
      ((u : Assertion) → postfix_of (make u) ≡ (postfix_of u ++ []) ++ form ∷ []) →
      (a : Assertion) (inner : Assertion) → postfix_of inner ≡ map (filled_form puts) (postfix_of a) →
      postfix_of (make inner) ≡ map (filled_form puts) (postfix_of (make a))
  one make form same forms a inner goes =
      forms inner ∙ ap (λ s. s ++ form ∷ []) (append-nil (postfix_of inner)) ∙ ap (λ s. s ++ form ∷ []) goes
      ∙ ap (λ f. map (filled_form puts) (postfix_of a) ++ f ∷ []) (sym same)
      ∙ sym (map-append (filled_form puts) (postfix_of a) (form ∷ []))
      ∙ sym (ap (λ s. map (filled_form puts) (s ++ form ∷ [])) (append-nil (postfix_of a)))
      ∙ sym (ap (map (filled_form puts)) (forms a))

  two : (make : Assertion → Assertion → Assertion) (form : Form) → filled_form puts form ≡ form →
      ((u v : Assertion) → postfix_of (make u v) ≡ (postfix_of u ++ (postfix_of v ++ [])) ++ form ∷ []) →
      (a b : Assertion) (left right : Assertion) → postfix_of left ≡ map (filled_form puts) (postfix_of a) →
      postfix_of right ≡ map (filled_form puts) (postfix_of b) → postfix_of (make left right) ≡ map (filled_form puts) (postfix_of (make a b))
  two make form same forms a b left right of_left of_right =
      forms left right ∙ ap (λ s. (postfix_of left ++ s) ++ form ∷ []) (append-nil (postfix_of right))
      ∙ ap (λ s. (s ++ postfix_of right) ++ form ∷ []) of_left
      ∙ ap (λ s. (map (filled_form puts) (postfix_of a) ++ s) ++ form ∷ []) of_right
      ∙ ap (λ f. (map (filled_form puts) (postfix_of a) ++ map (filled_form puts) (postfix_of b)) ++ f ∷ []) (sym same)
      ∙ ap (λ s. s ++ filled_form puts form ∷ []) (sym (map-append (filled_form puts) (postfix_of a) (postfix_of b)))
      ∙ sym (map-append (filled_form puts) (postfix_of a ++ postfix_of b) (form ∷ []))
      ∙ sym (ap (λ s. map (filled_form puts) ((postfix_of a ++ s) ++ form ∷ [])) (append-nil (postfix_of b)))
      ∙ sym (ap (map (filled_form puts)) (forms a b))

  -- a form without parts
  none : (a b made : Assertion) (form : Form) → postfix_of a ≡ form ∷ [] → postfix_of b ≡ filled_form puts form ∷ [] → made ≡ b →
      postfix_of made ≡ map (filled_form puts) (postfix_of a)
  none a b made form of_a of_b is = ap postfix_of is ∙ of_b ∙ sym (ap (map (filled_form puts)) of_a)

  abbrev put : Base → Filling
  put = put_for puts

  forms_go : IsHereditary Goes
  forms_go = record {
    of_True = λ depth. none assertion.True assertion.True _ Assertion-F.True (fold-True (List Form) postfix_of_node) (fold-True (List Form) postfix_of_node)
        (filled-True put depth);
    of_False = λ depth. none assertion.False assertion.False _ Assertion-F.False (fold-False (List Form) postfix_of_node)
        (fold-False (List Form) postfix_of_node)
        (filled-False put depth);
    of_Truth = λ t depth. none (assertion.Truth t) (filled_truth put 0 t) _ (Assertion-F.Truth t) (fold-Truth (List Form) postfix_of_node t)
        (leaf-filled_truth puts t).0 (filled-Truth put t depth ∙ same_truth puts depth t);
    of_Is = λ t v depth. none (assertion.Is t v) (assertion.Is (filled_term put 0 t) v) _ (Assertion-F.Is t v)
        (fold-Is (List Form) postfix_of_node t v) (fold-Is (List Form) postfix_of_node (filled_term put 0 t) v)
        (filled-Is put t v depth ∙ ap (λ u. assertion.Is u v) (same_term puts depth t));
    of_Same = λ t u depth. none (assertion.Same t u) (assertion.Same (filled_term put 0 t) (filled_term put 0 u)) _ (Assertion-F.Same t u)
        (fold-Same (List Form) postfix_of_node t u) (fold-Same (List Form) postfix_of_node (filled_term put 0 t) (filled_term put 0 u))
        (filled-Same put t u depth ∙ ap (λ x. assertion.Same x (filled_term put depth u)) (same_term puts depth t)
        ∙ ap (λ x. assertion.Same (filled_term put 0 t) x) (same_term puts depth u));
    of_Member = λ t set depth. none (assertion.Member t set) (assertion.Member (filled_term put 0 t) (filled_set put 0 set)) _ (Assertion-F.Member t set)
        (fold-Member (List Form) postfix_of_node t set) (fold-Member (List Form) postfix_of_node (filled_term put 0 t) (filled_set put 0 set))
        (filled-Member put t set depth ∙ ap (λ x. assertion.Member x (filled_set put depth set)) (same_term puts depth t)
        ∙ ap (λ x. assertion.Member (filled_term put 0 t) x) (same_set puts depth set));
    of_Subset = λ set other depth. none (assertion.Subset set other) (assertion.Subset (filled_set put 0 set) (filled_set put 0 other)) _
        (Assertion-F.Subset set other)
        (fold-Subset (List Form) postfix_of_node set other) (fold-Subset (List Form) postfix_of_node (filled_set put 0 set) (filled_set put 0 other))
        (filled-Subset put set other depth ∙ ap (λ x. assertion.Subset x (filled_set put depth other)) (same_set puts depth set)
        ∙ ap (λ x. assertion.Subset (filled_set put 0 set) x) (same_set puts depth other));
    of_Walk = λ t along u depth. none (assertion.Walk t along u) (assertion.Walk (filled_term put 0 t) along (filled_term put 0 u)) _
        (Assertion-F.Walk t along u)
        (fold-Walk (List Form) postfix_of_node t along u) (fold-Walk (List Form) postfix_of_node (filled_term put 0 t) along (filled_term put 0 u))
        (filled-Walk put t along u depth ∙ ap (λ x. assertion.Walk x along (filled_term put depth u)) (same_term puts depth t)
        ∙ ap (λ x. assertion.Walk (filled_term put 0 t) along x) (same_term puts depth u));
    of_Pred = λ k args depth. none (assertion.Pred k args) (assertion.Pred k (map (filled_arg put 0) args)) _ (Assertion-F.Pred k args)
        (fold-Pred (List Form) postfix_of_node k args) (fold-Pred (List Form) postfix_of_node k (map (filled_arg put 0) args))
        (filled-Pred put k args depth ∙ ap (λ x. assertion.Pred k x) (same_args puts depth args));
    of_Not = λ a goes depth. ap postfix_of (filled-Not put a depth)
        ∙ one (λ x. assertion.Not x) (Assertion-F.Not tt) refl (fold-Not (List Form) postfix_of_node) a (put_in a depth) (goes depth);
    of_And = λ a b of_a of_b depth. ap postfix_of (filled-And put a b depth)
        ∙ two (λ x y. assertion.And x y) (Assertion-F.And tt tt) refl (fold-And (List Form) postfix_of_node) a b _ _ (of_a depth) (of_b depth);
    of_Or = λ a b of_a of_b depth. ap postfix_of (filled-Or put a b depth)
        ∙ two (λ x y. assertion.Or x y) (Assertion-F.Or tt tt) refl (fold-Or (List Form) postfix_of_node) a b _ _ (of_a depth) (of_b depth);
    of_Imp = λ a b of_a of_b depth. ap postfix_of (filled-Imp put a b depth)
        ∙ two (λ x y. assertion.Imp x y) (Assertion-F.Imp tt tt) refl (fold-Imp (List Form) postfix_of_node) a b _ _ (of_a depth) (of_b depth);
    of_Iff = λ a b of_a of_b depth. ap postfix_of (filled-Iff put a b depth)
        ∙ two (λ x y. assertion.Iff x y) (Assertion-F.Iff tt tt) refl (fold-Iff (List Form) postfix_of_node) a b _ _ (of_a depth) (of_b depth);
    of_Ex = λ ty a goes depth. ap postfix_of (filled-Ex put ty a depth)
        ∙ one (λ x. assertion.Ex ty x) (Assertion-F.Ex ty tt) refl (fold-Ex (List Form) postfix_of_node ty) a _ (goes (suc depth));
    of_All = λ ty a goes depth. ap postfix_of (filled-All put ty a depth)
        ∙ one (λ x. assertion.All ty x) (Assertion-F.All ty tt) refl (fold-All (List Form) postfix_of_node ty) a _ (goes (suc depth));
    of_ExSet = λ ty a goes depth. ap postfix_of (filled-ExSet put ty a depth)
        ∙ one (λ x. assertion.ExSet ty x) (Assertion-F.ExSet ty tt) refl (fold-ExSet (List Form) postfix_of_node ty) a _ (goes (suc depth));
    of_AllSet = λ ty a goes depth. ap postfix_of (filled-AllSet put ty a depth)
        ∙ one (λ x. assertion.AllSet ty x) (Assertion-F.AllSet ty tt) refl (fold-AllSet (List Form) postfix_of_node ty) a _ (goes (suc depth));
  }

  pub postfix-with_puts : (a : Assertion) → postfix_of (with_puts puts a) ≡ map (filled_form puts) (postfix_of a)
  postfix-with_puts a = assertion-induction Goes forms_go a 0
