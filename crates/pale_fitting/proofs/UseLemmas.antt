-- What fits uses predicates and names as it may, so that predicates can be put in.
use Rattle.std.proofs.Common.{◌≡◌, ◌⊎◌, inl, inr, ℕ, zero, suc, ◌<◌, List, [], ◌∷◌, ◌++◌, length, reverse, flat_map, slice_get, Option, Some, None}
use Rattle.std.proofs.Common.{IfSome, IsSomeAnd, refl, sym, ap, ◌∙◌, subst, arith, append_assoc, append-nil}
use Rattle.std.specs.List.{AllByRecursion}
use Rattle.std.specs.Option.{option_and_then}
use Rattle.std.proofs.lemmas.List.{length-reverse, reverse-append, reverse-reverse}
use Rattle.store_core.specs.declared.ids.TypeId.{TypeId}
use Rattle.store_core.specs.declared.ids.FieldId.{FieldId}
use Rattle.store_core.specs.declared.value.Class.{Class}
use Rattle.store_core.specs.declared.value.Class.TheVariants as class
use Rattle.store_core.specs.Tables.{TypeEntry}
use Rattle.store_logic.specs.declared.term.Base.{Base}
use Rattle.store_logic.specs.declared.term.Base.TheVariants as base
use Rattle.store_logic.specs.declared.term.Term.{Term}
use Rattle.store_logic.specs.declared.term.Term.TheVariants as term
use Rattle.store_logic.specs.declared.arg.Arg.{Arg}
use Rattle.store_logic.specs.declared.arg.Arg.TheVariants as arg
use Rattle.store_logic.specs.declared.assertion.Assertion.{Assertion}
use Rattle.store_logic.specs.declared.pred.PredDef.{PredDef}
use Rattle.store_logic.specs.Sorts.{Sort, Truth, Cell, Set, Scope, under, sort_along, base_sort, BaseFits, TermFits, ArgFits, ArgsFit}
use Rattle.store_logic.specs.Fits.{FitsIn, PredsFit}
use Rattle.store_logic.specs.Uses.{NameUse, term_names, set_name, arg_names, names_in, uses_in, arg_class, IsGiven, IsOwn, IsRightUse, IsBodyAt, CanExpand}
use Rattle.store_logic.proofs.AssertionLemmas.{assertion-induction}
use Rattle.store_logic.proofs.ExpandingForms.{names_at, names-True, names-False, names-Truth, names-Is, names-Same, names-Member, names-Subset}
use Rattle.store_logic.proofs.ExpandingForms.{names-Walk, names-Pred, names-Not, names-And, names-Or, names-Imp, names-Iff, names-Ex, names-All}
use Rattle.store_logic.proofs.ExpandingForms.{names-ExSet, names-AllSet, uses-True, uses-False, uses-Truth, uses-Is, uses-Same, uses-Member}
use Rattle.store_logic.proofs.ExpandingForms.{uses-Subset, uses-Walk, uses-Pred, uses-Not, uses-And, uses-Or, uses-Imp, uses-Iff, uses-Ex}
use Rattle.store_logic.proofs.ExpandingForms.{uses-All, uses-ExSet, uses-AllSet}
use Rattle.store_logic.proofs.ExpandingLists.{slice_get-seam, all-append}
use Rattle.claim_laws.proofs.FitForms.{Fits-Truth, Fits-Is, Fits-Same, Fits-Member, Fits-Subset, Fits-Walk, Fits-Pred, Fits-Not, Fits-And}
use Rattle.claim_laws.proofs.FitForms.{Fits-Or, Fits-Imp, Fits-Iff, Fits-Ex, Fits-All, Fits-ExSet, Fits-AllSet}

-- ---- lists

pub slice_get-within : {X : Type 0} (xs : List X) (k : ℕ) (x : X) → slice_get xs k ≡ Some x → k < length xs
slice_get-within [] k x at = absurd cc
slice_get-within (y ∷ xs) zero x at = omega arith
slice_get-within (y ∷ xs) (suc k) x at = let rest : k < length xs = slice_get-within xs k x at in omega arith

-- what stands in a list that got one more element stands before it, or is that element
pub at-push : {X : Type 0} (xs : List X) (y : X) (k : ℕ) (x : X) → slice_get (xs ++ y ∷ []) k ≡ Some x →
    (slice_get xs k ≡ Some x) ⊎ ((k ≡ length xs) × (y ≡ x))
at-push [] y zero x at = inr (refl, cc)
at-push [] y (suc k) x at = absurd cc
at-push (z ∷ xs) y zero x at = inl at
at-push (z ∷ xs) y (suc k) x at = next (at-push xs y k x at)
  where
    next : (slice_get xs k ≡ Some x) ⊎ ((k ≡ length xs) × (y ≡ x)) →
        (slice_get (z ∷ xs) (suc k) ≡ Some x) ⊎ ((suc k ≡ length (z ∷ xs)) × (y ≡ x))
    next (inl before) = inl before
    next (inr last) = let same : k ≡ length xs = last.0 in inr (omega arith, last.1)

pub reverse-cons : {X : Type 0} (x : X) (xs : List X) → reverse (x ∷ xs) ≡ reverse xs ++ x ∷ []
reverse-cons x xs = reverse-append (x ∷ []) xs

pub all-weaker : {X : Type 0} (P Q : X → Type 0) → ((x : X) → P x → Q x) → (xs : List X) → AllByRecursion P xs → AllByRecursion Q xs
all-weaker P Q weaker [] all = tt
all-weaker P Q weaker (x ∷ xs) all = (weaker x all.0, all-weaker P Q weaker xs all.1)

-- ---- the names in what fits

abbrev pub class_of : Sort → Class
class_of Truth = class.Truth
class_of (Cell ty) = class.Reference
class_of (Set ty) = class.Set

-- a name that a quantifier around binds, or a parameter of a sort of this class
abbrev pub IsSorted : List Sort → ℕ → Class → Base → Type 0
IsSorted params depth needs (base.Var v) = Unit {0}
IsSorted params depth needs (base.Bound k) = k < depth
IsSorted params depth needs (base.Param k) = IsSomeAnd (slice_get params k) (λ s. class_of s ≡ needs)

abbrev pub IsSortedUse : List Sort → NameUse → Type 0
IsSortedUse params n = IsSorted params n.depth n.needs n.name

module _ (types : List TypeEntry) (scope : Scope) where
  abbrev AreSorted : List NameUse → Type 0
  AreSorted = AllByRecursion (IsSortedUse scope.params)

  name-sorted : (name : Base) (s : Sort) → BaseFits scope name s → IsSorted scope.params (length scope.bound) (class_of s) name
  name-sorted (base.Var v) s at = tt
  name-sorted (base.Bound k) s at = slice_get-within scope.bound k s at
  name-sorted (base.Param k) s at = subst (λ (o : Option Sort). IsSomeAnd o (λ t. class_of t ≡ class_of s)) (sym at) refl

  start-is : (o : Option Sort) (s : Sort) → option_and_then (λ start. sort_along types start []) o ≡ Some s → o ≡ Some s
  start-is None s h = absurd cc
  start-is (Some start) s h = h

  -- fields go on from a cell alone
  start-cell : (name : Base) (o : Option Sort) → base_sort scope name ≡ o → (f : FieldId) (fields : List FieldId) (s : Sort) →
      option_and_then (λ start. sort_along types start (f ∷ fields)) o ≡ Some s →
      IsSorted scope.params (length scope.bound) class.Reference name
  start-cell name None at f fields s h = absurd cc
  start-cell name (Some Truth) at f fields s h = absurd cc
  start-cell name (Some (Cell ty)) at f fields s h = name-sorted name (Cell ty) at
  start-cell name (Some (Set ty)) at f fields s h = absurd cc

  term-sorted : (t : Term) (s : Sort) → TermFits types scope t s → AreSorted (term_names (class_of s) t (length scope.bound))
  term-sorted term.Null s fits = tt
  term-sorted (term.At name []) s fits = (name-sorted name s (start-is (base_sort scope name) s fits), tt)
  term-sorted (term.At name (f ∷ fields)) s fits = (start-cell name (base_sort scope name) refl f fields s fits, tt)

  set-sorted : (name : Base) (ty : TypeId) → BaseFits scope name (Set ty) → AreSorted (set_name name (length scope.bound))
  set-sorted name ty fits = (name-sorted name (Set ty) fits, tt)

  arg-sorted : (x : Arg) (s : Sort) → ArgFits types scope x s → AreSorted (arg_names x (length scope.bound))
  arg-sorted (arg.Cell t) Truth fits = absurd fits
  arg-sorted (arg.Cell t) (Cell ty) fits = term-sorted t (Cell ty) fits
  arg-sorted (arg.Cell t) (Set ty) fits = absurd fits
  arg-sorted (arg.Set name) Truth fits = absurd fits
  arg-sorted (arg.Set name) (Cell ty) fits = absurd fits
  arg-sorted (arg.Set name) (Set ty) fits = set-sorted name ty fits
  arg-sorted (arg.Truth t) Truth fits = term-sorted t Truth fits
  arg-sorted (arg.Truth t) (Cell ty) fits = absurd fits
  arg-sorted (arg.Truth t) (Set ty) fits = absurd fits

  args-sorted : (args : List Arg) (sorts : List Sort) → ArgsFit types scope args sorts →
      AreSorted (flat_map (λ x. arg_names x (length scope.bound)) args)
  args-sorted [] [] fits = tt
  args-sorted [] (s ∷ sorts) fits = absurd fits
  args-sorted (x ∷ args) [] fits = absurd fits
  args-sorted (x ∷ args) (s ∷ sorts) fits =
      all-append (IsSortedUse scope.params) (arg_names x (length scope.bound)) (flat_map (λ y. arg_names y (length scope.bound)) args)
      (arg-sorted x s fits.0) (args-sorted args sorts fits.1)

  some-args-sorted : (args : List Arg) (o : Option (List Sort)) → IsSomeAnd o (ArgsFit types scope args) →
      AreSorted (flat_map (λ x. arg_names x (length scope.bound)) args)
  some-args-sorted args None fits = absurd fits
  some-args-sorted args (Some sorts) fits = args-sorted args sorts fits

  two : (xs ys : List NameUse) → AreSorted xs → AreSorted ys → AreSorted (xs ++ ys)
  two xs ys = all-append (IsSortedUse scope.params) xs ys

module _ (types : List TypeEntry) where
  abbrev NamesSorted : Assertion → Type 0
  NamesSorted a = (scope : Scope) → FitsIn types a scope → AllByRecursion (IsSortedUse scope.params) (names_at a (length scope.bound))

  told : (params : List Sort) {xs ys : List NameUse} → xs ≡ ys → AllByRecursion (IsSortedUse params) ys → AllByRecursion (IsSortedUse params) xs
  told params e all = subst (AllByRecursion (IsSortedUse params)) (sym e) all

  pub names-sorted : (a : Assertion) → NamesSorted a
  names-sorted = assertion-induction NamesSorted (record {
    of_True = λ w h. told w.params (names-True (length w.bound)) tt;
    of_False = λ w h. told w.params (names-False (length w.bound)) tt;
    of_Truth = λ t w h. told w.params (names-Truth t (length w.bound)) (term-sorted types w t Truth ((Fits-Truth types w t).0 h));
    of_Is = λ t v w h. told w.params (names-Is t v (length w.bound)) (term-sorted types w t (Cell v.ty) ((Fits-Is types w t v).0 h).term);
    of_Same = λ t u w h. let f = (Fits-Same types w t u).0 h in
        told w.params (names-Same t u (length w.bound))
        (two types w _ _ (term-sorted types w t (Cell f.ty) f.left) (term-sorted types w u (Cell f.ty) f.right));
    of_Member = λ t set w h. let f = (Fits-Member types w t set).0 h in
        told w.params (names-Member t set (length w.bound))
        (two types w _ _ (term-sorted types w t (Cell f.ty) f.member) (set-sorted types w set f.ty f.of_set));
    of_Subset = λ set other w h. let f = (Fits-Subset types w set other).0 h in
        told w.params (names-Subset set other (length w.bound))
        (two types w (set_name set (length w.bound)) (set_name other (length w.bound))
        (set-sorted types w set f.ty f.left) (set-sorted types w other f.ty f.right));
    of_Walk = λ t along u w h. let f = (Fits-Walk types w t along u).0 h in
        told w.params (names-Walk t along u (length w.bound))
        (two types w _ _ (term-sorted types w t (Cell f.from_type) f.from) (term-sorted types w u (Cell f.to_type) f.to));
    of_Pred = λ k args w h. told w.params (names-Pred k args (length w.bound))
        (some-args-sorted types w args (slice_get w.preds k) ((Fits-Pred types w k args).0 h));
    of_Not = λ a l w h. told w.params (names-Not a (length w.bound)) (l w ((Fits-Not types w a).0 h));
    of_And = λ a b l m w h. let f = (Fits-And types w a b).0 h in told w.params (names-And a b (length w.bound)) (two types w _ _ (l w f.0) (m w f.1));
    of_Or = λ a b l m w h. let f = (Fits-Or types w a b).0 h in told w.params (names-Or a b (length w.bound)) (two types w _ _ (l w f.0) (m w f.1));
    of_Imp = λ a b l m w h. let f = (Fits-Imp types w a b).0 h in told w.params (names-Imp a b (length w.bound)) (two types w _ _ (l w f.0) (m w f.1));
    of_Iff = λ a b l m w h. let f = (Fits-Iff types w a b).0 h in told w.params (names-Iff a b (length w.bound)) (two types w _ _ (l w f.0) (m w f.1));
    of_Ex = λ ty a l w h. told w.params (names-Ex ty a (length w.bound)) (l (under (Cell ty) w) ((Fits-Ex types w ty a).0 h).1);
    of_All = λ ty a l w h. told w.params (names-All ty a (length w.bound)) (l (under (Cell ty) w) ((Fits-All types w ty a).0 h).1);
    of_ExSet = λ ty a l w h. told w.params (names-ExSet ty a (length w.bound)) (l (under (Set ty) w) ((Fits-ExSet types w ty a).0 h).1);
    of_AllSet = λ ty a l w h. told w.params (names-AllSet ty a (length w.bound)) (l (under (Set ty) w) ((Fits-AllSet types w ty a).0 h).1);
  })

-- ---- uses

-- arguments of these sorts are given to parameters of their classes
arg-class : (types : List TypeEntry) (scope : Scope) (x : Arg) (s : Sort) → ArgFits types scope x s → arg_class x ≡ class_of s
arg-class types scope (arg.Cell t) Truth fits = absurd fits
arg-class types scope (arg.Cell t) (Cell ty) fits = refl
arg-class types scope (arg.Cell t) (Set ty) fits = absurd fits
arg-class types scope (arg.Set name) Truth fits = absurd fits
arg-class types scope (arg.Set name) (Cell ty) fits = absurd fits
arg-class types scope (arg.Set name) (Set ty) fits = refl
arg-class types scope (arg.Truth t) Truth fits = refl
arg-class types scope (arg.Truth t) (Cell ty) fits = absurd fits
arg-class types scope (arg.Truth t) (Set ty) fits = absurd fits

args-class : (types : List TypeEntry) (scope : Scope) (args : List Arg) (sorts : List Sort) → ArgsFit types scope args sorts → (k : ℕ) (c : Class) →
    IsSomeAnd (slice_get sorts k) (λ s. class_of s ≡ c) → IsSomeAnd (slice_get args k) (λ x. arg_class x ≡ c)
args-class types scope [] [] fits k c is = absurd is
args-class types scope [] (s ∷ sorts) fits k c is = absurd fits
args-class types scope (x ∷ args) [] fits k c is = absurd fits
args-class types scope (x ∷ args) (s ∷ sorts) fits zero c is = arg-class types scope x s fits.0 ∙ is
args-class types scope (x ∷ args) (s ∷ sorts) fits (suc k) c is = args-class types scope args sorts fits.1 k c is

args-count : (types : List TypeEntry) (scope : Scope) (args : List Arg) (sorts : List Sort) → ArgsFit types scope args sorts → length args ≡ length sorts
args-count types scope [] [] fits = refl
args-count types scope [] (s ∷ sorts) fits = absurd fits
args-count types scope (x ∷ args) [] fits = absurd fits
args-count types scope (x ∷ args) (s ∷ sorts) fits = let rest : length args ≡ length sorts = args-count types scope args sorts fits.1 in omega arith

given-of : (types : List TypeEntry) (scope : Scope) (args : List Arg) (own : List Sort) → ArgsFit types scope args own → (depth : ℕ) (c : Class) (name : Base) →
    IsSorted own depth c name → IsGiven args (record { name = name; needs = c; depth = depth })
given-of types scope args own fits depth c (base.Var v) is = tt
given-of types scope args own fits depth c (base.Bound k) is = tt
given-of types scope args own fits depth c (base.Param k) is = args-class types scope args own fits k c is

own-of : (params : ℕ) (own : List Sort) → length own ≡ params → (depth : ℕ) (c : Class) (name : Base) →
    IsSorted own depth c name → IsOwn params (record { name = name; needs = c; depth = depth })
own-of params own count depth c (base.Var v) is = tt
own-of params own count depth c (base.Bound k) is = is
own-of params own count depth c (base.Param k) is = by (slice_get own k) refl is
  where
    by : (o : Option Sort) → slice_get own k ≡ o → IsSomeAnd o (λ s. class_of s ≡ c) → k < params
    by None at is = absurd is
    by (Some s) at is = let inside : k < length own = slice_get-within own k s at in omega arith

-- a predicate whose parameters are of these sorts
abbrev pub IsPredOf : List Sort → PredDef → Type 0
IsPredOf own p = (length own ≡ p.params) × AllByRecursion (IsSortedUse own) (names_in p.body)

module _ (types : List TypeEntry) (preds : List PredDef) where
  module _ (sorts : List (List Sort)) (first : ℕ)
      (known : (k : ℕ) (own : List Sort) → slice_get sorts k ≡ Some own → (k < first) × IsSomeAnd (slice_get preds k) (IsPredOf own)) where
    abbrev AreRight : List (ℕ × List Arg) → Type 0
    AreRight = AllByRecursion (IsRightUse preds first)

    abbrev UsesRight : Assertion → Type 0
    UsesRight a = (scope : Scope) → scope.preds ≡ sorts → FitsIn types a scope → AreRight (uses_in a)

    right : (k : ℕ) (args : List Arg) (scope : Scope) (own : List Sort) → ArgsFit types scope args own → (o : Option PredDef) → IsSomeAnd o (IsPredOf own) →
        IsSomeAnd o (λ p. (length args ≡ p.params) × AllByRecursion (IsGiven args) (names_in p.body))
    right k args scope own fits None is = absurd is
    right k args scope own fits (Some p) is = (
      args-count types scope args own fits ∙ is.0,
      all-weaker (IsSortedUse own) (IsGiven args) (λ n. given-of types scope args own fits n.depth n.needs n.name) (names_in p.body) is.1,
    )

    use-right : (k : ℕ) (args : List Arg) (scope : Scope) (o : Option (List Sort)) → slice_get sorts k ≡ o → IsSomeAnd o (ArgsFit types scope args) →
        IsRightUse preds first (k, args)
    use-right k args scope None at fits = absurd fits
    use-right k args scope (Some own) at fits =
        let is = known k own at in record { among = is.0; args = right k args scope own fits (slice_get preds k) is.1 }

    as-uses : {xs ys : List (ℕ × List Arg)} → xs ≡ ys → AreRight ys → AreRight xs
    as-uses e all = subst AreRight (sym e) all

    two-uses : (xs ys : List (ℕ × List Arg)) → AreRight xs → AreRight ys → AreRight (xs ++ ys)
    two-uses xs ys = all-append (IsRightUse preds first) xs ys

    pub uses-right : (a : Assertion) → UsesRight a
    uses-right = assertion-induction UsesRight (record {
      of_True = λ w e h. as-uses uses-True tt;
      of_False = λ w e h. as-uses uses-False tt;
      of_Truth = λ t w e h. as-uses (uses-Truth t) tt;
      of_Is = λ t v w e h. as-uses (uses-Is t v) tt;
      of_Same = λ t u w e h. as-uses (uses-Same t u) tt;
      of_Member = λ t set w e h. as-uses (uses-Member t set) tt;
      of_Subset = λ set other w e h. as-uses (uses-Subset set other) tt;
      of_Walk = λ t along u w e h. as-uses (uses-Walk t along u) tt;
      of_Pred = λ k args w e h. as-uses (uses-Pred k args)
          (use-right k args w (slice_get w.preds k) (ap (λ (l : List (List Sort)). slice_get l k) (sym e)) ((Fits-Pred types w k args).0 h), tt);
      of_Not = λ a l w e h. as-uses (uses-Not a) (l w e ((Fits-Not types w a).0 h));
      of_And = λ a b l m w e h. let f = (Fits-And types w a b).0 h in as-uses (uses-And a b) (two-uses _ _ (l w e f.0) (m w e f.1));
      of_Or = λ a b l m w e h. let f = (Fits-Or types w a b).0 h in as-uses (uses-Or a b) (two-uses _ _ (l w e f.0) (m w e f.1));
      of_Imp = λ a b l m w e h. let f = (Fits-Imp types w a b).0 h in as-uses (uses-Imp a b) (two-uses _ _ (l w e f.0) (m w e f.1));
      of_Iff = λ a b l m w e h. let f = (Fits-Iff types w a b).0 h in as-uses (uses-Iff a b) (two-uses _ _ (l w e f.0) (m w e f.1));
      of_Ex = λ ty a l w e h. as-uses (uses-Ex ty a) (l (under (Cell ty) w) e ((Fits-Ex types w ty a).0 h).1);
      of_All = λ ty a l w e h. as-uses (uses-All ty a) (l (under (Cell ty) w) e ((Fits-All types w ty a).0 h).1);
      of_ExSet = λ ty a l w e h. as-uses (uses-ExSet ty a) (l (under (Set ty) w) e ((Fits-ExSet types w ty a).0 h).1);
      of_AllSet = λ ty a l w e h. as-uses (uses-AllSet ty a) (l (under (Set ty) w) e ((Fits-AllSet types w ty a).0 h).1);
    })

  -- ---- the predicates of a list, the last of them first, among all of them

  abbrev scope_before : List Sort → List (List Sort) → Scope
  scope_before own before = record { vars = []; bound = []; params = own; preds = reverse before }

  counted : (l : List PredDef) (sorts : List (List Sort)) → PredsFit types l sorts → length (reverse sorts) ≡ length (reverse l)
  counted l sorts fit = length-reverse sorts ∙ by l sorts fit ∙ sym (length-reverse l)
    where
      by : (l : List PredDef) (sorts : List (List Sort)) → PredsFit types l sorts → length sorts ≡ length l
      by [] [] fit = refl
      by [] (own ∷ before) fit = absurd fit
      by (p ∷ l) [] fit = absurd fit
      by (p ∷ l) (own ∷ before) fit = let rest : length before ≡ length l = by l before fit.2 in omega arith

  moved : (p : PredDef) (l rest : List PredDef) → preds ≡ reverse (p ∷ l) ++ rest → preds ≡ reverse l ++ p ∷ rest
  moved p l rest is = is ∙ ap (λ (xs : List PredDef). xs ++ rest) (reverse-cons p l) ∙ append_assoc (reverse l) (p ∷ []) rest

  last-at : (p : PredDef) (l rest : List PredDef) → preds ≡ reverse (p ∷ l) ++ rest → slice_get preds (length (reverse l)) ≡ Some p
  last-at p l rest is = ap (λ (xs : List PredDef). slice_get xs (length (reverse l))) (moved p l rest is) ∙ slice_get-seam (reverse l) p rest

  pub pred-of : (l rest : List PredDef) (sorts : List (List Sort)) → PredsFit types l sorts → preds ≡ reverse l ++ rest → (k : ℕ) (own : List Sort) →
      slice_get (reverse sorts) k ≡ Some own → IsSomeAnd (slice_get preds k) (IsPredOf own)
  pred-of [] rest [] fit is k own at = absurd cc
  pred-of [] rest (o ∷ before) fit is k own at = absurd fit
  pred-of (p ∷ l) rest [] fit is k own at = absurd fit
  pred-of (p ∷ l) rest (o ∷ before) fit is k own at =
      by (pred-of l (p ∷ rest) before fit.2 (moved p l rest is) k own)
      (at-push (reverse before) o k own (ap (λ (xs : List (List Sort)). slice_get xs k) (sym (reverse-cons o before)) ∙ at))
    where
      by : (slice_get (reverse before) k ≡ Some own → IsSomeAnd (slice_get preds k) (IsPredOf own)) →
          (slice_get (reverse before) k ≡ Some own) ⊎ ((k ≡ length (reverse before)) × (o ≡ own)) → IsSomeAnd (slice_get preds k) (IsPredOf own)
      by before-it (inl earlier) = before-it earlier
      by before-it (inr last) =
          let there : slice_get preds k ≡ Some p = ap (slice_get preds) (last.0 ∙ counted l before fit.2) ∙ last-at p l rest is in
          subst (λ (q : Option PredDef). IsSomeAnd q (IsPredOf own)) (sym there)
          (subst (λ (s : List Sort). IsPredOf s p) last.1 (fit.0, names-sorted types p.body (scope_before o before) fit.1))

  pub body-at : (l rest : List PredDef) (sorts : List (List Sort)) → PredsFit types l sorts → preds ≡ reverse l ++ rest → (k : ℕ) (q : PredDef) →
      slice_get (reverse l) k ≡ Some q → IsBodyAt preds k q
  body-at [] rest sorts fit is k q at = absurd cc
  body-at (p ∷ l) rest [] fit is k q at = absurd fit
  body-at (p ∷ l) rest (own ∷ before) fit is k q at =
      by (body-at l (p ∷ rest) before fit.2 (moved p l rest is) k q)
      (at-push (reverse l) p k q (ap (λ (xs : List PredDef). slice_get xs k) (sym (reverse-cons p l)) ∙ at))
    where
      known : (j : ℕ) (sorts : List Sort) → slice_get (reverse before) j ≡ Some sorts →
          (j < length (reverse l)) × IsSomeAnd (slice_get preds j) (IsPredOf sorts)
      known j sorts here =
          let inside : j < length (reverse before) = slice_get-within (reverse before) j sorts here in
          let same : length (reverse before) ≡ length (reverse l) = counted l before fit.2 in
          (omega arith, pred-of l (p ∷ rest) before fit.2 (moved p l rest is) j sorts here)

      own-body : IsBodyAt preds (length (reverse l)) p
      own-body = record {
        uses = uses-right (reverse before) (length (reverse l)) known p.body (scope_before own before) refl fit.1;
        names = all-weaker (IsSortedUse own) (IsOwn p.params) (λ n. own-of p.params own fit.0 n.depth n.needs n.name) (names_in p.body)
            (names-sorted types p.body (scope_before own before) fit.1);
      }

      by : (slice_get (reverse l) k ≡ Some q → IsBodyAt preds k q) →
          (slice_get (reverse l) k ≡ Some q) ⊎ ((k ≡ length (reverse l)) × (p ≡ q)) → IsBodyAt preds k q
      by before-it (inl earlier) = before-it earlier
      by before-it (inr last) = subst (λ (r : PredDef). IsBodyAt preds k r) last.1 (subst (λ n. IsBodyAt preds n p) (sym last.0) own-body)

  whole : preds ≡ reverse (reverse preds) ++ []
  whole = sym (append-nil (reverse (reverse preds)) ∙ reverse-reverse preds)

  -- predicates that fit can be put into what fits
  pub can-expand : (scope : Scope) (a : Assertion) → PredsFit types (reverse preds) (reverse scope.preds) → FitsIn types a scope → CanExpand preds a
  can-expand scope a fit fits = record {
    bodies = λ k. body k (slice_get preds k) refl;
    uses = uses-right scope.preds (length preds) known a scope refl fits;
  }
    where
      body : (k : ℕ) (o : Option PredDef) → slice_get preds k ≡ o → IfSome o (IsBodyAt preds k)
      body k None at = tt
      body k (Some p) at = body-at (reverse preds) [] (reverse scope.preds) fit whole k p
          (ap (λ (xs : List PredDef). slice_get xs k) (reverse-reverse preds) ∙ at)

      known : (k : ℕ) (own : List Sort) → slice_get scope.preds k ≡ Some own → (k < length preds) × IsSomeAnd (slice_get preds k) (IsPredOf own)
      known k own at =
          let inside : k < length scope.preds = slice_get-within scope.preds k own at in
          let same : length scope.preds ≡ length preds =
          ap length (sym (reverse-reverse scope.preds)) ∙ counted (reverse preds) (reverse scope.preds) fit ∙ ap length (reverse-reverse preds) in (
            omega arith,
            pred-of (reverse preds) [] (reverse scope.preds) fit whole k own
                (ap (λ (xs : List (List Sort)). slice_get xs k) (reverse-reverse scope.preds) ∙ at),
          )
