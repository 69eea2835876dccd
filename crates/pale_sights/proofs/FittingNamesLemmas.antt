-- Which variables an assertion names, where its names are those of variables that the place may name.
use Rattle.std.proofs.Common.{◌≡◌, ◌+◌, ℕ, zero, suc, Bool, true, false, List, [], ◌∷◌, ◌++◌, length, flat_map, slice_get}
use Rattle.std.proofs.Common.{Option, Some, None, IsSomeAnd, refl, sym, ap, ◌∙◌, subst, arith}
use Rattle.std.specs.List.{AllByRecursion}
use Rattle.std.specs.Option.{option_map, option_and_then}
use Rattle.store_core.specs.declared.ids.TypeId.{TypeId}
use Rattle.store_core.specs.declared.ids.FieldId.{FieldId}
use Rattle.store_core.specs.declared.ids.VarId.{VarId}
use Rattle.store_core.specs.declared.kind.VarKind.{VarKind}
use Rattle.store_core.specs.declared.kind.VarKind.TheVariants as var
use Rattle.store_core.specs.declared.value.Class.{Class}
use Rattle.store_core.specs.declared.value.Class.TheVariants as class
use Rattle.store_core.specs.Tables.{TypeEntry, VarEntry, var_at}
use Rattle.store_logic.specs.declared.term.Base.{Base}
use Rattle.store_logic.specs.declared.term.Base.TheVariants as base
use Rattle.store_logic.specs.declared.term.Term.{Term}
use Rattle.store_logic.specs.declared.term.Term.TheVariants as term
use Rattle.store_logic.specs.declared.arg.Arg.{Arg}
use Rattle.store_logic.specs.declared.arg.Arg.TheVariants as arg
use Rattle.store_logic.specs.declared.assertion.Assertion.{Assertion}
use Rattle.store_logic.specs.Sorts.{Sort, Truth, Cell, Set, Scope, under, var_sort, sort_along, base_sort, BaseFits, TermFits, ArgFits, ArgsFit}
use Rattle.store_logic.specs.Fits.{FitsIn, AssertionFits}
use Rattle.store_logic.specs.Uses.{NameUse, term_names, set_name, arg_names, names_in}
use Rattle.store_logic.specs.Expansion.{expansion}
use Rattle.store_logic.proofs.AssertionLemmas.{assertion-induction}
use Rattle.store_logic.proofs.ExpandingForms.{names_at, names-True, names-False, names-Truth, names-Is, names-Same, names-Member, names-Subset}
use Rattle.store_logic.proofs.ExpandingForms.{names-Walk, names-Pred, names-Not, names-And, names-Or, names-Imp, names-Iff, names-Ex, names-All}
use Rattle.store_logic.proofs.ExpandingForms.{names-ExSet, names-AllSet}
use Rattle.store_logic.proofs.ExpandingLists.{all-append}
use Rattle.pale_syntax.specs.declared.tree.assertion.Assertion as source
use Rattle.pale_terms.specs.declared.scope.Origin.{Origin}
use Rattle.pale_terms.specs.declared.scope.Origin.TheVariants as origin
use Rattle.pale_terms.specs.Sorts.{kept}
use Rattle.pale_terms.specs.Visibles.{Entry}
use Rattle.pale_terms.specs.Scopes.{base_of}
use Rattle.pale_vocabulary.specs.Heads.{Head}
use Rattle.pale_vocabulary.specs.Assertions.{assertion_fault, typed_assertion}
use Rattle.pale_vocabulary.specs.declared.vocabulary.Declared.{Declared}
use Rattle.pale_fitting.specs.Standing.{sort_in, HasItsSort, StandFor, IsVariable, AreVariables, pred_sorts, scope_with}
use Rattle.pale_fitting.specs.Declaring.{DeclarationsFit}
use Rattle.claim_laws.proofs.FitForms.{Fits-Truth, Fits-Is, Fits-Same, Fits-Member, Fits-Subset, Fits-Walk, Fits-Pred, Fits-Not, Fits-And}
use Rattle.claim_laws.proofs.FitForms.{Fits-Or, Fits-Imp, Fits-Iff, Fits-Ex, Fits-All, Fits-ExSet, Fits-AllSet}
use Rattle.pale_fitting.proofs.UseLemmas.{class_of}
use Rattle.pale_fitting.proofs.BindingLemmas.{variables-stand}
use Rattle.pale_fitting.proofs.AssertionFitLemmas.{assertion-fits}
use Rattle.pale_fitting.proofs.ExpansionLemmas.{expansion-fits}
use Rattle.claim_laws.specs.Claims.{NameMayBe}

-- ---- the classes of the variables in what fits

-- no variable, or one of the table, of this class
abbrev pub IsClassed : List VarEntry → Class → Base → Type 0
IsClassed vars needs (base.Var v) = IsSomeAnd (var_at vars v) (λ entry. class_of (var_sort entry.kind) ≡ needs)
IsClassed vars needs (base.Bound k) = Unit {0}
IsClassed vars needs (base.Param k) = Unit {0}

abbrev pub IsClassedUse : List VarEntry → NameUse → Type 0
IsClassedUse vars n = IsClassed vars n.needs n.name

module _ (types : List TypeEntry) (scope : Scope) where
  abbrev AreClassed : List NameUse → Type 0
  AreClassed = AllByRecursion (IsClassedUse scope.vars)

  name-classed : (name : Base) (s : Sort) → BaseFits scope name s → IsClassed scope.vars (class_of s) name
  name-classed (base.Var v) s at = by (var_at scope.vars v) at
    where
      by : (o : Option VarEntry) → option_map (λ (entry : VarEntry). var_sort entry.kind) o ≡ Some s →
          IsSomeAnd o (λ entry. class_of (var_sort entry.kind) ≡ class_of s)
      by None is = absurd cc
      by (Some entry) is = let same : var_sort entry.kind ≡ s = cc in ap class_of same
  name-classed (base.Bound k) s at = tt
  name-classed (base.Param k) s at = tt

  start-is : (o : Option Sort) (s : Sort) → option_and_then (λ start. sort_along types start []) o ≡ Some s → o ≡ Some s
  start-is None s h = absurd cc
  start-is (Some start) s h = h

  -- fields go on from a cell alone
  start-cell : (name : Base) (o : Option Sort) → base_sort scope name ≡ o → (f : FieldId) (fields : List FieldId) (s : Sort) →
      option_and_then (λ start. sort_along types start (f ∷ fields)) o ≡ Some s → IsClassed scope.vars class.Reference name
  start-cell name None at f fields s h = absurd cc
  start-cell name (Some Truth) at f fields s h = absurd cc
  start-cell name (Some (Cell ty)) at f fields s h = name-classed name (Cell ty) at
  start-cell name (Some (Set ty)) at f fields s h = absurd cc

  term-classed : (t : Term) (s : Sort) (depth : ℕ) → TermFits types scope t s → AreClassed (term_names (class_of s) t depth)
  term-classed term.Null s depth fits = tt
  term-classed (term.At name []) s depth fits = (name-classed name s (start-is (base_sort scope name) s fits), tt)
  term-classed (term.At name (f ∷ fields)) s depth fits = (start-cell name (base_sort scope name) refl f fields s fits, tt)

  set-classed : (name : Base) (ty : TypeId) (depth : ℕ) → BaseFits scope name (Set ty) → AreClassed (set_name name depth)
  set-classed name ty depth fits = (name-classed name (Set ty) fits, tt)

  arg-classed : (x : Arg) (s : Sort) (depth : ℕ) → ArgFits types scope x s → AreClassed (arg_names x depth)
  arg-classed (arg.Cell t) Truth depth fits = absurd fits
  arg-classed (arg.Cell t) (Cell ty) depth fits = term-classed t (Cell ty) depth fits
  arg-classed (arg.Cell t) (Set ty) depth fits = absurd fits
  arg-classed (arg.Set name) Truth depth fits = absurd fits
  arg-classed (arg.Set name) (Cell ty) depth fits = absurd fits
  arg-classed (arg.Set name) (Set ty) depth fits = set-classed name ty depth fits
  arg-classed (arg.Truth t) Truth depth fits = term-classed t Truth depth fits
  arg-classed (arg.Truth t) (Cell ty) depth fits = absurd fits
  arg-classed (arg.Truth t) (Set ty) depth fits = absurd fits

  args-classed : (args : List Arg) (sorts : List Sort) (depth : ℕ) → ArgsFit types scope args sorts →
      AreClassed (flat_map (λ x. arg_names x depth) args)
  args-classed [] [] depth fits = tt
  args-classed [] (s ∷ sorts) depth fits = absurd fits
  args-classed (x ∷ args) [] depth fits = absurd fits
  args-classed (x ∷ args) (s ∷ sorts) depth fits =
      all-append (IsClassedUse scope.vars) (arg_names x depth) (flat_map (λ y. arg_names y depth) args)
      (arg-classed x s depth fits.0) (args-classed args sorts depth fits.1)

  some-args-classed : (args : List Arg) (o : Option (List Sort)) (depth : ℕ) → IsSomeAnd o (ArgsFit types scope args) →
      AreClassed (flat_map (λ x. arg_names x depth) args)
  some-args-classed args None depth fits = absurd fits
  some-args-classed args (Some sorts) depth fits = args-classed args sorts depth fits

  two : (xs ys : List NameUse) → AreClassed xs → AreClassed ys → AreClassed (xs ++ ys)
  two xs ys = all-append (IsClassedUse scope.vars) xs ys

module _ (types : List TypeEntry) where
  abbrev NamesClassed : Assertion → Type 0
  NamesClassed a = (scope : Scope) (d : ℕ) → FitsIn types a scope → AllByRecursion (IsClassedUse scope.vars) (names_at a d)

  told : (vars : List VarEntry) {xs ys : List NameUse} → xs ≡ ys → AllByRecursion (IsClassedUse vars) ys → AllByRecursion (IsClassedUse vars) xs
  told vars e all = subst (AllByRecursion (IsClassedUse vars)) (sym e) all

  names-classed : (a : Assertion) → NamesClassed a
  names-classed = assertion-induction NamesClassed (record {
    of_True = λ w d h. told w.vars (names-True d) tt;
    of_False = λ w d h. told w.vars (names-False d) tt;
    of_Truth = λ t w d h. told w.vars (names-Truth t d) (term-classed types w t Truth d ((Fits-Truth types w t).0 h));
    of_Is = λ t v w d h. told w.vars (names-Is t v d) (term-classed types w t (Cell v.ty) d ((Fits-Is types w t v).0 h).term);
    of_Same = λ t u w d h. let f = (Fits-Same types w t u).0 h in
        told w.vars (names-Same t u d) (two types w _ _ (term-classed types w t (Cell f.ty) d f.left) (term-classed types w u (Cell f.ty) d f.right));
    of_Member = λ t set w d h. let f = (Fits-Member types w t set).0 h in
        told w.vars (names-Member t set d) (two types w _ _ (term-classed types w t (Cell f.ty) d f.member) (set-classed types w set f.ty d f.of_set));
    of_Subset = λ set other w d h. let f = (Fits-Subset types w set other).0 h in
        told w.vars (names-Subset set other d)
        (two types w (set_name set d) (set_name other d) (set-classed types w set f.ty d f.left) (set-classed types w other f.ty d f.right));
    of_Walk = λ t along u w d h. let f = (Fits-Walk types w t along u).0 h in
        told w.vars (names-Walk t along u d)
        (two types w _ _ (term-classed types w t (Cell f.from_type) d f.from) (term-classed types w u (Cell f.to_type) d f.to));
    of_Pred = λ k args w d h. told w.vars (names-Pred k args d) (some-args-classed types w args (slice_get w.preds k) d ((Fits-Pred types w k args).0 h));
    of_Not = λ a l w d h. told w.vars (names-Not a d) (l w d ((Fits-Not types w a).0 h));
    of_And = λ a b l m w d h. let f = (Fits-And types w a b).0 h in told w.vars (names-And a b d) (two types w _ _ (l w d f.0) (m w d f.1));
    of_Or = λ a b l m w d h. let f = (Fits-Or types w a b).0 h in told w.vars (names-Or a b d) (two types w _ _ (l w d f.0) (m w d f.1));
    of_Imp = λ a b l m w d h. let f = (Fits-Imp types w a b).0 h in told w.vars (names-Imp a b d) (two types w _ _ (l w d f.0) (m w d f.1));
    of_Iff = λ a b l m w d h. let f = (Fits-Iff types w a b).0 h in told w.vars (names-Iff a b d) (two types w _ _ (l w d f.0) (m w d f.1));
    of_Ex = λ ty a l w d h. told w.vars (names-Ex ty a d) (l (under (Cell ty) w) (suc d) ((Fits-Ex types w ty a).0 h).1);
    of_All = λ ty a l w d h. told w.vars (names-All ty a d) (l (under (Cell ty) w) (suc d) ((Fits-All types w ty a).0 h).1);
    of_ExSet = λ ty a l w d h. told w.vars (names-ExSet ty a d) (l (under (Set ty) w) (suc d) ((Fits-ExSet types w ty a).0 h).1);
    of_AllSet = λ ty a l w d h. told w.vars (names-AllSet ty a d) (l (under (Set ty) w) (suc d) ((Fits-AllSet types w ty a).0 h).1);
  })

-- ---- tables in which some variables are of other classes

other_kind : VarKind → VarKind
other_kind var.Bool = var.LogicSet (record { 0 = 0 })
other_kind (var.Data target) = var.Bool
other_kind (var.Pointer target) = var.Bool
other_kind (var.LogicSet target) = var.Bool
other_kind var.LogicBool = var.LogicSet (record { 0 = 0 })

other-class : (k : VarKind) (c : Class) → class_of (var_sort k) ≡ c → class_of (var_sort (other_kind k)) ≡ c → ⊥
unfolding other_kind
other-class var.Bool c own other = let no : class.Truth ≡ class.Set = own ∙ sym other in absurd cc
other-class (var.Data target) c own other = let no : class.Reference ≡ class.Truth = own ∙ sym other in absurd cc
other-class (var.Pointer target) c own other = let no : class.Reference ≡ class.Truth = own ∙ sym other in absurd cc
other-class (var.LogicSet target) c own other = let no : class.Set ≡ class.Truth = own ∙ sym other in absurd cc
other-class var.LogicBool c own other = let no : class.Truth ≡ class.Set = own ∙ sym other in absurd cc

disguise : Bool → VarEntry → VarEntry
disguise true e = e
disguise false e = record { name = e.name; kind = other_kind e.kind }

-- the variables, the first of which has this number, where those that fail the test are of other classes
disguised : (ℕ → Bool) → ℕ → List VarEntry → List VarEntry
disguised test number [] = []
disguised test number (e ∷ vars) = disguise (test number) e ∷ disguised test (number + 1) vars

disguised-at : (test : ℕ → Bool) (number : ℕ) (vars : List VarEntry) (k : ℕ) →
    slice_get (disguised test number vars) k ≡ option_map (disguise (test (number + k))) (slice_get vars k)
unfolding disguised
disguised-at test number [] k = refl
disguised-at test number (e ∷ vars) zero =
    let same : number ≡ number + 0 = omega arith in ap (λ n. Some (disguise (test n) e)) same
disguised-at test number (e ∷ vars) (suc k) =
    let same : number + 1 + k ≡ number + suc k = omega arith in
    disguised-at test (number + 1) vars k ∙ ap (λ n. option_map (disguise (test n)) (slice_get vars k)) same

-- ---- what may be named

-- a variable whose number passes the test
abbrev pub Passes : (ℕ → Bool) → Origin → Type 0
Passes test (origin.Variable v) = test v.0 ≡ true
Passes test (origin.Parameter k) = ⊥
Passes test origin.Quantifier = ⊥

-- where the place may name it, it passes the test
abbrev pub IsOpen : (ℕ → Bool) → Entry → Type 0
IsOpen test e = e.visible.may ≡ true → Passes test e.visible.origin

abbrev pub AreOpen : (ℕ → Bool) → List Entry → Type 0
AreOpen test entries = AllByRecursion (IsOpen test) entries

-- a variable of the table that passes the test
pub record IsPassed (vars : List VarEntry) (test : ℕ → Bool) (v : VarId) : Type 0 where
  pub passes : test v.0 ≡ true
  pub there : IsSomeAnd (var_at vars v) (λ entry. Unit {0})

kept-in : (k : VarKind) → var_sort k ≡ sort_in (kept k)
kept-in var.Bool = refl
kept-in (var.Data target) = refl
kept-in (var.Pointer target) = refl
kept-in (var.LogicSet target) = refl
kept-in var.LogicBool = refl

module _ (vars : List VarEntry) (test : ℕ → Bool) where
  -- what passes is in the disguised table as it was
  passed-at : (v : VarId) → test v.0 ≡ true → var_at (disguised test 0 vars) v ≡ var_at vars v
  unfolding disguise
  passed-at v passes =
      let same : v.0 ≡ 0 + v.0 = omega arith in
      disguised-at test 0 vars v.0
      ∙ ap (λ n. option_map (disguise (test n)) (slice_get vars v.0)) (sym same)
      ∙ ap (λ b. option_map (disguise b) (slice_get vars v.0)) passes
      ∙ kept-whole (slice_get vars v.0)
    where
      kept-whole : (o : Option VarEntry) → option_map (disguise true) o ≡ o
      kept-whole None = refl
      kept-whole (Some e) = refl

  open-stands : (heads : List Head) (after : ℕ) (e : Entry) → IsVariable vars e → IsOpen test e →
      HasItsSort (scope_with (disguised test 0 vars) heads) after e
  open-stands heads after e is opens may =
      subst (λ o. BaseFits (scope_with (disguised test 0 vars) heads) (base_of o after) (sort_in e.visible.sort)) (sym is.origin)
      (ap (option_map (λ (entry : VarEntry). var_sort entry.kind)) (passed-at is.var (subst (Passes test) is.origin (opens may)))
      ∙ by (var_at vars is.var) is.sort)
    where
      by : (o : Option VarEntry) → IsSomeAnd o (λ entry. e.visible.sort ≡ kept entry.kind) →
          option_map (λ (entry : VarEntry). var_sort entry.kind) o ≡ Some (sort_in e.visible.sort)
      by None so = absurd so
      by (Some entry) so = ap Some (kept-in entry.kind ∙ ap sort_in (sym so))

  opens-stand : (heads : List Head) (entries : List Entry) → AreVariables vars entries → AreOpen test entries →
      StandFor entries (scope_with (disguised test 0 vars) heads)
  opens-stand heads [] are opens = tt
  opens-stand heads (e ∷ entries) are opens = (open-stands heads (length entries) e are.0 opens.0, opens-stand heads entries are.1 opens.1)

  -- a variable that is of one class in both tables passes the test
  both-classed : (v : VarId) (c : Class) → IsClassed vars c (base.Var v) → IsClassed (disguised test 0 vars) c (base.Var v) → IsPassed vars test v
  unfolding disguise
  both-classed v c own other =
      by (test v.0) refl (slice_get vars v.0) refl own
      (subst (λ (o : Option VarEntry). IsSomeAnd o (λ entry. class_of (var_sort entry.kind) ≡ c)) (disguised-at test 0 vars v.0 ∙ same) other)
    where
      same : option_map (disguise (test (0 + v.0))) (slice_get vars v.0) ≡ option_map (disguise (test v.0)) (slice_get vars v.0)
      same = let number : 0 + v.0 ≡ v.0 = omega arith in ap (λ n. option_map (disguise (test n)) (slice_get vars v.0)) number

      by : (b : Bool) → test v.0 ≡ b → (o : Option VarEntry) → slice_get vars v.0 ≡ o →
          IsSomeAnd o (λ entry. class_of (var_sort entry.kind) ≡ c) →
          IsSomeAnd (option_map (disguise b) o) (λ entry. class_of (var_sort entry.kind) ≡ c) → IsPassed vars test v
      by true passes None at first second = absurd first
      by true passes (Some e) at first second =
          record { passes = passes; there = subst (λ (o : Option VarEntry). IsSomeAnd o (λ entry. Unit {0})) (sym at) tt }
      by false fails None at first second = absurd first
      by false fails (Some e) at first second = absurd (other-class e.kind c first second)

  passed-names : (names : List NameUse) → AllByRecursion (IsClassedUse vars) names → AllByRecursion (IsClassedUse (disguised test 0 vars)) names →
      AllByRecursion (λ n. NameMayBe (IsPassed vars test) n.name) names
  passed-names [] one other = tt
  passed-names (n ∷ names) one other = (by n.name one.0 other.0, passed-names names one.1 other.1)
    where
      by : (name : Base) → IsClassed vars n.needs name → IsClassed (disguised test 0 vars) n.needs name → NameMayBe (IsPassed vars test) name
      by (base.Var v) own disguising = both-classed v n.needs own disguising
      by (base.Bound k) own disguising = tt
      by (base.Param k) own disguising = tt

-- an assertion without a fault names what the place may name
module _ (d : Declared) (vars : List VarEntry) (test : ℕ → Bool) (entries : List Entry) (a : source.Assertion) (fit : DeclarationsFit d)
    (are : AreVariables vars entries) (opens : AreOpen test entries) (none : assertion_fault d.vocabulary entries a ≡ None) where
  fits-over : (table : List VarEntry) → StandFor entries (scope_with table d.vocabulary.preds) →
      AssertionFits d.vocabulary.types table (expansion d.preds (typed_assertion d.vocabulary entries a))
  fits-over table stand =
      expansion-fits d.vocabulary.types table d.preds (pred_sorts d.vocabulary.preds) (typed_assertion d.vocabulary entries a) fit.preds
      (assertion-fits d.vocabulary fit.names a entries (scope_with table d.vocabulary.preds) stand refl none)

  pub stated-fits : AssertionFits d.vocabulary.types vars (expansion d.preds (typed_assertion d.vocabulary entries a))
  stated-fits = fits-over vars (variables-stand vars d.vocabulary.preds entries are)

  pub stated-names : AllByRecursion (λ n. NameMayBe (IsPassed vars test) n.name) (names_in (expansion d.preds (typed_assertion d.vocabulary entries a)))
  stated-names =
      let made = expansion d.preds (typed_assertion d.vocabulary entries a) in
      passed-names vars test (names_in made) (names-classed d.vocabulary.types made _ 0 stated-fits)
      (names-classed d.vocabulary.types made _ 0 (fits-over (disguised test 0 vars) (opens-stand vars test d.vocabulary.preds entries are opens)))
