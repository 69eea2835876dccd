-- An assertion with something put in for the variables that it names fits the other table.
use Rattle.std.proofs.Common.{◌≡◌, ℕ, suc, ◌==◌, Bool, true, false, List, [], ◌∷◌, ◌++◌, length, Option, Some, None}
use Rattle.std.proofs.Common.{IfSome}
use Rattle.std.proofs.Common.{if◌then◌else◌, refl, sym, ap, ◌∙◌, subst}
use Rattle.std.specs.List.{AllByRecursion, Contains}
use Rattle.std.specs.Option.{option_map, option_and_then}
use Rattle.store_core.specs.declared.ids.TypeId.{TypeId}
use Rattle.store_core.specs.declared.ids.FieldId.{FieldId}
use Rattle.store_core.specs.declared.ids.VarId.{VarId}
use Rattle.store_core.specs.declared.value.Class.{Class}
use Rattle.store_core.specs.declared.value.Class.TheVariants as class
use Rattle.store_core.specs.declared.kind.FieldKind.{FieldKind}
use Rattle.store_core.specs.declared.kind.FieldKind.TheVariants as field
use Rattle.store_core.specs.Tables.{TypeEntry, VarEntry, FieldEntry, field_at, var_at}
use Rattle.store_logic.specs.declared.term.Base.{Base}
use Rattle.store_logic.specs.declared.term.Base.TheVariants as base
use Rattle.store_logic.specs.declared.term.Term.{Term}
use Rattle.store_logic.specs.declared.term.Term.TheVariants as term
use Rattle.store_logic.specs.declared.assertion.Assertion.{Assertion}
use Rattle.store_logic.specs.Sorts.{Sort, Truth, Cell, Set, Scope, scope_of, var_sort, field_sort, sort_along, base_sort, BaseFits, TermFits}
use Rattle.store_logic.specs.Fits.{FitsIn, AssertionFits}
use Rattle.store_logic.specs.Uses.{NameUse, term_names, set_name}
use Rattle.store_logic.specs.Filling.{Filling, of_term, of_truth, shifted_base, shifted_term, shifted, path_from}
use Rattle.store_logic.specs.Filling.{filled_term, is_true, constant}
use Rattle.store_logic.specs.Filling.{truth_from, filled_truth, name_in, filled_set, filled}
use Rattle.store_logic.proofs.AssertionLemmas.{assertion-induction}
use Rattle.store_logic.proofs.ExpandingForms.{filled-True, filled-False, filled-Truth, filled-Is, filled-Same, filled-Member, filled-Subset}
use Rattle.store_logic.proofs.ExpandingForms.{filled-Walk}
use Rattle.store_logic.proofs.ExpandingForms.{filled-Not, filled-And, filled-Or, filled-Imp, filled-Iff, filled-Ex, filled-All}
use Rattle.store_logic.proofs.ExpandingForms.{filled-ExSet, filled-AllSet}
use Rattle.store_logic.proofs.ExpandingForms.{names_at, names-Truth, names-Is, names-Same, names-Member, names-Subset}
use Rattle.store_logic.proofs.ExpandingForms.{names-Walk, names-Not, names-And, names-Or, names-Imp, names-Iff, names-Ex, names-All}
use Rattle.store_logic.proofs.ExpandingForms.{names-ExSet, names-AllSet}
use Rattle.store_logic.proofs.ExpandingLists.{all-first, all-second}
use Rattle.claim_laws.proofs.FitForms.{Fits-True, Fits-False, Fits-Truth, Fits-Is, Fits-Same, Fits-Member, Fits-Subset, Fits-Walk, Fits-Pred}
use Rattle.claim_laws.proofs.FitForms.{Fits-Not, Fits-And, Fits-Or, Fits-Imp, Fits-Iff, Fits-Ex, Fits-All, Fits-ExSet, Fits-AllSet}
use Rattle.claim_laws.specs.Claims.{NameMayBe, StatedFits, FillingFits}
use Rattle.claim_laws.proofs.LeadLemmas.{along-append, leads-of, leads-fits}

-- ---- fields

no-set-field : (types : List TypeEntry) (ty : TypeId) (k : FieldKind) → field_sort k ≡ Set ty → ⊥
no-set-field types ty field.Bool is = absurd cc
no-set-field types ty (field.Data target) is = absurd cc
no-set-field types ty (field.Pointer target along) is = absurd cc

some-sort : (s r : Sort) → Some s ≡ Some r → s ≡ r
some-sort s r e = cc

-- no field leads to a set
no-set : (types : List TypeEntry) (ty : TypeId) (start : Sort) (f : FieldId) (fields : List FieldId) → sort_along types start (f ∷ fields) ≡ Some (Set ty) → ⊥
no-set types ty Truth f fields is = absurd cc
no-set types ty (Set of) f fields is = absurd cc
no-set types ty (Cell of) f [] is = by (f.ty.0 == of.0) (field_at types f) is
  where
    by : (b : Bool) (o : Option FieldEntry) →
        (if b then option_and_then (λ (e : FieldEntry). sort_along types (field_sort e.kind) []) o else None) ≡ Some (Set ty) → ⊥
    by false o is = absurd cc
    by true None is = absurd cc
    by true (Some e) is = no-set-field types ty e.kind (some-sort (field_sort e.kind) (Set ty) is)
no-set types ty (Cell of) f (g ∷ fields) is = by (λ s later. no-set types ty s g fields later) (f.ty.0 == of.0) (field_at types f) is
  where
    by : ((s : Sort) → sort_along types s (g ∷ fields) ≡ Some (Set ty) → ⊥) → (b : Bool) (o : Option FieldEntry) →
        (if b then option_and_then (λ (e : FieldEntry). sort_along types (field_sort e.kind) (g ∷ fields)) o else None) ≡ Some (Set ty) → ⊥
    by rest false o is = absurd cc
    by rest true None is = absurd cc
    by rest true (Some e) is = rest (field_sort e.kind) is

-- ---- what is put in

module _ (types : List TypeEntry) (theirs vars : List VarEntry) (put : Base → Filling) (MayBe : VarId → Type 0)
    (given : (v : VarId) (s : Sort) → MayBe v → option_map (λ (e : VarEntry). var_sort e.kind) (var_at theirs v) ≡ Some s →
    FillingFits types vars (put (base.Var v)) s) where
  -- in the assertion, and with all put in; under quantifiers of the assertion
  abbrev inner : List Sort → Scope
  inner b = record { vars = theirs; bound = b; params = []; preds = [] }

  abbrev outer : List Sort → Scope
  outer b = record { vars = vars; bound = b; params = []; preds = [] }

  abbrev May : List NameUse → Type 0
  May = AllByRecursion (λ n. NameMayBe MayBe n.name)

  base-shifted : (b : List Sort) (name : Base) (s : Sort) → base_sort (scope_of vars) name ≡ Some s →
      base_sort (outer b) (shifted_base (length b) name) ≡ Some s
  base-shifted b (base.Var v) s at = at
  base-shifted b (base.Bound k) s at = absurd cc
  base-shifted b (base.Param k) s at = absurd cc

  -- null, or a path to what is of the sort
  abbrev IsNullOr : List Sort → Term → Sort → Type 0
  IsNullOr b term.Null s = Unit {0}
  IsNullOr b (term.At name fields) s = TermFits types (outer b) (term.At name fields) s

  cell-fits : (b : List Sort) (t : Term) (ty : TypeId) → IsNullOr b t (Cell ty) → TermFits types (outer b) t (Cell ty)
  cell-fits b term.Null ty is = tt
  cell-fits b (term.At name fields) ty is = is

  truth-fits : (b : List Sort) (t : Term) → IsNullOr b t Truth → FitsIn types (is_true t) (outer b)
  truth-fits b term.Null is = (Fits-False types (outer b)).1 tt
  truth-fits b (term.At name fields) is = (Fits-Truth types (outer b) (term.At name fields)).1 is

  constant-fits : (b : List Sort) (truth : Bool) → FitsIn types (constant truth) (outer b)
  constant-fits b true = (Fits-True types (outer b)).1 tt
  constant-fits b false = (Fits-False types (outer b)).1 tt

  path-fits : (b : List Sort) (u : Term) (start : Sort) (fields : List FieldId) (s : Sort) → TermFits types (scope_of vars) u start →
      sort_along types start fields ≡ Some s → IsNullOr b (path_from (of_term (shifted_term (length b) u)) fields) s
  path-fits b term.Null start fields s is along = tt
  path-fits b (term.At name more) start fields s is along =
      let from = leads-of types (scope_of vars) name more start is in
      leads-fits types (outer b) (shifted_base (length b) name) (more ++ fields) s from.start (base-shifted b name from.start from.stands)
      (along-append types from.start more fields start from.along ∙ along)

  -- ---- terms

  name-may : (name : Base) (fields : List FieldId) (of : Class) (d : ℕ) → May (term_names of (term.At name fields) d) → NameMayBe MayBe name
  name-may name [] of d may = may.0
  name-may name (f ∷ fields) of d may = may.0

  filling-cell : (b : List Sort) (x : Filling) (start : Sort) (fields : List FieldId) (ty : TypeId) → FillingFits types vars x start →
      sort_along types start fields ≡ Some (Cell ty) → TermFits types (outer b) (path_from (shifted (length b) x) fields) (Cell ty)
  filling-cell b (of_term u) start fields ty fits along = cell-fits b _ ty (path-fits b u start fields (Cell ty) fits along)
  filling-cell b (of_truth truth) start fields ty fits along = tt

  cell-filled : (b : List Sort) (t : Term) (ty : TypeId) (of : Class) (d : ℕ) → May (term_names of t d) → TermFits types (inner b) t (Cell ty) →
      TermFits types (outer b) (filled_term put (length b) t) (Cell ty)
  cell-filled b term.Null ty of d may fits = tt
  cell-filled b (term.At (base.Var v) fields) ty of d may fits =
      let from = leads-of types (inner b) (base.Var v) fields (Cell ty) fits in
      filling-cell b (put (base.Var v)) from.start fields ty (given v from.start (name-may (base.Var v) fields of d may) from.stands) from.along
  cell-filled b (term.At (base.Bound k) fields) ty of d may fits = fits
  cell-filled b (term.At (base.Param k) fields) ty of d may fits =
      let from = leads-of types (inner b) (base.Param k) fields (Cell ty) fits in let no : None ≡ Some from.start = from.stands in absurd cc

  filling-truth : (b : List Sort) (x : Filling) (start : Sort) (fields : List FieldId) → FillingFits types vars x start →
      sort_along types start fields ≡ Some Truth → FitsIn types (truth_from (shifted (length b) x) fields) (outer b)
  filling-truth b (of_term u) start fields fits along = truth-fits b _ (path-fits b u start fields Truth fits along)
  filling-truth b (of_truth truth) start [] fits along = constant-fits b truth
  filling-truth b (of_truth truth) start (f ∷ fields) fits along = (Fits-False types (outer b)).1 tt

  truth-filled : (b : List Sort) (t : Term) (of : Class) (d : ℕ) → May (term_names of t d) → TermFits types (inner b) t Truth →
      FitsIn types (filled_truth put (length b) t) (outer b)
  truth-filled b term.Null of d may fits = absurd fits
  truth-filled b (term.At (base.Var v) fields) of d may fits =
      let from = leads-of types (inner b) (base.Var v) fields Truth fits in
      filling-truth b (put (base.Var v)) from.start fields (given v from.start (name-may (base.Var v) fields of d may) from.stands) from.along
  truth-filled b (term.At (base.Bound k) fields) of d may fits = (Fits-Truth types (outer b) (term.At (base.Bound k) fields)).1 fits
  truth-filled b (term.At (base.Param k) fields) of d may fits =
      let from = leads-of types (inner b) (base.Param k) fields Truth fits in let no : None ≡ Some from.start = from.stands in absurd cc

  -- ---- sets

  path-set : (b : List Sort) (name : Base) (fields : List FieldId) (ty : TypeId) → TermFits types (scope_of vars) (term.At name fields) (Set ty) →
      BaseFits (outer b) (shifted_base (length b) name) (Set ty)
  path-set b name [] ty fits =
      let from = leads-of types (scope_of vars) name [] (Set ty) fits in
      base-shifted b name (Set ty) (from.stands ∙ from.along)
  path-set b name (f ∷ fields) ty fits =
      let from = leads-of types (scope_of vars) name (f ∷ fields) (Set ty) fits in absurd (no-set types ty from.start f fields from.along)

  filling-set : (b : List Sort) (x : Filling) (name : Base) (ty : TypeId) → FillingFits types vars x (Set ty) →
      BaseFits (outer b) (name_in (shifted (length b) x) name) (Set ty)
  filling-set b (of_term term.Null) name ty fits = absurd fits
  filling-set b (of_term (term.At other fields)) name ty fits = path-set b other fields ty fits
  filling-set b (of_truth truth) name ty fits = let no : Set ty ≡ Truth = fits in absurd cc

  set-filled : (b : List Sort) (name : Base) (ty : TypeId) (d : ℕ) → May (set_name name d) → BaseFits (inner b) name (Set ty) →
      BaseFits (outer b) (filled_set put (length b) name) (Set ty)
  set-filled b (base.Var v) ty d may fits = filling-set b (put (base.Var v)) (base.Var v) ty (given v (Set ty) may.0 fits)
  set-filled b (base.Bound k) ty d may fits = fits
  set-filled b (base.Param k) ty d may fits = let no : None ≡ Some (Set ty) = fits in absurd cc

  -- ---- assertions

  abbrev IsFilled : Assertion → Type 0
  IsFilled a = (b : List Sort) (d : ℕ) → May (names_at a d) → FitsIn types a (inner b) → FitsIn types (filled put a (length b)) (outer b)

  become : (b : List Sort) {a c : Assertion} → a ≡ c → FitsIn types c (outer b) → FitsIn types a (outer b)
  become b e fits = subst (λ (x : Assertion). FitsIn types x (outer b)) (sym e) fits

  told : {xs ys : List NameUse} → xs ≡ ys → May xs → May ys
  told e all = subst May e all

  one : (xs ys : List NameUse) → May (xs ++ ys) → May xs
  one = all-first (λ n. NameMayBe MayBe n.name)

  other : (xs ys : List NameUse) → May (xs ++ ys) → May ys
  other = all-second (λ n. NameMayBe MayBe n.name)

  filled-fits : (a : Assertion) → IsFilled a
  filled-fits = assertion-induction IsFilled (record {
    of_True = λ b d may h. become b (filled-True put (length b)) ((Fits-True types (outer b)).1 tt);
    of_False = λ b d may h. become b (filled-False put (length b)) ((Fits-False types (outer b)).1 tt);
    of_Truth = λ t b d may h. become b (filled-Truth put t (length b))
        (truth-filled b t _ d (told (names-Truth t d) may) ((Fits-Truth types (inner b) t).0 h));
    of_Is = λ t v b d may h. let f = (Fits-Is types (inner b) t v).0 h in become b (filled-Is put t v (length b))
        ((Fits-Is types (outer b) _ v).1 (record { variant = f.variant; term = cell-filled b t v.ty _ d (told (names-Is t v d) may) f.term }));
    of_Same = λ t u b d may h. let f = (Fits-Same types (inner b) t u).0 h in let both = told (names-Same t u d) may in
        become b (filled-Same put t u (length b))
        ((Fits-Same types (outer b) _ _).1 (record {
          ty = f.ty;
          left = cell-filled b t f.ty _ d (one _ _ both) f.left;
          right = cell-filled b u f.ty _ d (other _ _ both) f.right;
        }));
    of_Member = λ t set b d may h. let f = (Fits-Member types (inner b) t set).0 h in let both = told (names-Member t set d) may in
        become b (filled-Member put t set (length b))
        ((Fits-Member types (outer b) _ _).1 (record {
          ty = f.ty;
          member = cell-filled b t f.ty class.Reference d (one (term_names class.Reference t d) (set_name set d) both) f.member;
          of_set = set-filled b set f.ty d (other (term_names class.Reference t d) (set_name set d) both) f.of_set;
        }));
    of_Subset = λ set more b d may h. let f = (Fits-Subset types (inner b) set more).0 h in let both = told (names-Subset set more d) may in
        become b (filled-Subset put set more (length b))
        ((Fits-Subset types (outer b) _ _).1 (record {
          ty = f.ty;
          left = set-filled b set f.ty d (one (set_name set d) (set_name more d) both) f.left;
          right = set-filled b more f.ty d (other (set_name set d) (set_name more d) both) f.right;
        }));
    of_Walk = λ t along u b d may h. let f = (Fits-Walk types (inner b) t along u).0 h in let both = told (names-Walk t along u d) may in
        become b (filled-Walk put t along u (length b))
        ((Fits-Walk types (outer b) _ along _).1 (record {
          from_type = f.from_type;
          from = cell-filled b t f.from_type _ d (one _ _ both) f.from;
          route = f.route;
          to_type = f.to_type;
          to = cell-filled b u f.to_type _ d (other _ _ both) f.to;
        }));
    of_Pred = λ k args b d may h. let no : ⊥ = (Fits-Pred types (inner b) k args).0 h in absurd no;
    of_Not = λ a l b d may h. become b (filled-Not put a (length b))
        ((Fits-Not types (outer b) _).1 (l b d (told (names-Not a d) may) ((Fits-Not types (inner b) a).0 h)));
    of_And = λ a c l m b d may h. let f = (Fits-And types (inner b) a c).0 h in let both = told (names-And a c d) may in
        become b (filled-And put a c (length b)) ((Fits-And types (outer b) _ _).1 (l b d (one _ _ both) f.0, m b d (other _ _ both) f.1));
    of_Or = λ a c l m b d may h. let f = (Fits-Or types (inner b) a c).0 h in let both = told (names-Or a c d) may in
        become b (filled-Or put a c (length b)) ((Fits-Or types (outer b) _ _).1 (l b d (one _ _ both) f.0, m b d (other _ _ both) f.1));
    of_Imp = λ a c l m b d may h. let f = (Fits-Imp types (inner b) a c).0 h in let both = told (names-Imp a c d) may in
        become b (filled-Imp put a c (length b)) ((Fits-Imp types (outer b) _ _).1 (l b d (one _ _ both) f.0, m b d (other _ _ both) f.1));
    of_Iff = λ a c l m b d may h. let f = (Fits-Iff types (inner b) a c).0 h in let both = told (names-Iff a c d) may in
        become b (filled-Iff put a c (length b)) ((Fits-Iff types (outer b) _ _).1 (l b d (one _ _ both) f.0, m b d (other _ _ both) f.1));
    of_Ex = λ ty a l b d may h. let f = (Fits-Ex types (inner b) ty a).0 h in become b (filled-Ex put ty a (length b))
        ((Fits-Ex types (outer b) ty _).1 (f.0, l (Cell ty ∷ b) (suc d) (told (names-Ex ty a d) may) f.1));
    of_All = λ ty a l b d may h. let f = (Fits-All types (inner b) ty a).0 h in become b (filled-All put ty a (length b))
        ((Fits-All types (outer b) ty _).1 (f.0, l (Cell ty ∷ b) (suc d) (told (names-All ty a d) may) f.1));
    of_ExSet = λ ty a l b d may h. let f = (Fits-ExSet types (inner b) ty a).0 h in become b (filled-ExSet put ty a (length b))
        ((Fits-ExSet types (outer b) ty _).1 (f.0, l (Set ty ∷ b) (suc d) (told (names-ExSet ty a d) may) f.1));
    of_AllSet = λ ty a l b d may h. let f = (Fits-AllSet types (inner b) ty a).0 h in become b (filled-AllSet put ty a (length b))
        ((Fits-AllSet types (outer b) ty _).1 (f.0, l (Set ty ∷ b) (suc d) (told (names-AllSet ty a d) may) f.1));
  })

  pub put-fits : (a : Assertion) → StatedFits types theirs MayBe a → AssertionFits types vars (filled put a 0)
  put-fits a stated = filled-fits a [] 0 stated.names stated.fits

-- the same where each of these variables has its filling
pub puts-fit : (types : List TypeEntry) (theirs vars : List VarEntry) (among : List VarId) (put : Base → Filling) (a : Assertion) →
    StatedFits types theirs (Contains among) a →
    ((v : VarId) → Contains among v → IfSome (var_at theirs v) (λ entry. FillingFits types vars (put (base.Var v)) (var_sort entry.kind))) →
    AssertionFits types vars (filled put a 0)
puts-fit types theirs vars among put a stated fills =
    put-fits types theirs vars put (Contains among) (λ v s is at. by v s at (var_at theirs v) refl (fills v is)) a stated
  where
    by : (v : VarId) (s : Sort) → option_map (λ (e : VarEntry). var_sort e.kind) (var_at theirs v) ≡ Some s → (o : Option VarEntry) → var_at theirs v ≡ o →
        IfSome o (λ entry. FillingFits types vars (put (base.Var v)) (var_sort entry.kind)) → FillingFits types vars (put (base.Var v)) s
    by v s at None is fills = let no : None ≡ Some s = sym (ap (option_map (λ (e : VarEntry). var_sort e.kind)) is) ∙ at in absurd cc
    by v s at (Some e) is fills =
        let sorts : Some (var_sort e.kind) ≡ Some s = sym (ap (option_map (λ (d : VarEntry). var_sort d.kind)) is) ∙ at in
        subst (FillingFits types vars (put (base.Var v))) (some-sort (var_sort e.kind) s sorts) fills
