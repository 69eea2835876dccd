-- What fits still fits with predicates put in.
use Rattle.std.proofs.Common.{◌≡◌, ◌⊎◌, inl, inr, ℕ, suc, ◌+◌, ◌<◌, List, [], ◌∷◌, ◌++◌, length, reverse, slice_get, Option, Some, None, IsSomeAnd}
use Rattle.std.proofs.Common.{zero, Bool, true, false, ◌==◌, if◌then◌else◌, refl, sym, ap, ◌∙◌, subst, arith}
use Rattle.std.specs.Option.{option_and_then, option_map_or}
use Rattle.std.proofs.lemmas.List.{length-reverse, reverse-reverse, length_push}
use Rattle.store_core.specs.declared.ids.TypeId.{TypeId}
use Rattle.store_core.specs.declared.ids.FieldId.{FieldId}
use Rattle.store_core.specs.Tables.{TypeEntry, VarEntry, FieldEntry, field_at}
use Rattle.store_logic.specs.declared.term.Base.{Base}
use Rattle.store_logic.specs.declared.term.Base.TheVariants as base
use Rattle.store_logic.specs.declared.term.Term.{Term}
use Rattle.store_logic.specs.declared.term.Term.TheVariants as term
use Rattle.store_logic.specs.declared.arg.Arg.{Arg}
use Rattle.store_logic.specs.declared.arg.Arg.TheVariants as arg
use Rattle.store_logic.specs.declared.assertion.Assertion.{Assertion}
use Rattle.store_logic.specs.declared.assertion.Assertion.TheVariants as assertion
use Rattle.store_logic.specs.declared.pred.PredDef.{PredDef}
use Rattle.store_logic.specs.Sorts.{Sort, Truth, Cell, Set, Scope, under, field_sort, sort_along, base_sort, BaseFits, TermFits, ArgFits, ArgsFit}
use Rattle.store_logic.specs.Fits.{FitsIn, AssertionFits, PredsFit}
use Rattle.store_logic.specs.Filling.{of_term, arg_term, args_for, shifted_base, shifted_term, shifted, path_from, filled_term, is_true, name_in}
use Rattle.store_logic.specs.Filling.{filled_set, filled, put_in}
use Rattle.store_logic.specs.Expansion.{with_bodies, expanded_bodies, expansion}
use Rattle.store_logic.proofs.AssertionLemmas.{assertion-induction}
use Rattle.store_logic.proofs.ExpandingTerms.{filled_truth-is}
use Rattle.store_logic.proofs.ExpandingForms.{filled-True, filled-False, filled-Truth, filled-Is, filled-Same, filled-Member, filled-Subset, filled-Walk}
use Rattle.store_logic.proofs.ExpandingForms.{filled-Not, filled-And, filled-Or, filled-Imp, filled-Iff, filled-Ex, filled-All, filled-ExSet, filled-AllSet}
use Rattle.store_logic.proofs.ExpandingForms.{bodies-True, bodies-False, bodies-Truth, bodies-Is, bodies-Same, bodies-Member, bodies-Subset, bodies-Walk}
use Rattle.store_logic.proofs.ExpandingForms.{bodies-Pred, bodies-Not, bodies-And, bodies-Or, bodies-Imp, bodies-Iff, bodies-Ex, bodies-All, bodies-ExSet}
use Rattle.store_logic.proofs.ExpandingForms.{bodies-AllSet}
use Rattle.store_logic.proofs.ExpandingLists.{slice_get-first, slice_get-later, slice_get-seam}
use Rattle.claim_laws.proofs.FitForms.{Fits-True, Fits-False, Fits-Truth, Fits-Is, Fits-Same, Fits-Member, Fits-Subset, Fits-Walk, Fits-Pred}
use Rattle.claim_laws.proofs.FitForms.{Fits-Not, Fits-And, Fits-Or, Fits-Imp, Fits-Iff, Fits-Ex, Fits-All, Fits-ExSet, Fits-AllSet}
use Rattle.claim_laws.proofs.LeadLemmas.{along-append, leads-of, leads-fits}
use Rattle.pale_fitting.proofs.UseLemmas.{slice_get-within, at-push, reverse-cons}

-- ---- terms

-- null, or a path to what is of the sort
abbrev IsNullOr : List TypeEntry → Scope → Term → Sort → Type 0
IsNullOr types scope term.Null s = Unit {0}
IsNullOr types scope (term.At name fields) s = TermFits types scope (term.At name fields) s

cell-fits : (types : List TypeEntry) (scope : Scope) (t : Term) (ty : TypeId) → IsNullOr types scope t (Cell ty) → TermFits types scope t (Cell ty)
cell-fits types scope term.Null ty is = tt
cell-fits types scope (term.At name fields) ty is = is

truth-fits : (types : List TypeEntry) (scope : Scope) (t : Term) → IsNullOr types scope t Truth → FitsIn types (is_true t) scope
truth-fits types scope term.Null is = (Fits-False types scope).1 tt
truth-fits types scope (term.At name fields) is = (Fits-Truth types scope (term.At name fields)).1 is

null-or : (types : List TypeEntry) (scope : Scope) (t : Term) (s : Sort) → TermFits types scope t s → IsNullOr types scope t s
null-or types scope term.Null s fits = tt
null-or types scope (term.At name fields) s fits = fits

arg-null-or : (types : List TypeEntry) (scope : Scope) (x : Arg) (s : Sort) → ArgFits types scope x s → IsNullOr types scope (arg_term x) s
arg-null-or types scope (arg.Cell t) Truth fits = absurd fits
arg-null-or types scope (arg.Cell t) (Cell ty) fits = null-or types scope t (Cell ty) fits
arg-null-or types scope (arg.Cell t) (Set ty) fits = absurd fits
arg-null-or types scope (arg.Set name) Truth fits = absurd fits
arg-null-or types scope (arg.Set name) (Cell ty) fits = absurd fits
arg-null-or types scope (arg.Set name) (Set ty) fits = leads-fits types scope name [] (Set ty) (Set ty) fits refl
arg-null-or types scope (arg.Truth t) Truth fits = null-or types scope t Truth fits
arg-null-or types scope (arg.Truth t) (Cell ty) fits = absurd fits
arg-null-or types scope (arg.Truth t) (Set ty) fits = absurd fits

-- an argument of the sort of its parameter
record ArgAt (types : List TypeEntry) (scope : Scope) (args : List Arg) (k : ℕ) (s : Sort) : Type 0 where
  arg : Arg
  at : slice_get args k ≡ Some arg
  fits : ArgFits types scope arg s

arg-at : (types : List TypeEntry) (scope : Scope) (args : List Arg) (sorts : List Sort) → ArgsFit types scope args sorts → (k : ℕ) (s : Sort) →
    slice_get sorts k ≡ Some s → ArgAt types scope args k s
arg-at types scope [] [] fits k s at = absurd cc
arg-at types scope [] (r ∷ sorts) fits k s at = absurd fits
arg-at types scope (x ∷ args) [] fits k s at = absurd fits
arg-at types scope (x ∷ args) (r ∷ sorts) fits zero s at =
    let same : r ≡ s = cc in record { arg = x; at = refl; fits = subst (ArgFits types scope x) same fits.0 }
arg-at types scope (x ∷ args) (r ∷ sorts) fits (suc k) s at =
    let rest = arg-at types scope args sorts fits.1 k s at in record { arg = rest.arg; at = rest.at; fits = rest.fits }

-- ---- a body with its arguments put in

module _ (types : List TypeEntry) (scope : Scope) (args : List Arg) (own : List Sort) (given : ArgsFit types scope args own) where
  -- in the body, and around its use; under quantifiers of the body
  abbrev inner : List Sort → Scope
  inner b = record { vars = []; bound = b; params = own; preds = [] }

  abbrev outer : List Sort → Scope
  outer b = record { vars = scope.vars; bound = b ++ scope.bound; params = scope.params; preds = [] }

  base-shifted : (b : List Sort) (name : Base) (s : Sort) → base_sort scope name ≡ Some s → base_sort (outer b) (shifted_base (length b) name) ≡ Some s
  base-shifted b (base.Var v) s at = at
  base-shifted b (base.Bound k) s at = slice_get-later b scope.bound k (k + length b) refl ∙ at
  base-shifted b (base.Param k) s at = at

  bound-outer : (b : List Sort) (k : ℕ) (s : Sort) → slice_get b k ≡ Some s → slice_get (b ++ scope.bound) k ≡ Some s
  bound-outer b k s at = slice_get-first b scope.bound k (slice_get-within b k s at) ∙ at

  path-fits : (b : List Sort) (u : Term) (start : Sort) (fields : List FieldId) (s : Sort) → IsNullOr types scope u start →
      sort_along types start fields ≡ Some s → IsNullOr types (outer b) (path_from (of_term (shifted_term (length b) u)) fields) s
  path-fits b term.Null start fields s is along = tt
  path-fits b (term.At name more) start fields s is along =
      let from = leads-of types scope name more start is in
      leads-fits types (outer b) (shifted_base (length b) name) (more ++ fields) s from.start (base-shifted b name from.start from.stands)
      (along-append types from.start more fields start from.along ∙ along)

  param-is : (k : ℕ) (x : Arg) → slice_get args k ≡ Some x → option_map_or arg_term (slice_get args k) term.Null ≡ arg_term x
  param-is k x at = ap (λ (o : Option Arg). option_map_or arg_term o term.Null) at

  term-filled : (b : List Sort) (t : Term) (s : Sort) → TermFits types (inner b) t s → IsNullOr types (outer b) (filled_term (args_for args) (length b) t) s
  term-filled b term.Null s fits = tt
  term-filled b (term.At (base.Var v) fields) s fits =
      let from = leads-of types (inner b) (base.Var v) fields s fits in let no : None ≡ Some from.start = from.stands in absurd cc
  term-filled b (term.At (base.Bound k) fields) s fits =
      let from = leads-of types (inner b) (base.Bound k) fields s fits in
      leads-fits types (outer b) (base.Bound k) fields s from.start (bound-outer b k from.start from.stands) from.along
  term-filled b (term.At (base.Param k) fields) s fits =
      let from = leads-of types (inner b) (base.Param k) fields s fits in
      let x = arg-at types scope args own given k from.start from.stands in
      subst (λ (u : Term). IsNullOr types (outer b) (path_from (of_term (shifted_term (length b) u)) fields) s) (sym (param-is k x.arg x.at))
      (path-fits b (arg_term x.arg) from.start fields s (arg-null-or types scope x.arg from.start x.fits) from.along)

  cell-filled : (b : List Sort) (t : Term) (ty : TypeId) → TermFits types (inner b) t (Cell ty) →
      TermFits types (outer b) (filled_term (args_for args) (length b) t) (Cell ty)
  cell-filled b t ty fits = cell-fits types (outer b) (filled_term (args_for args) (length b) t) ty (term-filled b t (Cell ty) fits)

  set-of : (b : List Sort) (k : ℕ) (ty : TypeId) (x : Arg) → ArgFits types scope x (Set ty) → slice_get args k ≡ Some x →
      BaseFits (outer b) (filled_set (args_for args) (length b) (base.Param k)) (Set ty)
  set-of b k ty (arg.Cell t) fits at = absurd fits
  set-of b k ty (arg.Set name) fits at =
      subst (λ (u : Term). BaseFits (outer b) (name_in (shifted (length b) (of_term u)) (base.Param k)) (Set ty)) (sym (param-is k (arg.Set name) at))
      (base-shifted b name (Set ty) fits)
  set-of b k ty (arg.Truth t) fits at = absurd fits

  set-filled : (b : List Sort) (name : Base) (ty : TypeId) → BaseFits (inner b) name (Set ty) →
      BaseFits (outer b) (filled_set (args_for args) (length b) name) (Set ty)
  set-filled b (base.Var v) ty fits = let no : None ≡ Some (Set ty) = fits in absurd cc
  set-filled b (base.Bound k) ty fits = bound-outer b k (Set ty) fits
  set-filled b (base.Param k) ty fits = let x = arg-at types scope args own given k (Set ty) fits in set-of b k ty x.arg x.fits x.at

  abbrev IsFilled : Assertion → Type 0
  IsFilled a = (b : List Sort) → FitsIn types a (inner b) → FitsIn types (filled (args_for args) a (length b)) (outer b)

  become : (b : List Sort) {a c : Assertion} → a ≡ c → FitsIn types c (outer b) → FitsIn types a (outer b)
  become b e fits = subst (λ (x : Assertion). FitsIn types x (outer b)) (sym e) fits

  pub filled-fits : (a : Assertion) → IsFilled a
  filled-fits = assertion-induction IsFilled (record {
    of_True = λ b h. become b (filled-True (args_for args) (length b)) ((Fits-True types (outer b)).1 tt);
    of_False = λ b h. become b (filled-False (args_for args) (length b)) ((Fits-False types (outer b)).1 tt);
    of_Truth = λ t b h. become b (filled-Truth (args_for args) t (length b) ∙ filled_truth-is args t (length b))
        (truth-fits types (outer b) (filled_term (args_for args) (length b) t) (term-filled b t Truth ((Fits-Truth types (inner b) t).0 h)));
    of_Is = λ t v b h. let f = (Fits-Is types (inner b) t v).0 h in become b (filled-Is (args_for args) t v (length b))
        ((Fits-Is types (outer b) _ v).1 (record { variant = f.variant; term = cell-filled b t v.ty f.term }));
    of_Same = λ t u b h. let f = (Fits-Same types (inner b) t u).0 h in become b (filled-Same (args_for args) t u (length b))
        ((Fits-Same types (outer b) _ _).1 (record { ty = f.ty; left = cell-filled b t f.ty f.left; right = cell-filled b u f.ty f.right }));
    of_Member = λ t set b h. let f = (Fits-Member types (inner b) t set).0 h in become b (filled-Member (args_for args) t set (length b))
        ((Fits-Member types (outer b) _ _).1 (record { ty = f.ty; member = cell-filled b t f.ty f.member; of_set = set-filled b set f.ty f.of_set }));
    of_Subset = λ set other b h. let f = (Fits-Subset types (inner b) set other).0 h in become b (filled-Subset (args_for args) set other (length b))
        ((Fits-Subset types (outer b) _ _).1 (record { ty = f.ty; left = set-filled b set f.ty f.left; right = set-filled b other f.ty f.right }));
    of_Walk = λ t along u b h. let f = (Fits-Walk types (inner b) t along u).0 h in become b (filled-Walk (args_for args) t along u (length b))
        ((Fits-Walk types (outer b) _ along _).1 (record {
          from_type = f.from_type;
          from = cell-filled b t f.from_type f.from;
          route = f.route;
          to_type = f.to_type;
          to = cell-filled b u f.to_type f.to;
        }));
    of_Pred = λ k args b h. let no : ⊥ = (Fits-Pred types (inner b) k args).0 h in absurd no;
    of_Not = λ a l b h. become b (filled-Not (args_for args) a (length b)) ((Fits-Not types (outer b) _).1 (l b ((Fits-Not types (inner b) a).0 h)));
    of_And = λ a c l m b h. let f = (Fits-And types (inner b) a c).0 h in
        become b (filled-And (args_for args) a c (length b)) ((Fits-And types (outer b) _ _).1 (l b f.0, m b f.1));
    of_Or = λ a c l m b h. let f = (Fits-Or types (inner b) a c).0 h in
        become b (filled-Or (args_for args) a c (length b)) ((Fits-Or types (outer b) _ _).1 (l b f.0, m b f.1));
    of_Imp = λ a c l m b h. let f = (Fits-Imp types (inner b) a c).0 h in
        become b (filled-Imp (args_for args) a c (length b)) ((Fits-Imp types (outer b) _ _).1 (l b f.0, m b f.1));
    of_Iff = λ a c l m b h. let f = (Fits-Iff types (inner b) a c).0 h in
        become b (filled-Iff (args_for args) a c (length b)) ((Fits-Iff types (outer b) _ _).1 (l b f.0, m b f.1));
    of_Ex = λ ty a l b h. let f = (Fits-Ex types (inner b) ty a).0 h in
        become b (filled-Ex (args_for args) ty a (length b)) ((Fits-Ex types (outer b) ty _).1 (f.0, l (Cell ty ∷ b) f.1));
    of_All = λ ty a l b h. let f = (Fits-All types (inner b) ty a).0 h in
        become b (filled-All (args_for args) ty a (length b)) ((Fits-All types (outer b) ty _).1 (f.0, l (Cell ty ∷ b) f.1));
    of_ExSet = λ ty a l b h. let f = (Fits-ExSet types (inner b) ty a).0 h in
        become b (filled-ExSet (args_for args) ty a (length b)) ((Fits-ExSet types (outer b) ty _).1 (f.0, l (Set ty ∷ b) f.1));
    of_AllSet = λ ty a l b h. let f = (Fits-AllSet types (inner b) ty a).0 h in
        become b (filled-AllSet (args_for args) ty a (length b)) ((Fits-AllSet types (outer b) ty _).1 (f.0, l (Set ty ∷ b) f.1));
  })

-- ---- without predicates

base-same : (scope : Scope) (name : Base) → base_sort scope name ≡ base_sort (record scope { preds = [] }) name
base-same scope (base.Var v) = refl
base-same scope (base.Bound k) = refl
base-same scope (base.Param k) = refl

base-kept : (scope : Scope) (name : Base) (s : Sort) → BaseFits scope name s → BaseFits (record scope { preds = [] }) name s
base-kept scope name s fits = sym (base-same scope name) ∙ fits

term-kept : (types : List TypeEntry) (scope : Scope) (t : Term) (s : Sort) → TermFits types scope t s → TermFits types (record scope { preds = [] }) t s
term-kept types scope term.Null s fits = fits
term-kept types scope (term.At name fields) s fits = ap (option_and_then (λ start. sort_along types start fields)) (sym (base-same scope name)) ∙ fits

-- a body that fits with its own parameters alone
abbrev pub BodyFits : List TypeEntry → List Sort → Assertion → Type 0
BodyFits types own b = FitsIn types b (record { vars = []; bound = []; params = own; preds = [] })

module _ (types : List TypeEntry) (bodies : List Assertion) (sorts : List (List Sort))
    (known : (k : ℕ) (own : List Sort) → slice_get sorts k ≡ Some own → IsSomeAnd (slice_get bodies k) (BodyFits types own)) where
  abbrev alone : Scope → Scope
  alone scope = record scope { preds = [] }

  abbrev IsExpanded : Assertion → Type 0
  IsExpanded a = (scope : Scope) → scope.preds ≡ sorts → FitsIn types a scope → FitsIn types (with_bodies bodies a) (alone scope)

  turn : (scope : Scope) {a c : Assertion} → a ≡ c → FitsIn types c (alone scope) → FitsIn types a (alone scope)
  turn scope e fits = subst (λ (x : Assertion). FitsIn types x (alone scope)) (sym e) fits

  body-put : (k : ℕ) (args : List Arg) (scope : Scope) (own : List Sort) → ArgsFit types scope args own → (o : Option Assertion) →
      IsSomeAnd o (BodyFits types own) → FitsIn types (option_map_or (put_in args) o (assertion.Pred k args)) (alone scope)
  body-put k args scope own given None is = absurd is
  body-put k args scope own given (Some b) is = filled-fits types scope args own given b [] is

  pred-put : (k : ℕ) (args : List Arg) (scope : Scope) (o : Option (List Sort)) → slice_get sorts k ≡ o → IsSomeAnd o (ArgsFit types scope args) →
      FitsIn types (option_map_or (put_in args) (slice_get bodies k) (assertion.Pred k args)) (alone scope)
  pred-put k args scope None at fits = absurd fits
  pred-put k args scope (Some own) at fits = body-put k args scope own fits (slice_get bodies k) (known k own at)

  pub bodies-fit : (a : Assertion) → IsExpanded a
  bodies-fit = assertion-induction IsExpanded (record {
    of_True = λ w e h. turn w (bodies-True bodies) ((Fits-True types (alone w)).1 tt);
    of_False = λ w e h. turn w (bodies-False bodies) ((Fits-False types (alone w)).1 tt);
    of_Truth = λ t w e h. turn w (bodies-Truth bodies t) ((Fits-Truth types (alone w) t).1 (term-kept types w t Truth ((Fits-Truth types w t).0 h)));
    of_Is = λ t v w e h. let f = (Fits-Is types w t v).0 h in turn w (bodies-Is bodies t v)
        ((Fits-Is types (alone w) t v).1 (record { variant = f.variant; term = term-kept types w t (Cell v.ty) f.term }));
    of_Same = λ t u w e h. let f = (Fits-Same types w t u).0 h in turn w (bodies-Same bodies t u)
        ((Fits-Same types (alone w) t u).1
        (record { ty = f.ty; left = term-kept types w t (Cell f.ty) f.left; right = term-kept types w u (Cell f.ty) f.right }));
    of_Member = λ t set w e h. let f = (Fits-Member types w t set).0 h in turn w (bodies-Member bodies t set)
        ((Fits-Member types (alone w) t set).1
        (record { ty = f.ty; member = term-kept types w t (Cell f.ty) f.member; of_set = base-kept w set (Set f.ty) f.of_set }));
    of_Subset = λ set other w e h. let f = (Fits-Subset types w set other).0 h in turn w (bodies-Subset bodies set other)
        ((Fits-Subset types (alone w) set other).1
        (record { ty = f.ty; left = base-kept w set (Set f.ty) f.left; right = base-kept w other (Set f.ty) f.right }));
    of_Walk = λ t along u w e h. let f = (Fits-Walk types w t along u).0 h in turn w (bodies-Walk bodies t along u)
        ((Fits-Walk types (alone w) t along u).1 (record {
          from_type = f.from_type;
          from = term-kept types w t (Cell f.from_type) f.from;
          route = f.route;
          to_type = f.to_type;
          to = term-kept types w u (Cell f.to_type) f.to;
        }));
    of_Pred = λ k args w e h. turn w (bodies-Pred bodies k args)
        (pred-put k args w (slice_get w.preds k) (ap (λ (l : List (List Sort)). slice_get l k) (sym e)) ((Fits-Pred types w k args).0 h));
    of_Not = λ a l w e h. turn w (bodies-Not bodies a) ((Fits-Not types (alone w) _).1 (l w e ((Fits-Not types w a).0 h)));
    of_And = λ a b l m w e h. let f = (Fits-And types w a b).0 h in
        turn w (bodies-And bodies a b) ((Fits-And types (alone w) _ _).1 (l w e f.0, m w e f.1));
    of_Or = λ a b l m w e h. let f = (Fits-Or types w a b).0 h in
        turn w (bodies-Or bodies a b) ((Fits-Or types (alone w) _ _).1 (l w e f.0, m w e f.1));
    of_Imp = λ a b l m w e h. let f = (Fits-Imp types w a b).0 h in
        turn w (bodies-Imp bodies a b) ((Fits-Imp types (alone w) _ _).1 (l w e f.0, m w e f.1));
    of_Iff = λ a b l m w e h. let f = (Fits-Iff types w a b).0 h in
        turn w (bodies-Iff bodies a b) ((Fits-Iff types (alone w) _ _).1 (l w e f.0, m w e f.1));
    of_Ex = λ ty a l w e h. let f = (Fits-Ex types w ty a).0 h in
        turn w (bodies-Ex bodies ty a) ((Fits-Ex types (alone w) ty _).1 (f.0, l (under (Cell ty) w) e f.1));
    of_All = λ ty a l w e h. let f = (Fits-All types w ty a).0 h in
        turn w (bodies-All bodies ty a) ((Fits-All types (alone w) ty _).1 (f.0, l (under (Cell ty) w) e f.1));
    of_ExSet = λ ty a l w e h. let f = (Fits-ExSet types w ty a).0 h in
        turn w (bodies-ExSet bodies ty a) ((Fits-ExSet types (alone w) ty _).1 (f.0, l (under (Set ty) w) e f.1));
    of_AllSet = λ ty a l w e h. let f = (Fits-AllSet types w ty a).0 h in
        turn w (bodies-AllSet bodies ty a) ((Fits-AllSet types (alone w) ty _).1 (f.0, l (under (Set ty) w) e f.1));
  })

-- ---- all predicates

module _ (types : List TypeEntry) where
  counted : (l : List PredDef) (sorts : List (List Sort)) → PredsFit types l sorts → length (expanded_bodies l) ≡ length sorts
  counted [] [] fit = refl
  counted [] (own ∷ before) fit = absurd fit
  counted (p ∷ l) [] fit = absurd fit
  counted (p ∷ l) (own ∷ before) fit =
      let rest : length (expanded_bodies l) ≡ length before = counted l before fit.2 in
      omega (arith, length_push (expanded_bodies l) (with_bodies (expanded_bodies l) p.body))

  pub known-bodies : (l : List PredDef) (sorts : List (List Sort)) → PredsFit types l sorts → (k : ℕ) (own : List Sort) →
      slice_get (reverse sorts) k ≡ Some own → IsSomeAnd (slice_get (expanded_bodies l) k) (BodyFits types own)
  known-bodies [] [] fit k own at = absurd cc
  known-bodies [] (o ∷ before) fit k own at = absurd fit
  known-bodies (p ∷ l) [] fit k own at = absurd fit
  known-bodies (p ∷ l) (o ∷ before) fit k own at =
      by (known-bodies l before fit.2) (at-push (reverse before) o k own (ap (λ (xs : List (List Sort)). slice_get xs k) (sym (reverse-cons o before)) ∙ at))
    where
      by : ((k : ℕ) (own : List Sort) → slice_get (reverse before) k ≡ Some own → IsSomeAnd (slice_get (expanded_bodies l) k) (BodyFits types own)) →
          (slice_get (reverse before) k ≡ Some own) ⊎ ((k ≡ length (reverse before)) × (o ≡ own)) →
          IsSomeAnd (slice_get (expanded_bodies l ++ with_bodies (expanded_bodies l) p.body ∷ []) k) (BodyFits types own)
      by known (inl earlier) =
          let inside : k < length (reverse before) = slice_get-within (reverse before) k own earlier in
          let low : k < length (expanded_bodies l) = omega (arith, length-reverse before, counted l before fit.2) in
          subst (λ (b : Option Assertion). IsSomeAnd b (BodyFits types own))
          (sym (slice_get-first (expanded_bodies l) (with_bodies (expanded_bodies l) p.body ∷ []) k low)) (known k own earlier)
      by known (inr last) =
          let there : k ≡ length (expanded_bodies l) = last.0 ∙ length-reverse before ∙ sym (counted l before fit.2) in
          subst (λ (b : Option Assertion). IsSomeAnd b (BodyFits types own))
          (sym (ap (slice_get (expanded_bodies l ++ with_bodies (expanded_bodies l) p.body ∷ [])) there
          ∙ slice_get-seam (expanded_bodies l) (with_bodies (expanded_bodies l) p.body) []))
          (subst (λ (s : List Sort). BodyFits types s (with_bodies (expanded_bodies l) p.body)) last.1
          (bodies-fit types (expanded_bodies l) (reverse before) known p.body
          (record { vars = []; bound = []; params = o; preds = reverse before }) refl fit.1))

  -- what fits among variables and predicates that fit still fits with these put in
  pub expansion-fits : (vars : List VarEntry) (preds : List PredDef) (sorts : List (List Sort)) (a : Assertion) →
      PredsFit types (reverse preds) (reverse sorts) → FitsIn types a (record { vars = vars; bound = []; params = []; preds = sorts }) → AssertionFits
      types vars (expansion preds a)
  expansion-fits vars preds sorts a fit fits =
      bodies-fit types (expanded_bodies (reverse preds)) sorts
      (λ k own at. known-bodies (reverse preds) (reverse sorts) fit k own (ap (λ (xs : List (List Sort)). slice_get xs k) (reverse-reverse sorts) ∙ at))
      a (record { vars = vars; bound = []; params = []; preds = sorts }) refl fits
