-- What stands for the values of data and pointer variables.
use Rattle.std.proofs.Common.{◌≡◌, ◌↔◌, ◌⊎◌, inl, inr, ℕ, zero, suc, ◌<◌, ◌≤◌, IfSome, List, [], ◌∷◌, ◌++◌, length, slice_get, Option, Some, None, Contains}
use Rattle.std.proofs.Common.{All, refl, sym, ap, ◌∙◌, subst, arith}
use Rattle.std.proofs.lemmas.List.Elements.{All-contains, Contains-append_left, Contains-append_right, Contains-append_cases}
use Rattle.std.proofs.lemmas.Option.{slice_get_within}
use Rattle.gta_theory.specs.Assignments.{Assignment}
use Rattle.store_core.specs.declared.ids.VarId.{VarId}
use Rattle.store_core.specs.declared.kind.VarKind.{VarKind}
use Rattle.store_core.specs.declared.value.Value.{Value}
use Rattle.store_core.specs.Tables.{VarEntry, var_at}
use Rattle.store_core.specs.Stores.{StoreMap, VarFits, VarsFit, var_value}
use Rattle.store_core.proofs.FittingLemmas.{IfSome-at}
use Rattle.routing_walks.proofs.DecidedLemmas.{in_none, in_at}
use Rattle.tree_encode.specs.Layouts.{LaidOut}
use Rattle.tree_store.proofs.SpotsLemmas.{present}
use Rattle.graph_view.specs.declared.view.Sym.{Sym}
use Rattle.graph_view.specs.declared.view.View.{View}
use Rattle.graph_view.specs.Cuts.{values_by}
use Rattle.graph_view.specs.After.{Standing, StandsFor, IsSymBelow}
use Rattle.graph_meaning.specs.Live.Showing.{Shows}

-- ---- values by the kinds of their variables

-- one of the values of the variable with this number
pub record IsValueOf (value_of : VarKind → Sym → List Sym) (vars : List VarEntry) (syms : List Sym) (u : Sym) (i : ℕ) : Type 0 where
  pub entry : VarEntry
  pub there : slice_get vars i ≡ Some entry
  pub sym_of : Sym
  pub stands : slice_get syms i ≡ Some sym_of
  pub one : Contains (value_of entry.kind sym_of) u

pub valued-in : (value_of : VarKind → Sym → List Sym) (vars : List VarEntry) (syms : List Sym) (u : Sym) → Contains (values_by value_of vars syms) u →
    (i : ℕ) × IsValueOf value_of vars syms u i
valued-in value_of [] syms u h = absurd (in_none u h)
valued-in value_of (v ∷ vars) [] u h = absurd (in_none u h)
valued-in value_of (v ∷ vars) (w ∷ syms) u h =
    elim (Contains-append_cases (value_of v.kind w) (values_by value_of vars syms) u h) as (λ _. (i : ℕ) × IsValueOf value_of (v ∷ vars) (w ∷ syms) u i) [
      | inl here ↦ (0, record { entry = v; there = refl; sym_of = w; stands = refl; one = here })
      | inr later ↦ (
          let (i, is) = valued-in value_of vars syms u later in
          (suc i, record { entry = is.entry; there = is.there; sym_of = is.sym_of; stands = is.stands; one = is.one }))
    ]

pub in-valued : (value_of : VarKind → Sym → List Sym) (vars : List VarEntry) (syms : List Sym) (u : Sym) (i : ℕ) (entry : VarEntry) (w : Sym) →
    slice_get vars i ≡ Some entry → slice_get syms i ≡ Some w → Contains (value_of entry.kind w) u → Contains (values_by value_of vars syms) u
in-valued value_of [] syms u i entry w there stands one = cc
in-valued value_of (v ∷ vars) [] u i entry w there stands one = cc
in-valued value_of (v ∷ vars) (x ∷ syms) u zero entry w there stands one =
    let same : v ≡ entry = cc in
    let is : x ≡ w = cc in
    Contains-append_left (value_of v.kind x) (values_by value_of vars syms) u
    (subst (λ (e : VarEntry). Contains (value_of e.kind x) u) (sym same) (subst (λ y. Contains (value_of entry.kind y) u) (sym is) one))
in-valued value_of (v ∷ vars) (x ∷ syms) u (suc i) entry w there stands one =
    Contains-append_right (value_of v.kind x) (values_by value_of vars syms) u (in-valued value_of vars syms u i entry w there stands one)

-- ---- the value of a variable

vars-value : (s : StoreMap) (vars : List VarEntry) (xs : List Value) (i : ℕ) (entry : VarEntry) → VarsFit s vars xs → slice_get vars i ≡ Some entry →
    (x : Value) × (slice_get xs i ≡ Some x) × VarFits s entry.kind x
vars-value s [] [] i entry fit there = absurd (cc)
vars-value s [] (x ∷ xs) i entry fit there = absurd fit
vars-value s (v ∷ vars) [] i entry fit there = absurd fit
vars-value s (v ∷ vars) (x ∷ xs) zero entry fit there =
    let same : v ≡ entry = cc in (x, refl, subst (λ (e : VarEntry). VarFits s e.kind x) same fit.0)
vars-value s (v ∷ vars) (x ∷ xs) (suc i) entry fit there = vars-value s vars xs i entry fit.1 there

-- what a variable holds, and what stands for it
pub record IsHeld (view : View) (a : Assignment) (s : StoreMap) (at : Standing) (count : ℕ) (v : VarId) (entry : VarEntry) : Type 0 where
  pub held : Value
  pub holds : var_value s v ≡ Some held
  pub fits : VarFits s entry.kind held
  pub sym_of : Sym
  pub is : slice_get view.vars v.0 ≡ Some sym_of
  pub stands : StandsFor a at sym_of held
  pub under : IsSymBelow count sym_of

pub var-held : (l : LaidOut) (view : View) (a : Assignment) (first s t : StoreMap) (at : Standing) (count : ℕ) → Shows l view a first s t at count →
    (v : VarId) (entry : VarEntry) → var_at l.vars v ≡ Some entry → IsHeld view a s at count v entry
var-held l view a first s t at count shows v entry there =
    let (x, holds, fits) = vars-value s l.vars s.vars v.0 entry shows.seen.fits.values there in
    let inside = slice_get_within s.vars v.0 x holds in
    let (u, is) = present view.vars v.0 (omega (arith, inside, shows.seen.count)) in
    record {
      held = x;
      holds = holds;
      fits = fits;
      sym_of = u;
      is = is;
      stands = IfSome-at (var_value s v) (StandsFor a at u) x holds
          (IfSome-at (slice_get view.vars v.0) (λ w. IfSome (var_value s v) (StandsFor a at w)) u is (shows.seen.values v));
      under = All-contains (IsSymBelow count) view.vars u shows.free.vars (in_at view.vars v.0 u is);
    }
