-- Variables that a cut point lists are of the classes that it needs, and settings fit.
use Rattle.std.proofs.Common.{◌≡◌, ◌==◌, ℕ, suc, zero, Bool, true, false, IsTrue, not, ◌&&◌, ◌||◌, List, [], ◌∷◌, map, filter, slice_get}
use Rattle.std.proofs.Common.{Option, Some, None, IsSomeAnd, if◌then◌else◌, refl, sym, ap, ◌∙◌, subst, arith}
use Rattle.std.specs.List.{AllByRecursion, Contains}
use Rattle.std.specs.Option.{option_map, option_map_or, option_and_then}
use Rattle.std.proofs.lemmas.Bool.{false≢true}
use Rattle.std.proofs.lemmas.List.Elements.{All-from_recursion, All-contains}
use mathlib.Core.Path.{transport}
use Rattle.store_core.specs.declared.ids.VarId.{VarId}
use Rattle.store_core.specs.declared.kind.VarKind.{VarKind}
use Rattle.store_core.specs.declared.kind.VarKind.TheVariants as var
use Rattle.store_core.specs.Tables.{TypeEntry, VarEntry, var_at}
use Rattle.store_logic.specs.declared.cond.Cond.{Cond}
use Rattle.store_logic.specs.declared.cond.Cond.TheVariants as condition
use Rattle.store_logic.specs.declared.cond.Cond.TheOpen.{Cond-F}
use Rattle.store_logic.specs.declared.cond.Cond.TheFolds.{rec-roll-Cond, map-Cond}
use Rattle.store_logic.specs.Sorts.{Sort, sort_along}
use Rattle.store_logic.specs.Fits.{IsKnownDataVar}
use Rattle.store_logic.specs.FitsCode.{CondFitsNode, CondFits, RhsFits, code_sort}
use Rattle.store_exec.specs.Cuts.{IsPointerVar}
use Rattle.store_exec.specs.Fits.{ItemFits, ItemsFit, IsKnownPointerVar, IsProgramVar}
use Rattle.pale_calls.specs.declared.class.VarClass.{VarClass}
use Rattle.pale_calls.specs.declared.class.VarClass.TheVariants as class
use Rattle.pale_calls.specs.Classes.{class_of, holds_cell, is_logic}
use Rattle.pale_typed.specs.declared.typed.CallParts.{CallParts}
use Rattle.pale_typed.specs.declared.typed.TypedProc.{TypedProc}
use Rattle.pale_typed.specs.Fitting.{IsProgramVariable}
use Rattle.hoare_split.specs.Picking.{class_at, is_data, is_pointer, is_listed, those, numbered, is_fresh, is_left, is_awaited, is_lent, is_spent, is_gained}
use Rattle.hoare_split.specs.Picking.{is_argument}
use Rattle.hoare_split.specs.Settings.{blank, setting, settings}
use Rattle.hoare_split.specs.Calls.{returned_by}
use Rattle.hoare_split.proofs.FittingCodeLemmas.{Do-fits}

-- ---- lists

filter-all : {X : Type 0} (test : X → Bool) (P : X → Type 0) → ((x : X) → test x ≡ true → P x) → (xs : List X) → AllByRecursion P (filter test xs)
filter-all test P so [] = tt
filter-all test P so (x ∷ xs) = by (filter-all test P so xs) (test x) refl
  where
    by : AllByRecursion P (filter test xs) → (b : Bool) → test x ≡ b → AllByRecursion P (if b then x ∷ filter test xs else filter test xs)
    by rest true is = (so x is, rest)
    by rest false is = rest

pub all-at : {X : Type 0} (P : X → Type 0) (xs : List X) (k : ℕ) (x : X) → AllByRecursion P xs → slice_get xs k ≡ Some x → P x
all-at P [] k x all at = absurd cc
all-at P (y ∷ xs) zero x all at = let same : y ≡ x = cc in subst P same all.0
all-at P (y ∷ xs) (suc k) x all at = all-at P xs k x all.1 at

left-true : (a b : Bool) → (a && b) ≡ true → a ≡ true
left-true true b is = refl
left-true false b is = is

right-true : (a b : Bool) → (a && b) ≡ true → b ≡ true
right-true true b is = is
right-true false b is = absurd (false≢true is)

pub same-var : (u v : VarId) → (u.0 == v.0) ≡ true → u ≡ v
same-var u v is = let same : u.0 ≡ v.0 = grind arith in ap (λ (n : ℕ). record { 0 = n }) same

-- what is so of each of these is so of a variable that is among them
listed-all : (P : VarId → Type 0) (us : List VarId) (v : VarId) → AllByRecursion P us → is_listed us v ≡ true → P v
listed-all P [] v all is = absurd (false≢true is)
listed-all P (u ∷ us) v all is = by (listed-all P us v all.1) (u.0 == v.0) refl is
  where
    by : (is_listed us v ≡ true → P v) → (b : Bool) → (u.0 == v.0) ≡ b → (b || is_listed us v) ≡ true → P v
    by rest true same among = subst P (same-var u v same) all.0
    by rest false same among = rest among

self-var : (n : ℕ) → (n == n) ≡ true
self-var n = grind arith

listed-behind : (b c : Bool) → c ≡ true → (b || c) ≡ true
listed-behind true c is = refl
listed-behind false c is = is

listed-more : (u : VarId) (us vs : List VarId) → AllByRecursion (λ v. is_listed us v ≡ true) vs → AllByRecursion (λ v. is_listed (u ∷ us) v ≡ true) vs
listed-more u us [] all = tt
listed-more u us (v ∷ vs) all = (listed-behind (u.0 == v.0) (is_listed us v) all.0, listed-more u us vs all.1)

listed-each : (us : List VarId) → AllByRecursion (λ u. is_listed us u ≡ true) us
listed-each [] = tt
listed-each (u ∷ us) = (ap (λ b. b || is_listed us u) (self-var u.0), listed-more u us us (listed-each us))

pub contained-listed : (us : List VarId) (v : VarId) → Contains us v → is_listed us v ≡ true
contained-listed us v among = All-contains (λ u. is_listed us u ≡ true) us v (All-from_recursion (λ u. is_listed us u ≡ true) us (listed-each us)) among

-- ---- variables of one table

module _ (vars : List VarEntry) where
  -- no logic variable
  abbrev pub IsProgramAt : VarId → Type 0
  IsProgramAt v = IsSomeAnd (var_at vars v) (λ entry. IsProgramVar entry.kind)

  abbrev class_in : Option VarEntry → VarClass
  class_in o = option_map_or (λ (e : VarEntry). class_of e.kind) o class.Bool

  cell-program : (v : VarId) → holds_cell (class_at vars v) ≡ true → IsProgramAt v
  cell-program v is = by (var_at vars v) is
    where
      of_kind : (k : VarKind) → holds_cell (class_of k) ≡ true → IsProgramVar k
      of_kind var.Bool is = tt
      of_kind (var.Data ty) is = tt
      of_kind (var.Pointer ty) is = tt
      of_kind (var.LogicSet ty) is = absurd (false≢true is)
      of_kind var.LogicBool is = absurd (false≢true is)

      by : (o : Option VarEntry) → holds_cell (class_in o) ≡ true → IsSomeAnd o (λ entry. IsProgramVar entry.kind)
      by None is = absurd (false≢true is)
      by (Some e) is = of_kind e.kind is

  data-known : (v : VarId) → is_data (class_at vars v) ≡ true → IsKnownDataVar vars v
  data-known v is = by vars v.0 is
    where
      of_kind : (k : VarKind) → is_data (class_of k) ≡ true → IsKnownDataVar (record { name = []; kind = k } ∷ []) (record { 0 = 0 })
      of_kind var.Bool is = absurd (false≢true is)
      of_kind (var.Data ty) is = tt
      of_kind (var.Pointer ty) is = absurd (false≢true is)
      of_kind (var.LogicSet ty) is = absurd (false≢true is)
      of_kind var.LogicBool is = absurd (false≢true is)

      by : (table : List VarEntry) (n : ℕ) → is_data (class_at table (record { 0 = n })) ≡ true → IsKnownDataVar table (record { 0 = n })
      by [] n is = absurd (false≢true is)
      by (e ∷ table) zero is = of_kind e.kind is
      by (e ∷ table) (suc n) is = by table n is

  pointer-known : (v : VarId) → is_pointer (class_at vars v) ≡ true → IsKnownPointerVar vars v
  pointer-known v is = by (var_at vars v) is
    where
      of_kind : (k : VarKind) → is_pointer (class_of k) ≡ true → IsPointerVar k
      of_kind var.Bool is = absurd (false≢true is)
      of_kind (var.Data ty) is = absurd (false≢true is)
      of_kind (var.Pointer ty) is = tt
      of_kind (var.LogicSet ty) is = absurd (false≢true is)
      of_kind var.LogicBool is = absurd (false≢true is)

      by : (o : Option VarEntry) → is_pointer (class_in o) ≡ true → IsSomeAnd o (λ entry. IsPointerVar entry.kind)
      by None is = absurd (false≢true is)
      by (Some e) is = of_kind e.kind is

  program-at : (v : VarId) → IsProgramVariable vars v → IsProgramAt v
  program-at v is = by (var_at vars v) is
    where
      of_kind : (k : VarKind) → IsTrue (not (is_logic (class_of k))) → IsProgramVar k
      of_kind var.Bool is = tt
      of_kind (var.Data ty) is = tt
      of_kind (var.Pointer ty) is = tt
      of_kind (var.LogicSet ty) is = absurd cc
      of_kind var.LogicBool is = absurd cc

      by : (o : Option VarEntry) → IsSomeAnd (option_map (λ (e : VarEntry). e.kind) o) (λ kind. IsTrue (not (is_logic (class_of kind)))) →
          IsSomeAnd o (λ entry. IsProgramVar entry.kind)
      by None is = absurd is
      by (Some e) is = of_kind e.kind is

  pub programs-at : (vs : List VarId) → AllByRecursion (IsProgramVariable vars) vs → AllByRecursion IsProgramAt vs
  programs-at [] all = tt
  programs-at (v ∷ vs) all = (program-at v all.0, programs-at vs all.1)

  pub those-all : (P : VarId → Type 0) (test : VarClass → VarId → Bool) → ((v : VarId) → test (class_at vars v) v ≡ true → P v) →
      AllByRecursion P (those test vars)
  those-all P test so = filter-all (λ v. test (class_at vars v) v) P so (numbered _)

  pub data-listed : (vs : List VarId) → AllByRecursion (IsKnownDataVar vars) (returned_by vars vs)
  data-listed vs = filter-all (λ v. is_data (class_at vars v)) (IsKnownDataVar vars) data-known vs

  -- results and locals
  pub fresh-program : (p : TypedProc) → AllByRecursion IsProgramAt p.results → AllByRecursion IsProgramAt p.locals →
      AllByRecursion IsProgramAt (those (is_fresh p) vars)
  fresh-program p results locals = those-all IsProgramAt (is_fresh p) (λ v is. by v (is_listed p.results v) refl is)
    where
      by : (v : VarId) (b : Bool) → is_listed p.results v ≡ b → (b || is_listed p.locals v) ≡ true → IsProgramAt v
      by v true first is = listed-all IsProgramAt p.results v results first
      by v false first is = listed-all IsProgramAt p.locals v locals is

  pub left-program : (p : TypedProc) → AllByRecursion IsProgramAt (those (is_left p) vars)
  left-program p = those-all IsProgramAt (is_left p) (λ v is. cell-program v (left-true (holds_cell (class_at vars v)) (not (is_listed p.results v)) is))

  pub awaited-program : (call : CallParts) → AllByRecursion IsProgramAt call.results → AllByRecursion IsProgramAt (those (is_awaited call) vars)
  awaited-program call results =
      those-all IsProgramAt (is_awaited call)
      (λ v is. listed-all IsProgramAt call.results v results (left-true (is_listed call.results v) (not (is_argument call.args v)) is))

  pub spent-program : (call : CallParts) → AllByRecursion IsProgramAt (those (is_spent call) vars)
  spent-program call =
      those-all IsProgramAt (is_spent call)
      (λ v is. cell-program v (left-true (holds_cell (class_at vars v)) (is_argument call.args v)
      (left-true (holds_cell (class_at vars v) && is_argument call.args v) (not (is_listed call.results v)) is)))

  pub lent-pointers : (call : CallParts) → AllByRecursion (IsKnownPointerVar vars) (those (is_lent call) vars)
  lent-pointers call =
      those-all (IsKnownPointerVar vars) (is_lent call)
      (λ v is. pointer-known v (left-true (is_pointer (class_at vars v)) (is_argument call.args v) is))

  pub gained-pointers : (call : CallParts) → AllByRecursion (IsKnownPointerVar vars) (those (is_gained call) vars)
  gained-pointers call =
      those-all (IsKnownPointerVar vars) (is_gained call)
      (λ v is. pointer-known v (left-true (is_pointer (class_at vars v)) (is_listed call.results v) is))

-- ---- settings

module _ (types : List TypeEntry) (vars : List VarEntry) where
  natural-cond : (Part : Type 0) (whole : Part → Cond) (fits : Cond → Type 0) (x : Cond-F Part) →
      CondFitsNode types vars Part whole (λ p. fits (whole p)) x ≡ CondFitsNode types vars Cond (λ c. c) fits (map-Cond Part Cond whole x)
  natural-cond Part whole fits Cond-F.True = refl
  natural-cond Part whole fits Cond-F.False = refl
  natural-cond Part whole fits (Cond-F.Bool p) = refl
  natural-cond Part whole fits (Cond-F.Is p v) = refl
  natural-cond Part whole fits (Cond-F.Same p q) = refl
  natural-cond Part whole fits (Cond-F.Not c) = refl
  natural-cond Part whole fits (Cond-F.And c d) = refl
  natural-cond Part whole fits (Cond-F.Or c d) = refl

  False-fits : CondFits types vars condition.False
  False-fits = transport (λ i. sym (ap (CondFits types vars) (sym condition.rolls-False)
      ∙ rec-roll-Cond (Type 0) (CondFitsNode types vars) natural-cond Cond-F.False) i) tt

  -- null or false is of the sort of the variable
  abbrev IsBlankFor : Option VarEntry → Type 0
  IsBlankFor o =
      (sort : Sort) × (option_and_then (λ start. sort_along types start []) (option_and_then (λ (e : VarEntry). code_sort e.kind) o) ≡ Some sort)
      × RhsFits types vars (blank (class_in vars o)) sort

  blank-fits : (o : Option VarEntry) → IsSomeAnd o (λ entry. IsProgramVar entry.kind) → IsBlankFor o
  blank-fits None is = absurd is
  blank-fits (Some e) is = by e.kind is
    where
      by : (k : VarKind) → IsProgramVar k → (sort : Sort) ×
          (option_and_then (λ start. sort_along types start []) (code_sort k) ≡ Some sort) × RhsFits types vars (blank (class_of k)) sort
      by var.Bool is = (_, refl, (False-fits, refl))
      by (var.Data ty) is = (_, refl, (tt, tt))
      by (var.Pointer ty) is = (_, refl, (tt, tt))
      by (var.LogicSet ty) is = absurd is
      by var.LogicBool is = absurd is

  setting-fits : (line : ℕ) (v : VarId) → IsProgramAt vars v → ItemFits types vars (setting vars line v)
  setting-fits line v is = Do-fits types vars line _ (blank-fits (var_at vars v) is)

  pub settings-fit : (test : VarClass → VarId → Bool) (line : ℕ) → AllByRecursion (IsProgramAt vars) (those test vars) →
      ItemsFit types vars (settings vars test line)
  settings-fit test line all = by (those test vars) all
    where
      by : (vs : List VarId) → AllByRecursion (IsProgramAt vars) vs → ItemsFit types vars (map (setting vars line) vs)
      by [] all = tt
      by (v ∷ vs) all = (setting-fits line v all.0, by vs all.1)
