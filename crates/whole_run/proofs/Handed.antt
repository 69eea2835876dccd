-- The store that is handed to a callee, variable by variable.
use Rattle.std.proofs.Common.{◌≡◌, ◌≢◌, ◌==◌, ◌<◌, ◌+◌, inl, inr, ℕ, zero, suc, Bool, true, false, not, IsTrue, ◌||◌, List, [], ◌∷◌, ◌++◌, map}
use Rattle.std.proofs.Common.{filter, flat_map, length}
use Rattle.std.proofs.Common.{slice_get, Option, Some, None, IsSomeAnd, IfSome, Contains, if◌then◌else◌, unwrap_or, refl, sym, ap, ◌∙◌, subst, arith}
use Rattle.std.specs.Prelude.{option_map}
use Rattle.std.specs.List.{AllByRecursion, AllZip, AllPairs}
use Rattle.std.specs.Option.{option_map_or}
use Rattle.std.proofs.lemmas.Bool.{false≢true}
use Rattle.std.proofs.lemmas.Option.{slice_get-map}
use Rattle.store_core.specs.declared.ids.VarId.{VarId}
use Rattle.store_core.specs.declared.ids.CellId.{CellId}
use Rattle.store_core.specs.declared.kind.VarKind.{VarKind}
use Rattle.store_core.specs.declared.kind.VarKind.TheVariants as var
use Rattle.store_core.specs.declared.value.Value.{Value}
use Rattle.store_core.specs.declared.value.Value.TheVariants as value
use Rattle.store_core.specs.Tables.{TypeEntry, VarEntry, var_at}
use Rattle.store_core.specs.Stores.{StoreMap, IsLive, var_value, blank, var_class, VarFits, VarsFit}
use Rattle.routing_walks.specs.Regions.{has_number, IsOn}
use Rattle.routing_walks.specs.WellFormed.{IsDataVar}
use Rattle.routing_walks.specs.Pieces.{value_on, piece_on}
use Rattle.routing_walks.proofs.DecidedLemmas.{in_none, in_rest, in_cases, in_at}
use Rattle.routing_walks.proofs.RegionLemmas.{number_in, in_number}
use Rattle.routing_walks.proofs.PieceLemmas.{piece_on-IsOn}
use Rattle.store_logic.specs.Terms.{null}
use Rattle.store_exec.specs.Steps.{variable}
use Rattle.pale_calls.specs.declared.actual.Actual.{Actual}
use Rattle.pale_calls.specs.declared.actual.Actual.TheVariants as actual
use Rattle.pale_calls.specs.Classes.{class_of, holds_cell, is_logic}
use Rattle.pale_typed.specs.declared.typed.CallParts.{CallParts}
use Rattle.pale_typed.specs.declared.typed.ProcEntry.{ProcEntry}
use Rattle.pale_typed.specs.Variables.{numbers}
use Rattle.pale_typed.specs.Fitting.{kind_at, IsOfClass, IsLogicVariable, IsProgramVariable, ActualFits, cell_in, cells_in}
use Rattle.hoare_split.specs.Picking.{class_at, is_data, is_listed}
use Rattle.hoare_split.specs.Calls.{handed_by, variable_in}
use Rattle.hoare_split.proofs.FittingVariableLemmas.{same-var}
use Rattle.whole_run.specs.Handing.{handed_value, blank_at, handed_vars, handed_store}
use Rattle.whole_run.proofs.Zips.{zip_as, zip_append, zip_get, zip_at, At, zip_map, zip_self, zip_and, first_zip, later_zip, numbers_at, at_numbers}

-- ---- lists

pub some_same : {X : Type 0} (x y : X) → Some x ≡ Some y → x ≡ y
some_same x y e = cc

pub zip_unmap : {A B C : Type 0} (f : A → C) (S : C → B → Type 0) (xs : List A) (us : List B) → AllZip S (map f xs) us → AllZip (λ x u. S (f x) u) xs us
zip_unmap f S [] [] all = tt
zip_unmap f S [] (u ∷ us) all = all
zip_unmap f S (x ∷ xs) [] all = all
zip_unmap f S (x ∷ xs) (u ∷ us) all = (all.0, zip_unmap f S xs us all.1)

pub unzip_self : {B C : Type 0} (f : B → C) (S : C → B → Type 0) (us : List B) → AllZip S (map f us) us → AllByRecursion (λ u. S (f u) u) us
unzip_self f S [] all = tt
unzip_self f S (u ∷ us) all = (all.0, unzip_self f S us all.1)

pub zip_both : {A B : Type 0} (R S : A → B → Type 0) (xs : List A) (us : List B) → AllZip R xs us → AllZip S xs us → AllZip (λ x u. R x u × S x u) xs us
zip_both R S [] [] one two = tt
zip_both R S [] (u ∷ us) one two = one
zip_both R S (x ∷ xs) [] one two = one
zip_both R S (x ∷ xs) (u ∷ us) one two = ((one.0, two.0), zip_both R S xs us one.1 two.1)

pub all_as : {X : Type 0} (P Q : X → Type 0) → ((x : X) → P x → Q x) → (xs : List X) → AllByRecursion P xs → AllByRecursion Q xs
all_as P Q so [] all = tt
all_as P Q so (x ∷ xs) all = (so x all.0, all_as P Q so xs all.1)

all_both : {X : Type 0} (P Q : X → Type 0) (xs : List X) → AllByRecursion P xs → AllByRecursion Q xs → AllByRecursion (λ x. P x × Q x) xs
all_both P Q [] one two = tt
all_both P Q (x ∷ xs) one two = ((one.0, two.0), all_both P Q xs one.1 two.1)

pub all_left : {X : Type 0} (P : X → Type 0) (xs ys : List X) → AllByRecursion P (xs ++ ys) → AllByRecursion P xs
all_left P [] ys all = tt
all_left P (x ∷ xs) ys all = (all.0, all_left P xs ys all.1)

pub all_right : {X : Type 0} (P : X → Type 0) (xs ys : List X) → AllByRecursion P (xs ++ ys) → AllByRecursion P ys
all_right P [] ys all = all
all_right P (x ∷ xs) ys all = all_right P xs ys all.1

pub listed_all : (P : VarId → Type 0) (us : List VarId) (v : VarId) → AllByRecursion P us → is_listed us v ≡ true → P v
listed_all P [] v all is = absurd (false≢true is)
listed_all P (u ∷ us) v all is = by (listed_all P us v all.1) (u.0 == v.0) refl is
  where
    by : (is_listed us v ≡ true → P v) → (b : Bool) → (u.0 == v.0) ≡ b → (b || is_listed us v) ≡ true → P v
    by rest true same among = subst P (same-var u v same) all.0
    by rest false same among = rest among

-- the value of a variable of the table
pub value_there : (s : StoreMap) (vs : List VarEntry) (xs : List Value) (k : ℕ) (entry : VarEntry) → VarsFit s vs xs → slice_get vs k ≡ Some entry →
    (x : Value) × (slice_get xs k ≡ Some x) × VarFits s entry.kind x
value_there s [] xs k entry fits at = absurd cc
value_there s (v ∷ vs) [] k entry fits at = absurd fits
value_there s (v ∷ vs) (x ∷ xs) zero entry fits at = let same : v ≡ entry = cc in (x, refl, subst (λ (e : VarEntry). VarFits s e.kind x) same fits.0)
value_there s (v ∷ vs) (x ∷ xs) (suc k) entry fits at = value_there s vs xs k entry fits.1 at

pub kind_entry : (vars : List VarEntry) (v : VarId) (kind : VarKind) → kind_at vars v ≡ Some kind →
    (entry : VarEntry) × (var_at vars v ≡ Some entry) × (entry.kind ≡ kind)
kind_entry vars v kind is = of (var_at vars v) refl is
  where
    of : (o : Option VarEntry) → var_at vars v ≡ o → option_map (λ (e : VarEntry). e.kind) o ≡ Some kind →
        (entry : VarEntry) × (var_at vars v ≡ Some entry) × (entry.kind ≡ kind)
    of None at e = let no : None ≡ Some kind = e in absurd cc
    of (Some entry) at e = (entry, at, some_same entry.kind kind e)

-- a variable that is handed over stands at a place of the arguments
pub handed_at : (vars : List VarEntry) (args : List Actual) (w : VarId) → Contains (handed_by vars args) w →
    (k : ℕ) × (slice_get args k ≡ Some (actual.Var w)) × (is_data (class_at vars w) ≡ true)
handed_at vars [] w m = absurd (in_none w m)
handed_at vars (actual.Null ∷ args) w m = let h = handed_at vars args w m in (suc h.0, h.1, h.2)
handed_at vars (actual.Truth truth ∷ args) w m = let h = handed_at vars args w m in (suc h.0, h.1, h.2)
handed_at vars (actual.Var v ∷ args) w m = of (λ rest. handed_at vars args w rest) (is_data (class_at vars v)) refl m
  where
    of : (Contains (handed_by vars args) w → (k : ℕ) × (slice_get args k ≡ Some (actual.Var w)) × (is_data (class_at vars w) ≡ true)) →
        (b : Bool) → is_data (class_at vars v) ≡ b → Contains (if b then v ∷ handed_by vars args else handed_by vars args) w →
        (k : ℕ) × (slice_get (actual.Var v ∷ args) k ≡ Some (actual.Var w)) × (is_data (class_at vars w) ≡ true)
    of later true is m = elim (in_cases v w (handed_by vars args) m) [
      | inl same ↦ (0, ap (λ (u : VarId). Some (actual.Var u)) same, subst (λ (u : VarId). is_data (class_at vars u) ≡ true) same is)
      | inr rest ↦ let h = later rest in (suc h.0, h.1, h.2)
    ]
    of later false is m = let h = later m in (suc h.0, h.1, h.2)

-- ---- a cell variable is handed over once

cells_later : (vars : List VarEntry) (b : Bool) (v : VarId) (rest : List VarId) →
    AllPairs (λ (u w : VarId). u ≢ w) ((if b then v ∷ [] else []) ++ rest) → AllPairs (λ (u w : VarId). u ≢ w) rest
cells_later vars false v rest all = all
cells_later vars true v rest all = λ i j d low high. all (suc i) (suc j) d (omega (arith, low)) (omega (arith, high))

pub cells_tail : (vars : List VarEntry) (a : Actual) (args : List Actual) → AllPairs (λ (u w : VarId). u ≢ w) (cells_in vars (a ∷ args)) →
    AllPairs (λ (u w : VarId). u ≢ w) (cells_in vars args)
cells_tail vars (actual.Var v) args all = cells_later vars (option_map_or (λ kind. holds_cell (class_of kind)) (kind_at vars v) false) v
    (cells_in vars args) all
cells_tail vars actual.Null args all = all
cells_tail vars (actual.Truth truth) args all = all

in_later : (b : Bool) (v w : VarId) (rest : List VarId) → Contains rest w → Contains ((if b then v ∷ [] else []) ++ rest) w
in_later false v w rest m = m
in_later true v w rest m = in_rest v w rest m

pub in_cells : (vars : List VarEntry) (args : List Actual) (k : ℕ) (w : VarId) → cell_in vars (actual.Var w) ≡ w ∷ [] →
    slice_get args k ≡ Some (actual.Var w) → Contains (cells_in vars args) w
in_cells vars [] k w is at = absurd cc
in_cells vars (a ∷ args) zero w is at =
    let same : a ≡ actual.Var w = cc in
    subst (λ (x : Actual). Contains (cell_in vars x ++ cells_in vars args) w) (sym same)
    (subst (λ (ws : List VarId). Contains (ws ++ cells_in vars args) w) (sym is) (0, omega arith, refl))
in_cells vars (actual.Var v ∷ args) (suc k) w is at =
    in_later (option_map_or (λ kind. holds_cell (class_of kind)) (kind_at vars v) false) v w (cells_in vars args) (in_cells vars args k w is at)
in_cells vars (actual.Null ∷ args) (suc k) w is at = in_cells vars args k w is at
in_cells vars (actual.Truth truth ∷ args) (suc k) w is at = in_cells vars args k w is at

never_again : (w : VarId) (rest : List VarId) → AllPairs (λ (u v : VarId). u ≢ v) (w ∷ rest) → Contains rest w → ⊥
never_again w rest all m = all 0 (suc m.0) w (omega arith) (let within = m.1 in omega (arith, within)) (sym m.2)

first_again : (vars : List VarEntry) (a : Actual) (args : List Actual) (k : ℕ) (w : VarId) → cell_in vars (actual.Var w) ≡ w ∷ [] →
    AllPairs (λ (u v : VarId). u ≢ v) (cells_in vars (a ∷ args)) → a ≡ actual.Var w → slice_get args k ≡ Some (actual.Var w) → ⊥
first_again vars a args k w is all same at =
    never_again w (cells_in vars args)
    (subst (λ (ws : List VarId). AllPairs (λ (u v : VarId). u ≢ v) (ws ++ cells_in vars args)) (ap (cell_in vars) same ∙ is) all)
    (in_cells vars args k w is at)

pub once_at : (vars : List VarEntry) (args : List Actual) (k j : ℕ) (w : VarId) → cell_in vars (actual.Var w) ≡ w ∷ [] →
    AllPairs (λ (u v : VarId). u ≢ v) (cells_in vars args) → slice_get args k ≡ Some (actual.Var w) → slice_get args j ≡ Some (actual.Var w) → k ≡ j
once_at vars [] k j w is all one two = absurd cc
once_at vars (a ∷ args) zero zero w is all one two = refl
once_at vars (a ∷ args) zero (suc j) w is all one two = absurd (first_again vars a args j w is all (some_same a (actual.Var w) one) two)
once_at vars (a ∷ args) (suc k) zero w is all one two = absurd (first_again vars a args k w is all (some_same a (actual.Var w) two) one)
once_at vars (a ∷ args) (suc k) (suc j) w is all one two = ap suc (once_at vars args k j w is (cells_tail vars a args all) one two)

-- ---- the callee's variables

-- what stands in a variable: an argument, null or false, or a logic argument
pub data From (vars : List VarEntry) (callee : ProcEntry) (call : CallParts) (given : Actual → Value) (x : Value) (u : VarId) : Type 0 where
  of_arg : (k : ℕ) (a : Actual) → slice_get call.args k ≡ Some a → slice_get callee.proc.params k ≡ Some u → ActualFits vars callee.vars a u →
      x ≡ given a → From vars callee call given x u
  of_blank : IsProgramVariable callee.vars u → x ≡ blank_at callee.vars u → From vars callee call given x u
  of_logic : (a : Actual) → ActualFits vars callee.vars a u → IsLogicVariable callee.vars u → x ≡ given a → From vars callee call given x u

module _ (vars : List VarEntry) (callee : ProcEntry) (call : CallParts) (r : StoreMap) (cells : List CellId)
    (args : AllZip (ActualFits vars callee.vars) call.args callee.proc.params)
    (logics : AllZip (ActualFits vars callee.vars) call.logics callee.proc.logics)
    (in_order : callee.proc.params ++ callee.proc.results ++ callee.proc.locals ++ callee.proc.logics ≡ numbers 0 callee.vars)
    (programs : AllByRecursion (IsProgramVariable callee.vars) (callee.proc.params ++ callee.proc.results ++ callee.proc.locals))
    (are_logic : AllByRecursion (IsLogicVariable callee.vars) callee.proc.logics) where
  abbrev given : Actual → Value
  given a = handed_value r cells a

  abbrev pub handed : StoreMap
  handed = handed_store callee call r cells

  abbrev Is : Value → VarId → Type 0
  Is = From vars callee call given

  abbrev p : List VarId
  p = callee.proc.params

  abbrev blanks : List VarId → List Value
  blanks us = map (blank_at callee.vars) us

  arg_part : AllZip Is (map given call.args) p
  arg_part = zip_map given Is call.args p (zip_as (At (ActualFits vars callee.vars) call.args p) (λ a u. Is (given a) u)
      (λ a u t. of_arg t.0 a t.1 t.2 t.3 refl) call.args p (zip_at (ActualFits vars callee.vars) call.args p args))

  blank_part : (us : List VarId) → AllByRecursion (IsProgramVariable callee.vars) us → AllZip Is (blanks us) us
  blank_part us all = zip_self (blank_at callee.vars) Is us
      (all_as (IsProgramVariable callee.vars) (λ u. Is (blank_at callee.vars u) u) (λ u known. of_blank known refl) us all)

  logic_part : AllZip Is (map given call.logics) callee.proc.logics
  logic_part = zip_map given Is call.logics callee.proc.logics
      (zip_as (λ a u. ActualFits vars callee.vars a u × IsLogicVariable callee.vars u) (λ a u. Is (given a) u) (λ a u t. of_logic a t.0 t.1 refl)
      call.logics callee.proc.logics (zip_and (ActualFits vars callee.vars) (IsLogicVariable callee.vars) call.logics callee.proc.logics logics are_logic))

  abbrev res : List VarId
  res = callee.proc.results

  abbrev loc : List VarId
  loc = callee.proc.locals

  known_results : AllByRecursion (IsProgramVariable callee.vars) res
  known_results = all_right (IsProgramVariable callee.vars) p res (all_left (IsProgramVariable callee.vars) (p ++ res) loc programs)

  known_locals : AllByRecursion (IsProgramVariable callee.vars) loc
  known_locals = all_right (IsProgramVariable callee.vars) (p ++ res) loc programs

  abbrev values_two : List Value
  values_two = map given call.args ++ blanks res

  abbrev values_three : List Value
  values_three = values_two ++ blanks loc

  parts_two : AllZip Is values_two (p ++ res)
  parts_two = zip_append Is (map given call.args) (blanks res) p res arg_part (blank_part res known_results)

  parts_three : AllZip Is values_three (p ++ res ++ loc)
  parts_three = zip_append Is values_two (blanks loc) (p ++ res) loc parts_two (blank_part loc known_locals)

  parts : AllZip Is (handed_vars callee call r cells) (p ++ res ++ loc ++ callee.proc.logics)
  parts = zip_append Is values_three (map given call.logics) (p ++ res ++ loc) callee.proc.logics parts_three logic_part

  abbrev Stands : Value → VarId → Type 0
  Stands x u = (var_value handed u ≡ Some x) × Is x u

  pub told : AllZip Stands (handed_vars callee call r cells) (numbers 0 callee.vars)
  told =
      let zipped = subst (λ us. AllZip Is (handed_vars callee call r cells) us) in_order parts in
      zip_as (At Is (handed_vars callee call r cells) (numbers 0 callee.vars)) Stands
      (λ x u t. let number = numbers_at 0 callee.vars t.0 u t.2 in let same : t.0 ≡ u.0 = omega (arith, number) in
      (subst (λ (k : ℕ). slice_get (handed_vars callee call r cells) k ≡ Some x) same t.1, t.3))
      (handed_vars callee call r cells) (numbers 0 callee.vars)
      (zip_at Is (handed_vars callee call r cells) (numbers 0 callee.vars) zipped)

  told_ids : AllZip Stands (handed_vars callee call r cells) (p ++ res ++ loc ++ callee.proc.logics)
  told_ids = subst (λ us. AllZip Stands (handed_vars callee call r cells) us) (sym in_order) told

  -- each variable of the callee
  pub source : (u : VarId) (entry : VarEntry) → var_at callee.vars u ≡ Some entry → (x : Value) × (var_value handed u ≡ Some x) × Is x u
  source u entry at =
      let got = at_numbers Stands 0 callee.vars (handed_vars callee call r cells) u.0 entry told at in
      let same : 0 + u.0 ≡ u.0 = omega arith in
      (got.0, got.1, subst (λ (m : ℕ). Is got.0 (record { 0 = m })) same got.2.1)

  -- what is handed over for a variable stands in it
  abbrev pub IsGiven : Actual → VarId → Type 0
  IsGiven a u = ActualFits vars callee.vars a u × (var_value handed u ≡ Some (given a))

  told_three : AllZip Stands values_three (p ++ res ++ loc)
  told_three = first_zip Stands Is values_three (map given call.logics) (p ++ res ++ loc) callee.proc.logics parts_three told_ids

  told_two : AllZip Stands values_two (p ++ res)
  told_two = first_zip Stands Is values_two (blanks loc) (p ++ res) loc parts_two told_three

  given_as : (xs : List Actual) (us : List VarId) → AllZip (ActualFits vars callee.vars) xs us → AllZip Stands (map given xs) us → AllZip IsGiven xs us
  given_as xs us fits stands = zip_as (λ a u. ActualFits vars callee.vars a u × Stands (given a) u) IsGiven (λ a u t. (t.0, t.1.0)) xs us
      (zip_both (ActualFits vars callee.vars) (λ a u. Stands (given a) u) xs us fits (zip_unmap given Stands xs us stands))

  pub args_given : AllZip IsGiven call.args p
  args_given = given_as call.args p args (first_zip Stands Is (map given call.args) (blanks res) p res arg_part told_two)

  pub logics_given : AllZip IsGiven call.logics callee.proc.logics
  logics_given = given_as call.logics callee.proc.logics logics
      (later_zip Stands Is values_three (map given call.logics) (p ++ res ++ loc) callee.proc.logics parts_three told_ids)

  abbrev pub IsBlankIn : VarId → Type 0
  IsBlankIn u = var_value handed u ≡ Some (blank_at callee.vars u)

  blank_as : (us : List VarId) → AllZip Stands (blanks us) us → AllByRecursion IsBlankIn us
  blank_as us all = all_as (λ u. Stands (blank_at callee.vars u) u) IsBlankIn (λ u t. t.0) us (unzip_self (blank_at callee.vars) Stands us all)

  pub results_blank : AllByRecursion (λ u. IsBlankIn u × IsProgramVariable callee.vars u) res
  results_blank = all_both IsBlankIn (IsProgramVariable callee.vars) res
      (blank_as res (later_zip Stands Is (map given call.args) (blanks res) p res arg_part told_two)) known_results

  pub locals_blank : AllByRecursion (λ u. IsBlankIn u × IsProgramVariable callee.vars u) loc
  locals_blank = all_both IsBlankIn (IsProgramVariable callee.vars) loc
      (blank_as loc (later_zip Stands Is values_two (blanks loc) (p ++ res) loc parts_two told_three)) known_locals

-- ---- values on a set

kept_cell : (cells : List CellId) (d c : CellId) (b : Bool) → has_number cells d.0 ≡ b → value.Cell (if b then Some d else None) ≡ value.Cell (Some c) →
    (d ≡ c) × Contains cells c
kept_cell cells d c true is e = let same : d ≡ c = cc in (same, subst (λ x. Contains cells x) same (in_number cells d is))
kept_cell cells d c false is e = let no : None ≡ Some c = cc in absurd cc

pub on_cell : (cells : List CellId) (y : Value) (c : CellId) → value_on cells y ≡ value.Cell (Some c) → (y ≡ value.Cell (Some c)) × Contains cells c
on_cell cells (value.Bool truth) c e = absurd cc
on_cell cells (value.Cell None) c e = let no : None ≡ Some c = cc in absurd cc
on_cell cells (value.Cell (Some d)) c e = let k = kept_cell cells d c (has_number cells d.0) refl e in (ap (λ (x : CellId). value.Cell (Some x)) k.0, k.1)
on_cell cells (value.Cells others) c e = absurd cc

pub cell_kept : (cells : List CellId) (c : CellId) → Contains cells c → value_on cells (value.Cell (Some c)) ≡ value.Cell (Some c)
cell_kept cells c m = ap (λ (b : Bool). value.Cell (if b then Some c else None)) (number_in cells c m)
