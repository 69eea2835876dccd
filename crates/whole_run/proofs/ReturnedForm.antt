-- The store after a return is well-formed.
use Rattle.std.proofs.Common.{◌≡◌, ◌≢◌, ◌==◌, ◌<◌, ◌≤◌, ◌+◌, ◌⊎◌, inl, inr, ℕ, zero, suc, Bool, true, false, List, [], ◌∷◌, ◌++◌, map, length}
use Rattle.std.proofs.Common.{slice_get, Option, Some, None, IsSome, IsSomeAnd, IfSome, Contains, if◌then◌else◌, refl, sym, ap, ◌∙◌, subst, arith}
use Rattle.std.specs.Prelude.{option_map}
use Rattle.std.specs.List.{AllByRecursion, AllZip, AllPairs, range_with_len}
use Rattle.std.specs.Option.{option_and_then}
use Rattle.std.proofs.lemmas.Bool.{false≢true}
use Rattle.std.proofs.lemmas.List.{length-map}
use Rattle.std.proofs.lemmas.List.FromFn.{length-range_with_len}
use Rattle.std.proofs.lemmas.List.Elements.{recursion_from_All}
use Rattle.std.proofs.lemmas.Option.{slice_get_within}
use Rattle.store_core.specs.declared.ids.TypeId.{TypeId}
use Rattle.store_core.specs.declared.ids.FieldId.{FieldId}
use Rattle.store_core.specs.declared.ids.VarId.{VarId}
use Rattle.store_core.specs.declared.ids.CellId.{CellId}
use Rattle.store_core.specs.declared.kind.VarKind.{VarKind}
use Rattle.store_core.specs.declared.kind.VarKind.TheVariants as var
use Rattle.store_core.specs.declared.value.Value.{Value}
use Rattle.store_core.specs.declared.value.Value.TheVariants as value
use Rattle.store_core.specs.CellLists.{AreRising}
use Rattle.store_core.specs.Tables.{TypeEntry, VarEntry, var_at}
use Rattle.store_core.specs.Stores.{StoreMap, CellEntry, IsLive, cell_of, field_of, var_value, NamesType, VarFits, VarsFit, CellFits, Fits}
use Rattle.store_core.specs.Stores.{NamesLiveAlone, NamesNoDead}
use Rattle.store_core.proofs.AboveLemmas.{live_below, IsAbove-from}
use Rattle.store_laws.proofs.KeepingLemmas.{NamesSuch, CellFits-kept}
use Rattle.store_core.proofs.FittingLemmas.{IfSome-from, IfSome-at}
use Rattle.routing_walks.specs.Walks.{IsOfType}
use Rattle.routing_walks.specs.Regions.{IsPart}
use Rattle.routing_walks.specs.WellFormed.{VarHoldsLive, SetHoldsLive, IsWellFormed}
use Rattle.routing_walks.proofs.LiveLemmas.{IsOfType-live}
use Rattle.routing_walks.proofs.FreshLemmas.{IsFresh-well_formed}
use Rattle.routing_walks.proofs.DecidedLemmas.{decided_in, decided_there}
use Rattle.routing_walks.proofs.DecidedWalks.{decided_same_cell}
use Rattle.routing_walks.specs.Hanging.{IsTogether}
use Rattle.store_logic.specs.Terms.{null}
use Rattle.store_exec.specs.Steps.{variable}
use Rattle.store_exec.specs.Restricted.{restricted}
use Rattle.store_exec.proofs.RestrictedLemmas.{restricted-well_formed}
use Rattle.pale_calls.specs.Classes.{class_of, holds_cell}
use Rattle.pale_typed.specs.declared.typed.CallParts.{CallParts}
use Rattle.pale_typed.specs.declared.typed.ProcEntry.{ProcEntry}
use Rattle.pale_typed.specs.Variables.{numbers}
use Rattle.pale_typed.specs.Fitting.{kind_at, IsLike}
use Rattle.hoare_split.specs.Picking.{class_at, is_pointer, is_listed, is_argument, is_spent, numbered}
use Rattle.hoare_split.specs.Calls.{handed_by}
use Rattle.whole_run.specs.Handing.{rest_store, value_after, beside_rest}
use Rattle.whole_run.specs.Leaving.{CameOf}
use Rattle.whole_run.proofs.Handed.{some_same, kind_entry, value_there}
use Rattle.whole_run.proofs.Beside.{rest_in, of_exit, of_rest, After, is_result, is_null, stays, holds_after}
use Rattle.whole_run.proofs.ReturnedRoots.{some_variable, class_kind, spent_cell, together, type_exit, type_rest, result_kind, after_is}
use Rattle.whole_run.proofs.ReturnedRoots.{held_after, sound_after}
use Rattle.whole_run.proofs.ReturnedRoots as roots

-- ---- lists

slots_by : (P : Value → Type 0) (xs : List (Option Value)) → ((i : ℕ) (x : Value) → slice_get xs i ≡ Some (Some x) → P x) →
    AllByRecursion (λ (o : Option Value). IfSome o P) xs
slots_by P [] each = tt
slots_by P (None ∷ xs) each = (tt, slots_by P xs (λ i x at. each (suc i) x at))
slots_by P (Some x ∷ xs) each = (each 0 x refl, slots_by P xs (λ i y at. each (suc i) y at))

fit_each : (s : StoreMap) (vs : List VarEntry) (xs : List Value) → length xs ≡ length vs →
    ((k : ℕ) (entry : VarEntry) (x : Value) → slice_get vs k ≡ Some entry → slice_get xs k ≡ Some x → VarFits s entry.kind x) → VarsFit s vs xs
fit_each s [] [] same each = tt
fit_each s [] (x ∷ xs) same each = absurd (omega (arith, same))
fit_each s (v ∷ vs) [] same each = absurd (omega (arith, same))
fit_each s (v ∷ vs) (x ∷ xs) same each =
    (each 0 v x refl refl, fit_each s vs xs (omega (arith, same)) (λ k entry y at is. each (suc k) entry y at is))

self : (n : ℕ) → (n == n) ≡ true
self n = grind arith

-- ---- what a cell's fields name

such_alone : (s : StoreMap) (x : Value) → NamesLiveAlone s x → NamesSuch (IsLive s) x
such_alone s (value.Bool b) h = h
such_alone s (value.Cell c) h = h
such_alone s (value.Cells cells) h = h

slots_live : (s : StoreMap) → NamesNoDead s → (c : CellId) (cell : CellEntry) → cell_of s c ≡ Some cell →
    AllByRecursion (λ (o : Option Value). IfSome o (NamesSuch (IsLive s))) cell.values
slots_live s alive c cell at = slots_by (NamesSuch (IsLive s)) cell.values (λ i x there.
    let f : FieldId = record { ty = cell.variant.ty; index = i } in
    let own : field_of cell f ≡ Some x =
    ap (λ z. if z then option_and_then (λ (v : Option Value). v) (slice_get cell.values i) else None) (self (cell.variant.ty).0)
    ∙ ap (λ (o : Option (Option Value)). option_and_then (λ (v : Option Value). v) o) there in
    such_alone s x (IfSome-at (option_and_then (λ (e : CellEntry). field_of e f) (cell_of s c)) (NamesLiveAlone s) x
    (ap (λ (o : Option CellEntry). option_and_then (λ (e : CellEntry). field_of e f) o) at ∙ own) (alive.fields c f)))

some_if : {X : Type 0} (o : Option X) (P : X → Type 0) → IsSomeAnd o P → IfSome o P
some_if None P h = absurd h
some_if (Some x) P h = h

-- ---- fitting values

module _ (s : StoreMap) where
  abbrev Names : TypeId → CellId → Type 0
  Names ty c = NamesType s ty c

  pub fits_by : (before : StoreMap) (kind : VarKind) (x : Value) → VarFits before kind x → VarHoldsLive s kind x →
      ((ty : TypeId) (cells : List CellId) → kind ≡ var.LogicSet ty → x ≡ value.Cells cells → AllByRecursion (Names ty) cells) → VarFits s kind x
  fits_by before var.Bool (value.Bool b) fit live sets = tt
  fits_by before var.Bool (value.Cell c) fit live sets = absurd fit
  fits_by before var.Bool (value.Cells cs) fit live sets = absurd fit
  fits_by before (var.Data ty) (value.Bool b) fit live sets = absurd fit
  fits_by before (var.Data ty) (value.Cell None) fit live sets = tt
  fits_by before (var.Data ty) (value.Cell (Some c)) fit live sets = some_if (cell_of s c) (λ cell. cell.variant.ty ≡ ty) live
  fits_by before (var.Data ty) (value.Cells cs) fit live sets = absurd fit
  fits_by before (var.Pointer ty) (value.Bool b) fit live sets = absurd fit
  fits_by before (var.Pointer ty) (value.Cell None) fit live sets = tt
  fits_by before (var.Pointer ty) (value.Cell (Some c)) fit live sets = some_if (cell_of s c) (λ cell. cell.variant.ty ≡ ty) live
  fits_by before (var.Pointer ty) (value.Cells cs) fit live sets = absurd fit
  fits_by before (var.LogicSet ty) (value.Bool b) fit live sets = absurd fit
  fits_by before (var.LogicSet ty) (value.Cell c) fit live sets = absurd fit
  fits_by before (var.LogicSet ty) (value.Cells cs) fit live sets = (fit.0, sets ty cs refl refl)
  fits_by before var.LogicBool (value.Bool b) fit live sets = tt
  fits_by before var.LogicBool (value.Cell c) fit live sets = absurd fit
  fits_by before var.LogicBool (value.Cells cs) fit live sets = absurd fit

all_map : {X : Type 0} (P Q : X → Type 0) → ((x : X) → P x → Q x) → (xs : List X) → AllByRecursion P xs → AllByRecursion Q xs
all_map P Q so [] all = tt
all_map P Q so (x ∷ xs) all = (so x all.0, all_map P Q so xs all.1)

set_of : (s : StoreMap) (kind : VarKind) (x : Value) (ty : TypeId) (cells : List CellId) → kind ≡ var.LogicSet ty → x ≡ value.Cells cells →
    SetHoldsLive s kind x → AllByRecursion (IsOfType s ty) cells
set_of s kind x ty cells is e h =
    recursion_from_All (IsOfType s ty) cells
    (let k : SetHoldsLive s (var.LogicSet ty) (value.Cells cells) = subst (SetHoldsLive s (var.LogicSet ty)) e (subst (λ k. SetHoldsLive s k x) is h) in k)

-- a variable of the table, with its value
record Stood (s : StoreMap) (kind : VarKind) (x : Value) : Type 0 where
  fits : VarFits s kind x
  sets : SetHoldsLive s kind x

stood : (types : List TypeEntry) (table : List VarEntry) (s : StoreMap) → IsWellFormed types table s → (v : VarId) (kind : VarKind) →
    kind_at table v ≡ Some kind → Stood s kind (variable s v)
stood types table s is v kind known =
    let e = kind_entry table v kind known in
    let x = value_there s table s.vars v.0 e.0 is.fits.values e.1 in
    let same = sym (some_variable s v x.0 x.1) in
    record {
      fits = subst (VarFits s kind) same (subst (λ k. VarFits s k x.0) e.2 x.2);
      sets = subst (SetHoldsLive s kind) same (subst (λ k. SetHoldsLive s k x.0) e.2
          (IfSome-at (var_value s v) (SetHoldsLive s e.0.kind) x.0 x.1
          (IfSome-at (var_at table v) (λ (y : VarEntry). IfSome (var_value s v) (SetHoldsLive s y.kind)) e.0 e.1 (is.sets v))));
    }

null_fits : (s : StoreMap) (kind : VarKind) → holds_cell (class_of kind) ≡ true → VarFits s kind null
null_fits s var.Bool h = absurd (false≢true h)
null_fits s (var.Data ty) h = tt
null_fits s (var.Pointer ty) h = tt
null_fits s (var.LogicSet ty) h = absurd (false≢true h)
null_fits s var.LogicBool h = absurd (false≢true h)

module _ (types : List TypeEntry) (vars : List VarEntry) (callee : ProcEntry) (call : CallParts) (r : StoreMap) (cells : List CellId) (t : StoreMap)
    (like : AllZip (IsLike vars callee.vars) call.results callee.proc.results)
    (results_once : AllPairs (λ (u w : VarId). u ≢ w) call.results)
    (in_order : callee.proc.params ++ callee.proc.results ++ callee.proc.locals ++ callee.proc.logics ≡ numbers 0 callee.vars)
    (wf : IsWellFormed types vars r) (part : IsPart types vars r (handed_by vars call.args) cells)
    (exit_wf : IsWellFormed types callee.vars t) (came : CameOf r cells t)
    (left : (u : VarId) (kind : VarKind) → kind_at callee.vars u ≡ Some kind → holds_cell (class_of kind) ≡ true → is_listed callee.proc.results u ≡ false →
    variable t u ≡ null)
    (awaited : (v : VarId) (c : CellId) → is_listed call.results v ≡ true → is_argument call.args v ≡ false → variable r v ≡ value.Cell (Some c) → ⊥)
    (outer : (v : VarId) (kind : VarKind) (c : CellId) → kind_at vars v ≡ Some kind → is_pointer (class_of kind) ≡ true → is_argument call.args v ≡ false →
    variable r v ≡ value.Cell (Some c) → Contains cells c → ⊥) where
  abbrev res : List VarId
  res = callee.proc.results

  abbrev rest : StoreMap
  rest = rest_store r cells

  abbrev u' : StoreMap
  u' = beside_rest vars call res rest t

  abbrev piece : StoreMap
  piece = roots.piece types vars callee call r cells t like results_once in_order wf part exit_wf came left awaited outer

  abbrev whole : IsTogether piece t u'
  whole = together types vars callee call r cells t like results_once in_order wf part exit_wf came left awaited outer

  piece_wf : IsWellFormed types vars piece
  piece_wf = roots.piece_wf types vars callee call r cells t like results_once in_order wf part exit_wf came left awaited outer

  type_too : (s : StoreMap) → ((c : CellId) → IsLive s c → cell_of u' c ≡ cell_of s c) → (ty : TypeId) (c : CellId) → IsLive s c → NamesType s ty c →
      NamesType u' ty c
  type_too s same ty c live h = subst (λ (o : Option CellEntry). IfSome o (λ cell. cell.variant.ty ≡ ty)) (sym (same c live)) h

  same_length : length (u'.vars) ≡ length vars
  same_length = length-map (numbered (range_with_len 0 (length vars))) (value_after vars call res rest t)
      ∙ length-map (range_with_len 0 (length vars)) (λ (n : ℕ). record { 0 = n }) ∙ length-range_with_len 0 (length vars)

  set_named : (ty : TypeId) (d : CellId) → IsOfType r ty d → NamesType u' ty d
  set_named ty d h = elim (decided_there (cell_of t d)) [
    | inl there ↦ some_if (cell_of u' d) (λ cell. cell.variant.ty ≡ ty)
        (type_exit types vars callee call r cells t like results_once in_order wf part exit_wf came left awaited outer ty d
        (came.kept d ty there (live_below r d wf.fits.above (IsOfType-live types r ty d h)) h))
    | inr dead ↦ elim (decided_in decided_same_cell cells d) [
      | inl m ↦ subst (λ (o : Option CellEntry). IfSome o (λ cell. cell.variant.ty ≡ ty))
          (sym (of_rest vars call res rest t d dead ∙ rest_in r cells d m)) tt
      | inr out ↦ some_if (cell_of u' d) (λ cell. cell.variant.ty ≡ ty)
          (type_rest types vars callee call r cells t like results_once in_order wf part exit_wf came left awaited outer ty d out h)
    ]
  ]

  value_fits : (v : VarId) (kind : VarKind) (x : Value) → kind_at vars v ≡ Some kind → After vars call res rest t v x → VarFits u' kind x
  value_fits v kind x is (is_result k w one other from) =
      let both = result_kind types vars callee call r cells t like results_once in_order wf part exit_wf came left awaited outer k v w one other in
      let same : both.kind ≡ kind = some_same both.kind kind (sym both.own ∙ is) in
      let here = stood types callee.vars t exit_wf w kind (both.other ∙ ap (λ k. Some k) same) in
      fits_by u' t kind x (subst (VarFits t kind) (sym from) here.fits)
      (held_after types vars callee call r cells t like results_once in_order wf part exit_wf came left awaited outer v kind x is
      (is_result k w one other from))
      (λ ty cs set e. all_map (IsOfType t ty) (NamesType u' ty)
      (λ d h. some_if (cell_of u' d) (λ cell. cell.variant.ty ≡ ty)
      (type_exit types vars callee call r cells t like results_once in_order wf part exit_wf came left awaited outer ty d h)) cs
      (set_of t kind (variable t w) ty cs set (sym from ∙ e) here.sets))
  value_fits v kind x is (is_null unlisted spent from) =
      subst (VarFits u' kind) (sym from) (null_fits u' kind (sym (ap holds_cell (class_kind vars v kind is))
      ∙ spent_cell (holds_cell (class_at vars v)) (is_argument call.args v) (is_listed call.results v) spent))
  value_fits v kind x is (stays unlisted unspent from) =
      let here = stood types vars r wf v kind is in
      fits_by u' r kind x (subst (VarFits r kind) (sym from) here.fits)
      (held_after types vars callee call r cells t like results_once in_order wf part exit_wf came left awaited outer v kind x is
      (stays unlisted unspent from))
      (λ ty cs set e. all_map (IsOfType r ty) (NamesType u' ty) (set_named ty) cs (set_of r kind (variable r v) ty cs set (sym from ∙ e) here.sets))

  pub fits_after : Fits types vars u'
  fits_after = record {
    cells = λ c. IfSome-from (cell_of u' c) (CellFits types u') (λ cell at.
        let live : IsLive u' c = subst IsSome (sym at) refl in
        elim (whole.of_either c live) [
          | inl here ↦
              let own : cell_of piece c ≡ Some cell = sym (whole.of_one c here) ∙ at in
              CellFits-kept piece u' (IsLive piece) (type_too piece whole.of_one) types cell
              (slots_live piece (IsFresh-well_formed types vars piece piece_wf).0 c cell own)
              (IfSome-at (cell_of piece c) (CellFits types piece) cell own (piece_wf.fits.cells c))
          | inr there ↦
              let own : cell_of t c ≡ Some cell = sym (whole.of_other c there) ∙ at in
              CellFits-kept t u' (IsLive t) (type_too t whole.of_other) types cell
              (slots_live t (IsFresh-well_formed types callee.vars t exit_wf).0 c cell own)
              (IfSome-at (cell_of t c) (CellFits types t) cell own (exit_wf.fits.cells c))
        ]);
    values = fit_each u' vars u'.vars same_length (λ k entry x at is.
        let v : VarId = record { 0 = k } in
        let low = slice_get_within vars k entry at in
        let value_is : value_after vars call res rest t v ≡ x = some_same (value_after vars call res rest t v) x
        (sym (holds_after vars call res rest t v low) ∙ is) in
        subst (VarFits u' entry.kind) value_is (value_fits v entry.kind (value_after vars call res rest t v)
        (ap (option_map (λ (e : VarEntry). e.kind)) at) (after_is types vars callee call r cells t like results_once in_order wf part exit_wf came left
        awaited outer v)));
    above = IsAbove-from u' (λ c live. elim (whole.of_either c live) [
      | inl here ↦ let below = live_below r c wf.fits.above (roots.piece_live types vars callee call r cells t like results_once in_order wf part exit_wf
          came left awaited outer c here).1 in
          let later = came.later in omega (arith, below, later)
      | inr there ↦ live_below t c exit_wf.fits.above there
    ]);
  }

  -- its logic sets restricted to the live cells, the store is well-formed
  pub well_formed_after : IsWellFormed types vars (restricted u')
  well_formed_after = restricted-well_formed types vars u' fits_after
      (sound_after types vars callee call r cells t like results_once in_order wf part exit_wf came left awaited outer)
