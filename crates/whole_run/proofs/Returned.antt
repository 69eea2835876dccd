-- The store after a return is well-formed, by what is known of the two cuts.
use Rattle.std.proofs.Common.{◌≡◌, ◌≢◌, ◌<◌, ◌+◌, ℕ, Bool, true, false, not, ◌&&◌, List, [], ◌∷◌, ◌++◌, map, filter, length, slice_get}
use Rattle.std.proofs.Common.{Option, Some, None, IsSomeAnd, Contains, All, unwrap_or, refl, sym, ap, ◌∙◌, subst, arith, inr}
use Rattle.std.specs.Prelude.{option_map}
use Rattle.std.specs.List.{AllByRecursion, AllZip, range_with_len}
use Rattle.std.specs.Option.{option_map_or}
use Rattle.std.proofs.lemmas.Bool.{false≢true}
use Rattle.std.proofs.lemmas.Option.{slice_get-map, slice_get-get_or, slice_get_within}
use Rattle.std.proofs.lemmas.List.Elements.{All-contains, All-from_recursion}
use Rattle.std.proofs.lemmas.List.FromFn.{get_or-range_with_len, length-range_with_len}
use Rattle.store_core.specs.declared.ids.VarId.{VarId}
use Rattle.store_core.specs.declared.ids.CellId.{CellId}
use Rattle.store_core.specs.declared.kind.VarKind.{VarKind}
use Rattle.store_core.specs.declared.kind.VarKind.TheVariants as var
use Rattle.store_core.specs.declared.value.Value.{Value}
use Rattle.store_core.specs.declared.value.Value.TheVariants as value
use Rattle.store_core.specs.Tables.{TypeEntry, VarEntry, var_at}
use Rattle.store_core.specs.Stores.{StoreMap, var_value, VarFits, Fits}
use Rattle.store_core.proofs.FittingLemmas.{IsSomeAnd-at}
use Rattle.routing_walks.specs.Regions.{IsPart}
use Rattle.routing_walks.specs.WellFormed.{IsWellFormed}
use Rattle.routing_walks.proofs.DecidedLemmas.{in_at}
use Rattle.store_logic.specs.Terms.{null}
use Rattle.store_exec.specs.declared.cause.Cause.TheVariants as cause
use Rattle.store_exec.specs.Steps.{variable}
use Rattle.store_exec.specs.Restricted.{live_part, restricted}
use Rattle.store_exec.specs.Cuts.{IsPointerVar, AtCut}
use Rattle.store_exec.specs.Failing.{IsBlank}
use Rattle.store_exec.proofs.RestrictedLemmas.{well_formed-at_cut}
use Rattle.pale_calls.specs.declared.class.VarClass.{VarClass}
use Rattle.pale_calls.specs.Classes.{class_of, holds_cell}
use Rattle.pale_typed.specs.declared.typed.CallParts.{CallParts}
use Rattle.pale_typed.specs.declared.typed.ProcEntry.{ProcEntry}
use Rattle.pale_typed.specs.Fitting.{kind_at, IsLike, CallFits, ProcFits}
use Rattle.hoare_split.specs.Picking.{class_at, is_pointer, is_listed, is_argument, those, numbered, is_left, is_awaited, is_lent}
use Rattle.hoare_split.specs.Calls.{handed_by}
use Rattle.hoare_split.specs.Cuts.{call_cut, plain_cut}
use Rattle.hoare_split.proofs.FittingVariableLemmas.{those-all}
use Rattle.whole_run.specs.Handing.{rest_store, returned_store}
use Rattle.whole_run.specs.Leaving.{CameOf, AreBlank}
use Rattle.whole_run.proofs.Zips.{zip_get}
use Rattle.whole_run.proofs.Handed.{some_same, kind_entry, value_there}
use Rattle.whole_run.proofs.HandedStart.{kept_in, variable_now, reached_before}
use Rattle.whole_run.proofs.ReturnedRoots.{listed_at, variable_some, some_variable, class_kind}
use Rattle.whole_run.proofs.ReturnedForm.{well_formed_after}

-- ---- variables that a test picks

number_there : (n k : ℕ) → k < n → slice_get (numbered (range_with_len 0 n)) k ≡ Some (record { 0 = k })
number_there n k low =
    let len : length (range_with_len 0 n) ≡ n = length-range_with_len 0 n in
    slice_get-map (λ (m : ℕ). record { 0 = m }) (range_with_len 0 n) k
    ∙ ap (option_map (λ (m : ℕ). record { 0 = m }))
    (slice_get-get_or (range_with_len 0 n) k 0 (omega (arith, low, len)) ∙ ap (λ (m : ℕ). Some m) (get_or-range_with_len 0 n k 0 low ∙ (omega arith)))

-- a variable of the table for which the test holds is picked
pub picked : (test : VarClass → VarId → Bool) (vars : List VarEntry) (v : VarId) (kind : VarKind) → kind_at vars v ≡ Some kind →
    test (class_at vars v) v ≡ true → Contains (those test vars) v
picked test vars v kind known is =
    let e = kind_entry vars v kind known in
    kept_in (λ (w : VarId). test (class_at vars w) w) (numbered (range_with_len 0 (length vars))) v is
    (in_at (numbered (range_with_len 0 (length vars))) v.0 v (number_there (length vars) v.0 (slice_get_within vars v.0 e.0 e.1)))

-- and for one that is picked the test holds
pub picked_by : (test : VarClass → VarId → Bool) (vars : List VarEntry) (v : VarId) → Contains (those test vars) v → test (class_at vars v) v ≡ true
picked_by test vars v m = All-contains (λ w. test (class_at vars w) w ≡ true) (those test vars) v
    (All-from_recursion (λ w. test (class_at vars w) w ≡ true) (those test vars) (those-all vars (λ w. test (class_at vars w) w ≡ true) test (λ w is. is))) m

-- ---- null

blank_cell : (y : Value) (c : CellId) → IsBlank y → y ≡ value.Cell (Some c) → ⊥
blank_cell (value.Bool truth) c blank e = cc
blank_cell (value.Cell d) c blank e = let is : d ≡ Some c = cc in let none : d ≡ None = blank in absurd cc
blank_cell (value.Cells cells) c blank e = blank

blank_null : (s : StoreMap) (kind : VarKind) (y : Value) → holds_cell (class_of kind) ≡ true → VarFits s kind y → IsBlank y → y ≡ null
blank_null s var.Bool y h fits blank = absurd (false≢true h)
blank_null s (var.Data ty) (value.Bool b) h fits blank = absurd fits
blank_null s (var.Data ty) (value.Cell c) h fits blank = ap (λ o. value.Cell o) blank
blank_null s (var.Data ty) (value.Cells cs) h fits blank = absurd fits
blank_null s (var.Pointer ty) (value.Bool b) h fits blank = absurd fits
blank_null s (var.Pointer ty) (value.Cell c) h fits blank = ap (λ o. value.Cell o) blank
blank_null s (var.Pointer ty) (value.Cells cs) h fits blank = absurd fits
blank_null s (var.LogicSet ty) y h fits blank = absurd (false≢true h)
blank_null s var.LogicBool y h fits blank = absurd (false≢true h)

pub part_cell : (s : StoreMap) (y : Value) (c : CellId) → live_part s y ≡ value.Cell (Some c) → y ≡ value.Cell (Some c)
part_cell s (value.Bool truth) c e = absurd cc
part_cell s (value.Cell d) c e = e
part_cell s (value.Cells cells) c e = absurd cc

pointer_class : (kind : VarKind) → is_pointer (class_of kind) ≡ true → IsPointerVar kind
pointer_class var.Bool h = absurd (false≢true h)
pointer_class (var.Data ty) h = absurd (false≢true h)
pointer_class (var.Pointer ty) h = tt
pointer_class (var.LogicSet ty) h = absurd (false≢true h)
pointer_class var.LogicBool h = absurd (false≢true h)

pub and_true : (x y : Bool) → x ≡ true → y ≡ true → (x && y) ≡ true
and_true true y hi also = also
and_true false y hi also = hi

pub right_of : (x y : Bool) → (x && y) ≡ true → y ≡ true
right_of true y is = is
right_of false y is = absurd (false≢true is)

not_false : (x : Bool) → x ≡ false → not x ≡ true
not_false x is = ap not is

module _ (types : List TypeEntry) (procs : List ProcEntry) (vars : List VarEntry) (callee : ProcEntry) (call : CallParts) (line last : ℕ) (s x : StoreMap)
    (cells : List CellId) (fits : CallFits types procs vars call) (same : fits.callee ≡ callee) (proc : ProcFits types procs callee)
    (fit : Fits types vars s) (none : AtCut types vars (call_cut procs vars line call) s None) (awaits : AreBlank s (those (is_awaited call) vars))
    (part : IsPart types vars (restricted s) (handed_by vars call.args) cells)
    (exit_fit : Fits types callee.vars x) (exit_none : AtCut types callee.vars (plain_cut last callee.proc.post) x None)
    (leaves : AreBlank x (those (is_left callee.proc) callee.vars)) (came : CameOf (restricted s) cells (restricted x)) where
  abbrev r : StoreMap
  r = restricted s

  abbrev t : StoreMap
  t = restricted x

  pub like : AllZip (IsLike vars callee.vars) call.results callee.proc.results
  like = subst (λ (e : ProcEntry). AllZip (IsLike vars e.vars) call.results e.proc.results) same fits.results

  blank_at : (store : StoreMap) (test : VarClass → VarId → Bool) (table : List VarEntry) → AreBlank store (those test table) → (v : VarId) (kind : VarKind) →
      kind_at table v ≡ Some kind → test (class_at table v) v ≡ true → (y : Value) × (var_value store v ≡ Some y) × IsBlank y
  blank_at store test table all v kind known is =
      IsSomeAnd-at (var_value store v) IsBlank (All-contains (λ w. IsSomeAnd (var_value store w) IsBlank) (those test table) v all
      (picked test table v kind known is))

  pub left : (u : VarId) (kind : VarKind) → kind_at callee.vars u ≡ Some kind → holds_cell (class_of kind) ≡ true → is_listed callee.proc.results u ≡ false →
      variable t u ≡ null
  left u kind known holds unlisted =
      let got = blank_at x (is_left callee.proc) callee.vars leaves u kind known
      (and_true (holds_cell (class_at callee.vars u)) (not (is_listed callee.proc.results u)) (ap holds_cell (class_kind callee.vars u kind known) ∙ holds)
      (not_false (is_listed callee.proc.results u) unlisted)) in
      let e = kind_entry callee.vars u kind known in
      let y = value_there x callee.vars x.vars u.0 e.0 exit_fit.values e.1 in
      let one : y.0 ≡ got.0 = some_same y.0 got.0 (sym y.1 ∙ got.1) in
      variable_now x u ∙ ap (live_part x) (some_variable x u got.0 got.1
      ∙ blank_null x kind got.0 holds (subst (VarFits x kind) one (subst (λ k. VarFits x k y.0) e.2 y.2)) got.2)

  pub awaited : (v : VarId) (c : CellId) → is_listed call.results v ≡ true → is_argument call.args v ≡ false → variable r v ≡ value.Cell (Some c) → ⊥
  awaited v c listed free is =
      let at = listed_at call.results v listed in
      let w = zip_get (IsLike vars callee.vars) call.results callee.proc.results at.0 v like at.1 in
      let got = blank_at s (is_awaited call) vars awaits v w.2.kind w.2.own
      (and_true (is_listed call.results v) (not (is_argument call.args v)) listed (not_false (is_argument call.args v) free)) in
      blank_cell got.0 c got.2 (part_cell s got.0 c (ap (live_part s) (sym (some_variable s v got.0 got.1)) ∙ sym (variable_now s v) ∙ is))

  pub outer : (v : VarId) (kind : VarKind) (c : CellId) → kind_at vars v ≡ Some kind → is_pointer (class_of kind) ≡ true → is_argument call.args v ≡ false →
      variable r v ≡ value.Cell (Some c) → Contains cells c → ⊥
  outer v kind c known pointer free is m =
      let e = kind_entry vars v kind known in
      none cause.Escape (record {
        var = v;
        cell = c;
        points = record {
          pointer = subst (λ (o : Option VarEntry). IsSomeAnd o (λ (y : VarEntry). IsPointerVar y.kind)) (sym e.1)
              (subst IsPointerVar (sym e.2) (pointer_class kind pointer));
          names = variable_some s v c (part_cell s (variable s v) c (sym (variable_now s v) ∙ is));
        };
        wrong_side = inr (
          λ inside. false≢true (sym free ∙ right_of (is_pointer (class_at vars v)) (is_argument call.args v) (picked_by (is_lent call) vars v inside)),
          reached_before s types vars (handed_by vars call.args) c ((part.members c).0 m),
        );
      })

  pub wf : IsWellFormed types vars r
  wf = well_formed-at_cut types vars s fit (call_cut procs vars line call) none

  pub exit_wf : IsWellFormed types callee.vars t
  exit_wf = well_formed-at_cut types callee.vars x exit_fit (plain_cut last callee.proc.post) exit_none

  pub returned_well_formed : IsWellFormed types vars (returned_store vars call callee.proc.results (rest_store r cells) t)
  returned_well_formed = well_formed_after types vars callee call r cells t like fits.results_once proc.in_order wf part exit_wf came left awaited outer
