-- The start of the triple after a call holds after the return, where the claims of the two cuts are met.
use Rattle.std.proofs.Common.{◌≡◌, ◌≢◌, inl, inr, ℕ, Bool, true, false, not, IsTrue, ◌&&◌, ◌||◌, List, [], ◌∷◌, ◌++◌, map, slice_get}
use Rattle.std.proofs.Common.{Option, Some, None, IsSome, IsSomeAnd, IfSome, Contains, All, if◌then◌else◌, unwrap_or, refl, sym, ap, ◌∙◌, subst}
use Rattle.std.specs.Prelude.{option_map}
use Rattle.std.specs.List.{AllByRecursion, AllZip}
use Rattle.std.specs.Option.{option_map_or}
use Rattle.std.proofs.lemmas.Bool.{false≢true}
use Rattle.std.proofs.lemmas.List.Elements.{All-from_recursion, recursion_from_All}
use Rattle.store_core.specs.declared.ids.VarId.{VarId}
use Rattle.store_core.specs.declared.ids.CellId.{CellId}
use Rattle.store_core.specs.declared.kind.VarKind.{VarKind}
use Rattle.store_core.specs.declared.kind.VarKind.TheVariants as var
use Rattle.store_core.specs.declared.value.Value.{Value}
use Rattle.store_core.specs.declared.value.Value.TheVariants as value
use Rattle.store_core.specs.Tables.{TypeEntry, VarEntry, var_at}
use Rattle.store_core.specs.Stores.{StoreMap, CellEntry, IsLive, cell_of, var_value, VarFits, Fits}
use Rattle.store_core.proofs.AboveLemmas.{live_below}
use Rattle.store_core.proofs.FittingLemmas.{IfSome-at}
use Rattle.routing_walks.specs.Sets.{Lists}
use Rattle.routing_walks.specs.Regions.{store_on, IsReachedFrom, IsPart, IsRest}
use Rattle.routing_walks.specs.Reaching.{IsUnreached}
use Rattle.routing_walks.specs.WellFormed.{SetHoldsLive, IsWellFormed}
use Rattle.routing_walks.specs.Pieces.{piece_on}
use Rattle.routing_walks.proofs.DecidedLemmas.{decided_in, in_at}
use Rattle.routing_walks.proofs.DecidedWalks.{decided_same_cell}
use Rattle.routing_walks.proofs.PieceLemmas.{piece_on-IsOn}
use Rattle.routing_walks.proofs.RegionLemmas.{store_on-IsOn, live_on}
use Rattle.store_logic.specs.declared.assertion.Assertion.{Assertion}
use Rattle.store_logic.specs.declared.assertion.Assertion.TheVariants as assertion
use Rattle.store_logic.specs.declared.region.Region.TheVariants as region
use Rattle.store_logic.specs.Terms.{null, outside}
use Rattle.store_logic.specs.Satisfaction.{SatAll}
use Rattle.store_logic.specs.Sorts.{Sort, var_sort}
use Rattle.store_logic.proofs.RegionLemmas.{Sat-on}
use Rattle.store_exec.specs.Steps.{variable}
use Rattle.store_exec.specs.Restricted.{live_part, restricted}
use Rattle.store_exec.specs.Cuts.{IsMet, AreMet, AtCut}
use Rattle.store_exec.specs.Failing.{StartHolds}
use Rattle.pale_calls.specs.declared.actual.Actual.{Actual}
use Rattle.pale_calls.specs.declared.actual.Actual.TheVariants as actual
use Rattle.pale_calls.specs.Classes.{class_of, holds_cell, holds_truth, is_logic}
use Rattle.pale_typed.specs.declared.typed.CallParts.{CallParts}
use Rattle.pale_typed.specs.declared.typed.ProcEntry.{ProcEntry}
use Rattle.pale_typed.specs.Fitting.{kind_at, IsOfClass, IsLogicVariable, IsProgramVariable, IsLike, ActualFits, IsUntouched, CallFits, ProcFits}
use Rattle.pale_typed.specs.Fitting.{cell_in, cells_in}
use Rattle.hoare_split.specs.Picking.{class_at, is_pointer, is_listed, is_argument, is_spent, those, is_left, is_awaited}
use Rattle.hoare_fill.specs.Putting.{beside, actual_for}
use Rattle.hoare_split.specs.Calls.{handed_by, returned_by, post_for, post_of, on_all, on_part_and_rest, pre_of}
use Rattle.hoare_split.specs.Cuts.{call_cut, plain_cut}
use Rattle.hoare_split.specs.Starts.{call_start}
use Rattle.whole_run.specs.Handing.{handed_value, handed_store, rest_store, value_after, beside_rest, returned_store}
use Rattle.whole_run.specs.Leaving.{CameOf, AreBlank, KeepsLogic}
use Rattle.whole_run.proofs.Zips.{zip_as, zip_get, zip_at, At, zip_map, zip_and}
use Rattle.whole_run.proofs.Holding.{Alike, IsNoSet, IsHeld, satisfied_too}
use Rattle.whole_run.proofs.Handed.{some_same, kind_entry, value_there, zip_both, all_left, all_right, in_cells, logics_given, IsGiven}
use Rattle.whole_run.proofs.HandedStart.{variable_now, reached_before, reached_now, put_found, no_set_at, no_set_truth}
use Rattle.whole_run.proofs.Beside.{of_exit, After, is_result, is_null, stays}
use Rattle.whole_run.proofs.ReturnedRoots.{listed_argument, at_listed, some_variable, class_kind, spent_cell, an_argument, after_is, result_value}
use Rattle.whole_run.proofs.ReturnedRoots.{together, never_both}
use Rattle.whole_run.proofs.ReturnedRoots.{piece_live, in_piece, others, none_live}
use Rattle.whole_run.proofs.Returned as returned
use Rattle.whole_run.proofs.ReturnedStart.{stands_after, nulls_after, exit_cells, part_after, pointers_after, reached_live, live_reached, class_there}
use Rattle.whole_run.proofs.ReturnedClaims.{alike_same, program_part, bool_part, alike_logic, alike_rest, same_cells}

logic_no_cell : (kind : VarKind) → IsTrue (is_logic (class_of kind)) → holds_cell (class_of kind) ≡ true → ⊥
logic_no_cell var.Bool logic held = false≢true logic
logic_no_cell (var.Data ty) logic held = false≢true logic
logic_no_cell (var.Pointer ty) logic held = false≢true logic
logic_no_cell (var.LogicSet ty) logic held = false≢true held
logic_no_cell var.LogicBool logic held = false≢true held

logic_no_program : (kind : VarKind) → IsTrue (is_logic (class_of kind)) → IsTrue (not (is_logic (class_of kind))) → ⊥
logic_no_program var.Bool logic known = false≢true logic
logic_no_program (var.Data ty) logic known = false≢true logic
logic_no_program (var.Pointer ty) logic known = false≢true logic
logic_no_program (var.LogicSet ty) logic known = false≢true known
logic_no_program var.LogicBool logic known = false≢true known

-- the kind of a variable of a class
kind_of_class : (C : VarKind → Type 0) (table : List VarEntry) (v : VarId) (kind : VarKind) → kind_at table v ≡ Some kind →
    IsSomeAnd (kind_at table v) C → C kind
kind_of_class C table v kind known h = let k : C kind = subst (λ (o : Option VarKind). IsSomeAnd o C) known h in k

module _ (types : List TypeEntry) (procs : List ProcEntry) (vars : List VarEntry) (callee : ProcEntry) (call : CallParts) (line last : ℕ) (s x : StoreMap)
    (cells : List CellId) (fits : CallFits types procs vars call) (same : fits.callee ≡ callee) (proc : ProcFits types procs callee)
    (fit : Fits types vars s) (none : AtCut types vars (call_cut procs vars line call) s None) (awaits : AreBlank s (those (is_awaited call) vars))
    (part : IsPart types vars (restricted s) (handed_by vars call.args) cells)
    (exit_fit : Fits types callee.vars x) (exit_none : AtCut types callee.vars (plain_cut last callee.proc.post) x None)
    (leaves : AreBlank x (those (is_left callee.proc) callee.vars)) (came : CameOf (restricted s) cells (restricted x))
    (there : slice_get procs call.callee ≡ Some callee)
    (kept : KeepsLogic callee.proc.logics (handed_store callee call (restricted s) cells) (restricted x)) where
  abbrev r : StoreMap
  r = restricted s

  abbrev t : StoreMap
  t = restricted x

  abbrev res : List VarId
  res = callee.proc.results

  abbrev rest : StoreMap
  rest = rest_store r cells

  abbrev u' : StoreMap
  u' = beside_rest vars call res rest t

  abbrev w : StoreMap
  w = restricted u'

  abbrev value_of : VarId → Value
  value_of v = value_after vars call res rest t v

  like : AllZip (IsLike vars callee.vars) call.results callee.proc.results
  like = returned.like types procs vars callee call line last s x cells fits same proc fit none awaits part exit_fit exit_none leaves came

  wf : IsWellFormed types vars r
  wf = returned.wf types procs vars callee call line last s x cells fits same proc fit none awaits part exit_fit exit_none leaves came

  exit_wf : IsWellFormed types callee.vars t
  exit_wf = returned.exit_wf types procs vars callee call line last s x cells fits same proc fit none awaits part exit_fit exit_none leaves came

  left : (u : VarId) (kind : VarKind) → kind_at callee.vars u ≡ Some kind → holds_cell (class_of kind) ≡ true → is_listed callee.proc.results u ≡ false →
      variable t u ≡ null
  left = returned.left types procs vars callee call line last s x cells fits same proc fit none awaits part exit_fit exit_none leaves came

  awaited : (v : VarId) (c : CellId) → is_listed call.results v ≡ true → is_argument call.args v ≡ false → variable r v ≡ value.Cell (Some c) → ⊥
  awaited = returned.awaited types procs vars callee call line last s x cells fits same proc fit none awaits part exit_fit exit_none leaves came

  outer : (v : VarId) (kind : VarKind) (c : CellId) → kind_at vars v ≡ Some kind → is_pointer (class_of kind) ≡ true → is_argument call.args v ≡ false →
      variable r v ≡ value.Cell (Some c) → Contains cells c → ⊥
  outer = returned.outer types procs vars callee call line last s x cells fits same proc fit none awaits part exit_fit exit_none leaves came

  args : AllZip (ActualFits vars callee.vars) call.args callee.proc.params
  args = subst (λ (e : ProcEntry). AllZip (ActualFits vars e.vars) call.args e.proc.params) same fits.args

  logics : AllZip (ActualFits vars callee.vars) call.logics callee.proc.logics
  logics = subst (λ (e : ProcEntry). AllZip (ActualFits vars e.vars) call.logics e.proc.logics) same fits.logics

  abbrev L : List CellId
  L = (exit_cells types vars callee call r cells t like fits.results_once proc.in_order wf part exit_wf came left awaited outer).0

  abbrev p : StoreMap
  p = store_on w L

  lists : Lists (IsLive t) L
  lists = (exit_cells types vars callee call r cells t like fits.results_once proc.in_order wf part exit_wf came left awaited outer).1

  live_both : (c : CellId) → IsLive p c → IsLive x c × IsLive u' c
  live_both c live =
      let both = live_on L w p (store_on-IsOn w L) c live in ((lists.members c).0 both.0, both.1)

  handed_in : (c : CellId) → IsLive x c → IsLive r c → Contains cells c
  handed_in c there_live here = came.handed c there_live (live_below r c wf.fits.above here)

  now_is : (v : VarId) (kind : VarKind) → kind_at vars v ≡ Some kind → variable w v ≡ live_part u' (value_of v)
  now_is v kind known = variable_now u' v ∙ ap (live_part u') (stands_after types vars callee call r cells t like fits.results_once proc.in_order wf part
      exit_wf came left awaited outer v kind known)

  -- ---- what is put in for the callee's variables

  abbrev Q : Actual → VarId → Type 0
  Q a u = (sort : Sort) → option_map (λ (e : VarEntry). var_sort e.kind) (var_at callee.vars u) ≡ Some sort → IsHeld p a (variable x u) sort

  exit_value : (u : VarId) (kind : VarKind) → kind_at callee.vars u ≡ Some kind → VarFits x kind (variable x u)
  exit_value u kind known =
      let e = kind_entry callee.vars u kind known in
      let y = value_there x callee.vars x.vars u.0 e.0 exit_fit.values e.1 in
      subst (VarFits x kind) (sym (some_variable x u y.0 y.1)) (subst (λ k. VarFits x k y.0) e.2 y.2)

  result_held : (k : ℕ) (v u : VarId) → slice_get call.results k ≡ Some v → slice_get res k ≡ Some u → IsLike vars callee.vars v u →
      IsProgramVariable callee.vars u → Q (actual.Var v) u
  result_held k v u one other own known sort is =
      let program = kind_of_class (λ kind. IsTrue (not (is_logic (class_of kind)))) callee.vars u own.kind own.other known in
      let fits_x = exit_value u own.kind own.other in
      let plain_x : variable t u ≡ variable x u = variable_now x u ∙ program_part x x own.kind (variable x u) program fits_x in
      let value_is : value_of v ≡ variable x u = result_value types vars callee call r cells t like fits.results_once proc.in_order wf part exit_wf came
      left awaited outer k v u (value_of v) one other (after_is types vars callee call r cells t like fits.results_once proc.in_order wf part exit_wf
      came left awaited outer v) ∙ plain_x in
      let now : variable w v ≡ variable x u = now_is v own.kind own.own ∙ ap (live_part u') value_is ∙ program_part u' x own.kind (variable x u) program
      fits_x in
      subst (λ y. Alike p y (variable x u)) (sym now) (alike_same p (variable x u))

  results_known : AllByRecursion (IsProgramVariable callee.vars) res
  results_known = all_right (IsProgramVariable callee.vars) callee.proc.params res
      (all_left (IsProgramVariable callee.vars) (callee.proc.params ++ res) callee.proc.locals proc.program_variables)

  results_put : AllZip Q (map (λ v. actual.Var v) call.results) res
  results_put = zip_map (λ v. actual.Var v) Q call.results res
      (zip_as (λ v u. At (IsLike vars callee.vars) call.results res v u × IsProgramVariable callee.vars u) (λ v u. Q (actual.Var v) u)
      (λ v u h. result_held h.0.0 v u h.0.1 h.0.2 h.0.3 h.1) call.results res
      (zip_and (At (IsLike vars callee.vars) call.results res) (IsProgramVariable callee.vars) call.results res
      (zip_at (IsLike vars callee.vars) call.results res like) results_known))

  stays_logic : (v : VarId) (kind : VarKind) (y : Value) → kind_at vars v ≡ Some kind → IsTrue (is_logic (class_of kind)) → After vars call res rest t v y →
      y ≡ variable r v
  stays_logic v kind y known logic (is_result k u one other from) =
      let got = zip_get (λ (a u : VarId). IsLike vars callee.vars a u × IsProgramVariable callee.vars u) call.results res k v
      (zip_and (IsLike vars callee.vars) (IsProgramVariable callee.vars) call.results res like results_known) one in
      let own = got.2.0 in
      let program = kind_of_class (λ kind. IsTrue (not (is_logic (class_of kind)))) callee.vars got.0 own.kind own.other got.2.1 in
      let same_kind : own.kind ≡ kind = some_same own.kind kind (sym own.own ∙ known) in
      absurd (logic_no_program kind logic (subst (λ k. IsTrue (not (is_logic (class_of k)))) same_kind program))
  stays_logic v kind y known logic (is_null unlisted spent from) =
      absurd (logic_no_cell kind logic (sym (ap holds_cell (class_kind vars v kind known))
      ∙ spent_cell (holds_cell (class_at vars v)) (is_argument call.args v) (is_listed call.results v) spent))
  stays_logic v kind y known logic (stays unlisted unspent from) = from

  logic_held : (a : Actual) (u : VarId) → IsGiven vars callee call r cells args logics proc.in_order proc.program_variables proc.logic_variables a u →
      variable t u ≡ live_part t (variable (handed_store callee call r cells) u) →
      IsLogicVariable callee.vars u → Q a u
  logic_held (actual.Var v) u given keeps logic sort is =
      let own = given.0 in
      let is_logical = kind_of_class (λ kind. IsTrue (is_logic (class_of kind))) callee.vars u own.kind own.other logic in
      let e = kind_entry vars v own.kind own.own in
      let y0 = value_there r vars r.vars v.0 e.0 wf.fits.values e.1 in
      let stood : variable r v ≡ y0.0 = some_variable r v y0.0 y0.1 in
      let fits_r : VarFits r own.kind (variable r v) = subst (VarFits r own.kind) (sym stood) (subst (λ k. VarFits r k y0.0) e.2 y0.2) in
      let sets_r : SetHoldsLive r own.kind (variable r v) = subst (SetHoldsLive r own.kind) (sym stood) (subst (λ k. SetHoldsLive r k y0.0) e.2
      (IfSome-at (var_value r v) (SetHoldsLive r e.0.kind) y0.0 y0.1
      (IfSome-at (var_at vars v) (λ (z : VarEntry). IfSome (var_value r v) (SetHoldsLive r z.kind)) e.0 e.1 (wf.sets v)))) in
      let exit_is : live_part x (variable x u) ≡ live_part x (handed_value r cells (actual.Var v)) =
      sym (variable_now x u) ∙ keeps ∙ part_same (variable (handed_store callee call r cells) u)
      ∙ ap (live_part x) (some_variable (handed_store callee call r cells) u (handed_value r cells (actual.Var v)) given.1) in
      subst (λ y. Alike p y (variable x u))
      (sym (now_is v own.kind own.own ∙ ap (live_part u') (stays_logic v own.kind (value_of v) own.own is_logical
      (after_is types vars callee call r cells t like fits.results_once proc.in_order wf part exit_wf came left awaited outer v))))
      (alike_logic r cells x u' p live_both handed_in types own.kind (variable r v) (variable x u) is_logical fits_r sets_r exit_is)
    where
      part_same : (y : Value) → live_part t y ≡ live_part x y
      part_same (value.Bool b) = refl
      part_same (value.Cell c) = refl
      part_same (value.Cells cs) = refl
  logic_held actual.Null u given keeps logic sort is = absurd (both (kind_at callee.vars u) given.0 logic)
    where
      both : (o : Option VarKind) → IsSomeAnd o (λ kind. IsTrue (holds_cell (class_of kind))) → IsSomeAnd o (λ kind. IsTrue (is_logic (class_of kind))) → ⊥
      both None h k = h
      both (Some kind) h k = logic_no_cell kind k h
  logic_held (actual.Truth truth) u given keeps logic sort is =
      let handed_is = some_variable (handed_store callee call r cells) u (value.Bool truth) given.1 in
      let exit_is : live_part x (variable x u) ≡ value.Bool truth = sym (variable_now x u) ∙ keeps ∙ ap (live_part t) handed_is in
      (bool_part x (variable x u) truth exit_is, no_set_at (λ kind. IsTrue (holds_truth (class_of kind))) no_set_truth (var_at callee.vars u) sort given.0 is)

  logics_put : AllZip Q call.logics callee.proc.logics
  logics_put =
      let given = logics_given vars callee call r cells args logics proc.in_order proc.program_variables proc.logic_variables in
      zip_as (λ a u. (IsGiven vars callee call r cells args logics proc.in_order proc.program_variables proc.logic_variables a u ×
      (variable t u ≡ live_part t (variable (handed_store callee call r cells) u))) × IsLogicVariable callee.vars u) Q
      (λ a u h. logic_held a u h.0.0 h.0.1 h.1) call.logics callee.proc.logics
      (zip_and (λ a u. IsGiven vars callee call r cells args logics proc.in_order proc.program_variables proc.logic_variables a u ×
      (variable t u ≡ live_part t (variable (handed_store callee call r cells) u))) (IsLogicVariable callee.vars)
      call.logics callee.proc.logics
      (zip_and (IsGiven vars callee call r cells args logics proc.in_order proc.program_variables proc.logic_variables)
      (λ u. variable t u ≡ live_part t (variable (handed_store callee call r cells) u)) call.logics callee.proc.logics given kept)
      proc.logic_variables)

  -- ---- the claims

  p_cells : x.cells ≡ p.cells
  p_cells = same_cells x p (λ c. elim (decided_in decided_same_cell L c) [
    | inl m ↦ sym ((store_on-IsOn w L).inside c m ∙ of_exit vars call res rest t c ((lists.members c).0 m))
    | inr out ↦ none_live (cell_of x c) (λ live. out ((lists.members c).1 live)) ∙ sym ((store_on-IsOn w L).outside c out)
  ])

  post_there : SatAll types [] x outside callee.proc.post → SatAll types [] p outside (post_for call callee.proc)
  post_there sat =
      let moved : x ≡ record p { vars = x.vars; next = x.next } = λ i. record { cells = p_cells i; vars = x.vars; next = x.next } in
      (satisfied_too p x.vars x.next types callee.vars
      (beside res (map (λ v. actual.Var v) call.results) ++ beside callee.proc.logics call.logics) (Contains (res ++ callee.proc.logics)) callee.proc.post
      proc.post
      (λ u sort among is. put_found Q res callee.proc.logics (map (λ v. actual.Var v) call.results) call.logics results_put logics_put u among sort is)).1
      (subst (λ st. SatAll types [] st outside callee.proc.post) moved sat)

  abbrev R : List CellId
  R = (others types vars callee call r cells t like fits.results_once proc.in_order wf part exit_wf came left awaited outer).0

  outside_r : IsRest r cells R
  outside_r = (others types vars callee call r cells t like fits.results_once proc.in_order wf part exit_wf came left awaited outer).1

  rest_before : Lists (IsUnreached types vars s (handed_by vars call.args)) R
  rest_before = record {
    rising = outside_r.rising;
    members = λ d. (
      λ m. let h = (outside_r.members d).0 m in
          record { live = h.0; unreached = λ reached. h.1 ((part.members d).1 (reached_now s types vars (handed_by vars call.args) d reached)) },
      λ h. (outside_r.members d).1 (h.live, λ m. h.unreached (reached_before s types vars (handed_by vars call.args) d ((part.members d).0 m))),
    );
  }

  piece_is : (d : CellId) → Contains R d → IsLive u' d
  piece_is d m =
      let h = (outside_r.members d).0 m in
      let here = in_piece types vars callee call r cells t like fits.results_once proc.in_order wf part exit_wf came left awaited outer d h.0 h.1 in
      subst IsSome (sym ((together types vars callee call r cells t like fits.results_once proc.in_order wf part exit_wf came left awaited outer).of_one d
      here)) here

  rest_after : Lists (IsUnreached types vars w (returned_by vars call.results)) R
  rest_after = record {
    rising = outside_r.rising;
    members = λ d. (
      λ m. let h = (outside_r.members d).0 m in
          record {
            live = piece_is d m;
            unreached = λ reached. never_both types vars callee call r cells t like fits.results_once proc.in_order wf part exit_wf came left awaited outer
                d (reached_live types vars callee call r cells t like fits.results_once proc.in_order wf part exit_wf came left awaited outer d
                (reached_before u' types vars (returned_by vars call.results) d reached)) h.0 h.1;
          },
      λ h. elim ((together types vars callee call r cells t like fits.results_once proc.in_order wf part exit_wf came left awaited outer).of_either d
          h.live) [
            | inl here ↦ let both = piece_live types vars callee call r cells t like fits.results_once proc.in_order wf part exit_wf came left awaited outer d
                here in (outside_r.members d).1 (both.1, both.0)
            | inr far ↦ absurd (h.unreached (reached_now u' types vars (returned_by vars call.results) d
                (live_reached types vars callee call r cells t like fits.results_once proc.in_order wf part exit_wf came left awaited outer d far)))
          ],
    );
  }

  abbrev S : StoreMap
  S = store_on s R

  S_cells : S.cells ≡ (store_on w R).cells
  S_cells = same_cells S (store_on w R) (λ c. elim (decided_in decided_same_cell R c) [
    | inl m ↦
        let h = (outside_r.members c).0 m in
        let here = in_piece types vars callee call r cells t like fits.results_once proc.in_order wf part exit_wf came left awaited outer c h.0 h.1 in
        (store_on-IsOn s R).inside c m ∙ sym ((store_on-IsOn w R).inside c m ∙ (together types vars callee call r cells t like fits.results_once
        proc.in_order wf part exit_wf came left awaited outer).of_one c here ∙ piece_cell c m)
    | inr out ↦ (store_on-IsOn s R).outside c out ∙ sym ((store_on-IsOn w R).outside c out)
  ])
    where
      piece_cell : (c : CellId) → Contains R c → cell_of (piece_on r R) c ≡ cell_of r c
      piece_cell c m = (piece_on-IsOn R r).inside c m

  untouched_stays : (v : VarId) (kind : VarKind) (y : Value) → kind_at vars v ≡ Some kind → IsUntouched vars call v → After vars call res rest t v y → y ≡
      variable r v
  untouched_stays v kind y known free (is_result k u one other from) = absurd (free.no_result (in_at call.results k v one))
  untouched_stays v kind y known free (is_null unlisted spent from) =
      let at = listed_argument call.args v (an_argument (holds_cell (class_at vars v)) (is_argument call.args v) (is_listed call.results v) spent) in
      let held : holds_cell (class_of kind) ≡ true = sym (ap holds_cell (class_kind vars v kind known))
      ∙ spent_cell (holds_cell (class_at vars v)) (is_argument call.args v) (is_listed call.results v) spent in
      let alone : cell_in vars (actual.Var v) ≡ v ∷ [] =
      ap (λ (o : Option VarKind). if option_map_or (λ kind. holds_cell (class_of kind)) o false then v ∷ [] else []) known
      ∙ ap (λ (b : Bool). if b then v ∷ [] else []) held in
      absurd (free.no_cell (in_cells vars call.args at.0 v alone at.1))
  untouched_stays v kind y known free (stays unlisted unspent from) = from

  sort_kind : (v : VarId) (sort : Sort) → option_map (λ (e : VarEntry). var_sort e.kind) (var_at vars v) ≡ Some sort → (kind : VarKind) ×
      (kind_at vars v ≡ Some kind)
  sort_kind v sort is = of (var_at vars v) refl is
    where
      of : (o : Option VarEntry) → var_at vars v ≡ o → option_map (λ (e : VarEntry). var_sort e.kind) o ≡ Some sort → (kind : VarKind) ×
          (kind_at vars v ≡ Some kind)
      of None at e = let no : None ≡ Some sort = e in absurd cc
      of (Some entry) at e = (entry.kind, ap (option_map (λ (z : VarEntry). z.kind)) at)

  keep_held : (v : VarId) (sort : Sort) → IsUntouched vars call v → option_map (λ (e : VarEntry). var_sort e.kind) (var_at vars v) ≡ Some sort →
      Alike S (variable s v) (variable w v)
  keep_held v sort free is =
      let known = sort_kind v sort is in
      subst (Alike S (variable s v))
      (sym (now_is v known.0 known.1 ∙ ap (live_part u') (untouched_stays v known.0 (value_of v) known.1 free
      (after_is types vars callee call r cells t like fits.results_once proc.in_order wf part exit_wf came left awaited outer v) ∙ variable_now s v)))
      (alike_rest s u' R (λ c live. piece_is c (live_on R s S (store_on-IsOn s R) c live).0) (variable s v))

  keep_there : SatAll types [] S outside call.keep → SatAll types [] (store_on w R) outside call.keep
  keep_there sat =
      let put = (satisfied_too S S.vars S.next types vars [] (IsUntouched vars call) call.keep fits.keep (λ v sort free is. alike_same S (variable s v))).1
      sat in
      let own = (satisfied_too S w.vars w.next types vars [] (IsUntouched vars call) call.keep fits.keep keep_held).0 put in
      let moved : record S { vars = w.vars; next = w.next } ≡ store_on w R = λ i. record { cells = S_cells i; vars = w.vars; next = w.next } in
      subst (λ st. SatAll types [] st outside call.keep) moved own

  pub start_holds : AreMet types vars s (call_cut procs vars line call).asserts → AreMet types callee.vars x (plain_cut last callee.proc.post).asserts →
      StartHolds types vars (call_start procs vars call) w
  start_holds met exit_met =
      let claims = recursion_from_All (IsMet types vars s) (on_part_and_rest (handed_by vars call.args) (pre_of procs call) call.keep) met in
      let exits = recursion_from_All (IsMet types callee.vars x) (on_all callee.proc.post) exit_met in
      let on_s = (Sat-on types vars [] s outside call.keep (region.Rest (handed_by vars call.args)) R rest_before).0 claims.1.0 in
      let post_is = subst (λ (o : Option ProcEntry). SatAll types [] p outside (option_map_or (λ (e : ProcEntry). post_for call e.proc) o assertion.True))
      (sym there) (post_there exits.0) in
      record {
        nulls = nulls_after types vars callee call r cells t like fits.results_once proc.in_order wf part exit_wf came left awaited outer;
        pointers = pointers_after types vars callee call r cells t like fits.results_once proc.in_order wf part exit_wf came left awaited outer;
        claims = All-from_recursion (IsMet types vars w) (on_part_and_rest (returned_by vars call.results) (post_of procs call) call.keep) (
          (Sat-on types vars [] w outside (post_of procs call) (region.Part (returned_by vars call.results)) L
              (part_after types vars callee call r cells t like fits.results_once proc.in_order wf part exit_wf came left awaited outer)).1 post_is,
          ((Sat-on types vars [] w outside call.keep (region.Rest (returned_by vars call.results)) R rest_after).1 (keep_there on_s), tt),
        );
      }
