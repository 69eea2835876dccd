-- From wherever a whole run may stand a step leads on.
use Rattle.std.proofs.Common.{◌≡◌, inl, inr, ℕ, Bool, List, [], ◌∷◌, ◌++◌, Option, Some, None, Ok, Err, if◌then◌else◌, slice_get, refl, ap, subst}
use Rattle.std.specs.List.{AllByRecursion}
use Rattle.store_core.specs.declared.ids.VarId.{VarId}
use Rattle.store_core.specs.Tables.{TypeEntry, VarEntry}
use Rattle.store_core.specs.Stores.{StoreMap, Fits}
use Rattle.routing_walks.proofs.DecidedStores.{part_of}
use Rattle.store_logic.specs.declared.act.Act.{Act}
use Rattle.store_exec.specs.declared.cause.Cause.{Cause}
use Rattle.store_exec.specs.declared.code.Item.{Item}
use Rattle.store_exec.specs.declared.code.Item.TheVariants as item
use Rattle.store_exec.specs.declared.code.Code.{Code, roll-Code, out-roll-Code}
use Rattle.store_exec.specs.declared.code.Tail.TheVariants as tail
use Rattle.store_exec.specs.declared.code.Tail.TheOpen.{Code-F}
use Rattle.store_exec.specs.declared.code.Tail.{Tail}
use Rattle.store_exec.specs.declared.triple.Cut.{Cut}
use Rattle.store_exec.specs.Steps.{truth_of}
use Rattle.store_exec.specs.Runs.{Ending, Does, RunsItems}
use Rattle.store_exec.specs.Restricted.{restricted}
use Rattle.store_exec.specs.Cuts.{AtCut}
use Rattle.store_exec.specs.Fits.{ItemsFit}
use Rattle.store_exec.proofs.CodeLemmas.{code-cut}
use Rattle.store_exec.proofs.ItemsKeepLemmas.{items-keep}
use Rattle.store_exec.proofs.KeepLemmas.{IsWell}
use Rattle.store_exec.proofs.RunLemmas.{RunsItem-Do}
use Rattle.store_ends.proofs.CutLemmas.{cut-settled}
use Rattle.store_ends.proofs.EndLemmas.{code-leads}
use Rattle.pale_calls.specs.declared.class.VarClass.{VarClass}
use Rattle.pale_text.specs.declared.place.Pos.{Pos}
use Rattle.pale_typed.specs.declared.typed.CallParts.{CallParts}
use Rattle.pale_typed.specs.declared.typed.ProcEntry.{ProcEntry}
use Rattle.pale_typed.specs.declared.typed.Stmt.{Stmt, out-Stmt}
use Rattle.pale_typed.specs.declared.typed.Stmt.TheOpen.{Stmt-F}
use Rattle.pale_typed.specs.TypedPrograms.{TypedProgram}
use Rattle.pale_typed.specs.Fitting.{StatementFits, StatementFitsNode, ProgramFits}
use Rattle.hoare_split.specs.Picking.{those, is_awaited, is_left}
use Rattle.hoare_split.specs.Settings.{settings}
use Rattle.hoare_split.specs.Calls.{handed_by}
use Rattle.hoare_split.specs.Cuts.{plain_cut, call_cut}
use Rattle.hoare_split.proofs.FittingVariableLemmas.{left-program, settings-fit}
use Rattle.hoare_split.proofs.FittingClaimLemmas.{PutsFit, call-settings}
use Rattle.whole_run.specs.States.{Frame, Waiting, runs, exited, Turn, goes, fails}
use Rattle.whole_run.specs.Handing.{handed_store, rest_store}
use Rattle.whole_run.specs.Turns.{from_ending, from_truth, on_with, Arrives, AfterSettings, Begins, TakesForm, Exits, Takes, behind_cut}
use Rattle.whole_run.proofs.Blocks.{form_fits}
use Rattle.whole_run.proofs.AnswerSettings.{all_end}

-- ---- parts of steps

-- items end, as each code leads somewhere
items_end : (types : List TypeEntry) (items : List Item) (s : StoreMap) → (end : Ending) × RunsItems types items s end
items_end types items s =
    let leads = code-leads types code s in
    elim ((code-cut types code 0 ends s leads.0).0 leads.1) as (λ _. (end : Ending) × RunsItems types items s end) [
      | inl (t, ran, is) ↦ (Ok t, subst (λ (xs : List Item). RunsItems types xs s (Ok t)) own ran)
      | inr (fault, ran, is) ↦ (Err fault, subst (λ (xs : List Item). RunsItems types xs s (Err fault)) own ran)
    ]
  where
    z : Code-F Tail Code
    z = record { items = items; tail = tail.Cut 0 }

    code : Code
    code = roll-Code z

    ends : code.tail ≡ tail.Cut 0
    ends = ap (λ (x : Code-F Tail Code). x.tail) (out-roll-Code z)

    own : code.items ≡ items
    own = ap (λ (x : Code-F Tail Code). x.items) (out-roll-Code z)

act_end : (types : List TypeEntry) (line : ℕ) (s : StoreMap) (a : Act) → (end : Ending) × Does types line s a end
act_end types line s a = let end = items_end types (item.Do line a ∷ []) s in by end.0 end.1
  where
    by : (end : Ending) → RunsItems types (item.Do line a ∷ []) s end → (own : Ending) × Does types line s a own
    by end (inl (t, ran, is)) = (Ok t, (RunsItem-Do types line a s (Ok t)).0 ran)
    by end (inr (fault, ran, is)) = (Err fault, (RunsItem-Do types line a s (Err fault)).0 ran)

-- settings to null or false end in a store that fits, as the one before them
settings_end : (types : List TypeEntry) (vars : List VarEntry) (test : VarClass → VarId → Bool) (line : ℕ) (s : StoreMap) → IsWell types vars s →
    ItemsFit types vars (settings vars test line) → (u : StoreMap) × RunsItems types (settings vars test line) s (Ok u) × Fits types vars u
settings_end types vars test line s well fit = let end = items_end types (settings vars test line) s in by end.0 end.1
  where
    by : (end : Ending) → RunsItems types (settings vars test line) s end →
        (u : StoreMap) × RunsItems types (settings vars test line) s (Ok u) × Fits types vars u
    by (Ok u) ran = let after = items-keep types vars (settings vars test line) s u well fit ran in (u, ran, (after.well).fits)
    by (Err fault) ran = absurd (all_end types vars line (those test vars) s fault ran)

-- a store that fits arrives at a cut: the run goes on, or it fails
arrives_end : (types : List TypeEntry) (vars : List VarEntry) (s : StoreMap) (cut : Cut) (Next : StoreMap → Turn → Type 0) → Fits types vars s →
    ((turn : Turn) × Next (restricted s) turn) → (turn : Turn) × Arrives types vars s cut Next turn
arrives_end types vars s cut Next fits on = let first = cut-settled types vars s cut fits in by first.0 first.1
  where
    by : (why : Option Cause) → AtCut types vars cut s why → (turn : Turn) × Arrives types vars s cut Next turn
    by None none = (on.0, inl (none, on.1))
    by (Some why) first = (fails why cut.line, inr (why, first, refl))

-- ---- steps

module _ (puts : PutsFit) (program : TypedProgram) (fits : ProgramFits program) (entry : ProcEntry) (waiting : List Waiting) where
  abbrev types : List TypeEntry
  types = program.types

  abbrev procs : List ProcEntry
  procs = program.procs

  abbrev vars : List VarEntry
  vars = entry.vars

  abbrev Fit : Stmt → Type 0
  Fit = StatementFits types procs vars

  abbrev Node : Stmt-F Stmt → Type 0
  Node = StatementFitsNode types procs vars Stmt (λ s. s) Fit

  -- the callee is there, and data fields reach finitely many cells
  begins_end : (call : CallParts) (f : Frame) (callee : ProcEntry) → slice_get procs call.callee ≡ Some callee →
      (turn : Turn) × Begins program call f waiting turn
  begins_end call f callee there =
      let part = part_of types f.entry.vars f.store (handed_by f.entry.vars call.args) in (
        goes (runs (record { entry = callee; store = handed_store callee call f.store part.0; left = callee.proc.body })
            (record { call = call; caller = record f { store = rest_store f.store part.0 } } ∷ waiting)),
        (callee, part.0, there, part.1, refl),
      )

  call_end : (place : Pos) (call : CallParts) (left : List Stmt) (s : StoreMap) → Node (Stmt-F.Call place call) → IsWell types vars s →
      (turn : Turn) × AfterSettings types (settings vars (is_awaited call) place.line) s (λ u.
      Arrives types vars u (call_cut procs vars place.line call)
      (λ t after. Begins program call (record { entry = entry; store = t; left = left }) waiting after) turn)
  call_end place call left s own well =
      let set = settings_end types vars (is_awaited call) place.line s well (call-settings puts types procs fits.procs vars call own place.line) in
      let end = arrives_end types vars set.0 (call_cut procs vars place.line call)
      (λ t after. Begins program call (record { entry = entry; store = t; left = left }) waiting after) set.2
      (begins_end call (record { entry = entry; store = restricted set.0; left = left }) own.callee own.there) in
      (end.0, (set.0, set.1, end.1))

  exit_end : (s : StoreMap) → IsWell types vars s → (turn : Turn) × Exits program entry waiting s turn
  exit_end s well =
      let set = settings_end types vars (is_left entry.proc) entry.proc.last s well
      (settings-fit types vars (is_left entry.proc) entry.proc.last (left-program vars entry.proc)) in
      let end = arrives_end types vars set.0 (plain_cut entry.proc.last entry.proc.post) (λ t after. after ≡ goes (exited t waiting)) set.2
      (goes (exited (restricted set.0) waiting), refl) in
      (end.0, (set.0, set.1, end.1))

  form_end : (y : Stmt-F Stmt) (left : List Stmt) (s : StoreMap) (Later : Turn → Type 0) → Node y → IsWell types vars s →
      ((turn : Turn) × Later turn) → (turn : Turn) × TakesForm program entry waiting s left Later y turn
  form_end Stmt-F.Skip left s Later own well later = later
  form_end (Stmt-F.Do line a) left s Later own well later =
      let end = act_end types line s a in (from_ending (on_with entry waiting left) end.0, (end.0, end.1, refl))
  form_end (Stmt-F.If line c first other) left s Later own well later =
      (from_truth line (λ truth. on_with entry waiting ((if truth then first else other) ++ left) s) (truth_of s c), refl)
  form_end (Stmt-F.While place c invariant body) left s Later own well later = arrives_end types vars s (plain_cut place.line invariant)
      (λ t after. after ≡ goes (on_with entry waiting (behind_cut place c invariant body ∷ left) t)) well.fits
      (goes (on_with entry waiting (behind_cut place c invariant body ∷ left) (restricted s)), refl)
  form_end (Stmt-F.Split place a) left s Later own well later = arrives_end types vars s (plain_cut place.line a)
      (λ t after. after ≡ goes (on_with entry waiting left t)) well.fits (goes (on_with entry waiting left (restricted s)), refl)
  form_end (Stmt-F.Call place call) left s Later own well later = call_end place call left s own well

  -- one step of a procedure
  pub takes_end : (left : List Stmt) (s : StoreMap) → AllByRecursion Fit left → IsWell types vars s →
      (turn : Turn) × Takes program entry waiting s left turn
  takes_end [] s fit well = exit_end s well
  takes_end (x ∷ left) s fit well = form_end (out-Stmt x) left s (Takes program entry waiting s left) (form_fits types procs vars x fit.0) well
      (takes_end left s fit.1 well)
