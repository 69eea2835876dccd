-- Whole runs don't fail when no triple fails.
use Rattle.std.proofs.Common.{◌≡◌, ℕ, zero, suc, List, [], ◌∷◌, ◌++◌, Some, Contains, slice_get, refl, sym, ap, ◌∙◌, subst}
use Rattle.std.specs.List.{AllByRecursion, AllZip}
use Rattle.store_core.specs.declared.ids.VarId.{VarId}
use Rattle.store_core.specs.declared.ids.CellId.{CellId}
use Rattle.store_core.specs.declared.value.Value.{Value}
use Rattle.store_core.specs.declared.value.Value.TheVariants as value
use Rattle.store_core.specs.Tables.{TypeEntry, VarEntry}
use Rattle.store_core.specs.Stores.{StoreMap, IsLive}
use Rattle.routing_walks.specs.WellFormed.{IsWellFormed}
use Rattle.routing_walks.proofs.FreshLemmas.{IsFresh-well_formed}
use Rattle.routing_walks.proofs.TreeLemmas.{IsInTree-live}
use Rattle.store_logic.proofs.ExpandingLists.{all-first, all-second}
use Rattle.store_exec.specs.declared.cause.Cause.{Cause}
use Rattle.store_exec.specs.declared.cause.Cause.TheVariants as cause
use Rattle.store_exec.specs.Steps.{variable}
use Rattle.store_exec.specs.Restricted.{live_part, restricted}
use Rattle.pale_typed.specs.declared.typed.ProcEntry.{ProcEntry}
use Rattle.pale_typed.specs.TypedPrograms.{TypedProgram}
use Rattle.pale_typed.specs.Fitting.{ProgramFits, IsLike, IsProgramVariable}
use Rattle.hoare_split.specs.Cuts.{call_cut}
use Rattle.whole_run.specs.States.{Waiting, State, runs, exited, Turn, goes, fails, Answer, Fail}
use Rattle.whole_run.specs.Handing.{handed_store, rest_store, returned_store}
use Rattle.whole_run.specs.Turns.{Returns}
use Rattle.whole_run.specs.Runs.{EndsBy, Ends}
use Rattle.whole_run.specs.Leaving.{CameOf, KeepsLogic}
use Rattle.whole_run.proofs.HandedStart.{variable_now}
use Rattle.whole_run.specs.Segments.{flow_left}
use Rattle.whole_run.proofs.SafeFlows.{safe-unless}
use Rattle.whole_run.proofs.Moving.{IsKept}
use Rattle.whole_run.proofs.CallLaws.{Laws}
use Rattle.whole_run.proofs.AfterReturn.{returned_moves}
use Rattle.whole_run.proofs.Standing.{IsCalled, Stands, stands_move, IsRunning, IsDone, Holds, OnTurn}
use Rattle.whole_run.proofs.Steps.{IsSound, takes_on}

some_same : {X : Type 0} (x y : X) → Some x ≡ Some y → x ≡ y
some_same x y e = cc

same_part : (x : StoreMap) (y : Value) → live_part x y ≡ live_part (restricted x) y
same_part x (value.Bool truth) = refl
same_part x (value.Cell c) = refl
same_part x (value.Cells cells) = refl

-- what was kept, where the logic sets are restricted to the live cells
keeps : (h x : StoreMap) (vs : List VarId) → AllByRecursion (IsKept h x) vs → KeepsLogic vs h (restricted x)
keeps h x [] all = tt
keeps h x (v ∷ vs) all = (variable_now x v ∙ all.0.1 ∙ same_part x (variable h v), keeps h x vs all.1)

module _ (law : Laws) (program : TypedProgram) (fits : ProgramFits program)
    (sound : (number : ℕ) (entry : ProcEntry) → slice_get program.procs number ≡ Some entry → IsSound law program fits entry) where
  abbrev types : List TypeEntry
  types = program.types

  abbrev procs : List ProcEntry
  procs = program.procs

  -- a call goes on behind its callee's exit
  module _ (w : Waiting) (waiting : List Waiting) (t : StoreMap) (callee : ProcEntry) (x : StoreMap) (done : IsDone program callee (w ∷ waiting) t x)
      (s : StoreMap) (cells : List CellId) (called : IsCalled program callee x w s cells) (more : Stands program w.caller.entry (restricted s) waiting) where
    abbrev vars : List VarEntry
    vars = w.caller.entry.vars

    abbrev after : StoreMap
    after = returned_store vars w.call callee.proc.results (rest_store (restricted s) cells) (restricted x)

    came : CameOf (restricted s) cells (restricted x)
    came = record { later = (called.came).later; handed = (called.came).handed; kept = (called.came).kept }

    formed : IsWellFormed types vars after
    formed = law.formed program vars callee w.call called.line s x cells fits called.call_fits called.there called.fits called.none called.awaits called.part
        done.fits done.none done.leaves came

    before : IsWellFormed types vars (restricted s)
    before = law.cut types vars (call_cut procs vars called.line w.call) s called.fits called.none

    same_callee : called.call_fits.callee ≡ callee
    same_callee = some_same called.call_fits.callee callee (sym called.call_fits.there ∙ called.there)

    like : AllZip (IsLike vars callee.vars) w.call.results callee.proc.results
    like = subst (λ (e : ProcEntry). AllZip (IsLike vars e.vars) w.call.results e.proc.results) same_callee called.call_fits.results

    programs : AllByRecursion (IsProgramVariable callee.vars) callee.proc.results
    programs =
        all-second (IsProgramVariable callee.vars) callee.proc.params callee.proc.results
        (all-first (IsProgramVariable callee.vars) (callee.proc.params ++ callee.proc.results) callee.proc.locals done.proc.program_variables)

    alive : (c : CellId) → Contains cells c → IsLive (restricted s) c
    alive c m = let reached = (called.part.members c).0 m in IsInTree-live types vars (restricted s) reached.root c reached.in_tree

    goes_on : IsRunning program w.caller.entry waiting w.caller.left after
    goes_on = record {
      ready = called.ready;
      well = record { fits = formed.fits; fresh = (IsFresh-well_formed types vars after formed).1 };
      stands = stands_move program w.caller.entry (called.ready).proc waiting (restricted s) after (IsFresh-well_formed types vars (restricted s) before).1
          (returned_moves vars callee w.call (restricted s) cells (restricted x) like programs before.fits.above alive came) more;
      safe = safe-unless types vars (flow_left program w.caller.entry w.caller.left) after (called.none cause.Post) (λ met.
          safe-unless types vars (flow_left program w.caller.entry w.caller.left) after (done.none cause.Post) (λ exit_met.
          called.safe after formed (law.started program vars callee w.call called.line s x cells fits called.call_fits called.there called.fits called.none
          called.awaits called.part done.fits done.none done.leaves came
          (keeps (handed_store callee w.call (restricted s) cells) x callee.proc.logics called.kept) met exit_met)));
    }

    pub returned : (turn : Turn) → Returns program t w waiting turn → OnTurn program turn
    returned turn (other, there, is) = subst (OnTurn program) (sym (is ∙ same)) goes_on
      where
        one : other ≡ callee
        one = some_same other callee (sym there ∙ called.there)

        same : goes (runs (record w.caller { store = returned_store vars w.call other.proc.results w.caller.store t }) waiting)
            ≡ goes (runs (record w.caller { store = after }) waiting)
        same = ap (λ (e : ProcEntry). goes (runs (record w.caller { store = returned_store vars w.call e.proc.results w.caller.store t }) waiting)) one
            ∙ ap (λ (r : StoreMap). goes (runs (record w.caller { store = returned_store vars w.call callee.proc.results r t }) waiting)) called.rest
            ∙ ap (λ (y : StoreMap).
            goes (runs (record w.caller { store = returned_store vars w.call callee.proc.results (rest_store (restricted s) cells) y }) waiting)) done.is

  returns_on : (t : StoreMap) (w : Waiting) (waiting : List Waiting) (turn : Turn) → Holds program (exited t (w ∷ waiting)) → Returns program t w waiting turn →
      OnTurn program turn
  returns_on t w waiting turn (callee, x, done) k =
      let at = done.stands in returned w waiting t callee x done at.0 at.1 at.2 at.3 turn k

  -- ---- all steps

  after_turn : (Later : State → Answer → Type 0) (why : Cause) (line : ℕ) → ((next : State) → Holds program next → Later next (Fail why line) → ⊥) →
      (turn : Turn) → OnTurn program turn → EndsBy Later turn (Fail why line) → ⊥
  after_turn Later why line later (goes next) on ends = later next on ends
  after_turn Later why line later (fails other at) on ends = on

  pub never_fails : (n : ℕ) (state : State) (why : Cause) (line : ℕ) → Holds program state → Ends program n state (Fail why line) → ⊥
  never_fails zero (runs f waiting) why line holds is = absurd cc
  never_fails zero (exited t []) why line holds is = absurd cc
  never_fails zero (exited t (w ∷ waiting)) why line holds is = absurd cc
  never_fails (suc n) (runs f waiting) why line holds (turn, takes, ends) =
      after_turn (Ends program n) why line (λ next on later. never_fails n next why line on later) turn
      (takes_on law program fits sound f.entry waiting f.left f.store turn holds takes) ends
  never_fails (suc n) (exited t []) why line holds is = absurd cc
  never_fails (suc n) (exited t (w ∷ waiting)) why line holds (turn, back, ends) =
      after_turn (Ends program n) why line (λ next on later. never_fails n next why line on later) turn (returns_on t w waiting turn holds back) ends
