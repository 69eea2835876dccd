-- A return keeps a whole run standing.
use Rattle.std.proofs.Common.{◌≡◌, ◌+◌, ◌≤◌, List, ◌∷◌, ◌++◌, Some, Contains, sym, ap, ◌∙◌, subst, arith}
use Rattle.std.specs.List.{AllByRecursion, AllZip}
use Rattle.store_core.specs.declared.ids.CellId.{CellId}
use Rattle.store_core.specs.Tables.{TypeEntry, VarEntry}
use Rattle.store_core.specs.Stores.{StoreMap, IsLive}
use Rattle.routing_walks.specs.WellFormed.{IsWellFormed}
use Rattle.routing_walks.proofs.FreshLemmas.{IsFresh-well_formed}
use Rattle.routing_walks.proofs.TreeLemmas.{IsInTree-live}
use Rattle.store_logic.proofs.ExpandingLists.{all-first, all-second}
use Rattle.store_exec.specs.Restricted.{restricted}
use Rattle.store_exec.proofs.RestrictedLemmas.{well_formed-at_cut}
use Rattle.pale_typed.specs.declared.typed.ProcEntry.{ProcEntry}
use Rattle.pale_typed.specs.TypedPrograms.{TypedProgram}
use Rattle.pale_typed.specs.Fitting.{ProgramFits, IsLike, IsProgramVariable}
use Rattle.hoare_split.specs.Cuts.{call_cut}
use Rattle.whole_run.specs.States.{Waiting, runs, exited, Turn, goes}
use Rattle.whole_run.specs.Handing.{rest_store, returned_store}
use Rattle.whole_run.specs.Turns.{Returns}
use Rattle.whole_run.specs.Leaving.{CameOf}
use Rattle.whole_run.proofs.AfterReturn.{returned_moves}
use Rattle.whole_run.proofs.AnswerLaws.{Laws}
use Rattle.whole_run.proofs.AnswerStanding.{IsCalled, Stands, stands_move, IsRunning, IsDone, Holds, OnTurn}

some_same : {X : Type 0} (x y : X) → Some x ≡ Some y → x ≡ y
some_same x y e = cc

module _ (law : Laws) (program : TypedProgram) (fits : ProgramFits program) where
  abbrev types : List TypeEntry
  types = program.types

  abbrev procs : List ProcEntry
  procs = program.procs

  -- a call goes on behind its callee's exit
  module _ (w : Waiting) (waiting : List Waiting) (t : StoreMap) (callee : ProcEntry) (x : StoreMap) (done : IsDone program callee (w ∷ waiting) t x)
      (s : StoreMap) (cells : List CellId) (called : IsCalled program callee x w s cells) (more : Stands program w.caller.entry (restricted s) waiting) where
    abbrev vars : List VarEntry
    vars = w.caller.entry.vars

    abbrev after : StoreMap
    after = returned_store vars w.call callee.proc.results (rest_store (restricted s) cells) (restricted x)

    came : CameOf (restricted s) cells (restricted x)
    came = record { later = (called.came).later; handed = (called.came).handed; kept = (called.came).kept }

    formed : IsWellFormed types vars after
    formed = law.formed program vars callee w.call called.line s x cells fits called.call_fits called.there called.fits called.none called.awaits called.part
        done.fits done.none done.leaves came

    before : IsWellFormed types vars (restricted s)
    before = well_formed-at_cut types vars s called.fits (call_cut procs vars called.line w.call) called.none

    same_callee : called.call_fits.callee ≡ callee
    same_callee = some_same called.call_fits.callee callee (sym called.call_fits.there ∙ called.there)

    like : AllZip (IsLike vars callee.vars) w.call.results callee.proc.results
    like = subst (λ (e : ProcEntry). AllZip (IsLike vars e.vars) w.call.results e.proc.results) same_callee called.call_fits.results

    programs : AllByRecursion (IsProgramVariable callee.vars) callee.proc.results
    programs =
        all-second (IsProgramVariable callee.vars) callee.proc.params callee.proc.results
        (all-first (IsProgramVariable callee.vars) (callee.proc.params ++ callee.proc.results) callee.proc.locals done.proc.program_variables)

    alive : (c : CellId) → Contains cells c → IsLive (restricted s) c
    alive c m = let reached = (called.part.members c).0 m in IsInTree-live types vars (restricted s) reached.root c reached.in_tree

    goes_on : IsRunning program w.caller.entry waiting w.caller.left after
    goes_on = record {
      fitting = called.fitting;
      well = record { fits = formed.fits; fresh = (IsFresh-well_formed types vars after formed).1 };
      stands = stands_move program w.caller.entry waiting (restricted s) after
          (returned_moves vars callee w.call (restricted s) cells (restricted x) like programs before.fits.above alive came) more;
    }

    pub returned : (turn : Turn) → Returns program t w waiting turn → OnTurn program (t.next + 1) turn
    returned turn (other, there, is) = subst (OnTurn program (t.next + 1)) (sym (is ∙ same)) (
      goes_on,
      (let same_next : t.next ≡ x.next = ap (λ (z : StoreMap). z.next) done.is in let most : x.next ≤ t.next + 1 = omega (arith, same_next) in most),
    )
      where
        one : other ≡ callee
        one = some_same other callee (sym there ∙ called.there)

        same : goes (runs (record w.caller { store = returned_store vars w.call other.proc.results w.caller.store t }) waiting)
            ≡ goes (runs (record w.caller { store = after }) waiting)
        same = ap (λ (e : ProcEntry). goes (runs (record w.caller { store = returned_store vars w.call e.proc.results w.caller.store t }) waiting)) one
            ∙ ap (λ (r : StoreMap). goes (runs (record w.caller { store = returned_store vars w.call callee.proc.results r t }) waiting)) called.rest
            ∙ ap (λ (y : StoreMap).
            goes (runs (record w.caller { store = returned_store vars w.call callee.proc.results (rest_store (restricted s) cells) y }) waiting)) done.is

  pub returns_on : (t : StoreMap) (w : Waiting) (waiting : List Waiting) (turn : Turn) → Holds program (exited t (w ∷ waiting)) →
      Returns program t w waiting turn → OnTurn program (t.next + 1) turn
  returns_on t w waiting turn (callee, x, done) k =
      let from = done.stands in returned w waiting t callee x done from.0 from.1 from.2 from.3 turn k
