-- Where a run stands a step can be taken.
use Rattle.std.proofs.Common.{◌≡◌, ◌+◌, ◌<◌, ◌≤◌, List, [], ◌∷◌, ap, subst, arith}
use Rattle.store_core.specs.declared.ids.CellId.{CellId}
use Rattle.store_core.specs.Stores.{StoreMap, IsLive}
use Rattle.store_core.proofs.AboveLemmas.{live_below}
use Rattle.routing_walks.specs.WellFormed.{IsWellFormed}
use Rattle.store_exec.specs.Restricted.{restricted}
use Rattle.store_exec.proofs.RestrictedLemmas.{well_formed-at_cut}
use Rattle.pale_typed.specs.declared.typed.ProcEntry.{ProcEntry}
use Rattle.pale_typed.specs.TypedPrograms.{TypedProgram}
use Rattle.hoare_split.specs.Cuts.{call_cut}
use Rattle.whole_run.specs.States.{Waiting, State, runs, exited}
use Rattle.whole_run.proofs.Beside.{rest_live}
use Rattle.whole_run.proofs.AnswerStanding.{IsCalled, IsDone, Holds, next_of}
use Rattle.whole_turns.specs.Turning.{CanReturn, CanTurn}

module _ (program : TypedProgram) where
  -- a call can return: the callee's new cells have new numbers, and what stayed behind wasn't handed over
  can_return : (w : Waiting) (waiting : List Waiting) (t : StoreMap) (callee : ProcEntry) (x : StoreMap) →
      IsDone program callee (w ∷ waiting) t x → (s : StoreMap) (cells : List CellId) → IsCalled program callee x w s cells → CanReturn program t w
  can_return w waiting t callee x done s cells called = record {
    callee = callee;
    there = called.there;
    later =
        let own : w.caller.store.next ≡ s.next = ap (λ (z : StoreMap). z.next) called.rest in
        let theirs : t.next ≡ x.next = ap (λ (z : StoreMap). z.next) done.is in
        let more_next : s.next ≤ x.next = (called.came).later in
        omega (arith, own, theirs, more_next);
    apart = λ c here stays.
        let out = rest_live (restricted s) cells c (subst (λ (z : StoreMap). IsLive z c) called.rest stays) in
        let less : c.0 < s.next = live_below (restricted s) c before.fits.above out.1 in
        out.0 ((called.came).handed c (subst (λ (z : StoreMap). IsLive z c) done.is here) less);
  }
    where
      before : IsWellFormed program.types w.caller.entry.vars (restricted s)
      before = well_formed-at_cut program.types w.caller.entry.vars s called.fits (call_cut program.procs w.caller.entry.vars called.line w.call) called.none

  -- a step can be taken wherever a run stands
  pub can_turn : (state : State) → Holds program state → next_of state + 1 < 4294967295 → CanTurn program state
  can_turn (runs f waiting) holds room = record {
    ready = record { proc = (holds.fitting).proc; fits = (holds.well).fits; fresh = (holds.well).fresh; room = room };
    statements = (holds.fitting).statements;
  }
  can_turn (exited t []) holds room = tt
  can_turn (exited t (w ∷ waiting)) (callee, x, done) room =
      let from = done.stands in can_return w waiting t callee x done from.0 from.1 from.2
