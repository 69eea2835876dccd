use Rattle.std.proofs.Common.{◌∙◌, ℕ, List, is_some, sym, ap, subst, arith}
use Rattle.whole_run.specs.States.{runs}
use Rattle.whole_turns.specs.declared.activation.Suspended.{Suspended}
use Rattle.whole_exec.specs.Answers.{answer_with, stand_of}
use Rattle.whole_turns.specs.Standings.{frame_of, all_waiting, state_of}
use Rattle.whole_turns.specs.Turning.{TurnsAs}
use Rattle.whole_run.proofs.AnswerLaws.{Laws}
use Rattle.whole_run.proofs.AnswerStanding.{next_of}
use Rattle.whole_exec.proofs.Turnable.{can_turn}
use Rattle.whole_trace.specs.Traces.{proc_at}
use Rattle.whole_exec.proofs.Naming.{StandFits}
use Rattle.whole_exec.proofs.Ending.{end_fits, ended_at, rested_fits}
use Rattle.whole_exec.proofs.Going.{IsGoing, starts, goes_on, one_left, one_room, done}
use Rattle.whole_exec.proofs.running.go.Goals as goal

pub entered-requires : goal.entered-requires
entered-requires c = ap is_some c.requires.start.there

pub loop-step-init : goal.loop-step-init
loop-step-init c =
    let law : Laws = record {
      puts = c.claims_with_actuals_put_in_fit.ensures;
      handed = c.handed_stores_meet_the_entry.ensures;
      formed = c.returned_stores_are_well_formed.ensures;
    } in
    let program = c.args.program.now in
    let recorder = c.args.recorder.now in (
      c.args.steps,
      omega arith,
      subst (λ (ws : List Suspended). IsGoing program c.args.number c.args.store c.args.steps recorder recorder
          (runs (frame_of c.in_ok-entered.field-0 c.args.store) (all_waiting ws)) c.args.steps) (sym c.new-waiting.ensures)
          (starts law program c.requires.program c.args.number c.args.store c.args.steps recorder c.in_ok-entered.field-0 c.in_ok-entered.ensures
          c.requires.start),
    )

-- at least one step is left
pub turn-requires-clause-can : goal.turn-requires-clause-can
turn-requires-clause-can c =
    let going = c.loop-step.invariant in
    let now = state_of c.loop-step.at (all_waiting c.loop-step.waiting) in
    can_turn c.args.program.now now (going.2).holds
    (one_room (next_of now) going.0 c.loop-step._step c.args.steps going.1 c.loop-step-test.true (going.2).room)

pub loop-step-preserved : goal.loop-step-preserved
loop-step-preserved c =
    let law : Laws = record {
      puts = c.claims_with_actuals_put_in_fit.ensures;
      handed = c.handed_stores_meet_the_entry.ensures;
      formed = c.returned_stores_are_well_formed.ensures;
    } in
    let program = c.args.program.now in
    let now = state_of c.loop-step.at (all_waiting c.loop-step.waiting) in
    let after = state_of c.in-Goes.after (all_waiting c.turn.new.waiting) in
    let turns = subst (TurnsAs program now (all_waiting c.turn.new.waiting) c.loop-step.recorder c.turn.new.recorder) c.in-Goes.is c.in_ok-after.ensures in
    one_left program c.args.number c.args.store c.args.steps c.args.recorder.now c.loop-step.recorder now c.loop-step._step c.loop-step.invariant
    c.loop-step-test.true
    (λ left is going. (
      left,
      is,
      goes_on law program c.requires.program c.args.number c.args.store c.args.steps c.args.recorder.now
          c.loop-step.recorder c.turn.new.recorder now after left going turns.0 turns.1,
    ))

pub returns-in-Ends-clause-traced : goal.returns-in-Ends-clause-traced
returns-in-Ends-clause-traced c =
    let program = c.args.program.now in
    let now = state_of c.loop-step.at (all_waiting c.loop-step.waiting) in
    let new = all_waiting c.turn.new.waiting in
    let ends = subst (TurnsAs program now new c.loop-step.recorder c.turn.new.recorder) c.in-Ends.is c.in_ok-after.ensures in
    one_left program c.args.number c.args.store c.args.steps c.args.recorder.now c.loop-step.recorder now c.loop-step._step c.loop-step.invariant
    c.loop-step-test.true
    (λ left is going. ended_at program c.args.number c.args.store c.args.steps c.args.recorder.now c.loop-step.recorder c.turn.new.recorder now left
    c.proc_at-proc.result new c.in-Ends.end c.in-Ends.at going ends.0 ends.1 ends.2 c.proc_at-proc.ensures)

pub returns-clause-traced : goal.returns-clause-traced
returns-clause-traced c =
    let program = c.args.program.now in
    let stood = c.rest_at.result in
    done program c.args.number c.args.store c.args.steps c.args.recorder.now c.loop-step.recorder (state_of c.loop-step.at (all_waiting c.loop-step.waiting))
    c.loop-step._step c.loop-step.invariant (omega (arith, c.loop-step-test.false)) (stand_of stood.proc stood.at) (answer_with stood.at stood.end)
    (c.rest_at.ensures program)

-- the store fits the variables of the procedure where it stands
pub returns-in-Ends-clause-fits : goal.returns-in-Ends-clause-fits
returns-in-Ends-clause-fits c =
    let program = c.args.program.now in
    let now = state_of c.loop-step.at (all_waiting c.loop-step.waiting) in
    let new = all_waiting c.turn.new.waiting in
    let ends = subst (TurnsAs program now new c.loop-step.recorder c.turn.new.recorder) c.in-Ends.is c.in_ok-after.ensures in
    let going = c.loop-step.invariant.2 in
    subst (λ (n : ℕ). StandFits program c.args.number n c.in-Ends.at) (sym (c.proc_at-proc.ensures ∙ ap (proc_at c.args.number) ends.1))
    (end_fits program c.args.number c.claims_with_actuals_put_in_fit.ensures c.requires.program now c.in-Ends.end c.in-Ends.at ends.0
    going.holds going.named)

pub returns-clause-fits : goal.returns-clause-fits
returns-clause-fits c =
    let program = c.args.program.now in
    let going = c.loop-step.invariant.2 in
    rested_fits program c.args.number (state_of c.loop-step.at (all_waiting c.loop-step.waiting)) c.rest_at.result.proc c.rest_at.result.at
    (answer_with c.rest_at.result.at c.rest_at.result.end) going.holds going.named (c.rest_at.ensures program)
