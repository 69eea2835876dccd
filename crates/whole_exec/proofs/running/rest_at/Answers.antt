use Rattle.std.proofs.Common.{[], sym, subst}
use Rattle.whole_trace.specs.Traces.{Traces}
use Rattle.whole_turns.specs.declared.activation.At.{At}
use Rattle.whole_exec.specs.Answers.{answer_with, stand_of}
use Rattle.whole_turns.specs.Standings.{all_waiting, state_of}
use Rattle.whole_exec.proofs.running.rest_at.Goals as goal

pub returns-in-Running : goal.returns-in-Running
returns-in-Running c = λ program.
    let stood = c.running_at.result in
    subst (λ (at : At). Traces program c.args.first 0 (state_of at (all_waiting c.args.waiting)) [] (stand_of stood.proc stood.at)
    (answer_with stood.at stood.end)) (sym c.in-Running.is) (c.running_at.ensures program)

pub returns-in-Exited : goal.returns-in-Exited
returns-in-Exited c = λ program.
    let stood = c.exited_at.result in
    subst (λ (at : At). Traces program c.args.first 0 (state_of at (all_waiting c.args.waiting)) [] (stand_of stood.proc stood.at)
    (answer_with stood.at stood.end)) (sym c.in-Exited.is) (c.exited_at.ensures program)
