use Rattle.whole_turns.specs.Standings.{all_waiting, state_of}
use Rattle.whole_exec.proofs.Going.{Stage}
use Rattle.whole_exec.proofs.running.go.Given as goal

-- the run stands here with the steps that are left
abbrev pub invariant-loop-step : goal.invariant-loop-step
invariant-loop-step l = Stage l.program l.number l.fn.store l.steps l.fn.recorder l.recorder (state_of l.at (all_waiting l.waiting)) l._step
