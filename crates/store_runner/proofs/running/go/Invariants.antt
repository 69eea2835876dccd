use Rattle.std.proofs.Common.{◌≡◌, ℕ}
use Rattle.store_logic.specs.Terms.{null}
use Rattle.store_exec.specs.Fits.{CanRunCode}
use Rattle.store_trace.specs.Tracing.{TracesCode}
use Rattle.store_runner.specs.Recordings.{GoesOn}
use Rattle.store_runner.proofs.running.go.Given as goal

-- the rest goes on from here, and can be run
abbrev pub invariant-loop-nothing : goal.invariant-loop-nothing
invariant-loop-nothing l =
    GoesOn ℕ (TracesCode l.types l.code) (TracesCode l.types l.rest) l.fn.store l.fn.recorder l.store l.recorder
    × CanRunCode l.types l.store l.rest × (l.nothing ≡ null)
