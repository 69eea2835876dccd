-- Steps that fail.
use Rattle.std.proofs.Common.{◌≡◌, List, Result, Err, IfErr, subst}
use Rattle.store_core.specs.Stores.{StoreMap}
use Rattle.pale_typed.specs.TypedPrograms.{TypedProgram}
use Rattle.pale_typed.specs.declared.typed.ProcEntry.{ProcEntry}
use Rattle.pale_typed.specs.declared.typed.Stmt.{Stmt}
use Rattle.whole_run.specs.States.{Waiting}
use Rattle.whole_trace.specs.Stopping.{LeftStops}
use Rattle.whole_turns.specs.declared.activation.At.{At}
use Rattle.whole_turns.specs.declared.halted.Halted.{Halted}

-- what is said of a step that fails
pub halted_at : (program : TypedProgram) (entry : ProcEntry) (s : StoreMap) (left : List Stmt) (end : Result At Halted) (halted : Halted) →
    end ≡ Err halted → IfErr end (λ h. LeftStops program entry s left h.at) → LeftStops program entry s left halted.at
halted_at program entry s left end halted is h = subst (λ (e : Result At Halted). IfErr e (λ x. LeftStops program entry s left x.at)) is h

pub kept_at : (old new : List Waiting) (end : Result At Halted) (halted : Halted) → end ≡ Err halted → IfErr end (λ h. new ≡ old) → new ≡ old
kept_at old new end halted is h = subst (λ (e : Result At Halted). IfErr e (λ x. new ≡ old)) is h
