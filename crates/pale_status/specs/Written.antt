-- What a sink was told of an output that is allowed, and how a call ends after it.
use Rattle.std.specs.Prelude.{◌≡◌, ◌⊎◌, ℕ, List, Option, Result, Ok, Err}
use Rattle.pale_io.specs.declared.stops.WriteStop.{WriteStop}
use Rattle.pale_io.specs.declared.stops.WriteStop.TheVariants.{Failed, NoMemory}
use Rattle.pale_io.specs.Whole.{WritesAll, WritesFront}
use Rattle.pale_status.specs.declared.status.Status.{Status}
use Rattle.pale_status.specs.declared.status.Status.TheVariants.{Memory, WriteFault}

-- the status of a call after this outcome at the sink
abbrev pub EndsBy : Result Status WriteStop → Status → Type 0
EndsBy (Ok answer) status = status ≡ answer
EndsBy (Err Failed) status = status ≡ WriteFault
EndsBy (Err NoMemory) status = status ≡ Memory

-- By what a sink told before and after: an output was written that is allowed with this status, or with what else is told of it.
pub record Wrote {A : Type 0} (Allowed : List ℕ → A → Type 0) (before after : Option (List ℕ)) (status : A) : Type 0 where
  pub output : List ℕ
  pub allowed : Allowed output status
  pub written : WritesAll before after output

-- a front was written of an output that is allowed with some status
pub record WroteFront {A : Type 0} (Allowed : List ℕ → A → Type 0) (before after : Option (List ℕ)) : Type 0 where
  pub output : List ℕ
  pub status : A
  pub allowed : Allowed output status
  pub written : WritesFront before after output

-- nothing was written, or such a front
abbrev pub WroteAtMost : {A : Type 0} → (List ℕ → A → Type 0) → Option (List ℕ) → Option (List ℕ) → Type 0
WroteAtMost Allowed before after = (after ≡ before) ⊎ WroteFront Allowed before after
