-- Which calls of an object in memory fail, and what it holds.
use Rattle.std.specs.Prelude.{ℕ, ◌+◌, ◌^◌, List, Option, Some, None, if◌then◌else◌, nat_lt, IsSomeAnd, Contains}
use Rattle.pale_io.specs.Faults.{raised}

-- the numbers of the calls that fail, counted from 1; the number of the next call, or `None` where no u64 is left for it;
-- how many calls have failed, a count that stops at the last value of a u64
pub record Plan : Type 0 where
  pub failing : List ℕ
  pub next : Option ℕ
  pub faults : ℕ

-- the next call is one of those that fail
abbrev pub FailsNext : Plan → Type 0
FailsNext plan = IsSomeAnd plan.next (λ number. Contains plan.failing number)

-- the number after a call's number, where a u64 is left for it
abbrev pub following : Option ℕ → Option ℕ
following None = None
following (Some number) = if nat_lt (number + 1) (2 ^ 64) then Some (number + 1) else None

-- the plan after a call that doesn't fail
abbrev pub after_success : Plan → Plan
after_success plan = record plan { next = following plan.next }

-- the plan after a call that fails
abbrev pub after_fault : Plan → Plan
after_fault plan = record plan { next = following plan.next; faults = raised plan.faults }

-- before the first call, with these that fail
abbrev pub first_plan : List ℕ → Plan
first_plan failing = record { failing = failing; next = Some 1; faults = 0 }

-- a source in memory: the bytes that it has left, and its plan
pub record SourceState : Type 0 where
  pub left : List ℕ
  pub plan : Plan

-- a sink in memory: the bytes written to it, and its plan
pub record SinkState : Type 0 where
  pub written : List ℕ
  pub plan : Plan
