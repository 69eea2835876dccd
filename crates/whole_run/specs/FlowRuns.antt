-- Where a flow leads from a store, without places in a list of cuts.
use Rattle.std.specs.Prelude.{◌≡◌, ◌⊎◌, ℕ, Bool, true, false, List, Result, Ok, Err}
use Rattle.store_core.specs.Tables.{TypeEntry}
use Rattle.store_core.specs.Stores.{StoreMap}
use Rattle.store_exec.specs.declared.cause.Cause.{Cause}
use Rattle.store_exec.specs.declared.fault.Fault.{Fault}
use Rattle.store_exec.specs.declared.outcome.Outcome.{Outcome}
use Rattle.store_exec.specs.declared.outcome.Outcome.TheVariants as outcome
use Rattle.store_exec.specs.Steps.{truth_of}
use Rattle.store_exec.specs.Runs.{RunsItem}
use Rattle.hoare_split.specs.declared.point.Point.{Point}
use Rattle.hoare_split.specs.Flows.{Arrival, Flow, ends, does, branches, place_among}

-- to a cut with a store, or to a cause at its line
pub data Leading : Type 0 where
  arrives : Arrival → StoreMap → Leading
  stops : Cause → ℕ → Leading

-- the one where the condition is true, the other where it is false; a condition that can't be read stops at its line
abbrev pub Chosen : ℕ → Result Bool Cause → (Leading → Type 0) → (Leading → Type 0) → Leading → Type 0
Chosen line (Ok true) Taken Other lead = Taken lead
Chosen line (Ok false) Taken Other lead = Other lead
Chosen line (Err why) Taken Other lead = lead ≡ stops why line

abbrev pub RunsFlow : List TypeEntry → Flow → StoreMap → Leading → Type 0
RunsFlow types (ends a) s lead = lead ≡ arrives a s
RunsFlow types (does i rest) s lead =
    ((t : StoreMap) × RunsItem types i s (Ok t) × RunsFlow types rest t lead)
    ⊎ ((fault : Fault) × RunsItem types i s (Err fault) × (lead ≡ stops fault.cause fault.line))
RunsFlow types (branches line c taken other) s lead = Chosen line (truth_of s c) (RunsFlow types taken s) (RunsFlow types other s) lead

-- the outcome of a code whose cuts are at these points
abbrev pub outcome_of : List Point → Leading → Outcome
outcome_of points (arrives a t) = outcome.End (place_among points a.point) t
outcome_of points (stops why line) = outcome.Fail why line
