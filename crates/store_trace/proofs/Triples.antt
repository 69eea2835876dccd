-- How triples end.
use Rattle.std.proofs.Common.{◌≡◌, inl, inr, ℕ, List, Some, None, slice_get, Ok, Err, refl}
use Rattle.store_core.specs.Tables.{TypeEntry, VarEntry}
use Rattle.store_core.specs.Stores.{StoreMap}
use Rattle.store_exec.specs.declared.fault.Fault.{Fault}
use Rattle.store_exec.specs.declared.outcome.Outcome.TheVariants as outcome
use Rattle.store_exec.specs.declared.triple.Cut.{Cut}
use Rattle.store_exec.specs.declared.triple.Triple.{Triple}
use Rattle.store_exec.specs.Runs.{RunsCode}
use Rattle.store_exec.specs.Cuts.{AtCut}
use Rattle.store_exec.specs.Failing.{Fails}
use Rattle.store_trace.specs.declared.event.Event.{Event}
use Rattle.store_trace.specs.Tracing.{TracesTriple, stops, fails, ends}
use Rattle.store_trace.proofs.TracedRuns.{code-runs}

module _ (types : List TypeEntry) (vars : List VarEntry) (t : Triple) (s : StoreMap) where
  pub fails-so : (at : StoreMap) (shown : List Event) (fault : Fault) → TracesTriple types vars t s shown at (Err fault) →
      Fails types vars t s fault.cause fault.line
  fails-so at shown fault (stops x y f h) = inl (code-runs types t.code s shown at (Err fault) h)
  fails-so at shown fault (fails x y place cut why h there wrong) = inr (record {
    place = place;
    cut = cut;
    store = at;
    ends = code-runs types t.code s shown at (Ok place) h;
    there = there;
    first = wrong;
    at_line = refl;
  })

  pub ends-so : (at : StoreMap) (shown : List Event) (line : ℕ) → TracesTriple types vars t s shown at (Ok line) →
      (place : ℕ) × (cut : Cut) × RunsCode types t.code s (outcome.End place at) × (slice_get t.cuts place ≡ Some cut)
      × AtCut types vars cut at None × (cut.line ≡ line)
  ends-so at shown line (ends before y place cut h there sound) = (place, cut, code-runs types t.code s before at (Ok place) h, there, sound, refl)
