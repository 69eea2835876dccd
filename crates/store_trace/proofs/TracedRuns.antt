-- Traces and runs.
use Rattle.std.proofs.Common.{◌≡◌, inl, inr, ℕ, Bool, true, false, List, ◌∷◌, Result, Ok, Err, sym, ap, ◌∙◌, subst}
use Rattle.store_core.specs.Tables.{TypeEntry}
use Rattle.store_core.specs.Stores.{StoreMap}
use Rattle.store_logic.specs.declared.act.Act.{Act}
use Rattle.store_logic.specs.declared.cond.Cond.{Cond}
use Rattle.store_exec.specs.declared.cause.Cause.{Cause}
use Rattle.store_exec.specs.declared.fault.Fault.{Fault}
use Rattle.store_exec.specs.declared.code.Item.{Item}
use Rattle.store_exec.specs.declared.code.Item.TheVariants as item
use Rattle.store_exec.specs.declared.code.Code.{Code}
use Rattle.store_exec.specs.declared.code.Tail.{Tail}
use Rattle.store_exec.specs.declared.code.Tail.TheVariants as tail
use Rattle.store_exec.specs.declared.outcome.Outcome.TheVariants as outcome
use Rattle.store_exec.specs.Steps.{truth_of}
use Rattle.store_exec.specs.Runs.{Ending, RunsItem, RunsItems, Branches, Follows, RunsCode}
use Rattle.store_exec.specs.Runs as runs
use Rattle.store_exec.proofs.RunLemmas.{RunsItem-Do, RunsItem-If}
use Rattle.store_exec.proofs.CodeLemmas.{RunsTail, RunsCode-is, RunsTail-Cut, RunsTail-Branch}
use Rattle.store_exec.proofs.InductionLemmas.{items-induction, codes-induction}
use Rattle.store_trace.specs.declared.event.Event.{Event}
use Rattle.store_trace.specs.Tracing.{Then, Does, ByTruth, TracesItem, TracesItems, TracesCode, outcome_of}
use Rattle.store_trace.proofs.TraceLemmas.{TracesItem-Do, TracesItem-If}
use Rattle.store_trace.proofs.CodeTraces.{TracesTail, TracesCode-is, TracesTail-Cut, TracesTail-Branch}

-- where items end that stand so
abbrev pub ending_of : StoreMap → Result (Unit {0}) Fault → Ending
ending_of t (Ok done) = Ok t
ending_of t (Err fault) = Err fault

module _ (types : List TypeEntry) where
  -- ---- a trace is a run

  abbrev Runs : List Item → Type 0
  Runs xs = (s : StoreMap) (shown : List Event) (t : StoreMap) (end : Result (Unit {0}) Fault) → TracesItems types xs s shown t end →
      RunsItems types xs s (ending_of t end)

  -- the first item, and then the others
  first-then : (i : Item) (rest : List Item) → ((s : StoreMap) (shown : List Event) (t : StoreMap) (end : Result (Unit {0}) Fault) →
      TracesItem types i s shown t end → RunsItem types i s (ending_of t end)) → Runs rest → Runs (i ∷ rest)
  first-then i rest one more s shown t end (inl (u, before, after, first, behind, is)) = inl (u, one s before u (Ok tt) first, more u after t end behind)
  first-then i rest one more s shown t end (inr (fault, first, is)) = inr (fault, one s shown t (Err fault) first, ap (ending_of t) is)

  does-runs : (line : ℕ) (a : Act) (s : StoreMap) (shown : List Event) (t : StoreMap) (end : Result (Unit {0}) Fault) →
      Does types line a s shown t end → runs.Does types line s a (ending_of t end)
  does-runs line a s shown t (Ok done) h = h.0
  does-runs line a s shown t (Err fault) h = (h.0, h.1)

  chosen-runs : (line : ℕ) (taken other : List Item) → Runs taken → Runs other → (s : StoreMap) (r : Result Bool Cause) (shown : List Event) (t : StoreMap)
      (end : Result (Unit {0}) Fault) → ByTruth line r (TracesItems types taken) (TracesItems types other) s shown t end →
      runs.ByTruth line r (RunsItems types taken s) (RunsItems types other s) (ending_of t end)
  chosen-runs line taken other one two s (Ok true) shown t end (after, h, is) = one s after t end h
  chosen-runs line taken other one two s (Ok false) shown t end (after, h, is) = two s after t end h
  chosen-runs line taken other one two s (Err why) shown t end (none, same, is) = ap (ending_of t) is

  pub items-runs : (xs : List Item) → Runs xs
  items-runs = items-induction Runs
      (λ s shown t end h. ap (ending_of t) h.2 ∙ ap (λ (u : StoreMap). Ok u) h.1)
      (λ line a rest more. first-then (item.Do line a) rest (λ s shown t end h.
      (RunsItem-Do types line a s (ending_of t end)).1 (does-runs line a s shown t end ((TracesItem-Do types line a s shown t end).0 h))) more)
      (λ line c taken other rest one two more. first-then (item.If line c taken other) rest (λ s shown t end h.
      (RunsItem-If types line c taken other s (ending_of t end)).1
      (chosen-runs line taken other one two s (truth_of s c) shown t end ((TracesItem-If types line c taken other s shown t end).0 h))) more)

  abbrev CodeRuns : Code → Type 0
  CodeRuns c = (s : StoreMap) (shown : List Event) (t : StoreMap) (end : Result ℕ Fault) → TracesCode types c s shown t end →
      RunsCode types c s (outcome_of t end)

  after-items : (c : Code) → ((s : StoreMap) (shown : List Event) (t : StoreMap) (end : Result ℕ Fault) → TracesTail types c.tail s shown t end →
      RunsTail types c.tail s (outcome_of t end)) → CodeRuns c
  after-items c next s shown t end h = (RunsCode-is types c s (outcome_of t end)).1 (by ((TracesCode-is types c s shown t end).0 h))
    where
      by : Then (TracesItems types c.items) (TracesTail types c.tail) s shown t end → Follows (RunsItems types c.items s) (RunsTail types c.tail)
          (outcome_of t end)
      by (inl (u, before, after, first, behind, is)) = inl (u, items-runs c.items s before u (Ok tt) first, next u after t end behind)
      by (inr (fault, first, is)) = inr (fault, items-runs c.items s shown t (Err fault) first, ap (outcome_of t) is)

  cut-runs : (c : Code) (place : ℕ) → c.tail ≡ tail.Cut place → CodeRuns c
  cut-runs c place is = after-items c (λ s shown t end h.
      let k = (TracesTail-Cut types place s shown t end).0 (subst (λ (x : Tail). TracesTail types x s shown t end) is h) in
      subst (λ (x : Tail). RunsTail types x s (outcome_of t end)) (sym is)
      ((RunsTail-Cut types place s (outcome_of t end)).1 (ap (outcome_of t) k.2 ∙ ap (λ (u : StoreMap). outcome.End place u) k.1)))

  branches-run : (line : ℕ) (taken other : Code) → CodeRuns taken → CodeRuns other → (s : StoreMap) (r : Result Bool Cause) (shown : List Event)
      (t : StoreMap) (end : Result ℕ Fault) → ByTruth line r (TracesCode types taken) (TracesCode types other) s shown t end →
      Branches line r (RunsCode types taken s) (RunsCode types other s) (outcome_of t end)
  branches-run line taken other one two s (Ok true) shown t end (after, h, is) = one s after t end h
  branches-run line taken other one two s (Ok false) shown t end (after, h, is) = two s after t end h
  branches-run line taken other one two s (Err why) shown t end (none, same, is) = ap (outcome_of t) is

  branch-runs : (c : Code) (line : ℕ) (b : Cond) (taken other : Code) → c.tail ≡ tail.Branch line b taken other → CodeRuns taken → CodeRuns other →
      CodeRuns c
  branch-runs c line b taken other is one two = after-items c (λ s shown t end h.
      subst (λ (x : Tail). RunsTail types x s (outcome_of t end)) (sym is)
      ((RunsTail-Branch types line b taken other s (outcome_of t end)).1
      (branches-run line taken other one two s (truth_of s b) shown t end
      ((TracesTail-Branch types line b taken other s shown t end).0 (subst (λ (x : Tail). TracesTail types x s shown t end) is h)))))

  pub code-runs : (c : Code) → CodeRuns c
  code-runs = codes-induction CodeRuns cut-runs branch-runs
