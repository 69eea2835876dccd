-- What runs has a trace.
use Rattle.std.proofs.Common.{◌≡◌, inl, inr, ℕ, Bool, true, false, List, [], ◌∷◌, ◌++◌, Result, Ok, Err, refl, sym, subst}
use Rattle.store_core.specs.Tables.{TypeEntry}
use Rattle.store_core.specs.Stores.{StoreMap}
use Rattle.store_logic.specs.declared.act.Act.{Act}
use Rattle.store_logic.specs.declared.cond.Cond.{Cond}
use Rattle.store_exec.specs.declared.cause.Cause.{Cause}
use Rattle.store_exec.specs.declared.fault.Fault.{Fault}
use Rattle.store_exec.specs.declared.code.Item.{Item}
use Rattle.store_exec.specs.declared.code.Item.TheVariants as item
use Rattle.store_exec.specs.declared.code.Code.{Code}
use Rattle.store_exec.specs.declared.code.Tail.{Tail}
use Rattle.store_exec.specs.declared.code.Tail.TheVariants as tail
use Rattle.store_exec.specs.declared.outcome.Outcome.{Outcome}
use Rattle.store_exec.specs.Steps.{truth_of}
use Rattle.store_exec.specs.Runs.{Ending, RunsItem, RunsItems, Branches, Follows, RunsCode}
use Rattle.store_exec.specs.Runs as runs
use Rattle.store_exec.proofs.RunLemmas.{RunsItem-Do, RunsItem-If}
use Rattle.store_exec.proofs.CodeLemmas.{RunsTail, RunsCode-is, RunsTail-Cut, RunsTail-Branch}
use Rattle.store_exec.proofs.InductionLemmas.{items-induction, codes-induction}
use Rattle.store_trace.specs.declared.event.Event.{Event}
use Rattle.store_trace.specs.declared.event.Event.TheVariants as event
use Rattle.store_trace.specs.Showing.{events_of}
use Rattle.store_trace.specs.Tracing.{Tracing, Does, ByTruth, TracesItem, TracesItems, TracesCode, outcome_of}
use Rattle.store_trace.proofs.TraceLemmas.{TracesItem-Do, TracesItem-If}
use Rattle.store_trace.proofs.CodeTraces.{TracesTail, TracesCode-is, TracesTail-Cut, TracesTail-Branch}
use Rattle.store_trace.proofs.TracedRuns.{ending_of}

-- there is a trace with this ending
abbrev Has : Tracing (Unit {0}) → StoreMap → Ending → Type 0
Has Traces s e = (shown : List Event) × (t : StoreMap) × (end : Result (Unit {0}) Fault) × Traces s shown t end × (e ≡ ending_of t end)

abbrev HasOut : Tracing ℕ → StoreMap → Outcome → Type 0
HasOut Traces s out = (shown : List Event) × (t : StoreMap) × (end : Result ℕ Fault) × Traces s shown t end × (out ≡ outcome_of t end)

-- the store with which it ended
ended : (Traces : Tracing (Unit {0})) (s u : StoreMap) → Has Traces s (Ok u) → (shown : List Event) × Traces s shown u (Ok tt)
ended Traces s u (shown, t, Ok done, h, is) =
    let same : u ≡ t = cc in (shown, subst (λ (w : StoreMap). Traces s shown w (Ok tt)) (sym same) h)
ended Traces s u (shown, t, Err fault, h, is) = absurd cc

-- the store where the fault stopped it
stopped : (Traces : Tracing (Unit {0})) (s : StoreMap) (fault : Fault) → Has Traces s (Err fault) →
    (shown : List Event) × (t : StoreMap) × Traces s shown t (Err fault)
stopped Traces s fault (shown, t, Ok done, h, is) = absurd cc
stopped Traces s fault (shown, t, Err other, h, is) =
    let same : fault ≡ other = cc in (shown, t, subst (λ (f : Fault). Traces s shown t (Err f)) (sym same) h)

module _ (types : List TypeEntry) where
  abbrev Traced : List Item → Type 0
  Traced xs = (s : StoreMap) (e : Ending) → RunsItems types xs s e → Has (TracesItems types xs) s e

  first-then : (i : Item) (rest : List Item) → ((s : StoreMap) (e : Ending) → RunsItem types i s e → Has (TracesItem types i) s e) → Traced rest →
      Traced (i ∷ rest)
  first-then i rest one more s e (inl (u, first, behind)) =
      let here = ended (TracesItem types i) s u (one s (Ok u) first) in
      let later = more u e behind in
      (here.0 ++ later.0, later.1, later.2, inl (u, here.0, later.0, here.1, later.3, refl), later.4)
  first-then i rest one more s e (inr (fault, first, is)) =
      let here = stopped (TracesItem types i) s fault (one s (Err fault) first) in
      (here.0, here.1, Err fault, inr (fault, here.2, refl), is)

  does-traced : (line : ℕ) (a : Act) (s : StoreMap) (e : Ending) → runs.Does types line s a e → Has (Does types line a) s e
  does-traced line a s (Ok t) h = (events_of types line s a, t, Ok tt, (h, refl), refl)
  does-traced line a s (Err fault) h = ([], s, Err fault, (h.0, h.1, refl, refl), refl)

  chosen-traced : (line : ℕ) (taken other : List Item) → Traced taken → Traced other → (s : StoreMap) (r : Result Bool Cause) (e : Ending) →
      runs.ByTruth line r (RunsItems types taken s) (RunsItems types other s) e →
      Has (ByTruth line r (TracesItems types taken) (TracesItems types other)) s e
  chosen-traced line taken other one two s (Ok true) e h =
      let it = one s e h in (event.Truth line true ∷ it.0, it.1, it.2, (it.0, it.3, refl), it.4)
  chosen-traced line taken other one two s (Ok false) e h =
      let it = two s e h in (event.Truth line false ∷ it.0, it.1, it.2, (it.0, it.3, refl), it.4)
  chosen-traced line taken other one two s (Err why) e h = ([], s, Err (record { cause = why; line = line }), (refl, refl, refl), h)

  -- the same trace, by what it is
  has-so : (P Q : Tracing (Unit {0})) (s : StoreMap) (e : Ending) → ((shown : List Event) (t : StoreMap) (end : Result (Unit {0}) Fault) →
      P s shown t end → Q s shown t end) → Has P s e → Has Q s e
  has-so P Q s e turn (shown, t, end, h, is) = (shown, t, end, turn shown t end h, is)

  pub items-traced : (xs : List Item) → Traced xs
  items-traced = items-induction Traced
      (λ s e is. ([], s, Ok tt, (refl, refl, refl), is))
      (λ line a rest more. first-then (item.Do line a) rest (λ s e h.
      has-so (Does types line a) (TracesItem types (item.Do line a)) s e (λ shown t end k. (TracesItem-Do types line a s shown t end).1 k)
      (does-traced line a s e ((RunsItem-Do types line a s e).0 h))) more)
      (λ line c taken other rest one two more. first-then (item.If line c taken other) rest (λ s e h.
      has-so (ByTruth line (truth_of s c) (TracesItems types taken) (TracesItems types other)) (TracesItem types (item.If line c taken other)) s e
      (λ shown t end k. (TracesItem-If types line c taken other s shown t end).1 k)
      (chosen-traced line taken other one two s (truth_of s c) e ((RunsItem-If types line c taken other s e).0 h))) more)

  abbrev CodeTraced : Code → Type 0
  CodeTraced c = (s : StoreMap) (out : Outcome) → RunsCode types c s out → HasOut (TracesCode types c) s out

  after-items : (c : Code) → ((s : StoreMap) (out : Outcome) → RunsTail types c.tail s out → HasOut (TracesTail types c.tail) s out) → CodeTraced c
  after-items c next s out h = by ((RunsCode-is types c s out).0 h)
    where
      by : Follows (RunsItems types c.items s) (RunsTail types c.tail) out → HasOut (TracesCode types c) s out
      by (inl (u, first, behind)) =
          let here = ended (TracesItems types c.items) s u (items-traced c.items s (Ok u) first) in
          let later = next u out behind in (
            here.0 ++ later.0,
            later.1,
            later.2,
            (TracesCode-is types c s (here.0 ++ later.0) later.1 later.2).1 (inl (u, here.0, later.0, here.1, later.3, refl)),
            later.4,
          )
      by (inr (fault, first, is)) =
          let here = stopped (TracesItems types c.items) s fault (items-traced c.items s (Err fault) first) in
          (here.0, here.1, Err fault, (TracesCode-is types c s here.0 here.1 (Err fault)).1 (inr (fault, here.2, refl)), is)

  cut-traced : (c : Code) (place : ℕ) → c.tail ≡ tail.Cut place → CodeTraced c
  cut-traced c place is = after-items c (λ s out h. (
    [],
    s,
    Ok place,
    subst (λ (x : Tail). TracesTail types x s [] s (Ok place)) (sym is) ((TracesTail-Cut types place s [] s (Ok place)).1 (refl, refl, refl)),
    (RunsTail-Cut types place s out).0 (subst (λ (x : Tail). RunsTail types x s out) is h),
  ))

  branches-traced : (line : ℕ) (taken other : Code) → CodeTraced taken → CodeTraced other → (s : StoreMap) (r : Result Bool Cause) (out : Outcome) →
      Branches line r (RunsCode types taken s) (RunsCode types other s) out → HasOut (ByTruth line r (TracesCode types taken) (TracesCode types other)) s out
  branches-traced line taken other one two s (Ok true) out h =
      let it = one s out h in (event.Truth line true ∷ it.0, it.1, it.2, (it.0, it.3, refl), it.4)
  branches-traced line taken other one two s (Ok false) out h =
      let it = two s out h in (event.Truth line false ∷ it.0, it.1, it.2, (it.0, it.3, refl), it.4)
  branches-traced line taken other one two s (Err why) out h = ([], s, Err (record { cause = why; line = line }), (refl, refl, refl), h)

  branch-traced : (c : Code) (line : ℕ) (b : Cond) (taken other : Code) → c.tail ≡ tail.Branch line b taken other → CodeTraced taken → CodeTraced other →
      CodeTraced c
  branch-traced c line b taken other is one two = after-items c (λ s out h.
      let it = branches-traced line taken other one two s (truth_of s b) out
      ((RunsTail-Branch types line b taken other s out).0 (subst (λ (x : Tail). RunsTail types x s out) is h)) in (
        it.0,
        it.1,
        it.2,
        subst (λ (x : Tail). TracesTail types x s it.0 it.1 it.2) (sym is) ((TracesTail-Branch types line b taken other s it.0 it.1 it.2).1 it.3),
        it.4,
      ))

  pub code-traced : (c : Code) → CodeTraced c
  code-traced = codes-induction CodeTraced cut-traced branch-traced
