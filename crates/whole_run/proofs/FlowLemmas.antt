-- The code of a flow leads where the flow does.
use Rattle.std.proofs.Common.{◌≡◌, ◌↔◌, inl, inr, ℕ, Bool, true, false, List, [], ◌∷◌, Result, Ok, Err, refl, sym, ap, ap₂, ◌∙◌, subst}
use Rattle.store_core.specs.Tables.{TypeEntry}
use Rattle.store_core.specs.Stores.{StoreMap}
use Rattle.store_logic.specs.declared.cond.Cond.{Cond}
use Rattle.store_exec.specs.declared.cause.Cause.{Cause}
use Rattle.store_exec.specs.declared.fault.Fault.{Fault}
use Rattle.store_exec.specs.declared.code.Item.{Item}
use Rattle.store_exec.specs.declared.code.Code.{Code, out-Code, roll-Code, out-roll-Code}
use Rattle.store_exec.specs.declared.code.Tail.{Tail}
use Rattle.store_exec.specs.declared.code.Tail.TheVariants as tail
use Rattle.store_exec.specs.declared.code.Tail.TheOpen.{Code-F}
use Rattle.store_exec.specs.declared.outcome.Outcome.{Outcome}
use Rattle.store_exec.specs.declared.outcome.Outcome.TheVariants as outcome
use Rattle.store_exec.specs.Steps.{truth_of}
use Rattle.store_exec.specs.Runs.{Ending, RunsItem, RunsItems, Follows, Branches, RunsCode}
use Rattle.store_exec.proofs.CodeLemmas.{RunsTail, RunsCode-is, RunsTail-Cut, RunsTail-Branch}
use Rattle.hoare_split.specs.declared.point.Point.{Point}
use Rattle.hoare_split.specs.Flows.{Arrival, Flow, ends, does, branches, place_among, behind, code_in}
use Rattle.whole_run.specs.FlowRuns.{Leading, arrives, stops, Chosen, RunsFlow, outcome_of}

ok_same : {X E : Type 0} (r : Result X E) (x y : X) → r ≡ Ok x → r ≡ Ok y → x ≡ y
ok_same r x y h k = let e = sym h ∙ k in cc

err_same : {X E : Type 0} (r : Result X E) (x y : E) → r ≡ Err x → r ≡ Err y → x ≡ y
err_same r x y h k = let e = sym h ∙ k in cc

ok_err : {X E A : Type 0} (r : Result X E) (x : X) (y : E) → r ≡ Ok x → r ≡ Err y → A
ok_err r x y h k = let e = sym h ∙ k in absurd cc

module _ (types : List TypeEntry) (points : List Point) where
  abbrev Leads : Flow → StoreMap → Outcome → Type 0
  Leads flow s out = (lead : Leading) × RunsFlow types flow s lead × (out ≡ outcome_of points lead)

  rolled : (z : Code-F Tail Code) (s : StoreMap) (out : Outcome) →
      RunsCode types (roll-Code z) s out ↔ Follows (RunsItems types z.items s) (RunsTail types z.tail) out
  rolled z s out = subst (λ (y : Code-F Tail Code). RunsCode types (roll-Code z) s out ↔ Follows (RunsItems types y.items s) (RunsTail types y.tail) out)
      (out-roll-Code z) (RunsCode-is types (roll-Code z) s out)

  -- no items, and then the tail
  no_items : (end : Tail) (s : StoreMap) (out : Outcome) → RunsCode types (roll-Code (record { items = []; tail = end })) s out ↔ RunsTail types end s out
  no_items end s out = (
    λ h. forth ((rolled (record { items = []; tail = end }) s out).0 h),
    λ h. (rolled (record { items = []; tail = end }) s out).1 (inl (s, refl, h)),
  )
    where
      forth : Follows (RunsItems types [] s) (RunsTail types end) out → RunsTail types end s out
      forth (inl (t, e, h)) = subst (λ u. RunsTail types end u out) (ok_same (Ok t) t s refl e) h
      forth (inr (fault, e, h)) = ok_err (Err fault) s fault e refl

  -- one item more
  module _ (i : Item) (rest : Flow) (code : Code) where
    abbrev z : Code-F Tail Code
    z = record { items = i ∷ (out-Code code).items; tail = (out-Code code).tail }

    abbrev Own : StoreMap → Outcome → Type 0
    Own t out = Follows (RunsItems types (out-Code code).items t) (RunsTail types (out-Code code).tail) out

    abbrev Whole : StoreMap → Outcome → Type 0
    Whole s out = Follows (RunsItems types (i ∷ (out-Code code).items) s) (RunsTail types (out-Code code).tail) out

    on : ((t : StoreMap) (out : Outcome) → RunsCode types code t out → Leads rest t out) → (s t : StoreMap) (out : Outcome) → RunsItem types i s (Ok t) →
        Own t out → Leads (does i rest) s out
    on later s t out ran more = let lead = later t out ((RunsCode-is types code t out).1 more) in (lead.0, inl (t, ran, lead.1), lead.2)

    of_whole : ((t : StoreMap) (out : Outcome) → RunsCode types code t out → Leads rest t out) → (s : StoreMap) (out : Outcome) → Whole s out →
        Leads (does i rest) s out
    of_whole later s out (inl (u, inl (t, ran, more), end)) = on later s t out ran (inl (u, more, end))
    of_whole later s out (inl (u, inr (fault, ran, e), end)) = ok_err (Ok u) u fault refl e
    of_whole later s out (inr (fault, inl (t, ran, more), e)) = on later s t out ran (inr (fault, more, e))
    of_whole later s out (inr (fault, inr (other, ran, same), e)) = (
      stops other.cause other.line,
      inr (other, ran, refl),
      e ∙ ap (λ (f : Fault). outcome.Fail f.cause f.line) (err_same (Err fault) fault other refl same),
    )

    does_forth : ((t : StoreMap) (out : Outcome) → RunsCode types code t out → Leads rest t out) → (s : StoreMap) (out : Outcome) →
        RunsCode types (behind i code) s out → Leads (does i rest) s out
    does_forth later s out h = of_whole later s out ((rolled z s out).0 h)

    to_whole : (s t : StoreMap) (out : Outcome) → RunsItem types i s (Ok t) → Own t out → Whole s out
    to_whole s t out ran (inl (u, first, end)) = inl (u, inl (t, ran, first), end)
    to_whole s t out ran (inr (fault, first, is)) = inr (fault, inl (t, ran, first), is)

    does_back : ((t : StoreMap) (out : Outcome) → Leads rest t out → RunsCode types code t out) → (s : StoreMap) (out : Outcome) →
        Leads (does i rest) s out → RunsCode types (behind i code) s out
    does_back later s out (lead, inl (t, ran, more), e) =
        (rolled z s out).1 (to_whole s t out ran ((RunsCode-is types code t out).0 (later t out (lead, more, e))))
    does_back later s out (lead, inr (fault, ran, is), e) = (rolled z s out).1 (inr (fault, inr (fault, ran, refl), e ∙ ap (outcome_of points) is))

  branch_forth : (line : ℕ) (taken other : Flow) (s : StoreMap) (out : Outcome) (truth : Result Bool Cause) →
      (RunsCode types (code_in points taken) s out → Leads taken s out) → (RunsCode types (code_in points other) s out → Leads other s out) →
      Branches line truth (RunsCode types (code_in points taken) s) (RunsCode types (code_in points other) s) out →
      (lead : Leading) × Chosen line truth (RunsFlow types taken s) (RunsFlow types other s) lead × (out ≡ outcome_of points lead)
  branch_forth line taken other s out (Ok true) one two h = one h
  branch_forth line taken other s out (Ok false) one two h = two h
  branch_forth line taken other s out (Err why) one two h = (stops why line, refl, h)

  branch_back : (line : ℕ) (taken other : Flow) (s : StoreMap) (out : Outcome) (truth : Result Bool Cause) →
      (Leads taken s out → RunsCode types (code_in points taken) s out) → (Leads other s out → RunsCode types (code_in points other) s out) →
      (lead : Leading) → Chosen line truth (RunsFlow types taken s) (RunsFlow types other s) lead → out ≡ outcome_of points lead →
      Branches line truth (RunsCode types (code_in points taken) s) (RunsCode types (code_in points other) s) out
  branch_back line taken other s out (Ok true) one two lead h e = one (lead, h, e)
  branch_back line taken other s out (Ok false) one two lead h e = two (lead, h, e)
  branch_back line taken other s out (Err why) one two lead h e = e ∙ ap (outcome_of points) h

  pub code_forth : (flow : Flow) (s : StoreMap) (out : Outcome) → RunsCode types (code_in points flow) s out → Leads flow s out
  code_forth (ends a) s out h =
      (arrives a s, refl, (RunsTail-Cut types (place_among points a.point) s out).0 ((no_items (tail.Cut (place_among points a.point)) s out).0 h))
  code_forth (does i rest) s out h = does_forth i rest (code_in points rest) (code_forth rest) s out h
  code_forth (branches line c taken other) s out h =
      branch_forth line taken other s out (truth_of s c) (code_forth taken s out) (code_forth other s out)
      ((RunsTail-Branch types line c (code_in points taken) (code_in points other) s out).0
      ((no_items (tail.Branch line c (code_in points taken) (code_in points other)) s out).0 h))

  pub code_back : (flow : Flow) (s : StoreMap) (out : Outcome) → Leads flow s out → RunsCode types (code_in points flow) s out
  code_back (ends a) s out h =
      (no_items (tail.Cut (place_among points a.point)) s out).1
      ((RunsTail-Cut types (place_among points a.point) s out).1 (h.2 ∙ ap (outcome_of points) h.1))
  code_back (does i rest) s out h = does_back i rest (code_in points rest) (code_back rest) s out h
  code_back (branches line c taken other) s out h =
      (no_items (tail.Branch line c (code_in points taken) (code_in points other)) s out).1
      ((RunsTail-Branch types line c (code_in points taken) (code_in points other) s out).1
      (branch_back line taken other s out (truth_of s c) (code_back taken s out) (code_back other s out) h.0 h.1 h.2))
