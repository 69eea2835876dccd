-- Flows that lead to no cause from a store.
use Rattle.std.proofs.Common.{◌≡◌, ◌⊎◌, inl, inr, ℕ, Bool, true, false, List, [], ◌∷◌, Option, Some, None, Result, Ok, Err, refl, sym, subst}
use Rattle.store_core.specs.Tables.{TypeEntry, VarEntry}
use Rattle.store_core.specs.Stores.{StoreMap}
use Rattle.store_logic.specs.declared.cond.Cond.{Cond}
use Rattle.store_exec.specs.declared.cause.Cause.{Cause}
use Rattle.store_exec.specs.declared.fault.Fault.{Fault}
use Rattle.store_exec.specs.declared.code.Item.{Item}
use Rattle.store_exec.specs.declared.code.Item.TheVariants as item
use Rattle.store_exec.specs.Steps.{truth_of}
use Rattle.store_exec.specs.Runs.{Ending, ByTruth, RunsItem, RunsItems}
use Rattle.store_exec.specs.Cuts.{AtCut}
use Rattle.store_exec.proofs.RunLemmas.{RunsItem-If}
use Rattle.hoare_split.specs.Flows.{Flow, does, branches, after_items}
use Rattle.hoare_split.specs.Passages.{Passage, choice, choice_of}
use Rattle.hoare_split.proofs.PlainLemmas.{WhenPlain}
use Rattle.whole_run.specs.FlowRuns.{Leading, arrives, stops, Chosen, RunsFlow}

module _ (types : List TypeEntry) (vars : List VarEntry) where
  -- a cut without a cause
  abbrev pub IsFine : Leading → Type 0
  IsFine (arrives a t) = AtCut types vars a.cut t None
  IsFine (stops why line) = ⊥

  -- wherever the flow leads from the store, it is fine
  abbrev pub IsSafe : Flow → StoreMap → Type 0
  IsSafe flow s = (lead : Leading) → RunsFlow types flow s lead → IsFine lead

  fine-unless : {A : Type 0} → (lead : Leading) → ((A → ⊥) → ⊥) → (A → IsFine lead) → IsFine lead
  fine-unless (arrives a t) able each = λ why wrong. able (λ x. each x why wrong)
  fine-unless (stops why line) able each = able each

  -- what can't be refuted serves to show that a flow is safe
  pub safe-unless : {A : Type 0} → (flow : Flow) (s : StoreMap) → ((A → ⊥) → ⊥) → (A → IsSafe flow s) → IsSafe flow s
  safe-unless flow s able each = λ lead runs. fine-unless lead able (λ x. each x lead runs)

  pub safe-item : (i : Item) (rest : Flow) (s t : StoreMap) → IsSafe (does i rest) s → RunsItem types i s (Ok t) → IsSafe rest t
  safe-item i rest s t safe ran = λ lead runs. safe lead (inl (t, ran, runs))

  pub no-fault : (i : Item) (rest : Flow) (s : StoreMap) (fault : Fault) → IsSafe (does i rest) s → RunsItem types i s (Err fault) → ⊥
  no-fault i rest s fault safe ran = safe (stops fault.cause fault.line) (inr (fault, ran, refl))

  pub safe-after : (items : List Item) (rest : Flow) (s t : StoreMap) → IsSafe (after_items items rest) s → RunsItems types items s (Ok t) → IsSafe rest t
  safe-after [] rest s t safe is = let same : t ≡ s = cc in subst (IsSafe rest) (sym same) safe
  safe-after (i ∷ items) rest s t safe (inl (u, ran, more)) = safe-after items rest u t (safe-item i (after_items items rest) s u safe ran) more
  safe-after (i ∷ items) rest s t safe (inr (fault, ran, is)) = absurd cc

  -- items, and then what follows
  abbrev Follow : List Item → Flow → StoreMap → Leading → Type 0
  Follow items rest s lead = ((t : StoreMap) × RunsItems types items s (Ok t) × RunsFlow types rest t lead)
      ⊎ ((fault : Fault) × RunsItems types items s (Err fault) × (lead ≡ stops fault.cause fault.line))

  follow : (items : List Item) (rest : Flow) (s : StoreMap) (lead : Leading) → RunsFlow types (after_items items rest) s lead → Follow items rest s lead
  follow [] rest s lead h = inl (s, refl, h)
  follow (i ∷ items) rest s lead (inl (t, ran, more)) = of (follow items rest t lead more)
    where
      of : Follow items rest t lead → Follow (i ∷ items) rest s lead
      of (inl (u, first, end)) = inl (u, inl (t, ran, first), end)
      of (inr (fault, first, e)) = inr (fault, inl (t, ran, first), e)
  follow (i ∷ items) rest s lead (inr (fault, ran, e)) = inr (fault, inr (fault, ran, refl), e)

  -- ---- conditions

  -- the flow by the truth of its condition, which can be read
  abbrev pub BothSafe : Flow → Flow → StoreMap → Result Bool Cause → Type 0
  BothSafe taken other s (Ok true) = IsSafe taken s
  BothSafe taken other s (Ok false) = IsSafe other s
  BothSafe taken other s (Err why) = ⊥

  branches-safe : (line : ℕ) (c : Cond) (taken other : Flow) (s : StoreMap) → IsSafe (branches line c taken other) s →
      BothSafe taken other s (truth_of s c)
  branches-safe line c taken other s safe = by (truth_of s c) (λ lead runs. safe lead runs)
    where
      by : (r : Result Bool Cause) → ((lead : Leading) → Chosen line r (RunsFlow types taken s) (RunsFlow types other s) lead → IsFine lead) →
          BothSafe taken other s r
      by (Ok true) each = each
      by (Ok false) each = each
      by (Err why) each = each (stops why line) refl

  item-safe : (line : ℕ) (c : Cond) (ones others : List Item) (rest : Flow) (s : StoreMap) → IsSafe (does (item.If line c ones others) rest) s →
      BothSafe (after_items ones rest) (after_items others rest) s (truth_of s c)
  item-safe line c ones others rest s safe = by (truth_of s c) (λ end h. (RunsItem-If types line c ones others s end).1 h)
    where
      whole : Item
      whole = item.If line c ones others

      on : (items : List Item) → ((end : Ending) → RunsItems types items s end → RunsItem types whole s end) → (lead : Leading) →
          Follow items rest s lead → IsFine lead
      on items each lead (inl (t, ran, more)) = safe lead (inl (t, each (Ok t) ran, more))
      on items each lead (inr (fault, ran, e)) = safe lead (inr (fault, each (Err fault) ran, e))

      by : (r : Result Bool Cause) → ((end : Ending) → ByTruth line r (RunsItems types ones s) (RunsItems types others s) end → RunsItem types whole s end) →
          BothSafe (after_items ones rest) (after_items others rest) s r
      by (Ok true) each = λ lead runs. on ones each lead (follow ones rest s lead runs)
      by (Ok false) each = λ lead runs. on others each lead (follow others rest s lead runs)
      by (Err why) each =
          let fault : Fault = record { cause = why; line = line } in
          safe (stops why line) (inr (fault, each (Err fault) refl, refl))

  both-as : (taken other taken' other' : Flow) (s : StoreMap) (r : Result Bool Cause) → taken ≡ taken' → other ≡ other' →
      BothSafe taken other s r → BothSafe taken' other' s r
  both-as taken other taken' other' s r e f h =
      subst (λ x. BothSafe taken' x s r) f (subst (λ x. BothSafe x other s r) e h)

  -- an `if`
  pub choice-safe : (line : ℕ) (c : Cond) (first other : Passage) (rest : Flow) (s : StoreMap) → WhenPlain first → WhenPlain other →
      IsSafe ((choice line c first other).flow rest) s → BothSafe (first.flow rest) (other.flow rest) s (truth_of s c)
  choice-safe line c first other rest s one two safe = by first.items other.items refl refl safe
    where
      by : (ones others : Option (List Item)) → first.items ≡ ones → other.items ≡ others →
          IsSafe ((choice_of line c first other ones others).flow rest) s → BothSafe (first.flow rest) (other.flow rest) s (truth_of s c)
      by (Some x) (Some y) is also h =
          both-as (after_items x rest) (after_items y rest) (first.flow rest) (other.flow rest) s (truth_of s c)
          (sym ((one x is).flow rest)) (sym ((two y also).flow rest)) (item-safe line c x y rest s h)
      by (Some x) None is also h = branches-safe line c (first.flow rest) (other.flow rest) s h
      by None others is also h = branches-safe line c (first.flow rest) (other.flow rest) s h
