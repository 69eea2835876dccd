-- What code shows.
use Rattle.std.proofs.Common.{◌≡◌, ◌↔◌, inl, inr, ℕ, Bool, true, false, List, [], ◌∷◌, ◌++◌, Result, Ok, Err, refl, sym, ap, ◌∙◌, subst}
use Rattle.store_core.specs.Tables.{TypeEntry}
use Rattle.store_core.specs.Stores.{StoreMap}
use Rattle.store_logic.specs.declared.cond.Cond.{Cond}
use Rattle.store_exec.specs.declared.cause.Cause.{Cause}
use Rattle.store_exec.specs.declared.fault.Fault.{Fault}
use Rattle.store_exec.specs.declared.code.Code.{Code, roll-out-Code, out-Code}
use Rattle.store_exec.specs.declared.code.Tail.{Tail}
use Rattle.store_exec.specs.declared.code.Tail.TheVariants as tail
use Rattle.store_exec.specs.declared.code.Tail.TheVariants.{rolls-Cut, rolls-Branch}
use Rattle.store_exec.specs.declared.code.Tail.TheOpen.{Tail-F, Code-F}
use Rattle.store_exec.specs.declared.code.Tail.TheFolds.{rec-Tail, rec-roll-Tail, rec-roll-Code, map-Tail, map-Code}
use Rattle.store_exec.specs.Steps.{truth_of}
use Rattle.store_trace.specs.declared.event.Event.{Event}
use Rattle.store_trace.specs.declared.event.Event.TheVariants as event
use Rattle.store_trace.specs.Tracing.{Tracing, Then, ByTruth, TracesItems, TailNode, CodeNode, TracesCode}
use Rattle.store_trace.proofs.TraceLemmas.{both_ways}

module _ (types : List TypeEntry) where
  abbrev pub TracesTail : Tail → Tracing ℕ
  TracesTail = rec-Tail (Tracing ℕ) (Tracing ℕ) (TailNode types) (CodeNode types)

  natural-tail : (T C : Type 0) (v : T → Tail) (w : C → Code) (k : Tail → Tracing ℕ) (l : Code → Tracing ℕ) (x : Tail-F T C) →
      TailNode types T C v w (λ p. k (v p)) (λ p. l (w p)) x ≡ TailNode types Tail Code (λ y. y) (λ y. y) k l (map-Tail T C Tail Code v w x)
  natural-tail T C v w k l (Tail-F.Cut place) = refl
  natural-tail T C v w k l (Tail-F.Branch line c taken other) = refl

  natural-code : (T C : Type 0) (v : T → Tail) (w : C → Code) (k : Tail → Tracing ℕ) (l : Code → Tracing ℕ) (x : Code-F T C) →
      CodeNode types T C v w (λ p. k (v p)) (λ p. l (w p)) x ≡ CodeNode types Tail Code (λ y. y) (λ y. y) k l (map-Code T C Tail Code v w x)
  natural-code T C v w k l x = refl

  pub TracesCode-is : (c : Code) (s : StoreMap) (shown : List Event) (t : StoreMap) (end : Result ℕ Fault) →
      TracesCode types c s shown t end ↔ Then (TracesItems types c.items) (TracesTail c.tail) s shown t end
  TracesCode-is c = both_ways (ap (TracesCode types) (sym (roll-out-Code c))
      ∙ rec-roll-Code (Tracing ℕ) (Tracing ℕ) (TailNode types) (CodeNode types) natural-code (out-Code c))

  pub TracesTail-Cut : (place : ℕ) (s : StoreMap) (shown : List Event) (t : StoreMap) (end : Result ℕ Fault) →
      TracesTail (tail.Cut place) s shown t end ↔ ((shown ≡ []) × (t ≡ s) × (end ≡ Ok place))
  TracesTail-Cut place = both_ways (ap TracesTail (sym (rolls-Cut place))
      ∙ rec-roll-Tail (Tracing ℕ) (Tracing ℕ) (TailNode types) (CodeNode types) natural-tail (Tail-F.Cut place))

  pub TracesTail-Branch : (line : ℕ) (c : Cond) (taken other : Code) (s : StoreMap) (shown : List Event) (t : StoreMap) (end : Result ℕ Fault) →
      TracesTail (tail.Branch line c taken other) s shown t end ↔
      ByTruth line (truth_of s c) (TracesCode types taken) (TracesCode types other) s shown t end
  TracesTail-Branch line c taken other = both_ways (ap TracesTail (sym (rolls-Branch line c taken other))
      ∙ rec-roll-Tail (Tracing ℕ) (Tracing ℕ) (TailNode types) (CodeNode types) natural-tail (Tail-F.Branch line c taken other))

  -- ---- one code

  -- a fault of its items
  pub items-stop : (c : Code) (s : StoreMap) (shown : List Event) (t : StoreMap) (fault : Fault) → TracesItems types c.items s shown t (Err fault) →
      TracesCode types c s shown t (Err fault)
  items-stop c s shown t fault h = (TracesCode-is c s shown t (Err fault)).1 (inr (fault, h, refl))

  -- its items, and then its tail
  goes : (c : Code) (s u t : StoreMap) (x : Tail) (before after : List Event) (end : Result ℕ Fault) → c.tail ≡ x →
      TracesItems types c.items s before u (Ok tt) → TracesTail x u after t end → TracesCode types c s (before ++ after) t end
  goes c s u t x before after end is h g = (TracesCode-is c s (before ++ after) t end).1
      (inl (u, before, after, h, subst (λ (y : Tail). TracesTail y u after t end) (sym is) g, refl))

  pub items-cut : (c : Code) (s u : StoreMap) (place : ℕ) (before : List Event) → c.tail ≡ tail.Cut place → TracesItems types c.items s before u (Ok tt) →
      TracesCode types c s (before ++ []) u (Ok place)
  items-cut c s u place before is h =
      goes c s u u (tail.Cut place) before [] (Ok place) is h ((TracesTail-Cut place u [] u (Ok place)).1 (refl, refl, refl))

  branch-goes : (c : Code) (s u t : StoreMap) (line : ℕ) (b : Cond) (taken other : Code) (before after : List Event) (end : Result ℕ Fault) →
      c.tail ≡ tail.Branch line b taken other → TracesItems types c.items s before u (Ok tt) →
      ByTruth line (truth_of u b) (TracesCode types taken) (TracesCode types other) u after t end → TracesCode types c s (before ++ after) t end
  branch-goes c s u t line b taken other before after end is h g = goes c s u t (tail.Branch line b taken other) before after end is h
      ((TracesTail-Branch line b taken other u after t end).1 g)

  pub branch-true : (c : Code) (s u : StoreMap) (line : ℕ) (b : Cond) (taken other : Code) (before : List Event) →
      c.tail ≡ tail.Branch line b taken other → TracesItems types c.items s before u (Ok tt) → truth_of u b ≡ Ok true →
      (after : List Event) (t : StoreMap) (end : Result ℕ Fault) → TracesCode types taken u after t end →
      TracesCode types c s (before ++ event.Truth line true ∷ after) t end
  branch-true c s u line b taken other before is h told after t end g =
      branch-goes c s u t line b taken other before (event.Truth line true ∷ after) end is h
      (subst (λ (r : Result Bool Cause). ByTruth line r (TracesCode types taken) (TracesCode types other) u (event.Truth line true ∷ after) t end)
      (sym told) (after, g, refl))

  pub branch-false : (c : Code) (s u : StoreMap) (line : ℕ) (b : Cond) (taken other : Code) (before : List Event) →
      c.tail ≡ tail.Branch line b taken other → TracesItems types c.items s before u (Ok tt) → truth_of u b ≡ Ok false →
      (after : List Event) (t : StoreMap) (end : Result ℕ Fault) → TracesCode types other u after t end →
      TracesCode types c s (before ++ event.Truth line false ∷ after) t end
  branch-false c s u line b taken other before is h told after t end g =
      branch-goes c s u t line b taken other before (event.Truth line false ∷ after) end is h
      (subst (λ (r : Result Bool Cause). ByTruth line r (TracesCode types taken) (TracesCode types other) u (event.Truth line false ∷ after) t end)
      (sym told) (after, g, refl))

  pub branch-stop : (c : Code) (s u : StoreMap) (line : ℕ) (b : Cond) (taken other : Code) (before : List Event) →
      c.tail ≡ tail.Branch line b taken other → TracesItems types c.items s before u (Ok tt) → (fault : Fault) → truth_of u b ≡ Err fault.cause →
      fault.line ≡ line → TracesCode types c s (before ++ []) u (Err fault)
  branch-stop c s u line b taken other before is h fault told at =
      branch-goes c s u u line b taken other before [] (Err fault) is h
      (subst (λ (r : Result Bool Cause). ByTruth line r (TracesCode types taken) (TracesCode types other) u [] u (Err fault)) (sym told)
      (refl, refl, ap (λ (n : ℕ). Err (record { cause = fault.cause; line = n })) at))
