-- Where a traced code stands its store fits its tables.
use Rattle.std.proofs.Common.{◌≡◌, inl, inr, ℕ, Bool, true, false, List, Result, Ok, Err, sym, subst}
use Rattle.store_core.specs.Tables.{TypeEntry, VarEntry}
use Rattle.store_core.specs.Stores.{StoreMap}
use Rattle.store_logic.specs.declared.act.Act.{Act}
use Rattle.store_logic.specs.declared.cond.Cond.{Cond}
use Rattle.store_logic.specs.FitsCode.{ActFits}
use Rattle.store_exec.specs.declared.cause.Cause.{Cause}
use Rattle.store_exec.specs.declared.fault.Fault.{Fault}
use Rattle.store_exec.specs.declared.code.Item.{Item}
use Rattle.store_exec.specs.declared.code.Item.TheVariants as item
use Rattle.store_exec.specs.declared.code.Code.{Code}
use Rattle.store_exec.specs.declared.code.Tail.{Tail}
use Rattle.store_exec.specs.declared.code.Tail.TheVariants as tail
use Rattle.store_exec.specs.Fits.{ItemsFit, CodeFits}
use Rattle.store_exec.specs.Steps.{truth_of}
use Rattle.store_exec.proofs.KeepLemmas.{IsWell, Step-keeps}
use Rattle.store_exec.proofs.GoingLemmas.{ItemFits-Do, ItemFits-If}
use Rattle.store_exec.proofs.CanRunLemmas.{TailFits, code-fits, branch-fits}
use Rattle.store_exec.proofs.InductionLemmas.{items-induction, codes-induction}
use Rattle.store_trace.specs.declared.event.Event.{Event}
use Rattle.store_trace.specs.Tracing.{Tracing, Then, Does, ByTruth, TracesItem, TracesItems, TracesCode}
use Rattle.store_trace.proofs.TraceLemmas.{TracesItem-Do, TracesItem-If}
use Rattle.store_trace.proofs.CodeTraces.{TracesTail, TracesCode-is, TracesTail-Cut, TracesTail-Branch}

module _ (types : List TypeEntry) (vars : List VarEntry) where
  -- from a store that is well to one that is
  abbrev Keeps : {X : Type 0} → Tracing X → Type 0
  Keeps {X} Traces = (s t : StoreMap) (shown : List Event) (end : Result X Fault) → IsWell types vars s → Traces s shown t end → IsWell types vars t

  then-keeps : {X : Type 0} (First : Tracing (Unit {0})) (Next : Tracing X) → Keeps First → Keeps Next → Keeps (Then First Next)
  then-keeps First Next one more s t shown end well (inl (u, before, after, first, behind, is)) =
      more u t after end (one s u before (Ok tt) well first) behind
  then-keeps First Next one more s t shown end well (inr (fault, first, is)) = one s t shown (Err fault) well first

  does-keeps : (line : ℕ) (a : Act) → ActFits types vars a → Keeps (Does types line a)
  does-keeps line a fits s t shown (Ok done) well h = Step-keeps types vars s well.fits well.fresh a t fits h.0
  does-keeps line a fits s t shown (Err fault) well h = subst (IsWell types vars) (sym h.2) well

  chosen-keeps : {X : Type 0} (line : ℕ) (Taken Other : Tracing X) → Keeps Taken → Keeps Other → (r : Result Bool Cause) →
      Keeps (ByTruth line r Taken Other)
  chosen-keeps line Taken Other one two (Ok true) s t shown end well (after, h, is) = one s t after end well h
  chosen-keeps line Taken Other one two (Ok false) s t shown end well (after, h, is) = two s t after end well h
  chosen-keeps line Taken Other one two (Err why) s t shown end well h = subst (IsWell types vars) (sym h.1) well

  abbrev ItemsKeep : List Item → Type 0
  ItemsKeep xs = ItemsFit types vars xs → Keeps (TracesItems types xs)

  items-keep : (xs : List Item) → ItemsKeep xs
  items-keep = items-induction ItemsKeep
      (λ fits s t shown end well h. subst (IsWell types vars) (sym h.1) well)
      (λ line a rest more fits. then-keeps (TracesItem types (item.Do line a)) (TracesItems types rest) (λ s t shown end well h.
      does-keeps line a (ItemFits-Do types vars line a fits.0) s t shown end well ((TracesItem-Do types line a s shown t end).0 h)) (more fits.1))
      (λ line c taken other rest one two more fits.
      let parts = ItemFits-If types vars line c taken other fits.0 in
      then-keeps (TracesItem types (item.If line c taken other)) (TracesItems types rest) (λ s t shown end well h.
      chosen-keeps line (TracesItems types taken) (TracesItems types other) (one parts.1) (two parts.2) (truth_of s c) s t shown end well
      ((TracesItem-If types line c taken other s shown t end).0 h)) (more fits.1))

  abbrev CodeKeeps : Code → Type 0
  CodeKeeps c = CodeFits types vars c → Keeps (TracesCode types c)

  after-items : (c : Code) → (TailFits types vars c.tail → Keeps (TracesTail types c.tail)) → CodeKeeps c
  after-items c next fits s t shown end well h =
      let parts = code-fits types vars c fits in
      then-keeps (TracesItems types c.items) (TracesTail types c.tail) (items-keep c.items parts.0) (next parts.1) s t shown end well
      ((TracesCode-is types c s shown t end).0 h)

  cut-keeps : (c : Code) (place : ℕ) → c.tail ≡ tail.Cut place → CodeKeeps c
  cut-keeps c place is = after-items c (λ fits s t shown end well h.
      let k = (TracesTail-Cut types place s shown t end).0 (subst (λ (x : Tail). TracesTail types x s shown t end) is h) in
      subst (IsWell types vars) (sym k.1) well)

  branch-keeps : (c : Code) (line : ℕ) (b : Cond) (taken other : Code) → c.tail ≡ tail.Branch line b taken other → CodeKeeps taken → CodeKeeps other →
      CodeKeeps c
  branch-keeps c line b taken other is one two = after-items c (λ fits s t shown end well h.
      let parts = branch-fits types vars line b taken other (subst (TailFits types vars) is fits) in
      chosen-keeps line (TracesCode types taken) (TracesCode types other) (one parts.1) (two parts.2) (truth_of s b) s t shown end well
      ((TracesTail-Branch types line b taken other s shown t end).0 (subst (λ (x : Tail). TracesTail types x s shown t end) is h)))

  pub code-keeps : (c : Code) → CodeKeeps c
  code-keeps = codes-induction CodeKeeps cut-keeps branch-keeps
