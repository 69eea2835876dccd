-- There is one trace alone.
use Rattle.std.proofs.Common.{◌≡◌, inl, inr, ℕ, Bool, true, false, List, ◌∷◌, ◌++◌, Result, Ok, Err, refl, sym, ap, ap₂, ◌∙◌, subst}
use Rattle.store_core.specs.Tables.{TypeEntry}
use Rattle.store_core.specs.Stores.{StoreMap}
use Rattle.store_logic.specs.declared.act.Act.{Act}
use Rattle.store_logic.specs.declared.cond.Cond.{Cond}
use Rattle.store_exec.specs.declared.cause.Cause.{Cause}
use Rattle.store_exec.specs.declared.fault.Fault.{Fault}
use Rattle.store_exec.specs.declared.code.Item.{Item}
use Rattle.store_exec.specs.declared.code.Item.TheVariants as item
use Rattle.store_exec.specs.declared.code.Code.{Code}
use Rattle.store_exec.specs.declared.code.Tail.{Tail}
use Rattle.store_exec.specs.declared.code.Tail.TheVariants as tail
use Rattle.store_exec.specs.Steps.{truth_of}
use Rattle.store_exec.proofs.OneEndLemmas.{Step-one}
use Rattle.store_exec.proofs.InductionLemmas.{items-induction, codes-induction}
use Rattle.store_trace.specs.declared.event.Event.{Event}
use Rattle.store_trace.specs.declared.event.Event.TheVariants as event
use Rattle.store_trace.specs.Tracing.{Tracing, Then, Does, ByTruth, TracesItem, TracesItems, TracesCode}
use Rattle.store_trace.proofs.TraceLemmas.{TracesItem-Do, TracesItem-If}
use Rattle.store_trace.proofs.CodeTraces.{TracesTail, TracesCode-is, TracesTail-Cut, TracesTail-Branch}

-- two traces from one store are one
abbrev One : {X : Type 0} → Tracing X → Type 0
One {X} Traces = (s t u : StoreMap) (shown other : List Event) (end also : Result X Fault) → Traces s shown t end → Traces s other u also →
    (shown ≡ other) × (t ≡ u) × (end ≡ also)

never : {X A : Type 0} (r q : Result X Fault) (x : X) (fault : Fault) → r ≡ q → r ≡ Ok x → q ≡ Err fault → A
never r q x fault e is at = absurd cc

module _ (types : List TypeEntry) where
  -- what comes next after one that is one
  then-one : {X : Type 0} (First : Tracing (Unit {0})) (Next : Tracing X) → One First → One Next → One (Then First Next)
  then-one First Next one more s t u shown other end also (inl (v, before, after, first, behind, is)) (inl (w, early, late, start, rest, at)) =
      let front = one s v w before early (Ok tt) (Ok tt) first start in
      let back = more w t u after late end also (subst (λ (x : StoreMap). Next x after t end) front.1 behind) rest in
      (is ∙ ap₂ (λ (x y : List Event). x ++ y) front.0 back.0 ∙ sym at, back.1, back.2)
  then-one First Next one more s t u shown other end also (inl (v, before, after, first, behind, is)) (inr (fault, start, at)) =
      never (Ok tt) (Err fault) tt fault (one s v u before other (Ok tt) (Err fault) first start).2 refl refl
  then-one First Next one more s t u shown other end also (inr (fault, first, is)) (inl (w, early, late, start, rest, at)) =
      never (Ok tt) (Err fault) tt fault (sym (one s t w shown early (Err fault) (Ok tt) first start).2) refl refl
  then-one First Next one more s t u shown other end also (inr (fault, first, is)) (inr (stop, start, at)) =
      let both = one s t u shown other (Err fault) (Err stop) first start in
      let same : fault ≡ stop = let e = both.2 in cc in
      (both.0, both.1, is ∙ ap (λ (f : Fault). Err f) same ∙ sym at)

  does-one : (line : ℕ) (a : Act) → One (Does types line a)
  does-one line a s t u shown other (Ok x) (Ok y) h k =
      let e = Step-one types s a (Ok t) (Ok u) h.0 k.0 in let same : t ≡ u = cc in (h.1 ∙ sym k.1, same, refl)
  does-one line a s t u shown other (Ok x) (Err fault) h k = let e = Step-one types s a (Ok t) (Err fault.cause) h.0 k.0 in absurd cc
  does-one line a s t u shown other (Err fault) (Ok x) h k = let e = Step-one types s a (Ok u) (Err fault.cause) k.0 h.0 in absurd cc
  does-one line a s t u shown other (Err fault) (Err stop) h k =
      let e = Step-one types s a (Err fault.cause) (Err stop.cause) h.0 k.0 in
      let same : fault.cause ≡ stop.cause = cc in
      (h.3 ∙ sym k.3, h.2 ∙ sym k.2, ap₂ (λ (c : Cause) (n : ℕ). Err (record { cause = c; line = n })) same (h.1 ∙ sym k.1))

  chosen-one : {X : Type 0} (line : ℕ) (Taken Other : Tracing X) → One Taken → One Other → (r : Result Bool Cause) → One (ByTruth line r Taken Other)
  chosen-one line Taken Other one two (Ok true) s t u shown other end also (before, h, is) (after, k, at) =
      let both = one s t u before after end also h k in
      (is ∙ ap (λ (l : List Event). event.Truth line true ∷ l) both.0 ∙ sym at, both.1, both.2)
  chosen-one line Taken Other one two (Ok false) s t u shown other end also (before, h, is) (after, k, at) =
      let both = two s t u before after end also h k in
      (is ∙ ap (λ (l : List Event). event.Truth line false ∷ l) both.0 ∙ sym at, both.1, both.2)
  chosen-one line Taken Other one two (Err why) s t u shown other end also h k = (h.0 ∙ sym k.0, h.1 ∙ sym k.1, h.2 ∙ sym k.2)

  abbrev OneOf : List Item → Type 0
  OneOf xs = One (TracesItems types xs)

  items-one : (xs : List Item) → OneOf xs
  items-one = items-induction OneOf
      (λ s t u shown other end also h k. (h.0 ∙ sym k.0, h.1 ∙ sym k.1, h.2 ∙ sym k.2))
      (λ line a rest more. then-one (TracesItem types (item.Do line a)) (TracesItems types rest) (λ s t u shown other end also h k.
      does-one line a s t u shown other end also ((TracesItem-Do types line a s shown t end).0 h) ((TracesItem-Do types line a s other u also).0 k)) more)
      (λ line c taken other rest one two more. then-one (TracesItem types (item.If line c taken other)) (TracesItems types rest)
      (λ s t u shown said end also h k. chosen-one line (TracesItems types taken) (TracesItems types other) one two (truth_of s c) s t u shown said end also
      ((TracesItem-If types line c taken other s shown t end).0 h) ((TracesItem-If types line c taken other s said u also).0 k)) more)

  abbrev OneCode : Code → Type 0
  OneCode c = One (TracesCode types c)

  after-items : (c : Code) → One (TracesTail types c.tail) → OneCode c
  after-items c next s t u shown other end also h k =
      then-one (TracesItems types c.items) (TracesTail types c.tail) (items-one c.items) next s t u shown other end also
      ((TracesCode-is types c s shown t end).0 h) ((TracesCode-is types c s other u also).0 k)

  tail-as : (x y : Tail) → x ≡ y → One (TracesTail types y) → One (TracesTail types x)
  tail-as x y is one = subst (λ (z : Tail). One (TracesTail types z)) (sym is) one

  cut-one : (c : Code) (place : ℕ) → c.tail ≡ tail.Cut place → OneCode c
  cut-one c place is = after-items c (tail-as c.tail (tail.Cut place) is (λ s t u shown other end also h k.
      let one = (TracesTail-Cut types place s shown t end).0 h in let two = (TracesTail-Cut types place s other u also).0 k in
      (one.0 ∙ sym two.0, one.1 ∙ sym two.1, one.2 ∙ sym two.2)))

  branch-one : (c : Code) (line : ℕ) (b : Cond) (taken other : Code) → c.tail ≡ tail.Branch line b taken other → OneCode taken → OneCode other → OneCode c
  branch-one c line b taken other is one two = after-items c (tail-as c.tail (tail.Branch line b taken other) is (λ s t u shown said end also h k.
      chosen-one line (TracesCode types taken) (TracesCode types other) one two (truth_of s b) s t u shown said end also
      ((TracesTail-Branch types line b taken other s shown t end).0 h) ((TracesTail-Branch types line b taken other s said u also).0 k)))

  pub code-one : (c : Code) → OneCode c
  code-one = codes-induction OneCode cut-one branch-one
