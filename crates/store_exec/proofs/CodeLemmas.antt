-- Where code leads.
use Rattle.std.proofs.Common.{◌≡◌, ◌↔◌, inl, inr, ℕ, Bool, true, false, List, Result, Ok, Err, refl, sym, ap, ◌∙◌, subst}
use mathlib.Core.Path.{transport}
use Rattle.store_core.specs.Tables.{TypeEntry}
use Rattle.store_core.specs.Stores.{StoreMap}
use Rattle.store_logic.specs.declared.cond.Cond.{Cond}
use Rattle.store_exec.specs.declared.cause.Cause.{Cause}
use Rattle.store_exec.specs.declared.fault.Fault.{Fault}
use Rattle.store_exec.specs.declared.outcome.Outcome.{Outcome}
use Rattle.store_exec.specs.declared.outcome.Outcome.TheVariants as outcome
use Rattle.store_exec.specs.declared.code.Code.{Code, roll-out-Code, out-Code}
use Rattle.store_exec.specs.declared.code.Tail.{Tail}
use Rattle.store_exec.specs.declared.code.Tail.TheVariants as tail
use Rattle.store_exec.specs.declared.code.Tail.TheVariants.{rolls-Cut, rolls-Branch}
use Rattle.store_exec.specs.declared.code.Tail.TheOpen.{Tail-F, Code-F}
use Rattle.store_exec.specs.declared.code.Tail.TheFolds.{rec-Tail, rec-roll-Tail, rec-roll-Code, map-Tail, map-Code}
use Rattle.store_exec.specs.Steps.{truth_of}
use Rattle.store_exec.specs.Runs.{Ending, RunsItems, Follows, Branches, TailNode, CodeNode, RunsCode}

module _ (types : List TypeEntry) where
  abbrev pub RunsTail : Tail → StoreMap → Outcome → Type 0
  RunsTail = rec-Tail (StoreMap → Outcome → Type 0) (StoreMap → Outcome → Type 0) (TailNode types) (CodeNode types)

  natural-tail : (T C : Type 0) (v : T → Tail) (w : C → Code) (k : Tail → StoreMap → Outcome → Type 0) (l : Code → StoreMap → Outcome → Type 0)
      (x : Tail-F T C) →
      TailNode types T C v w (λ p. k (v p)) (λ p. l (w p)) x ≡ TailNode types Tail Code (λ y. y) (λ y. y) k l (map-Tail T C Tail Code v w x)
  natural-tail T C v w k l (Tail-F.Cut place) = refl
  natural-tail T C v w k l (Tail-F.Branch line c taken other) = refl

  natural-code : (T C : Type 0) (v : T → Tail) (w : C → Code) (k : Tail → StoreMap → Outcome → Type 0) (l : Code → StoreMap → Outcome → Type 0)
      (x : Code-F T C) →
      CodeNode types T C v w (λ p. k (v p)) (λ p. l (w p)) x ≡ CodeNode types Tail Code (λ y. y) (λ y. y) k l (map-Code T C Tail Code v w x)
  natural-code T C v w k l x = refl

  both_ways : {P Q : StoreMap → Outcome → Type 0} → P ≡ Q → (s : StoreMap) (out : Outcome) → P s out ↔ Q s out
  both_ways path s out = (transport (λ i. path i s out), transport (λ i. sym path i s out))

  pub RunsCode-is : (c : Code) (s : StoreMap) (out : Outcome) → RunsCode types c s out ↔ Follows (RunsItems types c.items s) (RunsTail c.tail) out
  RunsCode-is c = both_ways (ap (RunsCode types) (sym (roll-out-Code c))
      ∙ rec-roll-Code (StoreMap → Outcome → Type 0) (StoreMap → Outcome → Type 0) (TailNode types) (CodeNode types) natural-code (out-Code c))

  pub RunsTail-Cut : (place : ℕ) (s : StoreMap) (out : Outcome) → RunsTail (tail.Cut place) s out ↔ (out ≡ outcome.End place s)
  RunsTail-Cut place = both_ways (ap RunsTail (sym (rolls-Cut place))
      ∙ rec-roll-Tail (StoreMap → Outcome → Type 0) (StoreMap → Outcome → Type 0) (TailNode types) (CodeNode types) natural-tail (Tail-F.Cut place))

  pub RunsTail-Branch : (line : ℕ) (c : Cond) (taken other : Code) (s : StoreMap) (out : Outcome) → RunsTail (tail.Branch line c taken other) s out ↔
      Branches line (truth_of s c) (RunsCode types taken s) (RunsCode types other s) out
  RunsTail-Branch line c taken other = both_ways (ap RunsTail (sym (rolls-Branch line c taken other))
      ∙ rec-roll-Tail (StoreMap → Outcome → Type 0) (StoreMap → Outcome → Type 0) (TailNode types) (CodeNode types) natural-tail
      (Tail-F.Branch line c taken other))

  -- ---- one code

  -- a fault of its items
  pub items-stop : (c : Code) (s : StoreMap) (fault : Fault) → RunsItems types c.items s (Err fault) → RunsCode types c s (outcome.Fail fault.cause fault.line)
  items-stop c s fault h = (RunsCode-is c s (outcome.Fail fault.cause fault.line)).1 (inr (fault, h, refl))

  -- its items, and then its cut
  pub items-cut : (c : Code) (s t : StoreMap) (place : ℕ) → c.tail ≡ tail.Cut place → RunsItems types c.items s (Ok t) → RunsCode types c s
      (outcome.End place t)
  items-cut c s t place is h = (RunsCode-is c s (outcome.End place t)).1
      (inl (t, h, subst (λ (x : Tail). RunsTail x t (outcome.End place t)) (sym is) ((RunsTail-Cut place t (outcome.End place t)).1 refl)))

  -- its items, and then a branch
  branch-goes : (c : Code) (s t : StoreMap) (line : ℕ) (b : Cond) (taken other : Code) (out : Outcome) → c.tail ≡ tail.Branch line b taken other →
      RunsItems types c.items s (Ok t) → Branches line (truth_of t b) (RunsCode types taken t) (RunsCode types other t) out → RunsCode types c s out
  branch-goes c s t line b taken other out is h g = (RunsCode-is c s out).1
      (inl (t, h, subst (λ (x : Tail). RunsTail x t out) (sym is) ((RunsTail-Branch line b taken other t out).1 g)))

  pub branch-true : (c : Code) (s t : StoreMap) (line : ℕ) (b : Cond) (taken other : Code) → c.tail ≡ tail.Branch line b taken other →
      RunsItems types c.items s (Ok t) → truth_of t b ≡ Ok true → (out : Outcome) → RunsCode types taken t out → RunsCode types c s out
  branch-true c s t line b taken other is h told out g = branch-goes c s t line b taken other out is h
      (subst (λ (r : Result Bool Cause). Branches line r (RunsCode types taken t) (RunsCode types other t) out) (sym told) g)

  pub branch-false : (c : Code) (s t : StoreMap) (line : ℕ) (b : Cond) (taken other : Code) → c.tail ≡ tail.Branch line b taken other →
      RunsItems types c.items s (Ok t) → truth_of t b ≡ Ok false → (out : Outcome) → RunsCode types other t out → RunsCode types c s out
  branch-false c s t line b taken other is h told out g = branch-goes c s t line b taken other out is h
      (subst (λ (r : Result Bool Cause). Branches line r (RunsCode types taken t) (RunsCode types other t) out) (sym told) g)

  pub branch-stop : (c : Code) (s t : StoreMap) (line : ℕ) (b : Cond) (taken other : Code) → c.tail ≡ tail.Branch line b taken other →
      RunsItems types c.items s (Ok t) → (fault : Fault) → truth_of t b ≡ Err fault.cause → fault.line ≡ line →
      RunsCode types c s (outcome.Fail fault.cause fault.line)
  branch-stop c s t line b taken other is h fault told at = branch-goes c s t line b taken other (outcome.Fail fault.cause fault.line) is h
      (subst (λ (r : Result Bool Cause). Branches line r (RunsCode types taken t) (RunsCode types other t) (outcome.Fail fault.cause fault.line)) (sym told)
      (ap (λ (n : ℕ). outcome.Fail fault.cause n) at))

  -- ---- what follows the items, as it is

  follows-same : (Items : Ending → Type 0) (Next Other : StoreMap → Outcome → Type 0) → ((t : StoreMap) (out : Outcome) → Next t out ↔ Other t out) →
      (out : Outcome) → Follows Items Next out ↔ Follows Items Other out
  follows-same Items Next Other each out = (
    λ k. elim k [ inl (t, h, n) ↦ inl (t, h, (each t out).0 n) | inr stopped ↦ inr stopped ],
    λ k. elim k [ inl (t, h, n) ↦ inl (t, h, (each t out).1 n) | inr stopped ↦ inr stopped ],
  )

  code-as : (c : Code) (Other : StoreMap → Outcome → Type 0) → ((t : StoreMap) (out : Outcome) → RunsTail c.tail t out ↔ Other t out) →
      (s : StoreMap) (out : Outcome) → RunsCode types c s out ↔ Follows (RunsItems types c.items s) Other out
  code-as c Other each s out =
      let whole = RunsCode-is c s out in let same = follows-same (RunsItems types c.items s) (RunsTail c.tail) Other each out in
      (λ k. same.0 (whole.0 k), λ k. whole.1 (same.1 k))

  pub code-cut : (c : Code) (place : ℕ) → c.tail ≡ tail.Cut place → (s : StoreMap) (out : Outcome) →
      RunsCode types c s out ↔ Follows (RunsItems types c.items s) (λ t o. o ≡ outcome.End place t) out
  code-cut c place is = code-as c (λ t o. o ≡ outcome.End place t)
      (λ t out. subst (λ (x : Tail). RunsTail x t out ↔ (out ≡ outcome.End place t)) (sym is) (RunsTail-Cut place t out))

  pub code-branch : (c : Code) (line : ℕ) (b : Cond) (taken other : Code) → c.tail ≡ tail.Branch line b taken other → (s : StoreMap) (out : Outcome) →
      RunsCode types c s out ↔ Follows (RunsItems types c.items s)
      (λ t. Branches line (truth_of t b) (RunsCode types taken t) (RunsCode types other t)) out
  code-branch c line b taken other is = code-as c (λ t. Branches line (truth_of t b) (RunsCode types taken t) (RunsCode types other t))
      (λ t out. subst (λ (x : Tail). RunsTail x t out ↔ Branches line (truth_of t b) (RunsCode types taken t) (RunsCode types other t) out) (sym is)
      (RunsTail-Branch line b taken other t out))
