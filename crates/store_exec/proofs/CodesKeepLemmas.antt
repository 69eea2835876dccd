-- Codes keep a store fitting its tables and fresh, and make no more cells than they have `new`.
use Rattle.std.proofs.Common.{◌≡◌, inl, inr, ℕ, ◌+◌, Bool, true, false, List, Result, Ok, Err, sym, ap, ◌∙◌, subst, arith}
use Rattle.store_core.specs.Tables.{TypeEntry, VarEntry}
use Rattle.store_core.specs.Stores.{StoreMap}
use Rattle.store_logic.specs.declared.cond.Cond.{Cond}
use Rattle.store_exec.specs.declared.cause.Cause.{Cause}
use Rattle.store_exec.specs.declared.code.Code.{Code}
use Rattle.store_exec.specs.declared.code.Tail.{Tail}
use Rattle.store_exec.specs.declared.code.Tail.TheVariants as tail
use Rattle.store_exec.specs.declared.outcome.Outcome.TheVariants as outcome
use Rattle.store_exec.specs.Steps.{truth_of}
use Rattle.store_exec.specs.Runs.{Branches, RunsCode}
use Rattle.store_exec.specs.Fits.{CodeFits, news_of_code}
use Rattle.store_exec.proofs.KeepLemmas.{IsWell}
use Rattle.store_exec.proofs.ItemsKeepLemmas.{IsWellAfter, items-keep}
use Rattle.store_exec.proofs.CanRunLemmas.{TailFits, code-fits, branch-fits, news_behind, news-code, news-branch}
use Rattle.store_exec.proofs.CodeLemmas.{RunsTail, RunsCode-is, RunsTail-Cut, RunsTail-Branch}
use Rattle.store_exec.proofs.InductionLemmas.{codes-induction}

module _ (types : List TypeEntry) (vars : List VarEntry) where
  abbrev Keeps : Code → Type 0
  Keeps c = (s t : StoreMap) (place : ℕ) → IsWell types vars s → CodeFits types vars c → RunsCode types c s (outcome.End place t) →
      IsWellAfter types vars s (news_of_code c) t

  at-cut : (c : Code) (there : ℕ) → c.tail ≡ tail.Cut there → Keeps c
  at-cut c there is s t place well fits runs = elim ((RunsCode-is types c s (outcome.End place t)).0 runs) [
    | inl (u, items, after) ↦
        let k = items-keep types vars c.items s u well (code-fits types vars c fits).0 items in
        let end : outcome.End place t ≡ outcome.End there u =
        (RunsTail-Cut types there u (outcome.End place t)).0 (subst (λ (x : Tail). RunsTail types x u (outcome.End place t)) is after) in
        let same : t ≡ u = cc in
        let own = news-code c in
        let bound = k.next in
        subst (IsWellAfter types vars s (news_of_code c)) (sym same) (record { well = k.well; next = omega (arith, own, bound) })
    | inr (fault, items, end) ↦ absurd cc
  ]

  branches-keep : (line : ℕ) (taken other : Code) → Keeps taken → Keeps other → CodeFits types vars taken → CodeFits types vars other →
      (u t : StoreMap) (place : ℕ) → IsWell types vars u → (r : Result Bool Cause) →
      Branches line r (RunsCode types taken u) (RunsCode types other u) (outcome.End place t) →
      IsWellAfter types vars u (news_of_code taken + news_of_code other) t
  branches-keep line taken other one two fits also u t place well (Ok true) h =
      let k = one u t place well fits h in let bound = k.next in record { well = k.well; next = omega (arith, bound) }
  branches-keep line taken other one two fits also u t place well (Ok false) h =
      let k = two u t place well also h in let bound = k.next in record { well = k.well; next = omega (arith, bound) }
  branches-keep line taken other one two fits also u t place well (Err why) h = absurd cc

  at-branch : (c : Code) (line : ℕ) (b : Cond) (taken other : Code) → c.tail ≡ tail.Branch line b taken other → Keeps taken → Keeps other → Keeps c
  at-branch c line b taken other is one two s t place well fits runs = elim ((RunsCode-is types c s (outcome.End place t)).0 runs) [
    | inl (u, items, after) ↦
        let whole = code-fits types vars c fits in
        let k = items-keep types vars c.items s u well whole.0 items in
        let parts = branch-fits types vars line b taken other (subst (TailFits types vars) is whole.1) in
        let rest = branches-keep line taken other one two parts.1 parts.2 u t place k.well (truth_of u b)
        ((RunsTail-Branch types line b taken other u (outcome.End place t)).0
        (subst (λ (x : Tail). RunsTail types x u (outcome.End place t)) is after)) in
        let own = news-code c in
        let behind = ap news_behind is ∙ news-branch line b taken other in
        let bound = k.next in
        let more = rest.next in
        record { well = rest.well; next = omega (arith, own, behind, bound, more) }
    | inr (fault, items, end) ↦ absurd cc
  ]

  -- a code keeps the store so
  pub code-keeps : (c : Code) → Keeps c
  code-keeps = codes-induction Keeps at-cut at-branch
