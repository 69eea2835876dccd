-- Code ends at one of the cuts that its tails name.
use Rattle.std.proofs.Common.{◌≡◌, ◌<◌, ℕ, Bool, true, false, List, [], ◌∷◌, ◌++◌, Result, Ok, Err, inl, inr, sym, ap, ◌∙◌, subst}
use Rattle.std.specs.List.{AllByRecursion}
use Rattle.store_core.specs.Tables.{TypeEntry}
use Rattle.store_core.specs.Stores.{StoreMap}
use Rattle.store_logic.specs.declared.cond.Cond.{Cond}
use Rattle.store_logic.proofs.ExpandingLists.{all-first, all-second}
use Rattle.store_exec.specs.declared.cause.Cause.{Cause}
use Rattle.store_exec.specs.declared.code.Code.{Code, out-Code, roll-out-Code}
use Rattle.store_exec.specs.declared.code.Tail.{Tail}
use Rattle.store_exec.specs.declared.code.Tail.TheVariants as tail
use Rattle.store_exec.specs.declared.code.Tail.TheOpen.{Tail-F}
use Rattle.store_exec.specs.declared.code.Tail.TheFolds.{fold-Tail, fold-roll-Tail, fold-roll-Code}
use Rattle.store_exec.specs.declared.outcome.Outcome.TheVariants as outcome
use Rattle.store_exec.specs.Steps.{truth_of}
use Rattle.store_exec.specs.Runs.{Branches, RunsCode}
use Rattle.store_exec.proofs.CodeLemmas.{code-cut, code-branch}
use Rattle.store_exec.proofs.InductionLemmas.{codes-induction}
use Rattle.store_ends.specs.Places.{places_at, places_of}

-- ---- the places that a code names

abbrev places_behind : Tail → List ℕ
places_behind = fold-Tail (List ℕ) (List ℕ) places_at (λ x. x.tail)

places-code : (c : Code) → places_of c ≡ places_behind c.tail
places-code c = ap places_of (sym (roll-out-Code c)) ∙ fold-roll-Code (List ℕ) (List ℕ) places_at (λ x. x.tail) (out-Code c)

places-Cut : (place : ℕ) → places_behind (tail.Cut place) ≡ place ∷ []
places-Cut place = ap places_behind (sym (tail.rolls-Cut place)) ∙ fold-roll-Tail (List ℕ) (List ℕ) places_at (λ x. x.tail) (Tail-F.Cut place)

places-Branch : (line : ℕ) (b : Cond) (taken other : Code) → places_behind (tail.Branch line b taken other) ≡ places_of taken ++ places_of other
places-Branch line b taken other = ap places_behind (sym (tail.rolls-Branch line b taken other))
    ∙ fold-roll-Tail (List ℕ) (List ℕ) places_at (λ x. x.tail) (Tail-F.Branch line b taken other)

-- ---- where it ends

module _ (types : List TypeEntry) (n : ℕ) where
  abbrev AreBelow : List ℕ → Type 0
  AreBelow = AllByRecursion (λ place. place < n)

  abbrev EndsBelow : Code → Type 0
  EndsBelow c = (s t : StoreMap) (place : ℕ) → AreBelow (places_of c) → RunsCode types c s (outcome.End place t) → place < n

  at-cut : (c : Code) (there : ℕ) → c.tail ≡ tail.Cut there → EndsBelow c
  at-cut c there is s t place below runs = elim ((code-cut types c there is s (outcome.End place t)).0 runs) [
    | inl (u, items, same) ↦
        let at : there ≡ place = cc in
        subst (λ k. k < n) at (subst AreBelow (places-code c ∙ ap places_behind is ∙ places-Cut there) below).0
    | inr (fault, items, end) ↦ absurd cc
  ]

  branches-below : (line : ℕ) (taken other : Code) → EndsBelow taken → EndsBelow other → (u t : StoreMap) (place : ℕ) →
      AreBelow (places_of taken ++ places_of other) → (r : Result Bool Cause) →
      Branches line r (RunsCode types taken u) (RunsCode types other u) (outcome.End place t) → place < n
  branches-below line taken other one two u t place below (Ok true) h =
      one u t place (all-first (λ k. k < n) (places_of taken) (places_of other) below) h
  branches-below line taken other one two u t place below (Ok false) h =
      two u t place (all-second (λ k. k < n) (places_of taken) (places_of other) below) h
  branches-below line taken other one two u t place below (Err why) h = absurd cc

  at-branch : (c : Code) (line : ℕ) (b : Cond) (taken other : Code) → c.tail ≡ tail.Branch line b taken other → EndsBelow taken → EndsBelow other →
      EndsBelow c
  at-branch c line b taken other is one two s t place below runs = elim ((code-branch types c line b taken other is s (outcome.End place t)).0 runs) [
    | inl (u, items, after) ↦
        branches-below line taken other one two u t place
        (subst AreBelow (places-code c ∙ ap places_behind is ∙ places-Branch line b taken other) below) (truth_of u b) after
    | inr (fault, items, end) ↦ absurd cc
  ]

  pub ends-below : (c : Code) → EndsBelow c
  ends-below = codes-induction EndsBelow at-cut at-branch
