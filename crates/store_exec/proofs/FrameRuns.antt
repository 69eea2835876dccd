-- What a run leaves as it was.
use Rattle.std.proofs.Common.{◌≡◌, inl, inr, ℕ, Bool, true, false, List, [], ◌∷◌, map, Result, Ok, Err, refl, sym, ap, ap₂, ◌∙◌, subst, ◌⊎◌}
use mathlib.Core.Path.{transport}
use Rattle.store_core.specs.Tables.{TypeEntry}
use Rattle.store_core.specs.Stores.{StoreMap, IsAbove}
use Rattle.store_logic.specs.declared.act.Act.{Act}
use Rattle.store_logic.specs.declared.cond.Cond.{Cond}
use Rattle.store_exec.specs.declared.cause.Cause.{Cause}
use Rattle.store_exec.specs.declared.code.Item.{Item, roll-Item}
use Rattle.store_exec.specs.declared.code.Item.TheVariants as item
use Rattle.store_exec.specs.declared.code.Item.TheVariants.{rolls-Do, rolls-If}
use Rattle.store_exec.specs.declared.code.Item.TheOpen.{Item-F}
use Rattle.store_exec.specs.declared.code.Item.TheFolds.{rec-roll-Item, map-Item}
use Rattle.store_exec.specs.declared.code.Code.{Code, roll-out-Code, out-Code}
use Rattle.store_exec.specs.declared.code.Tail.{Tail}
use Rattle.store_exec.specs.declared.code.Tail.TheVariants as tail
use Rattle.store_exec.specs.declared.code.Tail.TheVariants.{rolls-Branch}
use Rattle.store_exec.specs.declared.code.Tail.TheOpen.{Tail-F, Code-F}
use Rattle.store_exec.specs.declared.code.Tail.TheFolds.{rec-Tail, rec-roll-Tail, rec-roll-Code, map-Tail, map-Code}
use Rattle.store_exec.specs.declared.outcome.Outcome.TheVariants as outcome
use Rattle.store_exec.specs.Steps.{truth_of}
use Rattle.store_exec.specs.Runs.{ByTruth, RunsItem, RunsItems, Branches, RunsCode}
use Rattle.store_exec.specs.Frames.{Acts, ActsInOrder, ActsByTruth, ActsNode, ActsOfItem, ActsOfItems, ActsOfTail, ActsOfCodeNode, ActsOfRun}
use Rattle.store_exec.proofs.RunLemmas.{RunsItem-Do, RunsItem-If}
use Rattle.store_exec.proofs.CodeLemmas.{RunsTail, RunsCode-is, RunsTail-Cut, RunsTail-Branch}
use Rattle.store_exec.proofs.InductionLemmas.{items-induction, codes-induction}
use Rattle.store_exec.proofs.FrameSteps.{Goes, Goes-more, Goes-same, Goes-then, Step-goes}

module _ (types : List TypeEntry) where
  ActsInOrder-map : {Part : Type 0} (whole : Part → Item) (acts : Item → StoreMap → Acts) (parts : List Part) →
      ActsInOrder (λ part. RunsItem types (whole part)) (λ part. acts (whole part)) parts ≡ ActsInOrder (RunsItem types) acts (map whole parts)
  ActsInOrder-map whole acts [] = refl
  ActsInOrder-map whole acts (part ∷ parts) =
      ap (λ (M : StoreMap → Acts). λ (s u : StoreMap) (a : Act). acts (whole part) s u a ⊎ ((t : StoreMap) × RunsItem types (whole part) s (Ok t) × M t u a))
      (ActsInOrder-map whole acts parts)

  natural : (Part : Type 0) (whole : Part → Item) (acts : Item → StoreMap → Acts) (x : Item-F Part) →
      ActsNode types Part whole (λ p. acts (whole p)) x ≡ ActsNode types Item (λ i. i) acts (map-Item Part Item whole x)
  natural Part whole acts (Item-F.Do line a) = refl
  natural Part whole acts (Item-F.If line c taken other) =
      ap₂ (λ (M N : StoreMap → Acts). λ (s u : StoreMap) (a : Act). ActsByTruth (truth_of s c) (M s) (N s) u a)
      (ActsInOrder-map whole acts taken) (ActsInOrder-map whole acts other)

  acts-roll : (x : Item-F Item) → ActsOfItem types (roll-Item x) ≡ ActsNode types Item (λ i. i) (ActsOfItem types) x
  acts-roll = rec-roll-Item (StoreMap → Acts) (ActsNode types) natural

  -- the acts of an item's form are acts of the item
  back_along : {P Q : StoreMap → Acts} → P ≡ Q → (s u : StoreMap) (a : Act) → Q s u a → P s u a
  back_along path s u a = transport (λ i. sym path i s u a)

  acts-Do : (line : ℕ) (b : Act) (s u : StoreMap) (a : Act) → (u ≡ s) × (a ≡ b) → ActsOfItem types (item.Do line b) s u a
  acts-Do line b = back_along (ap (ActsOfItem types) (sym (rolls-Do line b)) ∙ acts-roll (Item-F.Do line b))

  acts-If : (line : ℕ) (c : Cond) (taken other : List Item) (s u : StoreMap) (a : Act) →
      ActsByTruth (truth_of s c) (ActsOfItems types taken s) (ActsOfItems types other s) u a → ActsOfItem types (item.If line c taken other) s u a
  acts-If line c taken other = back_along (ap (ActsOfItem types) (sym (rolls-If line c taken other)) ∙ acts-roll (Item-F.If line c taken other))

  -- ---- items

  abbrev Leaves : List Item → Type 0
  Leaves xs = (s t : StoreMap) → IsAbove s → RunsItems types xs s (Ok t) → Goes (ActsOfItems types xs s) s t

  first-then : (i : Item) (rest : List Item) → ((s u : StoreMap) → IsAbove s → RunsItem types i s (Ok u) → Goes (ActsOfItem types i s) s u) →
      Leaves rest → Leaves (i ∷ rest)
  first-then i rest one more s t above (inl (u, first, after)) =
      let h = one s u above first in
      let k = more u t h.above after in
      Goes-then (ActsOfItems types (i ∷ rest) s) s u t above
      (Goes-more (ActsOfItem types i s) (ActsOfItems types (i ∷ rest) s) (λ v a g. inl g) s u h)
      (Goes-more (ActsOfItems types rest u) (ActsOfItems types (i ∷ rest) s) (λ v a g. inr (u, first, g)) u t k)
  first-then i rest one more s t above (inr (fault, first, is)) = absurd cc

  chosen-leaves : (line : ℕ) (c : Cond) (taken other : List Item) → Leaves taken → Leaves other → (s u : StoreMap) → IsAbove s →
      (r : Result Bool Cause) → truth_of s c ≡ r → ByTruth line r (RunsItems types taken s) (RunsItems types other s) (Ok u) →
      Goes (ActsOfItem types (item.If line c taken other) s) s u
  chosen-leaves line c taken other one two s u above (Ok true) is k =
      Goes-more (ActsOfItems types taken s) (ActsOfItem types (item.If line c taken other) s) (λ v a g. acts-If line c taken other s v a
      (subst (λ r. ActsByTruth r (ActsOfItems types taken s) (ActsOfItems types other s) v a) (sym is) g)) s u (one s u above k)
  chosen-leaves line c taken other one two s u above (Ok false) is k =
      Goes-more (ActsOfItems types other s) (ActsOfItem types (item.If line c taken other) s) (λ v a g. acts-If line c taken other s v a
      (subst (λ r. ActsByTruth r (ActsOfItems types taken s) (ActsOfItems types other s) v a) (sym is) g)) s u (two s u above k)
  chosen-leaves line c taken other one two s u above (Err why) is k = absurd cc

  pub items-leave : (xs : List Item) → Leaves xs
  items-leave = items-induction Leaves
      (λ s t above k. let same : t ≡ s = cc in subst (Goes (ActsOfItems types [] s) s) (sym same) (Goes-same (ActsOfItems types [] s) s above))
      (λ line a rest more. first-then (item.Do line a) rest (λ s u above k.
      Goes-more (λ v b. (v ≡ s) × (b ≡ a)) (ActsOfItem types (item.Do line a) s) (acts-Do line a s) s u
      (Step-goes types s above a u ((RunsItem-Do types line a s (Ok u)).0 k))) more)
      (λ line c taken other rest one two more. first-then (item.If line c taken other) rest (λ s u above k.
      chosen-leaves line c taken other one two s u above (truth_of s c) refl ((RunsItem-If types line c taken other s (Ok u)).0 k)) more)

  -- ---- code

  abbrev ActsAfter : Tail → StoreMap → Acts
  ActsAfter = rec-Tail (StoreMap → Acts) (StoreMap → Acts) (ActsOfTail types) (ActsOfCodeNode types)

  natural-tail : (T C : Type 0) (v : T → Tail) (w : C → Code) (k : Tail → StoreMap → Acts) (l : Code → StoreMap → Acts) (x : Tail-F T C) →
      ActsOfTail types T C v w (λ p. k (v p)) (λ p. l (w p)) x ≡ ActsOfTail types Tail Code (λ y. y) (λ y. y) k l (map-Tail T C Tail Code v w x)
  natural-tail T C v w k l (Tail-F.Cut place) = refl
  natural-tail T C v w k l (Tail-F.Branch line c taken other) = refl

  natural-code : (T C : Type 0) (v : T → Tail) (w : C → Code) (k : Tail → StoreMap → Acts) (l : Code → StoreMap → Acts) (x : Code-F T C) →
      ActsOfCodeNode types T C v w (λ p. k (v p)) (λ p. l (w p)) x ≡ ActsOfCodeNode types Tail Code (λ y. y) (λ y. y) k l (map-Code T C Tail Code v w x)
  natural-code T C v w k l x = refl

  acts-code : (c : Code) (s u : StoreMap) (a : Act) →
      ActsOfItems types c.items s u a ⊎ ((t : StoreMap) × RunsItems types c.items s (Ok t) × ActsAfter c.tail t u a) → ActsOfRun types c s u a
  acts-code c = back_along (ap (ActsOfRun types) (sym (roll-out-Code c))
      ∙ rec-roll-Code (StoreMap → Acts) (StoreMap → Acts) (ActsOfTail types) (ActsOfCodeNode types) natural-code (out-Code c))

  acts-Branch : (line : ℕ) (b : Cond) (taken other : Code) (s u : StoreMap) (a : Act) →
      ActsByTruth (truth_of s b) (ActsOfRun types taken s) (ActsOfRun types other s) u a → ActsAfter (tail.Branch line b taken other) s u a
  acts-Branch line b taken other = back_along (ap ActsAfter (sym (rolls-Branch line b taken other))
      ∙ rec-roll-Tail (StoreMap → Acts) (StoreMap → Acts) (ActsOfTail types) (ActsOfCodeNode types) natural-tail (Tail-F.Branch line b taken other))

  abbrev LeavesCode : Code → Type 0
  LeavesCode c = (s t : StoreMap) (place : ℕ) → IsAbove s → RunsCode types c s (outcome.End place t) → Goes (ActsOfRun types c s) s t

  -- the items, and then what follows them
  after-items : (c : Code) → ((u t : StoreMap) (place : ℕ) → IsAbove u → RunsTail types c.tail u (outcome.End place t) → Goes (ActsAfter c.tail u) u t) →
      LeavesCode c
  after-items c next s t place above runs = elim ((RunsCode-is types c s (outcome.End place t)).0 runs) [
    | inl (u, items, after) ↦
        let h = items-leave c.items s u above items in
        let k = next u t place h.above after in
        Goes-then (ActsOfRun types c s) s u t above
        (Goes-more (ActsOfItems types c.items s) (ActsOfRun types c s) (λ v a g. acts-code c s v a (inl g)) s u h)
        (Goes-more (ActsAfter c.tail u) (ActsOfRun types c s) (λ v a g. acts-code c s v a (inr (u, items, g))) u t k)
    | inr (fault, items, end) ↦ absurd cc
  ]

  cut-leaves : (c : Code) (there : ℕ) → c.tail ≡ tail.Cut there → LeavesCode c
  cut-leaves c there is = after-items c (λ u t place above after.
      let end : outcome.End place t ≡ outcome.End there u =
      (RunsTail-Cut types there u (outcome.End place t)).0 (subst (λ (x : Tail). RunsTail types x u (outcome.End place t)) is after) in
      let same : t ≡ u = cc in
      subst (Goes (ActsAfter c.tail u) u) (sym same) (Goes-same (ActsAfter c.tail u) u above))

  branches-leave : (line : ℕ) (b : Cond) (taken other : Code) → LeavesCode taken → LeavesCode other → (u t : StoreMap) (place : ℕ) → IsAbove u →
      (r : Result Bool Cause) → truth_of u b ≡ r → Branches line r (RunsCode types taken u) (RunsCode types other u) (outcome.End place t) →
      Goes (ActsAfter (tail.Branch line b taken other) u) u t
  branches-leave line b taken other one two u t place above (Ok true) is k =
      Goes-more (ActsOfRun types taken u) (ActsAfter (tail.Branch line b taken other) u) (λ v a g. acts-Branch line b taken other u v a
      (subst (λ r. ActsByTruth r (ActsOfRun types taken u) (ActsOfRun types other u) v a) (sym is) g)) u t (one u t place above k)
  branches-leave line b taken other one two u t place above (Ok false) is k =
      Goes-more (ActsOfRun types other u) (ActsAfter (tail.Branch line b taken other) u) (λ v a g. acts-Branch line b taken other u v a
      (subst (λ r. ActsByTruth r (ActsOfRun types taken u) (ActsOfRun types other u) v a) (sym is) g)) u t (two u t place above k)
  branches-leave line b taken other one two u t place above (Err why) is k = absurd cc

  branch-leaves : (c : Code) (line : ℕ) (b : Cond) (taken other : Code) → c.tail ≡ tail.Branch line b taken other → LeavesCode taken →
      LeavesCode other → LeavesCode c
  branch-leaves c line b taken other is one two = after-items c (λ u t place above after.
      subst (λ (x : Tail). Goes (ActsAfter x u) u t) (sym is) (branches-leave line b taken other one two u t place above (truth_of u b) refl
      ((RunsTail-Branch types line b taken other u (outcome.End place t)).0
      (subst (λ (x : Tail). RunsTail types x u (outcome.End place t)) is after))))

  pub code-leaves : (c : Code) → LeavesCode c
  code-leaves = codes-induction LeavesCode cut-leaves branch-leaves
