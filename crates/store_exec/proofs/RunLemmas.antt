-- Where items end.
use Rattle.std.proofs.Common.{◌≡◌, ◌↔◌, ◌⊎◌, inl, inr, ℕ, Bool, List, [], ◌∷◌, ◌++◌, map, Result, Ok, Err, refl, sym, ap, ap₂, ◌∙◌, subst}
use mathlib.Core.Path.{transport}
use Rattle.store_core.specs.Tables.{TypeEntry}
use Rattle.store_core.specs.Stores.{StoreMap}
use Rattle.store_logic.specs.declared.act.Act.{Act}
use Rattle.store_logic.specs.declared.cond.Cond.{Cond}
use Rattle.store_exec.specs.declared.cause.Cause.{Cause}
use Rattle.store_exec.specs.declared.fault.Fault.{Fault}
use Rattle.store_exec.specs.declared.code.Item.{Item, roll-Item}
use Rattle.store_exec.specs.declared.code.Item.TheVariants as item
use Rattle.store_exec.specs.declared.code.Item.TheVariants.{rolls-Do, rolls-If}
use Rattle.store_exec.specs.declared.code.Item.TheOpen.{Item-F}
use Rattle.store_exec.specs.declared.code.Item.TheFolds.{rec-roll-Item, map-Item}
use Rattle.store_exec.specs.Steps.{truth_of, Step}
use Rattle.store_exec.specs.Runs.{Ending, InOrder, Does, ByTruth, RunsNode, RunsItem, RunsItems}

-- items one after the other, each by what stands for it
InOrder-map : {Part : Type 0} (whole : Part → Item) (runs : Item → StoreMap → Ending → Type 0) (parts : List Part) →
    InOrder (λ p. runs (whole p)) parts ≡ InOrder runs (map whole parts)
InOrder-map whole runs [] = refl
InOrder-map whole runs (part ∷ parts) =
    ap (λ (M : StoreMap → Ending → Type 0). λ (s : StoreMap) (end : Ending).
    ((t : StoreMap) × runs (whole part) s (Ok t) × M t end) ⊎ ((fault : Fault) × runs (whole part) s (Err fault) × (end ≡ Err fault)))
    (InOrder-map whole runs parts)

module _ (types : List TypeEntry) where
  natural : (Part : Type 0) (whole : Part → Item) (runs : Item → StoreMap → Ending → Type 0) (x : Item-F Part) →
      RunsNode types Part whole (λ p. runs (whole p)) x ≡ RunsNode types Item (λ i. i) runs (map-Item Part Item whole x)
  natural Part whole runs (Item-F.Do line a) = refl
  natural Part whole runs (Item-F.If line c taken other) =
      ap₂ (λ (M N : StoreMap → Ending → Type 0). λ (s : StoreMap) (end : Ending). ByTruth line (truth_of s c) (M s) (N s) end)
      (InOrder-map whole runs taken) (InOrder-map whole runs other)

  RunsItem-roll : (x : Item-F Item) → RunsItem types (roll-Item x) ≡ RunsNode types Item (λ i. i) (RunsItem types) x
  RunsItem-roll = rec-roll-Item (StoreMap → Ending → Type 0) (RunsNode types) natural

  both_ways : {P Q : StoreMap → Ending → Type 0} → P ≡ Q → (s : StoreMap) (end : Ending) → P s end ↔ Q s end
  both_ways path s end = (transport (λ i. path i s end), transport (λ i. sym path i s end))

  pub RunsItem-Do : (line : ℕ) (a : Act) (s : StoreMap) (end : Ending) → RunsItem types (item.Do line a) s end ↔ Does types line s a end
  RunsItem-Do line a = both_ways (ap (RunsItem types) (sym (rolls-Do line a)) ∙ RunsItem-roll (Item-F.Do line a))

  pub RunsItem-If : (line : ℕ) (c : Cond) (taken other : List Item) (s : StoreMap) (end : Ending) → RunsItem types (item.If line c taken other) s end ↔
      ByTruth line (truth_of s c) (RunsItems types taken s) (RunsItems types other s) end
  RunsItem-If line c taken other = both_ways (ap (RunsItem types) (sym (rolls-If line c taken other)) ∙ RunsItem-roll (Item-F.If line c taken other))

  -- ---- lists

  -- the first items end in a store from which the others go on, or a fault stops them
  pub InOrder-split : (xs ys : List Item) (s : StoreMap) (end : Ending) → RunsItems types (xs ++ ys) s end →
      ((t : StoreMap) × RunsItems types xs s (Ok t) × RunsItems types ys t end)
      ⊎ ((fault : Fault) × RunsItems types xs s (Err fault) × (end ≡ Err fault))
  InOrder-split [] ys s end h = inl (s, refl, h)
  InOrder-split (x ∷ xs) ys s end (inl (t, first, rest)) = elim (InOrder-split xs ys t end rest) [
    | inl at_end ↦ inl (at_end.0, inl (t, first, at_end.1), at_end.2)
    | inr stopped ↦ inr (stopped.0, inl (t, first, stopped.1), stopped.2)
  ]
  InOrder-split (x ∷ xs) ys s end (inr (fault, first, is)) = inr (fault, inr (fault, first, refl), is)

  -- a list that is chosen, and what follows it
  pub If-goes : (line : ℕ) (c : Cond) (taken other rest : List Item) (s : StoreMap) (truth : Bool) (chosen : List Item) →
      truth_of s c ≡ Ok truth → ((end : Ending) → RunsItems types chosen s end → ByTruth line (Ok truth) (RunsItems types taken s) (RunsItems types other s)
      end) →
      (end : Ending) → RunsItems types (chosen ++ rest) s end → RunsItems types (item.If line c taken other ∷ rest) s end
  If-goes line c taken other rest s truth chosen is by end h = elim (InOrder-split chosen rest s end h) [
    | inl at_end ↦ inl (at_end.0, whole (Ok at_end.0) at_end.1, at_end.2)
    | inr stopped ↦ inr (stopped.0, whole (Err stopped.0) stopped.1, stopped.2)
  ]
    where
      whole : (e : Ending) → RunsItems types chosen s e → RunsItem types (item.If line c taken other) s e
      whole e g = (RunsItem-If line c taken other s e).1 (subst
          (λ (r : Result Bool Cause). ByTruth line r (RunsItems types taken s) (RunsItems types other s) e) (sym is) (by e g))

  pub If-stops : (line : ℕ) (c : Cond) (taken other rest : List Item) (s : StoreMap) (fault : Fault) → truth_of s c ≡ Err fault.cause → fault.line ≡ line →
      RunsItems types (item.If line c taken other ∷ rest) s (Err fault)
  If-stops line c taken other rest s fault is at = inr (
    fault,
    (RunsItem-If line c taken other s (Err fault)).1
        (subst (λ (r : Result Bool Cause). ByTruth line r (RunsItems types taken s) (RunsItems types other s) (Err fault)) (sym is)
        (ap (λ (n : ℕ). Err (record { cause = fault.cause; line = n })) at)),
    refl,
  )

  pub Do-goes : (line : ℕ) (a : Act) (rest : List Item) (s t : StoreMap) → Step types s a (Ok t) → (end : Ending) → RunsItems types rest t end →
      RunsItems types (item.Do line a ∷ rest) s end
  Do-goes line a rest s t step end h = inl (t, (RunsItem-Do line a s (Ok t)).1 step, h)

  pub Do-stops : (line : ℕ) (a : Act) (rest : List Item) (s : StoreMap) (fault : Fault) → Step types s a (Err fault.cause) → fault.line ≡ line →
      RunsItems types (item.Do line a ∷ rest) s (Err fault)
  Do-stops line a rest s fault step at = inr (fault, (RunsItem-Do line a s (Err fault)).1 (step, at), refl)
