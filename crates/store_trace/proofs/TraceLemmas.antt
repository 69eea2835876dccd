-- What items show.
use Rattle.std.proofs.Common.{◌≡◌, ◌↔◌, inl, inr, ℕ, Bool, true, false, List, [], ◌∷◌, ◌++◌, map, Result, Ok, Err, refl, sym, ap, ap₂, ◌∙◌, subst}
use Rattle.std.proofs.lemmas.List.{append_assoc}
use mathlib.Core.Path.{transport}
use Rattle.store_core.specs.Tables.{TypeEntry}
use Rattle.store_core.specs.Stores.{StoreMap}
use Rattle.store_logic.specs.declared.act.Act.{Act}
use Rattle.store_logic.specs.declared.cond.Cond.{Cond}
use Rattle.store_exec.specs.declared.cause.Cause.{Cause}
use Rattle.store_exec.specs.declared.fault.Fault.{Fault}
use Rattle.store_exec.specs.declared.code.Item.{Item, roll-Item}
use Rattle.store_exec.specs.declared.code.Item.TheVariants as item
use Rattle.store_exec.specs.declared.code.Item.TheVariants.{rolls-Do, rolls-If}
use Rattle.store_exec.specs.declared.code.Item.TheOpen.{Item-F}
use Rattle.store_exec.specs.declared.code.Item.TheFolds.{rec-roll-Item, map-Item}
use Rattle.store_exec.specs.Steps.{truth_of, Step}
use Rattle.store_trace.specs.declared.event.Event.{Event}
use Rattle.store_trace.specs.declared.event.Event.TheVariants as event
use Rattle.store_trace.specs.Showing.{events_of}
use Rattle.store_trace.specs.Tracing.{Tracing, Then, InOrder, Does, ByTruth, TracesNode, TracesItem, TracesItems}

abbrev pub Traced : Type 1
Traced = Tracing (Unit {0})

pub both_ways : {X : Type 0} {P Q : Tracing X} → P ≡ Q → (s : StoreMap) (shown : List Event) (t : StoreMap) (end : Result X Fault) →
    P s shown t end ↔ Q s shown t end
both_ways path s shown t end = (transport (λ i. path i s shown t end), transport (λ i. sym path i s shown t end))

-- items one after the other, each by what stands for it
InOrder-map : {Part : Type 0} (whole : Part → Item) (traces : Item → Traced) (parts : List Part) →
    InOrder (λ p. traces (whole p)) parts ≡ InOrder traces (map whole parts)
InOrder-map whole traces [] = refl
InOrder-map whole traces (part ∷ parts) = ap (λ (M : Traced). λ (s : StoreMap) (shown : List Event) (t : StoreMap) (end : Result (Unit {0}) Fault).
    Then (traces (whole part)) M s shown t end) (InOrder-map whole traces parts)

module _ (types : List TypeEntry) where
  natural : (Part : Type 0) (whole : Part → Item) (traces : Item → Traced) (x : Item-F Part) →
      TracesNode types Part whole (λ p. traces (whole p)) x ≡ TracesNode types Item (λ i. i) traces (map-Item Part Item whole x)
  natural Part whole traces (Item-F.Do line a) = refl
  natural Part whole traces (Item-F.If line c taken other) =
      ap₂ (λ (M N : Traced). λ (s : StoreMap). ByTruth line (truth_of s c) M N s)
      (InOrder-map whole traces taken) (InOrder-map whole traces other)

  TracesItem-roll : (x : Item-F Item) → TracesItem types (roll-Item x) ≡ TracesNode types Item (λ i. i) (TracesItem types) x
  TracesItem-roll = rec-roll-Item Traced (TracesNode types) natural

  pub TracesItem-Do : (line : ℕ) (a : Act) (s : StoreMap) (shown : List Event) (t : StoreMap) (end : Result (Unit {0}) Fault) →
      TracesItem types (item.Do line a) s shown t end ↔ Does types line a s shown t end
  TracesItem-Do line a = both_ways (ap (TracesItem types) (sym (rolls-Do line a)) ∙ TracesItem-roll (Item-F.Do line a))

  pub TracesItem-If : (line : ℕ) (c : Cond) (taken other : List Item) (s : StoreMap) (shown : List Event) (t : StoreMap) (end : Result (Unit {0}) Fault) →
      TracesItem types (item.If line c taken other) s shown t end ↔
      ByTruth line (truth_of s c) (TracesItems types taken) (TracesItems types other) s shown t end
  TracesItem-If line c taken other =
      both_ways (ap (TracesItem types) (sym (rolls-If line c taken other)) ∙ TracesItem-roll (Item-F.If line c taken other))

  -- ---- lists

  -- the first items end in a store from which the others go on, or a fault stops them
  pub InOrder-split : (xs ys : List Item) (s : StoreMap) (shown : List Event) (t : StoreMap) (end : Result (Unit {0}) Fault) →
      TracesItems types (xs ++ ys) s shown t end → Then (TracesItems types xs) (TracesItems types ys) s shown t end
  InOrder-split [] ys s shown t end h = inl (s, [], shown, (refl, refl, refl), h, refl)
  InOrder-split (x ∷ xs) ys s shown t end (inl (u, before, after, first, rest, is)) = elim (InOrder-split xs ys u after t end rest) [
    | inl (w, more, last, mid, behind, also) ↦ inl (
      w,
      before ++ more,
      last,
      inl (u, before, more, first, mid, refl),
      behind,
      is ∙ ap (λ (l : List Event). before ++ l) also ∙ sym (append_assoc before more last),
    )
    | inr (fault, mid, also) ↦ inr (fault, inl (u, before, after, first, mid, is), also)
  ]
  InOrder-split (x ∷ xs) ys s shown t end (inr (fault, first, is)) = inr (fault, inr (fault, first, refl), is)

  pub Do-goes : (line : ℕ) (a : Act) (rest : List Item) (s t : StoreMap) → Step types s a (Ok t) → (later : List Event) (u : StoreMap)
      (end : Result (Unit {0}) Fault) → TracesItems types rest t later u end →
      TracesItems types (item.Do line a ∷ rest) s (events_of types line s a ++ later) u end
  Do-goes line a rest s t step later u end h =
      inl (t, events_of types line s a, later, (TracesItem-Do line a s (events_of types line s a) t (Ok tt)).1 (step, refl), h, refl)

  pub Do-stops : (line : ℕ) (a : Act) (rest : List Item) (s : StoreMap) (fault : Fault) → Step types s a (Err fault.cause) → fault.line ≡ line →
      TracesItems types (item.Do line a ∷ rest) s [] s (Err fault)
  Do-stops line a rest s fault step at = inr (fault, (TracesItem-Do line a s [] s (Err fault)).1 (step, at, refl, refl), refl)

  -- a list that is chosen, and what follows it
  pub If-goes : (line : ℕ) (c : Cond) (taken other rest : List Item) (s : StoreMap) (truth : Bool) (chosen : List Item) → truth_of s c ≡ Ok truth →
      ((shown : List Event) (t : StoreMap) (end : Result (Unit {0}) Fault) → TracesItems types chosen s shown t end →
      ByTruth line (Ok truth) (TracesItems types taken) (TracesItems types other) s (event.Truth line truth ∷ shown) t end) →
      (later : List Event) (u : StoreMap) (end : Result (Unit {0}) Fault) → TracesItems types (chosen ++ rest) s later u end →
      TracesItems types (item.If line c taken other ∷ rest) s (event.Truth line truth ∷ later) u end
  If-goes line c taken other rest s truth chosen is by later u end h = elim (InOrder-split chosen rest s later u end h) [
    | inl (w, before, after, mid, behind, also) ↦ inl (
      w,
      event.Truth line truth ∷ before,
      after,
      whole before w (Ok tt) mid,
      behind,
      ap (λ (l : List Event). event.Truth line truth ∷ l) also,
    )
    | inr (fault, mid, also) ↦ inr (fault, whole later u (Err fault) mid, also)
  ]
    where
      whole : (shown : List Event) (t : StoreMap) (e : Result (Unit {0}) Fault) → TracesItems types chosen s shown t e →
          TracesItem types (item.If line c taken other) s (event.Truth line truth ∷ shown) t e
      whole shown t e g = (TracesItem-If line c taken other s (event.Truth line truth ∷ shown) t e).1 (subst
          (λ (r : Result Bool Cause). ByTruth line r (TracesItems types taken) (TracesItems types other) s (event.Truth line truth ∷ shown) t e) (sym is)
          (by shown t e g))

  pub If-true : (line : ℕ) (c : Cond) (taken other rest : List Item) (s : StoreMap) → truth_of s c ≡ Ok true → (later : List Event) (u : StoreMap)
      (end : Result (Unit {0}) Fault) → TracesItems types (taken ++ rest) s later u end →
      TracesItems types (item.If line c taken other ∷ rest) s (event.Truth line true ∷ later) u end
  If-true line c taken other rest s is = If-goes line c taken other rest s true taken is (λ shown t end h. (shown, h, refl))

  pub If-false : (line : ℕ) (c : Cond) (taken other rest : List Item) (s : StoreMap) → truth_of s c ≡ Ok false → (later : List Event) (u : StoreMap)
      (end : Result (Unit {0}) Fault) → TracesItems types (other ++ rest) s later u end →
      TracesItems types (item.If line c taken other ∷ rest) s (event.Truth line false ∷ later) u end
  If-false line c taken other rest s is = If-goes line c taken other rest s false other is (λ shown t end h. (shown, h, refl))

  pub If-stops : (line : ℕ) (c : Cond) (taken other rest : List Item) (s : StoreMap) (fault : Fault) → truth_of s c ≡ Err fault.cause →
      fault.line ≡ line → TracesItems types (item.If line c taken other ∷ rest) s [] s (Err fault)
  If-stops line c taken other rest s fault is at = inr (
    fault,
    (TracesItem-If line c taken other s [] s (Err fault)).1
        (subst (λ (r : Result Bool Cause). ByTruth line r (TracesItems types taken) (TracesItems types other) s [] s (Err fault)) (sym is)
        (refl, refl, ap (λ (n : ℕ). Err (record { cause = fault.cause; line = n })) at)),
    refl,
  )
