-- Induction over items and codes.
use Rattle.std.proofs.Common.{◌≡◌, ℕ, List, [], ◌∷◌, map, sym, ap, ◌∙◌, subst}
use Rattle.store_logic.specs.declared.act.Act.{Act}
use Rattle.store_logic.specs.declared.cond.Cond.{Cond}
use Rattle.store_exec.specs.declared.code.Item.{Item, roll-Item}
use Rattle.store_exec.specs.declared.code.Item.TheVariants as item
use Rattle.store_exec.specs.declared.code.Item.TheVariants.{rolls-Do, rolls-If}
use Rattle.store_exec.specs.declared.code.Item.TheOpen.{Item-F}
use Rattle.store_exec.specs.declared.code.Item.TheFolds.{ind-Item, map-Item}
use Rattle.store_exec.specs.declared.code.Code.{Code, roll-Code, out-roll-Code}
use Rattle.store_exec.specs.declared.code.Tail.{Tail}
use Rattle.store_exec.specs.declared.code.Tail.TheViews.{roll-Tail}
use Rattle.store_exec.specs.declared.code.Tail.TheVariants as tail
use Rattle.store_exec.specs.declared.code.Tail.TheVariants.{rolls-Cut, rolls-Branch}
use Rattle.store_exec.specs.declared.code.Tail.TheOpen.{Tail-F, Code-F}
use Rattle.store_exec.specs.declared.code.Tail.TheFolds.{ind-Code, map-Tail, map-Code}

-- what holds of no items, and of an act or an `if` in front of items where it holds of these and of the lists inside, holds of all items
module _ (P : List Item → Type 0) (none : P []) (act : (line : ℕ) (a : Act) (rest : List Item) → P rest → P (item.Do line a ∷ rest))
    (choice : (line : ℕ) (c : Cond) (taken other rest : List Item) → P taken → P other → P rest → P (item.If line c taken other ∷ rest)) where
  abbrev Goes : Item → Type 0
  Goes i = (rest : List Item) → P rest → P (i ∷ rest)

  abbrev items_of : List ((i : Item) × Goes i) → List Item
  items_of = map (λ x. x.0)

  whole : (xs : List ((i : Item) × Goes i)) → P (items_of xs)
  whole [] = none
  whole (x ∷ xs) = x.1 (items_of xs) (whole xs)

  made : (y : Item-F ((i : Item) × Goes i)) → Goes (roll-Item (map-Item ((i : Item) × Goes i) Item (λ x. x.0) y))
  made (Item-F.Do line a) = subst Goes (sym (rolls-Do line a)) (λ rest p. act line a rest p)
  made (Item-F.If line c taken other) = subst Goes (sym (rolls-If line c (items_of taken) (items_of other)))
      (λ rest p. choice line c (items_of taken) (items_of other) rest (whole taken) (whole other) p)

  goes : (i : Item) → Goes i
  goes = ind-Item Goes (λ x y e. subst (λ z. Goes (roll-Item z)) e (made y))

  pub items-induction : (xs : List Item) → P xs
  items-induction [] = none
  items-induction (x ∷ xs) = goes x xs (items-induction xs)

-- what holds of a code that goes to a cut, and of one with a branch where it holds of the branch's codes, holds of all codes
module _ (P : Code → Type 0) (cut : (c : Code) (place : ℕ) → c.tail ≡ tail.Cut place → P c)
    (branch : (c : Code) (line : ℕ) (b : Cond) (taken other : Code) → c.tail ≡ tail.Branch line b taken other → P taken → P other → P c) where
  abbrev Ends : Tail → Type 0
  Ends t = (c : Code) → c.tail ≡ t → P c

  tail-made : (y : Tail-F ((t : Tail) × Ends t) ((c : Code) × P c)) →
      Ends (roll-Tail (map-Tail ((t : Tail) × Ends t) ((c : Code) × P c) Tail Code (λ x. x.0) (λ x. x.0) y))
  tail-made (Tail-F.Cut place) = λ c is. cut c place (is ∙ rolls-Cut place)
  tail-made (Tail-F.Branch line b taken other) =
      λ c is. branch c line b taken.0 other.0 (is ∙ rolls-Branch line b taken.0 other.0) taken.1 other.1

  code-made : (y : Code-F ((t : Tail) × Ends t) ((c : Code) × P c)) →
      P (roll-Code (map-Code ((t : Tail) × Ends t) ((c : Code) × P c) Tail Code (λ x. x.0) (λ x. x.0) y))
  code-made y =
      let z : Code-F Tail Code = map-Code ((t : Tail) × Ends t) ((c : Code) × P c) Tail Code (λ x. x.0) (λ x. x.0) y in
      (y.tail).1 (roll-Code z) (ap (λ (x : Code-F Tail Code). x.tail) (out-roll-Code z))

  pub codes-induction : (c : Code) → P c
  codes-induction = ind-Code Ends P (λ x y e. subst (λ z. Ends (roll-Tail z)) e (tail-made y)) (λ x y e. subst (λ z. P (roll-Code z)) e (code-made y))
