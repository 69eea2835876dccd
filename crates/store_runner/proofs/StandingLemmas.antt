-- How items are looked through for an `assert`, one after the other.
use Rattle.std.proofs.Common.{◌≡◌, ℕ, ◌+◌, ◌≤◌, ◌<◌, Bool, true, false, ◌||◌, List, ◌∷◌, sym, ap, ap₂, ◌∙◌, arith}
use Rattle.std.proofs.Common.{Option, Some, None, IfSome}
use Rattle.std.specs.Borrow.{Bor}
use Rattle.std.proofs.lemmas.List.Folds.{list_any-append}
use Rattle.store_logic.specs.declared.act.Act.{Act}
use Rattle.store_logic.specs.declared.cond.Cond.{Cond}
use Rattle.store_exec.specs.declared.code.Item.{Item}
use Rattle.store_exec.specs.declared.code.Item.TheVariants as item
use Rattle.store_exec.specs.Acting.{acts_of_item, acts_of_items, is_assert, have_assert}
use Rattle.store_exec.specs.Going.{weight_of_items}
use Rattle.store_exec.proofs.ActingLemmas.{assert-If}
use Rattle.store_exec.proofs.GoingLemmas.{weight-Do, weight-If}

-- whether an `assert` stands in the items
abbrev stands : List Item → Bool
stands items = have_assert (acts_of_items items)

stands-cons : (i : Item) (more : List Item) → stands (i ∷ more) ≡ (have_assert (acts_of_item i) || stands more)
stands-cons i more = list_any-append is_assert (acts_of_item i) (acts_of_items more)

-- what stands behind an act is lighter
pub Do-lighter : (i : Item) (line : ℕ) (a : Act) (more : List Item) → i ≡ item.Do line a → weight_of_items more < weight_of_items (i ∷ more)
Do-lighter i line a more is =
    let own : weight_of_items (i ∷ more) ≡ 1 + weight_of_items more = ap (λ (j : Item). weight_of_items (j ∷ more)) is ∙ weight-Do line a more in
    omega (arith, own)

-- an `if`, whose two lists are lent, and the items behind it
module _ (i : Item) (line : ℕ) (c : Cond) (taken other xs ys more : List Item) (is : i ≡ item.If line c taken other)
    (same : xs ≡ taken) (also : ys ≡ other) where
  If-stands : stands (i ∷ more) ≡ ((stands xs || stands ys) || stands more)
  If-stands = stands-cons i more ∙ ap (λ (b : Bool). b || stands more)
      (ap (λ (j : Item). have_assert (acts_of_item j)) is ∙ assert-If line c taken other
      ∙ sym (ap₂ (λ (vs ws : List Item). stands vs || stands ws) same also))

  If-weight : weight_of_items (i ∷ more) ≡ (weight_of_items xs + weight_of_items ys + 2) + weight_of_items more
  If-weight = ap (λ (j : Item). weight_of_items (j ∷ more)) is ∙ weight-If line c taken other more
      ∙ sym (ap₂ (λ (vs ws : List Item). (weight_of_items vs + weight_of_items ws + 2) + weight_of_items more) same also)

  -- one of the two has an `assert`
  pub If-found : (found : Bool) (left : List Item) →
      (found || have_assert (acts_of_items left)) ≡ (have_assert (acts_of_items xs) || have_assert (acts_of_items ys)) →
      found ≡ true → true ≡ have_assert (acts_of_items (i ∷ more))
  If-found found left told true_is =
      sym (If-stands ∙ ap (λ (b : Bool). b || stands more) (sym told ∙ ap (λ (b : Bool). b || stands left) true_is))

  pub If-lighter : weight_of_items more < weight_of_items (i ∷ more)
  If-lighter = let whole = If-weight in omega (arith, whole)

  -- the one that was looked through has none: what is left are the other one and the items behind, of which one is looked through
  module _ (found : Bool) (left : List Item)
      (told : (found || have_assert (acts_of_items left)) ≡ (have_assert (acts_of_items xs) || have_assert (acts_of_items ys)))
      (less : weight_of_items left ≤ weight_of_items xs + weight_of_items ys) where
    pub If-left : found ≡ false → (r : Option (Bool × Bor (List Item))) →
        IfSome r (λ next. (next.0 || have_assert (acts_of_items next.1.now)) ≡ (have_assert (acts_of_items left) || have_assert (acts_of_items more))) →
        IfSome r (λ next. (next.0 || have_assert (acts_of_items next.1.now)) ≡ have_assert (acts_of_items (i ∷ more)))
    If-left false_is None tells = tt
    If-left false_is (Some next) tells = tells
        ∙ ap (λ (b : Bool). b || stands more) (sym (ap (λ (b : Bool). b || stands left) false_is) ∙ told) ∙ sym If-stands

    pub If-left-lighter : (r : Option (Bool × Bor (List Item))) →
        IfSome r (λ next. weight_of_items next.1.now ≤ weight_of_items left + weight_of_items more) →
        IfSome r (λ next. weight_of_items next.1.now < weight_of_items (i ∷ more))
    If-left-lighter None lesser = tt
    If-left-lighter (Some next) lesser = let whole = If-weight in omega (arith, whole, less, lesser)
