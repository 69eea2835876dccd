-- A store whose values name live cells alone is fresh.
use Rattle.std.proofs.Common.{◌≡◌, ℕ, suc, cond, List, [], ◌∷◌, Option, Some, None, IfSome, refl, ap, ◌∙◌, slice_get}
use Rattle.std.specs.Option.{option_and_then}
use Rattle.std.specs.List.{AllByRecursion}
use Rattle.std.proofs.lemmas.Bool.{eq-eqb}
use Rattle.store_core.specs.declared.ids.FieldId.{FieldId}
use Rattle.store_core.specs.declared.ids.CellId.{CellId}
use Rattle.store_core.specs.declared.value.Value.{Value}
use Rattle.store_core.specs.declared.value.Value.TheVariants as value
use Rattle.store_core.specs.Stores.{StoreMap, CellEntry, cell_of, field_of, field_value, IsAbove, NamesBelow, IsFresh, NamesLiveAlone, NamesNoDead}
use Rattle.store_core.proofs.Growing.{AllByRecursion-weaker}
use Rattle.store_core.proofs.FittingLemmas.{IfSome-from, IfSome-at}
use Rattle.store_core.proofs.AboveLemmas.{live_below}

-- what holds at each place holds of all
pub AllByRecursion-from : {X : Type 0} (P : X → Type 0) (xs : List X) → ((i : ℕ) (x : X) → slice_get xs i ≡ Some x → P x) → AllByRecursion P xs
AllByRecursion-from P [] each = tt
AllByRecursion-from P (x ∷ xs) each = (each 0 x refl, AllByRecursion-from P xs (λ i y at. each (suc i) y at))

-- the slot at a place of a live cell is the value of a field
pub slot_value : (s : StoreMap) (c : CellId) (cell : CellEntry) (i : ℕ) (x : Value) → cell_of s c ≡ Some cell → slice_get cell.values i ≡ Some (Some x)
    → field_value s c (record { ty = cell.variant.ty; index = i }) ≡ Some x
slot_value s c cell i x is at =
    ap (λ o. option_and_then (λ (e : CellEntry). field_of e (record { ty = cell.variant.ty; index = i })) o) is
    ∙ ap (λ t. cond t (option_and_then (λ (v : Option Value). v) (slice_get cell.values i)) None) (eq-eqb cell.variant.ty.0 cell.variant.ty.0 refl)
    ∙ ap (λ o. option_and_then (λ (v : Option Value). v) o) at

module _ (s : StoreMap) (above : IsAbove s) where
  names_below : (x : Value) → NamesLiveAlone s x → NamesBelow s.next x
  names_below (value.Bool b) live = tt
  names_below (value.Cell None) live = tt
  names_below (value.Cell (Some c)) live = live_below s c above live
  names_below (value.Cells cells) live = AllByRecursion-weaker _ _ (λ c h. live_below s c above h) cells live

  slot_below : (c : CellId) (cell : CellEntry) → cell_of s c ≡ Some cell → NamesNoDead s → (i : ℕ) (o : Option Value) →
      slice_get cell.values i ≡ Some o → IfSome o (NamesBelow s.next)
  slot_below c cell is no_dead i None at = tt
  slot_below c cell is no_dead i (Some x) at =
      let f : FieldId = record { ty = cell.variant.ty; index = i } in
      names_below x (IfSome-at (field_value s c f) (NamesLiveAlone s) x (slot_value s c cell i x is at) (no_dead.fields c f))

  pub IsFresh-no_dead : NamesNoDead s → IsFresh s
  IsFresh-no_dead no_dead = record {
    cells = above;
    values = λ c. IfSome-from (cell_of s c) _ (λ cell is. AllByRecursion-from _ cell.values (slot_below c cell is no_dead));
    vars = AllByRecursion-from (NamesBelow s.next) s.vars (λ i x at. names_below x
        (IfSome-at (slice_get s.vars i) (NamesLiveAlone s) x at (no_dead.vars (record { 0 = i }))));
  }
