-- A store with some cells of a store that fits its tables fits them too.
use Rattle.std.proofs.Common.{◌≡◌, inl, inr, ◌<◌, ℕ, List, [], ◌∷◌, get_or, Option, Some, None, IsSome, IfSome, refl, sym, ◌∙◌, subst}
use Rattle.std.specs.FinMap.{keys}
use Rattle.std.proofs.lemmas.Option.{slice_get-get_or}
use Rattle.std.proofs.lemmas.List.Elements.{All-from_recursion, recursion_from_All, All-contains}
use Rattle.store_core.specs.declared.ids.TypeId.{TypeId}
use Rattle.store_core.specs.declared.ids.CellId.{CellId}
use Rattle.store_core.specs.declared.kind.FieldKind.{FieldKind}
use Rattle.store_core.specs.declared.kind.FieldKind.TheVariants as field
use Rattle.store_core.specs.declared.value.Value.{Value}
use Rattle.store_core.specs.declared.value.Value.TheVariants as value
use Rattle.store_core.specs.Tables.{TypeEntry, FieldEntry, fields_of}
use Rattle.store_core.specs.Stores.{StoreMap, CellEntry, IsLive, IsAbove, cell_of, NamesType, FieldFits, SlotsFit, CellFits}
use Rattle.store_core.proofs.FittingLemmas.{IfSome-from, IfSome-at}
use Rattle.routing_walks.specs.Regions.{IsOn}
use Rattle.routing_walks.proofs.KeyLemmas.{key_of_live, live_of_key}
use Rattle.routing_walks.proofs.DecidedLemmas.{decided_in, in_at}
use Rattle.routing_walks.proofs.DecidedWalks.{decided_same_cell}
use Rattle.routing_walks.proofs.RegionLemmas.{live_on}

-- where the live cells are live in the other store, and the next numbers are the same
pub above_from : (s t : StoreMap) → ((c : CellId) → IsLive t c → IsLive s c) → t.next ≡ s.next → IsAbove s → IsAbove t
above_from s t lives same above = recursion_from_All (λ n. n < t.next) (keys t.cells) (λ i d within.
    let c : CellId = record { 0 = get_or (keys t.cells) i d } in
    let live = lives c (live_of_key t c i (slice_get-get_or (keys t.cells) i d within)) in
    let k = key_of_live s c live in
    subst (λ n. c.0 < n) (sym same)
    (All-contains (λ n. n < s.next) (keys s.cells) c.0 (All-from_recursion (λ n. n < s.next) (keys s.cells) above) (in_at (keys s.cells) k.0 c.0 k.1)))

module _ (cells : List CellId) (s t : StoreMap) (on : IsOn cells s t) where
  pub names_type_on : (target : TypeId) (c : CellId) → NamesType s target c → NamesType t target c
  names_type_on target c h = elim (decided_in decided_same_cell cells c) [
    | inl m ↦ subst (λ o. IfSome o (λ (cell : CellEntry). cell.variant.ty ≡ target)) (sym (on.inside c m)) h
    | inr out ↦ subst (λ o. IfSome o (λ (cell : CellEntry). cell.variant.ty ≡ target)) (sym (on.outside c out)) tt
  ]

  reference_on : (target : TypeId) (c : Option CellId) → IfSome c (NamesType s target) → IfSome c (NamesType t target)
  reference_on target None h = tt
  reference_on target (Some c) h = names_type_on target c h

  field_fits_on : (kind : FieldKind) (x : Value) → FieldFits s kind x → FieldFits t kind x
  field_fits_on field.Bool (value.Bool b) h = tt
  field_fits_on field.Bool (value.Cell c) h = h
  field_fits_on field.Bool (value.Cells cells) h = h
  field_fits_on (field.Data target) (value.Bool b) h = h
  field_fits_on (field.Data target) (value.Cell c) h = reference_on target c h
  field_fits_on (field.Data target) (value.Cells cells) h = h
  field_fits_on (field.Pointer target along) (value.Bool b) h = h
  field_fits_on (field.Pointer target along) (value.Cell c) h = reference_on target c h
  field_fits_on (field.Pointer target along) (value.Cells cells) h = h

  slots_fit_on : (index : ℕ) (fs : List FieldEntry) (xs : List (Option Value)) → SlotsFit s index fs xs → SlotsFit t index fs xs
  slots_fit_on index [] [] h = tt
  slots_fit_on index [] (x ∷ xs) h = h
  slots_fit_on index (f ∷ fs) [] h = h
  slots_fit_on index (f ∷ fs) (None ∷ xs) h = (h.0, slots_fit_on index fs xs h.1)
  slots_fit_on index (f ∷ fs) (Some x ∷ xs) h = ((h.0.0, field_fits_on f.kind x h.0.1), slots_fit_on index fs xs h.1)

  pub cells_fit_on : (types : List TypeEntry) → ((c : CellId) → IfSome (cell_of s c) (CellFits types s)) → (c : CellId)
      → IfSome (cell_of t c) (CellFits types t)
  cells_fit_on types fits c = IfSome-from (cell_of t c) (CellFits types t) (λ cell at.
      let m = (live_on cells s t on c (subst IsSome (sym at) refl)).0 in
      let there = IfSome-at (cell_of s c) (CellFits types s) cell (sym (on.inside c m) ∙ at) (fits c) in
      record { variant = there.variant; values = slots_fit_on cell.variant.index (fields_of types cell.variant.ty) cell.values there.values })

  -- its cells are below the next number too
  pub above_on : t.next ≡ s.next → IsAbove s → IsAbove t
  above_on same above = above_from s t (λ c live. (live_on cells s t on c live).1) same above
