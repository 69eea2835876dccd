-- A well-formed store is fresh.
use Rattle.std.proofs.Common.{◌≡◌, List, Option, Some, None, IsSome, IsSomeAnd, refl, sym, subst, inl, inr}
use Rattle.std.proofs.lemmas.Option.{slice_get_within, get_or_from_slice_get}
use Rattle.store_core.specs.declared.value.Value.{Value}
use Rattle.store_core.specs.declared.value.Value.TheVariants as value
use Rattle.store_core.specs.Tables.{TypeEntry, VarEntry}
use Rattle.store_core.specs.Stores.{StoreMap, CellEntry, IsLive, IsFresh, cell_of, field_value, var_value, NamesLiveAlone, NamesNoDead}
use Rattle.store_core.proofs.FreshLemmas.{AllByRecursion-from, IsFresh-no_dead}
use Rattle.store_core.proofs.FittingLemmas.{IfSome-from}
use Rattle.routing_walks.specs.declared.fault.Place.{Place}
use Rattle.routing_walks.specs.declared.fault.Place.TheVariants as place
use Rattle.routing_walks.specs.WellFormed.{value_at, NamesDead, HoldsDead, IsWellFormed}
use Rattle.routing_walks.proofs.FaultLemmas.{no_dangling}

live_unless : (o : Option CellEntry) → (o ≡ None → ⊥) → IsSome o
live_unless None alive = absurd (alive refl)
live_unless (Some cell) alive = refl

-- a value that names no dead cell and holds none names live cells alone
names_live : (s : StoreMap) (x : Value) → (NamesDead s x → ⊥) → (HoldsDead s x → ⊥) → NamesLiveAlone s x
names_live s (value.Bool b) named held = tt
names_live s (value.Cell None) named held = tt
names_live s (value.Cell (Some c)) named held = live_unless (cell_of s c) named
names_live s (value.Cells cells) named held = AllByRecursion-from (IsLive s) cells (λ i c at. live_unless (cell_of s c) (λ dead.
    held (i, c, slice_get_within cells i c at, get_or_from_slice_get cells i c c at, dead)))

pub IsFresh-well_formed : (types : List TypeEntry) (vars : List VarEntry) (s : StoreMap) → IsWellFormed types vars s → NamesNoDead s × IsFresh s
IsFresh-well_formed types vars s is = (no_dead, IsFresh-no_dead s is.fits.above no_dead)
  where
    at_place : (p : Place) (x : Value) → value_at s p ≡ Some x → NamesLiveAlone s x
    at_place p x at = names_live s x
        (λ named. no_dangling types vars s is.fits is p (inl (subst (λ o. IsSomeAnd o (NamesDead s)) (sym at) named)))
        (λ held. no_dangling types vars s is.fits is p (inr (subst (λ o. IsSomeAnd o (HoldsDead s)) (sym at) held)))

    no_dead : NamesNoDead s
    no_dead = record {
      fields = λ c f. IfSome-from (field_value s c f) (NamesLiveAlone s) (λ x at. at_place (place.Field c f) x at);
      vars = λ v. IfSome-from (var_value s v) (NamesLiveAlone s) (λ x at. at_place (place.Var v) x at);
    }
