-- Where pointer fields are functional, a backbone whose pointer fields are set is well-formed.
use Rattle.std.proofs.Common.{◌≡◌, inl, inr, List, Option, Some, None, IsSomeAnd, sym, subst}
use Rattle.gta_theory.specs.Assignments.{Assignment}
use Rattle.store_core.specs.declared.ids.FieldId.{FieldId}
use Rattle.store_core.specs.declared.ids.CellId.{CellId}
use Rattle.store_core.specs.declared.value.Value.{Value}
use Rattle.store_core.specs.declared.value.Value.TheVariants as value
use Rattle.store_core.specs.Tables.{TypeEntry, VarEntry}
use Rattle.store_core.specs.Stores.{StoreMap, Fits, field_value}
use Rattle.store_core.proofs.FittingLemmas.{IfSome-from, IfSome-at}
use Rattle.routing_walks.specs.Destinations.{Dest, IsOnlyDestination}
use Rattle.routing_walks.specs.WellFormed.{IsBackbone, IsWellFormed}
use Rattle.witness_store.specs.Pointers.{IsPointerField, IsDestinationIfOne, ArePointersSet}
use Rattle.witness_store.proofs.ExistenceLemmas.{set_store}
use Rattle.tree_store.specs.Stores.{IsStoreOf}
use Rattle.witness_store.specs.Alike.{AreFunctional, IsOfWellFormed}
use Rattle.witness_store.proofs.PointersLemmas.{IsStoreOf-alike}

some_unit : (o : Option Value) (x : Value) → o ≡ Some x → IsSomeAnd o (λ y. Unit {0})
some_unit o x is = subst (λ p. IsSomeAnd p (λ y. Unit {0})) (sym is) tt

module _ (types : List TypeEntry) (vars : List VarEntry) (s : StoreMap) (functional : AreFunctional types) (fits : Fits types vars s)
    (backbone : IsBackbone types vars s) where
  one_dest : (c : CellId) (f : FieldId) (x : Value) → IsPointerField types f → field_value s c f ≡ Some x → (d e : CellId) → Dest types s c f d → Dest
      types s c f e → d ≡ e
  one_dest c f x pointer at d e to_d to_e = (functional f pointer).at_most_one vars s fits backbone c d e (some_unit (field_value s c f) x at) to_d to_e

  -- ---- well-formed

  only_from : (c : CellId) (f : FieldId) (x : Value) → IsPointerField types f → field_value s c f ≡ Some x → IsDestinationIfOne types s c f x →
      IsOnlyDestination types s c f x
  only_from c f (value.Bool truth) pointer at h = h
  only_from c f (value.Cell None) pointer at (inl none) = none
  only_from c f (value.Cell None) pointer at (inr two) =
      absurd (two.apart (one_dest c f (value.Cell None) pointer at two.one two.other two.one_is two.other_is))
  only_from c f (value.Cell (Some d)) pointer at h = h
  only_from c f (value.Cells cells) pointer at h = h

-- ---- the laws

pub IsWellFormed-set : (types : List TypeEntry) (vars : List VarEntry) (s : StoreMap) (a : Assignment) → AreFunctional types → IsStoreOf types vars a s →
    ArePointersSet types s → IsWellFormed types vars s
IsWellFormed-set types vars s a functional of set = record {
  fits = of.fits;
  backbone = of.backbone;
  pointers = λ c f pointer. IfSome-from (field_value s c f) (IsOnlyDestination types s c f) (λ x at.
      only_from types vars s functional of.fits of.backbone c f x pointer at
      (IfSome-at (field_value s c f) (IsDestinationIfOne types s c f) x at (set c f pointer)));
  sets = of.sets;
}

pub IsOfWellFormed-store : (types : List TypeEntry) (vars : List VarEntry) (s : StoreMap) (a : Assignment) → AreFunctional types → IsStoreOf types vars a s →
    IsOfWellFormed types vars a
IsOfWellFormed-store types vars s a functional of =
    let (t, is) = set_store types s of.fits.cells in
    let of_t = IsStoreOf-alike types vars a s t of is.same (is.fits vars of.fits) (is.fresh of.fresh) in
    record { store = t; well_formed = IsWellFormed-set types vars t a functional of_t is.pointers; assignment = of_t.assignment }
