-- Renaming: two stores that are the same but for the names of their cells.
use Rattle.std.specs.Prelude.{◌≡◌, ◌↔◌, List, [], ◌∷◌, Option, Some, None, Contains}
use Rattle.store_core.specs.declared.ids.FieldId.{FieldId}
use Rattle.store_core.specs.declared.ids.VarId.{VarId}
use Rattle.store_core.specs.declared.ids.CellId.{CellId}
use Rattle.store_core.specs.declared.kind.Route.{Route}
use Rattle.store_core.specs.declared.value.Value.{Value}
use Rattle.store_core.specs.declared.value.Value.TheVariants as value
use Rattle.store_core.specs.CellLists.{AreRising}
use Rattle.store_core.specs.Tables.{TypeEntry, VarEntry}
use Rattle.store_core.specs.Stores.{StoreMap, CellEntry, IsLive, Fits, cell_of}
use Rattle.routing_walks.specs.declared.fault.Place.{Place}
use Rattle.routing_walks.specs.declared.fault.Place.TheVariants as place
use Rattle.routing_walks.specs.declared.fault.CutFault.{CutFault}
use Rattle.routing_walks.specs.Walks.{Fields, Walk}
use Rattle.routing_walks.specs.Destinations.{Dest, IsOnlyDestination}
use Rattle.routing_walks.specs.WellFormed.{IsInTree, IsDanglingReference, IsDangling, IsShared, IsLeaked, IsWrongField, IsBackbone, IsWellFormed}
use Rattle.routing_walks.specs.CutFaults.{IsSound, IsFirstCutFault}

-- a renaming is a finite list of pairs of cells: the second is the name in the one store of the first in the other
abbrev pub IsPair : List (CellId × CellId) → CellId → CellId → Type 0
IsPair pairs a c = Contains pairs (a, c)

-- both null, or paired cells
abbrev pub PairsReference : (CellId → CellId → Type 0) → Option CellId → Option CellId → Type 0
PairsReference R None None = Unit {0}
PairsReference R (Some c) (Some d) = R c d
PairsReference R _ _ = ⊥

-- the same truth value, paired references, or sets each of whose members is paired with one of the other
abbrev pub PairsValue : (CellId → CellId → Type 0) → Value → Value → Type 0
PairsValue R (value.Bool truth) (value.Bool other) = truth ≡ other
PairsValue R (value.Cell c) (value.Cell d) = PairsReference R c d
PairsValue R (value.Cells cells) (value.Cells others) = AreRising cells × AreRising others
    × ((c : CellId) → Contains cells c → (d : CellId) × Contains others d × R c d)
    × ((d : CellId) → Contains others d → (c : CellId) × Contains cells c × R c d)
PairsValue R _ _ = ⊥

-- the same of the value of a field, which stands where the variant has the field
abbrev pub PairsSlot : (CellId → CellId → Type 0) → Option Value → Option Value → Type 0
PairsSlot R None None = Unit {0}
PairsSlot R (Some x) (Some y) = PairsValue R x y
PairsSlot R _ _ = ⊥

-- the lists have the same length, and the fact holds of each element and the one at the same place
abbrev pub Pairwise : {X : Type 0} → (X → X → Type 0) → List X → List X → Type 0
Pairwise R [] [] = Unit {0}
Pairwise R (x ∷ xs) (y ∷ ys) = R x y × Pairwise R xs ys
Pairwise R _ _ = ⊥

-- the cells are of the same variant, and their values are paired
pub record PairsCell (R : CellId → CellId → Type 0) (cell other : CellEntry) : Type 0 where
  pub variant : cell.variant ≡ other.variant
  pub values : Pairwise (PairsSlot R) cell.values other.values

-- both cells are dead, or both are live and paired
abbrev pub PairsEntry : (CellId → CellId → Type 0) → Option CellEntry → Option CellEntry → Type 0
PairsEntry R None None = Unit {0}
PairsEntry R (Some cell) (Some other) = PairsCell R cell other
PairsEntry R _ _ = ⊥

-- the cells that stand in the stores are paired one to one: each live cell with a live one, and each dead cell that a value
-- names with a dead one; and the stores are the same but for this. Numbers that stand nowhere need no pair
pub record ArePaired (R : CellId → CellId → Type 0) (s t : StoreMap) : Type 0 where
  pub one : (a c d : CellId) → R a c → R a d → c ≡ d
  pub other : (a b c : CellId) → R a c → R b c → a ≡ b
  pub forth : (a : CellId) → IsLive s a → (c : CellId) × R a c
  pub back : (c : CellId) → IsLive t c → (a : CellId) × R a c
  pub cells : (a c : CellId) → R a c → PairsEntry R (cell_of s a) (cell_of t c)
  pub vars : Pairwise (PairsValue R) s.vars t.vars

-- the same variable, or the same field of paired cells
abbrev pub PairsPlace : (CellId → CellId → Type 0) → Place → Place → Type 0
PairsPlace R (place.Var v) (place.Var w) = v ≡ w
PairsPlace R (place.Field a f) (place.Field c g) = R a c × (f ≡ g)
PairsPlace R _ _ = ⊥

-- what routes and data fields join goes along with the pairs
pub record JoinAlike (types : List TypeEntry) (R : CellId → CellId → Type 0) (s t : StoreMap) : Type 0 where
  pub walks : (fields : Fields) (along : Route) (a b c d : CellId) → R a c → R b d → Walk types s fields along a b ↔ Walk types t fields along c d
  pub ends : (fields : Fields) (along : Route) (a b c : CellId) → R a c → Walk types s fields along a b → (d : CellId) × R b d × Walk types t fields along c d
  pub destinations : (f : FieldId) (a b c d : CellId) → R a c → R b d → Dest types s a f b ↔ Dest types t c f d
  pub only : (f : FieldId) (a c : CellId) (x y : Value) → R a c → PairsValue R x y → IsOnlyDestination types s a f x ↔ IsOnlyDestination types t c f y
  pub trees : (vars : List VarEntry) (v : VarId) (a c : CellId) → R a c → IsInTree types vars s v a ↔ IsInTree types vars t v c

-- what is wrong with a store goes along with the pairs
pub record FailAlike (types : List TypeEntry) (R : CellId → CellId → Type 0) (s t : StoreMap) : Type 0 where
  pub references : (p q : Place) → PairsPlace R p q → IsDanglingReference s p ↔ IsDanglingReference t q
  pub dangling : (p q : Place) → PairsPlace R p q → IsDangling s p ↔ IsDangling t q
  pub shared : (vars : List VarEntry) (a c : CellId) → R a c → IsShared types vars s a ↔ IsShared types vars t c
  pub leaked : (vars : List VarEntry) (a c : CellId) → R a c → IsLeaked types vars s a ↔ IsLeaked types vars t c
  pub wrong : (f : FieldId) (a c : CellId) → R a c → IsWrongField types s a f ↔ IsWrongField types t c f

-- whether a store fits its tables, is a backbone and is well-formed, and which condition of a cut it breaks first, goes along
-- with the pairs
pub record FormAlike (types : List TypeEntry) (s t : StoreMap) : Type 0 where
  pub fits : (vars : List VarEntry) → Fits types vars s ↔ Fits types vars t
  pub backbones : (vars : List VarEntry) → IsBackbone types vars s ↔ IsBackbone types vars t
  pub well_formed : (vars : List VarEntry) → IsWellFormed types vars s ↔ IsWellFormed types vars t
  pub sound : (vars : List VarEntry) → IsSound types vars s ↔ IsSound types vars t
  pub cuts : (vars : List VarEntry) (fault : CutFault) → IsFirstCutFault types vars s fault ↔ IsFirstCutFault types vars t fault
