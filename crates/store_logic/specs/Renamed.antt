-- Renaming: two stores, and what names stand for in them, that are the same but for the names of their cells and for dead
-- members of sets.
use Rattle.std.specs.Prelude.{◌≡◌, List, [], Contains}
use Rattle.store_core.specs.declared.ids.CellId.{CellId}
use Rattle.store_core.specs.declared.value.Value.{Value}
use Rattle.store_core.specs.declared.value.Value.TheVariants as value
use Rattle.store_core.specs.Stores.{StoreMap, IsLive}
use Rattle.routing_walks.specs.Pairing.{PairsReference, Pairwise, ArePaired}
use Rattle.store_logic.specs.Terms.{Environment}

-- each live cell of the one set is paired with a cell of the other. Dead members need no pair
pub record PairsLive (R : CellId → CellId → Type 0) (s t : StoreMap) (cells others : List CellId) : Type 0 where
  pub forth : (c : CellId) → IsLive s c → Contains cells c → (d : CellId) × Contains others d × R c d
  pub back : (d : CellId) → IsLive t d → Contains others d → (c : CellId) × Contains cells c × R c d

-- the same truth value, paired references, or sets whose live members are paired
abbrev pub PairsBound : (CellId → CellId → Type 0) → StoreMap → StoreMap → Value → Value → Type 0
PairsBound R s t (value.Bool truth) (value.Bool other) = truth ≡ other
PairsBound R s t (value.Cell c) (value.Cell d) = PairsReference R c d
PairsBound R s t (value.Cells cells) (value.Cells others) = PairsLive R s t cells others
PairsBound R s t _ _ = ⊥

-- the store without its variables
abbrev pub without_variables : StoreMap → StoreMap
without_variables s = record s { vars = [] }

-- the cells that stand in the stores are paired one to one, and the stores are the same but for this and for dead members of
-- the sets that variables hold, which need no pair
pub record PairsStore (R : CellId → CellId → Type 0) (s t : StoreMap) : Type 0 where
  pub cells : ArePaired R (without_variables s) (without_variables t)
  pub vars : Pairwise (PairsBound R s t) s.vars t.vars

-- the environments bind as many values, and those at the same places are paired
pub record PairsEnvironment (R : CellId → CellId → Type 0) (s t : StoreMap) (e f : Environment) : Type 0 where
  pub bound : Pairwise (PairsBound R s t) e.bound f.bound
  pub params : Pairwise (PairsBound R s t) e.params f.params
