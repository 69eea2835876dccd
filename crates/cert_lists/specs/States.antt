-- The states that pairs and sets name.
use Rattle.std.specs.Prelude.{ℕ, ◌<◌, List, Contains, EachIndex, slice_index}
use Rattle.std.specs.Option.{option_map_or}
use Rattle.cert_text.specs.declared.line.PairLine.{PairLine}
use Rattle.cert_text.specs.declared.line.SetLine.{SetLine}
use Rattle.cert_tables.specs.declared.table.Table.{Table}
use Rattle.cert_tables.specs.Automata.{space_in}
use Rattle.cert_tables.specs.Orders.{ArePairsInOrder, AreSetsInOrder}
use Rattle.cert_tables.specs.SetKeys.{AreSets}

-- how many states a space has; none where there is no such space
abbrev pub state_count : Table → ℕ → ℕ
state_count table s = option_map_or (λ space. space.states) (space_in table s) 0

abbrev pub HasState : Table → ℕ → ℕ → Type 0
HasState table s q = q < state_count table s

-- the states that a pair names are there
pub record HasStates (a b c : Table) (line : PairLine) : Type 0 where
  pub first : HasState a line.space line.first
  pub second : HasState b line.space line.second
  pub state : HasState c line.space line.state

-- pairs of states that are there, in order
pub record ArePairsOf (a b c : Table) (pairs : List PairLine) : Type 0 where
  pub states : (line : PairLine) → Contains pairs line → HasStates a b c line
  pub in_order : ArePairsInOrder pairs

-- the states that a set names are there
pub record HasMembers (a c : Table) (line : SetLine) : Type 0 where
  pub state : HasState c line.space line.state
  pub members : EachIndex line.members (λ k. slice_index line.members k < state_count a line.space)

-- sets of states that are there, each rising and none twice, in order
pub record AreSetsOf (a c : Table) (sets : List SetLine) : Type 0 where
  pub states : (line : SetLine) → Contains sets line → HasMembers a c line
  pub in_order : AreSetsInOrder sets
  pub once : AreSets sets
