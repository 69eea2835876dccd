-- Lists of sets that go to states, sought by space and members.
use Rattle.std.specs.Prelude.{◌≡◌, ℕ, List, Contains, Some, slice_get}
use Rattle.std.specs.List.Sorted.{IsStrictlyIncreasing}
use Rattle.std.specs.declared.hash.BuildHasherDefault.{BuildHasherDefault}
use Rattle.std.specs.declared.hash.FoldHasher.{FoldHasher}
use Rattle.std.specs.HashMap.{HashMap, get}
use Rattle.cert_text.specs.declared.line.SetLine.{SetLine}
use Rattle.cert_theory.specs.Tables.{NamedSet}
use Rattle.cert_tables.specs.declared.set_table.SetKey.{SetKey}
use Rattle.cert_tables.specs.contracts.set_table.SetKeyPartialEq.TheImpl as key_eq

-- what a line says
abbrev pub named_set : SetLine → NamedSet
named_set l = record { space = l.space; members = l.members; state = l.state }

-- at that place stands a line on these members in the space
pub record IsLineOf (lines : List SetLine) (s : ℕ) (members : List ℕ) (k : ℕ) : Type 0 where
  pub line : SetLine
  pub at : slice_get lines k ≡ Some line
  pub in_space : line.space ≡ s
  pub has : line.members ≡ members

-- the members of each line rise
abbrev pub AreRising : List SetLine → Type 0
AreRising lines = (line : SetLine) → Contains lines line → IsStrictlyIncreasing line.members

-- no set has two lines
pub record AreSets (lines : List SetLine) : Type 0 where
  pub once : (i j s : ℕ) (members : List ℕ) → IsLineOf lines s members i → IsLineOf lines s members j → i ≡ j
  pub rising : AreRising lines

-- the set goes to that state
pub record HasSet (lines : List SetLine) (s : ℕ) (members : List ℕ) (state : ℕ) : Type 0 where
  pub line : SetLine
  pub listed : Contains lines line
  pub in_space : line.space ≡ s
  pub has : line.members ≡ members
  pub is_state : line.state ≡ state

-- the map has the place of each line's set
pub record HasSetPlaces (lines : List SetLine) (places : HashMap SetKey ℕ (BuildHasherDefault FoldHasher)) : Type 0 where
  pub place : (k : ℕ) (key : SetKey) → IsLineOf lines key.space key.members.items k → get (key_eq.ghosts).eq places key ≡ Some k
