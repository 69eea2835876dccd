-- Lists of pairs that go to states, sought by space and pair.
use Rattle.std.specs.Prelude.{◌≡◌, ℕ, List, Contains, Some, slice_get}
use Rattle.std.specs.declared.hash.BuildHasherDefault.{BuildHasherDefault}
use Rattle.std.specs.declared.hash.FoldHasher.{FoldHasher}
use Rattle.std.specs.HashMap.{HashMap, get}
use Rattle.cert_text.specs.declared.line.PairLine.{PairLine}
use Rattle.cert_theory.specs.Tables.{NamedPair}
use Rattle.cert_tables.specs.declared.pair_table.PairKey.{PairKey}
use Rattle.cert_tables.specs.contracts.pair_table.PairKeyPartialEq.TheImpl as key_eq

-- what a line says
abbrev pub named_pair : PairLine → NamedPair
named_pair l = record { space = l.space; first = l.first; second = l.second; state = l.state }

abbrev pub key_of : PairLine → PairKey
key_of l = record { space = l.space; first = l.first; second = l.second }

-- no pair has two lines
pub record IsOnePerKey (lines : List PairLine) : Type 0 where
  pub once : (i j : ℕ) (l m : PairLine) → slice_get lines i ≡ Some l → slice_get lines j ≡ Some m → key_of l ≡ key_of m → i ≡ j

-- the line is there, and is that of the key
pub record HasLine (lines : List PairLine) (key : PairKey) (line : PairLine) : Type 0 where
  pub listed : Contains lines line
  pub keyed : key_of line ≡ key

-- the line's pair has one
abbrev pub HasKey : List PairLine → PairLine → Type 0
HasKey lines line = (other : PairLine) × HasLine lines (key_of line) other

-- the map has the place of each line's pair
pub record HasPlaces (lines : List PairLine) (places : HashMap PairKey ℕ (BuildHasherDefault FoldHasher)) : Type 0 where
  pub place : (k : ℕ) (line : PairLine) → slice_get lines k ≡ Some line → get (key_eq.ghosts).eq places (key_of line) ≡ Some k
