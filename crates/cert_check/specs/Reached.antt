-- Whether states that pairs and sets go to accept.
use Rattle.std.specs.Prelude.{◌≡◌, ℕ, Bool, List, Contains}
use Rattle.cert_text.specs.declared.line.PairLine.{PairLine}
use Rattle.cert_text.specs.declared.line.SetLine.{SetLine}
use Rattle.cert_tables.specs.declared.table.Table.{Table}
use Rattle.cert_tables.specs.Automata.{accepts_in}

-- the state is no state of space 0 that accepts, or none that doesn't
abbrev pub Misses : Table → Bool → ℕ → ℕ → Type 0
Misses table is_accepting s q = s ≡ 0 → accepts_in table q ≡ is_accepting → ⊥

abbrev pub NoPairSays : Table → Bool → List PairLine → Type 0
NoPairSays table is_accepting pairs = (pair : PairLine) → Contains pairs pair → Misses table is_accepting pair.space pair.state

abbrev pub NoSetSays : Table → Bool → List SetLine → Type 0
NoSetSays table is_accepting sets = (set : SetLine) → Contains sets set → Misses table is_accepting set.space set.state
