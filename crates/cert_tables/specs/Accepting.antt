-- Where sets accept.
use Rattle.std.specs.Prelude.{◌≡◌, Bool, List, Contains}
use Rattle.std.specs.List.{list_any}
use Rattle.cert_text.specs.declared.line.SetLine.{SetLine}
use Rattle.cert_tables.specs.declared.table.Table.{Table}
use Rattle.cert_tables.specs.Automata.{accepts_in, accepts_signed}

-- some member accepts, in the automaton or in its complement, exactly where the state does that the set goes to
abbrev pub AcceptsBySome : Table → Bool → Table → SetLine → Type 0
AcceptsBySome a a_negated c line = list_any (accepts_signed a a_negated) line.members ≡ accepts_in c line.state

-- so do all sets of space 0
abbrev pub AcceptBySome : Table → Bool → Table → List SetLine → Type 0
AcceptBySome a a_negated c lines = (line : SetLine) → Contains lines line → line.space ≡ 0 → AcceptsBySome a a_negated c line
