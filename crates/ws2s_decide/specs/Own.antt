-- What the first way has of its own, from one formula to the next.
use Rattle.std.specs.Prelude.{List, [], IfSome}
use Rattle.gta_theory.specs.Guides.{Spaces}
use Rattle.ws2s_core.specs.declared.formula.Formula.{Formula}
use Rattle.ws2s_decide.specs.declared.first_way.Room.{Room}
use Rattle.ws2s_decide.specs.declared.first_way.FirstWay.{FirstWay}
use Rattle.ws2s_decide.specs.Going.{Rests}

-- the room's shelf holds the automata that are kept in it, and no other; each is a minimal one of the formula with its number
abbrev pub HoldsItsOwn : Spaces → List Formula → Room → Type 0
HoldsItsOwn g formulas room = Rests g formulas room.shelf [] room.kept

-- so does that of the first way, if it is open
abbrev pub IsReady : List Formula → FirstWay → Type 0
IsReady formulas first = IfSome first.room (HoldsItsOwn first.guide formulas)
