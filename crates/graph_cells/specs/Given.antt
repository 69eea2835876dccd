-- A walk whose formula is made.
use Rattle.ws2s_core.specs.declared.formula.Formula.{Formula}
use Rattle.graph_view.specs.Routes.{Joining}

-- the formula, whatever the tracks are
abbrev pub given : Formula → Joining
given f next a b = f
