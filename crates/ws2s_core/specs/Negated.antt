-- What a formula negates.
use Rattle.std.specs.Prelude.{Option, Some, None}
use Rattle.ws2s_core.specs.declared.formula.Formula.{Formula, out-Formula}
use Rattle.ws2s_core.specs.declared.formula.Formula.TheOpen.{Formula-F}

abbrev pub negated_of_node : Formula-F Formula → Option Formula
negated_of_node (Formula-F.Not f) = Some f
negated_of_node node = None

-- f, of `Not f`; another form negates nothing
abbrev pub negated : Formula → Option Formula
negated f = negated_of_node (out-Formula f)
