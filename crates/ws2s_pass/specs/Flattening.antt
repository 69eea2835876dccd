-- Formulas without two negations next to each other. (Double negation: Klarlund and Møller, MONA Version 1.4 User
-- Manual, simplifies formulas likewise before it decides them.)
use Rattle.std.specs.Prelude.{unwrap_or}
use Rattle.ws2s_core.specs.declared.formula.Formula.{Formula, roll-Formula}
use Rattle.ws2s_core.specs.declared.formula.Formula.TheVariants.{Not}
use Rattle.ws2s_core.specs.declared.formula.Formula.TheOpen.{Formula-F}
use Rattle.ws2s_core.specs.declared.formula.Formula.TheFolds.{fold-Formula}
use Rattle.ws2s_core.specs.Negated.{negated}

-- the negation of f: g where f is `Not g`, and otherwise `Not f`
abbrev pub negation_of : Formula → Formula
negation_of f = unwrap_or (negated f) (Not f)

abbrev pub flattened_node : Formula-F Formula → Formula
flattened_node (Formula-F.Not f) = negation_of f
flattened_node node = roll-Formula node

-- the formula with every negation taken so, from its parts up
abbrev pub flattened : Formula → Formula
flattened = fold-Formula Formula flattened_node
