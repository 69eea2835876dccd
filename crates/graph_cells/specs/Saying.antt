-- What is said of a value that a field holds.
use Rattle.std.specs.Prelude.{ℕ}
use Rattle.ws2s_core.specs.declared.formula.Formula.{Formula}
use Rattle.graph_view.specs.declared.view.Sym.{Sym}
use Rattle.graph_view.specs.Syms.{is_in, truth}
use Rattle.graph_cells.specs.declared.fields.Saying.{Saying}
use Rattle.graph_cells.specs.declared.fields.Saying.TheVariants.{Cell, True}

abbrev pub says : ℕ → Saying → Sym → Formula
says next (Cell b) = is_in next b
says next True = truth next
