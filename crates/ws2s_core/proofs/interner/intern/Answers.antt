use Rattle.std.proofs.Common.{List, subst}
use Rattle.ws2s_core.specs.declared.formula.Formula.{Formula}
use Rattle.ws2s_core.specs.Nodes.{Extends, formulas_of}
use Rattle.ws2s_core.proofs.NodesLemmas.{Extends-formulas_of, IsOnceEach-indexed}
use Rattle.ws2s_core.proofs.interner.intern.Goals as goal

pub returns-in_err-place-clause-once : goal.returns-in_err-place-clause-once
returns-in_err-place-clause-once c =
    IsOnceEach-indexed c.place_formula.new.table.nodes.items c.place_formula.new.table.places c.place_formula.ensures.indexed

pub returns-clause-kept : goal.returns-clause-kept
returns-clause-kept c =
    subst (λ (old : List Formula). Extends old (formulas_of c.place_formula.new.table.nodes.items)) c.interner.view_is
    (Extends-formulas_of c.interner.inside.table.nodes.items c.place_formula.new.table.nodes.items c.place_formula.ensures.kept)

pub returns-clause-once : goal.returns-clause-once
returns-clause-once c =
    IsOnceEach-indexed c.place_formula.new.table.nodes.items c.place_formula.new.table.places c.place_formula.ensures.indexed
