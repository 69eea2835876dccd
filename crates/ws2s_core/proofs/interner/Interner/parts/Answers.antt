use Rattle.std.proofs.Common.{List, length, sym, ap, subst, arith}
use Rattle.gta_theory.proofs.ListedLemmas.{length-meanings}
use Rattle.ws2s_core.specs.declared.node.Node.{Node}
use Rattle.ws2s_core.specs.Nodes.{formula_of_node, formulas_of, IsOnceEach}
use Rattle.ws2s_core.proofs.NodesLemmas.{IsOnceEach-indexed}
use Rattle.ws2s_core.proofs.interner.Interner.parts.Goals as goal

pub parts_at-requires-clause-inside : goal.parts_at-requires-clause-inside
parts_at-requires-clause-inside c =
    omega (
      arith,
      c.requires,
      ap length c.self.view_is,
      length-meanings formula_of_node c.self.inside.table.nodes.items,
      ap length c.as_slice.ensures.value,
    )

pub parts_at-requires-clause-once : goal.parts_at-requires-clause-once
parts_at-requires-clause-once c =
    subst (λ (nodes : List Node). IsOnceEach (formulas_of nodes)) (sym c.as_slice.ensures.value)
    (IsOnceEach-indexed c.self.inside.table.nodes.items c.self.inside.table.places c.self.invariant)
