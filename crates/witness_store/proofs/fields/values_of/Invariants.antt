use Rattle.std.proofs.Common.{◌≡◌, List, take}
use Rattle.gta_theory.specs.Assignments.{Position}
use Rattle.ws2s_core.specs.LabelTrees.{IsTree, assignment_of}
use Rattle.ws2s_theory.specs.Trees.{StandsAt}
use Rattle.store_core.specs.Tables.{KnowsVariant, fields_of}
use Rattle.tree_store.specs.Decoded.{Standing, slots_in}
use Rattle.witness_store.specs.Finding.{IsFoundAs}
use Rattle.witness_store.specs.Reading.{IsBehind, AreRead}
use Rattle.witness_store.proofs.fields.values_of.Given as goal

-- the values of the fields so far, and the place behind them
abbrev pub invariant-loop-index : goal.invariant-loop-index
invariant-loop-index l = record {
  values : (cells : List Standing) (x : Standing) → AreRead l.l.types l.nodes cells l.numbers → IsFoundAs l.nodes l.cell x → KnowsVariant l.l.types x.variant →
      l.values ≡ slots_in l.l.types (assignment_of l.nodes) cells x 0 (take l.index (fields_of l.l.types x.variant.ty));
  place : (p : Position) → IsTree l.nodes → StandsAt l.nodes l.cell.node p → IsBehind l.l.types l.nodes p l.ty l.index l.place;
}
