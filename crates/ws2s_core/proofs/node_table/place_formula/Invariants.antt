use Rattle.std.proofs.Common.{◌-◌, ◌≤◌, length, drop, vec_len, vec_capacity}
use Rattle.ws2s_core.specs.Nodes.{HasRoom, IsPlacedTo}
use Rattle.ws2s_core.proofs.node_table.place_formula.Given as goal

abbrev pub invariant-loop-symbol : goal.invariant-loop-symbol
invariant-loop-symbol l = record {
  placed : IsPlacedTo l.fn.table.nodes.items l.table.nodes.items l.table.places l.parts.items (drop l.symbol-index l.symbol-items) l.formula;
  room : HasRoom l.table.nodes l.table.places (length l.symbol-items - l.symbol-index);
  len : vec_len l.parts ≤ l.symbol-index;
  capacity : length l.symbol-items ≤ vec_capacity l.parts;
}
