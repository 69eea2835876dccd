use Rattle.std.proofs.Common.{◌∙◌, ◌++◌, ap, option_to_list, rules, arith}
use Rattle.ws2s_core.proofs.PlacingLemmas.{IsPlacedTo-first, IsPlacedTo-next, formulas_of-last}
use Rattle.ws2s_core.proofs.node_table.place_formula.Goals as goal

pub loop-symbol-init : goal.loop-symbol-init
loop-symbol-init c = record {
  placed = IsPlacedTo-first c.args.table.now.nodes.items c.reserve.new.table.nodes.items c.reserve.new.table.places c.in_ok-parts.parts.items
      c.as_slice-symbol-items.result.now c.args.formula.now c.reserve.ensures.indexed c.reserve.ensures.kept c.in_ok-parts.ensures.items
      (c.as_slice-symbol-items.ensures.value ∙ c.in_ok-symbols.ensures);
  room = search rules;
  len = search rules;
  capacity = search rules;
}

pub loop-symbol-preserved : goal.loop-symbol-preserved
loop-symbol-preserved c = record {
  placed = IsPlacedTo-next c.args.table.now.nodes.items c.loop-symbol.table.nodes.items c.loop-symbol.table.places c.loop-symbol.parts.items
      c.as_slice-symbol-items.result.now c.loop-symbol.symbol-index c.args.formula.now c.loop-symbol.invariant.placed _
      c.place_symbol.new.table.nodes.items c.place_symbol.new.table.places c.place_symbol.new.parts.items c.loop-symbol-test.true
      c.place_symbol.ensures.indexed c.place_symbol.ensures.kept c.place_symbol.ensures.inside c.place_symbol.ensures.value;
  room = c.place_symbol.ensures.room _
      (let room = c.loop-symbol.invariant.room in record { in_list = omega arith; in_map = omega arith; in_numbers = omega arith });
  len = omega arith;
  capacity = omega arith;
}

pub returns-clause-value : goal.returns-clause-value
returns-clause-value c =
    formulas_of-last c.args.table.now.nodes.items c.loop-symbol.table.nodes.items c.loop-symbol.table.places c.loop-symbol.parts.items
    c.as_slice-symbol-items.result.now c.loop-symbol.symbol-index c.args.formula.now c.loop-symbol.invariant.placed
    c.pop.new.self.items c.unwrap-place.result c.loop-symbol-test.false (c.pop.ensures.items
    ∙ ap (λ o. c.pop.new.self.items ++ option_to_list o) c.unwrap-place.ensures)
