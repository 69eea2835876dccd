use Rattle.std.proofs.Common.{drop, reverse, map, ap, ◌∙◌, rules, arith}
use Rattle.std.proofs.lemmas.Grind.{common_steps}
use Rattle.ws2s_core.specs.Postfix.{postfix_of, run_on}
use Rattle.ws2s_core.proofs.PostfixLemmas.{run_on-whole, applied-next}
use Rattle.ws2s_narrow.specs.declared.sharing.Read.{Read}
use Rattle.ws2s_narrow.proofs.steps.steps_of.Goals as goal

pub loop-symbol-init : goal.loop-symbol-init
loop-symbol-init c = record {
  run = ap (λ symbols. run_on (drop 0 symbols) (map (λ (read : Read). read.part.formula) (reverse c.new-parts.result.items)))
      (c.as_slice-symbol-items.ensures.value ∙ c.in_ok-symbols.ensures)
      ∙ ap (λ parts. run_on (postfix_of c.args.formula.now) (map (λ (read : Read). read.part.formula) (reverse parts))) c.new-parts.ensures.items
      ∙ run_on-whole c.args.formula.now;
  leads = first_of (search rules, grind (arith, common_steps));
}

pub read-requires : goal.read-requires
read-requires c = applied-next _ c.loop-symbol.symbol-index _ _ _ c.loop-symbol-test.true c.loop-symbol.invariant.run
