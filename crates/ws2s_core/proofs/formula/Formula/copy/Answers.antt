use Rattle.std.proofs.Common.{drop, reverse, ap, ◌∙◌}
use Rattle.ws2s_core.specs.Postfix.{postfix_of, run_on}
use Rattle.ws2s_core.proofs.PostfixLemmas.{run_on-whole, applied-next}
use Rattle.ws2s_core.proofs.formula.Formula.copy.Goals as goal

pub loop-symbol-init : goal.loop-symbol-init
loop-symbol-init c =
    ap (λ symbols. run_on (drop 0 symbols) (reverse c.new-parts.result.items)) (c.as_slice-symbol-items.ensures.value ∙ c.in_ok-symbols.ensures)
    ∙ ap (λ parts. run_on (postfix_of c.args.self.now) (reverse parts)) c.new-parts.ensures.items
    ∙ run_on-whole c.args.self.now

pub apply_symbol-requires : goal.apply_symbol-requires
apply_symbol-requires c = applied-next _ c.loop-symbol.symbol-index _ _ _ c.loop-symbol-test.true c.loop-symbol.invariant
