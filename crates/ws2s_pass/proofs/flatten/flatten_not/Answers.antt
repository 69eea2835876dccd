use Rattle.std.proofs.Common.{◌≡◌, drop, reverse, ap, ◌∙◌, sym, subst, rules, arith}
use Rattle.std.proofs.lemmas.Grind.{common_steps}
use Rattle.ws2s_core.specs.Postfix.{postfix_of}
use Rattle.ws2s_pass.specs.Flattening.{flattened, flattened_node}
use Rattle.ws2s_pass.specs.Folding.{stepped_over}
use Rattle.ws2s_pass.specs.Rewriting.{IsRewriting}
use Rattle.ws2s_pass.proofs.FlatteningLemmas.{IsRewriting-flattened}
use Rattle.ws2s_pass.proofs.FoldingLemmas.{stepped_over-whole, stepped-next}
use Rattle.ws2s_pass.proofs.flatten.flatten_not.Goals as goal

pub loop-symbol-init : goal.loop-symbol-init
loop-symbol-init c =
    ap (λ symbols. stepped_over flattened_node (drop 0 symbols) (reverse c.new-parts.result.items))
    (c.as_slice-symbol-items.ensures.value ∙ c.in_ok-symbols.ensures)
    ∙ ap (λ parts. stepped_over flattened_node (postfix_of c.args.formula.now) (reverse parts)) c.new-parts.ensures.items
    ∙ stepped_over-whole flattened_node c.args.formula.now

pub flatten_symbol-requires : goal.flatten_symbol-requires
flatten_symbol-requires c = stepped-next flattened_node _ c.loop-symbol.symbol-index _ _ _ c.loop-symbol-test.true c.loop-symbol.invariant

pub returns-clause-kept : goal.returns-clause-kept
returns-clause-kept c =
    let value : c.unwrap-flat.result ≡ flattened c.args.formula.now = first_of (search rules, grind (arith, common_steps)) in
    subst (IsRewriting c.args.formula.now) (sym value) (IsRewriting-flattened c.args.formula.now)
