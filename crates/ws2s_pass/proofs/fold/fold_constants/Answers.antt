use Rattle.std.proofs.Common.{◌≡◌, drop, reverse, ap, ◌∙◌, sym, subst, rules, arith}
use Rattle.std.proofs.lemmas.Grind.{common_steps}
use Rattle.std.proofs.lemmas.Result.{IfOk-weaker}
use Rattle.ws2s_core.specs.Postfix.{postfix_of}
use Rattle.ws2s_pass.specs.Constants.{folded, folded_node, settled}
use Rattle.ws2s_pass.specs.Folding.{stepped_over}
use Rattle.ws2s_pass.specs.Rewriting.{IsRewriting}
use Rattle.ws2s_pass.proofs.ConstantsLemmas.{IsRewriting-without_constants}
use Rattle.ws2s_pass.proofs.FoldingLemmas.{stepped_over-whole, stepped-next}
use Rattle.ws2s_pass.proofs.fold.fold_constants.Goals as goal

pub loop-symbol-init : goal.loop-symbol-init
loop-symbol-init c =
    ap (λ symbols. stepped_over folded_node (drop 0 symbols) (reverse c.new-parts.result.items))
    (c.as_slice-symbol-items.ensures.value ∙ c.in_ok-symbols.ensures)
    ∙ ap (λ parts. stepped_over folded_node (postfix_of c.args.formula.now) (reverse parts)) c.new-parts.ensures.items
    ∙ stepped_over-whole folded_node c.args.formula.now

pub fold_symbol-requires : goal.fold_symbol-requires
fold_symbol-requires c = stepped-next folded_node _ c.loop-symbol.symbol-index _ _ _ c.loop-symbol-test.true c.loop-symbol.invariant

pub returns-clause-kept : goal.returns-clause-kept
returns-clause-kept c =
    let whole : c.unwrap-whole.result ≡ folded c.args.formula.now = first_of (search rules, grind (arith, common_steps)) in
    IfOk-weaker c.settle.result (λ made. made ≡ settled c.args.formula.now c.unwrap-whole.result) (λ made. IsRewriting c.args.formula.now made)
    (λ made value. subst (IsRewriting c.args.formula.now) (sym (value ∙ ap (settled c.args.formula.now) whole))
    (IsRewriting-without_constants c.args.formula.now))
    c.settle.ensures
