use Rattle.std.proofs.Common.{◌≡◌, drop, reverse, map, ap, ◌∙◌, sym, subst, rules, arith}
use Rattle.std.proofs.lemmas.Grind.{common_steps}
use Rattle.ws2s_core.specs.Postfix.{postfix_of}
use Rattle.ws2s_pass.specs.declared.used.Part.{Part}
use Rattle.ws2s_pass.specs.Folding.{stepped_over}
use Rattle.ws2s_pass.specs.Rewriting.{IsRewriting}
use Rattle.ws2s_pass.specs.Using.{without_unused, used_node}
use Rattle.ws2s_pass.proofs.FoldingLemmas.{stepped_over-whole, stepped-next}
use Rattle.ws2s_pass.proofs.UsingLemmas.{IsRewriting-without_unused}
use Rattle.ws2s_pass.proofs.unused.drop_unused.Goals as goal

pub loop-symbol-init : goal.loop-symbol-init
loop-symbol-init c =
    ap (λ symbols. stepped_over used_node (drop 0 symbols) (map (λ (part : Part). part.formula) (reverse c.new-parts.result.items)))
    (c.as_slice-symbol-items.ensures.value ∙ c.in_ok-symbols.ensures)
    ∙ ap (λ parts. stepped_over used_node (postfix_of c.args.formula.now) (map (λ (part : Part). part.formula) (reverse parts))) c.new-parts.ensures.items
    ∙ stepped_over-whole used_node c.args.formula.now

pub use_symbol-requires : goal.use_symbol-requires
use_symbol-requires c = stepped-next used_node _ c.loop-symbol.symbol-index _ _ _ c.loop-symbol-test.true c.loop-symbol.invariant

pub returns-clause-kept : goal.returns-clause-kept
returns-clause-kept c =
    let value : c.unwrap-formula.result.formula ≡ without_unused c.args.formula.now = first_of (search rules, grind (arith, common_steps)) in
    subst (IsRewriting c.args.formula.now) (sym value) (IsRewriting-without_unused c.args.formula.now)
