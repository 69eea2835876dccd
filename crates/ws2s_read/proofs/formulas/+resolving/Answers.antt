use Rattle.std.proofs.Common.{◌≡◌, Ok, IfOk, IfErr, ◌∙◌, subst}
use Rattle.ws2s_read.specs.Resolving.{IsStop}
use Rattle.ws2s_read.proofs.ResolvingLemmas.{stop_returned, all_bound-front, front-again}
use Rattle.ws2s_read.proofs.FormsLemmas.{stop-Not, found-Not, stop-Implies, same-Implies, stop-Chain, same-Chain, same-Quantified}
use Rattle.ws2s_read.proofs.formulas.+resolving.Goals as goal

pub resolve_formula-returns-in_err-formula-in-Not-clause-stop : goal.resolve_formula-returns-in_err-formula-in-Not-clause-stop
resolve_formula-returns-in_err-formula-in-Not-clause-stop t c =
    let e = c.in_err-formula-in-Not.field-0.0 in
    stop_returned _ c.from_residual.result e c.from_residual.ensures.1
    (stop-Not c.args.outer c.args.formula.now _ _ c.args.names.now e c.in-Not.is c.get.ensures c.in_err-formula-in-Not.ensures.stop)

pub resolve_formula-returns-in_err-left-in-Implies-clause-stop : goal.resolve_formula-returns-in_err-left-in-Implies-clause-stop
resolve_formula-returns-in_err-left-in-Implies-clause-stop t c =
    let e = c.in_err-left-in-Implies.field-0.0 in
    stop_returned _ c.from_residual-in_err-left-in-Implies.result e c.from_residual-in_err-left-in-Implies.ensures.1
    (stop-Implies c.args.outer c.args.formula.now _ _ _ c.args.names.now e c.in-Implies.is c.get-in-Implies.ensures c.in_err-left-in-Implies.ensures.stop)

pub resolve_formula-returns-in_err-first-in-Chain-clause-stop : goal.resolve_formula-returns-in_err-first-in-Chain-clause-stop
resolve_formula-returns-in_err-first-in-Chain-clause-stop t c =
    let e = c.in_err-first-in-Chain.field-0.0 in
    stop_returned _ c.from_residual-in_err-first-in-Chain.result e c.from_residual-in_err-first-in-Chain.ensures.1
    (stop-Chain c.args.outer c.args.formula.now _ _ _ _ c.args.names.now e c.in-Chain.is c.get-in-Chain.ensures c.in_err-first-in-Chain.ensures.stop)

pub resolve_formula-returns-in_ok-new-in-Not-clause-formula : goal.resolve_formula-returns-in_ok-new-in-Not-clause-formula
resolve_formula-returns-in_ok-new-in-Not-clause-formula t c =
    found-Not c.args.outer c.args.formula.now _ _ c.args.names.now _ _ c.in-Not.is c.get.ensures
    c.in_ok-formula-in-Not.ensures.formula c.in_ok-new-in-Not.ensures

pub resolve_formula-returns-in-Quantified-clause-formula : goal.resolve_formula-returns-in-Quantified-clause-formula
resolve_formula-returns-in-Quantified-clause-formula t c =
    subst (λ r. IfOk c.resolve_quantified.result (λ found. r ≡ Ok found))
    (same-Quantified c.args.outer c.args.formula.now _ _ _ _ _ c.args.names.now c.in-Quantified.is
    c.as_slice-names_bound.ensures c.get-in-Quantified.ensures) c.resolve_quantified.ensures.formula

pub resolve_formula-returns-in-Quantified-clause-stop : goal.resolve_formula-returns-in-Quantified-clause-stop
resolve_formula-returns-in-Quantified-clause-stop t c =
    subst (λ r. IfErr c.resolve_quantified.result (IsStop r))
    (same-Quantified c.args.outer c.args.formula.now _ _ _ _ _ c.args.names.now c.in-Quantified.is
    c.as_slice-names_bound.ensures c.get-in-Quantified.ensures) c.resolve_quantified.ensures.stop

pub resolve_quantified-returns-clause-names_stay : goal.resolve_quantified-returns-clause-names_stay
resolve_quantified-returns-clause-names_stay t c =
    c.close.ensures
    ∙ front-again c.args.names.now _ _ _ (all_bound-front _ _ _ c.args.names.now _ c.in_ok-bind_names.ensures.names) c.in_ok-formula.ensures.names_stay
    c.len-before.ensures

pub resolve_formula-returns-in_ok-left-in-Implies-clause-formula : goal.resolve_formula-returns-in_ok-left-in-Implies-clause-formula
resolve_formula-returns-in_ok-left-in-Implies-clause-formula t c =
    subst (λ r. IfOk c.resolve_right.result (λ found. r ≡ Ok found))
    (same-Implies c.args.outer c.args.formula.now _ _ _ _ c.args.names.now _ _ c.in-Implies.is c.get-in-Implies.ensures c.get-in-Implies-2.ensures
    c.in_ok-left-in-Implies.ensures.names_stay c.in_ok-left-in-Implies.ensures.formula) c.resolve_right.ensures.formula

pub resolve_formula-returns-in_ok-left-in-Implies-clause-stop : goal.resolve_formula-returns-in_ok-left-in-Implies-clause-stop
resolve_formula-returns-in_ok-left-in-Implies-clause-stop t c =
    subst (λ r. IfErr c.resolve_right.result (IsStop r))
    (same-Implies c.args.outer c.args.formula.now _ _ _ _ c.args.names.now _ _ c.in-Implies.is c.get-in-Implies.ensures c.get-in-Implies-2.ensures
    c.in_ok-left-in-Implies.ensures.names_stay c.in_ok-left-in-Implies.ensures.formula) c.resolve_right.ensures.stop

pub resolve_formula-returns-in_ok-first-in-Chain-clause-formula : goal.resolve_formula-returns-in_ok-first-in-Chain-clause-formula
resolve_formula-returns-in_ok-first-in-Chain-clause-formula t c =
    subst (λ r. IfOk c.resolve_others.result (λ found. r ≡ Ok found))
    (same-Chain c.args.outer c.args.formula.now _ _ _ _ _ c.args.names.now _ _ c.in-Chain.is c.get-in-Chain.ensures c.as_slice-others.ensures
    c.in_ok-first-in-Chain.ensures.names_stay c.in_ok-first-in-Chain.ensures.formula) c.resolve_others.ensures.formula

pub resolve_formula-returns-in_ok-first-in-Chain-clause-stop : goal.resolve_formula-returns-in_ok-first-in-Chain-clause-stop
resolve_formula-returns-in_ok-first-in-Chain-clause-stop t c =
    subst (λ r. IfErr c.resolve_others.result (IsStop r))
    (same-Chain c.args.outer c.args.formula.now _ _ _ _ _ c.args.names.now _ _ c.in-Chain.is c.get-in-Chain.ensures c.as_slice-others.ensures
    c.in_ok-first-in-Chain.ensures.names_stay c.in_ok-first-in-Chain.ensures.formula) c.resolve_others.ensures.stop

pub resolve_formula-returns-in_default-clause-formula : goal.resolve_formula-returns-in_default-clause-formula
resolve_formula-returns-in_default-clause-formula t c = c.resolve_alone.ensures.formula c.args.outer

pub resolve_formula-returns-in_default-clause-stop : goal.resolve_formula-returns-in_default-clause-stop
resolve_formula-returns-in_default-clause-stop t c = c.resolve_alone.ensures.stop c.args.outer
