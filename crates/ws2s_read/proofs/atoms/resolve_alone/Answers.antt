use Rattle.std.proofs.Common.{IfOk, IfErr, Ok, ◌≡◌, sym, ap, ◌∙◌, subst}
use Rattle.ws2s_read.specs.Resolving.{IsStop, resolved_use}
use Rattle.ws2s_read.proofs.ResolvingLemmas.{stop_returned}
use Rattle.ws2s_read.proofs.FormsLemmas.{at-Truth, stop-Empty, found-Empty, stop-Same, found-Same, at-Differ, stop-In, found-In}
use Rattle.ws2s_read.proofs.FormsLemmas.{at-NotIn, stop-Sub, found-Sub, stop-Use, found-Use}
use Rattle.ws2s_read.proofs.atoms.resolve_alone.Goals as goal

pub returns-in_err-resolve_empty-in-Empty-clause-stop : goal.returns-in_err-resolve_empty-in-Empty-clause-stop
returns-in_err-resolve_empty-in-Empty-clause-stop c = λ outer.
    let e = c.in_err-resolve_empty-in-Empty.field-0.0 in
    stop_returned _ c.from_residual.result e c.from_residual.ensures.1
    (stop-Empty outer c.args.formula.now _ c.args.names.now e c.in-Empty.is c.in_err-resolve_empty-in-Empty.ensures.stop)

pub returns-in_err-atom-in-Same-clause-stop : goal.returns-in_err-atom-in-Same-clause-stop
returns-in_err-atom-in-Same-clause-stop c = λ outer.
    let e = c.in_err-atom-in-Same.field-0.0 in
    stop_returned _ c.from_residual-in_err-atom-in-Same.result e c.from_residual-in_err-atom-in-Same.ensures.1
    (stop-Same outer c.args.formula.now _ _ c.args.names.now e c.in-Same.is c.in_err-atom-in-Same.ensures.stop)

pub returns-in_err-atom-in-In-clause-stop : goal.returns-in_err-atom-in-In-clause-stop
returns-in_err-atom-in-In-clause-stop c = λ outer.
    let e = c.in_err-atom-in-In.field-0.0 in
    stop_returned _ c.from_residual-in_err-atom-in-In.result e c.from_residual-in_err-atom-in-In.ensures.1
    (stop-In outer c.args.formula.now _ _ c.args.names.now e c.in-In.is c.in_err-atom-in-In.ensures.stop)

pub returns-in_err-atom-in-Sub-clause-stop : goal.returns-in_err-atom-in-Sub-clause-stop
returns-in_err-atom-in-Sub-clause-stop c = λ outer.
    let e = c.in_err-atom-in-Sub.field-0.0 in
    stop_returned _ c.from_residual-in_err-atom-in-Sub.result e c.from_residual-in_err-atom-in-Sub.ensures.1
    (stop-Sub outer c.args.formula.now _ _ c.args.names.now e c.in-Sub.is c.in_err-atom-in-Sub.ensures.stop)

pub returns-in_err-atom-in-Use-clause-stop : goal.returns-in_err-atom-in-Use-clause-stop
returns-in_err-atom-in-Use-clause-stop c = λ outer.
    let e = c.in_err-atom-in-Use.field-0.0 in
    stop_returned _ c.from_residual-in_err-atom-in-Use.result e c.from_residual-in_err-atom-in-Use.ensures.1
    (stop-Use outer c.args.formula.now _ _ c.args.names.now e c.in-Use.is
    (subst (λ terms. IsStop (resolved_use c.args.names.now c.in-Use.name terms) e) c.as_slice.ensures c.in_err-atom-in-Use.ensures.stop))

pub returns-in-Truth-clause-formula : goal.returns-in-Truth-clause-formula
returns-in-Truth-clause-formula c = λ outer.
    at-Truth outer c.args.formula.now _ c.args.names.now c.in-Truth.is

pub returns-in_ok-resolve_empty-in-Empty-clause-formula : goal.returns-in_ok-resolve_empty-in-Empty-clause-formula
returns-in_ok-resolve_empty-in-Empty-clause-formula c = λ outer.
    found-Empty outer c.args.formula.now _ c.args.names.now _ c.in-Empty.is c.in_ok-resolve_empty-in-Empty.ensures.atom

pub returns-in_ok-atom-in-Same-clause-formula : goal.returns-in_ok-atom-in-Same-clause-formula
returns-in_ok-atom-in-Same-clause-formula c = λ outer.
    found-Same outer c.args.formula.now _ _ c.args.names.now _ c.in-Same.is c.in_ok-atom-in-Same.ensures.atom

pub returns-in_ok-atom-in-In-clause-formula : goal.returns-in_ok-atom-in-In-clause-formula
returns-in_ok-atom-in-In-clause-formula c = λ outer.
    found-In outer c.args.formula.now _ _ c.args.names.now _ c.in-In.is c.in_ok-atom-in-In.ensures.atom

pub returns-in_ok-atom-in-Sub-clause-formula : goal.returns-in_ok-atom-in-Sub-clause-formula
returns-in_ok-atom-in-Sub-clause-formula c = λ outer.
    found-Sub outer c.args.formula.now _ _ c.args.names.now _ c.in-Sub.is c.in_ok-atom-in-Sub.ensures.atom

pub returns-in_ok-atom-in-Use-clause-formula : goal.returns-in_ok-atom-in-Use-clause-formula
returns-in_ok-atom-in-Use-clause-formula c = λ outer.
    found-Use outer c.args.formula.now _ _ c.args.names.now _ c.in-Use.is
    (ap (resolved_use c.args.names.now c.in-Use.name) (sym c.as_slice.ensures) ∙ c.in_ok-atom-in-Use.ensures.atom)

pub returns-in-Differ-clause-formula : goal.returns-in-Differ-clause-formula
returns-in-Differ-clause-formula c = λ outer.
    subst (λ r. IfOk c.resolve_differ.result (λ found. r ≡ Ok found)) (sym (at-Differ outer c.args.formula.now _ _ c.args.names.now c.in-Differ.is))
    c.resolve_differ.ensures.formula

pub returns-in-Differ-clause-stop : goal.returns-in-Differ-clause-stop
returns-in-Differ-clause-stop c = λ outer.
    subst (λ r. IfErr c.resolve_differ.result (IsStop r)) (sym (at-Differ outer c.args.formula.now _ _ c.args.names.now c.in-Differ.is))
    c.resolve_differ.ensures.stop

pub returns-in-NotIn-clause-formula : goal.returns-in-NotIn-clause-formula
returns-in-NotIn-clause-formula c = λ outer.
    subst (λ r. IfOk c.resolve_not_in.result (λ found. r ≡ Ok found)) (sym (at-NotIn outer c.args.formula.now _ _ c.args.names.now c.in-NotIn.is))
    c.resolve_not_in.ensures.formula

pub returns-in-NotIn-clause-stop : goal.returns-in-NotIn-clause-stop
returns-in-NotIn-clause-stop c = λ outer.
    subst (λ r. IfErr c.resolve_not_in.result (IsStop r)) (sym (at-NotIn outer c.args.formula.now _ _ c.args.names.now c.in-NotIn.is))
    c.resolve_not_in.ensures.stop
