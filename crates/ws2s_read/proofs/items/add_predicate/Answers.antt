use Rattle.std.proofs.Common.{length, sym, ap, ◌∙◌}
use Rattle.ws2s_read.specs.declared.names.Meaning.TheVariants as stands_for
use Rattle.ws2s_read.specs.Resolving.{meaning_of, declared, classes_of}
use Rattle.ws2s_read.proofs.ResolvingLemmas.{stop_returned, predicate_stop-new, predicate_stop-body, predicate_made}
use Rattle.ws2s_read.proofs.items.add_predicate.Goals as goal

pub returns-in_err-check_new-clause-stop : goal.returns-in_err-check_new-clause-stop
returns-in_err-check_new-clause-stop c =
    let e = c.in_err-check_new.field-0.0 in
    stop_returned _ c.from_residual.result e c.from_residual.ensures.1
    (predicate_stop-new c.args.name.now c.args.parameters.now c.args.body.now c.args.stage.now e
    (c.in_err-check_new.ensures.stop
    (stands_for.Predicate (length c.args.stage.now.predicates) (classes_of c.args.parameters.now))))

pub returns-in_err-body-clause-stop : goal.returns-in_err-body-clause-stop
returns-in_err-body-clause-stop c =
    let e = c.in_err-body.field-0.0 in
    stop_returned _ c.from_residual-in_err-body.result e c.from_residual-in_err-body.ensures.1
    (predicate_stop-body c.args.name.now c.args.parameters.now c.args.body.now c.args.stage.now e c.in_ok-check_new.ensures.new
    c.in_err-body.ensures.stop)

pub add-requires : goal.add-requires
add-requires c =
    ap (λ names. meaning_of names c.args.name.now.bytes) c.in_ok-body.ensures.names_stay ∙ c.in_ok-check_new.ensures.new

pub returns-clause-stage : goal.returns-clause-stage
returns-clause-stage c =
    predicate_made c.args.name.now c.args.parameters.now c.args.body.now c.args.stage.now c.in_ok-body.body c.in_ok-number.number
    c.in_ok-classes.classes c.in_ok-params.params c.add.new.self c.push.new.self c.in_ok-body.ensures.formula
    (c.in_ok-number.ensures.value ∙ c.len.ensures) c.in_ok-classes.ensures
    (ap (λ names. declared names c.args.name.now (stands_for.Predicate c.in_ok-number.number c.in_ok-classes.classes)) (sym c.in_ok-body.ensures.names_stay)
    ∙ c.in_ok-add.ensures)
    c.in_ok-params.ensures c.in_ok-push.ensures.ok
