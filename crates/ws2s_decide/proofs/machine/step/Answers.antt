use Rattle.std.proofs.Common.{◌∷◌, sym, subst}
use Rattle.ws2s_decide.specs.declared.task.Task.{Task}
use Rattle.ws2s_decide.specs.Going.{moment, NeedsMore}
use Rattle.ws2s_decide.proofs.machine.step.Goals as goal

pub returns-in-Visit-clause-limit : goal.returns-in-Visit-clause-limit
returns-in-Visit-clause-limit c = λ stopped.
    subst (λ (task : Task). NeedsMore c.args.g.now c.args.interner.now
    (moment c.args.shelf.now (task ∷ c.args.machine.now.tasks) c.args.machine.now.automata c.args.kept.now)) (sym c.in-Visit.is) (c.visit.ensures.limit stopped)

pub returns-in-Negate-clause-limit : goal.returns-in-Negate-clause-limit
returns-in-Negate-clause-limit c = λ stopped.
    subst (λ (task : Task). NeedsMore c.args.g.now c.args.interner.now
    (moment c.args.shelf.now (task ∷ c.args.machine.now.tasks) c.args.machine.now.automata c.args.kept.now)) (sym c.in-Negate.is)
    (c.make_negation.ensures.limit stopped)

pub returns-in-Conjoin-clause-limit : goal.returns-in-Conjoin-clause-limit
returns-in-Conjoin-clause-limit c = λ stopped.
    subst (λ (task : Task). NeedsMore c.args.g.now c.args.interner.now
    (moment c.args.shelf.now (task ∷ c.args.machine.now.tasks) c.args.machine.now.automata c.args.kept.now)) (sym c.in-Conjoin.is)
    (c.make_conjunction.ensures.limit stopped)

pub returns-in-Quantify-clause-limit : goal.returns-in-Quantify-clause-limit
returns-in-Quantify-clause-limit c = λ stopped.
    subst (λ (task : Task). NeedsMore c.args.g.now c.args.interner.now
    (moment c.args.shelf.now (task ∷ c.args.machine.now.tasks) c.args.machine.now.automata c.args.kept.now)) (sym c.in-Quantify.is)
    (c.make_quantified.ensures.limit stopped)
