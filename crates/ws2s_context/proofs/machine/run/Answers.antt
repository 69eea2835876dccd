use Rattle.std.proofs.Common.{subst, List}
use Rattle.ws2s_context.specs.declared.task.Task.{Task}
use Rattle.ws2s_context.specs.Going.{IsGoing}
use Rattle.ws2s_facts.proofs.ConjunctsLemmas.{Extends-refl, Extends-trans}
use Rattle.ws2s_context.proofs.machine.run.Goals as goal

pub tasks-init : goal.tasks-init
tasks-init c = record { kept = Extends-refl c.args.interner.now; facts = c.requires.facts; going = c.requires.going }

pub step-requires-clause-going : goal.step-requires-clause-going
step-requires-clause-going c =
    let l = c.tasks in
    subst (λ (tasks : List Task). IsGoing l.interner tasks l.machine.rewritings.made.items) c.in-Some.ensures l.invariant.going

pub tasks-preserved : goal.tasks-preserved
tasks-preserved c =
    let l = c.tasks in
    record {
      kept = Extends-trans c.args.interner.now l.interner c.step.new.interner l.invariant.kept c.step.ensures.kept;
      facts = c.in_ok-step.ensures.facts;
      going = c.in_ok-step.ensures.ok;
    }
