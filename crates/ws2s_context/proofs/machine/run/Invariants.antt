use Rattle.ws2s_core.specs.Nodes.{Extends}
use Rattle.ws2s_facts.specs.Facts.{AreFacts}
use Rattle.ws2s_context.specs.Going.{IsGoing}
use Rattle.ws2s_context.proofs.machine.run.Given as goal

abbrev pub invariant-tasks : goal.invariant-tasks
invariant-tasks l = record {
  kept : Extends l.fn.interner l.interner;
  facts : AreFacts l.interner l.facts.facts.items;
  going : IsGoing l.interner l.machine.tasks l.machine.rewritings.made.items;
}
