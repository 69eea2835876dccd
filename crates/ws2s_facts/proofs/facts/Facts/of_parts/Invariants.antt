use Rattle.ws2s_facts.specs.Facts.{AreFacts}
use Rattle.ws2s_facts.proofs.facts.Facts.of_parts.Given as goal

abbrev pub invariant-loop-part : goal.invariant-loop-part
invariant-loop-part l = AreFacts l.interner l.facts.facts.items
