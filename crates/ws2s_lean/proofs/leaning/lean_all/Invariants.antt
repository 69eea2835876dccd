use Rattle.ws2s_core.specs.Nodes.{Extends}
use Rattle.ws2s_lean.specs.Conjunctions.{AreLeaned}
use Rattle.ws2s_lean.proofs.leaning.lean_all.Given as goal

abbrev pub invariant-loop-part : goal.invariant-loop-part
invariant-loop-part l = record {
  kept : Extends l.fn.interner l.interner;
  leaned : AreLeaned l.interner l.leaned.made.items;
}
