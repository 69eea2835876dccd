use Rattle.std.proofs.Common.{All, vec_len}
use Rattle.ws2s_core.specs.Nodes.{Extends}
use Rattle.ws2s_facts.specs.Conjuncts.{IsThere, formula_of}
use Rattle.ws2s_facts.specs.Facts.{AreFacts}
use Rattle.ws2s_context.specs.Fronting.{IsFronting, links}
use Rattle.ws2s_context.proofs.fronting.conjoined_to.Given as goal

abbrev pub invariant-loop-conjunct : goal.invariant-loop-conjunct
invariant-loop-conjunct l = record {
  kept : Extends l.fn.interner l.interner;
  inside : All (IsThere l.fn.interner) l.others.items;
  there : IsThere l.interner l.made;
  fronting : IsFronting l.fn.interner (formula_of l.fn.interner l.fn.known) (links l.fn.chain) (formula_of l.interner l.made) l.others.items;
  facts : AreFacts l.interner l.facts.facts.items;
}

abbrev pub decreases-loop-conjunct : goal.decreases-loop-conjunct
decreases-loop-conjunct l = vec_len l.others
