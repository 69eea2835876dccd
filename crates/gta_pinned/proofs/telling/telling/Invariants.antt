use Rattle.ws2s_theory.specs.Trees.{label_of}
use Rattle.gta_pinned.specs.Making.{Makes}
use Rattle.gta_pinned.proofs.TellsLemmas.{TellsFrom}
use Rattle.gta_pinned.proofs.telling.telling.Given as goal

abbrev pub invariant-loop-k : goal.invariant-loop-k
invariant-loop-k l = record {
  told : TellsFrom l.shelf l.rising l.k (label_of l.known) l.test;
  makes : Makes l.fn.shelf l.shelf;
}
