use Rattle.std.proofs.Common.{length}
use Rattle.bdd_nodes.proofs.IndexLemmas.{HasPassed}
use Rattle.bdd_nodes.proofs.index.Index.find.Given as goal

abbrev pub invariant-loop-link : goal.invariant-loop-link
invariant-loop-link l = HasPassed l.nodes (length l.self.buckets.items) l.node l.link

abbrev pub decreases-loop-link : goal.decreases-loop-link
decreases-loop-link l = l.link
