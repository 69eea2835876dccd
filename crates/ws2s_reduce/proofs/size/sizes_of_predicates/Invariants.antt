use Rattle.std.proofs.Common.{◌≡◌, length, map, take}
use Rattle.ws2s_syntax.specs.Sentences.{sentence_of}
use Rattle.ws2s_reduce.specs.Reducing.{no_reductions, reductions_from}
use Rattle.ws2s_reduce.specs.Sizes.{AreSizes}
use Rattle.ws2s_reduce.proofs.size.sizes_of_predicates.Given as goal

abbrev pub invariant-loop-predicate : goal.invariant-loop-predicate
invariant-loop-predicate l = record {
  as_many : length l.sizes.items ≡ l.predicate-index;
  sizes : AreSizes l.sizes.items (reductions_from no_reductions 0 (map (λ p. sentence_of p.body) (take l.predicate-index l.predicates)));
}
