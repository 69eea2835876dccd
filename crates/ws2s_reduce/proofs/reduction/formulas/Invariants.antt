use Rattle.std.proofs.Common.{◌≡◌, [], map, take}
use Rattle.ws2s_syntax.specs.Sentences.{sentence_of}
use Rattle.ws2s_reduce.specs.Reducing.{reduced, no_reductions, reductions_from}
use Rattle.ws2s_reduce.proofs.reduction.formulas.Given as goal

abbrev pub invariant-loop-formula : goal.invariant-loop-formula
invariant-loop-formula l = l.formulas.items ≡ map
    (λ f. reduced (reductions_from no_reductions 0 (map (λ p. sentence_of p.body) l.predicates)) l.fn.next [] (sentence_of f))
    (take l.formula-index l.stated)
