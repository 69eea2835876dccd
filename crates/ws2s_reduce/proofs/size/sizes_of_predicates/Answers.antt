use Rattle.std.proofs.Common.{◌+◌, min, [], ◌∷◌, length, map, take, sym, ap, ◌∙◌, subst, length-append}
use Rattle.ws2s_syntax.specs.Sentences.{sentence_of}
use Rattle.ws2s_reduce.specs.Reducing.{no_reductions, reductions_from}
use Rattle.ws2s_reduce.specs.Sizes.{sentence_size, sizes_in, AreSizes}
use Rattle.ws2s_reduce.proofs.NodesLemmas.{AreSizes-none, AreSizes-next}
use Rattle.ws2s_reduce.proofs.size.sizes_of_predicates.Goals as goal

pub loop-predicate-init : goal.loop-predicate-init
loop-predicate-init c = record {
  as_many = ap length c.new-sizes.ensures.items;
  sizes = subst (λ sizes. AreSizes sizes no_reductions) (sym c.new-sizes.ensures.items) AreSizes-none;
}

pub loop-predicate-preserved : goal.loop-predicate-preserved
loop-predicate-preserved c =
    let items = c.in_ok-push.ensures.items in
    let d = c.predicate-item.result in
    record {
      as_many = ap length items ∙ length-append c.loop-predicate.sizes.items (c.size_of_formula-size.result ∷ [])
          ∙ ap (λ n. n + 1) c.loop-predicate.invariant.as_many;
      sizes = subst
          (λ sizes. AreSizes sizes (reductions_from no_reductions 0
          (map (λ p. sentence_of p.body) (take (c.loop-predicate.predicate-index + 1) c.args.predicates.now))))
          (sym items)
          (AreSizes-next c.loop-predicate.sizes.items c.args.predicates.now c.loop-predicate.predicate-index c.size_of_formula-size.result d
          c.loop-predicate-test.true c.loop-predicate.invariant.as_many c.loop-predicate.invariant.sizes
          (c.size_of_formula-size.ensures
          ∙ ap (λ sizes. min (sentence_size (sizes_in sizes) (sentence_of d.body)) 65537) c.as_slice.ensures.value
          ∙ ap (λ p. min (sentence_size (sizes_in c.loop-predicate.sizes.items) (sentence_of p.body)) 65537) c.predicate-item.is));
    }
