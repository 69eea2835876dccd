use Rattle.std.proofs.Common.{min, ap, sym, ◌∙◌}
use Rattle.ws2s_syntax.specs.Sentences.{sentence_of}
use Rattle.ws2s_reduce.specs.Sizes.{sentence_size, sizes_in}
use Rattle.ws2s_reduce.proofs.SizesLemmas.{size-quantified_capped}
use Rattle.ws2s_reduce.proofs.size.+sizing.Goals as goal

pub size_of_formula-returns-in-Quantified : goal.size_of_formula-returns-in-Quantified
size_of_formula-returns-in-Quantified t c =
    size-quantified_capped (sizes_in c.args.sizes.now) c.in-Quantified.quantifier c.in-Quantified.names c.in-Quantified.inner
    c.size_of_formula-in-Quantified.result c.size_of_quantified.result
    (c.size_of_formula-in-Quantified.ensures ∙ ap (λ f. min (sentence_size (sizes_in c.args.sizes.now) (sentence_of f)) 65537) c.get-in-Quantified.ensures)
    c.size_of_quantified.ensures
    ∙ ap (λ f. min (sentence_size (sizes_in c.args.sizes.now) (sentence_of f)) 65537) (sym c.in-Quantified.is)
