use Rattle.std.proofs.Common.{min, not, count_by, sym, ap, ◌∙◌}
use Rattle.std.proofs.lemmas.Bool.{ltb-true, lt-ltb}
use Rattle.ws2s_reduce.specs.Sizes.{formulas_size, sizes_in}
use Rattle.ws2s_reduce.proofs.SmallLemmas.{IsSmall-found}
use Rattle.ws2s_reduce.proofs.size.is_small_with.Goals as goal

pub returns : goal.returns
returns c = λ text is_free is_stated are.
    let found = IsSmall-found text c.args.sizes.now c.size_of_formulas-size.result c.capped-positions.result are
    (c.size_of_formulas-size.ensures ∙ ap (λ stated. min (formulas_size (sizes_in c.args.sizes.now) stated) 65537) (sym is_stated))
    (c.capped-positions.ensures
    ∙ ap (λ n. min n 65537) (c.count_of_positions-found.ensures ∙ ap (count_by (λ variable. not variable.set)) (sym is_free))) in
    ((λ h. found.0 (ltb-true _ 65536 h)), (λ h. lt-ltb _ 65536 (found.1 h)))
