use Rattle.std.proofs.Common.{ap, ◌∙◌}
use Rattle.store_expand.specs.Sizes.{sizes_of}
use Rattle.store_expand.proofs.expanding.expand.Goals as goal

pub expand_with-requires-clause-sizes : goal.expand_with-requires-clause-sizes
expand_with-requires-clause-sizes c = c.as_slice-2.ensures.value ∙ c.in_ok-sizes.ensures ∙ ap sizes_of c.as_slice.ensures
