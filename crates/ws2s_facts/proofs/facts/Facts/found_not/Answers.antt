use Rattle.std.proofs.Common.{◌∙◌}
use Rattle.ws2s_facts.proofs.FactsLemmas.{free-of}
use Rattle.ws2s_facts.proofs.facts.Facts.found_not.Goals as goal

pub returns : goal.returns
returns c = record {
  exactly = λ formulas known t. c.in_ok-tracks.ensures t
      ∙ free-of formulas c.in-Some.inner.now c.args.f t (c.in-Some.ensures.fact formulas known) c.in-Some.ensures.id;
}
