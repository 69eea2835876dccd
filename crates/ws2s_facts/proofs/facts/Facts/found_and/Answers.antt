use Rattle.std.proofs.Common.{◌||◌, ◌∙◌, ap₂}
use Rattle.ws2s_facts.proofs.FactsLemmas.{free-of}
use Rattle.ws2s_facts.proofs.facts.Facts.found_and.Goals as goal

pub returns : goal.returns
returns c = record {
  exactly = λ formulas known t. c.in_ok-tracks.ensures t
      ∙ ap₂ (λ x y. x || y) (free-of formulas c.in-Some.left.now c.args.f t (c.in-Some.ensures.fact formulas known) c.in-Some.ensures.id)
      (free-of formulas c.in-Some-get.right.now c.args.g t (c.in-Some-get.ensures.fact formulas known) c.in-Some-get.ensures.id);
}
