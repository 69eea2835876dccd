use Rattle.std.proofs.Common.{◌∙◌, ◌==◌, if◌then◌else◌, false, ap}
use Rattle.ws2s_facts.proofs.FactsLemmas.{free-of}
use Rattle.ws2s_facts.proofs.facts.Facts.found_ex2.Goals as goal

pub returns : goal.returns
returns c = record {
  exactly = λ formulas known u. c.in_ok-tracks.ensures u
      ∙ ap (λ b. if c.args.t.0 == u then false else b)
      (free-of formulas c.in-Some.inner.now c.args.f u (c.in-Some.ensures.fact formulas known) c.in-Some.ensures.id);
}
