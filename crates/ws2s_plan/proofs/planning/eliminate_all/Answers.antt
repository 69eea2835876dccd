use Rattle.ws2s_facts.proofs.ConjunctsLemmas.{Extends-refl, Extends-trans}
use Rattle.ws2s_plan.proofs.planning.eliminate_all.Goals as goal

pub loop-place-init : goal.loop-place-init
loop-place-init c = record {
  kept = Extends-refl c.args.interner.now;
  there = c.requires.there;
  facts = c.requires.facts;
  value = λ weigh f was. was;
}

pub loop-place-preserved : goal.loop-place-preserved
loop-place-preserved c = record {
  kept = Extends-trans c.args.interner.now c.loop-place.interner c.eliminate.new.interner c.loop-place.invariant.kept c.eliminate.ensures.kept;
  there = c.in_ok-eliminate.ensures.there;
  facts = c.in_ok-eliminate.ensures.facts;
  value = λ weigh f was. c.in_ok-eliminate.ensures.value weigh f (c.loop-place.invariant.value weigh f was);
}
