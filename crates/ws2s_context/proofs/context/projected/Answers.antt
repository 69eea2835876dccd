use Rattle.std.proofs.Common.{length}
use Rattle.ws2s_facts.proofs.ConjunctsLemmas.{Extends-refl, Extends-trans, IsConjunct-itself, IsConjunct-quantified, made-Ex2, parts-Ex2, there-extends}
use Rattle.ws2s_facts.proofs.ConjunctsLemmas.{there-made}
use Rattle.ws2s_context.proofs.context.projected.Goals as goal

pub loop-t-init : goal.loop-t-init
loop-t-init c = record {
  kept = Extends-refl c.args.interner.now;
  conjunct = IsConjunct-itself c.args.interner.now c.args.id c.requires.id;
  facts = c.requires.facts;
}

pub make-requires-clause-parts : goal.make-requires-clause-parts
make-requires-clause-parts c = parts-Ex2 (length c.loop-t.interner) (record { 0 = 0 }) c.loop-t.made c.loop-t.invariant.conjunct.there

pub loop-t-preserved : goal.loop-t-preserved
loop-t-preserved c =
    let l = c.loop-t in
    let new = c.make.new.interner in
    record {
      kept = Extends-trans c.args.interner.now l.interner new l.invariant.kept c.make.ensures.kept;
      conjunct = IsConjunct-quantified l.interner new c.args.id l.made c.in_ok-made.made _ c.make.ensures.kept
          (there-extends c.args.interner.now l.interner c.args.id l.invariant.kept c.requires.id) l.invariant.conjunct
          (made-Ex2 l.interner new _ c.in_ok-made.made l.made c.in_ok-made.ensures.value)
          (there-made new _ _ c.in_ok-made.ensures.value);
      facts = c.in_ok-made.ensures.facts;
    }
