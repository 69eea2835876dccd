use Rattle.ws2s_facts.proofs.ConjunctsLemmas.{Extends-trans}
use Rattle.ws2s_decide.proofs.WaysLemmas.{TellsOf-same, TellsOf-opened}
use Rattle.ws2s_decide.proofs.ways.easier.Goals as goal

pub opened-requires : goal.opened-requires
opened-requires c =
    let rewritten = c.in_ok-rewritten.ensures.value c.requires.0 c.requires.1 in
    (rewritten.0, rewritten.1)

pub returns-clause-value : goal.returns-clause-value
returns-clause-value c = λ f e.
    let rewritten = c.in_ok-rewritten.ensures.value f e in
    let made = c.in_ok-made.ensures.value rewritten.0 rewritten.1 in (
      made.0,
      made.1,
      TellsOf-same c.args.weigh.now f rewritten.0 made.0 rewritten.2 (TellsOf-opened c.args.weigh.now rewritten.0 made.0 made.2),
    )

pub returns-clause-kept : goal.returns-clause-kept
returns-clause-kept c =
    Extends-trans c.args.interner.now c.in_context.new.interner c.opened.new.interner c.in_context.ensures.kept c.opened.ensures.kept
