use Rattle.std.proofs.Common.{refl}
use Rattle.bdd_nodes.specs.Shelf.{state_of}
use Rattle.bdd_nodes.proofs.SplitLemmas.{small_state}
use Rattle.gta_pinned.proofs.MakingLemmas.{chosen-answer}
use Rattle.gta_pinned.proofs.choosing.choose.Goals as goal

pub join-requires-clause-may_ask : goal.join-requires-clause-may_ask
join-requires-clause-may_ask c = λ label. record {
  test = state_of c.args.shelf.now c.args.test label;
  other = state_of c.args.shelf.now c.args.other label;
  both = refl;
  small = c.requires.small;
  other_small = small_state c.args.shelf.now c.requires.shelf label c.args.other c.requires.other;
}

pub join-requires-clause-fits : goal.join-requires-clause-fits
join-requires-clause-fits c = c.new-joiner.ensures _ c.args.shelf.now _

pub returns-clause-value : goal.returns-clause-value
returns-clause-value c = λ label.
    chosen-answer c.args.state (state_of c.args.shelf.now c.args.test label) (state_of c.args.shelf.now c.args.other label)
    (state_of c.join.new.shelf c.in_ok-made.made label) _ c.join.ensures.answers (c.in_ok-made.ensures.value label)
