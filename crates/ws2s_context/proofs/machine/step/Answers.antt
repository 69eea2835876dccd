use Rattle.std.proofs.Common.{subst}
use Rattle.ws2s_context.specs.Going.{IsSound}
use Rattle.ws2s_context.proofs.GoingLemmas.{IsGoing-first, IsGoing-rest}
use Rattle.ws2s_context.proofs.machine.step.Goals as goal

pub visit-requires-clause-place : goal.visit-requires-clause-place
visit-requires-clause-place c = subst (IsSound c.args.interner.now) c.in-Visit.is (IsGoing-first c.args.interner.now c.args.task _ _ c.requires.going)

pub visit-requires-clause-going : goal.visit-requires-clause-going
visit-requires-clause-going c = IsGoing-rest c.args.interner.now c.args.task _ _ c.requires.going

pub turn-requires-clause-place : goal.turn-requires-clause-place
turn-requires-clause-place c = subst (IsSound c.args.interner.now) c.in-Turn.is (IsGoing-first c.args.interner.now c.args.task _ _ c.requires.going)

pub turn-requires-clause-going : goal.turn-requires-clause-going
turn-requires-clause-going c = IsGoing-rest c.args.interner.now c.args.task _ _ c.requires.going

pub make_conjunction-requires-clause-place : goal.make_conjunction-requires-clause-place
make_conjunction-requires-clause-place c = subst (IsSound c.args.interner.now) c.in-Conjoin.is
    (IsGoing-first c.args.interner.now c.args.task _ _ c.requires.going)

pub make_conjunction-requires-clause-going : goal.make_conjunction-requires-clause-going
make_conjunction-requires-clause-going c = IsGoing-rest c.args.interner.now c.args.task _ _ c.requires.going

pub make_negation-requires-clause-place : goal.make_negation-requires-clause-place
make_negation-requires-clause-place c = subst (IsSound c.args.interner.now) c.in-Negate.is (IsGoing-first c.args.interner.now c.args.task _ _ c.requires.going)

pub make_negation-requires-clause-going : goal.make_negation-requires-clause-going
make_negation-requires-clause-going c = IsGoing-rest c.args.interner.now c.args.task _ _ c.requires.going

pub make_quantified-requires-clause-place : goal.make_quantified-requires-clause-place
make_quantified-requires-clause-place c = subst (IsSound c.args.interner.now) c.in-Quantify.is
    (IsGoing-first c.args.interner.now c.args.task _ _ c.requires.going)

pub make_quantified-requires-clause-going : goal.make_quantified-requires-clause-going
make_quantified-requires-clause-going c = IsGoing-rest c.args.interner.now c.args.task _ _ c.requires.going
