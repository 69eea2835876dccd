-- The spaces that were looked at before a cascade.
use Rattle.gta_refine.proofs.FinerLemmas.{AreLooked-finer}
use Rattle.gta_refine.proofs.rounds.refine_fully.Goals as goal

pub refine_more-requires-clause-looked : goal.refine_more-requires-clause-looked
refine_more-requires-clause-looked c =
    AreLooked-finer c.args.form.now c.rounds.spaces.items c.cascade.new.spaces.items c.rounds.looked.items c.requires.form
    c.rounds.invariant.partition c.in_ok-cascade.ensures.finer c.rounds.invariant.looked

pub returns-then-not-branch-clause-stable : goal.returns-then-not-branch-clause-stable
returns-then-not-branch-clause-stable c = c.in_ok-refine_some.ensures.stable c.if-not-branch.true

pub returns-clause-stable : goal.returns-clause-stable
returns-clause-stable c = c.in_ok-is_more.ensures.stable c.if-not-is_more.true
