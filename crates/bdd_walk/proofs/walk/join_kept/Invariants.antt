-- The loop is at work for the call.
use Rattle.std.proofs.Common.{◌+◌, ℕ, List}
use Rattle.bdd_walk.specs.Answers.{AnswersOnly}
use Rattle.bdd_walk.specs.Asked.{IsGiven}
use Rattle.bdd_walk.specs.Waits.{turn_cost, stack_cost}
use Rattle.bdd_walk.specs.Progress.{Works}
use Rattle.bdd_walk.proofs.walk.join_kept.Given as goal

abbrev pub invariant-loop-turn : goal.invariant-loop-turn
invariant-loop-turn g l = record {
  works : Works g.W.Key.PartialEq.eq (g.W.Walk.asked l.walk l.fn.shelf) (g.W.Walk.is_in l.walk l.fn.shelf)
      (record { shelf = l.fn.shelf; answers = g.L.LeafRule.answers l.fn.rule; whole = g.W.Walk.asked l.walk l.fn.shelf l.fn.start })
      l.shelf (g.L.LeafRule.answers l.rule) l.kept.memo l.kept.stack.items l.turn;
  only : AnswersOnly (IsGiven g.L.LeafRule.like (g.W.Walk.asked l.walk l.fn.shelf l.fn.start)) (g.L.LeafRule.answers l.fn.rule) (g.L.LeafRule.answers l.rule);
  may_ask : (states : List ℕ) → g.L.LeafRule.may_ask l.fn.rule states → g.L.LeafRule.may_ask l.rule states;
}

abbrev pub decreases-loop-turn : goal.decreases-loop-turn
decreases-loop-turn g l = turn_cost (g.W.Walk.weight l.walk) l.turn + stack_cost (g.W.Walk.weight l.walk) l.kept.stack.items
