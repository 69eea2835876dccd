use Rattle.std.proofs.Common.{[], All, length}
use Rattle.ws2s_core.specs.declared.formula.Formula.{Formula}
use Rattle.ws2s_facts.specs.Conjuncts.{IsThere}
use Rattle.ws2s_plan.specs.declared.network.Elimination.{Elimination}
use Rattle.ws2s_plan.specs.Plan.{IsNetworkOf}
use Rattle.ws2s_decide.specs.Going.{Rests}
use Rattle.ws2s_decide.specs.Networks.{IsModelOfLeft}
use Rattle.ws2s_decide.proofs.network_way.go_back.Given as goal

abbrev pub invariant-loop-last : goal.invariant-loop-last
invariant-loop-last l = record {
  rests : Rests l.g l.interner l.shelf [] l.kept;
  there : All (λ (one : Elimination). IsThere l.interner one.bucket) l.rest;
  value : (f : Formula) → IsNetworkOf l.interner l.weigh f l.network →
      IsModelOfLeft l.interner l.weigh f l.network.eliminations l.fn.tree l.fn.weight → IsModelOfLeft l.interner l.weigh f l.rest l.found.0 l.found.1;
}

abbrev pub decreases-loop-last : goal.decreases-loop-last
decreases-loop-last l = length l.rest
