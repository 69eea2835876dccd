use Rattle.std.proofs.Common.{List, All, length}
use Rattle.ws2s_core.specs.declared.track.Track.{Track}
use Rattle.ws2s_core.specs.declared.formula.Formula.{Formula}
use Rattle.ws2s_core.specs.Nodes.{Extends}
use Rattle.ws2s_facts.specs.Conjuncts.{IsThere}
use Rattle.ws2s_facts.specs.Facts.{AreFacts}
use Rattle.ws2s_plan.specs.Steps.{IsPlanning}
use Rattle.ws2s_plan.proofs.planning.eliminate_all.Given as goal

abbrev pub invariant-loop-place : goal.invariant-loop-place
invariant-loop-place l = record {
  kept : Extends l.fn.interner l.interner;
  there : All (IsThere l.interner) l.planning.units.items;
  facts : AreFacts l.interner l.facts.facts.items;
  value : (weigh : List Track) (f : Formula) → IsPlanning l.fn.interner weigh f l.fn.planning → IsPlanning l.interner weigh f l.planning;
}

abbrev pub decreases-loop-place : goal.decreases-loop-place
decreases-loop-place l = length l.planning.waiting.items
