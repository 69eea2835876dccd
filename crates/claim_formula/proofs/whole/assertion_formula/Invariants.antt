use Rattle.std.proofs.Common.{◌≡◌, [], ◌∷◌}
use Rattle.graph_view.specs.Sights.{sight_of}
use Rattle.site_list.specs.Claims.{assertion}
use Rattle.claim_formula.specs.Tasks.{done, weight_of}
use Rattle.claim_formula.proofs.whole.assertion_formula.Given as goal

-- what is made and what is still to be done is the whole
abbrev pub invariant-loop-task : goal.invariant-loop-task
invariant-loop-task l =
    done l.l.types (sight_of l.l.vars l.view) l.view.vars l.tasks l.made ≡ assertion l.l.types (sight_of l.l.vars l.view) l.view.vars l.whole l.next ∷ []

abbrev pub decreases-loop-task : goal.decreases-loop-task
decreases-loop-task l = weight_of l.tasks
