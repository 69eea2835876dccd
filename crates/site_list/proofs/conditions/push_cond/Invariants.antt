use Rattle.std.proofs.Common.{◌≡◌, ◌++◌, map}
use Rattle.site_list.specs.Sites.{site_at, cond_causes}
use Rattle.site_list.specs.Left.{causes_left, forms_left}
use Rattle.site_list.proofs.conditions.push_cond.Given as goal

-- the sites so far and those of what is left are the condition's
abbrev pub invariant-loop-next : goal.invariant-loop-next
invariant-loop-next l =
    l.sites ++ map (site_at l.line) (causes_left l.types l.left) ≡ l.initial.sites ++ map (site_at l.line) (cond_causes l.types l.cond)

abbrev pub decreases-loop-next : goal.decreases-loop-next
decreases-loop-next l = forms_left l.left
