use Rattle.std.proofs.Common.{take}
use Rattle.site_list.specs.Codes.{items}
use Rattle.symbolic_steps.specs.Shown.{Leads}
use Rattle.pred_transform.proofs.codes.+items.Given as goal

-- the items so far are walked over
abbrev pub invariant-items-loop-next : goal.invariant-items-loop-next
invariant-items-loop-next l = Leads l.initial.w l.w (items l.l.types l.l.vars (take l.next-index l.code))
