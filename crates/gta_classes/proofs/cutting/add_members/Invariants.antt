use Rattle.gta_classes.proofs.CutLemmas.{AddsMembers}
use Rattle.gta_classes.proofs.cutting.add_members.Given as goal

abbrev pub invariant-loop-state : goal.invariant-loop-state
invariant-loop-state l = AddsMembers l.members l.part l.class l.fn.all.items l.all.items l.state-index
