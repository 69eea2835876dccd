use Rattle.std.proofs.Common.{◌≡◌, false, take}
use Rattle.std.specs.List.{list_any}
use Rattle.gta_core.specs.Auto.{is_accepting}
use Rattle.gta_project.proofs.projecting.has_accepting.Given as goal

abbrev pub invariant-loop-state : goal.invariant-loop-state
invariant-loop-state l = list_any (is_accepting l.a) (take l.state-index l.set) ≡ false
