use Rattle.std.proofs.Common.{◌≡◌, length}
use Rattle.gta_core.specs.Placing.{ArePlaced}
use Rattle.gta_core.proofs.build.parts_of.Given as goal

abbrev pub invariant-loop-space : goal.invariant-loop-space
invariant-loop-space l = (length l.parts ≡ l.space) × ArePlaced l.g l.spaces l.parts l.roots
