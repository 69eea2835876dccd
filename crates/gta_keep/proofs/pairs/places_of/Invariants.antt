use Rattle.std.proofs.Common.{◌≡◌, ◌-◌, ◌^◌, min, take}
use Rattle.std.specs.List.{sum_by}
use Rattle.gta_keep.specs.Places.{places_in}
use Rattle.gta_keep.proofs.pairs.places_of.Given as goal

abbrev pub invariant-loop-part : goal.invariant-loop-part
invariant-loop-part l = l.places ≡ min (sum_by places_in (take l.part-index l.a.parts)) (2 ^ 64 - 1)
