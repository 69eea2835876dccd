use Rattle.std.proofs.Common.{◌≡◌, take}
use Rattle.std.specs.Prelude.{flat_map}
use Rattle.gta_classes.specs.Lists.{list_at}
use Rattle.gta_classes.proofs.lists.gather.Given as goal

abbrev pub invariant-loop-place : goal.invariant-loop-place
invariant-loop-place l = l.all.items ≡ flat_map (list_at l.lists) (take l.place-index l.places)
