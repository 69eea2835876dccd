-- Marks and numbers that are kept from one cut to the next: between two, none is set.
use Rattle.std.specs.Prelude.{◌≤◌, ℕ, List, length}
use Rattle.gta_classes.specs.declared.part.SpaceClasses.{SpaceClasses}
use Rattle.gta_classes.specs.Marks.{IsClear, AreZero}
use Rattle.gta_refine.specs.declared.scratch.Scratch.{Scratch}
use Rattle.gta_refine.specs.Refined.{part_at}

-- nothing is set, and there is a number for each state
pub record IsReady (spaces : List SpaceClasses) (scratch : Scratch) : Type 0 where
  pub zero : AreZero scratch.ids.items
  pub seen : IsClear scratch.seen.items
  pub found : IsClear scratch.found.items
  pub long : (s : ℕ) → length (part_at spaces s).reached ≤ length scratch.ids.items
