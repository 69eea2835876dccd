-- How the classes of one space are cut in two.
use Rattle.std.specs.Prelude.{◌≡◌, ◌≤◌, ℕ, List, length, Some, slice_get, slice_set}
use Rattle.std.specs.declared.vec.Vec.{Vec}
use Rattle.std.specs.declared.alloc.Global.{Global}
use Rattle.gta_classes.specs.declared.part.SpaceClasses.{SpaceClasses}
use Rattle.gta_classes.specs.Classes.{AreClasses}
use Rattle.gta_classes.specs.Cuts.{Covers, IsCut}
use Rattle.gta_refine.specs.Refined.{part_at}

-- the classes of one space are cut
pub record IsCutAt (spaces : List SpaceClasses) (c : ℕ) (listed : List ℕ) (new : List SpaceClasses) : Type 0 where
  pub part : SpaceClasses
  pub is : new ≡ slice_set spaces c part
  pub reached : part.reached ≡ (part_at spaces c).reached
  pub classes : AreClasses (part_at spaces c).reached part.classes part.representatives
  pub cut : IsCut (part_at spaces c).reached listed (part_at spaces c).classes part.classes
  pub more : length (part_at spaces c).representatives ≤ length part.representatives

-- the lists of the classes of a space, as they are kept
abbrev pub ClassLists : Type 0
ClassLists = Vec (List ℕ) Global

-- the lists of each space have its states by their classes
pub record AllCover (spaces : List SpaceClasses) (lists : List ClassLists) : Type 0 where
  pub many : length lists ≡ length spaces
  pub each : (s : ℕ) (one : ClassLists) → slice_get lists s ≡ Some one → Covers (part_at spaces s) one.items
