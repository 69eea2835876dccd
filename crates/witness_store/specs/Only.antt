-- The only cell of which something is so.
use Rattle.std.specs.Prelude.{◌≡◌, ◌≢◌, ◌⊎◌, Option, Some, None}
use Rattle.store_core.specs.declared.ids.CellId.{CellId}

-- it is so of two cells
pub record HasTwo (IsSo : CellId → Type 0) : Type 0 where
  pub one : CellId
  pub other : CellId
  pub apart : one ≢ other
  pub one_is : IsSo one
  pub other_is : IsSo other

-- the only cell of which it is so, or none where it is so of no cell and where it is so of several
abbrev pub IsOnlyCell : (CellId → Type 0) → Option CellId → Type 0
IsOnlyCell IsSo None = ((d : CellId) → IsSo d → ⊥) ⊎ HasTwo IsSo
IsOnlyCell IsSo (Some d) = IsSo d × ((e : CellId) → IsSo e → e ≡ d)
