-- Formulas and assignments of the worked examples.
use Rattle.std.specs.Prelude.{ℕ, zero, suc, List, [], ◌∷◌, Some, None}
use Rattle.gta_theory.specs.Assignments.{Assignment, listed}
use Rattle.ws2s_core.specs.declared.track.Track.{Track}
use Rattle.ws2s_core.specs.declared.formula.Formula.{Formula}
use Rattle.ws2s_core.specs.declared.formula.Formula.TheVariants.{Sub, Single, Root, And, Ex2}
use Rattle.ws2s_core.specs.declared.label_tree.TreeNode.{TreeNode}

-- the track with a number
abbrev pub track : ℕ → Track
track t = record { 0 = t }

-- "some set, which is the root alone, is within the set of track 0"
abbrev pub has_root : Formula
has_root = Ex2 (track 1) (And (Root (track 1)) (Sub (track 1) (track 0)))

-- `Single 0`, and then the conjunction of the one before with itself
unfoldable pub doubled : ℕ → Formula
doubled zero = Single (track 0)
doubled (suc k) = And (doubled k) (doubled k)

-- no position on any track
abbrev pub none : Assignment
none = listed []

-- the tree with a root that holds nothing, and a left child on track 3
abbrev pub small_tree : List TreeNode
small_tree =
    record { tracks = track 3 ∷ []; left = None; right = None }
    ∷ record { tracks = []; left = Some 0; right = None }
    ∷ []
