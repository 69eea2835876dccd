-- What is given for an automaton: a tree of least weight that it accepts, with the fewest nodes. (Knuth 1977, A Generalization of Dijkstra's
-- Algorithm.)
use Rattle.std.specs.Prelude.{◌≡◌, ℕ, suc, ◌+◌, ◌≤◌, ◌<◌, Bool, true, false, ◌==◌, if◌then◌else◌, List, [], ◌∷◌, length}
use Rattle.std.specs.List.{list_any}
use Rattle.gta_theory.specs.Assignments.{Assignment, Covers, half}
use Rattle.gta_theory.specs.Guides.{Spaces}
use Rattle.gta_theory.specs.Automata.{Automaton, Accepts}
use Rattle.gta_theory.specs.Weights.{weight}
use Rattle.ws2s_core.specs.declared.track.Track.{Track}
use Rattle.ws2s_core.specs.declared.label_tree.TreeNode.{TreeNode}
use Rattle.ws2s_core.specs.LabelTrees.{assignment_of}

-- whether the track is one of these
abbrev pub is_among : List Track → ℕ → Bool
is_among tracks t = list_any (λ track. track.0 == t) tracks

-- the numbers of the tracks, each once
abbrev pub each_once : List Track → List ℕ
each_once [] = []
each_once (track ∷ tracks) = if is_among tracks track.0 then each_once tracks else track.0 ∷ each_once tracks

-- the tree has so many bits on the tracks: it has so many pairs of a position and one of these tracks, each track counted
-- once however often it is listed
abbrev pub HasWeight : List Track → List TreeNode → ℕ → Type 0
HasWeight tracks nodes w = weight (each_once tracks) (length nodes) (assignment_of nodes) ≡ w

-- a tree of so many nodes stands for the assignment: no node for the empty one; otherwise a root, and below it trees that
-- stand for the halves
pub data HasTree : ℕ → Assignment → Type 0 where
  none : (a : Assignment) → Covers 0 a → HasTree 0 a
  root : (l r : ℕ) (a : Assignment) → HasTree l (half false a) → HasTree r (half true a) → HasTree (suc (l + r)) a

-- a tree of so many bits and nodes has room
abbrev pub HasRoom : ℕ → ℕ → Type 0
HasRoom bits nodes = (bits < 18446744073709551615) × (nodes < 4294967295)

-- the automaton accepts the tree, which has that weight, and room; no assignment that it accepts weighs less, and no tree of
-- one that weighs the same has fewer nodes
pub record IsLightestTree {Q : Type 0} (g : Spaces) (A : Automaton Q) (tracks : List Track) (nodes : List TreeNode) (w : ℕ) :
    Type 0 where
  pub accepted : Accepts g A (assignment_of nodes)
  pub weighs : HasWeight tracks nodes w
  pub room : HasRoom w (length nodes)
  pub least : (n : ℕ) (a : Assignment) → Covers n a → Accepts g A a → w ≤ weight (each_once tracks) n a
  pub fewest : (n m : ℕ) (a : Assignment) → Covers n a → Accepts g A a → weight (each_once tracks) n a ≡ w → HasTree m a → length nodes ≤ m

-- the depth covers the assignment, which has the property, and no other that has it weighs less on the tracks
pub record WeighsLeast (P : Assignment → Type 0) (tracks : List ℕ) (n : ℕ) (a : Assignment) : Type 0 where
  pub covers : Covers n a
  pub holds : P a
  pub least : (m : ℕ) (b : Assignment) → Covers m b → P b → weight tracks n a ≤ weight tracks m b

-- some assignment of finite sets has the property, but no tree of one that weighs least has room
pub record AreTooLarge (P : Assignment → Type 0) (tracks : List ℕ) : Type 0 where
  pub some : (n : ℕ) × (a : Assignment) × Covers n a × P a
  pub no_room : (n m : ℕ) (a : Assignment) → WeighsLeast P tracks n a → HasTree m a → HasRoom (weight tracks n a) m → ⊥
