-- The rules by which weights are found, as a grammar: a goal weighs no more than what a rule makes of the weights of its
-- premises. (Knuth 1977, A Generalization of Dijkstra's Algorithm.)
use Rattle.std.specs.Prelude.{◌≡◌, ℕ, ◌+◌, ◌*◌, min, Bool, true, false, if◌then◌else◌, List, [], ◌∷◌, Some, slice_get}
use Rattle.bdd_list.specs.declared.listing.Listed.{Listed}
use Rattle.bdd_list.specs.declared.listing.Listed.TheVariants.{Leaf, Inner}
use Rattle.bdd_list.specs.declared.listing.ListedNode.{ListedNode}
use Rattle.gta_reach.specs.declared.form.FormSpace.{FormSpace}
use Rattle.gta_reach.specs.declared.form.Form.{Form}
use Rattle.gta_witness.specs.declared.goal.Goal.{Goal}
use Rattle.gta_witness.specs.declared.goal.Goal.TheVariants.{State, Node, Row, Column}
use Rattle.gta_witness.specs.declared.goal.Weight.{Weight}
use Rattle.gta_witness.specs.declared.goal.Reason.{Reason}
use Rattle.gta_witness.specs.declared.goal.Reason.TheVariants.{Initial, Member, Cell, Side}

-- what is listed in a space, as a goal
abbrev pub goal_at : ℕ → Listed → Goal
goal_at space (Leaf state) = State space state
goal_at space (Inner index) = Node space index

-- what a bit of the track costs, by the tracks that are weighed
abbrev pub bit_cost : (ℕ → Bool) → ℕ → ℕ
bit_cost weighs t = if weighs t then 1 else 0

-- the place of a weight in the order of weights: by its bits, and where these are the same by its nodes, fewer than 2^32; all
-- from 2^64 - 1 bits on have the last place
abbrev pub key : Weight → ℕ
key w = min (w.bits * 4294967296 + w.nodes) 79228162514264337589248983040

-- the weight of no tree
abbrev pub nothing : Weight
nothing = record { bits = 0; nodes = 0 }

-- the weight of two trees together
abbrev pub together : Weight → Weight → Weight
together u v = record { bits = u.bits + v.bits; nodes = u.nodes + v.nodes }

-- so many nodes as they are counted: from 2^32 - 1 on all numbers count as that
abbrev pub counted : ℕ → ℕ
counted n = min n 4294967295

-- so many bits as they are counted: from 2^64 - 1 on all numbers count as that
abbrev pub bits_counted : ℕ → ℕ
bits_counted n = min n 18446744073709551615

-- the weight with a node more
abbrev pub with_node : Weight → Weight
with_node w = record { bits = bits_counted w.bits; nodes = counted (w.nodes + 1) }

-- the weight with so many bits more
abbrev pub with_bits : ℕ → Weight → Weight
with_bits k w = record { bits = bits_counted (k + w.bits); nodes = w.nodes }

-- from the premises, whose weights together become another, comes a goal: an initial state from nothing; a class from a
-- state of it; where the function of two classes begins, from these, for a node; and the sides of a node of a function
-- from that, the high one for the track's bit
pub data Rule (form : Form) (weighs : ℕ → Bool) : List Goal → (Weight → Weight) → Goal → Reason → Type 0 where
  initial : (s : ℕ) (space : FormSpace) → slice_get form.spaces s ≡ Some space →
      Rule form weighs [] (λ w. w) (State s space.initial) Initial
  row : (t q class : ℕ) (space : FormSpace) → slice_get form.spaces t ≡ Some space →
      slice_get space.rows q ≡ Some class → Rule form weighs (State space.children.0 q ∷ []) (λ w. w) (Row t class) (Member q)
  column : (t q class : ℕ) (space : FormSpace) → slice_get form.spaces t ≡ Some space →
      slice_get space.columns q ≡ Some class → Rule form weighs (State space.children.1 q ∷ []) (λ w. w) (Column t class) (Member q)
  cell : (t r c at : ℕ) (space : FormSpace) (listed : Listed) → slice_get form.spaces t ≡ Some space →
      slice_get space.cells (r * space.width + c) ≡ Some at → slice_get space.listing.roots at ≡ Some listed →
      Rule form weighs (Row t r ∷ Column t c ∷ []) with_node (goal_at t listed) (Cell r c)
  low : (t i : ℕ) (space : FormSpace) (node : ListedNode) → slice_get form.spaces t ≡ Some space →
      slice_get space.listing.nodes i ≡ Some node → Rule form weighs (Node t i ∷ []) (λ w. w) (goal_at t node.low) (Side i false)
  high : (t i : ℕ) (space : FormSpace) (node : ListedNode) → slice_get form.spaces t ≡ Some space →
      slice_get space.listing.nodes i ≡ Some node →
      Rule form weighs (Node t i ∷ []) (with_bits (bit_cost weighs node.track)) (goal_at t node.high) (Side i true)
