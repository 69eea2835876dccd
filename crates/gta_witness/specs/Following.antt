-- What follows from a settled goal, by the kind of the goal.
use Rattle.std.specs.Prelude.{◌≡◌, ℕ, suc, ◌+◌, ◌*◌, ◌≤◌, Bool, Some, slice_get}
use Rattle.bdd_list.specs.declared.listing.Listed.{Listed}
use Rattle.bdd_list.specs.declared.listing.ListedNode.{ListedNode}
use Rattle.gta_reach.specs.declared.form.FormSpace.{FormSpace}
use Rattle.gta_reach.specs.declared.form.Form.{Form}
use Rattle.gta_witness.specs.declared.goal.Goal.TheVariants.{Row, Column}
use Rattle.gta_witness.specs.declared.goal.Weight.{Weight}
use Rattle.gta_witness.specs.Rules.{goal_at, bit_cost, together, with_node, with_bits}
use Rattle.gta_witness.specs.Searching.{Findings, IsSettled, IsCovered}

-- the class of a state among left states of the space t is covered
abbrev pub FollowsRow : Form → Findings → ℕ → ℕ → ℕ → Weight → Type 0
FollowsRow form found t s q w = (class : ℕ) (space : FormSpace) → slice_get form.spaces t ≡ Some space →
    space.children.0 ≡ s → slice_get space.rows q ≡ Some class → IsCovered found (Row t class) w

-- the class of a state among right states of the space t is covered
abbrev pub FollowsColumn : Form → Findings → ℕ → ℕ → ℕ → Weight → Type 0
FollowsColumn form found t s q w = (class : ℕ) (space : FormSpace) → slice_get form.spaces t ≡ Some space →
    space.children.1 ≡ s → slice_get space.columns q ≡ Some class → IsCovered found (Column t class) w

-- in the spaces below t a state's classes are covered
pub record FollowsState (form : Form) (found : Findings) (below s q : ℕ) (w : Weight) : Type 0 where
  pub row : (t : ℕ) → suc t ≤ below → FollowsRow form found t s q w
  pub column : (t : ℕ) → suc t ≤ below → FollowsColumn form found t s q w

-- where the function of two settled classes begins is covered
abbrev pub FollowsCell : Form → Findings → ℕ → ℕ → ℕ → Type 0
FollowsCell form found t r c = (at : ℕ) (space : FormSpace) (listed : Listed) (u v : Weight) → slice_get form.spaces t ≡ Some space →
    slice_get space.cells (r * space.width + c) ≡ Some at → slice_get space.listing.roots at ≡ Some listed →
    IsSettled found (Row t r) u → IsSettled found (Column t c) v → IsCovered found (goal_at t listed) (with_node (together u v))

-- the sides of a node are covered
pub record FollowsNode (form : Form) (weighs : ℕ → Bool) (found : Findings) (t i : ℕ) (w : Weight) : Type 0 where
  pub low : (space : FormSpace) (node : ListedNode) → slice_get form.spaces t ≡ Some space →
      slice_get space.listing.nodes i ≡ Some node → IsCovered found (goal_at t node.low) w
  pub high : (space : FormSpace) (node : ListedNode) → slice_get form.spaces t ≡ Some space →
      slice_get space.listing.nodes i ≡ Some node → IsCovered found (goal_at t node.high) (with_bits (bit_cost weighs node.track) w)
