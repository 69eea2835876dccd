-- Who uses what in a space.
use Rattle.std.specs.Prelude.{◌≡◌, ℕ, Bool, true, ◌<◌, List, ◌⊎◌, length, Contains, slice_get, slice_index, slice_index_or, Some}
use Rattle.bdd_list.specs.declared.listing.Listed.{Listed}
use Rattle.bdd_list.specs.declared.listing.Listed.TheVariants.{Leaf, Inner}
use Rattle.bdd_list.specs.declared.listing.ListedNode.{ListedNode}
use Rattle.bdd_list.specs.Listing.{node_at}
use Rattle.gta_theory.specs.Automata.{IsValue}
use Rattle.gta_reach.specs.declared.form.FormSpace.{FormSpace}
use Rattle.gta_reach.specs.declared.form.Form.{Form}
use Rattle.gta_reach.specs.declared.sides.Side.{Side}
use Rattle.gta_reach.specs.declared.sides.Side.TheVariants.{Left, Right}
use Rattle.gta_refine.specs.declared.uses.SideUses.{SideUses}
use Rattle.gta_refine.specs.declared.uses.SpaceUses.{SpaceUses}
use Rattle.gta_reach.specs.Form.{guide_of, states_of, automaton_of}
use Rattle.gta_classes.specs.Chosen.{is_marked}
use Rattle.gta_reach.specs.Sides.{kinds_in, cell_at, child_at, opposite}
use Rattle.gta_classes.specs.Lists.{list_at, Leads}

-- the numbers of what has what is listed, by lists for the leaves and for the nodes
abbrev pub above_of : List (List ℕ) → List (List ℕ) → Listed → List ℕ
above_of leaves nodes (Leaf q) = list_at leaves q
above_of leaves nodes (Inner i) = list_at nodes i

-- there is a list for what is listed
abbrev pub HasPlace : List (List ℕ) → List (List ℕ) → Listed → Type 0
HasPlace leaves nodes (Leaf q) = q < length leaves
HasPlace leaves nodes (Inner i) = i < length nodes

-- what is listed has the number besides, and nothing else is new
pub record IsAddedAbove (leaves nodes : List (List ℕ)) (listed : Listed) (number : ℕ) (new_leaves new_nodes : List (List ℕ)) : Type 0 where
  pub many_leaves : length new_leaves ≡ length leaves
  pub many_nodes : length new_nodes ≡ length nodes
  pub kept : (other : Listed) (b : ℕ) → Contains (above_of leaves nodes other) b → Contains (above_of new_leaves new_nodes other) b
  pub added : HasPlace leaves nodes listed → Contains (above_of new_leaves new_nodes listed) number
  pub sound : (other : Listed) (b : ℕ) → Contains (above_of new_leaves new_nodes other) b →
      Contains (above_of leaves nodes other) b ⊎ ((other ≡ listed) × (b ≡ number))

-- the lists have exactly the numbers that have what is listed
pub record AreAbove (Owns : ℕ → Listed → Type 0) (leaves nodes : List (List ℕ)) : Type 0 where
  pub sound : (listed : Listed) (b : ℕ) → Contains (above_of leaves nodes listed) b → Owns b listed
  pub complete : (listed : Listed) (b : ℕ) → Owns b listed → HasPlace leaves nodes listed → Contains (above_of leaves nodes listed) b

-- a node has the side
abbrev pub HasSide : List ListedNode → ℕ → Listed → Type 0
HasSide nodes b listed = (b < length nodes) × (((node_at nodes b).low ≡ listed) ⊎ ((node_at nodes b).high ≡ listed))

-- it is listed for the root
abbrev pub IsRoot : List Listed → ℕ → Listed → Type 0
IsRoot roots k listed = (k < length roots) × (slice_index_or roots k (Leaf 0) ≡ listed)

-- the child states on a side
abbrev pub side_of : SpaceUses → Side → SideUses
side_of uses Left = uses.left
side_of uses Right = uses.right

-- a state beside with which a state of a child has the root
pub record HasBeside (space : FormSpace) (side : Side) (beside : List ℕ) (own k : ℕ) : Type 0 where
  pub other : ℕ
  pub among : Contains beside other
  pub root : cell_at space side own other ≡ k

-- for each root the states of a list that have it, with a state of another list
pub record AreOwners (space : FormSpace) (side : Side) (own beside : List ℕ) (owners : List (List ℕ)) : Type 0 where
  pub sound : (k p : ℕ) → Leads owners k p → Contains own p × HasBeside space side beside p k
  pub complete : (p b : ℕ) → Contains own p → Contains beside b → Leads owners (cell_at space side p b) p

-- one state more is added to the lists of the roots that it has with states of a list
pub record AddsOwner (space : FormSpace) (side : Side) (own : ℕ) (beside : List ℕ) (old new : List (List ℕ)) : Type 0 where
  pub many : length new ≡ length old
  pub kept : (k p : ℕ) → Leads old k p → Leads new k p
  pub added : (b : ℕ) → Contains beside b → Leads new (cell_at space side own b) own
  pub sound : (k p : ℕ) → Leads new k p → Leads old k p ⊎ ((p ≡ own) × HasBeside space side beside own k)

-- for each class of states the marked ones
pub record AreLikes (kinds : List ℕ) (marks : List Bool) (likes : List (List ℕ)) : Type 0 where
  pub sound : (k q : ℕ) → Leads likes k q → (is_marked marks q ≡ true) × (slice_index kinds q ≡ k)
  pub complete : (q : ℕ) → is_marked marks q ≡ true → Leads likes (slice_index kinds q) q

-- the values of a child
abbrev pub IsOwn : Form → ℕ → Side → ℕ → Type 0
IsOwn form s side q = IsValue (guide_of form) (automaton_of form) (child_at (guide_of form) side s) q

-- a value of the other child with which a state has the root
pub record HasRootWith (form : Form) (s : ℕ) (space : FormSpace) (side : Side) (own k : ℕ) : Type 0 where
  pub other : ℕ
  pub value : IsOwn form s (opposite side) other
  pub root : cell_at space side own other ≡ k

-- an owner of the root of two states that is like the first
pub record HasOwner (space : FormSpace) (side : Side) (owners : List (List ℕ)) (p b : ℕ) : Type 0 where
  pub owner : ℕ
  pub owns : Leads owners (cell_at space side p b) owner
  pub like : slice_index (kinds_in space side) owner ≡ slice_index (kinds_in space side) p

-- on a side each root has its owners, and each class of child states its values
pub record AreSideUses (form : Form) (s : ℕ) (space : FormSpace) (side : Side) (uses : SideUses) : Type 0 where
  pub owners_sound : (k p : ℕ) → Leads uses.owners k p → IsOwn form s side p × HasRootWith form s space side p k
  pub owners : (p b : ℕ) → IsOwn form s side p → IsOwn form s (opposite side) b → HasOwner space side uses.owners p b
  pub likes_sound : (k q : ℕ) → Leads uses.likes k q → IsOwn form s side q × (slice_index (kinds_in space side) q ≡ k)
  pub likes : (q : ℕ) → IsOwn form s side q → Leads uses.likes (slice_index (kinds_in space side) q) q

-- who uses what in a space
pub record IsUses (form : Form) (s : ℕ) (space : FormSpace) (uses : SpaceUses) : Type 0 where
  pub parents : AreAbove (HasSide space.listing.nodes) uses.parents.leaves uses.parents.nodes
  pub parents_leaves : length uses.parents.leaves ≡ states_of form s
  pub parents_nodes : length uses.parents.nodes ≡ length space.listing.nodes
  pub roots : AreAbove (IsRoot space.listing.roots) uses.roots.leaves uses.roots.nodes
  pub roots_leaves : length uses.roots.leaves ≡ states_of form s
  pub roots_nodes : length uses.roots.nodes ≡ length space.listing.nodes
  pub left : AreSideUses form s space Left uses.left
  pub right : AreSideUses form s space Right uses.right

-- who uses what in each space
pub record AreUses (form : Form) (uses : List SpaceUses) : Type 0 where
  pub many : length uses ≡ length form.spaces
  pub each : (s : ℕ) (space : FormSpace) (one : SpaceUses) → slice_get form.spaces s ≡ Some space → slice_get uses s ≡ Some one →
      IsUses form s space one
