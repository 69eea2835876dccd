-- What steps of reached states give.
use Rattle.std.specs.Prelude.{◌≡◌, ℕ, ◌+◌, ◌*◌, ◌<◌, ◌≤◌, Bool, true, false, List, [], length, ◌⊎◌, slice_index, slice_index_or, slice_set}
use Rattle.labels.specs.Labels.{Label}
use Rattle.bdd_list.specs.declared.listing.Listed.{Listed}
use Rattle.bdd_list.specs.declared.listing.Listed.TheVariants.{Leaf, Inner}
use Rattle.bdd_list.specs.Listing.{function_of, node_at, IsIn}
use Rattle.gta_theory.specs.Guides.{IsSpace, left, right}
use Rattle.gta_theory.specs.Automata.{Has}
use Rattle.gta_theory.specs.Constructions.{IsReached}
use Rattle.gta_theory.specs.Generated.{Generated}
use Rattle.gta_reach.specs.declared.form.FormSpace.{FormSpace}
use Rattle.gta_reach.specs.declared.form.Form.{Form}
use Rattle.gta_reach.specs.Form.{cell_in, root_in, step_in, guide_of, states_of, initial_of, automaton_of}
use Rattle.gta_classes.specs.Chosen.{is_marked, IsAmong}

-- the marks of nodes with that of what is listed
abbrev pub with_node : List Bool → Listed → List Bool
with_node nodes (Leaf state) = nodes
with_node nodes (Inner index) = slice_set nodes index true

-- the marks of states with that of what is listed
abbrev pub with_state : List Bool → Listed → List Bool
with_state states (Leaf state) = slice_set states state true
with_state states (Inner index) = states

-- the pair of child states has a root of the listing
pub record HasRoot (space : FormSpace) (l r : ℕ) : Type 0 where
  pub row : l < length space.rows
  pub column : r < length space.columns
  pub cell : slice_index space.rows l * space.width + slice_index space.columns r < length space.cells
  pub root : cell_in space l r < length space.listing.roots
  pub inside : IsIn space.listing.nodes (root_in space (cell_in space l r))

-- a step of a left and a right state gives the state
pub record IsGiven (space : FormSpace) (lefts rights : List ℕ) (q : ℕ) : Type 0 where
  pub left : ℕ
  pub right : ℕ
  pub label : Label
  pub in_left : IsAmong lefts left
  pub in_right : IsAmong rights right
  pub gives : step_in space left right label ≡ q

-- what steps of the states give is marked, and nothing else that wasn't
pub record IsSwept (space : FormSpace) (lefts rights : List ℕ) (old new : List Bool) : Type 0 where
  pub many : length new ≡ length old
  pub kept : (q : ℕ) → is_marked old q ≡ true → is_marked new q ≡ true
  pub sound : (q : ℕ) → is_marked new q ≡ true → (is_marked old q ≡ true) ⊎ IsGiven space lefts rights q
  pub closed : (l r : ℕ) (label : Label) → IsAmong lefts l → IsAmong rights r → is_marked new (step_in space l r label) ≡ true

-- the states and the nodes that are marked on the way
pub record Sweeps (space : FormSpace) (lefts rights : List ℕ) (before nodes states : List Bool) (more : Bool) : Type 0 where
  pub marks : length nodes ≡ length space.listing.nodes
  pub many : length states ≡ length before
  pub kept : (q : ℕ) → is_marked before q ≡ true → is_marked states q ≡ true
  pub sound : (q : ℕ) → is_marked states q ≡ true → (is_marked before q ≡ true) ⊎ IsGiven space lefts rights q
  pub nodes_sound : (i : ℕ) → is_marked nodes i ≡ true → (label : Label) → IsGiven space lefts rights (function_of space.listing (Inner i) label)
  pub unchanged : more ≡ false → states ≡ before

-- what is marked stays marked
pub record Grown (old_nodes old_states nodes states : List Bool) : Type 0 where
  pub nodes_many : length nodes ≡ length old_nodes
  pub states_many : length states ≡ length old_states
  pub nodes_kept : (i : ℕ) → is_marked old_nodes i ≡ true → is_marked nodes i ≡ true
  pub states_kept : (q : ℕ) → is_marked old_states q ≡ true → is_marked states q ≡ true

-- what is listed is marked
abbrev pub IsTouched : List Bool → List Bool → Listed → Type 0
IsTouched nodes states (Leaf state) = state < length states → is_marked states state ≡ true
IsTouched nodes states (Inner index) = index < length nodes → is_marked nodes index ≡ true

-- from an index on the sides of marked nodes are marked
pub record AreSidesTouched (space : FormSpace) (nodes states : List Bool) (from : ℕ) : Type 0 where
  pub low : (i : ℕ) → from ≤ i → is_marked nodes i ≡ true → IsTouched nodes states (node_at space.listing.nodes i).low
  pub high : (i : ℕ) → from ≤ i → is_marked nodes i ≡ true → IsTouched nodes states (node_at space.listing.nodes i).high

-- whether a state of a space is reached, by the marks of each space
abbrev pub is_reached : List (List Bool) → ℕ → ℕ → Bool
is_reached reached s q = is_marked (slice_index_or reached s []) q

-- the states that are found so far: they hold the initial ones, and all are generated
pub record AreGenerated (form : Form) (reached : List (List Bool)) : Type 0 where
  pub spaces : length reached ≡ length form.spaces
  pub many : (s : ℕ) → IsSpace (guide_of form) s → length (slice_index_or reached s []) ≡ states_of form s
  pub starts : (s : ℕ) → IsSpace (guide_of form) s → is_reached reached s (initial_of form s) ≡ true
  pub generated : (s q : ℕ) → IsSpace (guide_of form) s → is_reached reached s q ≡ true → Generated (guide_of form) (automaton_of form) s q

-- what steps of the found states give in the space is found
pub record IsClosedIn (form : Form) (reached : List (List Bool)) (s : ℕ) : Type 0 where
  pub step : (l r : ℕ) (label : Label) → is_reached reached (left (guide_of form) s) l ≡ true →
      is_reached reached (right (guide_of form) s) r ≡ true →
      is_reached reached s ((automaton_of form).step s l r label) ≡ true

-- exactly the reached states are marked in each space
pub record AreReached (form : Form) (reached : List (List Bool)) : Type 0 where
  pub spaces : length reached ≡ length form.spaces
  pub many : (s : ℕ) → IsSpace (guide_of form) s → length (slice_index_or reached s []) ≡ states_of form s
  pub exactly : IsReached (guide_of form) (automaton_of form) (Has (is_reached reached))
