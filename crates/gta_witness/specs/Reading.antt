-- By which steps states have their weights, and how they are read.
use Rattle.std.specs.Prelude.{◌≡◌, ℕ, suc, ◌-◌, ◌≤◌, length, Bool, true, false, Option, Some, None, MatchOption, List, [], ◌∷◌, ◌++◌, slice_get}
use Rattle.bdd_list.specs.declared.listing.Listed.{Listed}
use Rattle.bdd_list.specs.declared.listing.ListedNode.{ListedNode}
use Rattle.bdd_list.specs.Listing.{function_of, IsIn, first_track}
use Rattle.gta_theory.specs.Guides.{left, right}
use Rattle.gta_theory.specs.Weights.{label_weight}
use Rattle.ws2s_core.specs.declared.track.Track.{Track}
use Rattle.ws2s_theory.specs.Trees.{label_of}
use Rattle.gta_reach.specs.declared.form.FormSpace.{FormSpace}
use Rattle.gta_reach.specs.declared.form.Form.{Form}
use Rattle.gta_reach.specs.Form.{guide_of, automaton_of, IsForm}
use Rattle.gta_witness.specs.declared.goal.Goal.{Goal}
use Rattle.gta_witness.specs.declared.goal.Goal.TheVariants.{State, Node}
use Rattle.gta_witness.specs.declared.goal.Reason.{Reason}
use Rattle.gta_witness.specs.declared.goal.Weight.{Weight}
use Rattle.gta_witness.specs.declared.goal.Found.{Found}
use Rattle.gta_witness.specs.declared.read.Step.{Step}
use Rattle.gta_witness.specs.Lightest.{is_among, each_once}
use Rattle.gta_witness.specs.Rules.{goal_at, nothing, together, with_node, with_bits}
use Rattle.gta_witness.specs.Searching.{Findings, IsSettled, IsJustified}

-- what is found is justified, by the tracks that are weighed, and weighs as much as is counted
pub record IsReadable (form : Form) (tracks : List Track) (found : Findings) : Type 0 where
  pub is_form : IsForm form
  pub justified : (goal : Goal) (entry : Found) → found goal ≡ Some entry →
      IsJustified form (is_among tracks) found goal entry.reason entry.weight
  pub counted : (goal : Goal) (w : Weight) → IsSettled found goal w → w.bits ≤ 18446744073709551615

-- something is found for the goal, by that reason
pub record HasReason (found : Findings) (goal : Goal) (reason : Reason) : Type 0 where
  pub entry : Found
  pub there : found goal ≡ Some entry
  pub is_reason : entry.reason ≡ reason

-- how many nodes the functions of a space have
abbrev pub nodes_in : Option FormSpace → ℕ
nodes_in None = 0
nodes_in (Some space) = length space.listing.nodes

-- how many goals the way up can still come to from this one, of so many nodes: those of the nodes after it
abbrev pub above_in : ℕ → Goal → ℕ
above_in many (Node s i) = many - i
above_in many goal = suc many

-- the step of the two settled states on the label of the tracks gives the state, and their weights its weight
pub record IsStepTo (form : Form) (tracks : List ℕ) (found : Findings) (s q : ℕ) (w : Weight) (step : Step) : Type 0 where
  pub left_weight : Weight
  pub right_weight : Weight
  pub of_left : IsSettled found (State (left (guide_of form) s) step.left) left_weight
  pub of_right : IsSettled found (State (right (guide_of form) s) step.right) right_weight
  pub gives : (automaton_of form).step s step.left step.right (label_of step.tracks) ≡ q
  pub is_sum : with_bits (label_weight tracks (label_of step.tracks)) (with_node (together left_weight right_weight)) ≡ w

-- the state has its weight by the step; without one it is the initial state and weighs nothing
abbrev pub HasStep : Form → List ℕ → Findings → ℕ → ℕ → Weight → Option Step → Type 0
HasStep form tracks found s q w None = ((automaton_of form).initial s ≡ q) × (nothing ≡ w)
HasStep form tracks found s q w (Some step) = IsStepTo form tracks found s q w step

-- the state is settled, and has its weight by the step
pub record HasSomeStep (form : Form) (tracks : List Track) (found : Findings) (s q : ℕ) (step : Option Step) : Type 0 where
  pub weight : Weight
  pub settled : IsSettled found (State s q) weight
  pub has : HasStep form (each_once tracks) found s q weight step

-- the track of a high side comes to the tracks
abbrev pub AddsTrack : Form → List Track → List Track → ℕ → ℕ → Bool → Type 0
AddsTrack form old new s i false = new ≡ old
AddsTrack form old new s i true = (space : FormSpace) × (node : ListedNode) × (slice_get form.spaces s ≡ Some space)
    × (slice_get space.listing.nodes i ≡ Some node) × (new ≡ old ++ (record { 0 = node.track }) ∷ [])

-- the way up from a state has come to a settled goal: what is listed there gives the state on the label of the tracks,
-- asks none above them, and weighs what is left
pub record Climbs (form : Form) (tracks : List Track) (found : Findings) (s q : ℕ) (w : Weight) (goal : Goal) (taken : List Track) : Type 0 where
  pub space : FormSpace
  pub at_space : slice_get form.spaces s ≡ Some space
  pub listed : Listed
  pub is_goal : goal ≡ goal_at s listed
  pub inside : IsIn space.listing.nodes listed
  pub gives : function_of space.listing listed (label_of taken) ≡ q
  pub above : (t : ℕ) → label_of taken t ≡ true → MatchOption (first_track space.listing.nodes listed) ⊥ (λ first. first ≤ t)
  pub weight : Weight
  pub settled : IsSettled found goal weight
  pub is_sum : with_bits (label_weight (each_once tracks) (label_of taken)) weight ≡ w
