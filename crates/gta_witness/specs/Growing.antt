-- A tree that is made from its leaves up.
use Rattle.std.specs.Prelude.{◌≡◌, ℕ, suc, ◌+◌, ◌*◌, ◌<◌, ◌==◌, if◌then◌else◌, List, [], ◌∷◌, length, slice_get, Option, Some, None, IfSome}
use Rattle.gta_theory.specs.Guides.{IsSpace, left, right}
use Rattle.gta_theory.specs.Automata.{value}
use Rattle.gta_theory.specs.Weights.{label_weight, weight}
use Rattle.ws2s_core.specs.declared.track.Track.{Track}
use Rattle.ws2s_core.specs.declared.label_tree.TreeNode.{TreeNode}
use Rattle.ws2s_core.specs.LabelTrees.{assignment_of, times_named}
use Rattle.ws2s_theory.specs.Trees.{child_at, label_of}
use Rattle.gta_reach.specs.declared.form.Form.{Form}
use Rattle.gta_reach.specs.Form.{guide_of, automaton_of}
use Rattle.gta_witness.specs.declared.goal.Goal.TheVariants.{State}
use Rattle.gta_witness.specs.declared.goal.Weight.{Weight}
use Rattle.gta_witness.specs.declared.goal.Found.{Found}
use Rattle.gta_witness.specs.declared.grow.Task.{Task}
use Rattle.gta_witness.specs.declared.grow.Task.TheVariants.{Visit, Join}
use Rattle.gta_witness.specs.Lightest.{each_once}
use Rattle.gta_witness.specs.Rules.{together, bits_counted, with_node, with_bits}
use Rattle.gta_witness.specs.Searching.{Findings, IsSettled}

-- the tree gives the state in space 0, weighs what the state does, as bits are counted, and has as many nodes as it counts
pub record IsTreeTo (form : Form) (tracks : List Track) (found : Findings) (q : ℕ) (nodes : List TreeNode) : Type 0 where
  pub least : Weight
  pub settled : IsSettled found (State 0 q) least
  pub is_value : value (guide_of form) (automaton_of form) 0 (length nodes) (assignment_of nodes) ≡ q
  pub weighs : bits_counted (weight (each_once tracks) (length nodes) (assignment_of nodes)) ≡ least.bits
  pub counts : length nodes ≡ least.nodes

-- a tree that is wanted: of a state of a space, of that weight
pub record Want : Type 0 where
  pub space : ℕ
  pub state : ℕ
  pub weight : Weight

-- what the child stands for gives the state that is wanted, and weighs so much
pub record IsBuilt (form : Form) (tracks : List Track) (nodes : List TreeNode) (child : Option ℕ) (want : Want) : Type 0 where
  pub inside : IfSome child (λ k. k < length nodes)
  pub is_space : IsSpace (guide_of form) want.space
  pub is_value : value (guide_of form) (automaton_of form) want.space (length nodes) (child_at nodes child) ≡ want.state
  pub weighs : bits_counted (weight (each_once tracks) (length nodes) (child_at nodes child)) ≡ want.weight.bits

-- what was made is what is wanted
abbrev pub AreBuilt : Form → List Track → List TreeNode → List (Option ℕ) → List Want → Type 0
AreBuilt form tracks nodes [] [] = Unit {0}
AreBuilt form tracks nodes [] (want ∷ wants) = ⊥
AreBuilt form tracks nodes (child ∷ made) [] = ⊥
AreBuilt form tracks nodes (child ∷ made) (want ∷ wants) =
    IsBuilt form tracks nodes child want × AreBuilt form tracks nodes made wants

-- a step on the label of the tracks leads from two wanted states to another
pub record Leads (form : Form) (tracks taken : List Track) (l r want : Want) : Type 0 where
  pub is_space : IsSpace (guide_of form) want.space
  pub at_left : l.space ≡ left (guide_of form) want.space
  pub at_right : r.space ≡ right (guide_of form) want.space
  pub gives : (automaton_of form).step want.space l.state r.state (label_of taken) ≡ want.state
  pub is_sum : with_bits (label_weight (each_once tracks) (label_of taken)) (with_node (together l.weight r.weight)) ≡ want.weight

-- the tasks make, from what was wanted, what is wanted in the end
abbrev pub Runs : Form → List Track → Findings → List Task → List Want → List Want → Type 0
Runs form tracks found [] wants out = wants ≡ out
Runs form tracks found (Visit s q ∷ tasks) wants out = (w : Weight) × IsSettled found (State s q) w × IsSpace (guide_of form) s
    × Runs form tracks found tasks (record { space = s; state = q; weight = w } ∷ wants) out
Runs form tracks found (Join taken ∷ tasks) [] out = ⊥
Runs form tracks found (Join taken ∷ tasks) (r ∷ []) out = ⊥
Runs form tracks found (Join taken ∷ tasks) (r ∷ l ∷ wants) out =
    (want : Want) × Leads form tracks taken l r want × Runs form tracks found tasks (want ∷ wants) out

-- how many nodes are counted for what is found
abbrev pub nodes_found : Option Found → ℕ
nodes_found None = 0
nodes_found (Some entry) = entry.weight.nodes

-- in how many rounds the tasks are done: for each node it and its two sides are visited, and it is made
abbrev pub rounds : Findings → List Task → ℕ
rounds found [] = 0
rounds found (Visit s q ∷ tasks) = suc (3 * nodes_found (found (State s q))) + rounds found tasks
rounds found (Join taken ∷ tasks) = suc (rounds found tasks)

-- of what is to be visited all nodes are counted
abbrev pub AreSmall : Findings → List Task → Type 0
AreSmall found [] = Unit {0}
AreSmall found (Visit s q ∷ tasks) = (nodes_found (found (State s q)) < 4294967295) × AreSmall found tasks
AreSmall found (Join taken ∷ tasks) = AreSmall found tasks

-- how often a place is named in the list
abbrev pub times_in : List (Option ℕ) → ℕ → ℕ
times_in [] k = 0
times_in (None ∷ made) k = times_in made k
times_in (Some j ∷ made) k = (if j == k then 1 else 0) + times_in made k

-- the nodes make trees: each is named once, by a parent or by what was made
pub record IsForest (nodes : List TreeNode) (made : List (Option ℕ)) : Type 0 where
  pub few : length nodes < 4294967295
  pub left_before : (k : ℕ) (node : TreeNode) → slice_get nodes k ≡ Some node → IfSome node.left (λ child. child < k)
  pub right_before : (k : ℕ) (node : TreeNode) → slice_get nodes k ≡ Some node → IfSome node.right (λ child. child < k)
  pub once : (k : ℕ) → k < length nodes → times_named nodes k + times_in made k ≡ 1

-- the nodes that the wanted trees count together
abbrev pub nodes_of : List Want → ℕ
nodes_of [] = 0
nodes_of (want ∷ wants) = want.weight.nodes + nodes_of wants

-- what was made and the tasks that are left make what is wanted
pub record Grows (form : Form) (tracks : List Track) (found : Findings) (nodes : List TreeNode) (tasks : List Task) (made : List (Option ℕ))
    (out : Want) : Type 0 where
  pub wants : List Want
  pub built : AreBuilt form tracks nodes made wants
  pub counts : length nodes ≡ nodes_of wants
  pub small : AreSmall found tasks
  pub runs : Runs form tracks found tasks wants (out ∷ [])
  pub forest : IsForest nodes made
