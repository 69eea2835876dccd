-- What the lines of a section tell of automata and tables, and which lines are a section of a formula under a guide.
use Rattle.std.specs.Prelude.{◌≡◌, ◌↔◌, ℕ, suc, List, [], ◌∷◌, ◌++◌, length, map, take, slice_get, Contains, Some}
use Rattle.std.specs.List.{flat_map}
use Rattle.gta_theory.specs.Guides.{Spaces}
use Rattle.ws2s_core.specs.declared.formula.Formula.{Formula}
use Rattle.ws2s_core.specs.declared.node.Node.{Node}
use Rattle.ws2s_core.specs.Nodes.{formulas_of, IsOnceEach}
use Rattle.ws2s_core.specs.Parts.{IsPart}
use Rattle.cert_text.specs.declared.line.Way.{Way}
use Rattle.cert_text.specs.declared.line.NodeLine.{NodeLine}
use Rattle.cert_text.specs.declared.line.Line.{Line}
use Rattle.cert_text.specs.declared.line.Line.TheVariants as line
use Rattle.cert_theory.specs.Sections.{Stage, IsSection}
use Rattle.cert_nodes.specs.Nodes.{AreNodes}
use Rattle.cert_tables.specs.PairKeys.{named_pair}
use Rattle.cert_tables.specs.SetKeys.{named_set, AreSets}
use Rattle.cert_tables.specs.Orders.{ArePairsInOrder, AreSetsInOrder}
use Rattle.cert_settled.specs.Settled.{AreSettling}
use Rattle.cert_steps.specs.Steps.{StepLines, automaton_lines, nodes_of_step, told_automaton}
use Rattle.cert_steps.specs.Places.{AreInPlace}

-- ---- the lines in their order

-- all lines of the step on the node with number k; an atom and a negation have none
abbrev pub lines_of_step : ℕ → Node → StepLines → List Line
lines_of_step k (Node.And f h) step = line.And k ∷ (automaton_lines step.automaton ++ map line.Pair step.pairs)
lines_of_step k (Node.Ex2 t f) step =
    line.Ex k ∷ (automaton_lines step.automaton ++ (map line.Start step.starts ++ (map line.Settle step.settles ++ map line.Set step.sets)))
lines_of_step k node step = []

-- the steps of these nodes, which are numbered from k
abbrev pub lines_of_steps : ℕ → List Node → List StepLines → List Line
lines_of_steps k (node ∷ nodes) (step ∷ steps) = lines_of_step k node step ++ lines_of_steps (suc k) nodes steps
lines_of_steps k _ _ = []

-- the lines of a section
abbrev pub lines_of_section : Way → List Node → List StepLines → List Line
lines_of_section way nodes steps =
    line.Section (record { way = way; parts = length nodes }) ∷ (lines_of_steps 0 nodes steps ++ (line.End ∷ []))

-- the decision nodes of steps, in order
abbrev pub nodes_of_steps : List StepLines → List NodeLine
nodes_of_steps steps = flat_map nodes_of_step steps

-- ---- one step

-- what a step tells is the stage of its node
abbrev pub Tells : List NodeLine → Node → StepLines → Stage → Type 0
Tells drawn (Node.And f h) step stage =
    (stage.automaton ≡ told_automaton drawn step.automaton) × (stage.pairs ≡ map named_pair step.pairs)
Tells drawn (Node.Ex2 t f) step stage =
    (stage.automaton ≡ told_automaton drawn step.automaton) × (stage.sets ≡ map named_set step.sets)
Tells drawn node step stage = Unit {0}

-- its lines are right in their places, behind these decision nodes: those of its automaton; pairs rise; settled states come by
-- earlier ones, and no step leads out of them; sets stand space by space, and none twice
abbrev pub IsInPlace : Spaces → (ℕ → Stage) → List NodeLine → Node → StepLines → Type 0
IsInPlace g stages before (Node.And f h) step = AreInPlace g before step.automaton × ArePairsInOrder step.pairs
IsInPlace g stages before (Node.Ex2 t f) step =
    AreInPlace g before step.automaton × AreSettling g (stages f.0).automaton t.0 step.starts step.settles
    × AreSetsInOrder step.sets × AreSets step.sets
IsInPlace g stages before node step = Unit {0}

-- ---- the whole

-- the lines are a section that shows that the formula has no satisfying assignment: they are those of steps on its parts, each
-- in its place; the decision nodes follow one another; and what the steps tell are the stages of a section
pub record ShowsNone (g : Spaces) (f : Formula) (lines : List Line) : Type 0 where
  pub way : Way
  pub nodes : List Node
  pub steps : List StepLines
  pub stages : ℕ → Stage
  pub once : IsOnceEach (formulas_of nodes)
  pub parts : (h : Formula) → IsPart f h ↔ Contains (formulas_of nodes) h
  pub lines_are : lines ≡ lines_of_section way nodes steps
  pub drawn : AreNodes (nodes_of_steps steps)
  pub tells : (k : ℕ) (node : Node) (step : StepLines) → slice_get nodes k ≡ Some node → slice_get steps k ≡ Some step →
      Tells (nodes_of_steps steps) node step (stages k)
  pub in_place : (k : ℕ) (node : Node) (step : StepLines) → slice_get nodes k ≡ Some node → slice_get steps k ≡ Some step →
      IsInPlace g stages (nodes_of_steps (take k steps)) node step
  pub is_section : IsSection g f nodes stages
