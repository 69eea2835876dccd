-- The whole section.
use Rattle.std.proofs.Common.{◌≡◌, ℕ, ◌-◌, ◌<◌, Bool, true, false, not, if◌then◌else◌, List, [], ◌∷◌, ◌++◌, length, take, slice_get}
use Rattle.std.proofs.Common.{Contains, Some, refl, ap, sym, ◌∙◌, subst, arith}
use Rattle.std.specs.Prelude.{IsTrue}
use Rattle.std.proofs.lemmas.Bool.{false≢true}
use Rattle.std.proofs.lemmas.List.{take_all}
use Rattle.std.proofs.lemmas.Option.{slice_get_within}
use Rattle.gta_theory.specs.Guides.{Spaces}
use Rattle.ws2s_core.specs.declared.formula.Formula.{Formula}
use Rattle.ws2s_core.specs.declared.node.Node.{Node}
use Rattle.ws2s_core.proofs.NodesLemmas.{node-inside}
use Rattle.cert_text.specs.declared.line.NodeLine.{NodeLine}
use Rattle.cert_text.specs.declared.line.Line.{Line}
use Rattle.cert_text.specs.declared.line.Line.TheVariants as line
use Rattle.cert_theory.specs.Sections.{Stage, IsStageOf, atom_states, IsReachedIn, in_atom, in_pairs, in_sets, in_negation, AreStages}
use Rattle.cert_nodes.specs.declared.spots.Diagrams.{Diagrams}
use Rattle.cert_nodes.specs.Nodes.{AreNodes}
use Rattle.cert_tables.specs.Automata.{accepts_in, signed, table_automaton}
use Rattle.cert_steps.specs.Steps.{StepLines}
use Rattle.cert_check.specs.declared.board.Base.{Base}
use Rattle.cert_check.specs.declared.board.Part.{Part}
use Rattle.cert_check.specs.declared.board.Board.{Board}
use Rattle.cert_check.specs.Told.{lines_of_steps, nodes_of_steps, Tells, IsInPlace, ShowsNone}
use Rattle.cert_check.specs.Numbering.{AreNodesOf}
use Rattle.cert_check.specs.Standing.{stage_at, SaysReached, StandsAt, Stands}
use Rattle.cert_check.specs.Ending.{IsHead, IsEmpty}
use Rattle.cert_check.proofs.StagesLemmas.{stage-is}

same-some : {X : Type 0} (x y : X) → Some x ≡ Some y → x ≡ y
same-some x y e = cc

-- what the base of a part says of a state that its pairs or sets reach
abbrev Shows : Base → ℕ → Type 0
Shows base q = (IsTrue base.never_accepts → accepts_in base.table q ≡ true → ⊥) × (IsTrue base.never_rejects → accepts_in base.table q ≡ false → ⊥)

module _ (g : Spaces) (nodes : List Node) (d : Diagrams) (board : Board) (body rest : List Line)
    (stands : Stands g nodes d board (length nodes) body rest) where
  abbrev stages : ℕ → Stage
  stages = stage_at stands.stages

  at-node : (k : ℕ) (node : Node) → slice_get nodes k ≡ Some node → StandsAt g nodes d board stands.steps stands.stages k node
  at-node k node at = stands.each k node (slice_get_within nodes k node at) at

  staged : (k : ℕ) (node : Node) → slice_get nodes k ≡ Some node → IsStageOf g stages node (stages k)
  staged k node at =
      let known = at-node k node at in
      subst (IsStageOf g stages node) (sym (stage-is stands.stages k known.stage known.at_stage)) known.is_stage

  pub are-stages : AreStages g nodes stages
  are-stages = record { earlier = λ k node at. (at-node k node at).below; staged = staged }

  -- a state that is reached
  base-is : (k : ℕ) (part : Part) (base : Base) (node : Node) (known : StandsAt g nodes d board stands.steps stands.stages k node) →
      slice_get board.parts k ≡ Some part → slice_get board.bases part.base ≡ Some base → (known.part ≡ part) × (known.base ≡ base)
  base-is k part base node known at_part at_base =
      let same_part = same-some known.part part (sym known.at_part ∙ at_part) in
      (same_part, same-some known.base base (sym known.at_base ∙ ap (λ (p : Part). slice_get board.bases p.base) same_part ∙ at_base))

  shows-none : (base : Base) (q : ℕ) → base.never_accepts ≡ false → base.never_rejects ≡ false → Shows base q
  shows-none base q accepts rejects = (
    (λ yes is. false≢true (sym accepts ∙ yes)),
    (λ yes is. false≢true (sym rejects ∙ yes)),
  )

  atom-shows : (node : Node) (stage : Stage) (part : Part) (base : Base) (q : ℕ) → q < atom_states node → SaysReached board.parts node stage part base →
      Shows base q
  atom-shows (Node.Sub x y) stage part base q below says = shows-none base q says.0 says.1
  atom-shows (Node.Single x) stage part base q below says = shows-none base q says.0 says.1
  atom-shows (Node.Succ0 x y) stage part base q below says = shows-none base q says.0 says.1
  atom-shows (Node.Succ1 x y) stage part base q below says = shows-none base q says.0 says.1
  atom-shows (Node.Root x) stage part base q below says = shows-none base q says.0 says.1
  atom-shows (Node.And f h) stage part base q below says = absurd (omega (arith, below))
  atom-shows (Node.Not f) stage part base q below says = absurd (omega (arith, below))
  atom-shows (Node.Ex2 t f) stage part base q below says = absurd (omega (arith, below))

  reached-shows : (k q : ℕ) (part : Part) (base : Base) → IsReachedIn nodes stages k q → slice_get board.parts k ≡ Some part →
      slice_get board.bases part.base ≡ Some base → Shows base q
  reached-shows _ _ part base (in_atom k q node at below) at_part at_base =
      let known = at-node k node at in
      let same = base-is k part base node known at_part at_base in
      subst (λ (b : Base). Shows b q) same.1 (atom-shows node known.stage known.part known.base q below known.reached)
  reached-shows _ _ part base (in_pairs k q f h pair at listed here is) at_part at_base =
      let known = at-node k (Node.And f h) at in
      let same = base-is k part base (Node.And f h) known at_part at_base in
      let in_stage : Contains (known.stage).pairs pair =
      subst (λ (s : Stage). Contains s.pairs pair) (stage-is stands.stages k known.stage known.at_stage) listed in
      subst (λ (b : Base). Shows b q) same.1 (
        (λ never yes. ((known.reached).0.0 never) pair in_stage here (ap (accepts_in (known.base).table) is ∙ yes)),
        (λ never no. ((known.reached).1.0 never) pair in_stage here (ap (accepts_in (known.base).table) is ∙ no)),
      )
  reached-shows _ _ part base (in_sets k q t f set at listed here is) at_part at_base =
      let known = at-node k (Node.Ex2 t f) at in
      let same = base-is k part base (Node.Ex2 t f) known at_part at_base in
      let in_stage : Contains (known.stage).sets set =
      subst (λ (s : Stage). Contains s.sets set) (stage-is stands.stages k known.stage known.at_stage) listed in
      subst (λ (b : Base). Shows b q) same.1 (
        (λ never yes. ((known.reached).0.0 never) set in_stage here (ap (accepts_in (known.base).table) is ∙ yes)),
        (λ never no. ((known.reached).1.0 never) set in_stage here (ap (accepts_in (known.base).table) is ∙ no)),
      )
  reached-shows _ _ part base (in_negation k q f at inner) at_part at_base =
      let known = at-node k (Node.Not f) at in
      let same = base-is k part base (Node.Not f) known at_part at_base in
      let inner_part : Part = record { base = (known.part).base; is_negated = not (known.part).is_negated } in
      subst (λ (b : Base). Shows b q) same.1 (reached-shows f.0 q inner_part known.base inner known.reached known.at_base)

  -- nothing that is reached accepts
  never-accepts : (is_negated : Bool) (base : Base) (q : ℕ) → IsTrue (if is_negated then base.never_rejects else base.never_accepts) → Shows base q →
      (signed is_negated (table_automaton d base.table)).accepting q ≡ false
  never-accepts true base q never shows = by (accepts_in base.table q) refl
    where
      by : (b : Bool) → accepts_in base.table q ≡ b → not b ≡ false
      by true is = refl
      by false is = absurd (shows.1 never is)
  never-accepts false base q never shows = by (accepts_in base.table q) refl
    where
      by : (b : Bool) → accepts_in base.table q ≡ b → b ≡ false
      by true is = absurd (shows.0 never is)
      by false is = refl

  none-accepts : 0 < length nodes → IsEmpty board → (q : ℕ) → IsReachedIn nodes stages (length nodes - 1) q →
      ((stages (length nodes - 1)).automaton).accepting q ≡ false
  none-accepts some empty q reached =
      let k : ℕ = length nodes - 1 in
      let inside : k < length nodes = omega (arith, some) in
      let found = node-inside nodes k inside in
      let known = at-node k found.0 found.1 in
      let many = stands.many_parts in
      let last : length board.parts - 1 ≡ k = omega (arith, many) in
      let at_part : slice_get board.parts k ≡ Some empty.part = ap (slice_get board.parts) (sym last) ∙ empty.at_part in
      let same = base-is k empty.part empty.base found.0 known at_part empty.at_base in
      let shows = reached-shows k q empty.part empty.base reached at_part empty.at_base in
      let never = never-accepts (empty.part).is_negated empty.base q empty.never shows in
      let of_known : (signed (known.part).is_negated (table_automaton d (known.base).table)).accepting q ≡ false =
      ap (λ (p : Part). (signed p.is_negated (table_automaton d (known.base).table)).accepting q) same.0
      ∙ ap (λ (b : Base). (signed (empty.part).is_negated (table_automaton d b.table)).accepting q) same.1 ∙ never in
      ap (λ (s : Stage). (s.automaton).accepting q) (stage-is stands.stages k known.stage known.at_stage)
      ∙ sym ((known.agrees).accepting q) ∙ of_known

  tells : (k : ℕ) (node : Node) (step : StepLines) → slice_get nodes k ≡ Some node → slice_get stands.steps k ≡ Some step →
      Tells (nodes_of_steps stands.steps) node step (stages k)
  tells k node step at at_step =
      let known = at-node k node at in
      let same : known.step ≡ step = same-some known.step step (sym known.at_step ∙ at_step) in
      subst (λ (s : Stage). Tells (nodes_of_steps stands.steps) node step s) (sym (stage-is stands.stages k known.stage known.at_stage))
      (subst (λ (s : StepLines). Tells (nodes_of_steps stands.steps) node s known.stage) same
      (subst (λ (ns : List NodeLine). Tells ns node known.step known.stage) stands.told_is known.tells))

  in-place : (k : ℕ) (node : Node) (step : StepLines) → slice_get nodes k ≡ Some node → slice_get stands.steps k ≡ Some step →
      IsInPlace g stages (nodes_of_steps (take k stands.steps)) node step
  in-place k node step at at_step =
      let known = at-node k node at in
      subst (IsInPlace g stages (nodes_of_steps (take k stands.steps)) node) (same-some known.step step (sym known.at_step ∙ at_step)) known.in_place

  pub shows : (f : Formula) (lines : List Line) → AreNodesOf f nodes → AreNodes d.told → IsHead (length nodes) lines body → rest ≡ line.End ∷ [] →
      IsEmpty board → 0 < length nodes → ShowsNone g f lines
  shows f lines of_f drawn head ends empty some = record {
    way = head.way;
    nodes = nodes;
    steps = stands.steps;
    stages = stages;
    once = of_f.once;
    parts = of_f.parts;
    lines_are = head.read ∙ ap (λ (l : List Line). line.Section (record { way = head.way; parts = length nodes }) ∷ l) (stands.read
        ∙ ap (λ (ns : List Node). lines_of_steps 0 ns stands.steps ++ rest) (take_all (length nodes) nodes (omega arith))
        ∙ ap (λ (l : List Line). lines_of_steps 0 nodes stands.steps ++ l) ends);
    drawn = subst AreNodes stands.told_is drawn;
    tells = tells;
    in_place = in-place;
    is_section = record {
      stages_of_parts = are-stages;
      whole_is_last = of_f.last;
      none_accepts = none-accepts some empty;
    };
  }

-- nothing is known at first
pub stands-none : (g : Spaces) (nodes : List Node) (d : Diagrams) (board : Board) (body : List Line) → d.told ≡ [] → board.parts ≡ [] →
    Stands g nodes d board 0 body body
stands-none g nodes d board body told parts = record {
  steps = [];
  stages = [];
  many_steps = refl;
  many_stages = refl;
  many_parts = ap length parts;
  told_is = told;
  read = refl;
  each = λ j node below at. absurd (omega (arith, below));
}
