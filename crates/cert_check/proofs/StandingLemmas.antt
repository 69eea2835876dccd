-- One more part is known.
use Rattle.std.proofs.Common.{◌≡◌, inl, inr, ℕ, zero, suc, ◌+◌, ◌<◌, ◌≤◌, List, [], ◌∷◌, ◌++◌, length, take, slice_get, Some}
use Rattle.std.proofs.Common.{refl, ap, sym, ◌∙◌, subst, arith}
use Rattle.std.proofs.lemmas.Bool.{cases_lt}
use Rattle.gta_theory.specs.Guides.{Spaces}
use Rattle.gta_theory.specs.Automata.{Automaton}
use Rattle.gta_theory.proofs.ListedLemmas.{slice_get-front, slice_get-last}
use Rattle.ws2s_core.specs.declared.node.Node.{Node}
use Rattle.ws2s_core.specs.Nodes.{Extends, HasPartsBelow}
use Rattle.cert_text.specs.declared.line.NodeLine.{NodeLine}
use Rattle.cert_text.specs.declared.line.Line.{Line}
use Rattle.cert_theory.specs.Agreeing.{AgreeIn}
use Rattle.cert_theory.specs.Sections.{Stage, IsStageOf}
use Rattle.cert_nodes.specs.declared.spots.Diagrams.{Diagrams}
use Rattle.cert_tables.specs.Automata.{signed, table_automaton, AreThere}
use Rattle.cert_steps.specs.Steps.{StepLines, nodes_of_step, told_table}
use Rattle.cert_steps.proofs.ListsLemmas.{one-more, flat-push}
use Rattle.cert_check.specs.declared.board.Base.{Base}
use Rattle.cert_check.specs.declared.board.Part.{Part}
use Rattle.cert_check.specs.declared.board.Board.{Board}
use Rattle.cert_check.specs.Told.{lines_of_step, lines_of_steps, nodes_of_steps, Tells, IsInPlace}
use Rattle.cert_check.specs.Standing.{IsGrown, stage_at, SaysReached, IsToldThere, StandsAt, Stands}
use Rattle.cert_check.proofs.GrowingLemmas.{automaton-grown, there-grown, alone-grown, told-grown}
use Rattle.cert_check.proofs.StagesLemmas.{below-one, stage-front, stage-of-same, in-place-same, taken-front, taken-all, read-step}

-- a board with one more part, and maybe one more base
pub record IsLonger (old new : Board) (part : Part) : Type 0 where
  pub parts : new.parts ≡ old.parts ++ part ∷ []
  pub bases : Extends old.bases new.bases

front-get : {X : Type 0} (xs ys more : List X) (k : ℕ) (x : X) → ys ≡ xs ++ more → k < length xs → slice_get xs k ≡ Some x → slice_get ys k ≡ Some x
front-get xs ys more k x is inside at = ap (λ l. slice_get l k) is ∙ slice_get-front xs more k inside ∙ at

last-get : {X : Type 0} (xs ys : List X) (x : X) (k : ℕ) → ys ≡ xs ++ x ∷ [] → length xs ≡ k → slice_get ys k ≡ Some x
last-get xs ys x k is many =
    ap (λ l. slice_get l k) is ∙ ap (λ (n : ℕ). slice_get (xs ++ x ∷ []) n) (sym many) ∙ slice_get-last xs x

within : {X : Type 0} (xs : List X) (k : ℕ) (x : X) → slice_get xs k ≡ Some x → k < length xs
within [] k x at = absurd cc
within (y ∷ xs) zero x at = omega arith
within (y ∷ xs) (suc k) x at = let h = within xs k x at in omega (arith, h)

told-there-kept : (old new : List NodeLine) (node : Node) (step : StepLines) → Extends old new → IsToldThere old node step → IsToldThere new node step
told-there-kept old new (Node.Sub x y) step grown are = are
told-there-kept old new (Node.Single x) step grown are = are
told-there-kept old new (Node.Succ0 x y) step grown are = are
told-there-kept old new (Node.Succ1 x y) step grown are = are
told-there-kept old new (Node.Root x) step grown are = are
told-there-kept old new (Node.And f h) step grown are =
    there-grown (record { atoms = []; told = old }) (record { atoms = []; told = new }) (alone-grown old new grown) (told_table step.automaton) are
told-there-kept old new (Node.Not f) step grown are = are
told-there-kept old new (Node.Ex2 t f) step grown are =
    there-grown (record { atoms = []; told = old }) (record { atoms = []; told = new }) (alone-grown old new grown) (told_table step.automaton) are

tells-kept : (old new : List NodeLine) (node : Node) (step : StepLines) (stage : Stage) → Extends old new → IsToldThere old node step →
    Tells old node step stage → Tells new node step stage
tells-kept old new (Node.Sub x y) step stage grown are tells = tells
tells-kept old new (Node.Single x) step stage grown are tells = tells
tells-kept old new (Node.Succ0 x y) step stage grown are tells = tells
tells-kept old new (Node.Succ1 x y) step stage grown are tells = tells
tells-kept old new (Node.Root x) step stage grown are tells = tells
tells-kept old new (Node.And f h) step stage grown are tells = (tells.0 ∙ sym (told-grown old new step.automaton grown are), tells.1)
tells-kept old new (Node.Not f) step stage grown are tells = tells
tells-kept old new (Node.Ex2 t f) step stage grown are tells = (tells.0 ∙ sym (told-grown old new step.automaton grown are), tells.1)

reached-kept : (old new : List Part) (more : List Part) (node : Node) (stage : Stage) (part : Part) (base : Base) (j : ℕ) → new ≡ old ++ more →
    HasPartsBelow j node → j < length old → SaysReached old node stage part base → SaysReached new node stage part base
reached-kept old new more (Node.Sub x y) stage part base j is below inside says = says
reached-kept old new more (Node.Single x) stage part base j is below inside says = says
reached-kept old new more (Node.Succ0 x y) stage part base j is below inside says = says
reached-kept old new more (Node.Succ1 x y) stage part base j is below inside says = says
reached-kept old new more (Node.Root x) stage part base j is below inside says = says
reached-kept old new more (Node.And f h) stage part base j is below inside says = says
reached-kept old new more (Node.Not f) stage part base j is below inside says =
    let low = below-one j f.0 below in
    front-get old new more f.0 _ is (omega (arith, low, inside)) says
reached-kept old new more (Node.Ex2 t f) stage part base j is below inside says = says

module _ (g : Spaces) (nodes : List Node) (d e : Diagrams) (grown : IsGrown d e) (old new : Board) (part : Part) (longer : IsLonger old new part)
    (steps : List StepLines) (step : StepLines) (stages : List Stage) (stage : Stage) (k : ℕ) (many_steps : length steps ≡ k)
    (many_stages : length stages ≡ k) (many_parts : length old.parts ≡ k) where
  below-same : (j : ℕ) → j ≤ k → (i : ℕ) → i < j → stage_at stages i ≡ stage_at (stages ++ stage ∷ []) i
  below-same j low i inside = sym (stage-front stages stage i (omega (arith, many_stages, low, inside)))

  -- what was known is still known
  each-kept : (j : ℕ) (node : Node) → j < k → StandsAt g nodes d old steps stages j node →
      StandsAt g nodes e new (steps ++ step ∷ []) (stages ++ stage ∷ []) j node
  each-kept j node inside at = record {
    below = at.below;
    part = at.part;
    base = at.base;
    step = at.step;
    stage = at.stage;
    at_part = front-get old.parts new.parts (part ∷ []) j at.part longer.parts (within old.parts j at.part at.at_part) at.at_part;
    at_base = front-get old.bases new.bases (longer.bases).more (at.part).base at.base (longer.bases).is
        (within old.bases (at.part).base at.base at.at_base) at.at_base;
    at_step = front-get steps (steps ++ step ∷ []) (step ∷ []) j at.step refl (within steps j at.step at.at_step) at.at_step;
    at_stage = front-get stages (stages ++ stage ∷ []) (stage ∷ []) j at.stage refl (within stages j at.stage at.at_stage) at.at_stage;
    agrees = subst (λ (A : Automaton ℕ). AgreeIn g (signed (at.part).is_negated A) (at.stage).automaton)
        (sym (automaton-grown d e grown (at.base).table at.there)) at.agrees;
    there = there-grown d e grown (at.base).table at.there;
    told_there = told-there-kept d.told e.told node at.step grown.told at.told_there;
    is_stage = stage-of-same g (stage_at stages) (stage_at (stages ++ stage ∷ [])) j (below-same j (omega (arith, inside))) node at.stage at.below
        at.is_stage;
    tells = tells-kept d.told e.told node at.step at.stage grown.told at.told_there at.tells;
    in_place = subst (λ (ss : List StepLines). IsInPlace g (stage_at (stages ++ stage ∷ [])) (nodes_of_steps ss) node at.step)
        (sym (taken-front steps step j (omega (arith, inside, many_steps))))
        (in-place-same g (stage_at stages) (stage_at (stages ++ stage ∷ [])) j (below-same j (omega (arith, inside))) (nodes_of_steps (take j steps))
        node at.step at.below at.in_place);
    reached = reached-kept old.parts new.parts (part ∷ []) node at.stage at.part at.base j longer.parts at.below
        (within old.parts j at.part at.at_part) at.reached;
  }

  -- the new part, by the stages of the parts before it
  pub new-at : (node : Node) (base : Base) → HasPartsBelow k node → slice_get new.bases part.base ≡ Some base →
      AgreeIn g (signed part.is_negated (table_automaton e base.table)) stage.automaton → AreThere e base.table → IsToldThere e.told node step →
      IsStageOf g (stage_at stages) node stage → Tells e.told node step stage → IsInPlace g (stage_at stages) (nodes_of_steps steps) node step →
      SaysReached new.parts node stage part base → StandsAt g nodes e new (steps ++ step ∷ []) (stages ++ stage ∷ []) k node
  new-at node base below at_base agrees there told_there is_stage tells in_place reached = record {
    below = below;
    part = part;
    base = base;
    step = step;
    stage = stage;
    at_part = last-get old.parts new.parts part k longer.parts many_parts;
    at_base = at_base;
    at_step = last-get steps (steps ++ step ∷ []) step k refl many_steps;
    at_stage = last-get stages (stages ++ stage ∷ []) stage k refl many_stages;
    agrees = agrees;
    there = there;
    told_there = told_there;
    is_stage = stage-of-same g (stage_at stages) (stage_at (stages ++ stage ∷ [])) k (below-same k (omega arith)) node stage below is_stage;
    tells = tells;
    in_place = subst (λ (ss : List StepLines). IsInPlace g (stage_at (stages ++ stage ∷ [])) (nodes_of_steps ss) node step)
        (sym (taken-all steps step k many_steps))
        (in-place-same g (stage_at stages) (stage_at (stages ++ stage ∷ [])) k (below-same k (omega arith)) (nodes_of_steps steps) node step below
        in_place);
    reached = reached;
  }

  some-same : (x y : Node) → Some x ≡ Some y → x ≡ y
  some-same x y same = cc

  pub stands-next : (node : Node) (body left rest : List Line) → slice_get nodes k ≡ Some node → d.told ≡ nodes_of_steps steps →
      e.told ≡ d.told ++ nodes_of_step step →
      body ≡ lines_of_steps 0 (take k nodes) steps ++ left → left ≡ lines_of_step k node step ++ rest →
      ((j : ℕ) (other : Node) → j < k → slice_get nodes j ≡ Some other → StandsAt g nodes d old steps stages j other) →
      StandsAt g nodes e new (steps ++ step ∷ []) (stages ++ stage ∷ []) k node → Stands g nodes e new (k + 1) body rest
  stands-next node body left rest at told drawn read next each here = record {
    steps = steps ++ step ∷ [];
    stages = stages ++ stage ∷ [];
    many_steps = one-more steps step k many_steps;
    many_stages = one-more stages stage k many_stages;
    many_parts = ap length longer.parts ∙ one-more old.parts part k many_parts;
    told_is = drawn ∙ ap (λ (l : List NodeLine). l ++ nodes_of_step step) told ∙ sym (flat-push nodes_of_step steps step);
    read = read-step nodes steps k node step body left rest at many_steps read next;
    each = λ j other inside at_j. elim (cases_lt j k) as (λ _. StandsAt g nodes e new (steps ++ step ∷ []) (stages ++ stage ∷ []) j other) [
      | inl earlier ↦ each-kept j other earlier (each j other earlier at_j)
      | inr from ↦
          let is : k ≡ j = omega (arith, from, inside) in
          let same : node ≡ other = some-same node other (sym at ∙ ap (slice_get nodes) is ∙ at_j) in
          subst (λ (n : Node). StandsAt g nodes e new (steps ++ step ∷ []) (stages ++ stage ∷ []) j n) same
          (subst (λ (i : ℕ). StandsAt g nodes e new (steps ++ step ∷ []) (stages ++ stage ∷ []) i node) is here)
    ];
  }
