-- Stages and the lines of steps, with one more at their ends.
use Rattle.std.proofs.Common.{◌≡◌, ℕ, zero, suc, ◌+◌, ◌<◌, ◌≤◌, List, [], ◌∷◌, ◌++◌, length, take, slice_get, Some, All, refl, ap, sym, ◌∙◌, subst, arith}
use Rattle.std.proofs.Common.{append_assoc, append-nil}
use Rattle.std.proofs.lemmas.List.Elements.{All-head, All-tail}
use Rattle.gta_theory.specs.Guides.{Spaces}
use Rattle.gta_theory.specs.Constructions.{complement, Settled}
use Rattle.ws2s_core.specs.declared.node.Node.{Node}
use Rattle.ws2s_core.specs.Nodes.{HasPartsBelow}
use Rattle.cert_text.specs.declared.line.NodeLine.{NodeLine}
use Rattle.cert_text.specs.declared.line.Line.{Line}
use Rattle.cert_theory.specs.Tables.{IsPairTable, IsSetTable}
use Rattle.cert_theory.specs.Sections.{Stage, IsStageOf}
use Rattle.cert_settled.specs.Settled.{AreSettling}
use Rattle.cert_steps.specs.Steps.{StepLines}
use Rattle.cert_check.specs.Told.{lines_of_step, lines_of_steps, IsInPlace}
use Rattle.cert_check.specs.Standing.{stage_at}

-- ---- the numbers of parts

pub below-one : (k p : ℕ) → All (λ part. part < k) (p ∷ []) → p < k
below-one k p h = All-head (λ part. part < k) p [] h

pub below-first : (k p q : ℕ) → All (λ part. part < k) (p ∷ q ∷ []) → p < k
below-first k p q h = All-head (λ part. part < k) p (q ∷ []) h

pub below-second : (k p q : ℕ) → All (λ part. part < k) (p ∷ q ∷ []) → q < k
below-second k p q h = All-head (λ part. part < k) q [] (All-tail (λ part. part < k) p (q ∷ []) h)

-- ---- stages by number

pub stage-front : (stages : List Stage) (stage : Stage) (k : ℕ) → k < length stages → stage_at (stages ++ stage ∷ []) k ≡ stage_at stages k
stage-front [] stage k inside = absurd (omega (arith, inside))
stage-front (x ∷ stages) stage zero inside = refl
stage-front (x ∷ stages) stage (suc k) inside = stage-front stages stage k (omega (arith, inside))

pub stage-is : (stages : List Stage) (k : ℕ) (stage : Stage) → slice_get stages k ≡ Some stage → stage_at stages k ≡ stage
stage-is [] k stage at = absurd cc
stage-is (x ∷ stages) zero stage at = cc
stage-is (x ∷ stages) (suc k) stage at = stage-is stages k stage at

module _ (g : Spaces) (stages others : ℕ → Stage) (j : ℕ) (same : (k : ℕ) → k < j → stages k ≡ others k) where
  pub stage-of-same : (node : Node) (stage : Stage) → HasPartsBelow j node → IsStageOf g stages node stage → IsStageOf g others node stage
  stage-of-same (Node.Sub x y) stage below is = is
  stage-of-same (Node.Single x) stage below is = is
  stage-of-same (Node.Succ0 x y) stage below is = is
  stage-of-same (Node.Succ1 x y) stage below is = is
  stage-of-same (Node.Root x) stage below is = is
  stage-of-same (Node.And f h) stage below is =
      subst (λ (s : Stage). IsPairTable g (others f.0).automaton s.automaton stage.pairs stage.automaton) (same h.0 (below-second j f.0 h.0 below))
      (subst (λ (s : Stage). IsPairTable g s.automaton (stages h.0).automaton stage.pairs stage.automaton) (same f.0 (below-first j f.0 h.0 below)) is)
  stage-of-same (Node.Not f) stage below is = is ∙ ap (λ (s : Stage). complement s.automaton) (same f.0 (below-one j f.0 below))
  stage-of-same (Node.Ex2 t f) stage below is =
      subst (λ (s : Stage). IsSetTable g s.automaton t.0 (Settled g s.automaton t.0) stage.sets stage.automaton) (same f.0 (below-one j f.0 below)) is

  pub in-place-same : (drawn : List NodeLine) (node : Node) (step : StepLines) → HasPartsBelow j node → IsInPlace g stages drawn node step →
      IsInPlace g others drawn node step
  in-place-same drawn (Node.Sub x y) step below is = is
  in-place-same drawn (Node.Single x) step below is = is
  in-place-same drawn (Node.Succ0 x y) step below is = is
  in-place-same drawn (Node.Succ1 x y) step below is = is
  in-place-same drawn (Node.Root x) step below is = is
  in-place-same drawn (Node.And f h) step below is = is
  in-place-same drawn (Node.Not f) step below is = is
  in-place-same drawn (Node.Ex2 t f) step below is =
      (is.0, subst (λ (s : Stage). AreSettling g s.automaton t.0 step.starts step.settles) (same f.0 (below-one j f.0 below)) is.1, is.2, is.3)

-- ---- lists cut off

pub taken-next : {X : Type 0} (xs : List X) (k : ℕ) (x : X) → slice_get xs k ≡ Some x → take (suc k) xs ≡ take k xs ++ x ∷ []
taken-next [] k x at = absurd cc
taken-next (y ∷ xs) zero x at =
    let same : y ≡ x = cc in
    ap (λ z. z ∷ []) same
taken-next (y ∷ xs) (suc k) x at = ap (λ l. y ∷ l) (taken-next xs k x at)

pub long-taken : {X : Type 0} (xs : List X) (k : ℕ) (x : X) → slice_get xs k ≡ Some x → length (take k xs) ≡ k
long-taken [] k x at = absurd cc
long-taken (y ∷ xs) zero x at = refl
long-taken (y ∷ xs) (suc k) x at = ap suc (long-taken xs k x at)

pub taken-front : {X : Type 0} (xs : List X) (x : X) (k : ℕ) → k ≤ length xs → take k (xs ++ x ∷ []) ≡ take k xs
taken-front xs x zero inside = refl
taken-front [] x (suc k) inside = absurd (omega (arith, inside))
taken-front (y ∷ xs) x (suc k) inside = ap (λ l. y ∷ l) (taken-front xs x k (omega (arith, inside)))

pub taken-all : {X : Type 0} (xs : List X) (x : X) (k : ℕ) → length xs ≡ k → take k (xs ++ x ∷ []) ≡ xs
taken-all [] x zero many = refl
taken-all [] x (suc k) many = absurd (omega (arith, many))
taken-all (y ∷ xs) x zero many = absurd (omega (arith, many))
taken-all (y ∷ xs) x (suc k) many = ap (λ l. y ∷ l) (taken-all xs x k (omega (arith, many)))

-- ---- lines of steps

steps-push : (i : ℕ) (nodes : List Node) (steps : List StepLines) (node : Node) (step : StepLines) → length nodes ≡ length steps →
    lines_of_steps i (nodes ++ node ∷ []) (steps ++ step ∷ []) ≡ lines_of_steps i nodes steps ++ lines_of_step (i + length nodes) node step
steps-push i [] [] node step many =
    append-nil (lines_of_step i node step) ∙ ap (λ (k : ℕ). lines_of_step k node step) (let e : i ≡ i + 0 = omega arith in e)
steps-push i [] (y ∷ steps) node step many = absurd (omega (arith, many))
steps-push i (x ∷ nodes) [] node step many = absurd (omega (arith, many))
steps-push i (x ∷ nodes) (y ∷ steps) node step many =
    ap (λ (l : List Line). lines_of_step i x y ++ l) (steps-push (suc i) nodes steps node step (omega (arith, many)))
    ∙ sym (append_assoc (lines_of_step i x y) (lines_of_steps (suc i) nodes steps) (lines_of_step (suc i + length nodes) node step))
    ∙ ap (λ (k : ℕ). (lines_of_step i x y ++ lines_of_steps (suc i) nodes steps) ++ lines_of_step k node step)
    (let e : suc i + length nodes ≡ i + suc (length nodes) = omega arith in e)

pub read-step : (nodes : List Node) (steps : List StepLines) (k : ℕ) (node : Node) (step : StepLines) (body left rest : List Line) →
    slice_get nodes k ≡ Some node → length steps ≡ k → body ≡ lines_of_steps 0 (take k nodes) steps ++ left →
    left ≡ lines_of_step k node step ++ rest → body ≡ lines_of_steps 0 (take (k + 1) nodes) (steps ++ step ∷ []) ++ rest
read-step nodes steps k node step body left rest at many read next =
    let long = long-taken nodes k node at in
    let numbered : 0 + length (take k nodes) ≡ k = omega (arith, long) in
    let as_many : length (take k nodes) ≡ length steps = omega (arith, long, many) in
    let more : suc k ≡ k + 1 = omega arith in
    read
    ∙ ap (λ (l : List Line). lines_of_steps 0 (take k nodes) steps ++ l) next
    ∙ sym (append_assoc (lines_of_steps 0 (take k nodes) steps) (lines_of_step k node step) rest)
    ∙ ap (λ (m : ℕ). (lines_of_steps 0 (take k nodes) steps ++ lines_of_step m node step) ++ rest) (sym numbered)
    ∙ ap (λ (l : List Line). l ++ rest) (sym (steps-push 0 (take k nodes) steps node step as_many))
    ∙ ap (λ (ns : List Node). lines_of_steps 0 ns (steps ++ step ∷ []) ++ rest) (sym (taken-next nodes k node at))
    ∙ ap (λ (m : ℕ). lines_of_steps 0 (take m nodes) (steps ++ step ∷ []) ++ rest) more
