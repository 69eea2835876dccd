-- On single steps: a visit taken apart goes on, and so does each step done. And what a number stands for.
use Rattle.std.proofs.Common.{◌≡◌, ℕ, ◌<◌, ◌≤◌, ◌^◌, List, [], ◌∷◌, length, All, Option, Some, slice_get, unwrap_or, sym, ◌∙◌, ap, subst, arith}
use Rattle.std.proofs.Math.Nat.{one-le-pow}
use Rattle.std.proofs.lemmas.Bool.{false≢true}
use Rattle.std.proofs.lemmas.List.Elements.{All-cons, All-head, All-tail}
use Rattle.gta_theory.specs.Guides.{Spaces, IsGuide}
use Rattle.gta_atom.specs.Atom.{IsAtom, is_atom_node}
use Rattle.ws2s_core.specs.declared.track.Track.{Track}
use Rattle.ws2s_core.specs.declared.formula.Formula.{Formula}
use Rattle.ws2s_core.specs.declared.formula.Formula.TheVariants.{Root, And, Not, Ex2, rolls-And, rolls-Not, rolls-Ex2}
use Rattle.ws2s_core.specs.declared.node.FormulaId.{FormulaId}
use Rattle.ws2s_core.specs.declared.node.Node.{Node}
use Rattle.ws2s_core.specs.Nodes.{formula_at, formula_of_node, HasPartsBelow}
use Rattle.ws2s_core.specs.Sizes.{node_count, strahler_order}
use Rattle.ws2s_core.proofs.FormulaLemmas.{formula-induction, fold-And, fold-Not, fold-Ex2}
use Rattle.ws2s_core.proofs.SizesLemmas.{power_of_order}
use Rattle.ws2s_theory.specs.Peaks.{HasMinimalSize, HasPeak}
use Rattle.ws2s_theory.proofs.PeaksLemmas.{HasPeak-Sub, HasPeak-Single, HasPeak-Succ0, HasPeak-Succ1, HasPeak-Root}
use Rattle.ws2s_decide.specs.declared.task.Task.{Task}
use Rattle.ws2s_decide.specs.Tasks.{Step, visit, negate, conjoin, quantify, Makes, IsCompound, tasks_for}
use Rattle.ws2s_decide.specs.Going.{GoesOn, IsNamedIn, steps_of}
use Rattle.ws2s_decide.proofs.FitsLemmas.{fits-visit, fits-negate, fits-conjoin, fits-quantify}
use Rattle.ws2s_decide.proofs.TasksLemmas.{fewer-And, fewer-Not, fewer-Ex2, within-And, within-Not, within-Ex2}

pub formula-at : (formulas : List Formula) (k : ℕ) (f : Formula) → slice_get formulas k ≡ Some f → formula_at formulas k ≡ f
formula-at formulas k f is = ap (λ (o : Option Formula). unwrap_or o (Root (record { 0 = 0 }))) is

some-node : (node_count : ℕ) (order : ℕ) → 2 ^ order ≤ node_count → 1 ≤ node_count
some-node n order le = (let some = one-le-pow order 2 (omega arith) in omega (arith, le, some))

pub node_count-some : (f : Formula) → 1 ≤ node_count f
node_count-some f = some-node (node_count f) (strahler_order f) (power_of_order f)

-- of an atom the peak is the Size
pub HasPeak-atom : (g : Spaces) (f : Formula) → IsAtom f → (n : ℕ) → HasMinimalSize g f n → HasPeak g f n
HasPeak-atom g = formula-induction (λ f. IsAtom f → (n : ℕ) → HasMinimalSize g f n → HasPeak g f n) (record {
  of_Sub = λ x y atom n size. (HasPeak-Sub g x y n).1 size;
  of_Single = λ x atom n size. (HasPeak-Single g x n).1 size;
  of_Succ0 = λ x y atom n size. (HasPeak-Succ0 g x y n).1 size;
  of_Succ1 = λ x y atom n size. (HasPeak-Succ1 g x y n).1 size;
  of_Root = λ x atom n size. (HasPeak-Root g x n).1 size;
  of_And = λ f h of_f of_h atom. absurd (false≢true (sym (fold-And _ is_atom_node f h) ∙ atom));
  of_Not = λ f of_f atom. absurd (false≢true (sym (fold-Not _ is_atom_node f) ∙ atom));
  of_Ex2 = λ t f of_f atom. absurd (false≢true (sym (fold-Ex2 _ is_atom_node t f) ∙ atom));
})

module _ (g : Spaces) (guide : IsGuide g) where
  -- a visit is done
  pub goes-visit : (f : Formula) (steps : List Step) (stack : List Formula) → GoesOn g (visit f ∷ steps) stack steps (f ∷ stack)
  goes-visit f steps stack = record {
    fewer = (let some = node_count-some f in omega arith);
    fits = λ n. fits-visit g guide n steps stack f;
  }

  pub goes-negate : (f : Formula) (steps : List Step) (stack : List Formula) → GoesOn g (negate ∷ steps) (f ∷ stack) steps (Not f ∷ stack)
  goes-negate f steps stack = record { fewer = omega arith; fits = λ n. fits-negate g guide n steps stack f }

  pub goes-conjoin : (whole f h : Formula) (steps : List Step) (stack : List Formula) → whole ≡ And f h →
      GoesOn g (conjoin whole ∷ steps) (h ∷ f ∷ stack) steps (whole ∷ stack)
  goes-conjoin whole f h steps stack is = record { fewer = omega arith; fits = λ n. fits-conjoin g guide n steps stack whole f h is }

  pub goes-quantify : (t : Track) (whole f : Formula) (steps : List Step) (stack : List Formula) → whole ≡ Ex2 t f →
      GoesOn g (quantify t whole ∷ steps) (f ∷ stack) steps (whole ∷ stack)
  goes-quantify t whole f steps stack is = record { fewer = omega arith; fits = λ n. fits-quantify g guide n steps stack t whole f is }

  -- a visit is taken apart
  goes-And : (whole f h : Formula) (steps : List Step) (stack : List Formula) → whole ≡ And f h →
      GoesOn g (visit whole ∷ steps) stack (visit f ∷ visit h ∷ conjoin whole ∷ steps) stack
  goes-And whole f h steps stack is =
      subst (λ (w : Formula). GoesOn g (visit w ∷ steps) stack (visit f ∷ visit h ∷ conjoin w ∷ steps) stack) (sym is)
      (record { fewer = fewer-And f h steps; fits = λ n fits. record { waiting = fits.waiting; within = within-And g guide n f h steps stack fits.within } })

  goes-Not : (whole f : Formula) (steps : List Step) (stack : List Formula) → whole ≡ Not f →
      GoesOn g (visit whole ∷ steps) stack (visit f ∷ negate ∷ steps) stack
  goes-Not whole f steps stack is =
      subst (λ (w : Formula). GoesOn g (visit w ∷ steps) stack (visit f ∷ negate ∷ steps) stack) (sym is)
      (record { fewer = fewer-Not f steps; fits = λ n fits. record { waiting = fits.waiting; within = within-Not g guide n f steps stack fits.within } })

  goes-Ex2 : (t : Track) (whole f : Formula) (steps : List Step) (stack : List Formula) → whole ≡ Ex2 t f →
      GoesOn g (visit whole ∷ steps) stack (visit f ∷ quantify t whole ∷ steps) stack
  goes-Ex2 t whole f steps stack is =
      subst (λ (w : Formula). GoesOn g (visit w ∷ steps) stack (visit f ∷ quantify t w ∷ steps) stack) (sym is)
      (record { fewer = fewer-Ex2 t f steps; fits = λ n fits. record { waiting = fits.waiting; within = within-Ex2 g guide n t f steps stack fits.within } })

  -- the tasks for a formula that is no atom: they make the same, name formulas that are there, and go on
  pub record Apart (formulas : List Formula) (id : FormulaId) (tasks tasks' : List Task) (stack : List Formula) (out : Formula) : Type 0 where
    pub makes : Makes (steps_of formulas tasks') stack out
    pub named : All (IsNamedIn formulas) tasks'
    pub goes : GoesOn g (steps_of formulas (Task.Visit id ∷ tasks)) stack (steps_of formulas tasks') stack

  pub apart : (formulas : List Formula) (id : FormulaId) (node : Node) (tasks : List Task) (stack : List Formula) (out : Formula) →
      IsCompound node → formula_at formulas id.0 ≡ formula_of_node formulas node → HasPartsBelow id.0 node →
      All (IsNamedIn formulas) (Task.Visit id ∷ tasks) → Makes (steps_of formulas (Task.Visit id ∷ tasks)) stack out →
      Apart formulas id tasks (tasks_for id node tasks) stack out
  apart formulas id (Node.And f h) tasks stack out compound is below named makes =
      let here : id.0 < length formulas = All-head (IsNamedIn formulas) (Task.Visit id) tasks named in
      let first : f.0 < id.0 = All-head (λ (part : ℕ). part < id.0) f.0 (h.0 ∷ []) below in
      let second : h.0 < id.0 = All-head (λ (part : ℕ). part < id.0) h.0 [] (All-tail (λ (part : ℕ). part < id.0) f.0 (h.0 ∷ []) below) in
      let whole : formula_at formulas id.0 ≡ And (formula_at formulas f.0) (formula_at formulas h.0) = is ∙ rolls-And _ _ in
      record {
        makes = (whole, makes);
        named = All-cons (IsNamedIn formulas) (Task.Visit f) (Task.Visit h ∷ Task.Conjoin id ∷ tasks) (omega (arith, first, here))
            (All-cons (IsNamedIn formulas) (Task.Visit h) (Task.Conjoin id ∷ tasks) (omega (arith, second, here))
            (All-cons (IsNamedIn formulas) (Task.Conjoin id) tasks here (All-tail (IsNamedIn formulas) (Task.Visit id) tasks named)));
        goes = goes-And (formula_at formulas id.0) (formula_at formulas f.0) (formula_at formulas h.0) (steps_of formulas tasks) stack whole;
      }
  apart formulas id (Node.Not f) tasks stack out compound is below named makes =
      let here : id.0 < length formulas = All-head (IsNamedIn formulas) (Task.Visit id) tasks named in
      let first : f.0 < id.0 = All-head (λ (part : ℕ). part < id.0) f.0 [] below in
      let whole : formula_at formulas id.0 ≡ Not (formula_at formulas f.0) = is ∙ rolls-Not _ in
      record {
        makes = subst (λ (w : Formula). Makes (steps_of formulas tasks) (w ∷ stack) out) whole makes;
        named = All-cons (IsNamedIn formulas) (Task.Visit f) (Task.Negate ∷ tasks) (omega (arith, first, here))
            (All-cons (IsNamedIn formulas) Task.Negate tasks tt (All-tail (IsNamedIn formulas) (Task.Visit id) tasks named));
        goes = goes-Not (formula_at formulas id.0) (formula_at formulas f.0) (steps_of formulas tasks) stack whole;
      }
  apart formulas id (Node.Ex2 t f) tasks stack out compound is below named makes =
      let here : id.0 < length formulas = All-head (IsNamedIn formulas) (Task.Visit id) tasks named in
      let first : f.0 < id.0 = All-head (λ (part : ℕ). part < id.0) f.0 [] below in
      let whole : formula_at formulas id.0 ≡ Ex2 t (formula_at formulas f.0) = is ∙ rolls-Ex2 _ _ in
      record {
        makes = (whole, makes);
        named = All-cons (IsNamedIn formulas) (Task.Visit f) (Task.Quantify t id ∷ tasks) (omega (arith, first, here))
            (All-cons (IsNamedIn formulas) (Task.Quantify t id) tasks here (All-tail (IsNamedIn formulas) (Task.Visit id) tasks named));
        goes = goes-Ex2 t (formula_at formulas id.0) (formula_at formulas f.0) (steps_of formulas tasks) stack whole;
      }
  apart formulas id (Node.Sub x y) tasks stack out compound is below named makes = absurd compound
  apart formulas id (Node.Single x) tasks stack out compound is below named makes = absurd compound
  apart formulas id (Node.Succ0 x y) tasks stack out compound is below named makes = absurd compound
  apart formulas id (Node.Succ1 x y) tasks stack out compound is below named makes = absurd compound
  apart formulas id (Node.Root x) tasks stack out compound is below named makes = absurd compound
