-- An automaton that is left alone in a shelf, once all that is kept is released.
use Rattle.std.proofs.Common.{◌≡◌, List, [], ◌∷◌, Result, Ok, Err, IfOk, OnErr, refl, subst, arith}
use Rattle.bdd_nodes.specs.Shelf.{Contents}
use Rattle.bdd_walk.specs.declared.stop.Stop.{Stop}
use Rattle.gta_theory.specs.Guides.{Spaces}
use Rattle.gta_core.specs.Auto.{AutoView}
use Rattle.ws2s_core.specs.declared.formula.Formula.{Formula}
use Rattle.ws2s_core.specs.declared.node.FormulaId.{FormulaId}
use Rattle.gta_keep.specs.Holding.{Holds, HasNoTables, IsMinimalFor, Passes, beside}
use Rattle.gta_keep.proofs.CopyLemmas.{IsMinimalFor-kept}
use Rattle.ws2s_decide.specs.Going.{Rests}
use Rattle.ws2s_decide.proofs.KeepingLemmas.{HasNoTables-held}

-- the automaton that was made, if one was
abbrev pub left : Result AutoView Stop → List AutoView
left (Ok auto) = auto ∷ []
left (Err stop) = []

pub left-held : (g : Spaces) (formulas : List Formula) (shelf : Contents) (kept : List (FormulaId × AutoView)) (made : Result AutoView Stop) →
    IfOk made (λ auto. Rests g formulas shelf (auto ∷ []) kept) → OnErr made (Rests g formulas shelf [] kept) → Holds g shelf (beside [] (left made) kept)
left-held g formulas shelf kept (Ok auto) ok err = ok.holds
left-held g formulas shelf kept (Err stop) ok err = err.holds

module _ (g : Spaces) (old new : Contents) (before after : List (FormulaId × AutoView)) (passes : Passes g old new [] [] before after) where
  pub left-minimal : (IsThere : Formula → Type 0) (f : Formula) → IsThere f → (made : Result AutoView Stop) → Holds g old (beside [] (left made) before) →
      IfOk made (λ auto. (h : Formula) → IsThere h → IsMinimalFor g old auto h) → IfOk made (λ auto. IsMinimalFor g new auto f)
  left-minimal IsThere f there (Ok auto) holds minimal =
      IsMinimalFor-kept g old new auto f (passes.others (auto ∷ []) auto holds (0, omega arith, refl)) (minimal f there)
  left-minimal IsThere f there (Err stop) holds minimal = tt

  alone-held : (made : Result AutoView Stop) → Holds g old (beside [] (left made) before) → after ≡ [] → Holds g new (left made)
  alone-held (Ok auto) holds empty =
      subst (λ (kept : List (FormulaId × AutoView)). Holds g new (beside [] (auto ∷ []) kept)) empty (passes.holds (auto ∷ []) holds)
  alone-held (Err stop) holds empty = subst (λ (kept : List (FormulaId × AutoView)). Holds g new (beside [] [] kept)) empty (passes.holds [] holds)

  pub left-alone : (made : Result AutoView Stop) → Holds g old (beside [] (left made) before) → after ≡ [] → IfOk made (λ auto. Holds g new (auto ∷ []))
  left-alone (Ok auto) holds empty = alone-held (Ok auto) holds empty
  left-alone (Err stop) holds empty = tt

  pub left-none : (made : Result AutoView Stop) → Holds g old (beside [] (left made) before) → after ≡ [] → OnErr made (HasNoTables new)
  left-none (Ok auto) holds empty = tt
  left-none (Err stop) holds empty = HasNoTables-held g new (alone-held (Err stop) holds empty)
