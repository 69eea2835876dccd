-- Predicates without parameters that use those before them.
use Rattle.std.specs.Prelude.{◌≡◌, ◌<◌, ℕ, List, [], slice_get, IfSome}
use Rattle.std.specs.List.{AllByRecursion}
use Rattle.store_logic.specs.declared.arg.Arg.{Arg}
use Rattle.store_logic.specs.declared.pred.PredDef.{PredDef}
use Rattle.store_logic.specs.Uses.{names_in, uses_in}

-- a use of a predicate before this one, without arguments
abbrev pub UsesBefore : ℕ → ℕ × List Arg → Type 0
UsesBefore k u = (u.0 < k) × (u.1 ≡ [])

-- a predicate without parameters at this place, whose body names nothing
pub record IsLink (k : ℕ) (p : PredDef) : Type 0 where
  pub params : p.params ≡ 0
  pub names : names_in p.body ≡ []
  pub uses : AllByRecursion (UsesBefore k) (uses_in p.body)

abbrev pub IsChain : List PredDef → Type 0
IsChain preds = (k : ℕ) → IfSome (slice_get preds k) (IsLink k)
