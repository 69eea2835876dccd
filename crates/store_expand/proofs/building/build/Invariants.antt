use Rattle.std.proofs.Common.{◌≡◌, Some, [], ◌∷◌, drop, map}
use Rattle.store_logic.specs.Postfix.{run_on}
use Rattle.store_logic.specs.Expansion.{expansion}
use Rattle.store_expand.specs.Places.{form_there}
use Rattle.store_expand.proofs.building.build.Given as goal

-- the forms that are left make the whole of what is made so far
abbrev pub invariant-loop-place : goal.invariant-loop-place
invariant-loop-place l = run_on (map form_there (drop l.place-index l.place-items)) l.made ≡ Some (expansion l.preds l.assertion ∷ [])
