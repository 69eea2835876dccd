-- On variables beside what is handed over for them.
use Rattle.std.proofs.Common.{◌≡◌, List, [], ◌∷◌, length, map, refl, arith}
use Rattle.store_core.specs.declared.ids.VarId.{VarId}
use Rattle.pale_calls.specs.declared.actual.Actual.{Actual}
use Rattle.pale_calls.specs.declared.actual.Actual.TheVariants as actual
use Rattle.hoare_fill.specs.Putting.{beside}

pub beside-no_variable : (vars : List VarId) (actuals : List Actual) → length vars ≡ 0 → beside vars actuals ≡ []
beside-no_variable [] actuals none = refl
beside-no_variable (v ∷ vars) actuals none = absurd (omega arith)

pub beside-no_actual : (vars : List VarId) (actuals : List Actual) → length actuals ≡ 0 → beside vars actuals ≡ []
beside-no_actual [] actuals none = refl
beside-no_actual (v ∷ vars) [] none = refl
beside-no_actual (v ∷ vars) (x ∷ actuals) none = absurd (omega arith)

pub beside-no_result : (vars results : List VarId) → length results ≡ 0 → beside vars (map (λ v. actual.Var v) results) ≡ []
beside-no_result [] results none = refl
beside-no_result (v ∷ vars) [] none = refl
beside-no_result (v ∷ vars) (x ∷ results) none = absurd (omega arith)
