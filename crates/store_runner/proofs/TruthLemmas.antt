-- What waits for the truth of a condition's part.
use Rattle.std.proofs.Common.{◌≡◌, List, [], ◌∷◌, Ok, Err, refl, sym, ap, ◌∙◌, Bool, Result, MatchResult}
use Rattle.store_core.specs.Stores.{StoreMap}
use Rattle.store_exec.specs.declared.cause.Cause.{Cause}
use Rattle.store_exec.specs.declared.halt.Halt.{Halt}
use Rattle.store_exec.specs.declared.halt.Halt.TheVariants.{Fails}
use Rattle.store_runner.specs.declared.truth.Waiting.{Waiting}
use Rattle.store_runner.specs.declared.truth.Waiting.TheVariants as waiting
use Rattle.store_runner.specs.Conditions.{resumed_by, resumed}

-- a cause stops all that waits
resumed_by-err : (s : StoreMap) (w : Waiting) (why : Cause) → resumed_by s w (Err why) ≡ Err why
resumed_by-err s waiting.Not why = refl
resumed_by-err s (waiting.And right) why = refl
resumed_by-err s (waiting.Or right) why = refl

pub resumed_err : (s : StoreMap) (ws : List Waiting) (why : Cause) → resumed s ws (Err why) ≡ Err why
resumed_err s [] why = refl
resumed_err s (w ∷ ws) why = ap (λ (r : Result Bool Cause). resumed s ws r) (resumed_by-err s w why) ∙ resumed_err s ws why

-- what is told of a part is told of the whole
pub answered : (s : StoreMap) (old new : List Waiting) (whole part : Result Bool Cause) (r : Result Bool Halt) →
    MatchResult r (λ truth. part ≡ Ok truth) (λ why. (cause : Cause) → why ≡ Fails cause → part ≡ Err cause) →
    resumed s old whole ≡ resumed s new part →
    MatchResult r (λ truth. resumed s new (Ok truth) ≡ resumed s old whole) (λ why. (cause : Cause) → why ≡ Fails cause → resumed s old whole ≡ Err cause)
answered s old new whole part (Ok truth) told is = sym (is ∙ ap (λ (p : Result Bool Cause). resumed s new p) told)
answered s old new whole part (Err why) told is =
    λ cause stops. is ∙ ap (λ (p : Result Bool Cause). resumed s new p) (told cause stops) ∙ resumed_err s new cause
