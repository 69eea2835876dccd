-- What an assignment shows, by the value that is given.
use Rattle.std.proofs.Common.{◌≡◌, ℕ, Bool, [], ◌∷◌, Result, Ok, Err, refl, ap}
use Rattle.store_core.specs.declared.value.Value.{Value}
use Rattle.store_core.specs.declared.value.Value.TheVariants as value
use Rattle.store_core.specs.Stores.{StoreMap}
use Rattle.store_logic.specs.declared.path.Path.{Path}
use Rattle.store_exec.specs.declared.cause.Cause.{Cause}
use Rattle.store_exec.specs.Steps.{made_of}
use Rattle.store_exec.proofs.SortLemmas.{ok-one, err-ok}
use Rattle.store_trace.specs.declared.event.Event.TheVariants as event
use Rattle.store_trace.specs.Showing.{set_events}

abbrev pub value_in : StoreMap × Value → Value
value_in got = got.1

-- a store beside it changes nothing of a value
pub beside : (s : StoreMap) (r : Result Value Cause) → made_of value_in (made_of {Y = StoreMap × Value} (λ x. (s, x)) r) ≡ r
beside s (Ok x) = refl
beside s (Err why) = refl

pub beside-truth : (s : StoreMap) (r : Result Bool Cause) → made_of value_in (made_of {Y = StoreMap × Value} (λ truth. (s, value.Bool truth)) r)
    ≡ made_of {Y = Value} (λ truth. value.Bool truth) r
beside-truth s (Ok truth) = refl
beside-truth s (Err why) = refl

-- the value that was given is the one that is shown
pub set-shown : (line : ℕ) (p : Path) (r : Result (StoreMap × Value) Cause) (y : Value) → made_of value_in r ≡ Ok y →
    set_events line p r ≡ event.Assign line p y ∷ []
set-shown line p (Ok got) y e = ap (λ (x : Value). event.Assign line p x ∷ []) (ok-one got.1 y e)
set-shown line p (Err why) y e = err-ok why e

pub none-shown : (line : ℕ) (p : Path) (r : Result (StoreMap × Value) Cause) (why : Cause) → made_of value_in r ≡ Err why → set_events line p r ≡ []
none-shown line p (Ok got) why e = absurd cc
none-shown line p (Err other) why e = refl
