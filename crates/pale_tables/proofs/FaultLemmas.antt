-- Steps of the search for the first fault.
use Rattle.std.proofs.Common.{◌≡◌, None, Result, Ok, Err, OnOk, IfErr, sym, ap, ◌∙◌, subst}
use Rattle.std.specs.Result.{IsErrAnd}
use Rattle.pale_text.specs.declared.refusal.TextStop.{TextStop}
use Rattle.pale_text.specs.declared.refusal.TextStop.TheVariants as stop
use Rattle.pale_tables.specs.Faults.{Fault, ◌>>◌, IsStop}

-- a stop at the first part is one of the whole
pub stop-then : (first after : Fault) (e : TextStop) → IsStop first e → IsStop (first >> after) e
stop-then first after (stop.Refused refusal) is = ap (λ f. f >> after) is
stop-then first after stop.NoMemory is = is

-- so is a stop after a part without a fault
pub stop-after : (first after : Fault) (e : TextStop) → first ≡ None → IsStop after e → IsStop (first >> after) e
stop-after first after e none is = subst (λ f. IsStop (f >> after) e) (sym none) is

-- no part has a fault
pub none-then : (first after : Fault) → first ≡ None → after ≡ None → (first >> after) ≡ None
none-then first after none last = ap (λ f. f >> after) none ∙ last

-- the stop that a `?` passes on
pub stop_returned : {U : Type 0} (fault : Fault) (r : Result U TextStop) (e : TextStop) → IsErrAnd r (λ y. y ≡ e) → IsStop fault e → IfErr r (IsStop fault)
stop_returned fault (Ok x) e is stop = absurd is
stop_returned fault (Err y) e is stop = subst (IsStop fault) (sym is) stop

-- a stop of a result, seen from another fault
pub stop_same : {U : Type 0} (one other : Fault) (r : Result U TextStop) → ((e : TextStop) → IsStop one e → IsStop other e) →
    IfErr r (IsStop one) → IfErr r (IsStop other)
stop_same one other (Ok x) leads is = tt
stop_same one other (Err e) leads is = leads e is

-- a result that is handed on after a part without a fault
pub met-after : {U : Type 0} (first after : Fault) (r : Result U TextStop) → first ≡ None → OnOk r (after ≡ None) → OnOk r ((first >> after) ≡ None)
met-after first after (Ok x) none last = none-then first after none last
met-after first after (Err e) none last = tt

pub stop-last : {U : Type 0} (first after : Fault) (r : Result U TextStop) → first ≡ None → IfErr r (IsStop after) → IfErr r (IsStop (first >> after))
stop-last first after r none is = stop_same after (first >> after) r (λ e. stop-after first after e none) is

pub ruleset tails = (met-after, stop-last)

pub ruleset stops = (stop-then, stop-after, none-then)
