-- A state that is marked, or unknown, changes nothing.
use Rattle.std.proofs.Common.{◌≡◌, true, false, Some, None, ap, arith}
use Rattle.std.specs.Prelude.{slice_get}
use Rattle.gta_reach.specs.Unset.{unset}
use Rattle.gta_classes.proofs.ChosenLemmas.{set-known, set-unknown}
use Rattle.gta_reach.proofs.UnsetLemmas.{unset-less}
use Rattle.gta_reach.proofs.sweep.touch_state.Goals as goal

pub returns-else-not-is_found-clause-states : goal.returns-else-not-is_found-clause-states
returns-else-not-is_found-clause-states c =
    let v = c.get.ensures.value in
    let k = c.in-Some.ensures in
    let t : c.in-Some.is_found ≡ true = c.if-not-is_found.false in
    set-known c.args.states.now c.args.state (let e : slice_get c.args.states.now c.args.state ≡ Some true = cc in e)

pub returns-in_default-clause-states : goal.returns-in_default-clause-states
returns-in_default-clause-states c =
    let v = c.get.ensures.value in
    let k = c.in_default.ensures in
    set-unknown c.args.states.now c.args.state (let e : slice_get c.args.states.now c.args.state ≡ None = cc in e)

pub returns-then-not-is_found-clause-fewer : goal.returns-then-not-is_found-clause-fewer
returns-then-not-is_found-clause-fewer c =
    let v = c.get.ensures.value in
    let k = c.in-Some.ensures in
    let t : c.in-Some.is_found ≡ false = c.if-not-is_found.true in
    let less = unset-less c.args.states.now c.args.state (let e : slice_get c.args.states.now c.args.state ≡ Some false = cc in e) in
    let set = ap unset c.set.ensures in
    omega arith
