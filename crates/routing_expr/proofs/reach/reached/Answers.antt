use Rattle.routing_walks.specs.Sets.{Has}
use Rattle.std.proofs.Common.{Result, Ok, Err, IfOk}
use Rattle.routing_expr.proofs.ReachLemmas.{IsPart-taken}
use Rattle.routing_expr.proofs.reach.reached.Goals as goal

if_ok : {X E : Type 0} (P Q : X → Type 0) → ((x : X) → P x → Q x) → (r : Result X E) → IfOk r P → IfOk r Q
if_ok P Q step (Ok x) h = step x h
if_ok P Q step (Err e) h = tt

pub returns : goal.returns
returns c = if_ok _ _ (λ cells. IsPart-taken c.args.types.now c.args.vars.now c.args.store.now c.args.roots.now (Has c.in_ok-left.left) cells
    c.in_ok-left.ensures.left c.in_ok-left.ensures.reached) c.live_outside.result c.live_outside.ensures
