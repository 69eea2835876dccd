use Rattle.std.proofs.Common.{List, refl, subst}
use Rattle.pale_typed.specs.declared.typed.Stmt.{Stmt}
use Rattle.hoare_split.specs.Cuts.{at_assertion}
use Rattle.hoare_split.specs.Flows.{Flow, ends, branches, arrivals_of}
use Rattle.hoare_split.specs.Starts.{plain_start}
use Rattle.hoare_split.specs.Callers.{block_in}
use Rattle.hoare_triples.specs.Following.{Reaches, flow_of}
use Rattle.hoare_triples.proofs.PointLemmas.{triple-made, code-behind_none}
use Rattle.hoare_triples.proofs.points.loop_triple.Goals as goal

pub returns : goal.returns
returns c =
    let caller = c.args.caller.now in
    let place = c.args.place in
    let invariant = c.args.invariant.now in
    let flow : List Stmt → Flow = λ block.
    branches place.line c.args.condition.now ((block_in caller block).flow (ends (at_assertion place invariant))) (flow_of caller c.args.rest) in
    let old = c.new-reached.result in
    let new = c.branch-alloc.new.reached in
    triple-made caller.number place.line place c.in_ok-start.start (plain_start invariant) (flow c.args.body.now) c.in_ok-code.code c.into_cuts.result
    old new c.new-reached.ensures.points c.new-reached.ensures.cuts
    (subst (λ (block : List Stmt). Reaches old new (arrivals_of (flow block))) c.as_slice.ensures c.in_ok-code.ensures.reached)
    (code-behind_none new.points c.in_ok-code.code c.new-items.result c.as_slice.result.now c.args.body.now flow c.new-items.ensures c.as_slice.ensures
    c.in_ok-code.ensures.code)
    c.into_cuts.ensures refl c.in_ok-start.ensures
