use Rattle.std.proofs.Common.{ap}
use Rattle.store_exec.specs.declared.triple.Start.{Start}
use Rattle.hoare_split.specs.Passages.{Started}
use Rattle.hoare_split.specs.Cuts.{at_assertion}
use Rattle.hoare_split.specs.Flows.{ends}
use Rattle.hoare_split.specs.Starts.{plain_start, call_start}
use Rattle.hoare_split.specs.Callers.{procs_of, vars_of, block_in}
use Rattle.hoare_triples.specs.Following.{flow_of}
use Rattle.hoare_split.specs.Triples.{triple_of}
use Rattle.hoare_triples.proofs.PointLemmas.{starts-plain, starts-If, starts-While, starts-Split, starts-Call, loop_start}
use Rattle.hoare_triples.proofs.PointLemmas.{added-more, added-one, added-none, added-first, on_ok_then, split-whole, split-next}
use Rattle.hoare_triples.proofs.points.+points.Goals as goal

pub split_stmt-returns-in-Skip : goal.split_stmt-returns-in-Skip
split_stmt-returns-in-Skip t c =
    let caller = c.args.caller.now in
    added-none (triple_of caller.number) c.args.triples.now _
    (starts-plain (procs_of caller) (vars_of caller) (flow_of caller c.args.rest) c.args.stmt.now c.in-Skip.is)

pub split_stmt-returns-in-Skip-2 : goal.split_stmt-returns-in-Skip-2
split_stmt-returns-in-Skip-2 t c =
    let caller = c.args.caller.now in
    added-none (triple_of caller.number) c.args.triples.now _
    (starts-plain (procs_of caller) (vars_of caller) (flow_of caller c.args.rest) c.args.stmt.now c.in-Skip.is)

pub split_stmt-returns-in_ok-split_block-in-If : goal.split_stmt-returns-in_ok-split_block-in-If
split_stmt-returns-in_ok-split_block-in-If t c =
    let caller = c.args.caller.now in
    let rest = flow_of caller c.args.rest in
    let yes = c.as_slice.result.now in
    let no = c.as_slice-in-If.result.now in
    on_ok_then c.split_block-in-If.result
    (λ more. added-more (triple_of caller.number) c.args.triples.now c.split_block.new.triples c.split_block-in-If.new.triples
    ((block_in caller yes).starts rest) ((block_in caller no).starts rest) _ c.in_ok-split_block-in-If.ensures more
    (starts-If (procs_of caller) (vars_of caller) rest c.args.stmt.now c.in-If.field-0 c.in-If.field-1 c.in-If.yes c.in-If.no yes no c.in-If.is
    c.as_slice.ensures c.as_slice-in-If.ensures))
    c.split_block-in-If.ensures

pub split_stmt-returns-in_ok-push-in-While : goal.split_stmt-returns-in_ok-push-in-While
split_stmt-returns-in_ok-push-in-While t c =
    let caller = c.args.caller.now in
    let rest = flow_of caller c.args.rest in
    let place = c.in-While.place in
    let inner = c.as_slice-in-While.result.now in
    on_ok_then c.split_block-in-While.result
    (λ more. added-first (triple_of caller.number) c.args.triples.now c.push.new.self c.split_block-in-While.new.triples c.in_ok-own-in-While.own
    (loop_start (procs_of caller) (vars_of caller) rest place c.in-While.condition c.in-While.invariant c.in-While.body)
    ((block_in caller inner).starts (ends (at_assertion place c.in-While.invariant))) _
    c.in_ok-push-in-While.ensures.ok c.in_ok-own-in-While.ensures more
    (starts-While (procs_of caller) (vars_of caller) rest c.args.stmt.now place c.in-While.condition c.in-While.invariant c.in-While.body inner c.in-While.is
    c.as_slice-in-While.ensures))
    c.split_block-in-While.ensures

pub split_stmt-returns-in_ok-start-in-Split : goal.split_stmt-returns-in_ok-start-in-Split
split_stmt-returns-in_ok-start-in-Split t c =
    let caller = c.args.caller.now in
    let rest = flow_of caller c.args.rest in
    let place = c.in-Split.place in
    let own : Start → Started = λ start. record { place = place; start = start; flow = rest } in
    on_ok_then c.push_triple.result
    (λ added. added-one (triple_of caller.number) c.args.triples.now c.push_triple.new.triples
    (triple_of caller.number (own c.in_ok-start-in-Split.start)) (own (plain_start c.in-Split.assertion)) _ added
    (ap (λ start. triple_of caller.number (own start)) c.in_ok-start-in-Split.ensures)
    (starts-Split (procs_of caller) (vars_of caller) rest c.args.stmt.now place c.in-Split.assertion c.in-Split.is))
    c.push_triple.ensures

pub split_stmt-returns-in_ok-start-in-Call : goal.split_stmt-returns-in_ok-start-in-Call
split_stmt-returns-in_ok-start-in-Call t c =
    let caller = c.args.caller.now in
    let rest = flow_of caller c.args.rest in
    let place = c.in-Call.place in
    let own : Start → Started = λ start. record { place = place; start = start; flow = rest } in
    on_ok_then c.push_triple-in-Call.result
    (λ added. added-one (triple_of caller.number) c.args.triples.now c.push_triple-in-Call.new.triples
    (triple_of caller.number (own c.in_ok-start-in-Call.start)) (own (call_start (procs_of caller) (vars_of caller) c.in-Call.call)) _ added
    (ap (λ start. triple_of caller.number (own start)) c.in_ok-start-in-Call.ensures)
    (starts-Call (procs_of caller) (vars_of caller) rest c.args.stmt.now place c.in-Call.call c.in-Call.is))
    c.push_triple-in-Call.ensures

pub split_block-loop-stmt-init : goal.split_block-loop-stmt-init
split_block-loop-stmt-init t c =
    let caller = c.args.caller.now in
    split-whole (procs_of caller) (vars_of caller) (triple_of caller.number) (flow_of caller c.args.rest.now) c.args.block.now c.args.triples.now

pub split_block-loop-stmt-preserved : goal.split_block-loop-stmt-preserved
split_block-loop-stmt-preserved t c =
    let caller = c.args.caller.now in
    split-next (procs_of caller) (vars_of caller) (triple_of caller.number) (flow_of caller c.args.rest.now) c.args.block.now c.loop-stmt.left.now
    c.in-Some.more.now c.in-Some.stmt.now c.args.triples.now c.loop-stmt.triples _ c.in-Some.ensures.cases.0 c.loop-stmt.invariant
    c.in_ok-split_stmt.ensures
