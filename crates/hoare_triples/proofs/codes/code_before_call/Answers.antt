use Rattle.std.proofs.Common.{◌≡◌, List, IfOk, OnOk, sym, ap, ◌∙◌, subst}
use Rattle.store_exec.specs.declared.code.Item.{Item}
use Rattle.hoare_split.specs.Picking.{is_awaited}
use Rattle.hoare_split.specs.Settings.{settings}
use Rattle.hoare_split.specs.Cuts.{at_call}
use Rattle.hoare_split.specs.Flows.{Arrival, Flow, ends, after_items, code_in}
use Rattle.hoare_split.specs.Callers.{procs_of, vars_of}
use Rattle.hoare_triples.specs.Following.{Reaches}
use Rattle.hoare_split.proofs.FlowLemmas.{arrivals_of-after_items}
use Rattle.hoare_split.proofs.PlainLemmas.{after_items-append}
use Rattle.hoare_triples.proofs.codes.code_before_call.Goals as goal

pub returns-clause-code : goal.returns-clause-code
returns-clause-code c =
    let caller = c.args.caller.now in
    let end : Flow = ends (at_call (procs_of caller) (vars_of caller) c.args.place c.args.call.now) in
    let own = settings (vars_of caller) (is_awaited c.args.call.now) c.args.place.line in
    let same : after_items c.set_picked.new.items end ≡ after_items c.args.items (after_items own end) =
    ap (λ (items : List Item). after_items items end) c.in_ok-set_picked.ensures ∙ after_items-append c.args.items own end in
    subst (λ (f : Flow). IfOk c.code_to_call.result (λ code. code ≡ code_in c.code_to_call.new.reached.points f)) same c.code_to_call.ensures.code

pub returns-clause-reached : goal.returns-clause-reached
returns-clause-reached c =
    let caller = c.args.caller.now in
    let end : Flow = ends (at_call (procs_of caller) (vars_of caller) c.args.place c.args.call.now) in
    let own = settings (vars_of caller) (is_awaited c.args.call.now) c.args.place.line in
    subst (λ (arrivals : List Arrival). OnOk c.code_to_call.result (Reaches c.args.reached.now c.code_to_call.new.reached arrivals))
    (sym (arrivals_of-after_items own end)) c.code_to_call.ensures.reached
