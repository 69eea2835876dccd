use Rattle.std.proofs.Common.{◌≡◌, List, IfOk, OnOk, sym, ap, ◌∙◌, subst}
use Rattle.store_exec.specs.declared.code.Item.{Item}
use Rattle.hoare_split.specs.Picking.{is_left}
use Rattle.hoare_split.specs.Settings.{settings}
use Rattle.hoare_split.specs.Cuts.{at_exit}
use Rattle.hoare_split.specs.Flows.{Arrival, Flow, ends, after_items, code_in}
use Rattle.hoare_split.specs.Callers.{vars_of}
use Rattle.hoare_triples.specs.Following.{Reaches}
use Rattle.hoare_split.proofs.FlowLemmas.{arrivals_of-after_items}
use Rattle.hoare_split.proofs.PlainLemmas.{after_items-append}
use Rattle.hoare_triples.proofs.codes.code_to_exit.Goals as goal

pub returns-clause-code : goal.returns-clause-code
returns-clause-code c =
    let proc = c.args.caller.now.proc.now in
    let end : Flow = ends (at_exit proc.last proc.post) in
    let own = settings (vars_of c.args.caller.now) (is_left proc) proc.last in
    let same : after_items c.set_picked.new.items end ≡ after_items c.args.items (after_items own end) =
    ap (λ (items : List Item). after_items items end) c.in_ok-set_picked.ensures ∙ after_items-append c.args.items own end in
    subst (λ (f : Flow). IfOk c.code_to.result (λ code. code ≡ code_in c.code_to.new.reached.points f)) same c.code_to.ensures.code

pub returns-clause-reached : goal.returns-clause-reached
returns-clause-reached c =
    let proc = c.args.caller.now.proc.now in
    let end : Flow = ends (at_exit proc.last proc.post) in
    let own = settings (vars_of c.args.caller.now) (is_left proc) proc.last in
    subst (λ (arrivals : List Arrival). OnOk c.code_to.result (Reaches c.args.reached.now c.code_to.new.reached arrivals))
    (sym (arrivals_of-after_items own end)) c.code_to.ensures.reached
