use Rattle.std.proofs.Common.{◌≡◌, ◌≤◌, List, Option, is_some, IfOk, OnOk, sym, ap, ◌∙◌, subst, arith}
use Rattle.std.proofs.lemmas.Bool.{false≢true}
use Rattle.store_exec.specs.declared.code.Code.{Code}
use Rattle.store_exec.specs.declared.code.Item.{Item}
use Rattle.hoare_triples.specs.declared.codes.Ending.{Ending}
use Rattle.hoare_split.specs.Flows.{Arrival, Flow, after_items, arrivals_of, code_in}
use Rattle.hoare_triples.specs.Weights.{weight_behind, ending_weight}
use Rattle.hoare_split.specs.Callers.{procs_of, vars_of}
use Rattle.hoare_triples.specs.Following.{Reaches, IsCutEnding, flow_of}
use Rattle.hoare_split.proofs.FlowLemmas.{arrivals_of-after_items}
use Rattle.hoare_triples.proofs.ReachLemmas.{Reaches-append, on_ok}
use Rattle.hoare_split.proofs.StatementLemmas.{cut-plain}
use Rattle.hoare_triples.proofs.CodeLemmas.{code-branch, flow-If, flow-While, flow-Split, flow-Call, flow-to, lighter-If}
use Rattle.hoare_triples.proofs.codes.+codes.Goals as goal

-- ---- branches

pub branch-returns-clause-code : goal.branch-returns-clause-code
branch-returns-clause-code t c =
    let caller = c.args.caller.now in
    subst (λ (x : Code). IfOk c.branch_code.result (λ code. code ≡ x))
    (code-branch c.args.reached.now c.code_of.new.reached c.code_of-2.new.reached c.args.items c.args.line c.args.condition.now
    (flow_of caller c.args.taken) (flow_of caller c.args.other) c.in_ok-taken.taken c.in_ok-other.other
    c.in_ok-taken.ensures.code c.in_ok-taken.ensures.reached c.in_ok-other.ensures.code c.in_ok-other.ensures.reached)
    c.branch_code.ensures

pub branch-returns-clause-reached : goal.branch-returns-clause-reached
branch-returns-clause-reached t c =
    let caller = c.args.caller.now in
    on_ok c.branch_code.result (Reaches-append c.args.reached.now c.code_of.new.reached c.code_of-2.new.reached
    (arrivals_of (flow_of caller c.args.taken)) (arrivals_of (flow_of caller c.args.other)) c.in_ok-taken.ensures.reached c.in_ok-other.ensures.reached)

-- ---- a statement that is a cut point or has one inside

pub code_at-branch-alloc-requires : goal.code_at-branch-alloc-requires
code_at-branch-alloc-requires t c =
    let falls = lighter-If c.args.stmt.now _ _ _ _ _ _ (weight_behind c.args.rest) c.in-If.is c.as_slice.ensures c.as_slice-in-If.ensures in
    omega (arith, falls)

pub code_at-unreachable-requires : goal.code_at-unreachable-requires
code_at-unreachable-requires t c =
    let caller = c.args.caller.now in
    false≢true (sym (ap (λ (items : Option (List Item)). is_some items) c.requires) ∙ cut-plain (procs_of caller) (vars_of caller) _ c.in-Skip.is)

pub code_at-returns-in-If-clause-code : goal.code_at-returns-in-If-clause-code
code_at-returns-in-If-clause-code t c =
    let caller = c.args.caller.now in
    subst (λ (f : Flow). IfOk c.branch-alloc.result (λ code. code ≡ code_in c.branch-alloc.new.reached.points (after_items c.args.items f)))
    (flow-If (procs_of caller) (vars_of caller) c.args.stmt.now _ _ _ _ _ _ c.in-If.is c.as_slice.ensures c.as_slice-in-If.ensures c.requires
    (flow_of caller c.args.rest)) c.branch-alloc.ensures.code

pub code_at-returns-in-If-clause-reached : goal.code_at-returns-in-If-clause-reached
code_at-returns-in-If-clause-reached t c =
    let caller = c.args.caller.now in
    subst (λ (f : Flow). OnOk c.branch-alloc.result (Reaches c.args.reached.now c.branch-alloc.new.reached (arrivals_of f)))
    (flow-If (procs_of caller) (vars_of caller) c.args.stmt.now _ _ _ _ _ _ c.in-If.is c.as_slice.ensures c.as_slice-in-If.ensures c.requires
    (flow_of caller c.args.rest)) c.branch-alloc.ensures.reached

pub code_at-returns-in-While-clause-code : goal.code_at-returns-in-While-clause-code
code_at-returns-in-While-clause-code t c =
    let caller = c.args.caller.now in
    subst (λ (f : Flow). IfOk c.code_to_assertion.result (λ code. code ≡ code_in c.code_to_assertion.new.reached.points (after_items c.args.items f)))
    (sym (flow-While (procs_of caller) (vars_of caller) c.args.stmt.now _ _ _ _ c.in-While.is (flow_of caller c.args.rest))) c.code_to_assertion.ensures.code

pub code_at-returns-in-While-clause-reached : goal.code_at-returns-in-While-clause-reached
code_at-returns-in-While-clause-reached t c =
    let caller = c.args.caller.now in
    subst (λ (f : Flow). OnOk c.code_to_assertion.result (Reaches c.args.reached.now c.code_to_assertion.new.reached (arrivals_of f)))
    (sym (flow-While (procs_of caller) (vars_of caller) c.args.stmt.now _ _ _ _ c.in-While.is (flow_of caller c.args.rest))) c.code_to_assertion.ensures.reached

pub code_at-returns-in-Split-clause-code : goal.code_at-returns-in-Split-clause-code
code_at-returns-in-Split-clause-code t c =
    let caller = c.args.caller.now in
    subst (λ (f : Flow). IfOk c.code_to_assertion-in-Split.result
    (λ code. code ≡ code_in c.code_to_assertion-in-Split.new.reached.points (after_items c.args.items f)))
    (sym (flow-Split (procs_of caller) (vars_of caller) c.args.stmt.now _ _ c.in-Split.is (flow_of caller c.args.rest)))
    c.code_to_assertion-in-Split.ensures.code

pub code_at-returns-in-Split-clause-reached : goal.code_at-returns-in-Split-clause-reached
code_at-returns-in-Split-clause-reached t c =
    let caller = c.args.caller.now in
    subst (λ (f : Flow). OnOk c.code_to_assertion-in-Split.result (Reaches c.args.reached.now c.code_to_assertion-in-Split.new.reached (arrivals_of f)))
    (sym (flow-Split (procs_of caller) (vars_of caller) c.args.stmt.now _ _ c.in-Split.is (flow_of caller c.args.rest)))
    c.code_to_assertion-in-Split.ensures.reached

pub code_at-returns-in-Call-clause-code : goal.code_at-returns-in-Call-clause-code
code_at-returns-in-Call-clause-code t c =
    let caller = c.args.caller.now in
    subst (λ (f : Flow). IfOk c.code_before_call.result (λ code. code ≡ code_in c.code_before_call.new.reached.points (after_items c.args.items f)))
    (sym (flow-Call (procs_of caller) (vars_of caller) c.args.stmt.now _ _ c.in-Call.is (flow_of caller c.args.rest))) c.code_before_call.ensures.code

pub code_at-returns-in-Call-clause-reached : goal.code_at-returns-in-Call-clause-reached
code_at-returns-in-Call-clause-reached t c =
    let caller = c.args.caller.now in
    subst (λ (f : Flow). OnOk c.code_before_call.result (Reaches c.args.reached.now c.code_before_call.new.reached (arrivals_of f)))
    (sym (flow-Call (procs_of caller) (vars_of caller) c.args.stmt.now _ _ c.in-Call.is (flow_of caller c.args.rest))) c.code_before_call.ensures.reached

-- ---- what follows a place

pub code_of-code_at-requires : goal.code_of-code_at-requires
code_of-code_at-requires t c =
    let lighter = subst (λ (e : Ending). ending_weight e ≤ weight_behind c.args.rest) c.in-At.is c.in_ok-push_items.ensures.lighter in
    (omega (arith, lighter), subst IsCutEnding c.in-At.is c.in_ok-push_items.ensures.cut c.args.caller.now)

pub code_of-returns-in-Exit-clause-code : goal.code_of-returns-in-Exit-clause-code
code_of-returns-in-Exit-clause-code t c =
    let same = flow-to c.args.caller.now c.new-items.result c.push_items.new.items c.args.rest _ _ c.new-items.ensures
    c.in_ok-push_items.ensures c.in-Exit.is in
    subst (λ (f : Flow). IfOk c.code_to_exit.result (λ code. code ≡ code_in c.code_to_exit.new.reached.points f)) same c.code_to_exit.ensures.code

pub code_of-returns-in-Exit-clause-reached : goal.code_of-returns-in-Exit-clause-reached
code_of-returns-in-Exit-clause-reached t c =
    let same = flow-to c.args.caller.now c.new-items.result c.push_items.new.items c.args.rest _ _ c.new-items.ensures
    c.in_ok-push_items.ensures c.in-Exit.is in
    subst (λ (arrivals : List Arrival). OnOk c.code_to_exit.result (Reaches c.args.reached.now c.code_to_exit.new.reached arrivals))
    (sym (arrivals_of-after_items c.push_items.new.items _) ∙ ap arrivals_of same) c.code_to_exit.ensures.reached

pub code_of-returns-in-Again-clause-reached : goal.code_of-returns-in-Again-clause-reached
code_of-returns-in-Again-clause-reached t c =
    let same = flow-to c.args.caller.now c.new-items.result c.push_items.new.items c.args.rest _ _ c.new-items.ensures
    c.in_ok-push_items.ensures c.in-Again.is in
    subst (λ (arrivals : List Arrival). OnOk c.code_to_assertion.result (Reaches c.args.reached.now c.code_to_assertion.new.reached arrivals))
    (sym (arrivals_of-after_items c.push_items.new.items _) ∙ ap arrivals_of same) c.code_to_assertion.ensures.reached

pub code_of-returns-in-At-clause-reached : goal.code_of-returns-in-At-clause-reached
code_of-returns-in-At-clause-reached t c =
    let same = flow-to c.args.caller.now c.new-items.result c.push_items.new.items c.args.rest _ _ c.new-items.ensures
    c.in_ok-push_items.ensures c.in-At.is in
    subst (λ (arrivals : List Arrival). OnOk c.code_at.result (Reaches c.args.reached.now c.code_at.new.reached arrivals))
    (sym (arrivals_of-after_items c.push_items.new.items _) ∙ ap arrivals_of same) c.code_at.ensures.reached
