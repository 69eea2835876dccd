use Rattle.std.proofs.Common.{◌≡◌, ◌+◌, List, [], Result, Ok, Err, OnOk, drop, sym, subst, arith}
use Rattle.std.proofs.lemmas.List.{drop_all}
use Rattle.store_core.specs.Tables.{VarEntry}
use Rattle.store_exec.specs.declared.code.Item.{Item}
use Rattle.pale_typed.specs.declared.typed.Stmt.{Stmt}
use Rattle.pale_typed.specs.declared.typed.ProcEntry.{ProcEntry}
use Rattle.hoare_split.specs.Passages.{Passage}
use Rattle.hoare_split.specs.Statements.{passage_of, block_of}
use Rattle.hoare_split.proofs.StatementLemmas.{block-next}
use Rattle.hoare_split.proofs.PlainLemmas.{WithMore, WithMore-all, WithMore-next, WithMore-none, adds-Do, adds-If, adds-none}
use Rattle.hoare_split.proofs.plain.+items.Goals as goal

-- another fact of what comes out
on_ok_then : {A E P Q : Type 0} (r : Result A E) → (P → Q) → OnOk r P → OnOk r Q
on_ok_then (Ok x) f h = f h
on_ok_then (Err e) f h = tt

pub push_item-returns-in_ok-copy-in-Do : goal.push_item-returns-in_ok-copy-in-Do
push_item-returns-in_ok-copy-in-Do t c = on_ok_then c.push.result
    (λ added. λ (procs : List ProcEntry) (vars : List VarEntry). adds-Do procs vars c.args.stmt.now c.in-Do.line c.in-Do.act c.in_ok-copy-in-Do.field-0 _ _
    c.in-Do.is c.in_ok-copy-in-Do.ensures added) c.push.ensures.ok

pub push_item-returns-in_ok-no-in-If : goal.push_item-returns-in_ok-no-in-If
push_item-returns-in_ok-no-in-If t c = on_ok_then c.push-in-If.result
    (λ added. λ (procs : List ProcEntry) (vars : List VarEntry). adds-If procs vars c.args.stmt.now c.in-If.line _ _ _ _ _ _ _ _ _ _
    c.in-If.is c.in_ok-condition-in-If.ensures c.as_slice.ensures c.as_slice-in-If.ensures added
    (c.in_ok-yes-in-If.ensures procs vars) (c.in_ok-no-in-If.ensures procs vars)) c.push-in-If.ensures.ok

pub push_item-returns-in-Skip : goal.push_item-returns-in-Skip
push_item-returns-in-Skip t c = λ procs vars. adds-none procs vars c.args.stmt.now c.args.items.now c.in-Skip.is

pub push_item-returns-in-Skip-2 : goal.push_item-returns-in-Skip-2
push_item-returns-in-Skip-2 t c = λ procs vars. adds-none procs vars c.args.stmt.now c.args.items.now c.in-Skip.is

pub push_item-returns-in-Skip-3 : goal.push_item-returns-in-Skip-3
push_item-returns-in-Skip-3 t c = λ procs vars. adds-none procs vars c.args.stmt.now c.args.items.now c.in-Skip.is

pub push_item-returns-in-Skip-4 : goal.push_item-returns-in-Skip-4
push_item-returns-in-Skip-4 t c = λ procs vars. adds-none procs vars c.args.stmt.now c.args.items.now c.in-Skip.is

pub items_of-loop-stmt-init : goal.items_of-loop-stmt-init
items_of-loop-stmt-init t c = λ procs vars.
    let whole = (block_of procs vars c.args.block.now).items in
    subst (λ (items : List Item). WithMore items whole whole) (sym c.new-items.ensures) (WithMore-all whole)

pub items_of-loop-stmt-preserved : goal.items_of-loop-stmt-preserved
items_of-loop-stmt-preserved t c = λ procs vars.
    let block = c.args.block.now in
    let i = c.loop-stmt.stmt-index in
    let next = block-next procs vars block i c.stmt-item.result c.loop-stmt-test.true c.stmt-item.is in
    WithMore-next c.loop-stmt.items c.push_item.new.items (passage_of procs vars c.stmt-item.result) (block_of procs vars (drop (i + 1) block))
    (block_of procs vars block).items
    (subst (λ (p : Passage). WithMore c.loop-stmt.items p.items (block_of procs vars block).items) next (c.loop-stmt.invariant procs vars))
    (c.in_ok-push_item.ensures procs vars)

pub items_of-returns : goal.items_of-returns
items_of-returns t c = λ procs vars.
    let block = c.args.block.now in
    let none : drop c.loop-stmt.stmt-index block ≡ [] = drop_all c.loop-stmt.stmt-index block (omega arith) in
    WithMore-none c.loop-stmt.items (block_of procs vars block).items
    (subst (λ (rest : List Stmt). WithMore c.loop-stmt.items (block_of procs vars rest).items (block_of procs vars block).items) none
    (c.loop-stmt.invariant procs vars))
