use Rattle.std.proofs.Common.{◌≡◌, length, None, Ok, Err, IfOk, IfErr, ap, ◌∙◌, sym, subst, arith}
use Rattle.std.proofs.lemmas.List.{length-map}
use Rattle.store_text.specs.declared.fault.StoreFault.{StoreFault}
use Rattle.store_text.specs.Lines.{lines_of}
use Rattle.store_text.specs.Saying.{Said}
use Rattle.store_text.specs.Reading.{IsFaultOf, read_lines}
use Rattle.store_text.proofs.ReadingLemmas.{reading-nothing, reading-other, reading-store, read_lines-over, read_lines-end, read_lines-said, lines_of-over}
use Rattle.store_text.proofs.read.read_store.Goals as goal

pub returns-then-is_empty-clause-fault : goal.returns-then-is_empty-clause-fault
returns-then-is_empty-clause-fault c = λ n.
    reading-nothing c.args.types.now c.args.vars.now c.args.text.now (sym c.if-is_empty.ensures) ∙ ap Err (sym c.fault_at.ensures)

pub returns-then-not-is_start-clause-fault : goal.returns-then-not-is_start-clause-fault
returns-then-not-is_start-clause-fault c = λ n.
    reading-other c.args.types.now c.args.vars.now c.args.text.now c.split_line.result.0.now
    (lines_of c.split_line.result.1.now) c.split_line.ensures.lines (sym c.if-not-is_start.ensures)
    ∙ ap Err (sym c.fault_at-then-not-is_start.ensures)

pub loop-left-init : goal.loop-left-init
loop-left-init c =
    let rest = c.split_line.result.1.now in (
      ap (λ s. read_lines c.args.types.now c.args.vars.now 2 s (lines_of rest)) c.in-Ok.ensures
          ∙ sym (reading-store c.args.types.now c.args.vars.now c.args.text.now c.split_line.result.0.now
          (lines_of rest) c.split_line.ensures.lines (sym c.if-not-is_start.ensures)),
      omega (arith, c.split_line.ensures.less),
      ap (λ (s : Said). length s.vars) c.in-Ok.ensures ∙ length-map c.args.vars.now (λ v. None),
    )

pub returns-then-is_end-clause-store : goal.returns-then-is_end-clause-store
returns-then-is_end-clause-store c =
    let lines = lines_of c.loop-left.left.now in
    let rest = lines_of c.split_line-in-loop-left.result.1.now in
    let step = read_lines-end c.args.types.now c.args.vars.now c.loop-left.line c.loop-left.draft lines
    c.split_line-in-loop-left.result.0.now rest c.split_line-in-loop-left.ensures.lines (sym c.if-is_end.ensures) in
    subst (λ r. IfOk c.read_end.result (λ store. r ≡ Ok store)) (sym step ∙ c.loop-left.invariant.0) c.read_end.ensures.store

pub returns-then-is_end-clause-fault : goal.returns-then-is_end-clause-fault
returns-then-is_end-clause-fault c =
    let lines = lines_of c.loop-left.left.now in
    let rest = lines_of c.split_line-in-loop-left.result.1.now in
    let step = read_lines-end c.args.types.now c.args.vars.now c.loop-left.line c.loop-left.draft lines
    c.split_line-in-loop-left.result.0.now rest c.split_line-in-loop-left.ensures.lines (sym c.if-is_end.ensures) in
    subst (λ r. IfErr c.read_end.result (IsFaultOf r)) (sym step ∙ c.loop-left.invariant.0) c.read_end.ensures.fault

pub returns-in-Err-say_line-clause-fault : goal.returns-in-Err-say_line-clause-fault
returns-in-Err-say_line-clause-fault c = λ n.
    let kind = c.in-Err-say_line.kind in
    sym c.loop-left.invariant.0
    ∙ read_lines-said c.args.types.now c.args.vars.now c.loop-left.line c.loop-left.draft
    (lines_of c.loop-left.left.now) c.split_line-in-loop-left.result.0.now (lines_of c.split_line-in-loop-left.result.1.now)
    c.split_line-in-loop-left.ensures.lines (Err kind) (sym c.if-is_end.ensures)
    (c.in-Err-say_line.ensures.stop (λ e. n (ap (λ (f : StoreFault). f.kind) c.fault_at-in-Err-say_line.ensures ∙ e)))
    ∙ ap Err (sym c.fault_at-in-Err-say_line.ensures)

pub loop-left-preserved : goal.loop-left-preserved
loop-left-preserved c =
    let step = read_lines-said c.args.types.now c.args.vars.now c.loop-left.line c.loop-left.draft
    (lines_of c.loop-left.left.now) c.split_line-in-loop-left.result.0.now (lines_of c.split_line-in-loop-left.result.1.now)
    c.split_line-in-loop-left.ensures.lines (Ok c.say_line.new.self) (sym c.if-is_end.ensures) c.in_default.ensures.said in (
      sym step ∙ c.loop-left.invariant.0,
      omega (arith, c.split_line-in-loop-left.ensures.less, c.loop-left.invariant.1),
      c.in_default.ensures.len ∙ c.loop-left.invariant.2,
    )

pub returns-clause-fault : goal.returns-clause-fault
returns-clause-fault c = λ n.
    sym c.loop-left.invariant.0
    ∙ read_lines-over c.args.types.now c.args.vars.now c.loop-left.line c.loop-left.draft (lines_of c.loop-left.left.now)
    (lines_of-over c.loop-left.left.now (sym c.loop-left-test.ensures))
    ∙ ap Err (sym c.fault_at-2.ensures)
