use Rattle.std.proofs.Common.{not, is_some, sym, ap, ◌∙◌}
use Rattle.hoare_split.specs.Statements.{block_of}
use Rattle.hoare_split.proofs.StatementLemmas.{cut-first, cut-other, cut-plain, cut-at, cut-here, cut-later}
use Rattle.hoare_split.proofs.plain.+cuts.Goals as goal

pub is_cut-returns-then-has_cut : goal.is_cut-returns-then-has_cut
is_cut-returns-then-has_cut t c = λ procs vars. cut-first procs vars _ _ _ _ _ c.in-If.is _ c.if-has_cut.true
    (c.has_cut.ensures procs vars ∙ ap (λ b. not (is_some (block_of procs vars b).items)) c.as_slice.ensures)

pub is_cut-returns-else-has_cut : goal.is_cut-returns-else-has_cut
is_cut-returns-else-has_cut t c = λ procs vars. cut-other procs vars _ _ _ _ _ c.in-If.is _ _ c.if-has_cut.false
    (c.has_cut.ensures procs vars ∙ ap (λ b. not (is_some (block_of procs vars b).items)) c.as_slice.ensures)
    (c.has_cut-else-has_cut.ensures procs vars ∙ ap (λ b. not (is_some (block_of procs vars b).items)) c.as_slice-else-has_cut.ensures)

pub is_cut-returns-in-While : goal.is_cut-returns-in-While
is_cut-returns-in-While t c = λ procs vars. sym (ap not (cut-at procs vars _ c.in-While.is))

pub is_cut-returns-in-While-2 : goal.is_cut-returns-in-While-2
is_cut-returns-in-While-2 t c = λ procs vars. sym (ap not (cut-at procs vars _ c.in-While.is))

pub is_cut-returns-in-While-3 : goal.is_cut-returns-in-While-3
is_cut-returns-in-While-3 t c = λ procs vars. sym (ap not (cut-at procs vars _ c.in-While.is))

pub is_cut-returns-in-Skip : goal.is_cut-returns-in-Skip
is_cut-returns-in-Skip t c = λ procs vars. sym (ap not (cut-plain procs vars _ c.in-Skip.is))

pub is_cut-returns-in-Skip-2 : goal.is_cut-returns-in-Skip-2
is_cut-returns-in-Skip-2 t c = λ procs vars. sym (ap not (cut-plain procs vars _ c.in-Skip.is))

pub has_cut-returns-then-is_cut : goal.has_cut-returns-then-is_cut
has_cut-returns-then-is_cut t c = λ procs vars. cut-here procs vars c.args.block.now c.loop-stmt.stmt-index c.stmt-item.result c.loop-stmt-test.true
    c.stmt-item.is _ c.if-is_cut.true (c.is_cut.ensures procs vars) (c.loop-stmt.invariant procs vars)

pub has_cut-loop-stmt-preserved : goal.has_cut-loop-stmt-preserved
has_cut-loop-stmt-preserved t c = λ procs vars. cut-later procs vars c.args.block.now c.loop-stmt.stmt-index c.stmt-item.result c.loop-stmt-test.true
    c.stmt-item.is _ c.if-is_cut.false (c.is_cut.ensures procs vars) (c.loop-stmt.invariant procs vars)
