use Rattle.pale_print.proofs.StatementLemmas.{at-While, at-If_alone, at-If_else}
use Rattle.pale_print.proofs.Written.{so_ends}
use Rattle.pale_print.proofs.statements.+statements.Goals as goal

pub push_statement-returns-in_default : goal.push_statement-returns-in_default
push_statement-returns-in_default t c = λ after whole is.
    so_ends _ _ (λ i. at-If_alone _ _ _ _ _ _ c.in-If.is c.as_slice.ensures c.in_default.is i after) (c.push_test.ensures _ _ (c.push_block.ensures _ _ is))

pub push_statement-returns-in-Some : goal.push_statement-returns-in-Some
push_statement-returns-in-Some t c = λ after whole is.
    so_ends _ _ (λ i. at-If_else _ _ _ _ _ _ _ _ c.in-If.is c.as_slice.ensures c.in-Some.is c.as_slice-in-If.ensures i after)
    (c.push_test.ensures _ _ (c.push_block.ensures _ _ (c.push_word.ensures _ _ (c.push_block-in-If.ensures _ _ is))))

pub push_statement-returns-in-While : goal.push_statement-returns-in-While
push_statement-returns-in-While t c = λ after whole is.
    so_ends _ _ (λ i. at-While _ _ _ _ _ _ c.in-While.is c.as_slice-in-While.ensures i after)
    (c.push_test-in-While.ensures _ _ (c.push_bracketed.ensures _ _ (c.push_block-in-While.ensures _ _ is)))
