use Rattle.std.proofs.Common.{ℕ, List, drop}
use Rattle.pale_text.specs.declared.token.TokenKind.{TokenKind}
use Rattle.pale_print.specs.Writing.{Ends, statements_tokens}
use Rattle.pale_print.proofs.statements.+statements.Given as goal

-- what is written and the statements that are left are all of them
abbrev pub invariant-push_statements-loop-statement : goal.invariant-push_statements-loop-statement
invariant-push_statements-loop-statement l =
    (after : List TokenKind) (whole : List ℕ) → Ends l.text (statements_tokens (drop l.statement-index l.statements) after) whole
    → Ends l.initial.text (statements_tokens l.statements after) whole
