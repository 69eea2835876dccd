use Rattle.std.proofs.Common.{ℕ, List, drop}
use Rattle.pale_text.specs.declared.token.Mark.TheVariants as mark
use Rattle.pale_text.specs.declared.token.TokenKind.{TokenKind}
use Rattle.pale_print.specs.Tokens.{each_behind}
use Rattle.pale_print.specs.StatementTokens.{argument_tokens}
use Rattle.pale_print.specs.Writing.{Ends}
use Rattle.pale_print.proofs.calls.push_arguments.Given as goal

-- what is written and the arguments that are left are all but the first
abbrev pub invariant-loop-argument : goal.invariant-loop-argument
invariant-loop-argument l =
    (after : List TokenKind) (whole : List ℕ) → Ends l.text (each_behind mark.Comma argument_tokens (drop l.argument-index l.others) after) whole
    → Ends l.initial.text (each_behind mark.Comma argument_tokens l.others after) whole
