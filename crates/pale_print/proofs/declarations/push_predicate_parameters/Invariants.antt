use Rattle.std.proofs.Common.{ℕ, List, drop}
use Rattle.pale_text.specs.declared.token.Mark.TheVariants as mark
use Rattle.pale_text.specs.declared.token.TokenKind.{TokenKind}
use Rattle.pale_print.specs.Tokens.{each_behind}
use Rattle.pale_print.specs.DeclarationTokens.{predicate_parameter_tokens}
use Rattle.pale_print.specs.Writing.{Ends}
use Rattle.pale_print.proofs.declarations.push_predicate_parameters.Given as goal

-- what is written and the parameters that are left are all but the first
abbrev pub invariant-loop-parameter : goal.invariant-loop-parameter
invariant-loop-parameter l =
    (after : List TokenKind) (whole : List ℕ) → Ends l.text (each_behind mark.Comma predicate_parameter_tokens (drop l.parameter-index l.others) after) whole
    → Ends l.initial.text (each_behind mark.Comma predicate_parameter_tokens l.others after) whole
