use Rattle.std.proofs.Common.{ℕ, List, drop}
use Rattle.pale_text.specs.declared.token.TokenKind.{TokenKind}
use Rattle.pale_print.specs.Tokens.{each_behind, name_tokens}
use Rattle.pale_print.specs.Writing.{Ends}
use Rattle.pale_print.proofs.names.push_names_behind.Given as goal

-- what is written and the names that are left are all of them
abbrev pub invariant-loop-name : goal.invariant-loop-name
invariant-loop-name l =
    (after : List TokenKind) (whole : List ℕ) → Ends l.text (each_behind l.mark name_tokens (drop l.name-index l.names) after) whole
    → Ends l.initial.text (each_behind l.mark name_tokens l.names after) whole
