use Rattle.std.proofs.Common.{ℕ, List, drop}
use Rattle.pale_text.specs.declared.token.TokenKind.{TokenKind}
use Rattle.pale_print.specs.Tokens.{each}
use Rattle.pale_print.specs.DeclarationTokens.{field_tokens}
use Rattle.pale_print.specs.Writing.{Ends}
use Rattle.pale_print.proofs.declarations.push_field_list.Given as goal

-- what is written and the fields that are left are all of them
abbrev pub invariant-loop-field : goal.invariant-loop-field
invariant-loop-field l =
    (after : List TokenKind) (whole : List ℕ) → Ends l.text (each field_tokens (drop l.field-index l.fields) after) whole
    → Ends l.initial.text (each field_tokens l.fields after) whole
