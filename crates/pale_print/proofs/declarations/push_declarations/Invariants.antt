use Rattle.std.proofs.Common.{ℕ, List, drop}
use Rattle.pale_text.specs.declared.token.TokenKind.{TokenKind}
use Rattle.pale_print.specs.Tokens.{each}
use Rattle.pale_print.specs.DeclarationTokens.{declaration_tokens}
use Rattle.pale_print.specs.Writing.{Ends}
use Rattle.pale_print.proofs.declarations.push_declarations.Given as goal

-- what is written and the declarations that are left are all of them
abbrev pub invariant-loop-declaration : goal.invariant-loop-declaration
invariant-loop-declaration l =
    (after : List TokenKind) (whole : List ℕ) → Ends l.text (each declaration_tokens (drop l.declaration-index l.declarations) after) whole
    → Ends l.initial.text (each declaration_tokens l.declarations after) whole
