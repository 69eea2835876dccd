use Rattle.std.proofs.Common.{ℕ, List, drop}
use Rattle.pale_text.specs.declared.token.TokenKind.{TokenKind}
use Rattle.pale_print.specs.Tokens.{each}
use Rattle.pale_print.specs.DeclarationTokens.{local_tokens}
use Rattle.pale_print.specs.Writing.{Ends}
use Rattle.pale_print.proofs.declarations.push_locals.Given as goal

-- what is written and the variables that are left are all of them
abbrev pub invariant-loop-local : goal.invariant-loop-local
invariant-loop-local l =
    (after : List TokenKind) (whole : List ℕ) → Ends l.text (each local_tokens (drop l.local-index l.locals) after) whole
    → Ends l.initial.text (each local_tokens l.locals after) whole
