use Rattle.std.proofs.Common.{ℕ, List, drop}
use Rattle.pale_text.specs.declared.token.Mark.TheVariants as mark
use Rattle.pale_text.specs.declared.token.TokenKind.{TokenKind}
use Rattle.pale_print.specs.Tokens.{each_behind}
use Rattle.pale_print.specs.DeclarationTokens.{variant_tokens}
use Rattle.pale_print.specs.Writing.{Ends}
use Rattle.pale_print.proofs.declarations.push_variants.Given as goal

-- what is written and the variants that are left are all of them
abbrev pub invariant-loop-variant : goal.invariant-loop-variant
invariant-loop-variant l =
    (after : List TokenKind) (whole : List ℕ) → Ends l.text (each_behind mark.Bar variant_tokens (drop l.variant-index l.variants) after) whole
    → Ends l.initial.text (each_behind mark.Bar variant_tokens l.variants after) whole
