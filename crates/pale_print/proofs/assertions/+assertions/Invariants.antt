use Rattle.std.proofs.Common.{◌≡◌, ℕ, ◌+◌, List, length, drop}
use Rattle.pale_text.specs.declared.token.TokenKind.{TokenKind}
use Rattle.pale_print.specs.Tightness.{assertion_tightness}
use Rattle.pale_print.specs.Writing.{Ends, assertion_operands}
use Rattle.pale_print.proofs.assertions.+assertions.Given as goal

-- so many operands are left, and what is written and these are all of them
abbrev pub invariant-push_operands-loop-operand : goal.invariant-push_operands-loop-operand
invariant-push_operands-loop-operand l = record {
  left : l.left + l.operand-index ≡ length l.operands;
  written : (after : List TokenKind) (whole : List ℕ) →
      Ends l.text (assertion_operands l.mark (assertion_tightness l.asked) (drop l.operand-index l.operands) l.followed after) whole
      → Ends l.initial.text (assertion_operands l.mark (assertion_tightness l.asked) l.operands l.followed after) whole;
}
