use Rattle.std.proofs.Common.{ℕ, List, drop}
use Rattle.pale_text.specs.declared.token.TokenKind.{TokenKind}
use Rattle.pale_print.specs.Tightness.{condition_tightness}
use Rattle.pale_print.specs.Writing.{Ends, condition_operands}
use Rattle.pale_print.proofs.conditions.+conditions.Given as goal

-- what is written and the operands that are left are all of them
abbrev pub invariant-push_operands-loop-operand : goal.invariant-push_operands-loop-operand
invariant-push_operands-loop-operand l =
    (after : List TokenKind) (whole : List ℕ) → Ends l.text
    (condition_operands l.mark (condition_tightness l.asked) (drop l.operand-index l.operands) after) whole
    → Ends l.initial.text (condition_operands l.mark (condition_tightness l.asked) l.operands after) whole
