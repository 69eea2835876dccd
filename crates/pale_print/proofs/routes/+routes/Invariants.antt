use Rattle.std.proofs.Common.{ℕ, List, drop}
use Rattle.pale_text.specs.declared.token.TokenKind.{TokenKind}
use Rattle.pale_print.specs.Tightness.{route_tightness}
use Rattle.pale_print.specs.Writing.{Ends, route_operands}
use Rattle.pale_print.proofs.routes.+routes.Given as goal

-- what is written and the operands that are left are all of them
abbrev pub invariant-push_operands-loop-operand : goal.invariant-push_operands-loop-operand
invariant-push_operands-loop-operand l =
    (after : List TokenKind) (whole : List ℕ) → Ends l.text (route_operands l.mark (route_tightness l.asked) (drop l.operand-index l.operands) after) whole
    → Ends l.initial.text (route_operands l.mark (route_tightness l.asked) l.operands after) whole
