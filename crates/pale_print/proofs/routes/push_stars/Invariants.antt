use Rattle.std.proofs.Common.{ℕ, List, drop}
use Rattle.pale_text.specs.declared.token.TokenKind.{TokenKind}
use Rattle.pale_print.specs.RouteTokens.{stars}
use Rattle.pale_print.specs.Writing.{Ends}
use Rattle.pale_print.proofs.routes.push_stars.Given as goal

-- what is written and the stars that are left are all of them
abbrev pub invariant-loop-star : goal.invariant-loop-star
invariant-loop-star l =
    (after : List TokenKind) (whole : List ℕ) → Ends l.text (stars (drop l._star-index l.places) after) whole
    → Ends l.initial.text (stars l.places after) whole
