use Rattle.std.proofs.Common.{ℕ, List, drop}
use Rattle.pale_text.specs.declared.token.Mark.TheVariants as mark
use Rattle.pale_text.specs.declared.token.TokenKind.{TokenKind}
use Rattle.pale_print.specs.Tokens.{each_behind, path_tokens}
use Rattle.pale_print.specs.Writing.{Ends}
use Rattle.pale_print.proofs.names.push_paths.Given as goal

-- what is written and the paths that are left are all but the first
abbrev pub invariant-loop-path : goal.invariant-loop-path
invariant-loop-path l =
    (after : List TokenKind) (whole : List ℕ) → Ends l.text (each_behind mark.Comma path_tokens (drop l.path-index l.others) after) whole
    → Ends l.initial.text (each_behind mark.Comma path_tokens l.others after) whole
