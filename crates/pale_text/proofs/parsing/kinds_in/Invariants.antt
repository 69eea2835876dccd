use Rattle.std.proofs.Common.{◌≡◌, take}
use Rattle.pale_text.specs.Kinds.{kinds_by}
use Rattle.pale_text.proofs.parsing.kinds_in.Given as goal

-- the kinds of the tokens so far
abbrev pub invariant-loop-token : goal.invariant-loop-token
invariant-loop-token g l = l.kinds ≡ kinds_by g.L.Language.kind_of (take l.token-index l.tokens)
