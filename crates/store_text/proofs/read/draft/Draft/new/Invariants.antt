use Rattle.std.proofs.Common.{◌≡◌, take, map, None}
use Rattle.store_text.proofs.read.draft.Draft.new.Given as goal

abbrev pub invariant-loop-place : goal.invariant-loop-place
invariant-loop-place l = l.values ≡ map (λ v. None) (take l._place l.vars)
