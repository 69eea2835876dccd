use Rattle.std.proofs.Common.{Option, ap, sym, ◌∙◌, ◌++◌, subst}
use Rattle.whole_turns.specs.declared.pieces.Next.{Next}
use Rattle.whole_turns.specs.Standings.{stmts_of, left_of, front}
use Rattle.whole_turns.specs.Turning.{Skips}
use Rattle.whole_turns.proofs.PieceLemmas.{no_skip, more_skips, same_skips, taken_off, taken_less}
use Rattle.whole_turns.proofs.pieces.next_statement.Goals as goal

pub loop-piece-init : goal.loop-piece-init
loop-piece-init c = no_skip (left_of c.args.left.now)

-- nothing was found in the piece: what is left has no more than skips before it
pub loop-piece-preserved : goal.loop-piece-preserved
loop-piece-preserved c =
    let start = c.args.left.now in
    let piece = c.in-Some.piece in
    let after = c.next_of.new.left in
    more_skips (left_of start) (stmts_of piece ++ left_of c.pop.new.self) (left_of after)
    (taken_off start c.loop-piece.left piece c.pop.new.self c.in-Some.ensures c.loop-piece.invariant)
    (subst (λ (o : Option Next). Skips (stmts_of piece ++ left_of c.pop.new.self) (front o (left_of after))) c.in_default-2.is c.in_ok-next.ensures.same)

pub loop-piece-smaller : goal.loop-piece-smaller
loop-piece-smaller c = taken_less c.loop-piece.left c.in-Some.piece c.pop.new.self c.next_of.new.left c.in-Some.ensures c.in_ok-next.ensures.less

-- something was found in it
pub returns-in-Some-2-clause-same : goal.returns-in-Some-2-clause-same
returns-in-Some-2-clause-same c =
    let start = c.args.left.now in
    let piece = c.in-Some.piece in
    let after = c.next_of.new.left in
    subst (λ (o : Option Next). Skips (left_of start) (front o (left_of after))) c.in-Some-2.is
    (more_skips (left_of start) (stmts_of piece ++ left_of c.pop.new.self) (front c.in_ok-next.field-0 (left_of after))
    (taken_off start c.loop-piece.left piece c.pop.new.self c.in-Some.ensures c.loop-piece.invariant)
    c.in_ok-next.ensures.same)

-- no piece is left
pub returns-clause-same : goal.returns-clause-same
returns-clause-same c = more_skips (left_of c.args.left.now) (left_of c.loop-piece.left) (left_of c.pop.new.self) c.loop-piece.invariant
    (same_skips (left_of c.loop-piece.left) (left_of c.pop.new.self) (ap left_of (c.in_default.ensures.0) ∙ ap left_of (sym c.in_default.ensures.1)))

pub returns-clause-all : goal.returns-clause-all
returns-clause-all c = λ none. ap left_of c.in_default.ensures.1
