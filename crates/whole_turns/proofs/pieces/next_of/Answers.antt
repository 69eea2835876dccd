use Rattle.std.proofs.Common.{IfOk, length, ◌+◌, ◌<◌, ◌++◌, ◌∷◌, [], ap, sym, ◌∙◌, subst}
use Rattle.pale_typed.specs.declared.typed.Stmt.{Stmt}
use Rattle.pale_typed.specs.declared.typed.Stmt.TheVariants as stmt
use Rattle.whole_turns.specs.declared.pieces.Piece.{Piece}
use Rattle.whole_turns.specs.Standings.{stmts_of, left_of, front, loop_of}
use Rattle.whole_turns.specs.Turning.{Skips, weight_of}
use Rattle.whole_turns.proofs.pieces.next_of.Goals as goal

pub returns-in-Block-clause-same : goal.returns-in-Block-clause-same
returns-in-Block-clause-same c =
    subst (λ (p : Piece). IfOk c.first_of.result (λ found. Skips (stmts_of p ++ left_of c.args.left.now) (front found (left_of c.first_of.new.left))))
    (sym c.in-Block.is) c.first_of.ensures.same

pub returns-in-Block-clause-less : goal.returns-in-Block-clause-less
returns-in-Block-clause-less c =
    subst (λ (p : Piece). IfOk c.first_of.result (λ found. weight_of c.first_of.new.left < weight_of c.args.left.now + (length (stmts_of p) + 1)))
    (sym c.in-Block.is) c.first_of.ensures.less

pub returns-in-Again-clause-same : goal.returns-in-Again-clause-same
returns-in-Again-clause-same c =
    let l = c.in-Again.again in (
      0,
      ap (λ (p : Piece). stmts_of p ++ left_of c.args.left.now) c.in-Again.is
          ∙ ap (λ (s : Stmt). s ∷ left_of c.args.left.now) (sym (stmt.rolls-While l.place l.test.now l.invariant.now l.body.now)),
    )

pub returns-in-Behind-clause-same : goal.returns-in-Behind-clause-same
returns-in-Behind-clause-same c =
    let l = c.in-Behind.behind in (
      0,
      ap (λ (p : Piece). stmts_of p ++ left_of c.args.left.now) c.in-Behind.is
          ∙ ap (λ (s : Stmt). s ∷ left_of c.args.left.now) (sym (stmt.rolls-If l.place.line l.test.now (l.body.now ++ loop_of l ∷ []) [])),
    )
