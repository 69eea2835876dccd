use Rattle.std.proofs.Common.{◌∙◌, subst}
use Rattle.pale_text.specs.Fronts.{StandsFirst}
use Rattle.pale_text.proofs.LexLemmas.{IsReading-start, gap_read, comment_read, token_read, arrives}
use Rattle.pale_text.proofs.lexer.lex.Goals.{in-Gap, in-Comment, in-Token+in_ok-push-in-Token}
use Rattle.pale_text.proofs.lexer.lex.Goals as goal

pub loop-left-init : goal.loop-left-init
loop-left-init c = rw (c.new-tokens.ensures, c.first_place-place.ensures) (IsReading-start c.args.text.now)

pub loop-left-preserved : goal.loop-left-preserved
loop-left-preserved c =
    elim c.match-branch-2.branch [
      | in-Gap w ↦
          arrives c.loop-left.place c.loop-left.left.now (gap_read _ _ _ c.loop-left.left.now c.loop-left.invariant
          (subst (StandsFirst c.loop-left.left.now) w.in-Gap.is c.in_ok-read_front.ensures))
          w.count-is w.tokens-is c.split_at.ensures.front c.split_at.ensures.back c.place_past-place.ensures
      | in-Comment w ↦
          arrives c.loop-left.place c.loop-left.left.now (comment_read _ _ _ c.loop-left.left.now w.in-Comment.length
          c.loop-left.invariant (subst (StandsFirst c.loop-left.left.now) w.in-Comment.is c.in_ok-read_front.ensures))
          w.count-is w.tokens-is c.split_at.ensures.front c.split_at.ensures.back c.place_past-place.ensures
      | in-Token+in_ok-push-in-Token w ↦
          arrives c.loop-left.place c.loop-left.left.now (token_read _ _ _ c.loop-left.left.now w.in-Token.kind
          w.in-Token.length c.loop-left.invariant
          (subst (StandsFirst c.loop-left.left.now) w.in-Token.is c.in_ok-read_front.ensures))
          w.count-is (w.tokens-is ∙ w.in_ok-push-in-Token.ensures.ok) c.split_at.ensures.front c.split_at.ensures.back c.place_past-place.ensures
    ]
