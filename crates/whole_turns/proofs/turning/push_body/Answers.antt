use Rattle.std.proofs.lemmas.Result.{on_ok_weaker}
use Rattle.whole_turns.proofs.PieceLemmas.{body_first, body_last}
use Rattle.whole_turns.proofs.turning.push_body.Goals as goal

pub returns-then-not-truth : goal.returns-then-not-truth
returns-then-not-truth c = body_last c.args.behind c.args.truth c.args.left.now c.if-not-truth.true

pub returns : goal.returns
returns c = on_ok_weaker c.push-2.result (λ put. body_first c.args.behind c.args.truth c.args.left.now c.push.new.self c.push-2.new.self c.if-not-truth.false
    c.in_ok-push.ensures.ok put) c.push-2.ensures.ok
