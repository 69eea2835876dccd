use Rattle.std.proofs.Common.{Bool, if◌then◌else◌, sym, ap}
use Rattle.std.proofs.lemmas.Result.{on_ok_weaker}
use Rattle.whole_turns.proofs.PieceLemmas.{block_first}
use Rattle.whole_turns.proofs.turning.push_block.Goals as goal

pub returns-then-truth : goal.returns-then-truth
returns-then-truth c = on_ok_weaker c.push.result (λ put. block_first c.args.truth c.args.yes c.args.no c.args.yes c.args.left.now c.push.new.self put
    (ap (λ (b : Bool). if b then c.args.yes.now else c.args.no.now) (sym c.if-truth.true))) c.push.ensures.ok

pub returns-else-truth : goal.returns-else-truth
returns-else-truth c = on_ok_weaker c.push-else-truth.result
    (λ put. block_first c.args.truth c.args.yes c.args.no c.args.no c.args.left.now c.push-else-truth.new.self put
    (ap (λ (b : Bool). if b then c.args.yes.now else c.args.no.now) (sym c.if-truth.false))) c.push-else-truth.ensures.ok
