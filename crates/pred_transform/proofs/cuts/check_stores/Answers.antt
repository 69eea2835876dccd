use Rattle.pred_transform.proofs.CutLemmas.{stores-checked}
use Rattle.pred_transform.proofs.cuts.check_stores.Goals as goal

pub returns : goal.returns
returns c = λ line next wanted s reaches is.
    stores-checked c.args.l.now.types c.args.l.now.vars next wanted line c.args.reached.now s c.args.w.now c.check_store.new.w c.check_store-2.new.w
    c.check_store-3.new.w c.check_store-4.new.w reaches is c.in_ok-check_store.ensures c.in_ok-check_store-2.ensures c.in_ok-check_store-3.ensures
    c.in_ok-check_store-4.ensures
