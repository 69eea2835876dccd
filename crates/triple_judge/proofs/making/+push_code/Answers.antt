use Rattle.triple_judge.proofs.SparesLemmas.{branch_made}
use Rattle.triple_judge.proofs.making.+push_code.Goals as goal

pub returns-in_ok-push_code-in-Branch-2 : goal.returns-in_ok-push_code-in-Branch-2
returns-in_ok-push_code-in-Branch-2 t c =
    branch_made c.args.code.now c.as_slice.result.now c.in-Branch.field-0 c.in-Branch.field-1 c.in-Branch.taken c.in-Branch.other c.get.result.now
    c.get-in-Branch.result.now c.args.spares.now c.push_items.new.spares c.push_code.new.spares c.push_code-in-Branch.new.spares c.as_slice.ensures
    c.in-Branch.is c.get.ensures c.get-in-Branch.ensures c.in_ok-push_items.ensures c.in_ok-push_code-in-Branch.ensures
    c.in_ok-push_code-in-Branch-2.ensures
