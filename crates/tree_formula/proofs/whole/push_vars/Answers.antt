use Rattle.tree_formula.specs.WellEncoded.{var_id, var_parts}
use Rattle.tree_formula.proofs.NamedLemmas.{flat-next}
use Rattle.tree_formula.proofs.whole.push_vars.Goals as goal

pub loop-index-preserved : goal.loop-index-preserved
loop-index-preserved c =
    flat-next (var_parts c.args.next c.args.l.now.types c.args.l.now.vars) var_id c.loop-index.index c.args.parts.now.items c.loop-index.parts.items
    c.push_var.new.parts.items c.loop-index.invariant
    c.in_ok-push_var.ensures
