use Rattle.std.proofs.Common.{ap, ◌∙◌}
use Rattle.site_list.specs.States.{value_of}
use Rattle.site_list.specs.Acts.{freed}
use Rattle.graph_view.specs.declared.view.Sym.{Sym}
use Rattle.symbolic_steps.specs.declared.walker.Walker.{Walker}
use Rattle.symbolic_steps.specs.Shown.{shown}
use Rattle.symbolic_steps.proofs.ShownLemmas.{guard-shown}
use Rattle.symbolic_steps.proofs.ChangeLemmas.{cell-freed}
use Rattle.symbolic_steps.proofs.changes.free.Goals as goal

pub returns : goal.returns
returns c = λ line next wanted s is.
    let types = c.args.l.now.types in
    let vars = c.args.l.now.vars in
    let here = guard-shown next wanted s c.args.w.now c.in_ok-here.here c.in_ok-here.ensures is in
    cell-freed types vars next wanted line s c.args.w.now c.check_null.new.w c.check_dead.new.w c.happens.new.w c.value_of-cell.result c.in_ok-here.here here is
    c.in_ok-check_null.ensures c.in_ok-check_dead.ensures c.in_ok-happens.ensures
    ∙ ap (λ (u : Sym). shown next wanted (freed types vars line u s))
    (c.value_of-cell.ensures ∙ ap (λ us. value_of us c.args.v) c.as_slice.ensures ∙ ap (λ (w : Walker). value_of w.view.vars c.args.v) is)
