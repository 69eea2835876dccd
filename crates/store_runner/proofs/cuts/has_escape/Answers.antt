use Rattle.std.proofs.Common.{◌↔◌, IsTrue, List, subst}
use Rattle.store_core.specs.declared.ids.VarId.{VarId}
use Rattle.store_core.specs.declared.ids.CellId.{CellId}
use Rattle.store_exec.specs.Telling.{IsAstray}
use Rattle.store_exec.proofs.CutLemmas.{escapes-by}
use Rattle.store_runner.proofs.cuts.has_escape.Goals as goal

pub returns : goal.returns
returns c =
    let by = escapes-by c.args.types.now c.args.vars.now c.args.store.now c.args.part.now c.args.inside.now c.in_ok-cells.cells c.in_ok-cells.ensures in
    let found = subst (λ (xs : List CellId). IsTrue c.any_astray.result ↔ ((v : VarId) × IsAstray c.args.vars.now c.args.store.now xs c.args.inside.now v))
    c.as_slice.ensures.value c.any_astray.ensures in
    ((λ h. by.0 (found.0 h)), (λ e. found.1 (by.1 e)))
