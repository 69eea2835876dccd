use Rattle.std.proofs.lemmas.Bool.{false≢true}
use Rattle.store_exec.proofs.CutLemmas.{astray-by, not-astray}
use Rattle.store_runner.proofs.cuts.is_astray.Goals as goal

pub returns-in-None : goal.returns-in-None
returns-in-None c = (
  (λ e. absurd (false≢true e)),
  (λ astray. absurd (not-astray c.args.vars.now c.args.store.now c.args.cells.now c.args.inside.now c.args.var c.pointed.result c.pointed.ensures
      c.in-None.is astray)),
)

pub returns-in-Some : goal.returns-in-Some
returns-in-Some c = astray-by c.args.vars.now c.args.store.now c.args.cells.now c.args.inside.now c.args.var c.pointed.result c.pointed.ensures c.in-Some.cell
    c.in-Some.is
    c.is_listed.result c.has.result c.is_listed.ensures c.has.ensures
