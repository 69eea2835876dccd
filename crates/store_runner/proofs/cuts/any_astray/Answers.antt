use Rattle.std.proofs.Common.{arith, sym, ◌∙◌}
use Rattle.std.proofs.lemmas.Bool.{false≢true}
use Rattle.store_exec.specs.Telling.{IsAstray}
use Rattle.store_exec.proofs.CutLemmas.{astray-known, none-next}
use Rattle.store_runner.proofs.cuts.any_astray.Goals as goal

pub loop-index-preserved : goal.loop-index-preserved
loop-index-preserved c = none-next (λ n. IsAstray c.args.vars.now c.args.store.now c.args.cells.now c.args.inside.now (record { 0 = n })) c.loop-index.index
    c.loop-index.invariant
    (λ astray. false≢true (sym c.if-is_astray.false ∙ c.is_astray.ensures.1 astray))

pub returns : goal.returns
returns c = (
  (λ e. absurd (false≢true e)),
  (λ h.
      let known = astray-known c.args.vars.now c.args.store.now c.args.cells.now c.args.inside.now h.0 h.1 in
      absurd (c.loop-index.invariant (h.0).0 (omega (arith, known, c.loop-index-test.false, c.vars-index-end.ensures.value)) h.1)),
)
