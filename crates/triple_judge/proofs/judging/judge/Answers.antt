use Rattle.std.proofs.Common.{IfOk, List, sym, ap, ◌∙◌, subst}
use Rattle.std.specs.List.{AllByRecursion}
use Rattle.store_core.specs.declared.ids.VariantId.{VariantId}
use Rattle.store_core.specs.Tables.{KnowsVariant}
use Rattle.tree_encode.specs.Layouts.{LaidOut}
use Rattle.witness_store.specs.Alike.{AreFunctional}
use Rattle.triple_judge.specs.Judging.{HasTriplePeak, IsJudged}
use Rattle.triple_judge.specs.Standing.{CanBeJudged}
use Rattle.triple_judge.proofs.SparesLemmas.{code-known}
use Rattle.triple_judge.proofs.judging.judge.Goals as goal

pub new-requires-clause-spares : goal.new-requires-clause-spares
new-requires-clause-spares g c =
    let types = c.args.types.now in
    subst (λ (variants : List VariantId). AllByRecursion (KnowsVariant types) variants) (sym c.in_ok-spares.ensures)
    (code-known types c.args.vars.now c.args.t.now.code (c.requires.triple).fits.code)

pub judge_laid_out-requires-clause-spares : goal.judge_laid_out-requires-clause-spares
judge_laid_out-requires-clause-spares g c = ap (λ (l : LaidOut). l.spares) c.in_ok-l.ensures ∙ c.in_ok-spares.ensures

pub judge_laid_out-requires-clause-triple : goal.judge_laid_out-requires-clause-triple
judge_laid_out-requires-clause-triple g c =
    subst (λ (l : LaidOut). CanBeJudged l.types l.vars c.args.t.now) (sym c.in_ok-l.ensures) c.requires.triple

pub returns-clause-value : goal.returns-clause-value
returns-clause-value g c = λ functional.
    subst (λ (l : LaidOut). IfOk c.judge_laid_out.result (IsJudged l.types l.vars c.args.t.now)) c.in_ok-l.ensures
    (c.judge_laid_out.ensures.value (subst (λ (l : LaidOut). AreFunctional l.types) (sym c.in_ok-l.ensures) functional))

pub returns-clause-limit : goal.returns-clause-limit
returns-clause-limit g c = λ is p peak.
    c.judge_laid_out.ensures.limit is p (subst (λ (l : LaidOut). HasTriplePeak l.types l.vars c.args.t.now p) (sym c.in_ok-l.ensures) peak)
