use Rattle.std.proofs.Common.{List, [], Ok, sym, ap, ap₂, subst}
use Rattle.gta_theory.specs.Guides.{Spaces}
use Rattle.ws2s_core.specs.declared.formula.Formula.{Formula}
use Rattle.ws2s_theory.specs.Peaks.{HasPeak}
use Rattle.ws2s_decide.specs.declared.verdict.Verdict.{Verdict}
use Rattle.ws2s_decide.specs.Deciding.{IsVerdict}
use Rattle.store_core.specs.declared.ids.VariantId.{VariantId}
use Rattle.store_core.specs.Tables.{VarEntry}
use Rattle.tree_encode.specs.Spaces.{guide_of}
use Rattle.field_judge.specs.OneEach.{type_vars}
use Rattle.field_judge.proofs.KnownLemmas.{follows-field, field-lays-out}
use Rattle.field_judge.proofs.LightestLemmas.{lightest-from, functional-from, formula-is}
use Rattle.field_judge.proofs.judging.judge_laid_out.Goals as goal

pub verdict_alone-requires-clause-follows : goal.verdict_alone-requires-clause-follows
verdict_alone-requires-clause-follows g c =
    follows-field c.args.l.now.types c.args.l.now.vars c.args.f c.in_ok-formula.formula c.in_ok-known.known c.in_ok-known.ensures.holds
    c.in_ok-formula.ensures.value

pub verdict_alone-requires-clause-trees : goal.verdict_alone-requires-clause-trees
verdict_alone-requires-clause-trees g c =
    field-lays-out c.args.l.now.types c.args.l.now.vars c.args.f c.in_ok-formula.formula c.in_ok-tracks.ensures.inside c.in_ok-formula.ensures.value

pub fork_of-requires-clause-lightest : goal.fork_of-requires-clause-lightest
fork_of-requires-clause-lightest g c =
    let types = c.args.l.now.types in
    lightest-from types c.args.f c.in_ok-tracks.tracks c.in_ok-formula.formula c.in-Witness.tree c.in-Witness.field-1 c.in_ok-tracks.ensures.value
    (formula-is types c.args.l.now.vars c.args.f c.in_ok-formula.formula c.requires.vars c.in_ok-formula.ensures.value)
    (subst (IsVerdict c.in_ok-tracks.tracks c.in_ok-formula.formula) c.in-Witness.is c.in_ok-verdict_alone.ensures.value)

pub returns-in-None-clause-value : goal.returns-in-None-clause-value
returns-in-None-clause-value g c =
    let types = c.args.l.now.types in
    functional-from types c.args.f c.in_ok-formula.formula c.in_ok-tracks.ensures.inside
    (formula-is types c.args.l.now.vars c.args.f c.in_ok-formula.formula c.requires.vars c.in_ok-formula.ensures.value)
    (subst (IsVerdict c.in_ok-tracks.tracks c.in_ok-formula.formula) c.in-None.is c.in_ok-verdict_alone.ensures.value)

-- the verdict is at the limit, under the guide of the field's layout
pub returns-clause-limit : goal.returns-clause-limit
returns-clause-limit g c = λ at_limit p peak.
    let types = c.args.l.now.types in
    c.in_ok-verdict_alone.ensures.limit (ap (λ (v : Verdict). Ok v) c.in-Limit.is) p
    (subst (λ (guide : Spaces). HasPeak guide c.in_ok-formula.formula p)
    (sym (ap₂ (λ (vs : List VarEntry) (ss : List VariantId). guide_of types vs ss) c.requires.vars c.requires.spares))
    (subst (λ (f : Formula). HasPeak (guide_of types (type_vars types) []) f p)
    (sym (formula-is types c.args.l.now.vars c.args.f c.in_ok-formula.formula c.requires.vars c.in_ok-formula.ensures.value)) peak))
