use Rattle.std.proofs.Common.{◌∙◌, List, Ok, ap, subst, sym, option_map}
use Rattle.bdd_nodes.specs.Shelf.{limit_of}
use Rattle.store_core.specs.Tables.{TypeEntry}
use Rattle.witness_store.specs.Alike.{AreFunctional}
use Rattle.triple_judge.specs.declared.judging.Judged.{Judged}
use Rattle.triple_judge.specs.Judging.{IsJudged}
use Rattle.triple_judge.specs.Standing.{CanBeJudged}
use Rattle.program_judge.proofs.StandingLemmas.{can-be-judged}
use Rattle.program_judge.proofs.TellingLemmas.{report-valid, report-invalid, report-limit}
use Rattle.program_judge.proofs.triples.triple_report.Goals as goal

pub judge-requires-clause-triple : goal.judge-requires-clause-triple
judge-requires-clause-triple g c =
    subst (λ (ts : List TypeEntry). CanBeJudged ts c.in-Some.vars.now c.args.t.now) (sym c.types-types.ensures)
    (can-be-judged c.args.typed.now c.args.t.now c.requires.triple c.in-Some.vars.now (ap (λ o. option_map (λ v. v.now) o) (sym c.in-Some.is) ∙ c.vars.ensures))

pub returns-in_ok-push_valid-in-Valid-clause-report : goal.returns-in_ok-push_valid-in-Valid-clause-report
returns-in_ok-push_valid-in-Valid-clause-report g c =
    let functional = subst AreFunctional (sym c.types-types.ensures) c.requires.functional in
    let is = subst (IsJudged c.types-types.result.now c.in-Some.vars.now c.args.t.now) c.in-Valid.is (c.in_ok-judge.ensures.value functional) in
    report-valid (limit_of c.args.shelf.now) c.args.typed.now c.args.number c.args.t.now c.requires.triple
    c.types-types.result.now c.types-types.ensures c.in-Some.vars.now (ap (λ o. option_map (λ v. v.now) o) (sym c.in-Some.is) ∙ c.vars.ensures)
    c.in-Some-proc.proc.now (ap (λ o. option_map (λ v. v.now) o) (sym c.in-Some-proc.is) ∙ c.proc.ensures) c.as_slice-name.result.now c.as_slice-name.ensures
    c.new-text.result.items c.push_valid.new.text.items c.new-text.ensures.items c.in_ok-push_valid-in-Valid.ensures is

pub returns-in_ok-extend_from_slice-in-Invalid-clause-report : goal.returns-in_ok-extend_from_slice-in-Invalid-clause-report
returns-in_ok-extend_from_slice-in-Invalid-clause-report g c =
    let functional = subst AreFunctional (sym c.types-types.ensures) c.requires.functional in
    let is = subst (IsJudged c.types-types.result.now c.in-Some.vars.now c.args.t.now) c.in-Invalid.is (c.in_ok-judge.ensures.value functional) in
    report-invalid (limit_of c.args.shelf.now) c.args.typed.now c.args.number c.args.t.now c.requires.triple
    c.types-types.result.now c.types-types.ensures c.in-Some.vars.now (ap (λ o. option_map (λ v. v.now) o) (sym c.in-Some.is) ∙ c.vars.ensures)
    c.in-Some-proc.proc.now (ap (λ o. option_map (λ v. v.now) o) (sym c.in-Some-proc.is) ∙ c.proc.ensures) c.as_slice-name.result.now c.as_slice-name.ensures
    c.new-text.result.items c.push_invalid.new.text.items c.as_slice.result.now c.extend_from_slice.new.self.items
    c.in-Invalid.store c.in-Invalid.cause c.in-Invalid.at c.new-text.ensures.items c.in_ok-push_invalid-in-Invalid.ensures
    (c.as_slice.ensures.value ∙ c.in_ok-told-in-Invalid.ensures) c.in_ok-extend_from_slice-in-Invalid.ensures.items is

pub returns-in_ok-push_limit-in-Limit-clause-report : goal.returns-in_ok-push_limit-in-Limit-clause-report
returns-in_ok-push_limit-in-Limit-clause-report g c =
    report-limit (limit_of c.args.shelf.now) c.args.typed.now c.args.number c.args.t.now c.requires.triple
    c.types-types.result.now c.types-types.ensures c.in-Some.vars.now (ap (λ o. option_map (λ v. v.now) o) (sym c.in-Some.is) ∙ c.vars.ensures)
    c.in-Some-proc.proc.now (ap (λ o. option_map (λ v. v.now) o) (sym c.in-Some-proc.is) ∙ c.proc.ensures) c.as_slice-name.result.now c.as_slice-name.ensures
    c.new-text.result.items c.push_limit.new.text.items c.new-text.ensures.items c.in_ok-push_limit-in-Limit.ensures
    (c.judge.ensures.limit (c.in_ok-judge.was ∙ ap (λ (x : Judged). Ok x) c.in-Limit.is))
