use Rattle.std.proofs.Common.{◌≡◌, ◌∙◌, ◌++◌, ◌<◌, ℕ, List, Ok, ap, subst, sym, option_map}
use Rattle.bdd_nodes.specs.Shelf.{limit_of}
use Rattle.store_core.specs.Tables.{TypeEntry}
use Rattle.store_exec.specs.declared.triple.Triple.{Triple}
use Rattle.witness_store.specs.Alike.{AreFunctional}
use Rattle.triple_judge.specs.declared.judging.Judged.{Judged}
use Rattle.triple_judge.specs.Judging.{IsJudged, IsValid, IsLeastFailing, HasTriplePeak}
use Rattle.triple_judge.specs.Standing.{CanBeJudged}
use Rattle.program_judge.proofs.StandingLemmas.{can-be-judged}
use Rattle.program_judge.proofs.MeetReportLemmas.{vars_of, proc_of, report-empty, report-met, report-limit}
use Rattle.program_judge.specs.Lines.{limit_line}
use Rattle.program_judge.specs.Meets.{met_line, empty_line}
use Rattle.program_judge.proofs.meets.report_of.Goals as goal

pub judge-requires-clause-triple : goal.judge-requires-clause-triple
judge-requires-clause-triple g c =
    subst (λ (ts : List TypeEntry). CanBeJudged ts c.in-Some.vars.now c.args.asked.now) (sym c.types-types.ensures)
    (can-be-judged c.args.typed.now c.args.asked.now c.requires.triple c.in-Some.vars.now
    (ap (λ o. option_map (λ v. v.now) o) (sym c.in-Some.is) ∙ c.vars.ensures))

pub returns-in_ok-push_empty-in-Valid-clause-report : goal.returns-in_ok-push_empty-in-Valid-clause-report
returns-in_ok-push_empty-in-Valid-clause-report g c t own is_asking =
    let vars-at = ap (λ o. option_map (λ v. v.now) o) (sym c.in-Some.is) ∙ c.vars.ensures ∙ ap (vars_of c.args.typed.now) is_asking in
    let proc-at = ap (λ o. option_map (λ v. v.now) o) (sym c.in-Some-proc.is) ∙ c.proc.ensures ∙ ap (proc_of c.args.typed.now) is_asking in
    let line : c.args.asked.now.line ≡ t.line = ap (λ (u : Triple). u.line) is_asking in
    let functional = subst AreFunctional (sym c.types-types.ensures) c.requires.functional in
    let is = subst (IsJudged c.types-types.result.now c.in-Some.vars.now c.args.asked.now) c.in-Valid.is (c.in_ok-judge.ensures.value functional) in
    report-empty (limit_of c.args.shelf.now) c.args.typed.now c.args.number t own c.types-types.result.now c.types-types.ensures c.in-Some.vars.now vars-at
    c.in-Some-proc.proc.now proc-at c.as_slice-name.result.now c.as_slice-name.ensures c.new-text.result.items c.push_empty.new.text.items
    c.new-text.ensures.items (c.in_ok-push_empty-in-Valid.ensures
    ∙ ap (λ (n : ℕ). c.new-text.result.items ++ empty_line c.args.number c.as_slice-name.result.now n) line)
    (subst (IsValid c.types-types.result.now c.in-Some.vars.now) is_asking is)

pub returns-in_ok-extend_from_slice-in-Invalid-clause-report : goal.returns-in_ok-extend_from_slice-in-Invalid-clause-report
returns-in_ok-extend_from_slice-in-Invalid-clause-report g c t own is_asking =
    let vars-at = ap (λ o. option_map (λ v. v.now) o) (sym c.in-Some.is) ∙ c.vars.ensures ∙ ap (vars_of c.args.typed.now) is_asking in
    let proc-at = ap (λ o. option_map (λ v. v.now) o) (sym c.in-Some-proc.is) ∙ c.proc.ensures ∙ ap (proc_of c.args.typed.now) is_asking in
    let line : c.args.asked.now.line ≡ t.line = ap (λ (u : Triple). u.line) is_asking in
    let functional = subst AreFunctional (sym c.types-types.ensures) c.requires.functional in
    let is = subst (IsJudged c.types-types.result.now c.in-Some.vars.now c.args.asked.now) c.in-Invalid.is (c.in_ok-judge.ensures.value functional) in
    report-met (limit_of c.args.shelf.now) c.args.typed.now c.args.number t own c.types-types.result.now c.types-types.ensures c.in-Some.vars.now vars-at
    c.in-Some-proc.proc.now proc-at c.as_slice-name.result.now c.as_slice-name.ensures c.new-text.result.items c.push_met.new.text.items
    c.as_slice.result.now c.extend_from_slice.new.self.items c.in-Invalid.store c.in-Invalid._cause c.in-Invalid._at c.new-text.ensures.items
    (c.in_ok-push_met-in-Invalid.ensures ∙ ap (λ (n : ℕ). c.new-text.result.items ++ met_line c.args.number c.as_slice-name.result.now n) line)
    (c.as_slice.ensures.value ∙ c.in_ok-told-in-Invalid.ensures) c.in_ok-extend_from_slice-in-Invalid.ensures.items
    (subst (λ (u : Triple). IsLeastFailing c.types-types.result.now c.in-Some.vars.now u c.in-Invalid.store c.in-Invalid._cause c.in-Invalid._at) is_asking is)

pub returns-in_ok-push_limit-in-Limit-clause-report : goal.returns-in_ok-push_limit-in-Limit-clause-report
returns-in_ok-push_limit-in-Limit-clause-report g c t own is_asking =
    let vars-at = ap (λ o. option_map (λ v. v.now) o) (sym c.in-Some.is) ∙ c.vars.ensures ∙ ap (vars_of c.args.typed.now) is_asking in
    let proc-at = ap (λ o. option_map (λ v. v.now) o) (sym c.in-Some-proc.is) ∙ c.proc.ensures ∙ ap (proc_of c.args.typed.now) is_asking in
    let line : c.args.asked.now.line ≡ t.line = ap (λ (u : Triple). u.line) is_asking in
    report-limit (limit_of c.args.shelf.now) c.args.typed.now c.args.number t own c.types-types.result.now c.types-types.ensures c.in-Some.vars.now vars-at
    c.in-Some-proc.proc.now proc-at c.as_slice-name.result.now c.as_slice-name.ensures c.new-text.result.items c.push_limit.new.text.items
    c.new-text.ensures.items (c.in_ok-push_limit-in-Limit.ensures
    ∙ ap (λ (n : ℕ). c.new-text.result.items ++ limit_line c.args.number c.as_slice-name.result.now n) line)
    (subst (λ (u : Triple). (p : ℕ) → HasTriplePeak c.types-types.result.now c.in-Some.vars.now u p → limit_of c.args.shelf.now < p) is_asking
    (c.judge.ensures.limit (c.in_ok-judge.was ∙ ap (λ (x : Judged). Ok x) c.in-Limit.is)))
