use Rattle.std.proofs.Common.{◌≡◌, ◌∙◌, ◌++◌, ℕ, List, Ok, ap, ap₂, subst, sym}
use Rattle.bdd_nodes.specs.Shelf.{limit_of}
use Rattle.store_core.specs.Tables.{VarEntry}
use Rattle.store_text.specs.StoreText.{store_text_of}
use Rattle.field_judge.specs.declared.judging.FieldJudged.{FieldJudged}
use Rattle.field_judge.specs.OneEach.{type_vars}
use Rattle.field_judge.specs.Judging.{IsFieldJudged}
use Rattle.program_judge.specs.declared.ways.FieldWay.TheVariants as way
use Rattle.program_judge.specs.Lines.{ambiguous_line, field_limit_line}
use Rattle.program_judge.specs.Reports.{ReportsField, functional, ambiguous, field_at_limit}
use Rattle.program_judge.proofs.fields.field_report.Goals as goal

pub returns-in-Functional-clause-report : goal.returns-in-Functional-clause-report
returns-in-Functional-clause-report g c =
    let types = c.args.types.now in
    subst (λ (lines : List ℕ). ReportsField (limit_of c.args.shelf.now) types c.args.f lines way.Functional) (sym c.new-text.ensures.items)
    (functional (subst (IsFieldJudged types c.args.f) c.in-Functional.is c.in_ok-judge_field.ensures.value))

pub returns-in_ok-extend_from_slice-in-Ambiguous-clause-report : goal.returns-in_ok-extend_from_slice-in-Ambiguous-clause-report
returns-in_ok-extend_from_slice-in-Ambiguous-clause-report g c =
    let types = c.args.types.now in
    let s = c.in-Ambiguous.store in
    let told : c.as_slice.result.now ≡ store_text_of types (type_vars types) s =
    c.as_slice.ensures.value ∙ c.in_ok-told-in-Ambiguous.ensures
    ∙ ap (λ (vars : List VarEntry). store_text_of types vars s) c.in_ok-vars-in-Ambiguous.ensures in
    let head : c.push_ambiguous.new.text.items ≡ ambiguous_line types c.args.f c.in-Ambiguous.cell =
    c.in_ok-push_ambiguous-in-Ambiguous.ensures
    ∙ ap (λ (xs : List ℕ). xs ++ ambiguous_line types c.args.f c.in-Ambiguous.cell) c.new-text.ensures.items in
    subst (λ (lines : List ℕ). ReportsField (limit_of c.args.shelf.now) types c.args.f lines way.Ambiguous)
    (sym (c.in_ok-extend_from_slice-in-Ambiguous.ensures.items ∙ ap₂ (λ (xs ys : List ℕ). xs ++ ys) head told))
    (ambiguous s c.in-Ambiguous.cell (subst (IsFieldJudged types c.args.f) c.in-Ambiguous.is c.in_ok-judge_field.ensures.value))

pub returns-in_ok-push_field_limit-in-Limit-clause-report : goal.returns-in_ok-push_field_limit-in-Limit-clause-report
returns-in_ok-push_field_limit-in-Limit-clause-report g c =
    let types = c.args.types.now in
    subst (λ (lines : List ℕ). ReportsField (limit_of c.args.shelf.now) types c.args.f lines way.Limit)
    (sym (c.in_ok-push_field_limit-in-Limit.ensures ∙ ap (λ (xs : List ℕ). xs ++ field_limit_line types c.args.f) c.new-text.ensures.items))
    (field_at_limit (c.judge_field.ensures.limit (c.in_ok-judge_field.was ∙ ap (λ (x : FieldJudged). Ok x) c.in-Limit.is)))
