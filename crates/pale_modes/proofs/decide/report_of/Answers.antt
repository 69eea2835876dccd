use Rattle.std.proofs.lemmas.Result.{IfOk-weaker}
use Rattle.pale_modes.proofs.DecidingLemmas.{HaveOnePosition-example, says_unsatisfiable, says_valid, says_too_large, says_above, says_satisfiable}
use Rattle.pale_modes.proofs.decide.report_of.Goals as goal

pub example_report-requires : goal.example_report-requires
example_report-requires c =
    HaveOnePosition-example c.args.limit c.args.text.now c.args.answer.now c.in-Example.example c.in-Example.is c.requires.true_of

pub returns-in-Unsatisfiable : goal.returns-in-Unsatisfiable
returns-in-Unsatisfiable c = IfOk-weaker c.line.result _ _
    (λ report is. says_unsatisfiable c.args.limit c.args.text.now c.args.answer.now c.requires.true_of c.requires.small c.in-Unsatisfiable.is report.items is)
    c.line.ensures

pub returns-in-Valid : goal.returns-in-Valid
returns-in-Valid c = IfOk-weaker c.line-in-Valid.result _ _
    (λ report is. says_valid c.args.limit c.args.text.now c.args.answer.now c.requires.true_of c.requires.small c.in-Valid.is report.items is)
    c.line-in-Valid.ensures

pub returns-in-TooLarge : goal.returns-in-TooLarge
returns-in-TooLarge c = IfOk-weaker c.line-in-TooLarge.result _ _
    (λ report is. says_too_large c.args.limit c.args.text.now c.args.answer.now c.requires.true_of c.requires.small c.in-TooLarge.is report.items is)
    c.line-in-TooLarge.ensures

pub returns-in-Limit : goal.returns-in-Limit
returns-in-Limit c = IfOk-weaker c.line-in-Limit.result _ _
    (λ report is. says_above c.args.limit c.args.text.now c.args.answer.now c.requires.true_of c.requires.small c.in-Limit.is report.items is)
    c.line-in-Limit.ensures

pub returns-in-Example : goal.returns-in-Example
returns-in-Example c = IfOk-weaker c.example_report.result _ _
    (λ report shows. says_satisfiable c.args.limit c.args.text.now c.args.answer.now c.requires.true_of c.requires.small c.in-Example.example c.in-Example.is
    report.items shows.0 shows.1 shows.2) c.example_report.ensures
