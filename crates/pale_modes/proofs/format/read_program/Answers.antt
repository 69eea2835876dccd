use Rattle.std.proofs.Common.{◌≡◌, ◌∙◌, ap, subst, sym, Result, Err}
use Rattle.std.specs.Prelude.{IfErr}
use Rattle.std.proofs.lemmas.Result.{IfOk-weaker, err_from_is_err_and}
use Rattle.pale_text.specs.declared.refusal.TextStop.TheVariants.{Refused}
use Rattle.pale_text.specs.Lexing.{IsLexStop}
use Rattle.pale_syntax.specs.ProgramReading.{IsParseStop}
use Rattle.pale_modes.specs.Formatting.{program, stray, unparsed}
use Rattle.pale_modes.proofs.format.read_program.Goals as goal

-- what is said of an error that came
of_error : {T E : Type 0} (P : E → Type 0) (r : Result T E) (e : E) → r ≡ Err e → IfErr r P → P e
of_error P r e is said = subst (λ r. IfErr r P) is said

pub returns-in_err-list-clause-refused : goal.returns-in_err-list-clause-refused
returns-in_err-list-clause-refused c refusal is =
    let came = err_from_is_err_and c.from_residual.result c.from_residual.ensures.1 in
    let same = sym (came.1 ∙ ap (λ e. Err e) came.2) ∙ is in
    stray refusal c.requires (of_error (IsLexStop c.args.text.now) _ (Refused refusal) same c.in_err-list.ensures.stop)

pub returns-clause-program : goal.returns-clause-program
returns-clause-program c =
    IfOk-weaker c.parse.result _ _ (λ tree parsed. program c.in_ok-list.list tree c.requires c.in_ok-list.ensures.tokens parsed) c.parse.ensures.program

pub returns-clause-refused : goal.returns-clause-refused
returns-clause-refused c refusal is =
    unparsed c.in_ok-list.list refusal c.requires c.in_ok-list.ensures.tokens
    (of_error (IsParseStop c.in_ok-list.list) c.parse.result (Refused refusal) is c.parse.ensures.stop)
