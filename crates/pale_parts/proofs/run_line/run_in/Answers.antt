use Rattle.std.proofs.Common.{◌≡◌, ◌∙◌, ◌++◌, ◌≤◌, ℕ, List, true, Some, sym, ap, arith}
use Rattle.std.proofs.lemmas.Bool.{false≢true}
use Rattle.std.proofs.lemmas.Bool.Decides.{Decides-eqb}
use Rattle.std.proofs.lemmas.Slice.Eq.{strip_prefix_is}
use Rattle.pale_parts.proofs.RunLineLemmas.{if_none, uncut, uncounted, too_many, unnamed, run_line}
use Rattle.pale_parts.proofs.run_line.run_in.Goals as goal
use Rattle.pale_parts.proofs.run_line.run_in.Goals.{else-steps-le-MOST_STEPS-via-then-steps-le-MOST_STEPS+else-is_name}
use Rattle.pale_parts.proofs.run_line.run_in.Goals.{else-steps-le-MOST_STEPS-via-else-steps-le-MOST_STEPS}

pub returns-in_err-name-clause-none : goal.returns-in_err-name-clause-none
returns-in_err-name-clause-none c =
    let line = c.args.line.now in
    let words = c.in_ok-words.words in
    let spelled = strip_prefix_is Decides-eqb line c.as_slice.result.now (Some words) c.in_ok-words.ensures.cases
    ∙ ap (λ (l : List ℕ). l ++ words.now) c.as_slice.ensures in
    if_none c.from_residual-in_err-name.result (uncut line words.now spelled (sym c.in_err-name.ensures))

pub returns-in_err-steps-clause-none : goal.returns-in_err-steps-clause-none
returns-in_err-steps-clause-none c =
    let line = c.args.line.now in
    let words = c.in_ok-words.words in
    let spelled = strip_prefix_is Decides-eqb line c.as_slice.result.now (Some words) c.in_ok-words.ensures.cases
    ∙ ap (λ (l : List ℕ). l ++ words.now) c.as_slice.ensures in
    if_none c.from_residual-in_err-steps.result
    (uncounted line words.now c.in_ok-name.name.now c.in_ok-name.word.now spelled (sym c.in_ok-name.ensures) (sym c.in_err-steps.ensures))

pub returns-then-is_name-clause-some : goal.returns-then-is_name-clause-some
returns-then-is_name-clause-some c =
    let line = c.args.line.now in
    let words = c.in_ok-words.words in
    let spelled = strip_prefix_is Decides-eqb line c.as_slice.result.now (Some words) c.in_ok-words.ensures.cases
    ∙ ap (λ (l : List ℕ). l ++ words.now) c.as_slice.ensures in
    run_line line words.now c.in_ok-name.name.now c.in_ok-name.word.now c.in_ok-steps.steps spelled (sym c.in_ok-name.ensures)
    (sym c.in_ok-steps.ensures) (omega (arith, c.if-steps-le-MOST_STEPS.true)) (sym c.is_name.ensures ∙ c.if-is_name.true)

pub returns-else-steps-le-MOST_STEPS-clause-none : goal.returns-else-steps-le-MOST_STEPS-clause-none
returns-else-steps-le-MOST_STEPS-clause-none c =
    let line = c.args.line.now in
    let words = c.in_ok-words.words in
    let spelled = strip_prefix_is Decides-eqb line c.as_slice.result.now (Some words) c.in_ok-words.ensures.cases
    ∙ ap (λ (l : List ℕ). l ++ words.now) c.as_slice.ensures in
    elim c.else-steps-le-MOST_STEPS.branch [
      | else-steps-le-MOST_STEPS-via-then-steps-le-MOST_STEPS+else-is_name w ↦
          unnamed line words.now c.in_ok-name.name.now c.in_ok-name.word.now spelled (sym c.in_ok-name.ensures)
          (λ is. false≢true (sym w.if-is_name.false ∙ w.is_name.ensures ∙ is))
      | else-steps-le-MOST_STEPS-via-else-steps-le-MOST_STEPS w ↦
          too_many line words.now c.in_ok-name.name.now c.in_ok-name.word.now spelled (sym c.in_ok-name.ensures) c.in_ok-steps.steps
          (sym c.in_ok-steps.ensures) (λ few. omega (arith, few, w.if-steps-le-MOST_STEPS.false))
    ]
