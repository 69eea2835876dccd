use Rattle.std.proofs.Common.{sym, ◌∙◌}
use Rattle.std.proofs.lemmas.Bool.{false≢true}
use Rattle.cert_theory.specs.Tables.{Lists}
use Rattle.cert_tables.specs.Automata.{table_automaton}
use Rattle.cert_settled.proofs.StepsLemmas.{settles-by}
use Rattle.cert_settled.proofs.steps.settles.Goals as goal
use Rattle.cert_settled.proofs.steps.settles.Goals.{then-has, else-has}

pub returns-then-has-2 : goal.returns-then-has-2
returns-then-has-2 c =
    let list = c.args.states.now in
    let line = c.args.line in
    let there : Lists list c.in-Some.left line.left × Lists list c.in-Some.right line.right =
    elim c.if-has.branch as (λ _. Lists list c.in-Some.left line.left × Lists list c.in-Some.right line.right) [
      | then-has w ↦ (c.has.ensures.0 w.if-has.true, w.has-then-has.ensures.0 (sym w.value-is ∙ c.if-has-2.true))
      | else-has w ↦ absurd (false≢true (sym w.if-has.false ∙ sym w.value-is ∙ c.if-has-2.true))
    ] in
    settles-by c.args.g.now (table_automaton c.args.nodes.now c.args.a.now) c.args.track list line c.in-Some.left c.in-Some.right c.step_of.result
    (sym c.in-Some.ensures.value) there c.step_of.ensures
