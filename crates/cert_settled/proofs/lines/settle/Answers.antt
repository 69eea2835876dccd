use Rattle.std.proofs.Common.{Bool, sym, ◌∙◌}
use Rattle.std.specs.Prelude.{◌↔◌, IsTrue}
use Rattle.std.proofs.lemmas.Bool.{false≢true}
use Rattle.cert_theory.specs.Tables.{Lists}
use Rattle.cert_tables.specs.Automata.{table_automaton}
use Rattle.cert_tables.proofs.SetsLemmas.{ok-map}
use Rattle.cert_settled.specs.Settled.{SettlesNew}
use Rattle.cert_settled.proofs.lines.settle.Goals as goal

pub returns-then-not-settles-clause-answer : goal.returns-then-not-settles-clause-answer
returns-then-not-settles-clause-answer c = (
  (λ yes. absurd (false≢true yes)),
  (λ new. absurd (false≢true (sym c.if-not-settles.true ∙ c.settles.ensures.1 new.settles))),
)

pub returns-clause-answer : goal.returns-clause-answer
returns-clause-answer c =
    let line = c.args.line in
    let list = c.args.states.now in
    ok-map c.push.result (λ (is_new : Bool). IsTrue is_new ↔ (Lists list line.space line.state → ⊥))
    (λ (is_new : Bool). IsTrue is_new ↔ SettlesNew c.args.g.now (table_automaton c.args.nodes.now c.args.a.now) c.args.track list line)
    (λ is_new is. (
      (λ yes. record { settles = c.settles.ensures.0 c.if-not-settles.false; is_new = is.0 yes }),
      (λ new. is.1 new.is_new),
    )) c.push.ensures.known
