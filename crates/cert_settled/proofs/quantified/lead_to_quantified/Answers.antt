use Rattle.std.proofs.Common.{◌<◌, ◌≤◌, List, length, sym, ◌∙◌, subst, arith}
use Rattle.std.specs.Prelude.{◌↔◌, IsTrue}
use Rattle.std.proofs.lemmas.Bool.{false≢true}
use Rattle.cert_text.specs.declared.line.SetLine.{SetLine}
use Rattle.cert_tables.specs.Accepting.{AcceptBySome}
use Rattle.cert_settled.proofs.QuantifiedLemmas.{table-right, right-next, whole}
use Rattle.cert_settled.proofs.quantified.lead_to_quantified.Goals as goal

pub returns-then-not-start : goal.returns-then-not-start
returns-then-not-start c =
    let g = c.args.g.now in
    let inside : c.loop-space.space < length g = omega (arith, c.loop-space-test.true, c.spaces-space-end.ensures.value) in (
      (λ yes. absurd (false≢true yes)),
      (λ table. absurd (false≢true (sym c.if-not-start.true ∙ c.in_ok-start.ensures.1
          (table-right g c.args.nodes.now c.args.a.now c.args.a_negated c.args.dropped c.args.settled.now c.args.sets.now c.args.c.now
          c.requires.starts table c.loop-space.space inside).starts))),
    )

pub returns-then-not-go : goal.returns-then-not-go
returns-then-not-go c =
    let g = c.args.g.now in
    let inside : c.loop-space.space < length g = omega (arith, c.loop-space-test.true, c.spaces-space-end.ensures.value) in (
      (λ yes. absurd (false≢true yes)),
      (λ table. absurd (false≢true (sym c.if-not-go.true ∙ c.in_ok-go.ensures.1
          (table-right g c.args.nodes.now c.args.a.now c.args.a_negated c.args.dropped c.args.settled.now c.args.sets.now c.args.c.now
          c.requires.starts table c.loop-space.space inside).goes))),
    )

pub loop-space-preserved : goal.loop-space-preserved
loop-space-preserved c =
    right-next c.args.g.now c.args.nodes.now c.args.a.now c.args.a_negated c.args.dropped c.args.settled.now c.args.sets.now c.args.c.now
    c.requires.starts c.loop-space.space c.loop-space.invariant (record {
      starts = c.in_ok-start.ensures.0 c.if-not-start.false;
      goes = c.in_ok-go.ensures.0 c.if-not-go.false;
    })

pub returns : goal.returns
returns c =
    let g = c.args.g.now in
    let a = c.args.a.now in
    let sets = c.args.sets.now in
    let all : length g ≤ c.loop-space.space = omega (arith, c.loop-space-test.false, c.spaces-space-end.ensures.value) in
    whole g c.args.nodes.now a c.args.a_negated c.args.dropped c.args.settled.now sets c.args.c.now c.requires.starts c.accept_by_some.result
    c.loop-space.space all c.as_slice.ensures.sets c.loop-space.invariant
    (subst (λ (ls : List SetLine). IsTrue c.accept_by_some.result ↔ AcceptBySome a c.args.a_negated c.args.c.now ls) c.as_slice.ensures.value
    c.accept_by_some.ensures)
