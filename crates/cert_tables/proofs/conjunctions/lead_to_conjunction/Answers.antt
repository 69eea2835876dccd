use Rattle.std.proofs.Common.{◌<◌, ◌≤◌, List, length, sym, ◌∙◌, subst, arith}
use Rattle.std.specs.Prelude.{◌↔◌, IsTrue}
use Rattle.std.proofs.lemmas.Bool.{false≢true}
use Rattle.cert_text.specs.declared.line.PairLine.{PairLine}
use Rattle.cert_tables.specs.Pairs.{AcceptAlike}
use Rattle.cert_tables.proofs.ConjunctionsLemmas.{table-right, right-next, whole}
use Rattle.cert_tables.proofs.conjunctions.lead_to_conjunction.Goals as goal

pub returns-then-not-start_together : goal.returns-then-not-start_together
returns-then-not-start_together c =
    let g = c.args.g.now in
    let d = c.args.nodes.now in
    let inside : c.loop-space.space < length g = omega (arith, c.loop-space-test.true, c.spaces-space-end.ensures.value) in (
      (λ yes. absurd (false≢true yes)),
      (λ table. absurd (false≢true (sym c.if-not-start_together.true ∙ (c.start_together.ensures d).1
          (table-right g d c.args.a.now c.args.a_negated c.args.b.now c.args.b_negated c.args.pairs.now c.args.c.now table c.loop-space.space
          inside).starts))),
    )

pub returns-then-not-branch : goal.returns-then-not-branch
returns-then-not-branch c =
    let g = c.args.g.now in
    let inside : c.loop-space.space < length g = omega (arith, c.loop-space-test.true, c.spaces-space-end.ensures.value) in (
      (λ yes. absurd (false≢true yes)),
      (λ table. absurd (false≢true (sym c.if-not-branch.true ∙ c.in_ok-go_along.ensures.1
          (table-right g c.args.nodes.now c.args.a.now c.args.a_negated c.args.b.now c.args.b_negated c.args.pairs.now c.args.c.now table
          c.loop-space.space inside).goes))),
    )

pub loop-space-preserved : goal.loop-space-preserved
loop-space-preserved c =
    right-next c.args.g.now c.args.nodes.now c.args.a.now c.args.a_negated c.args.b.now c.args.b_negated c.args.pairs.now c.args.c.now
    c.loop-space.space c.loop-space.invariant (record {
      starts = (c.start_together.ensures c.args.nodes.now).0 c.if-not-start_together.false;
      goes = c.in_ok-go_along.ensures.0 c.if-not-branch.false;
    })

pub returns : goal.returns
returns c =
    let g = c.args.g.now in
    let a = c.args.a.now in
    let b = c.args.b.now in
    let t = c.args.c.now in
    let pairs = c.args.pairs.now in
    let all : length g ≤ c.loop-space.space = omega (arith, c.loop-space-test.false, c.spaces-space-end.ensures.value) in
    whole g c.args.nodes.now a c.args.a_negated b c.args.b_negated pairs t c.accept_alike.result c.loop-space.space all c.as_slice.ensures.once
    c.loop-space.invariant
    (subst (λ (ls : List PairLine). IsTrue c.accept_alike.result ↔ AcceptAlike a c.args.a_negated b c.args.b_negated t ls)
    c.as_slice.ensures.value c.accept_alike.ensures)
