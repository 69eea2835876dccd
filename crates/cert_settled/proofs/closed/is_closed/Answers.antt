use Rattle.std.proofs.Common.{◌≡◌, ◌<◌, ◌≤◌, length, inl, inr, refl, sym, ◌∙◌, subst, arith}
use Rattle.std.proofs.lemmas.Bool.{false≢true, cases_lt}
use Rattle.cert_tables.specs.Automata.{table_automaton}
use Rattle.cert_settled.specs.Settling.{IsClosedIn}
use Rattle.cert_settled.proofs.closed.is_closed.Goals as goal

pub returns-then-not-branch : goal.returns-then-not-branch
returns-then-not-branch c =
    let inside : c.loop-space.space < length c.args.g.now = omega (arith, c.loop-space-test.true, c.spaces-space-end.ensures.value) in (
      (λ yes. absurd (false≢true yes)),
      (λ closed. absurd (false≢true (sym c.if-not-branch.true ∙ c.in_ok-is_closed_in.ensures.1 (closed c.loop-space.space inside)))),
    )

pub loop-space-preserved : goal.loop-space-preserved
loop-space-preserved c k below = elim (cases_lt k c.loop-space.space) [
  | inl earlier ↦ c.loop-space.invariant k earlier
  | inr from ↦ subst (IsClosedIn c.args.g.now (table_automaton c.args.nodes.now c.args.a.now) c.args.track c.args.states.now)
      (let e : c.loop-space.space ≡ k = omega (arith, from, below) in e) (c.in_ok-is_closed_in.ensures.0 c.if-not-branch.false)
]

pub returns : goal.returns
returns c =
    let all : length c.args.g.now ≤ c.loop-space.space = omega (arith, c.loop-space-test.false, c.spaces-space-end.ensures.value) in (
      (λ yes s inside. c.loop-space.invariant s (omega (arith, inside, all))),
      (λ closed. refl),
    )
