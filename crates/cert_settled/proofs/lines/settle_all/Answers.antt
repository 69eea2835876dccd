use Rattle.std.proofs.Common.{List, ◌++◌, length, map, ap, ◌∙◌, subst, sym}
use Rattle.std.proofs.lemmas.Bool.{false≢true}
use Rattle.cert_theory.specs.Tables.{PlacedState}
use Rattle.cert_tables.specs.Automata.{table_automaton}
use Rattle.cert_settled.specs.Settling.{IsClosedUnder}
use Rattle.cert_settled.specs.Settled.{settle_state, AreSettles, IsFirstFault, IsSettleFault}
use Rattle.cert_settled.proofs.LinesLemmas.{start-fault, settle-fault, handed-on}
use Rattle.cert_settled.proofs.lines.settle_all.Goals as goal

pub returns-clause-value : goal.returns-clause-value
returns-clause-value c =
    c.in_ok-settle_each.ensures.value ∙ ap (λ (list : List PlacedState). list ++ map settle_state c.args.lines.now) c.in_ok-states.ensures.value

pub returns-clause-right : goal.returns-clause-right
returns-clause-right c =
    let g = c.args.g.now in
    let A = table_automaton c.args.nodes.now c.args.a.now in
    let lines = c.args.lines.now in
    record {
      has_starts = c.in_ok-states.ensures.right c.args.nodes.now;
      right = subst (λ (list : List PlacedState). AreSettles g A c.args.track list lines (length lines)) c.in_ok-states.ensures.value
          c.in_ok-settle_each.ensures.right;
      closed = subst (IsClosedUnder g A c.args.track) (returns-clause-value c) (c.in_ok-is_closed.ensures.0 c.if-not-branch.false);
    }

pub returns-in_err-states-clause-fault : goal.returns-in_err-states-clause-fault
returns-in_err-states-clause-fault c =
    let g = c.args.g.now in
    let A = table_automaton c.args.nodes.now c.args.a.now in
    let f = c.in_err-states.field-0.0 in
    handed-on (IsFirstFault g A c.args.track c.args.starts.now c.args.lines.now) c.from_residual.result f c.from_residual.ensures.1
    (start-fault g A c.args.track c.args.starts.now c.args.lines.now f (c.in_err-states.ensures.fault c.args.nodes.now))

pub returns-in_err-settle_each-clause-fault : goal.returns-in_err-settle_each-clause-fault
returns-in_err-settle_each-clause-fault c =
    let g = c.args.g.now in
    let A = table_automaton c.args.nodes.now c.args.a.now in
    let f = c.in_err-settle_each.field-0.0 in
    handed-on (IsFirstFault g A c.args.track c.args.starts.now c.args.lines.now) c.from_residual-in_err-settle_each.result f
    c.from_residual-in_err-settle_each.ensures.1
    (settle-fault g A c.args.track c.args.starts.now c.args.lines.now f (c.in_ok-states.ensures.right c.args.nodes.now)
    (subst (λ (list : List PlacedState). IsSettleFault g A c.args.track list c.args.lines.now f) c.in_ok-states.ensures.value
    c.in_err-settle_each.ensures.fault))

pub returns-then-not-branch-clause-fault : goal.returns-then-not-branch-clause-fault
returns-then-not-branch-clause-fault c =
    let g = c.args.g.now in
    let A = table_automaton c.args.nodes.now c.args.a.now in
    let lines = c.args.lines.now in
    let told = c.in_ok-settle_each.ensures.value
    ∙ ap (λ (list : List PlacedState). list ++ map settle_state lines) c.in_ok-states.ensures.value in (
      c.in_ok-states.ensures.right c.args.nodes.now,
      subst (λ (list : List PlacedState). AreSettles g A c.args.track list lines (length lines)) c.in_ok-states.ensures.value
          c.in_ok-settle_each.ensures.right,
      (λ closed. false≢true (sym c.if-not-branch.true ∙ c.in_ok-is_closed.ensures.1 (subst (IsClosedUnder g A c.args.track) (sym told) closed))),
    )
