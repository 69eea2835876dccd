use Rattle.std.proofs.Common.{Bool, false, if◌then◌else◌, List, [], ◌∷◌, ◌++◌, map, get_or}
use Rattle.std.proofs.Common.{ap, sym, ◌∙◌, subst, arith}
use Rattle.std.proofs.lemmas.Bool.{false≢true}
use Rattle.std.proofs.lemmas.List.{take_all}
use Rattle.std.proofs.lemmas.Option.{slice_get-get_or}
use Rattle.cert_text.specs.declared.line.SettleLine.{SettleLine}
use Rattle.cert_theory.specs.Tables.{PlacedState}
use Rattle.cert_tables.specs.Automata.{table_automaton}
use Rattle.cert_settled.specs.Settled.{settle_state, SettlesNew}
use Rattle.cert_settled.proofs.LinesLemmas.{settled-none, settled-next}
use Rattle.cert_settled.proofs.lines.settle_each.Goals as goal

pub loop-place-init : goal.loop-place-init
loop-place-init c =
    settled-none c.args.g.now (table_automaton c.args.nodes.now c.args.a.now) c.args.track c.args.states.now c.args.lines.now

pub loop-place-preserved : goal.loop-place-preserved
loop-place-preserved c =
    let A = table_automaton c.args.nodes.now c.args.a.now in
    let lines = c.args.lines.now in
    let i = c.loop-place.place in
    let none : SettleLine = record { space = 0; state = 0; left = 0; right = 0; has_bound = false } in
    let line = get_or lines i none in
    let old = c.loop-place.states in
    let yes = c.if-not-is_new.false in
    settled-next c.args.g.now A c.args.track c.args.states.now lines old c.settle.new.states i line c.loop-place.invariant
    (slice_get-get_or lines i none c.loop-place-test.true) (c.in_ok-is_new.ensures.answer.0 yes)
    (c.in_ok-is_new.ensures.value ∙ ap (λ (b : Bool). if b then old ++ settle_state line ∷ [] else old) yes)

pub returns-then-not-is_new-clause-fault : goal.returns-then-not-is_new-clause-fault
returns-then-not-is_new-clause-fault c =
    let A = table_automaton c.args.nodes.now c.args.a.now in
    let lines = c.args.lines.now in
    let i = c.loop-place.place in
    let none : SettleLine = record { space = 0; state = 0; left = 0; right = 0; has_bound = false } in
    let line = get_or lines i none in (
      c.loop-place.invariant.right,
      record {
        line = line;
        at = slice_get-get_or lines i none c.loop-place-test.true;
        wrong = λ new. false≢true (sym c.if-not-is_new.true ∙ c.in_ok-is_new.ensures.answer.1
            (subst (λ (list : List PlacedState). SettlesNew c.args.g.now A c.args.track list line) (sym c.loop-place.invariant.told) new));
      },
    )

pub returns-clause-value : goal.returns-clause-value
returns-clause-value c =
    c.loop-place.invariant.told
    ∙ ap (λ (ls : List SettleLine). c.args.states.now ++ map settle_state ls)
    (take_all c.loop-place.place c.args.lines.now c.loop-place-test.false)

pub returns-clause-right : goal.returns-clause-right
returns-clause-right c k line below at =
    let past = c.loop-place-test.false in
    c.loop-place.invariant.right k line (omega (arith, below, past)) at
