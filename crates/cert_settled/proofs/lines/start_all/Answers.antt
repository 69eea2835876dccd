use Rattle.std.proofs.Common.{◌<◌, Bool, if◌then◌else◌, [], ◌∷◌, ◌++◌, length, map, get_or, inl, inr}
use Rattle.std.proofs.Common.{refl, ap, sym, ◌∙◌, arith}
use Rattle.std.proofs.lemmas.Bool.{false≢true, cases_lt}
use Rattle.std.proofs.lemmas.List.{take_all}
use Rattle.std.proofs.lemmas.Option.{slice_get-get_or}
use Rattle.cert_text.specs.declared.line.StartLine.{StartLine}
use Rattle.cert_tables.specs.Automata.{table_automaton}
use Rattle.cert_settled.specs.Settled.{start_state}
use Rattle.cert_settled.proofs.LinesLemmas.{started-none, started-new, started-next}
use Rattle.cert_settled.proofs.lines.start_all.Goals as goal

pub loop-place-init : goal.loop-place-init
loop-place-init c nodes = started-none c.args.g.now (table_automaton nodes c.args.a.now) c.args.starts.now c.new-states.result c.new-states.ensures

pub loop-place-preserved : goal.loop-place-preserved
loop-place-preserved c nodes =
    let A = table_automaton nodes c.args.a.now in
    let starts = c.args.starts.now in
    let i = c.loop-place.place in
    let none : StartLine = record { space = 0; state = 0 } in
    let line = get_or starts i none in
    let is = (c.is_start.ensures nodes).0 c.if-not-is_start.false in
    let old = c.loop-place.states in
    let is_new = c.in_ok-push.ensures.known.1 (started-new c.args.g.now A starts old i line (c.loop-place.invariant nodes) is) in
    started-next c.args.g.now A starts old c.push.new.self i line (c.loop-place.invariant nodes)
    (slice_get-get_or starts i none c.loop-place-test.true) is
    (c.in_ok-push.ensures.value ∙ ap (λ (b : Bool). if b then old ++ start_state line ∷ [] else old) is_new)

pub returns-then-not-is_start-clause-fault : goal.returns-then-not-is_start-clause-fault
returns-then-not-is_start-clause-fault c nodes =
    let starts = c.args.starts.now in
    let i = c.loop-place.place in
    let none : StartLine = record { space = 0; state = 0 } in (
      (c.loop-place.invariant nodes).right,
      inl (
        get_or starts i none,
        slice_get-get_or starts i none c.loop-place-test.true,
        (λ is. absurd (false≢true (sym c.if-not-is_start.true ∙ (c.is_start.ensures nodes).1 is))),
      ),
    )

pub returns-then-not-has_all-clause-fault : goal.returns-then-not-has_all-clause-fault
returns-then-not-has_all-clause-fault c nodes =
    let g = c.args.g.now in
    let starts = c.args.starts.now in
    let past = c.loop-place-test.false in
    let fewer : length starts < length g = elim (cases_lt (length starts) (length g)) [
      | inl below ↦ below
      | inr enough ↦ absurd (false≢true (sym c.if-not-has_all.true ∙ c.has_all.ensures.1 enough))
    ] in (
      (λ k line below at. (c.loop-place.invariant nodes).right k line (omega (arith, below, past)) at),
      inr (refl, fewer),
    )

pub returns-clause-value : goal.returns-clause-value
returns-clause-value c =
    (c.loop-place.invariant (record { atoms = []; told = [] })).told
    ∙ ap (map start_state) (take_all c.loop-place.place c.args.starts.now c.loop-place-test.false)

pub returns-clause-right : goal.returns-clause-right
returns-clause-right c nodes =
    let past = c.loop-place-test.false in
    record {
      all = c.has_all.ensures.0 c.if-not-has_all.false;
      right = λ k line below at. (c.loop-place.invariant nodes).right k line (omega (arith, below, past)) at;
    }
