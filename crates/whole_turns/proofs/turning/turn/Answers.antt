use Rattle.std.proofs.Common.{List, Result, refl, sym, ap, subst}
use Rattle.store_trace.specs.Recording.{recorded}
use Rattle.whole_run.specs.States.{exited, goes}
use Rattle.whole_run.specs.Turns.{Takes}
use Rattle.whole_trace.specs.Shown.{left_shows}
use Rattle.whole_turns.specs.declared.activation.At.{At}
use Rattle.whole_turns.specs.declared.activation.Suspended.{Suspended}
use Rattle.whole_turns.specs.declared.halted.Halted.{Halted}
use Rattle.whole_turns.specs.declared.turning.Turned.TheVariants as turned
use Rattle.whole_turns.specs.declared.ending.RunEnd.TheVariants as end
use Rattle.whole_turns.specs.Standings.{left_of, entry_of, all_waiting, state_of}
use Rattle.whole_turns.specs.Turning.{CanTurn, ShowsAs, TurnsAs, turn_of}
use Rattle.whole_turns.proofs.Halting.{halted_at, kept_at}
use Rattle.whole_turns.proofs.turning.turn.Goals as goal

pub take-requires-clause-can : goal.take-requires-clause-can
take-requires-clause-can c =
    subst (λ (at : At). CanTurn c.args.program.now (state_of at (all_waiting c.args.waiting.now))) c.in-Running.is c.requires.can

pub returns-in-Ok : goal.returns-in-Ok
returns-in-Ok c =
    let a = c.in-Running.activation in
    let ws = all_waiting c.args.waiting.now in
    let new = all_waiting c.take.new.waiting in
    let program = c.args.program.now in
    subst (λ (at : At). TurnsAs program (state_of at ws) new c.args.recorder.now c.take.new.recorder (turned.Goes c.in-Ok.after)) (sym c.in-Running.is) (
      subst (λ (end : Result At Halted). Takes program (entry_of a) ws c.in-Running.store (left_of a.left) (turn_of new end)) c.in-Ok.is
          c.in_ok-after-in-Running.ensures.goes,
      subst (ShowsAs c.args.recorder.now c.take.new.recorder (left_shows program.types (entry_of a).proc.last c.in-Running.store (left_of a.left))) c.in-Ok.is
          c.in_ok-after-in-Running.ensures.shows,
    )

pub returns-in-Err : goal.returns-in-Err
returns-in-Err c =
    let a = c.in-Running.activation in
    let ws = all_waiting c.args.waiting.now in
    let new = all_waiting c.take.new.waiting in
    let program = c.args.program.now in
    let halted = c.in-Err.halted in
    subst (λ (at : At). TurnsAs program (state_of at ws) new c.args.recorder.now c.take.new.recorder
    (turned.Ends (end.Fail halted.cause halted.line) halted.at)) (sym c.in-Running.is) (
      (
        subst (λ (end : Result At Halted). Takes program (entry_of a) ws c.in-Running.store (left_of a.left) (turn_of new end)) c.in-Err.is
            c.in_ok-after-in-Running.ensures.goes,
        halted_at program (entry_of a) c.in-Running.store (left_of a.left) c.in_ok-after-in-Running.field-0 halted c.in-Err.is
            c.in_ok-after-in-Running.ensures.stops,
      ),
      kept_at ws new c.in_ok-after-in-Running.field-0 halted c.in-Err.is c.in_ok-after-in-Running.ensures.kept,
      subst (ShowsAs c.args.recorder.now c.take.new.recorder (left_shows program.types (entry_of a).proc.last c.in-Running.store (left_of a.left))) c.in-Err.is
          c.in_ok-after-in-Running.ensures.shows,
    )

pub give_back-requires : goal.give_back-requires
give_back-requires c =
    subst (λ (ws : List Suspended). CanTurn c.args.program.now (exited c.in-Exited.store (all_waiting ws))) c.in-Some.ensures
    (subst (λ (at : At). CanTurn c.args.program.now (state_of at (all_waiting c.args.waiting.now))) c.in-Exited.is c.requires.can)

-- the return is recorded
pub returns-in_ok-note_return-in-Some : goal.returns-in_ok-note_return-in-Some
returns-in_ok-note_return-in-Some c =
    let store = c.in-Exited.store in
    let program = c.args.program.now in
    let new = all_waiting c.pop.new.self in
    let after = c.in_ok-after-in-Some.after in
    subst (λ (at : At). TurnsAs program (state_of at (all_waiting c.args.waiting.now)) new c.args.recorder.now c.note_return.new.recorder (turned.Goes after))
    (sym c.in-Exited.is)
    (subst (λ (ws : List Suspended). TurnsAs program (exited store (all_waiting ws)) new c.args.recorder.now c.note_return.new.recorder (turned.Goes after))
    (sym c.in-Some.ensures) (c.in_ok-after-in-Some.ensures new, c.in_ok-note_return-in-Some.ensures))

pub returns-in-None : goal.returns-in-None
returns-in-None c =
    let store = c.in-Exited.store in
    let program = c.args.program.now in
    let new = all_waiting c.pop.new.self in
    subst (λ (at : At). TurnsAs program (state_of at (all_waiting c.args.waiting.now)) new c.args.recorder.now c.args.recorder.now (turned.Ends end.Exit store))
    (sym c.in-Exited.is)
    (subst (λ (ws : List Suspended). TurnsAs program (exited store (all_waiting ws)) new c.args.recorder.now c.args.recorder.now (turned.Ends end.Exit store))
    (sym c.in-None.ensures.0) (refl, ap all_waiting c.in-None.ensures.1, refl))
