use Rattle.std.proofs.Common.{◌≡◌, ◌∙◌, [], List, Option, Result, IfErr, sym, ap, subst}
use Rattle.std.proofs.lemmas.Result.{IfOk-weaker}
use Rattle.whole_turns.specs.declared.pieces.Next.{Next}
use Rattle.whole_turns.specs.Standings.{left_of, form_of, front, entry_of, all_waiting}
use Rattle.store_core.specs.Tables.{TypeEntry}
use Rattle.store_trace.specs.declared.event.Event.{Event}
use Rattle.store_trace.specs.Recording.{recorded}
use Rattle.whole_run.specs.Turns.{Takes}
use Rattle.whole_trace.specs.Shown.{form_shows, left_shows}
use Rattle.whole_trace.specs.Stopping.{LeftStops}
use Rattle.whole_turns.specs.declared.activation.At.{At}
use Rattle.whole_turns.specs.declared.halted.Halted.{Halted}
use Rattle.whole_turns.specs.Turning.{Skips, turn_of}
use Rattle.whole_turns.proofs.Forms.{takes_by, takes_exit, form_found, halts_by, halts_exit, shows_by, shows_exit, shows_as}
use Rattle.whole_turns.proofs.turning.take.Goals as goal

pub take_next-requires-clause-fits : goal.take_next-requires-clause-fits
take_next-requires-clause-fits c =
    let xs = left_of (c.args.activation).left in
    let left = left_of c.next_statement.new.left in
    let skips = subst (λ (o : Option Next). Skips xs (front o left)) c.in-Some.is c.in_ok-found.ensures.same in
    form_found c.args.program.now (c.args.activation).vars.now (form_of c.in-Some.found) xs left skips c.requires.can.statements

pub take_next-requires-clause-ready : goal.take_next-requires-clause-ready
take_next-requires-clause-ready c = c.requires.can.ready

pub take_exit-requires : goal.take_exit-requires
take_exit-requires c = c.requires.can.ready

-- the end is what was recorded
pub returns-in_ok-end-in-Some-clause-goes : goal.returns-in_ok-end-in-Some-clause-goes
returns-in_ok-end-in-Some-clause-goes c =
    let xs = left_of (c.args.activation).left in
    let left = left_of c.next_statement.new.left in
    let skips = subst (λ (o : Option Next). Skips xs (front o left)) c.in-Some.is c.in_ok-found.ensures.same in
    let entry = entry_of c.args.activation in
    let waiting = all_waiting c.args.waiting.now in
    let goes = takes_by c.args.program.now entry waiting c.args.store (form_of c.in-Some.found) xs left
    (turn_of (all_waiting c.take_next.new.waiting) c.in_ok-end-in-Some.end) skips c.in_ok-end-in-Some.ensures.goes in
    IfOk-weaker c.note_shown.result _ _ (λ end same. subst (λ (e : Result At Halted). Takes c.args.program.now entry waiting c.args.store xs
    (turn_of (all_waiting c.take_next.new.waiting) e)) (sym same) goes) c.note_shown.ensures.same

pub returns-in_ok-end-in-Some-clause-stops : goal.returns-in_ok-end-in-Some-clause-stops
returns-in_ok-end-in-Some-clause-stops c =
    let xs = left_of (c.args.activation).left in
    let left = left_of c.next_statement.new.left in
    let skips = subst (λ (o : Option Next). Skips xs (front o left)) c.in-Some.is c.in_ok-found.ensures.same in
    let entry = entry_of c.args.activation in
    let stops = halts_by c.args.program.now c.args.activation c.args.store (form_of c.in-Some.found) xs left c.in_ok-end-in-Some.end skips
    c.in_ok-end-in-Some.ensures.stops in
    IfOk-weaker c.note_shown.result _ _ (λ end same. subst (λ (e : Result At Halted).
    IfErr e (λ halted. LeftStops c.args.program.now entry c.args.store xs halted.at)) (sym same) stops) c.note_shown.ensures.same

pub returns-in_ok-end-in-Some-clause-kept : goal.returns-in_ok-end-in-Some-clause-kept
returns-in_ok-end-in-Some-clause-kept c =
    IfOk-weaker c.note_shown.result _ _ (λ end same. subst (λ (e : Result At Halted).
    IfErr e (λ halted. all_waiting c.take_next.new.waiting ≡ all_waiting c.args.waiting.now)) (sym same) c.in_ok-end-in-Some.ensures.kept)
    c.note_shown.ensures.same

pub returns-in_ok-end-in-Some-clause-shows : goal.returns-in_ok-end-in-Some-clause-shows
returns-in_ok-end-in-Some-clause-shows c =
    let xs = left_of (c.args.activation).left in
    let left = left_of c.next_statement.new.left in
    let skips = subst (λ (o : Option Next). Skips xs (front o left)) c.in-Some.is c.in_ok-found.ensures.same in
    let types = (c.args.program.now).types in
    let last = (c.args.activation).proc.now.last in
    let shown = subst (λ (ts : List TypeEntry). recorded c.args.recorder.now c.in_ok-shown-in-Some.shown
    ≡ recorded c.args.recorder.now (form_shows ts c.args.store [] (form_of c.in-Some.found))) c.types.ensures c.in_ok-shown-in-Some.ensures in
    let same = shown ∙ ap (λ (l : List Event). recorded c.args.recorder.now l) (sym (shows_by types last c.args.store c.in-Some.found xs left skips)) in
    IfOk-weaker c.note_shown.result _ _ (λ end shows. shows_as c.args.recorder.now c.note_shown.new.recorder c.in_ok-shown-in-Some.shown
    (left_shows types last c.args.store xs) end same shows) c.note_shown.ensures.shows

pub returns-in_ok-end-in-None-clause-goes : goal.returns-in_ok-end-in-None-clause-goes
returns-in_ok-end-in-None-clause-goes c =
    let xs = left_of (c.args.activation).left in
    let left = left_of c.next_statement.new.left in
    let waiting = all_waiting c.args.waiting.now in
    let skips = subst (λ (o : Option Next). Skips xs (front o left)) c.in-None.is c.in_ok-found.ensures.same in
    let entry = entry_of c.args.activation in
    let goes = takes_exit c.args.program.now entry waiting c.args.store xs left (turn_of waiting c.in_ok-end-in-None.end) skips
    (c.in_ok-found.ensures.all c.in-None.is) (c.in_ok-end-in-None.ensures.goes waiting) in
    IfOk-weaker c.note_shown-in-None.result _ _ (λ end same. subst (λ (e : Result At Halted). Takes c.args.program.now entry waiting c.args.store xs
    (turn_of waiting e)) (sym same) goes) c.note_shown-in-None.ensures.same

pub returns-in_ok-end-in-None-clause-stops : goal.returns-in_ok-end-in-None-clause-stops
returns-in_ok-end-in-None-clause-stops c =
    let xs = left_of (c.args.activation).left in
    let left = left_of c.next_statement.new.left in
    let skips = subst (λ (o : Option Next). Skips xs (front o left)) c.in-None.is c.in_ok-found.ensures.same in
    let entry = entry_of c.args.activation in
    let stops = halts_exit c.args.program.now entry c.args.store xs left c.in_ok-end-in-None.end skips (c.in_ok-found.ensures.all c.in-None.is)
    c.in_ok-end-in-None.ensures.stops in
    IfOk-weaker c.note_shown-in-None.result _ _ (λ end same. subst (λ (e : Result At Halted).
    IfErr e (λ halted. LeftStops c.args.program.now entry c.args.store xs halted.at)) (sym same) stops) c.note_shown-in-None.ensures.same

pub returns-in_ok-end-in-None-clause-shows : goal.returns-in_ok-end-in-None-clause-shows
returns-in_ok-end-in-None-clause-shows c =
    let xs = left_of (c.args.activation).left in
    let left = left_of c.next_statement.new.left in
    let skips = subst (λ (o : Option Next). Skips xs (front o left)) c.in-None.is c.in_ok-found.ensures.same in
    let types = (c.args.program.now).types in
    let last = (c.args.activation).proc.now.last in
    let same = c.in_ok-shown-in-None.ensures ∙ ap (λ (l : List Event). recorded c.args.recorder.now l)
    (sym (shows_exit types last c.args.store xs left skips (c.in_ok-found.ensures.all c.in-None.is))) in
    IfOk-weaker c.note_shown-in-None.result _ _ (λ end shows. shows_as c.args.recorder.now c.note_shown-in-None.new.recorder c.in_ok-shown-in-None.shown
    (left_shows types last c.args.store xs) end same shows) c.note_shown-in-None.ensures.shows
