use Rattle.std.proofs.Common.{◌∷◌, [], take, get_or, subst, sym}
use Rattle.std.proofs.lemmas.List.{take_more}
use Rattle.ws2s_example.specs.Texts.{Notes}
use Rattle.ws2s_example.proofs.TextsLemmas.{Notes-then}
use Rattle.ws2s_example.proofs.sets.note.Goals as goal

pub loop-track-preserved : goal.loop-track-preserved
loop-track-preserved c =
    let tracks = c.args.tracks.now in
    let track = get_or tracks c.loop-track.track-index (record { 0 = 0 }) in
    let both = Notes-then (take c.loop-track.track-index tracks) (track ∷ []) c.args.text.now c.args.sets.now.items c.loop-track.sets.items
    c.note_track.new.sets.items c.loop-track.invariant.0 c.in_ok-note_track.ensures.noted in (
      subst (λ ts. Notes ts c.args.text.now c.args.sets.now.items c.note_track.new.sets.items)
          (sym (take_more tracks c.loop-track.track-index (record { 0 = 0 }) c.loop-track-test.true)) both,
      c.in_ok-note_track.ensures.ascend,
    )
