use Rattle.std.proofs.Common.{◌≡◌, length, arith, nat_lt, subst, sym, ap, ◌∙◌}
use Rattle.std.specs.List.{list_any}
use Rattle.ws2s_core.specs.declared.track.Track.{Track}
use Rattle.ws2s_example.specs.Hanging.{IsPlaceText}
use Rattle.ws2s_example.proofs.TextsLemmas.{NotesNode-none, NotesNode-text}
use Rattle.ws2s_example.proofs.sets.note_node.Goals as goal

pub returns-in_ok-note-clause-noted : goal.returns-in_ok-note-clause-noted
returns-in_ok-note-clause-noted c =
    NotesNode-text c.args.nodes.now c.requires.tree c.args.place c.args.tracks.now c.as_slice.result.now c.args.sets.now.items c.note.new.sets.items
    (subst (IsPlaceText c.args.nodes.now c.args.place) (sym c.as_slice.ensures.value) c.in_ok-text.ensures) c.in_ok-note.ensures.noted

pub returns-else-is_any_below-clause-noted : goal.returns-else-is_any_below-clause-noted
returns-else-is_any_below-clause-noted c =
    let tracks = c.args.tracks.now in
    let long : length c.args.sets.now.items ≡ c.len-count.result = omega (arith, c.len-count.ensures) in
    NotesNode-none c.args.nodes.now c.args.place tracks c.args.sets.now.items
    (ap (λ n. list_any (λ (track : Track). nat_lt track.0 n) tracks) long ∙ sym c.is_any_below.ensures ∙ c.if-is_any_below.false)
