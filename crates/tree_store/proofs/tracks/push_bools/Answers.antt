use Rattle.std.proofs.Common.{◌≡◌, ◌<◌, ◌∙◌, ℕ, Some, true, length, slice_get, sym, ap, subst, arith, Option}
use Rattle.std.specs.Option.{option_copied}
use Rattle.ws2s_core.specs.declared.track.Track.{Track}
use Rattle.store_core.specs.declared.ids.FieldId.{FieldId}
use Rattle.store_core.specs.declared.value.Value.TheVariants as value
use Rattle.store_core.specs.Stores.{field_value}
use Rattle.tree_encode.specs.Tracks.{bool_track}
use Rattle.tree_store.specs.Spots.{Adds, BoolIsOn}
use Rattle.tree_store.proofs.AddsLemmas.{Adds-none_yet, Adds-next, Adds-same}
use Rattle.tree_store.proofs.LabelLemmas.{bools-meant}
use Rattle.tree_store.proofs.tracks.push_bools.Goals as goal

pub loop-place-init : goal.loop-place-init
loop-place-init c =
    Adds-none_yet (λ (k : ℕ) (t : Track). BoolIsOn c.args.store.now c.args.cell (slice_get c.in-Some.row.now.bools k) t) c.args.tracks.now

pub loop-place-preserved : goal.loop-place-preserved
loop-place-preserved c =
    let n = c.loop-place.place in
    let bools = c.in-Some.row.now.bools in
    Adds-next (λ (k : ℕ) (t : Track). BoolIsOn c.args.store.now c.args.cell (slice_get bools k) t) n c.args.tracks.now c.loop-place.tracks
    c.push_bool.new.tracks c.loop-place.invariant
    (subst (λ (o : Option (FieldId × Track)). Adds (λ (t : Track). BoolIsOn c.args.store.now c.args.cell o t) c.loop-place.tracks c.push_bool.new.tracks)
    c.get.ensures.value c.in_ok-push_bool.ensures)

pub returns-after-loop-place : goal.returns-after-loop-place
returns-after-loop-place c =
    let s = c.args.store.now in
    let row = c.in-Some.row.now in
    let all : c.loop-place.place ≡ length row.bools = omega (arith, c.len-place-end.ensures) in
    Adds-same (λ (t : Track). (k : ℕ) × (k < length row.bools) × BoolIsOn s c.args.cell (slice_get row.bools k) t)
    (λ (t : Track). (f : FieldId) × (bool_track c.args.l.now.types f ≡ Some t) × (field_value s c.args.cell f ≡ Some (value.Bool true)))
    c.args.tracks.now c.loop-place.tracks
    (subst (λ (m : ℕ). Adds (λ (t : Track). (k : ℕ) × (k < m) × BoolIsOn s c.args.cell (slice_get row.bools k) t) c.args.tracks.now c.loop-place.tracks) all
    c.loop-place.invariant)
    (λ t. bools-meant c.args.l.now.types c.args.l.now.vars s c.args.rows.now c.requires c.args.cell row t
    (sym c.row_of.ensures ∙ ap option_copied c.in-Some.is))
