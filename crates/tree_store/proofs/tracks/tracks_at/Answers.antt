use Rattle.std.proofs.Common.{◌≡◌, ◌∙◌, List, [], Option, Some, sym, subst}
use Rattle.ws2s_core.specs.declared.track.Track.{Track}
use Rattle.store_core.specs.declared.ids.VarId.{VarId}
use Rattle.store_core.specs.declared.ids.CellId.{CellId}
use Rattle.tree_encode.specs.Tracks.{of_var, var_track}
use Rattle.tree_store.specs.Spots.{HasTrack, IsOnAt, Adds}
use Rattle.tree_store.proofs.LabelLemmas.{cell-tracks, root-tracks}
use Rattle.tree_store.proofs.tracks.tracks_at.Goals as goal
use Rattle.tree_store.proofs.tracks.tracks_at.Goals.{in-Some+in_ok-push_variant+in_ok-push_bools, in_default}

pub returns : goal.returns
returns c =
    let types = c.args.l.now.types in
    let vars = c.args.l.now.vars in
    let s = c.args.store.now in
    let new = c.push_vars.new.tracks in
    let Named : Option CellId → List Track → Type 0 = λ at old.
    Adds (λ (t : Track). (v : VarId) × (var_track types vars v ≡ Some t) × IsOnAt s (of_var v) at) old new in
    let All : Option CellId → List Track → Type 0 = λ at old. Adds (HasTrack types vars s at) old new in
    elim c.match-at.branch [
      | in-Some+in_ok-push_variant+in_ok-push_bools w ↦
          subst (λ (at : Option CellId). All at []) (sym w.in-Some.is)
          (subst (λ (old : List Track). All (Some w.in-Some.cell) old) c.new-tracks.ensures
          (cell-tracks types vars s w.in-Some.cell c.new-tracks.result w.push_variant.new.tracks w.push_bools.new.tracks new w.in_ok-push_variant.ensures
          w.in_ok-push_bools.ensures
          (subst (λ (at : Option CellId). Named at w.push_bools.new.tracks) w.at-is
          (subst (λ (old : List Track). Named c.match-at.at old) w.tracks-is c.in_ok-push_vars.ensures))))
      | in_default w ↦
          subst (λ (at : Option CellId). All at []) (sym w.in_default.is)
          (root-tracks types vars s [] new
          (subst (λ (at : Option CellId). Named at []) (w.at-is ∙ w.in_default.is)
          (subst (λ (old : List Track). Named c.match-at.at old) (w.tracks-is ∙ c.new-tracks.ensures) c.in_ok-push_vars.ensures)))
    ]
