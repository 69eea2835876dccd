use Rattle.std.proofs.Common.{◌∙◌, ℕ, [], sym, subst, IfOk}
use Rattle.tree_store.specs.declared.spots.Spot.{Spot}
use Rattle.tree_store.specs.declared.spots.Spot.TheVariants.{Slot, Child}
use Rattle.tree_store.specs.Spots.{SpotHasTrack, Adds}
use Rattle.tree_store.proofs.tracks.label_of.Goals as goal

pub returns-in-Slot-eq0 : goal.returns-in-Slot-eq0
returns-in-Slot-eq0 c =
    let P : Spot → Type 0 = λ spot.
    IfOk c.tracks_at.result (λ tracks. Adds (SpotHasTrack c.args.l.now.types c.args.l.now.vars c.args.store.now spot) [] tracks) in
    subst (λ (spot : Spot). P spot) (sym c.in-Slot-eq0.is)
    (subst (λ (n : ℕ). P (Slot n)) (sym (sym c.in-Slot-eq0.field-0-is ∙ c.in-Slot-eq0.field-0-test)) c.tracks_at.ensures)

pub returns-in-Child-default-eq0 : goal.returns-in-Child-default-eq0
returns-in-Child-default-eq0 c =
    let P : Spot → Type 0 = λ spot.
    IfOk c.tracks_at-in-Child-default-eq0.result (λ tracks. Adds (SpotHasTrack c.args.l.now.types c.args.l.now.vars c.args.store.now spot) [] tracks) in
    subst (λ (spot : Spot). P spot) (sym c.in-Child-default-eq0.is)
    (subst (λ (n : ℕ). P (Child c.in-Child-default-eq0.cell n)) (sym (sym c.in-Child-default-eq0.field-1-is ∙ c.in-Child-default-eq0.field-1-test))
    c.tracks_at-in-Child-default-eq0.ensures)
