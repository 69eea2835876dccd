use Rattle.std.proofs.Common.{◌++◌, ◌∙◌, length, slice_get, option_map, option_to_list, Option, sym, ap}
use Rattle.std.specs.Option.{option_copied}
use Rattle.tree_store.specs.declared.spots.Spot.{Spot}
use Rattle.tree_store.proofs.GrowingLemmas.{IsGrown-more}
use Rattle.tree_store.proofs.grow.grown.Goals as goal

pub loop-spot-preserved : goal.loop-spot-preserved
loop-spot-preserved c =
    let spots = c.loop-spot.spots in
    let mid = c.push_spot.new.spots in
    IsGrown-more c.args.l.now.types c.args.l.now.vars c.args.store.now c.args.rows.now spots mid c.push_spot-in-Some.new.spots c.loop-spot.nodes
    c.push-in-Some.new.self c.in-Some.spot.now c.in_ok-tracks.tracks c.in_ok-left.left c.in_ok-right.right c.loop-spot.invariant
    (ap (λ n. slice_get spots n) (sym c.len.ensures) ∙ sym c.get.ensures.value ∙ ap option_copied c.in-Some.is)
    c.in_ok-tracks.ensures
    (c.in_ok-left.ensures.spots ∙ ap (λ (o : Option Spot). spots ++ option_to_list o) c.spot_below.ensures)
    (c.in_ok-left.ensures.place ∙ ap (λ (o : Option Spot). option_map (λ (x : Spot). length spots) o) c.spot_below.ensures)
    (c.in_ok-right.ensures.spots ∙ ap (λ (o : Option Spot). mid ++ option_to_list o) c.spot_after.ensures)
    (c.in_ok-right.ensures.place ∙ ap (λ (o : Option Spot). option_map (λ (x : Spot). length mid) o) c.spot_after.ensures)
    c.in_ok-right.ensures.few
    c.in_ok-push-2.ensures.ok
