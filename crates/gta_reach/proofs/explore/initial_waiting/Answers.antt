-- One initial state more.
use Rattle.std.proofs.Common.{List, refl, sym, subst}
use Rattle.std.specs.Prelude.{All}
use Rattle.std.proofs.lemmas.List.Elements.{All-nil}
use Rattle.bdd_list.specs.declared.listing.Listed.TheVariants.{Leaf}
use Rattle.gta_reach.specs.declared.explore.Waiting.{Waiting}
use Rattle.gta_reach.specs.Exploring.{IsWaiting}
use Rattle.gta_reach.proofs.ExploreLemmas.{GivesGenerated-initial, waiting-push}
use Rattle.gta_reach.proofs.explore.initial_waiting.Goals as goal

pub loop-s-init : goal.loop-s-init
loop-s-init c = subst (λ (waiting : List Waiting). All (IsWaiting c.args.form.now) waiting) (sym c.new-waiting.ensures) (All-nil (IsWaiting c.args.form.now))

pub loop-s-preserved : goal.loop-s-preserved
loop-s-preserved c =
    let form = c.args.form.now in
    let s = c.loop-s.s in
    let space = c.space.result.now in
    waiting-push form s (Leaf space.initial) (record { s = s; listed = Leaf space.initial }) c.loop-s.waiting c.push.new.self refl refl c.in_ok-push.ensures.ok
    (GivesGenerated-initial form s space c.space.ensures) c.loop-s.invariant
