use Rattle.std.proofs.Common.{◌≡◌, Bool, IfOk, List, Option, reverse, subst, ap₂}
use Rattle.ws2s_core.specs.declared.track.Track.{Track}
use Rattle.graph_view.specs.declared.view.Event.{Event}
use Rattle.graph_view.specs.Sights.{Sight, sight_of, at_first, var_slots}
use Rattle.graph_view.specs.Routes.{destination}
use Rattle.graph_routes.proofs.naming.first_destination.Goals as goal

pub returns : goal.returns
returns c =
    let first : sight_of c.args.l.now.vars c.first_view-first.result ≡ at_first (var_slots c.args.l.now.vars) =
    ap₂ (λ (events : List Event) (region : Option (Track × Bool)). record { slots = var_slots c.args.l.now.vars; events = reverse events; region = region })
    c.first_view-first.ensures.events c.first_view-first.ensures.region in
    subst (λ (sight : Sight). IfOk c.destination.result
    (λ formula. formula ≡ destination c.args.l.now.types sight c.args.next c.args.f c.args.target c.args.along.now c.args.a c.args.b))
    first c.destination.ensures
