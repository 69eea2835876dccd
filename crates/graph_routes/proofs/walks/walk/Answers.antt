use Rattle.std.proofs.Common.{map, reverse, ap, ◌∙◌}
use Rattle.graph_view.specs.Routes.{walk_rules, names}
use Rattle.graph_view.specs.Fields.{is_reference}
use Rattle.graph_view.specs.Sights.{sight_of}
use Rattle.graph_routes.specs.Legs.{part_of, parts_of, run_on}
use Rattle.graph_routes.proofs.WalkLemmas.{run_on-whole, applied-next, run_on-next}
use Rattle.graph_routes.proofs.walks.walk.Goals as goal

pub loop-leg-init : goal.loop-leg-init
loop-leg-init c =
    ap (λ legs. run_on (walk_rules c.args.l.now.types (sight_of c.args.l.now.vars c.args.view.now) (names c.args.l.now.types (sight_of
    c.args.l.now.vars c.args.view.now)) is_reference) (map part_of legs) (reverse c.new-made.result.items)) c.as_slice-leg-items.ensures.value
    ∙ ap (λ parts. run_on (walk_rules c.args.l.now.types (sight_of c.args.l.now.vars c.args.view.now) (names c.args.l.now.types (sight_of
    c.args.l.now.vars c.args.view.now)) is_reference) parts (reverse c.new-made.result.items)) c.in_ok-legs.ensures
    ∙ ap (λ made. run_on (walk_rules c.args.l.now.types (sight_of c.args.l.now.vars c.args.view.now) (names c.args.l.now.types (sight_of
    c.args.l.now.vars c.args.view.now)) is_reference) (parts_of c.args.route.now c.args.next c.args.from c.args.to) (reverse made)) c.new-made.ensures.items
    ∙ run_on-whole c.args.l.now.types (sight_of c.args.l.now.vars c.args.view.now) (names c.args.l.now.types (sight_of c.args.l.now.vars
    c.args.view.now)) is_reference c.args.route.now c.args.next c.args.from c.args.to

pub apply-requires : goal.apply-requires
apply-requires c = applied-next (walk_rules c.args.l.now.types (sight_of c.args.l.now.vars c.args.view.now) (names c.args.l.now.types (sight_of
    c.args.l.now.vars c.args.view.now)) is_reference) part_of c.as_slice-leg-items.result.now
    c.loop-leg.leg-index c.leg-item.result c.leg-item.is c.loop-leg-test.true _ _ c.loop-leg.invariant

pub loop-leg-preserved : goal.loop-leg-preserved
loop-leg-preserved c = run_on-next (walk_rules c.args.l.now.types (sight_of c.args.l.now.vars c.args.view.now) (names c.args.l.now.types (sight_of
    c.args.l.now.vars c.args.view.now)) is_reference) part_of c.as_slice-leg-items.result.now
    c.loop-leg.leg-index c.leg-item.result c.leg-item.is c.loop-leg-test.true _ _ _ c.loop-leg.invariant c.in_ok-apply.ensures
