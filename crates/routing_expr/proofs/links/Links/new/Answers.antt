use Rattle.std.proofs.Common.{rules, arith, sym, subst, []}
use Rattle.std.proofs.lemmas.List.Sorted.{IsNonDecreasingBy-from_sort_by_key}
use Rattle.routing_walks.specs.Gathering.{Gathers, Before}
use Rattle.routing_walks.proofs.GatheringLemmas.{Gathers-start, Gathers-next, Gathers-alike, HasAll-gathered, HasAll-alike}
use Rattle.routing_expr.specs.declared.links.Link.{Link}
use Rattle.routing_expr.specs.Searches.{fields_in, IsLink}
use Rattle.routing_expr.proofs.IndexLemmas.{CellAt, CellAt-parent, CellAt-all, HasAll-sorted}
use Rattle.routing_expr.proofs.links.Links.new.Goals as goal

pub loop-place-init : goal.loop-place-init
loop-place-init c =
    let At = CellAt c.args.types.now c.args.store.now c.args.followed in
    subst (λ l. Gathers [] l (Before At 0)) (sym c.new-links.ensures.items) (Gathers-start At [])

pub loop-place-preserved : goal.loop-place-preserved
loop-place-preserved c =
    let At = CellAt c.args.types.now c.args.store.now c.args.followed in
    Gathers-next At c.loop-place.place [] c.loop-place.links.items c.push_links.new.links.items c.loop-place.invariant
    (Gathers-alike c.loop-place.links.items c.push_links.new.links.items _ (At c.loop-place.place) c.in_ok-push_links.ensures
    (CellAt-parent c.args.types.now c.args.store.now c.args.followed c.loop-place.place c.in-Some.parent c.in-Some.ensures))

pub invariant_of-result : goal.invariant_of-result
invariant_of-result c = record {
  rising = IsNonDecreasingBy-from_sort_by_key
      (λ (x : Link). x.child.0) _ c.in_ok-sort_by_key.ensures.sorted (λ a r q k. search rules);
}

pub returns : goal.returns
returns c =
    let At = CellAt c.args.types.now c.args.store.now c.args.followed in
    HasAll-sorted (IsLink c.args.types.now c.args.store.now (fields_in c.args.followed)) c.loop-place.links.items
    c.sort_by_key.new.self.items c.in_ok-sort_by_key.ensures.permutation
    (HasAll-alike c.loop-place.links.items (Before At c.loop-place.place) (IsLink c.args.types.now c.args.store.now (fields_in c.args.followed))
    (HasAll-gathered c.loop-place.links.items (Before At c.loop-place.place) c.loop-place.invariant)
    (CellAt-all c.args.types.now c.args.store.now c.args.followed c.loop-place.place (omega (arith, c.loop-place-test.false, c.cells-place-end.ensures))))
