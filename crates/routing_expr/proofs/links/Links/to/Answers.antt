use Rattle.std.proofs.Common.{rules, arith, ◌≡◌, ◌≤◌, ◌-◌, take, drop, subst, sym, Contains, ltb, leb}
use Rattle.std.specs.List.Sorted.{IsNonDecreasingBy}
use Rattle.std.proofs.lemmas.List.Sorted.{IsPartitionPoint-from_clause, IsPartitionedBy-leb, IsPartitionedBy-ltb}
use Rattle.routing_walks.specs.Gathering.{HasAll}
use Rattle.routing_walks.proofs.GatheringLemmas.{HasAll-alike}
use Rattle.routing_expr.specs.declared.links.Link.{Link}
use Rattle.routing_expr.proofs.RangeLemmas.{start-le-end, of_key}
use Rattle.routing_expr.proofs.links.Links.to.Goals as goal

pub slice_bounds-result-count : goal.slice_bounds-result-count
slice_bounds-result-count c =
    let links = c.as_slice-links.result.now in
    let rising = subst (λ l. IsNonDecreasingBy (λ (x : Link). x.child.0) l) (sym c.as_slice-links.ensures.value) c.args.self.now.rising in
    start-le-end (λ (x : Link). x.child.0) links c.args.child.0 c.partition_point-start.result c.partition_point-end.result
    (IsPartitionPoint-from_clause (λ (x : Link). ltb x.child.0 c.args.child.0) links _ c.partition_point-start.ensures.partitioned
    (IsPartitionedBy-ltb (λ (x : Link). x.child.0) links c.args.child.0 rising) (λ a r q k. search rules))
    (IsPartitionPoint-from_clause (λ (x : Link). leb x.child.0 c.args.child.0) links _ c.partition_point-end.ensures.partitioned
    (IsPartitionedBy-leb (λ (x : Link). x.child.0) links c.args.child.0 rising) (λ a r q k. search rules))
    c.partition_point-start.ensures.bound c.partition_point-end.ensures.bound

pub slice_bounds-result-start : goal.slice_bounds-result-start
slice_bounds-result-start c = let le : c.partition_point-start.result ≤ c.partition_point-end.result = slice_bounds-result-count c in omega arith

pub returns : goal.returns
returns c =
    let links = c.as_slice-links.result.now in
    let rising = subst (λ l. IsNonDecreasingBy (λ (x : Link). x.child.0) l) (sym c.as_slice-links.ensures.value) c.args.self.now.rising in
    HasAll-alike _ (λ x. Contains c.args.self.now.links.items x × (x.child.0 ≡ c.args.child.0))
    (λ x. Contains c.args.self.now.links.items x × (x.child ≡ c.args.child))
    (subst (λ l. HasAll (take (c.partition_point-end.result - c.partition_point-start.result) (drop c.partition_point-start.result links))
    (λ x. Contains l x × (x.child.0 ≡ c.args.child.0))) c.as_slice-links.ensures.value
    (of_key (λ (x : Link). x.child.0) links c.args.child.0 c.partition_point-start.result c.partition_point-end.result
    (IsPartitionPoint-from_clause (λ (x : Link). ltb x.child.0 c.args.child.0) links _ c.partition_point-start.ensures.partitioned
    (IsPartitionedBy-ltb (λ (x : Link). x.child.0) links c.args.child.0 rising) (λ a r q k. search rules))
    (IsPartitionPoint-from_clause (λ (x : Link). leb x.child.0 c.args.child.0) links _ c.partition_point-end.ensures.partitioned
    (IsPartitionedBy-leb (λ (x : Link). x.child.0) links c.args.child.0 rising) (λ a r q k. search rules))
    c.partition_point-start.ensures.bound c.partition_point-end.ensures.bound))
    (λ x. (λ h. (h.0, (λ i. record { 0 = h.1 i })), λ h. (h.0, (λ i. (h.1 i).0))))
