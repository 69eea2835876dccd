use Rattle.std.proofs.Common.{rules, arith, ◌≡◌, ◌≤◌, ◌-◌, take, drop, subst, sym, Contains, ltb, leb}
use Rattle.std.specs.List.Sorted.{IsNonDecreasingBy}
use Rattle.std.proofs.lemmas.List.Sorted.{IsPartitionPoint-from_clause, IsPartitionedBy-leb, IsPartitionedBy-ltb}
use Rattle.routing_walks.specs.Gathering.{HasAll}
use Rattle.routing_expr.specs.declared.machine.Edge.{Edge}
use Rattle.routing_expr.proofs.RangeLemmas.{start-le-end, of_key}
use Rattle.routing_expr.proofs.MachineLemmas.{HasAll-edges}
use Rattle.routing_expr.proofs.machine.Machine.from.Goals as goal

pub slice_bounds-result-count : goal.slice_bounds-result-count
slice_bounds-result-count c =
    let edges = c.as_slice-edges.result.now in
    let rising = subst (λ l. IsNonDecreasingBy (λ (e : Edge). e.from) l) (sym c.as_slice-edges.ensures.value) c.args.self.now.rising in
    start-le-end (λ (e : Edge). e.from) edges c.args.place c.partition_point-start.result c.partition_point-end.result
    (IsPartitionPoint-from_clause (λ (e : Edge). ltb e.from c.args.place) edges _ c.partition_point-start.ensures.partitioned
    (IsPartitionedBy-ltb (λ (e : Edge). e.from) edges c.args.place rising) (λ a r q k. search rules))
    (IsPartitionPoint-from_clause (λ (e : Edge). leb e.from c.args.place) edges _ c.partition_point-end.ensures.partitioned
    (IsPartitionedBy-leb (λ (e : Edge). e.from) edges c.args.place rising) (λ a r q k. search rules))
    c.partition_point-start.ensures.bound c.partition_point-end.ensures.bound

pub slice_bounds-result-start : goal.slice_bounds-result-start
slice_bounds-result-start c = let le : c.partition_point-start.result ≤ c.partition_point-end.result = slice_bounds-result-count c in omega arith

pub returns : goal.returns
returns c =
    let edges = c.as_slice-edges.result.now in
    let rising = subst (λ l. IsNonDecreasingBy (λ (e : Edge). e.from) l) (sym c.as_slice-edges.ensures.value) c.args.self.now.rising in
    HasAll-edges c.args.self.now.edges.items _ c.args.place
    (subst (λ l. HasAll (take (c.partition_point-end.result - c.partition_point-start.result) (drop c.partition_point-start.result edges))
    (λ e. Contains l e × (e.from ≡ c.args.place))) c.as_slice-edges.ensures.value
    (of_key (λ (e : Edge). e.from) edges c.args.place c.partition_point-start.result c.partition_point-end.result
    (IsPartitionPoint-from_clause (λ (e : Edge). ltb e.from c.args.place) edges _ c.partition_point-start.ensures.partitioned
    (IsPartitionedBy-ltb (λ (e : Edge). e.from) edges c.args.place rising) (λ a r q k. search rules))
    (IsPartitionPoint-from_clause (λ (e : Edge). leb e.from c.args.place) edges _ c.partition_point-end.ensures.partitioned
    (IsPartitionedBy-leb (λ (e : Edge). e.from) edges c.args.place rising) (λ a r q k. search rules))
    c.partition_point-start.ensures.bound c.partition_point-end.ensures.bound))
