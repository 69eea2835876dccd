use Rattle.std.proofs.Common.{◌↔◌, ◌∙◌, sym, ap, subst}
use Rattle.std.specs.Prelude.{Contains}
use Rattle.std.specs.Ordering.{nat_cmp}
use Rattle.std.specs.BTreeSet.{contains}
use Rattle.store_core.specs.StoreBodies.{IsKept}
use Rattle.routing_walks.specs.Sets.{Has}
use Rattle.routing_expr.proofs.RegionLemmas.{IsKept-on, cells_on}
use Rattle.routing_expr.proofs.region.store_on.Goals as goal

pub of-requires-clause-kept : goal.of-requires-clause-kept
of-requires-clause-kept c =
    subst (IsKept c.in_ok-kept.kept.items) (sym c.next.ensures.value)
    (IsKept-on c.in_ok-kept.kept.items c.args.store.now (contains nat_cmp c.in_ok-numbers.numbers) c.in_ok-kept.ensures.kept c.next.ensures.above)

pub returns : goal.returns
returns c =
    let s = c.args.store.now in
    let numbers = c.in_ok-numbers.numbers in
    c.of.ensures
    ∙ (λ i. record {
      cells = cells_on c.in_ok-kept.kept.items s (contains nat_cmp numbers) c.in_ok-kept.ensures.kept c.args.cells.now
          (λ d. subst (λ xs. Has numbers d ↔ Contains xs d) c.as_slice.ensures.value (c.in_ok-numbers.ensures d)) i;
      vars = (c.in_ok-vars.ensures ∙ c.values.ensures) i;
      next = c.next.ensures.value i;
    })
