use Rattle.std.proofs.Common.{◌∙◌, sym, subst}
use Rattle.store_core.specs.StoreBodies.{IsKept}
use Rattle.routing_expr.proofs.RegionLemmas.{IsKept-on}
use Rattle.whole_handing.specs.Handed.{is_on}
use Rattle.whole_handing.proofs.CellLemmas.{retained}
use Rattle.whole_handing.proofs.cells.store_of.Goals as goal

pub of-requires-clause-kept : goal.of-requires-clause-kept
of-requires-clause-kept c =
    subst (IsKept c.in_ok-kept.kept.items) (sym c.next.ensures.value)
    (IsKept-on c.in_ok-kept.kept.items c.args.store.now (is_on c.args.cells.now c.args.inside) c.in_ok-kept.ensures.kept c.next.ensures.above)

pub returns : goal.returns
returns c =
    let s = c.args.store.now in
    let test = is_on c.args.cells.now c.args.inside in
    let kept = IsKept-on c.in_ok-kept.kept.items s test c.in_ok-kept.ensures.kept c.next.ensures.above in
    c.of.ensures
    ∙ (λ i. record {
      cells = retained c.in_ok-kept.kept.items s test c.in_ok-kept.ensures.kept kept.rising i;
      vars = c.args.vars;
      next = c.next.ensures.value i;
    })
