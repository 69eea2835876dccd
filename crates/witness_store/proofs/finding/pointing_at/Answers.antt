use Rattle.std.proofs.Common.{◌∙◌, ap, subst, not, Contains}
use Rattle.std.specs.Prelude.{IsSome}
use Rattle.store_core.specs.declared.ids.CellId.{CellId}
use Rattle.routing_walks.specs.Sets.{Lists}
use Rattle.routing_walks.specs.Walks.{IsOfType, Walk}
use Rattle.routing_expr.specs.Searches.{Ground}
use Rattle.witness_store.specs.Only.{IsOnlyCell}
use Rattle.witness_store.proofs.FindingLemmas.{pointing_found, pointing_here, IsSome-map}
use Rattle.witness_store.proofs.finding.pointing_at.Goals as goal

pub returns : goal.returns
returns c = λ x.
    let types = c.args.types.now in
    let s = c.args.store.now in
    let cells = c.in_ok-cells.cells in
    let found = c.only_of_type-to.result in
    pointing_found types s c.args.cell c.args.field found x
    (pointing_here types s c.args.cell c.args.field c.in-Some-Pointer.target c.in-Some-Pointer.route c.in-Some-Pointer.field-0.now cells found
    c.in-Some-Pointer.ensures c.in-Some-Pointer.field-0-is
    (subst IsSome c.field.ensures (IsSome-map (λ v. v.now) c.field.result (c.is_none.ensures ∙ ap not c.if-is_none.false)))
    (subst (λ (g : Ground). Lists (Walk g.types g.store g.fields c.in-Some-Pointer.route c.args.cell) cells) c.requires c.in_ok-cells.ensures)
    (subst (λ l. IsOnlyCell (λ (d : CellId). Contains l d × IsOfType s c.in-Some-Pointer.target d) found) c.as_slice.ensures.value c.only_of_type-to.ensures))
