use Rattle.std.proofs.Common.{List, ap, sym, ◌∙◌, subst}
use Rattle.store_core.specs.declared.ids.VarId.{VarId}
use Rattle.store_core.specs.declared.ids.CellId.{CellId}
use Rattle.store_core.specs.Tables.{TypeEntry}
use Rattle.routing_walks.specs.Regions.{IsPart}
use Rattle.hoare_split.specs.Calls.{handed_by}
use Rattle.whole_turns.proofs.calling.begin.Goals as goal

-- the cells that were reached are the part of the data arguments
pub begin_on-requires-clause-part : goal.begin_on-requires-clause-part
begin_on-requires-clause-part c =
    let vars = (c.args.activation).vars.now in
    let roots = c.as_slice-2.ensures ∙ c.in_ok-roots.ensures ∙ ap (handed_by vars) c.as_slice.ensures in
    subst (λ (types : List TypeEntry). IsPart types vars c.args.store (handed_by vars (c.args.call.now).args) c.as_slice-3.result.now) c.types.ensures
    (subst (λ (cells : List CellId). IsPart c.types.result.now vars c.args.store (handed_by vars (c.args.call.now).args) cells) (sym c.as_slice-3.ensures.value)
    (subst (λ (vs : List VarId). IsPart c.types.result.now vars c.args.store vs c.in_ok-cells.cells) roots c.in_ok-cells.ensures))
