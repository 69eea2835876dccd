use Rattle.std.proofs.Common.{◌≡◌, List, IfOk, ap, subst}
use Rattle.std.specs.FinMap.{retain_keys}
use Rattle.store_core.specs.declared.value.Value.{Value}
use Rattle.store_core.specs.Stores.{StoreMap}
use Rattle.routing_walks.specs.Regions.{has_number}
use Rattle.whole_handing.proofs.handing.handed_store.Goals as goal

pub returns : goal.returns
returns c =
    let s = c.args.store.now in
    let made : List Value → StoreMap = λ values. record { cells = retain_keys s.cells (has_number c.args.cells.now); vars = values; next = s.next } in
    subst (λ (t : StoreMap). IfOk c.store_of.result (λ r. r ≡ t)) (ap made c.in_ok-values.ensures) c.store_of.ensures
