use Rattle.std.proofs.Common.{◌≡◌, ◌∙◌, not, List, IfOk, ap, subst}
use Rattle.std.specs.FinMap.{retain_keys}
use Rattle.store_core.specs.declared.value.Value.{Value}
use Rattle.store_core.specs.Stores.{StoreMap}
use Rattle.routing_walks.specs.Regions.{has_number}
use Rattle.whole_handing.proofs.handing.rest_store.Goals as goal

pub returns : goal.returns
returns c =
    let s = c.args.store.now in
    let made : List Value → StoreMap = λ values. record s { cells = retain_keys s.cells (λ number. not (has_number c.args.cells.now number)); vars = values } in
    subst (λ (t : StoreMap). IfOk c.store_of.result (λ r. r ≡ t)) (ap made (c.in_ok-values.ensures ∙ c.values.ensures)) c.store_of.ensures
