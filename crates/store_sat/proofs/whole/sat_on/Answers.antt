use Rattle.std.proofs.Common.{◌↔◌, [], IfOk, IsTrue, subst}
use Rattle.store_core.specs.Stores.{StoreMap}
use Rattle.store_logic.specs.Terms.{outside}
use Rattle.store_logic.specs.Satisfaction.{SatAll}
use Rattle.store_sat.proofs.whole.sat_on.Goals as goal

pub returns : goal.returns
returns c = subst (λ (s : StoreMap). IfOk c.judge.result (λ truth. IsTrue truth ↔ SatAll c.args.types.now [] s outside c.args.assertion.now))
    c.in_ok-on.ensures c.judge.ensures
