use Rattle.std.proofs.Common.{ℕ, List, Contains, map, sym, subst}
use Rattle.std.specs.Prelude.{◌↔◌, IsTrue}
use Rattle.cert_theory.specs.Tables.{SetGoesTo}
use Rattle.cert_tables.specs.SetKeys.{named_set}
use Rattle.cert_tables.specs.Sets.{SetGoes}
use Rattle.cert_tables.proofs.sets.set_goes.Goals as goal

pub returns : goal.returns
returns c =
    let table = map named_set c.args.sets.now in
    let s = c.args.space in
    subst (λ (states : List ℕ). IsTrue c.set_goes_to.result ↔ SetGoes table s states) (sym c.in-Some.ensures.cases.0)
    (subst (λ (ms : List ℕ). IsTrue c.set_goes_to.result ↔ SetGoesTo table s (Contains ms) c.in-Some.whole.now) c.in_ok-members.ensures.items
    c.set_goes_to.ensures)
