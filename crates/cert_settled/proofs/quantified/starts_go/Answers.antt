use Rattle.std.proofs.Common.{ℕ, List, map, Contains, refl, subst}
use Rattle.std.specs.Prelude.{◌↔◌, IsTrue}
use Rattle.cert_theory.specs.Tables.{PlacedState, SetGoesTo, Lists}
use Rattle.cert_tables.specs.Automata.{initial_in}
use Rattle.cert_tables.specs.SetKeys.{named_set}
use Rattle.cert_tables.proofs.SetsLemmas.{to-same, iff-back}
use Rattle.cert_settled.proofs.quantified.starts_go.Goals as goal

pub returns : goal.returns
returns c =
    let table = map named_set c.args.sets.now in
    let s = c.args.space in
    let members = c.in_ok-members.members.items in
    let listed : (q : ℕ) → Contains members q ↔ Lists c.args.settled.now s q =
    subst (λ (list : List PlacedState). (q : ℕ) → Contains members q ↔ Lists list s q) c.as_slice.ensures c.in_ok-members.ensures in
    let start = initial_in c.args.c.now s in
    let is : IsTrue c.set_goes_to.result ↔ SetGoesTo table s (Contains members) start =
    subst (λ (z : ℕ). IsTrue c.set_goes_to.result ↔ SetGoesTo table s (Contains members) z) c.initial.ensures c.set_goes_to.ensures in (
      (λ yes. to-same table s (Contains members) (Lists c.args.settled.now s) start start (is.0 yes) listed refl),
      (λ goes. is.1 (to-same table s (Lists c.args.settled.now s) (Contains members) start start goes (λ q. iff-back (listed q)) refl)),
    )
