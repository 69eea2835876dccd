use Rattle.std.proofs.Common.{Bool, List, map, sym, subst}
use Rattle.std.specs.Prelude.{◌↔◌, IsTrue}
use Rattle.cert_theory.specs.Tables.{PlacedState, Lists}
use Rattle.cert_settled.specs.Settling.{placed}
use Rattle.cert_settled.proofs.StatesLemmas.{lists-any}
use Rattle.cert_settled.proofs.states.SettledStates.has.Goals as goal

pub returns : goal.returns
returns c =
    let keys = c.self.inside.states.keys in
    subst (λ (list : List PlacedState). IsTrue c.contains.result ↔ Lists list c.args.space c.args.state) c.self.view_is
    (subst (λ (b : Bool). IsTrue b ↔ Lists (map placed keys) c.args.space c.args.state) (sym c.contains.ensures)
    (lists-any keys (record { space = c.args.space; state = c.args.state })))
