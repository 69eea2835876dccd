use Rattle.std.proofs.Common.{List, [], ◌∷◌, ◌++◌, true, sym, subst}
use Rattle.std.specs.Prelude.{◌↔◌, IsTrue}
use Rattle.cert_text.specs.declared.line.PairLine.{PairLine}
use Rattle.cert_tables.specs.Orders.{IsPairBefore, ArePairsInOrder}
use Rattle.cert_tables.proofs.OrdersLemmas.{order-none, order-some}
use Rattle.cert_tables.proofs.orders.pair_may_follow.Goals as goal

pub returns-in-None : goal.returns-in-None
returns-in-None c =
    let line = c.args.line in
    subst (λ (ls : List PairLine). IsTrue true ↔ ArePairsInOrder (ls ++ line ∷ [])) c.as_slice.ensures.value
    (order-none IsPairBefore c.as_slice.result.now line (subst ArePairsInOrder (sym c.as_slice.ensures.value) c.requires) c.in-None.ensures.value)

pub returns-in-Some : goal.returns-in-Some
returns-in-Some c =
    let line = c.args.line in
    subst (λ (ls : List PairLine). IsTrue c.comes_before.result ↔ ArePairsInOrder (ls ++ line ∷ [])) c.as_slice.ensures.value
    (order-some IsPairBefore c.as_slice.result.now line c.in-Some.last.now c.comes_before.result
    (subst ArePairsInOrder (sym c.as_slice.ensures.value) c.requires) c.in-Some.ensures.value c.comes_before.ensures)
