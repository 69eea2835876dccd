use Rattle.std.proofs.lemmas.Bool.{leb-true, le-leb}
use Rattle.std.proofs.Common.{◌≤◌, List, [], ◌∷◌, ◌++◌, true, sym, subst, leb}
use Rattle.std.specs.Prelude.{◌↔◌, IsTrue}
use Rattle.cert_text.specs.declared.line.SetLine.{SetLine}
use Rattle.cert_tables.specs.Orders.{AreSetsInOrder}
use Rattle.cert_tables.proofs.OrdersLemmas.{order-none, order-some}
use Rattle.cert_tables.proofs.orders.set_may_follow.Goals as goal

pub returns-in-None : goal.returns-in-None
returns-in-None c =
    let line = c.args.line.now in
    subst (λ (ls : List SetLine). IsTrue true ↔ AreSetsInOrder (ls ++ line ∷ [])) c.as_slice.ensures.value
    (order-none (λ (l m : SetLine). l.space ≤ m.space) c.as_slice.result.now line
    (subst AreSetsInOrder (sym c.as_slice.ensures.value) c.requires) c.in-None.ensures.value)

pub returns-in-Some : goal.returns-in-Some
returns-in-Some c =
    let line = c.args.line.now in
    let last = c.in-Some.last.now in
    subst (λ (ls : List SetLine). IsTrue (leb last.space line.space) ↔ AreSetsInOrder (ls ++ line ∷ [])) c.as_slice.ensures.value
    (order-some (λ (l m : SetLine). l.space ≤ m.space) c.as_slice.result.now line last (leb last.space line.space)
    (subst AreSetsInOrder (sym c.as_slice.ensures.value) c.requires) c.in-Some.ensures.value
    (leb-true last.space line.space, le-leb last.space line.space))
