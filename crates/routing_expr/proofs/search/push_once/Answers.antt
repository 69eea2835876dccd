use Rattle.std.proofs.Common.{◌≡◌, ◌<◌, ◌≤◌, ◌-◌, length, sym, ◌∙◌, arith, Some}
use Rattle.store_core.specs.declared.ids.CellId.{CellId}
use Rattle.store_core.proofs.Bodies.{AllByRecursion-at}
use Rattle.routing_walks.proofs.GatheringLemmas.{Contains-at}
use Rattle.routing_expr.proofs.SpotLemmas.{OnOk-pushed, Lists-kept, below-last, below-none, last-none}
use Rattle.routing_expr.proofs.search.push_once.Goals as goal

pub push-requires : goal.push-requires
push-requires c = below-none c.args.list.now c.args.cell.0 (last-none c.args.list.now (sym c.in_default.ensures))

less : (a b : CellId) → a.0 ≤ b.0 → (a.0 ≡ b.0 → ⊥) → a.0 < b.0
less a b le apart = omega (arith, le, apart)

pub push-requires-2 : goal.push-requires-2
push-requires-2 c =
    below-last c.args.list.now c.in-Some.last c.args.cell.0 c.requires.rising (sym c.in-Some.ensures)
    (less c.in-Some.last c.args.cell (AllByRecursion-at (λ d. d.0 ≤ c.args.cell.0) c.args.list.now
    (length c.args.list.now - 1) c.in-Some.last c.requires.last (sym c.in-Some.ensures)) c.if-last-cell.false)

pub returns-in_default : goal.returns-in_default
returns-in_default c = OnOk-pushed c.push.result c.args.list.now c.push.new.self c.args.cell c.push.ensures.ok c.requires.rising
    (below-none c.args.list.now c.args.cell.0 (last-none c.args.list.now (sym c.in_default.ensures)))

pub returns-then-last-cell : goal.returns-then-last-cell
returns-then-last-cell c =
    Lists-kept c.args.list.now c.args.cell c.requires.rising
    (Contains-at c.args.list.now (length c.args.list.now - 1) c.args.cell (sym c.in-Some.ensures ∙ (λ i. Some (record { 0 = c.if-last-cell.true i }))))

pub returns : goal.returns
returns c = OnOk-pushed c.push-2.result c.args.list.now c.push-2.new.self c.args.cell c.push-2.ensures.ok c.requires.rising
    (below-last c.args.list.now c.in-Some.last c.args.cell.0 c.requires.rising (sym c.in-Some.ensures)
    (less c.in-Some.last c.args.cell (AllByRecursion-at (λ d. d.0 ≤ c.args.cell.0) c.args.list.now
    (length c.args.list.now - 1) c.in-Some.last c.requires.last (sym c.in-Some.ensures)) c.if-last-cell.false))
