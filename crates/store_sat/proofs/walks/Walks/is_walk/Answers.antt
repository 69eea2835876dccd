use Rattle.std.proofs.Common.{◌≡◌, ◌↔◌, ◌∙◌, Bool, IsTrue, List, Option, IfSome, Bor, sym, subst, Contains}
use Rattle.std.specs.List.{AllByRecursion}
use Rattle.store_core.specs.declared.ids.CellId.{CellId}
use Rattle.store_core.specs.declared.value.CellList.{CellList}
use Rattle.routing_walks.specs.Walks.{Walk}
use Rattle.routing_walks.specs.Sets.{Lists}
use Rattle.routing_expr.specs.Searches.{Ground}
use Rattle.store_sat.specs.declared.walks.Kept.{Kept}
use Rattle.store_sat.specs.WalksKept.{AreEnds, ground}
use Rattle.store_sat.proofs.walks.Walks.is_walk.Goals as goal

-- a cell that is looked for in a list of all that are so
looked_for : (Is : CellId → Type 0) (looked cells : List CellId) → looked ≡ cells → (c : CellId) (b : Bool) → IsTrue b ↔ Contains looked c → Lists Is cells →
    IsTrue b ↔ Is c
looked_for Is looked cells same c b h lists = (
  λ yes. (lists.members c).0 (subst (λ (xs : List CellId). Contains xs c) same (h.0 yes)),
  λ is. h.1 (subst (λ (xs : List CellId). Contains xs c) (sym same) ((lists.members c).1 is)),
)

pub returns-in-Some-clause-value : goal.returns-in-Some-clause-value
returns-in-Some-clause-value c =
    let g : Ground = c.args.self.now in
    let Ends = Walk g.types g.store g.fields c.args.route.now c.args.from in
    let all : AllByRecursion (AreEnds g) c.deref.result.now = subst (λ (xs : List Kept). AllByRecursion (AreEnds g) xs) (sym c.deref.ensures.value)
    (subst (λ (h : Ground). AllByRecursion (AreEnds h) c.self.inside.kept.items) c.self.view_is c.self.invariant.1) in
    let found : Lists Ends c.in-Some.ends.now =
    subst (λ (o : Option (Bor CellList)). IfSome o (λ ends. Lists Ends ends.now)) c.in-Some.is (c.in_ok-ends.ensures g all) in
    looked_for Ends c.as_slice.result.now c.in-Some.ends.now c.as_slice.ensures.value c.args.to c.has.result c.has.ensures found

pub invariant_of-self : goal.invariant_of-self
invariant_of-self c =
    let g = ground c.self-2.inside.types.now c.self-2.inside.store.now in (
      c.self-2.invariant.0,
      c.keep.ensures g
          (subst (λ (h : Ground). Lists (Walk h.types h.store h.fields c.args.route.now c.args.from) c.in_ok-ends-2.ends)
          (sym (c.self-2.view_is ∙ c.in_ok-ends-2.ensures.kept)) c.in_ok-ends-2.ensures.value) c.self-2.invariant.1,
    )

pub invariant_of-self-2 : goal.invariant_of-self-2
invariant_of-self-2 c =
    let g = ground c.self-2.inside.types.now c.self-2.inside.store.now in (
      c.self-2.invariant.0,
      c.keep.ensures g
          (subst (λ (h : Ground). Lists (Walk h.types h.store h.fields c.args.route.now c.args.from) c.in_ok-ends-2.ends)
          (sym (c.self-2.view_is ∙ c.in_ok-ends-2.ensures.kept)) c.in_ok-ends-2.ensures.value) c.self-2.invariant.1,
    )
