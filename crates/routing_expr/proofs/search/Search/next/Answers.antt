use Rattle.std.proofs.Common.{◌≡◌, IfOk, sym, subst, refl, ap, Some, None}
use Rattle.std.proofs.lemmas.Bool.{false≢true}
use Rattle.std.proofs.lemmas.Option.{same_Some}
use Rattle.store_core.specs.declared.ids.CellId.{CellId}
use Rattle.routing_walks.specs.Gathering.{HasAll}
use Rattle.routing_walks.proofs.WalkLemmas.{Walk-Down, Walk-Up, Walk-UpAny}
use Rattle.routing_walks.proofs.GatheringLemmas.{HasAll-alike}
use Rattle.routing_expr.specs.Searches.{fields_in}
use Rattle.routing_expr.specs.Machines.{label_of, label_of_test, Takes}
use Rattle.routing_expr.proofs.StepLemmas.{IfOk-by, Takes-test}
use Rattle.routing_expr.proofs.search.Search.next.Goals as goal

pub returns-in-Up : goal.returns-in-Up
returns-in-Up c =
    let types = c.args.self.now.types.now in
    let s = c.args.self.now.store.now in
    let fields = fields_in c.args.self.now.followed in
    subst (λ step. IfOk c.parents.result (λ cells. HasAll cells.items (Takes types s fields (label_of step) c.args.from))) (sym c.in-Up.is)
    (IfOk-by c.parents.result c.parents.ensures
    (λ cells all. HasAll-alike cells.items _ _ all (λ a. let w = Walk-Up types s fields c.in-Up.name.now c.args.from a in (w.1, w.0))))

pub returns-in-UpAny : goal.returns-in-UpAny
returns-in-UpAny c =
    let types = c.args.self.now.types.now in
    let s = c.args.self.now.store.now in
    let fields = fields_in c.args.self.now.followed in
    subst (λ step. IfOk c.all_parents.result (λ cells. HasAll cells.items (Takes types s fields (label_of step) c.args.from))) (sym c.in-UpAny.is)
    (IfOk-by c.all_parents.result c.all_parents.ensures
    (λ cells all. HasAll-alike cells.items _ _ all (λ a. let w = Walk-UpAny types s fields c.args.from a in (w.1, w.0))))

pub returns-in-Down : goal.returns-in-Down
returns-in-Down c =
    let types = c.args.self.now.types.now in
    let s = c.args.self.now.store.now in
    let fields = fields_in c.args.self.now.followed in
    subst (λ step. IfOk c.just.result (λ cells. HasAll cells.items (Takes types s fields (label_of step) c.args.from))) (sym c.in-Down.is)
    (IfOk-by c.just.result c.just.ensures (λ cells all. HasAll-alike cells.items _ _ all (λ d.
    let w = Walk-Down types s fields c.in-Down.name.now c.args.from d in
    let child = c.child.ensures d in
    (λ is. w.1 (child.0 is), λ h. child.1 (w.0 h)))))

pub returns-in-Stay : goal.returns-in-Stay
returns-in-Stay c =
    let types = c.args.self.now.types.now in
    let s = c.args.self.now.store.now in
    let fields = fields_in c.args.self.now.followed in
    let test = c.in-Stay.test in
    subst (λ step. IfOk c.just-in-Stay.result (λ cells. HasAll cells.items (Takes types s fields (label_of step) c.args.from))) (sym c.in-Stay.is)
    (IfOk-by c.just-in-Stay.result c.just-in-Stay.ensures (λ cells all. HasAll-alike cells.items _ _ all (λ d. (
      λ is. subst (λ x. Takes types s fields (label_of_test test) c.args.from x) (same_Some c.args.from d is) (c.if-passes.ensures.0 refl),
      λ h. ap Some (Takes-test types s fields test c.args.from d h),
    ))))

none_some : (c : CellId) → None ≡ Some c → ⊥
none_some c e = cc

pub returns-in-Stay-2 : goal.returns-in-Stay-2
returns-in-Stay-2 c =
    let types = c.args.self.now.types.now in
    let s = c.args.self.now.store.now in
    let fields = fields_in c.args.self.now.followed in
    let test = c.in-Stay.test in
    subst (λ step. IfOk c.just-in-Stay-2.result (λ cells. HasAll cells.items (Takes types s fields (label_of step) c.args.from))) (sym c.in-Stay.is)
    (IfOk-by c.just-in-Stay-2.result c.just-in-Stay-2.ensures (λ cells all. HasAll-alike cells.items _ _ all (λ d. (
      λ is. absurd (none_some d is),
      λ h. absurd (false≢true (c.if-passes.ensures.1
          (subst (λ x. Takes types s fields (label_of_test test) c.args.from x) (sym (Takes-test types s fields test c.args.from d h)) h))),
    ))))
