-- A reference is listed already, or gone down from.
use Rattle.std.proofs.Common.{◌<◌, ◌+◌, List, sym, ◌∙◌, ap, subst, arith}
use Rattle.bdd_nodes.specs.Shelf.{Contents, Splits, top_of, low_of, high_of, rank_of}
use Rattle.bdd_list.specs.declared.walk.Frame.{Frame}
use Rattle.bdd_list.specs.declared.walk.Turn.TheVariants.{Visit}
use Rattle.bdd_list.specs.Waits.{Works, visit_cost, stack_cost}
use Rattle.bdd_list.proofs.WaitsLemmas.{works-leaf, works-found, works-low}
use Rattle.bdd_list.proofs.CostLemmas.{cost-split}
use Rattle.bdd_list.proofs.walk.visit.Goals as goal

pub returns-in-Some-clause-works : goal.returns-in-Some-clause-works
returns-in-Some-clause-works c = λ work nodes is works.
    works-leaf work nodes c.args.memo.now c.args.stack.now c.args.r c.in-Some.state c.in-Some.ensures.leaf works

pub returns-in-Some-get-clause-works : goal.returns-in-Some-get-clause-works
returns-in-Some-get-clause-works c = λ work nodes is works.
    works-found work nodes c.args.memo.now c.args.stack.now c.args.r c.in-Some-get.listed.now (sym c.in-Some-get.ensures.value) works

pub returns-clause-works : goal.returns-clause-works
returns-clause-works c = λ work nodes is works.
    let r = c.args.r in
    let track = c.in-Some-top.track in
    subst (λ (stack : List Frame). Works work nodes c.args.memo.now stack (Visit c.low.result)) (sym c.in_ok-push.ensures.ok)
    (works-low work nodes c.args.memo.now c.args.stack.now r track c.low.result c.high.result
    (sym c.in_default-get.ensures.value)
    (ap (λ (s : Contents). top_of s r) is ∙ sym c.in-Some-top.ensures.value)
    (subst (λ (s : Contents). Splits s r track) (sym is) c.in-Some-top.ensures.splits)
    (c.low.ensures.value ∙ sym (ap (λ (s : Contents). low_of s r) is))
    (c.high.ensures.value ∙ sym (ap (λ (s : Contents). high_of s r) is))
    works)

pub returns-clause-cost : goal.returns-clause-cost
returns-clause-cost c =
    let r = c.args.r in
    let splits = c.in-Some-top.ensures.splits in
    let low : rank_of c.low.result < rank_of r = (let e = ap rank_of c.low.ensures.value in let f = splits.low_falls in omega arith) in
    let high : rank_of c.high.result < rank_of r = (let e = ap rank_of c.high.ensures.value in let f = splits.high_falls in omega arith) in
    let less = cost-split (rank_of c.low.result) (rank_of c.high.result) (rank_of r) low high in
    subst (λ (stack : List Frame). visit_cost c.low.result + stack_cost stack < visit_cost r + stack_cost c.args.stack.now) (sym c.in_ok-push.ensures.ok)
    (omega arith)
