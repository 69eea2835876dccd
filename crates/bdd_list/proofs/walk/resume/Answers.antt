-- What was listed goes to the node on top.
use Rattle.std.proofs.Common.{◌≡◌, List, ◌∷◌, length, sym, subst, arith}
use Rattle.bdd_list.specs.declared.listing.ListedNode.{ListedNode}
use Rattle.bdd_list.specs.declared.walk.Frame.{Frame}
use Rattle.bdd_list.specs.declared.walk.Turn.TheVariants.{Visit, Done}
use Rattle.bdd_list.specs.declared.listing.Listed.TheVariants.{Inner}
use Rattle.bdd_list.specs.Waits.{Works}
use Rattle.bdd_list.proofs.WaitsLemmas.{works-high, works-made}
use Rattle.bdd_list.proofs.walk.resume.Goals as goal

pub returns-in_ok-push-in-Low-clause-works : goal.returns-in_ok-push-in-Low-clause-works
returns-in_ok-push-in-Low-clause-works c = λ work works.
    let nodes = c.args.nodes.now.items in
    let now = subst (λ (frame : Frame). Works work nodes c.args.memo.now (frame ∷ c.args.stack.now) (Done c.args.listed)) c.in-Low.is works in
    subst (λ (stack : List Frame). Works work nodes c.args.memo.now stack (Visit c.in-Low.high)) (sym c.in_ok-push-in-Low.ensures.ok)
    (works-high work nodes c.args.memo.now c.args.stack.now c.in-Low.node c.in-Low.track c.in-Low.high c.args.listed now)

pub returns-in_ok-insert-in-High-clause-works : goal.returns-in_ok-insert-in-High-clause-works
returns-in_ok-insert-in-High-clause-works c = λ work works.
    let nodes = c.args.nodes.now.items in
    let now = subst (λ (frame : Frame). Works work nodes c.args.memo.now (frame ∷ c.args.stack.now) (Done c.args.listed)) c.in-High.is works in
    let place = c.in_ok-place-in-High.place in
    let is_place : place ≡ length nodes = (let v = c.args.nodes.now.ok.0 in let e = c.in_ok-place-in-High.ensures in omega arith) in
    subst (λ (ns : List ListedNode). Works work ns c.insert.new.self c.args.stack.now (Done (Inner place))) (sym c.in_ok-push-in-High.ensures.items)
    (works-made work nodes c.args.memo.now c.args.stack.now c.in-High.node c.in-High.track c.in-High.low c.args.listed
    c.insert.new.self place now is_place c.in_ok-insert-in-High.ensures.updates)
