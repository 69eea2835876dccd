-- A result goes to the key on top.
use Rattle.std.proofs.Common.{◌<◌, ◌+◌, List, ◌∷◌, ◌++◌, [], refl, sym, subst}
use Rattle.bdd_walk.specs.declared.walk.Frame.{Frame}
use Rattle.bdd_walk.specs.declared.walk.Turn.TheVariants.{Visit, Done}
use Rattle.bdd_walk.specs.Waits.{FitsFrame, visit_cost, stack_cost, frame_cost}
use Rattle.bdd_walk.specs.Progress.{Works}
use Rattle.bdd_walk.proofs.CostLemmas.{visit-high}
use Rattle.bdd_walk.proofs.TurnLemmas.{works-high, works-past, Exceeds-works, progress-made, works-made}
use Rattle.bdd_walk.proofs.walk.resume.Goals as goal

pub returns-in_err-made-in-High-clause-limit : goal.returns-in_err-made-in-High-clause-limit
returns-in_err-made-in-High-clause-limit g c = λ asked is_in call answers respects works stopped given completes.
    let now = subst (λ (frame : Frame g.row.K.Denot).
    Works g.K.PartialEq.eq asked is_in call c.args.shelf.now answers c.args.memo.now (c.args.stack.now.items
    ++ frame ∷ []) (Done c.args.made)) c.in-High.is works in
    let fits = subst (λ (frame : Frame g.row.K.Denot). FitsFrame c.args.shelf.now frame c.args.made) c.in-High.is c.requires in
    Exceeds-works _ _ _ call c.args.shelf.now answers _ _ c.args.made c.in-High.key c.in-High.track c.in-High.low
    now given completes fits.0 fits.1 (c.in_err-made-in-High.ensures.full.0 refl)

pub returns-in_err-insert-in-High-clause-progress : goal.returns-in_err-insert-in-High-clause-progress
returns-in_err-insert-in-High-clause-progress g c = λ asked is_in call answers respects works.
    let now = subst (λ (frame : Frame g.row.K.Denot).
    Works g.K.PartialEq.eq asked is_in call c.args.shelf.now answers c.args.memo.now (c.args.stack.now.items
    ++ frame ∷ []) (Done c.args.made)) c.in-High.is works in
    let e = c.in_ok-made-in-High.ensures in
    progress-made _ _ _ call c.args.shelf.now answers _ _ c.args.made c.in-High.key c.in-High.track c.in-High.low now
    c.make.new.self c.in_ok-made-in-High.made e.value e.valid e.kept e.only e.count e.limit e.tables e.shelf

pub returns-in_ok-push-in-Low-clause-works : goal.returns-in_ok-push-in-Low-clause-works
returns-in_ok-push-in-Low-clause-works g c = λ asked is_in call answers respects works.
    let now = subst (λ (frame : Frame g.row.K.Denot).
    Works g.K.PartialEq.eq asked is_in call c.args.shelf.now answers c.args.memo.now (c.args.stack.now.items
    ++ frame ∷ []) (Done c.args.made)) c.in-Low.is works in
    subst (λ (stack : List (Frame g.row.K.Denot)). Works g.K.PartialEq.eq asked is_in call c.args.shelf.now answers c.args.memo.now stack (Visit c.in-Low.high))
    (sym c.in_ok-push-in-Low.ensures.items)
    (works-high _ _ _ call c.args.shelf.now answers _ _ c.args.made c.in-Low.key c.in-Low.track c.in-Low.high now)

pub returns-in_ok-push-in-Low-clause-cost : goal.returns-in_ok-push-in-Low-clause-cost
returns-in_ok-push-in-Low-clause-cost g c = λ weight.
    subst (λ (frame : Frame g.row.K.Denot).
    visit_cost weight c.in-Low.high + stack_cost weight c.push.new.self.items < stack_cost weight
    c.args.stack.now.items + frame_cost weight frame)
    (sym c.in-Low.is)
    (subst (λ (stack : List (Frame g.row.K.Denot)).
    visit_cost weight c.in-Low.high + stack_cost weight stack < stack_cost weight
    c.args.stack.now.items + (visit_cost weight c.in-Low.high + 2))
    (sym c.in_ok-push-in-Low.ensures.items)
    (visit-high weight c.args.stack.now.items c.in-Low.key c.in-Low.track c.args.made c.in-Low.high))

pub returns-in_ok-insert-in-High-clause-progress : goal.returns-in_ok-insert-in-High-clause-progress
returns-in_ok-insert-in-High-clause-progress g c = λ asked is_in call answers respects works.
    let now = subst (λ (frame : Frame g.row.K.Denot).
    Works g.K.PartialEq.eq asked is_in call c.args.shelf.now answers c.args.memo.now (c.args.stack.now.items
    ++ frame ∷ []) (Done c.args.made)) c.in-High.is works in
    let e = c.in_ok-made-in-High.ensures in
    progress-made _ _ _ call c.args.shelf.now answers _ _ c.args.made c.in-High.key c.in-High.track c.in-High.low now
    c.make.new.self c.in_ok-made-in-High.made e.value e.valid e.kept e.only e.count e.limit e.tables e.shelf

pub returns-in_ok-insert-in-High-clause-works : goal.returns-in_ok-insert-in-High-clause-works
returns-in_ok-insert-in-High-clause-works g c = λ asked is_in call answers respects works.
    let now = subst (λ (frame : Frame g.row.K.Denot).
    Works g.K.PartialEq.eq asked is_in call c.args.shelf.now answers c.args.memo.now (c.args.stack.now.items
    ++ frame ∷ []) (Done c.args.made)) c.in-High.is works in
    let e = c.in_ok-made-in-High.ensures in
    works-made _ _ _ call c.args.shelf.now answers _ _ c.args.made c.in-High.key c.in-High.track c.in-High.low now
    c.make.new.self c.in_ok-made-in-High.made e.value e.valid e.kept e.only e.count e.limit e.tables e.shelf
    c.insert.new.self respects c.in_ok-insert-in-High.ensures.updates

pub returns-in_ok-insert-in-Skip-clause-works : goal.returns-in_ok-insert-in-Skip-clause-works
returns-in_ok-insert-in-Skip-clause-works g c = λ asked is_in call answers respects works.
    let now = subst (λ (frame : Frame g.row.K.Denot).
    Works g.K.PartialEq.eq asked is_in call c.args.shelf.now answers c.args.memo.now (c.args.stack.now.items
    ++ frame ∷ []) (Done c.args.made)) c.in-Skip.is works in
    works-past _ _ _ call c.args.shelf.now answers _ _ c.args.made c.in-Skip.key c.insert-in-Skip.new.self respects now c.in_ok-insert-in-Skip.ensures.updates
