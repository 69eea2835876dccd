use Rattle.std.proofs.Common.{◌≡◌, ◌∙◌, [], subst}
use Rattle.store_sat.specs.Tasks.{known, question_of, spot_of}
use Rattle.store_sat.specs.Steps.{StepsTo, TurnsTo}
use Rattle.store_sat.proofs.StepLemmas.{stands_first, ready_first, stands_next, stands_last}
use Rattle.store_sat.proofs.judge.Judge.judge.Goals as goal

pub loop-walks-init : goal.loop-walks-init
loop-walks-init c = record {
  same = stands_first c.args.self.now.types.now c.args.self.now.store.now c.args.assertion.now _ _ c.new.ensures c.new-2.ensures;
  ready = (tt, ready_first c.args.self.now.store.now _ c.new.ensures);
  on = c.new-walks.ensures;
}

pub loop-walks-preserved : goal.loop-walks-preserved
loop-walks-preserved c =
    let types = c.args.self.now.types.now in
    let s = c.args.self.now.store.now in
    let q = question_of s c.loop-walks.task in
    let step : StepsTo types s c.loop-walks.spine q c.turn.new.spine c.in-On.next =
    subst (TurnsTo types s c.loop-walks.spine q c.turn.new.spine) c.in-On.is c.in_ok-next.ensures.turns in
    record {
      same = stands_next types s _ (spot_of s c.loop-walks.spine) (spot_of s c.turn.new.spine) q (question_of s c.in-On.next) step c.loop-walks.invariant.same;
      ready = step.ordered;
      on = c.in_ok-next.ensures.kept ∙ c.loop-walks.invariant.on;
    }

pub loop-walks-smaller : goal.loop-walks-smaller
loop-walks-smaller c =
    let types = c.args.self.now.types.now in
    let s = c.args.self.now.store.now in
    let q = question_of s c.loop-walks.task in
    let step : StepsTo types s c.loop-walks.spine q c.turn.new.spine c.in-On.next =
    subst (TurnsTo types s c.loop-walks.spine q c.turn.new.spine) c.in-On.is c.in_ok-next.ensures.turns in
    step.nearer

pub returns-in-Done : goal.returns-in-Done
returns-in-Done c =
    let types = c.args.self.now.types.now in
    let s = c.args.self.now.store.now in
    let q = question_of s c.loop-walks.task in
    let last : (q ≡ known c.in-Done.truth) × (c.loop-walks.spine.frames ≡ []) =
    subst (TurnsTo types s c.loop-walks.spine q c.turn.new.spine) c.in-Done.is c.in_ok-next.ensures.turns in
    stands_last types s _ c.loop-walks.spine.frames c.loop-walks.spine.bound q c.in-Done.truth last.0 last.1 c.loop-walks.invariant.same
