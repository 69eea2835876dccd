-- Turn after turn the walk is at work for the call.
use Rattle.std.proofs.Common.{◌≡◌, ◌<◌, ◌+◌, ◌-◌, ℕ, List, [], ◌++◌, length, take, refl, sym, ◌∙◌, ap, subst, arith}
use Rattle.bdd_walk.specs.declared.walk.Frame.{Frame}
use Rattle.bdd_walk.specs.declared.walk.Turn.{Turn}
use Rattle.bdd_walk.specs.declared.walk.Turn.TheVariants.{Visit, Done}
use Rattle.bdd_walk.specs.Waits.{turn_cost, stack_cost, frame_cost}
use Rattle.bdd_walk.specs.Progress.{Call, Works}
use Rattle.bdd_nodes.proofs.CallerLemmas.{Keeps-refl}
use Rattle.bdd_walk.proofs.WaitsLemmas.{IsMemo-seen}
use Rattle.bdd_walk.proofs.CostLemmas.{stack_cost-push}
use Rattle.bdd_walk.proofs.TurnLemmas.{AnswersOnly-none, AnswersOnly-trans, AnswersOnly-part, works-start, stands-whole, whole-asked, FitsFrame-works}
use Rattle.bdd_walk.proofs.walk.join_kept.Goals as goal

smaller : (left below turn stack : ℕ) → left < below → stack ≡ below → turn ≡ 0 → left < turn + stack
smaller left below turn stack less is none = omega arith

pub loop-turn-init : goal.loop-turn-init
loop-turn-init g c =
    let call : Call = record {
      shelf = c.args.shelf.now;
      answers = g.L.LeafRule.answers c.args.rule.now;
      whole = g.W.Walk.asked c.args.walk.now c.args.shelf.now c.args.start;
    } in
    let asked = g.W.Walk.asked c.args.walk.now c.args.shelf.now in
    let is_in = g.W.Walk.is_in c.args.walk.now c.args.shelf.now in
    record {
      works = subst (λ (stack : List (Frame g.row.W-Key.Denot)).
          Works g.W.Key.PartialEq.eq asked is_in call c.args.shelf.now
          (g.L.LeafRule.answers c.args.rule.now) c.args.kept.now.memo stack (Visit c.args.start))
          (sym c.clear.ensures.items)
          (works-start g.W.Key.PartialEq.eq asked is_in call c.args.kept.now.memo c.args.start refl c.requires.is_in c.count.ensures.shelf c.requires.fits);
      only = AnswersOnly-none _ _;
      may_ask = λ states may. may;
    }

pub visit-requires-clause-may_ask : goal.visit-requires-clause-may_ask
visit-requires-clause-may_ask g c =
    let call : Call = record {
      shelf = c.args.shelf.now;
      answers = g.L.LeafRule.answers c.args.rule.now;
      whole = g.W.Walk.asked c.args.walk.now c.args.shelf.now c.args.start;
    } in
    let works = subst (λ (turn : Turn g.row.W-Key.Denot).
    Works g.W.Key.PartialEq.eq (g.W.Walk.asked c.args.walk.now call.shelf)
    (g.W.Walk.is_in c.args.walk.now call.shelf) call c.loop-turn.shelf
    (g.L.LeafRule.answers c.loop-turn.rule) c.loop-turn.kept.memo c.loop-turn.kept.stack.items turn) c.in-Visit.is
    c.loop-turn.invariant.works in
    whole-asked (g.L.LeafRule.may_ask c.loop-turn.rule) call.whole
    (g.W.Walk.asked c.args.walk.now call.shelf c.in-Visit.key)
    (g.W.Walk.asked c.args.walk.now c.loop-turn.shelf c.in-Visit.key)
    works.underway.0.part
    (g.met.W.Walk.asks_still c.args.walk.now call.shelf c.loop-turn.shelf c.in-Visit.key works.progress.keeps works.underway.0.inside)
    (λ label. c.loop-turn.invariant.may_ask (call.whole label) (c.requires.may_ask label))

pub returns-in_err-turn-in-Visit-clause-progress : goal.returns-in_err-turn-in-Visit-clause-progress
returns-in_err-turn-in-Visit-clause-progress g c =
    let call : Call = record {
      shelf = c.args.shelf.now;
      answers = g.L.LeafRule.answers c.args.rule.now;
      whole = g.W.Walk.asked c.args.walk.now c.args.shelf.now c.args.start;
    } in
    let works = subst (λ (turn : Turn g.row.W-Key.Denot).
    Works g.W.Key.PartialEq.eq (g.W.Walk.asked c.args.walk.now call.shelf)
    (g.W.Walk.is_in c.args.walk.now call.shelf) call c.loop-turn.shelf
    (g.L.LeafRule.answers c.loop-turn.rule) c.loop-turn.kept.memo c.loop-turn.kept.stack.items turn) c.in-Visit.is
    c.loop-turn.invariant.works in
    c.visit.ensures.progress call works

pub returns-in-None-clause-stands : goal.returns-in-None-clause-stands
returns-in-None-clause-stands g c =
    let call : Call = record {
      shelf = c.args.shelf.now;
      answers = g.L.LeafRule.answers c.args.rule.now;
      whole = g.W.Walk.asked c.args.walk.now c.args.shelf.now c.args.start;
    } in
    let works = subst (λ (turn : Turn g.row.W-Key.Denot).
    Works g.W.Key.PartialEq.eq (g.W.Walk.asked c.args.walk.now call.shelf)
    (g.W.Walk.is_in c.args.walk.now call.shelf) call c.loop-turn.shelf
    (g.L.LeafRule.answers c.loop-turn.rule) c.loop-turn.kept.memo c.loop-turn.kept.stack.items turn) c.in-Done.is
    c.loop-turn.invariant.works in
    let popped : c.pop.new.self.items ≡ [] = c.in-None.ensures.rest ∙ ap (λ (n : ℕ). take (n - 1) c.loop-turn.kept.stack.items) c.in-None.ensures.cases.0 in
    let empty : c.loop-turn.kept.stack.items ≡ [] = c.in-None.ensures.items ∙ ap (λ (stack : List (Frame g.row.W-Key.Denot)). stack ++ []) popped in
    stands-whole _ _ _ call c.loop-turn.shelf _ c.loop-turn.kept.memo c.loop-turn.kept.stack.items c.in-Done.made (ap length empty) works

pub resume-requires : goal.resume-requires
resume-requires g c =
    let call : Call = record {
      shelf = c.args.shelf.now;
      answers = g.L.LeafRule.answers c.args.rule.now;
      whole = g.W.Walk.asked c.args.walk.now c.args.shelf.now c.args.start;
    } in
    let asked = g.W.Walk.asked c.args.walk.now call.shelf in
    let is_in = g.W.Walk.is_in c.args.walk.now call.shelf in
    let works = subst (λ (turn : Turn g.row.W-Key.Denot).
    Works g.W.Key.PartialEq.eq asked is_in call c.loop-turn.shelf
    (g.L.LeafRule.answers c.loop-turn.rule) c.loop-turn.kept.memo c.loop-turn.kept.stack.items turn) c.in-Done.is
    c.loop-turn.invariant.works in
    let top = subst (λ (stack : List (Frame g.row.W-Key.Denot)).
    Works g.W.Key.PartialEq.eq asked is_in call c.loop-turn.shelf
    (g.L.LeafRule.answers c.loop-turn.rule) c.loop-turn.kept.memo stack (Done c.in-Done.made))
    c.in-Some.ensures.items works in
    FitsFrame-works _ _ _ call c.loop-turn.shelf _ c.loop-turn.kept.memo c.pop.new.self.items c.in-Done.made c.in-Some.frame top

pub returns-in_err-turn-in-Some-clause-progress : goal.returns-in_err-turn-in-Some-clause-progress
returns-in_err-turn-in-Some-clause-progress g c =
    let call : Call = record {
      shelf = c.args.shelf.now;
      answers = g.L.LeafRule.answers c.args.rule.now;
      whole = g.W.Walk.asked c.args.walk.now c.args.shelf.now c.args.start;
    } in
    let asked = g.W.Walk.asked c.args.walk.now call.shelf in
    let is_in = g.W.Walk.is_in c.args.walk.now call.shelf in
    let works = subst (λ (turn : Turn g.row.W-Key.Denot).
    Works g.W.Key.PartialEq.eq asked is_in call c.loop-turn.shelf
    (g.L.LeafRule.answers c.loop-turn.rule) c.loop-turn.kept.memo c.loop-turn.kept.stack.items turn) c.in-Done.is
    c.loop-turn.invariant.works in
    let top = subst (λ (stack : List (Frame g.row.W-Key.Denot)).
    Works g.W.Key.PartialEq.eq asked is_in call c.loop-turn.shelf
    (g.L.LeafRule.answers c.loop-turn.rule) c.loop-turn.kept.memo stack (Done c.in-Done.made))
    c.in-Some.ensures.items works in
    c.resume.ensures.progress asked is_in call (g.L.LeafRule.answers c.loop-turn.rule) (g.met.W.Walk.respects c.args.walk.now call.shelf) top

pub returns-in_err-turn-in-Some-clause-limit : goal.returns-in_err-turn-in-Some-clause-limit
returns-in_err-turn-in-Some-clause-limit g c = λ stopped.
    let call : Call = record {
      shelf = c.args.shelf.now;
      answers = g.L.LeafRule.answers c.args.rule.now;
      whole = g.W.Walk.asked c.args.walk.now c.args.shelf.now c.args.start;
    } in
    let asked = g.W.Walk.asked c.args.walk.now call.shelf in
    let is_in = g.W.Walk.is_in c.args.walk.now call.shelf in
    let works = subst (λ (turn : Turn g.row.W-Key.Denot).
    Works g.W.Key.PartialEq.eq asked is_in call c.loop-turn.shelf
    (g.L.LeafRule.answers c.loop-turn.rule) c.loop-turn.kept.memo c.loop-turn.kept.stack.items turn) c.in-Done.is
    c.loop-turn.invariant.works in
    let top = subst (λ (stack : List (Frame g.row.W-Key.Denot)).
    Works g.W.Key.PartialEq.eq asked is_in call c.loop-turn.shelf
    (g.L.LeafRule.answers c.loop-turn.rule) c.loop-turn.kept.memo stack (Done c.in-Done.made))
    c.in-Some.ensures.items works in
    c.resume.ensures.limit asked is_in call (g.L.LeafRule.answers c.loop-turn.rule) (g.met.W.Walk.respects c.args.walk.now call.shelf) top
    (let why = rw stopped at c.from_residual-in_err-turn-in-Some.ensures in c.in_err-turn-in-Some.was ∙ (let is = why.1 in cc))

pub loop-turn-preserved-in_ok-turn-in-Visit : goal.loop-turn-preserved-in_ok-turn-in-Visit
loop-turn-preserved-in_ok-turn-in-Visit g c =
    let call : Call = record {
      shelf = c.args.shelf.now;
      answers = g.L.LeafRule.answers c.args.rule.now;
      whole = g.W.Walk.asked c.args.walk.now c.args.shelf.now c.args.start;
    } in
    let works = subst (λ (turn : Turn g.row.W-Key.Denot).
    Works g.W.Key.PartialEq.eq (g.W.Walk.asked c.args.walk.now call.shelf)
    (g.W.Walk.is_in c.args.walk.now call.shelf) call c.loop-turn.shelf
    (g.L.LeafRule.answers c.loop-turn.rule) c.loop-turn.kept.memo c.loop-turn.kept.stack.items turn) c.in-Visit.is
    c.loop-turn.invariant.works in
    record {
      works = c.in_ok-turn-in-Visit.ensures.works call works;
      only = AnswersOnly-trans _ (g.L.LeafRule.answers c.args.rule.now) (g.L.LeafRule.answers c.loop-turn.rule) (g.L.LeafRule.answers
          c.visit.new.rule) c.loop-turn.invariant.only
          (AnswersOnly-part g.L.LeafRule.like call.whole (g.W.Walk.asked c.args.walk.now call.shelf c.in-Visit.key)
          (g.W.Walk.asked c.args.walk.now c.loop-turn.shelf c.in-Visit.key) _ _ works.underway.0.part
          (g.met.W.Walk.asks_still c.args.walk.now call.shelf c.loop-turn.shelf c.in-Visit.key works.progress.keeps works.underway.0.inside)
          c.visit.ensures.only);
      may_ask = λ states may. c.visit.ensures.may_ask_still states (c.loop-turn.invariant.may_ask states may);
    }

pub loop-turn-smaller : goal.loop-turn-smaller
loop-turn-smaller g c =
    let weight = g.W.Walk.weight c.args.walk.now in
    smaller _ (stack_cost weight c.pop.new.self.items + frame_cost weight c.in-Some.frame)
    (turn_cost weight c.loop-turn.turn) (stack_cost weight c.loop-turn.kept.stack.items)
    (c.in_ok-turn-in-Some.ensures.cost weight)
    (ap (stack_cost weight) c.in-Some.ensures.items ∙ stack_cost-push weight c.in-Some.frame c.pop.new.self.items)
    (ap (turn_cost weight) c.in-Done.is)

pub loop-turn-preserved : goal.loop-turn-preserved
loop-turn-preserved g c =
    let call : Call = record {
      shelf = c.args.shelf.now;
      answers = g.L.LeafRule.answers c.args.rule.now;
      whole = g.W.Walk.asked c.args.walk.now c.args.shelf.now c.args.start;
    } in
    let asked = g.W.Walk.asked c.args.walk.now call.shelf in
    let is_in = g.W.Walk.is_in c.args.walk.now call.shelf in
    let works = subst (λ (turn : Turn g.row.W-Key.Denot).
    Works g.W.Key.PartialEq.eq asked is_in call c.loop-turn.shelf
    (g.L.LeafRule.answers c.loop-turn.rule) c.loop-turn.kept.memo c.loop-turn.kept.stack.items turn) c.in-Done.is
    c.loop-turn.invariant.works in
    let top = subst (λ (stack : List (Frame g.row.W-Key.Denot)).
    Works g.W.Key.PartialEq.eq asked is_in call c.loop-turn.shelf
    (g.L.LeafRule.answers c.loop-turn.rule) c.loop-turn.kept.memo stack (Done c.in-Done.made))
    c.in-Some.ensures.items works in
    record {
      works = c.in_ok-turn-in-Some.ensures.works asked is_in call (g.L.LeafRule.answers c.loop-turn.rule)
          (g.met.W.Walk.respects c.args.walk.now call.shelf) top;
      only = c.loop-turn.invariant.only;
      may_ask = c.loop-turn.invariant.may_ask;
    }

pub returns-in-None-clause-fits : goal.returns-in-None-clause-fits
returns-in-None-clause-fits g c =
    let call : Call = record {
      shelf = c.args.shelf.now;
      answers = g.L.LeafRule.answers c.args.rule.now;
      whole = g.W.Walk.asked c.args.walk.now c.args.shelf.now c.args.start;
    } in
    let works = c.loop-turn.invariant.works in
    IsMemo-seen _ _ _ _ _ c.loop-turn.shelf c.loop-turn.shelf _ _ c.loop-turn.kept.memo (Keeps-refl c.loop-turn.shelf) (λ states answer was. was)
    (λ key inside. g.met.W.Walk.stays_in c.args.walk.now call.shelf c.loop-turn.shelf key works.progress.keeps inside)
    (λ key inside. g.met.W.Walk.asks_still c.args.walk.now call.shelf c.loop-turn.shelf key works.progress.keeps inside)
    works.kept

pub returns-in_err-turn-in-Visit-clause-only : goal.returns-in_err-turn-in-Visit-clause-only
returns-in_err-turn-in-Visit-clause-only g c =
    let call : Call = record {
      shelf = c.args.shelf.now;
      answers = g.L.LeafRule.answers c.args.rule.now;
      whole = g.W.Walk.asked c.args.walk.now c.args.shelf.now c.args.start;
    } in
    let works = subst (λ (turn : Turn g.row.W-Key.Denot).
    Works g.W.Key.PartialEq.eq (g.W.Walk.asked c.args.walk.now call.shelf)
    (g.W.Walk.is_in c.args.walk.now call.shelf) call c.loop-turn.shelf
    (g.L.LeafRule.answers c.loop-turn.rule) c.loop-turn.kept.memo c.loop-turn.kept.stack.items turn) c.in-Visit.is
    c.loop-turn.invariant.works in
    AnswersOnly-trans _ (g.L.LeafRule.answers c.args.rule.now) (g.L.LeafRule.answers c.loop-turn.rule) (g.L.LeafRule.answers c.visit.new.rule)
    c.loop-turn.invariant.only
    (AnswersOnly-part g.L.LeafRule.like call.whole (g.W.Walk.asked c.args.walk.now call.shelf c.in-Visit.key)
    (g.W.Walk.asked c.args.walk.now c.loop-turn.shelf c.in-Visit.key) _ _ works.underway.0.part
    (g.met.W.Walk.asks_still c.args.walk.now call.shelf c.loop-turn.shelf c.in-Visit.key works.progress.keeps works.underway.0.inside)
    c.visit.ensures.only)
