use Rattle.std.proofs.Common.{Bool, true, false, map, refl, sym, ap, subst}
use Rattle.store_sat.specs.declared.task.Join.{Join}
use Rattle.store_sat.specs.declared.task.Join.TheVariants as join
use Rattle.store_sat.specs.Tasks.{known, joined, negated, question_of, surround_of, spot_of}
use Rattle.store_sat.specs.Steps.{Steps, with_frame}
use Rattle.store_sat.proofs.StepLemmas.{steps_as, close_true, close_And-false, close_Or-false, close_Imp-false, close_Iff-false}
use Rattle.store_sat.proofs.judge.Judge.close_with.Goals as goal

pub returns-then-truth : goal.returns-then-truth
returns-then-truth c =
    let types = c.args.self.now.types.now in
    let s = c.args.self.now.store.now in
    let spot = spot_of s c.args.spine.now in
    let q = question_of s c.args.other in
    steps_as types s (with_frame (joined c.args.join q) spot) spot spot _ _ _ _ (ap known c.if-truth.true) refl c.close_true.ensures
    (close_true types s spot c.requires.1.1 q c.requires.1.0 c.args.join)

pub returns-in-And : goal.returns-in-And
returns-in-And c =
    let types = c.args.self.now.types.now in
    let s = c.args.self.now.store.now in
    let spot = spot_of s c.args.spine.now in
    let q = question_of s c.args.other in
    subst (λ (j : Join). Steps types s (with_frame (joined j q) spot) (known c.args.truth) spot (known false)) (sym c.in-And.is)
    (subst (λ (b : Bool). Steps types s (with_frame (joined join.And q) spot) (known b) spot (known false)) (sym c.if-truth.false)
    (close_And-false types s spot c.requires.1.1 q c.requires.1.0))

pub returns-in-Or : goal.returns-in-Or
returns-in-Or c =
    let types = c.args.self.now.types.now in
    let s = c.args.self.now.store.now in
    let spot = spot_of s c.args.spine.now in
    let q = question_of s c.args.other in
    subst (λ (j : Join). Steps types s (with_frame (joined j q) spot) (known c.args.truth) spot q) (sym c.in-Or.is)
    (subst (λ (b : Bool). Steps types s (with_frame (joined join.Or q) spot) (known b) spot q) (sym c.if-truth.false)
    (close_Or-false types s spot c.requires.1.1 q c.requires.1.0))

pub returns-in-Imp : goal.returns-in-Imp
returns-in-Imp c =
    let types = c.args.self.now.types.now in
    let s = c.args.self.now.store.now in
    let spot = spot_of s c.args.spine.now in
    let q = question_of s c.args.other in
    subst (λ (j : Join). Steps types s (with_frame (joined j q) spot) (known c.args.truth) spot (known true)) (sym c.in-Imp.is)
    (subst (λ (b : Bool). Steps types s (with_frame (joined join.Imp q) spot) (known b) spot (known true)) (sym c.if-truth.false)
    (close_Imp-false types s spot c.requires.1.1 q c.requires.1.0))

pub returns : goal.returns
returns c =
    let types = c.args.self.now.types.now in
    let s = c.args.self.now.store.now in
    let spot = spot_of s c.args.spine.now in
    let q = question_of s c.args.other in
    steps_as types s (with_frame (joined c.args.join q) spot) (with_frame negated spot) _ _ _ _ _ (ap known c.if-truth.false)
    (λ i. record { frames = map (surround_of s) (c.in_ok-push-in-Iff.ensures.ok i); bound = c.args.spine.now.bound }) refl
    (subst (λ (j : Join). Steps types s (with_frame (joined j q) spot) (known false) (with_frame negated spot) q) (sym c.in-Iff.is)
    (close_Iff-false types s spot c.requires.1.1 q c.requires.1.0))
