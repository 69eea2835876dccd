-- One state after the other.
use Rattle.std.proofs.Common.{◌≡◌, ℕ, ◌+◌, ◌<◌, List, length, ◌⊎◌, inl, inr, sym, ◌∙◌, subst, arith}
use Rattle.std.specs.Prelude.{slice_index}
use Rattle.std.proofs.lemmas.Bool.{cases_lt}
use Rattle.gta_classes.specs.Splitting.{IsStep}
use Rattle.gta_classes.proofs.ChosenLemmas.{marked-inside}
use Rattle.gta_classes.proofs.SplitLemmas.{Splits-same, Splits-skip, Splits-step, AreClasses-all, IsSplit-all}
use Rattle.gta_classes.proofs.splitting.split.Goals as goal
use Rattle.gta_classes.proofs.splitting.split.Goals.{then-reached-state+in_ok-class, else-reached-state}

-- a state below the next one is below, or is the one
below-next : (state q : ℕ) → q < state + 1 → (q < state) ⊎ (q ≡ state)
below-next state q below = elim (cases_lt q state) [
  | inl before ↦ inl before
  | inr last ↦ inr (omega arith)
]

pub loop-state-preserved : goal.loop-state-preserved
loop-state-preserved c =
    let reached = c.args.reached.now in
    let ids = c.args.ids.now in
    let old = c.args.classes.now in
    let first = c.args.representatives.now in
    let state = c.loop-state.state in
    let made = c.loop-state.made in
    let reps = c.loop-state.representatives in
    let now = c.loop-state.classes in
    let inv = c.loop-state.invariant in
    let after = c.if-reached-state in
    elim c.if-reached-state.branch [
      | then-reached-state+in_ok-class w ↦
          Splits-same reached ids old first _ after.made _ after.representatives _ after.classes (λ (q : ℕ). q < state + 1)
          (sym w.made-is) (sym w.representatives-is) (sym (w.classes-is ∙ w.set.ensures))
          (Splits-step reached ids old first made reps now state (λ (q : ℕ). q < state) (λ (q : ℕ). q < state + 1) (λ q before. omega arith) (omega arith)
          (below-next state) c.requires.classes inv w.if-reached-state.true (inv.ahead state (λ before. absurd (omega arith)))
          w.class_of.new.made w.class_of.new.representatives w.in_ok-class.class
          (subst (λ (xs : List ℕ). IsStep ids state (slice_index xs state) made reps w.class_of.new.made w.class_of.new.representatives w.in_ok-class.class)
          w.as_slice.ensures w.in_ok-class.ensures))
      | else-reached-state w ↦
          Splits-same reached ids old first _ after.made _ after.representatives _ after.classes (λ (q : ℕ). q < state + 1)
          (sym w.made-is) (sym w.representatives-is) (sym w.classes-is)
          (Splits-skip reached ids old first made reps now state (λ (q : ℕ). q < state) (λ (q : ℕ). q < state + 1) (λ q before. omega arith) (omega arith)
          (below-next state) c.requires.classes inv w.if-reached-state.false)
    ]

pub returns-clause-classes : goal.returns-clause-classes
returns-clause-classes c =
    let reached = c.args.reached.now in
    let end : c.loop-state.state ≡ length reached = (let t = c.loop-state-test.false in let a = c.loop-state.auto.state-end in omega arith) in
    AreClasses-all reached c.args.ids.now c.args.classes.now c.args.representatives.now c.loop-state.made c.loop-state.representatives c.loop-state.classes
    (λ (q : ℕ). q < c.loop-state.state) c.requires.classes c.loop-state.invariant
    (λ q marked. c.loop-state.invariant.done q (let i = marked-inside reached q marked in omega arith) marked)

pub returns-clause-split : goal.returns-clause-split
returns-clause-split c =
    let reached = c.args.reached.now in
    let end : c.loop-state.state ≡ length reached = (let t = c.loop-state-test.false in let a = c.loop-state.auto.state-end in omega arith) in
    IsSplit-all reached c.args.ids.now c.args.classes.now c.args.representatives.now c.loop-state.made c.loop-state.representatives c.loop-state.classes
    (λ (q : ℕ). q < c.loop-state.state) c.requires.classes c.loop-state.invariant
    (λ q marked. c.loop-state.invariant.done q (let i = marked-inside reached q marked in omega arith) marked)
