-- One state after the other.
use Rattle.std.proofs.Common.{◌≡◌, ◌+◌, ◌<◌, ℕ, Bool, List, length, sym, ◌∙◌, ap, subst, arith}
use Rattle.std.specs.Prelude.{Contains, slice_index, true}
use Rattle.std.proofs.lemmas.List.Elements.{Contains-get_or}
use Rattle.gta_classes.specs.Chosen.{is_marked}
use Rattle.gta_classes.specs.Splitting.{IsStep}
use Rattle.gta_classes.proofs.ChosenLemmas.{marked-inside}
use Rattle.gta_classes.proofs.SplitLemmas.{Splits, Splits-same}
use Rattle.gta_classes.proofs.CutLemmas.{SeenIn, Splits-listed, Splits-past, AreClasses-listed, IsSplit-listed, stays-listed, moved-listed}
use Rattle.gta_classes.proofs.cutting.split_listed.Goals as goal
use Rattle.gta_classes.proofs.cutting.split_listed.Goals.{then-class-before+in_ok-class, else-class-before}

-- a listed state has a class
inside-now : (reached : List Bool) (old now order : List ℕ) (at : ℕ) → length old ≡ length reached → length now ≡ length old →
    ((q : ℕ) → Contains order q → is_marked reached q ≡ true) → at < length order → slice_index order at < length now
inside-now reached old now order at many same all inside =
    let i = marked-inside reached (slice_index order at) (all (slice_index order at) (Contains-get_or order at 0 inside)) in
    omega arith

pub bounds-as_slice-state : goal.bounds-as_slice-state
bounds-as_slice-state c =
    let part = c.args.part.now in
    let i = inside-now part.reached part.classes c.loop-state.part.classes c.args.order.now c.loop-state.state-index c.requires.classes.many
    c.loop-state.invariant.splits.many c.requires.reached c.loop-state-test.true in
    let e = ap length c.as_slice.ensures in
    omega arith

pub set-requires : goal.set-requires
set-requires c =
    let part = c.args.part.now in
    inside-now part.reached part.classes c.loop-state.part.classes c.args.order.now c.loop-state.state-index c.requires.classes.many
    c.loop-state.invariant.splits.many c.requires.reached c.loop-state-test.true

pub loop-state-preserved : goal.loop-state-preserved
loop-state-preserved c =
    let reached = c.args.part.now.reached in
    let ids = c.args.ids.now in
    let old = c.args.part.now.classes in
    let first = c.args.part.now.representatives in
    let order = c.args.order.now in
    let at = c.loop-state.state-index in
    let made = c.loop-state.made in
    let reps = c.loop-state.part.representatives in
    let now = c.loop-state.part.classes in
    let inv = c.loop-state.invariant in
    let after = c.if-class-before in
    let class : slice_index c.as_slice.result.now (slice_index order at) ≡ slice_index now (slice_index order at) =
    ap (λ (xs : List ℕ). slice_index xs (slice_index order at)) c.as_slice.ensures in
    elim c.if-class-before.branch [
      | then-class-before+in_ok-class w ↦ record {
        reached = ap (λ p. p.reached) w.part-is ∙ inv.reached;
        splits = Splits-same reached ids old first _ after.made _ after.part.representatives _ after.part.classes (SeenIn order (at + 1))
            (sym w.made-is) (sym (ap (λ p. p.representatives) w.part-is)) (sym (ap (λ p. p.classes) w.part-is ∙ w.set.ensures))
            (Splits-listed reached ids old first order c.requires.classes c.requires.reached made reps now at c.loop-state-test.true inv.splits
            (let t = w.if-class-before.true in let e = class in let l = c.len-before.ensures in omega arith)
            w.class_of.new.made w.class_of.new.representatives w.in_ok-class.class
            (subst (λ (k : ℕ). IsStep ids (slice_index order at) k made reps w.class_of.new.made w.class_of.new.representatives w.in_ok-class.class)
            class w.in_ok-class.ensures));
      }
      | else-class-before w ↦ record {
        reached = ap (λ p. p.reached) w.part-is ∙ inv.reached;
        splits = Splits-same reached ids old first _ after.made _ after.part.representatives _ after.part.classes (SeenIn order (at + 1))
            (sym w.made-is) (sym (ap (λ p. p.representatives) w.part-is)) (sym (ap (λ p. p.classes) w.part-is))
            (Splits-past reached ids old first order c.requires.classes c.requires.reached made reps now at c.loop-state-test.true inv.splits
            (λ small. absurd (let t = w.if-class-before.false in let e = class in let l = c.len-before.ensures in omega arith)));
      }
    ]

pub returns-clause-classes : goal.returns-clause-classes
returns-clause-classes c =
    let part = c.args.part.now in
    AreClasses-listed part.reached c.args.ids.now part.classes part.representatives c.args.order.now c.requires.classes c.requires.reached
    c.loop-state.made c.loop-state.part.representatives c.loop-state.part.classes
    (subst (λ (n : ℕ). Splits part.reached c.args.ids.now part.classes part.representatives c.loop-state.made c.loop-state.part.representatives
    c.loop-state.part.classes (SeenIn c.args.order.now n))
    (let t = c.loop-state-test.false in let e = c.loop-state.auto.state-index-end in omega arith) c.loop-state.invariant.splits) c.requires.others

pub returns-clause-split : goal.returns-clause-split
returns-clause-split c =
    let part = c.args.part.now in
    IsSplit-listed part.reached c.args.ids.now part.classes part.representatives c.args.order.now c.requires.classes c.requires.reached
    c.loop-state.made c.loop-state.part.representatives c.loop-state.part.classes
    (subst (λ (n : ℕ). Splits part.reached c.args.ids.now part.classes part.representatives c.loop-state.made c.loop-state.part.representatives
    c.loop-state.part.classes (SeenIn c.args.order.now n))
    (let t = c.loop-state-test.false in let e = c.loop-state.auto.state-index-end in omega arith) c.loop-state.invariant.splits) c.requires.others

pub returns-clause-stays : goal.returns-clause-stays
returns-clause-stays c =
    let part = c.args.part.now in
    stays-listed part.reached c.args.ids.now part.classes part.representatives c.args.order.now c.requires.classes c.requires.reached
    c.loop-state.made c.loop-state.part.representatives c.loop-state.part.classes
    (subst (λ (n : ℕ). Splits part.reached c.args.ids.now part.classes part.representatives c.loop-state.made c.loop-state.part.representatives
    c.loop-state.part.classes (SeenIn c.args.order.now n))
    (let t = c.loop-state-test.false in let e = c.loop-state.auto.state-index-end in omega arith) c.loop-state.invariant.splits) c.requires.others

pub returns-clause-moved : goal.returns-clause-moved
returns-clause-moved c =
    let part = c.args.part.now in
    moved-listed part.reached c.args.ids.now part.classes part.representatives c.args.order.now c.requires.classes c.requires.reached
    c.loop-state.made c.loop-state.part.representatives c.loop-state.part.classes
    (subst (λ (n : ℕ). Splits part.reached c.args.ids.now part.classes part.representatives c.loop-state.made c.loop-state.part.representatives
    c.loop-state.part.classes (SeenIn c.args.order.now n))
    (let t = c.loop-state-test.false in let e = c.loop-state.auto.state-index-end in omega arith) c.loop-state.invariant.splits) c.requires.others
