-- One state after the other.
use Rattle.std.proofs.Common.{◌≡◌, ◌+◌, ◌<◌, ℕ, List, length, inl, inr, sym, ◌∙◌, ap, subst, arith}
use Rattle.std.specs.Prelude.{Contains, slice_index, true}
use Rattle.std.proofs.lemmas.List.Elements.{Contains-get_or}
use Rattle.gta_classes.specs.declared.part.SpaceClasses.{SpaceClasses}
use Rattle.gta_classes.specs.Chosen.{is_marked}
use Rattle.gta_classes.specs.Classes.{AreClasses}
use Rattle.gta_classes.specs.Lists.{list_at}
use Rattle.gta_classes.specs.Cuts.{IsIn}
use Rattle.gta_classes.proofs.ChosenLemmas.{marked-inside}
use Rattle.gta_classes.proofs.CutLemmas.{OthersBelow, OthersBelow-skip, OthersBelow-add, HasOthers-all}
use Rattle.gta_classes.proofs.cutting.with_others.Goals as goal
use Rattle.gta_classes.proofs.cutting.with_others.Goals.{then-as_slice-class+in_ok-add_members, else-as_slice-class}

-- a listed state has a class
state-inside : (part : SpaceClasses) (listed : List ℕ) (at : ℕ) → AreClasses part.reached part.classes part.representatives →
    ((q : ℕ) → Contains listed q → is_marked part.reached q ≡ true) → at < length listed → slice_index listed at < length part.classes
state-inside part listed at are reached inside =
    let i = marked-inside part.reached (slice_index listed at) (reached (slice_index listed at) (Contains-get_or listed at 0 inside)) in
    let m = are.many in
    omega arith

pub bounds-as_slice-state : goal.bounds-as_slice-state
bounds-as_slice-state c =
    let s = state-inside c.args.part.now c.args.listed.now c.loop-state.state-index c.requires.classes c.requires.reached c.loop-state-test.true in
    let e = ap length c.as_slice.ensures in
    omega arith

pub bounds-as_slice-class : goal.bounds-as_slice-class
bounds-as_slice-class c =
    let state = slice_index c.args.listed.now c.loop-state.state-index in
    let s = state-inside c.args.part.now c.args.listed.now c.loop-state.state-index c.requires.classes c.requires.reached c.loop-state-test.true in
    let w = c.requires.classes.within state s in
    let e = ap length c.as_slice-in-loop-state.ensures in
    let f = ap (λ (xs : List ℕ). slice_index xs state) c.as_slice.ensures in
    omega arith

pub loop-state-preserved : goal.loop-state-preserved
loop-state-preserved c =
    let part = c.args.part.now in
    let listed = c.args.listed.now in
    let at = c.loop-state.state-index in
    let state = slice_index listed at in
    let order = c.loop-state.order.items in
    let class : slice_index c.as_slice.result.now state ≡ slice_index part.classes state = ap (λ (xs : List ℕ). slice_index xs state) c.as_slice.ensures in
    let first : slice_index c.as_slice-in-loop-state.result.now (slice_index c.as_slice.result.now state) ≡
    slice_index part.representatives (slice_index part.classes state) =
    ap (λ (xs : List ℕ). slice_index xs (slice_index c.as_slice.result.now state)) c.as_slice-in-loop-state.ensures
    ∙ ap (slice_index part.representatives) class in
    elim c.if-as_slice-class.branch [
      | then-as_slice-class+in_ok-add_members w ↦
          let lists = c.args.lists.now in
          let all = w.add_members.new.all.items in
          subst (λ (xs : List ℕ). OthersBelow part listed xs (at + 1)) (sym (ap (λ v. v.items) w.order-is))
          (OthersBelow-add part listed order at c.requires.classes c.loop-state.invariant lists all c.requires.covers w.in_ok-add_members.ensures.kept
          (λ q there is. w.in_ok-add_members.ensures.added q (subst (λ (xs : List ℕ). Contains xs q) (sym w.numbers_at.ensures)
          (subst (λ (k : ℕ). Contains (list_at lists k) q) (sym class) there)) (subst (λ (k : ℕ). IsIn part k q) (sym class) is))
          (λ q there. elim (w.in_ok-add_members.ensures.sound q there) [
            | inl before ↦ inl before
            | inr is ↦ inr (subst (λ (k : ℕ). IsIn part k q) class is)
          ]))
      | else-as_slice-class w ↦
          subst (λ (xs : List ℕ). OthersBelow part listed xs (at + 1)) (sym (ap (λ v. v.items) w.order-is))
          (OthersBelow-skip part listed order at c.requires.classes c.loop-state.invariant
          (λ is. w.if-as_slice-class.false (first ∙ is)))
    ]

pub returns : goal.returns
returns c =
    let listed = c.args.listed.now in
    let end : c.loop-state.state-index ≡ length listed =
    (let t = c.loop-state-test.false in let e = c.loop-state.auto.state-index-end in omega arith) in
    HasOthers-all c.args.part.now listed c.loop-state.order.items
    (subst (OthersBelow c.args.part.now listed c.loop-state.order.items) end c.loop-state.invariant)
