-- One state after the other.
use Rattle.std.proofs.Common.{◌≡◌, ◌+◌, ℕ, List, length, sym, ap, subst, arith}
use Rattle.std.specs.Prelude.{slice_index}
use Rattle.std.proofs.lemmas.List.Elements.{Contains-get_or}
use Rattle.gta_classes.proofs.ChosenLemmas.{marked-inside}
use Rattle.gta_classes.specs.Lists.{IsAdded}
use Rattle.gta_classes.proofs.CutLemmas.{ListsNew, ListsNew-skip, ListsNew-add, Covers-new}
use Rattle.gta_classes.proofs.cutting.list_new.Goals as goal
use Rattle.gta_classes.proofs.cutting.list_new.Goals.{then-class-before+in_ok-add_at, else-class-before}

pub loop-state-preserved : goal.loop-state-preserved
loop-state-preserved c =
    let part = c.args.part.now in
    let order = c.args.order.now in
    let at = c.loop-state.state-index in
    let state = slice_index order at in
    let old = c.args.lists.now.items in
    let now = c.loop-state.lists.items in
    let class : slice_index c.as_slice.result.now state ≡ slice_index part.classes state = ap (λ (xs : List ℕ). slice_index xs state) c.as_slice.ensures in
    elim c.if-class-before.branch [
      | then-class-before+in_ok-add_at w ↦
          let is = c.requires.classes.within state
          (let i = marked-inside part.reached state (c.requires.reached state (Contains-get_or order at 0 c.loop-state-test.true)) in
          let m = c.requires.classes.many in omega arith) in
          ListsNew-add order c.args.before part old now at c.loop-state.invariant c.if-class-before.lists.items
          (let m = c.loop-state.invariant.many in let r = c.requires.many in omega arith)
          (subst (λ (xs : List (List ℕ)). IsAdded now (slice_index part.classes state) state xs) (sym (ap (λ v. v.items) w.lists-is))
          (subst (λ (k : ℕ). IsAdded now k state w.add_at.new.lists.items) class w.in_ok-add_at.ensures))
      | else-class-before w ↦
          subst (λ (xs : List (List ℕ)). ListsNew order c.args.before part old xs (at + 1)) (sym (ap (λ v. v.items) w.lists-is))
          (ListsNew-skip order c.args.before part old now at c.loop-state.invariant (let t = w.if-class-before.false in let e = class in omega arith))
    ]

pub returns : goal.returns
returns c =
    let order = c.args.order.now in
    let end : c.loop-state.state-index ≡ length order =
    (let t = c.loop-state-test.false in let e = c.loop-state.auto.state-index-end in omega arith) in
    Covers-new order c.args.before c.args.part.now c.args.lists.now.items c.loop-state.lists.items
    (subst (ListsNew order c.args.before c.args.part.now c.args.lists.now.items c.loop-state.lists.items) end c.loop-state.invariant)
    c.requires.olds c.requires.news
