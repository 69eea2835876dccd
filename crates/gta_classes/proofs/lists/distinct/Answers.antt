-- One number more.
use Rattle.std.proofs.Common.{◌≡◌, ◌<◌, ℕ, Bool, false, List, length, sym, ◌∙◌, ap, subst, arith}
use Rattle.std.specs.Prelude.{Contains, slice_index, slice_index_or}
use Rattle.gta_classes.proofs.ListsLemmas.{OnceBelow, OnceBelow-same, OnceBelow-seen, OnceBelow-push, Once-all}
use Rattle.std.proofs.lemmas.Bool.{false≢true}
use Rattle.gta_classes.proofs.MarksLemmas.{IsClear-none}
use Rattle.gta_classes.proofs.lists.distinct.Goals as goal
use Rattle.gta_classes.proofs.lists.distinct.Goals.{then-not-is_marked+in_ok-push, else-not-is_marked}

pub loop-number-preserved : goal.loop-number-preserved
loop-number-preserved c =
    let numbers = c.args.numbers.now in
    let at = c.loop-number.number-index in
    let seen = c.loop-number.seen.items in
    let once = c.loop-number.once.items in
    let inside : at < length numbers = (let t = c.loop-number-test.true in let e = c.loop-number.auto.number-index-end in omega arith) in
    elim c.if-not-is_marked.branch [
      | then-not-is_marked+in_ok-push w ↦
          OnceBelow-same numbers _ c.if-not-is_marked.seen.items _ c.if-not-is_marked.once.items _
          (sym (ap (λ v. v.items) w.seen-is ∙ w.mark.ensures)) (sym (ap (λ v. v.items) w.once-is ∙ w.in_ok-push.ensures.items))
          (OnceBelow-push numbers seen once at inside c.loop-number.invariant)
      | else-not-is_marked w ↦
          OnceBelow-same numbers _ c.if-not-is_marked.seen.items _ c.if-not-is_marked.once.items _
          (sym (ap (λ v. v.items) w.seen-is)) (sym (ap (λ v. v.items) w.once-is))
          (OnceBelow-seen numbers seen once at inside c.loop-number.invariant
          (ap (λ (xs : List Bool). slice_index_or xs (slice_index numbers at) false) (sym c.deref.ensures.value) ∙ sym c.is_marked.ensures
          ∙ w.if-not-is_marked.false))
    ]

pub loop-number-init : goal.loop-number-init
loop-number-init c = record {
  marks = λ number marked. absurd (false≢true (sym (c.requires number) ∙ marked));
  all = λ k k_in. absurd (omega arith);
  sound = λ number there. let b = there.1 in let e = ap length c.new-once.ensures.items in absurd (omega arith);
}

pub returns-clause-once : goal.returns-clause-once
returns-clause-once c =
    let numbers = c.args.numbers.now in
    let end : c.loop-number.number-index ≡ length numbers =
    (let t = c.loop-number-test.false in let e = c.loop-number.auto.number-index-end in omega arith) in
    Once-all numbers c.loop-number.seen.items c.loop-number.once.items
    (subst (OnceBelow numbers c.loop-number.seen.items c.loop-number.once.items) end c.loop-number.invariant)

pub returns-clause-clear : goal.returns-clause-clear
returns-clause-clear c = IsClear-none c.unmark_all.new.marks.items (λ i marked.
    let was = c.unmark_all.ensures i marked in
    was.1 (subst (λ (xs : List ℕ). Contains xs i) (sym c.deref-2.ensures.value) (c.loop-number.invariant.marks i was.0)))
