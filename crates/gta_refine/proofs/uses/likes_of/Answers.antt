-- One state after the other.
use Rattle.std.proofs.Common.{◌≡◌, ◌+◌, ℕ, List, length, sym, ap, subst, arith}
use Rattle.std.specs.Prelude.{slice_index}
use Rattle.gta_classes.specs.Lists.{IsAdded}
use Rattle.gta_refine.specs.Uses.{AreLikes}
use Rattle.gta_refine.proofs.UsesLemmas.{LikesBelow, LikesBelow-none, LikesBelow-skip, LikesBelow-next, AreLikes-all}
use Rattle.gta_refine.proofs.uses.likes_of.Goals as goal
use Rattle.gta_refine.proofs.uses.likes_of.Goals.{then-reached-state+in_ok-number_of+in_ok-add_at, else-reached-state}

pub loop-state-init : goal.loop-state-init
loop-state-init c =
    LikesBelow-none c.args.kinds.now c.args.reached.now c.in_ok-likes.likes.items
    (λ i. let b = c.above.ensures i in let m = c.in_ok-likes.ensures.many in let o = c.in_ok-likes.likes.ok in omega arith) c.in_ok-likes.ensures.empty

pub loop-state-preserved : goal.loop-state-preserved
loop-state-preserved c =
    let kinds = c.args.kinds.now in
    let reached = c.args.reached.now in
    let likes = c.loop-state.likes.items in
    let at = c.loop-state.state in
    elim c.if-reached-state.branch [
      | then-reached-state+in_ok-number_of+in_ok-add_at w ↦
          subst (λ (xs : List (List ℕ)). LikesBelow kinds reached xs (at + 1)) (sym (ap (λ v. v.items) w.likes-is))
          (LikesBelow-next kinds reached likes at c.loop-state.invariant w.add_at.new.lists.items w.if-reached-state.true
          (subst (λ (n : ℕ). IsAdded likes (slice_index kinds at) n w.add_at.new.lists.items) w.in_ok-number_of.ensures w.in_ok-add_at.ensures))
      | else-reached-state w ↦
          subst (λ (xs : List (List ℕ)). LikesBelow kinds reached xs (at + 1)) (sym (ap (λ v. v.items) w.likes-is))
          (LikesBelow-skip kinds reached likes at c.loop-state.invariant w.if-reached-state.false)
    ]

pub returns : goal.returns
returns c =
    let kinds = c.args.kinds.now in
    let reached = c.args.reached.now in
    let end : c.loop-state.state ≡ length reached = (let t = c.loop-state-test.false in let e = c.loop-state.auto.state-end in omega arith) in
    subst (AreLikes kinds reached) (sym c.from_vec.ensures)
    (AreLikes-all kinds reached c.loop-state.likes.items (subst (LikesBelow kinds reached c.loop-state.likes.items) end c.loop-state.invariant))
