use Rattle.std.proofs.Common.{List, ◌∷◌, ℕ, slice_index_or, subst, arith}
use Rattle.std.proofs.lemmas.Option.{slice_get-get_or}
use Rattle.std.proofs.lemmas.List.Sorted.{le_from_greatest}
use Rattle.std.specs.BinaryHeap.{heap_items}
use Rattle.std.specs.List.Sorted.{IsPermutation}
use Rattle.ws2s_core.specs.declared.node.Node.{Node}
use Rattle.ws2s_core.proofs.PartsLemmas.{place-inside, MeetsParts-first, MeetsParts-again, MeetsParts-new}
use Rattle.ws2s_core.proofs.parts.met_parts.Goals as goal

pub loop-place-init : goal.loop-place-init
loop-place-init c = record {
  meets = MeetsParts-first c.args.nodes.now c.requires.earlier c.args.whole c.requires.inside c.new-met.result.items (heap_items c.push.new.self)
      c.new-met.ensures.items (subst (λ (xs : List ℕ). IsPermutation (c.args.whole ∷ xs) (heap_items c.push.new.self))
      c.new-waiting.ensures.items c.in_ok-push.ensures.permutation);
  in_order = c.in_ok-push.ensures.heap_order c.new-waiting.ensures.heap_order;
}

pub bounds-nodes-below : goal.bounds-nodes-below
bounds-nodes-below c = place-inside c.args.nodes.now c.requires.earlier c.args.whole c.loop-place.met.items (heap_items c.loop-place.waiting)
    (heap_items c.pop.new.self) c.loop-place.below c.in-Some.place c.loop-place.invariant.meets c.in-Some.ensures.permutation

pub loop-place-smaller-in-Continue-branch-3 : goal.loop-place-smaller-in-Continue-branch-3
loop-place-smaller-in-Continue-branch-3 c = omega (arith, c.in-Some.ensures.len, c.in_ok-push_parts.ensures.len, c.if-place-below.true)

pub loop-place-preserved-in-Continue-branch-3 : goal.loop-place-preserved-in-Continue-branch-3
loop-place-preserved-in-Continue-branch-3 c = record {
  meets = MeetsParts-new c.args.nodes.now c.requires.earlier c.args.whole c.loop-place.met.items (heap_items c.loop-place.waiting)
      (heap_items c.pop.new.self) c.loop-place.below c.in-Some.place c.loop-place.invariant.meets c.in-Some.ensures.permutation c.if-place-below.true
      (le_from_greatest c.in-Some.place (heap_items c.pop.new.self) (c.in-Some.ensures.below_top c.loop-place.invariant.in_order))
      (slice_index_or c.args.nodes.now c.in-Some.place (Node.Sub (record { 0 = 0 }) (record { 0 = 0 })))
      (slice_get-get_or c.args.nodes.now c.in-Some.place _
      (place-inside c.args.nodes.now c.requires.earlier c.args.whole c.loop-place.met.items (heap_items c.loop-place.waiting)
      (heap_items c.pop.new.self) c.loop-place.below c.in-Some.place c.loop-place.invariant.meets c.in-Some.ensures.permutation))
      c.push-then-place-below.new.self.items (heap_items c.push_parts.new.waiting) c.in_ok-push-2.ensures.items c.in_ok-push_parts.ensures.parts;
  in_order = c.in_ok-push_parts.ensures.heap (c.in-Some.ensures.heap_order c.loop-place.invariant.in_order).0;
}

pub loop-place-preserved : goal.loop-place-preserved
loop-place-preserved c = record {
  meets = MeetsParts-again c.args.nodes.now c.requires.earlier c.args.whole c.loop-place.met.items (heap_items c.loop-place.waiting)
      (heap_items c.pop.new.self) c.loop-place.below c.in-Some.place c.loop-place.invariant.meets c.in-Some.ensures.permutation c.if-place-below.false;
  in_order = (c.in-Some.ensures.heap_order c.loop-place.invariant.in_order).0;
}
