use Rattle.std.proofs.Common.{◌∙◌, arith}
use Rattle.store_expand.proofs.SizeLemmas.{often-last, adds-fits, whole-more, counts}
use Rattle.store_expand.proofs.size.size_with.Goals as goal

pub overflow_mul-size : goal.overflow_mul-size
overflow_mul-size c =
    let little = adds-fits c.args.sizes.now c.loop-next.size c.loop-next.pending.items c.pop.new.self.items c.in-Some.next c.in-Some.ensures.items
    c.size_of_form.result c.size_of_form.ensures c.requires c.loop-next.invariant.often in
    omega (arith, little)

pub overflow_add-size : goal.overflow_add-size
overflow_add-size c =
    let little = adds-fits c.args.sizes.now c.loop-next.size c.loop-next.pending.items c.pop.new.self.items c.in-Some.next c.in-Some.ensures.items
    c.size_of_form.result c.size_of_form.ensures c.requires c.loop-next.invariant.often in
    omega (arith, little, c.loop-next.invariant.small)

pub returns-then-size-gt-MAX_NODES : goal.returns-then-size-gt-MAX_NODES
returns-then-size-gt-MAX_NODES c =
    let more = whole-more c.args.sizes.now c.loop-next.size c.loop-next.pending.items c.pop.new.self.items c.in-Some.next c.in-Some.ensures.items
    c.size_of_form.result c.size_of_form.ensures in
    omega (arith, more, c.loop-next.invariant.whole, c.if-size-gt-MAX_NODES.true)

pub push_uncounted_parts-requires : goal.push_uncounted_parts-requires
push_uncounted_parts-requires c =
    often-last c.args.sizes.now c.loop-next.size c.loop-next.pending.items c.pop.new.self.items c.in-Some.next c.in-Some.ensures.items
    c.loop-next.invariant.often

pub loop-next-smaller : goal.loop-next-smaller
loop-next-smaller c =
    (counts c.args.sizes.now c.loop-next.size c.loop-next.pending.items c.pop.new.self.items c.in-Some.next c.in-Some.ensures.items
    c.size_of_form.result c.size_of_form.ensures c.push_uncounted_parts.new.pending.items c.in_ok-push_uncounted_parts.ensures
    c.if-size-gt-MAX_NODES.false c.loop-next.invariant.often).less

pub loop-next-preserved : goal.loop-next-preserved
loop-next-preserved c =
    let it = counts c.args.sizes.now c.loop-next.size c.loop-next.pending.items c.pop.new.self.items c.in-Some.next c.in-Some.ensures.items
    c.size_of_form.result c.size_of_form.ensures c.push_uncounted_parts.new.pending.items c.in_ok-push_uncounted_parts.ensures
    c.if-size-gt-MAX_NODES.false c.loop-next.invariant.often in
    record { whole = it.whole ∙ c.loop-next.invariant.whole; small = c.if-size-gt-MAX_NODES.false; often = it.often }
