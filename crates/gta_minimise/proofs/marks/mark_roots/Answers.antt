-- One root more.
use Rattle.std.proofs.Common.{◌≡◌, ℕ, ◌<◌, length, subst, arith}
use Rattle.std.specs.Prelude.{slice_index_or}
use Rattle.std.proofs.lemmas.Option.{slice_get-get_or}
use Rattle.bdd_list.specs.declared.listing.Listed.TheVariants.{Leaf}
use Rattle.gta_minimise.proofs.MarksLemmas.{TouchedBelow, TouchedBelow-push, AreTouched-all}
use Rattle.gta_minimise.proofs.marks.mark_roots.Goals as goal

pub loop-root-preserved : goal.loop-root-preserved
loop-root-preserved c =
    let roots = c.args.roots.now in
    let i = c.loop-root.root-index in
    let inside : i < length roots = (let t = c.loop-root-test.true in let e = c.loop-root.auto.root-index-end in omega arith) in
    TouchedBelow-push roots c.args.marks.now.items c.loop-root.marks.items c.touch.new.marks.items i (slice_index_or roots i (Leaf 0))
    c.loop-root.invariant (slice_get-get_or roots i (Leaf 0) inside) c.touch.ensures

pub returns : goal.returns
returns c =
    let roots = c.args.roots.now in
    let end : c.loop-root.root-index ≡ length roots = (let t = c.loop-root-test.false in let e = c.loop-root.auto.root-index-end in omega arith) in
    AreTouched-all roots c.args.marks.now.items c.loop-root.marks.items
    (subst (λ (n : ℕ). TouchedBelow roots c.args.marks.now.items c.loop-root.marks.items n) end c.loop-root.invariant)
