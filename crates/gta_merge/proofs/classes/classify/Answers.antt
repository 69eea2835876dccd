-- One state more.
use Rattle.std.proofs.Common.{◌≡◌, ℕ, ◌+◌, ◌<◌, List, length, sym, subst, arith}
use Rattle.std.specs.Prelude.{slice_index}
use Rattle.std.proofs.lemmas.Option.{slice_get-get_or}
use Rattle.gta_merge.specs.Lines.{root_beside}
use Rattle.gta_merge.proofs.ClassesLemmas.{Classing, Classing-step, AreClassed-all}
use Rattle.gta_merge.proofs.classes.classify.Goals as goal

pub loop-state-preserved : goal.loop-state-preserved
loop-state-preserved c =
    let root = root_beside c.args.shelf.now c.args.a.now c.args.space c.args.side in
    let had = c.args.had.now in
    let others = c.args.others.now in
    let i = c.loop-state.state in
    let after = c.class_of.new.lines in
    let inside : i < length had = (let t = c.loop-state-test.true in let r = c.requires.many in let e = c.loop-state.auto.state-end in omega arith) in
    subst (λ (xs : List ℕ). Classing root had others after.classes after.ones after.known xs (i + 1)) (sym c.in_ok-push.ensures.ok)
    (Classing-step root had others c.loop-state.lines after c.loop-state.of i (slice_index had i) c.in_ok-class.class c.loop-state.invariant
    (slice_get-get_or had i 0 inside) c.requires.like c.in_ok-class.ensures)

pub returns : goal.returns
returns c =
    let root = root_beside c.args.shelf.now c.args.a.now c.args.space c.args.side in
    let had = c.args.had.now in
    let others = c.args.others.now in
    let lines = c.loop-state.lines in
    let end : c.loop-state.state ≡ c.args.many = (let t = c.loop-state-test.false in let e = c.loop-state.auto.state-end in omega arith) in
    AreClassed-all root had others lines.classes lines.ones lines.known c.loop-state.of c.args.many
    (subst (λ (n : ℕ). Classing root had others lines.classes lines.ones lines.known c.loop-state.of n) end c.loop-state.invariant)
    c.requires.told
