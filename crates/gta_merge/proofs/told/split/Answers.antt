-- One state more.
use Rattle.std.proofs.Common.{◌≡◌, ℕ, ◌+◌, ◌<◌, List, Option, length, sym, ◌∙◌, ap, subst, arith}
use Rattle.std.specs.Prelude.{slice_index, unwrap_or}
use Rattle.std.proofs.lemmas.Option.{slice_get-get_or}
use Rattle.gta_merge.specs.Lines.{root_beside}
use Rattle.gta_merge.specs.Told.{IsPairStep}
use Rattle.gta_merge.proofs.ToldLemmas.{had_at, SplitBelow, SplitBelow-step, ShareClasses-all}
use Rattle.gta_merge.proofs.told.split.Goals as goal

pub loop-place-preserved : goal.loop-place-preserved
loop-place-preserved c =
    let root = root_beside c.args.shelf.now c.args.a.now c.args.space c.args.side in
    let states = c.args.states.now in
    let before = c.args.before.now in
    let other = c.args.other in
    let i = c.loop-place.place in
    let after = c.class_of_pair.new.found in
    let class = c.in_ok-class_of_pair.field-0 in
    let inside : i < length states = (let t = c.loop-place-test.true in let e = c.loop-place.auto.place-end in omega arith) in
    let had : c.unwrap_or-had.result ≡ had_at before i =
    c.unwrap_or-had.ensures ∙ ap (λ (o : Option ℕ). unwrap_or o 0) (c.copied.ensures ∙ c.at.ensures) in
    subst (λ (xs : List ℕ). SplitBelow root states before other after xs (i + 1)) (sym c.in_ok-push.ensures.ok)
    (SplitBelow-step root states before other c.loop-place.found after c.loop-place.classes i (slice_index states i) c.in-Some.root class
    c.loop-place.invariant (slice_get-get_or states i 0 inside) (sym c.root_beside.ensures.value ∙ c.in-Some.is)
    (subst (λ (h : ℕ). IsPairStep h c.in-Some.root c.loop-place.found after class) had c.in_ok-class_of_pair.ensures))

pub returns : goal.returns
returns c =
    let root = root_beside c.args.shelf.now c.args.a.now c.args.space c.args.side in
    let states = c.args.states.now in
    let before = c.args.before.now in
    let end : c.loop-place.place ≡ length states = (let t = c.loop-place-test.false in let e = c.loop-place.auto.place-end in omega arith) in
    ShareClasses-all root states before c.args.other c.loop-place.found c.loop-place.classes
    (subst (λ (n : ℕ). SplitBelow root states before c.args.other c.loop-place.found c.loop-place.classes n) end c.loop-place.invariant)
    c.requires.share
