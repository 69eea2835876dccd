-- One state more.
use Rattle.std.proofs.Common.{◌≡◌, ℕ, ◌<◌, length, subst, arith}
use Rattle.std.specs.Prelude.{slice_index}
use Rattle.std.proofs.lemmas.Option.{slice_get-get_or}
use Rattle.gta_merge.proofs.FirstsLemmas.{FirstsBelow, FirstsBelow-step, AreFirsts-all}
use Rattle.gta_merge.proofs.classes.firsts.Goals as goal

pub loop-state-preserved : goal.loop-state-preserved
loop-state-preserved c =
    let had = c.args.had.now in
    let i = c.loop-state.state in
    let inside : i < length had = (let t = c.loop-state-test.true in let r = c.requires in let e = c.loop-state.auto.state-end in omega arith) in
    FirstsBelow-step had c.loop-state.firsts c.loop-state.seen i (slice_index had i) c.loop-state.invariant (slice_get-get_or had i 0 inside)
    c.note_first.new.seen c.note_first.new.firsts c.in_ok-note_first.ensures

pub returns : goal.returns
returns c =
    let had = c.args.had.now in
    let end : c.loop-state.state ≡ c.args.many = (let t = c.loop-state-test.false in let e = c.loop-state.auto.state-end in omega arith) in
    AreFirsts-all had c.loop-state.firsts c.loop-state.seen c.args.many
    (subst (λ (n : ℕ). FirstsBelow had c.loop-state.firsts c.loop-state.seen n) end c.loop-state.invariant)
    (λ q inside. (slice_index had q, slice_get-get_or had q 0 (let r = c.requires in omega arith)))
