use Rattle.std.proofs.Common.{[], ◌∷◌, ◌++◌, length, take, refl, sym, ◌∙◌, ap, subst, arith, length-take}
use Rattle.std.proofs.lemmas.List.{take_more, take_all, drop_all}
use Rattle.std.proofs.lemmas.Option.{slice_get_read}
use Rattle.ll1_reader.specs.Readings.{Row, Bottom}
use Rattle.ll1_reader.proofs.StandsLemmas.{Stands, stands_first, stands_fed, stands_wrong, stands_short, stands_deep, stands_finished, text_safe}
use Rattle.ll1_reader.proofs.CompleteLemmas.{rest_at}
use Rattle.ll1_reader.proofs.reader.read_by_name.Goals as goal

pub loop-place-init : goal.loop-place-init
loop-place-init g c =
    stands_first g.G.Grammar.rules g.G.Grammar.table g.met.G.Grammar.sound c.args.limit c.in_ok-work.work
    (c.in_ok-work.ensures.stack ∙ ap (λ row. Row row 0 Bottom) c.text.ensures) c.in_ok-work.ensures.events
    (text_safe g.G.Grammar.rules g.G.Grammar.table g.met.G.Grammar.sound c.args.limit)

pub loop-place-preserved : goal.loop-place-preserved
loop-place-preserved g c =
    let next =
    sym (take_more c.args.tokens.now c.loop-place.place c.index-tokens-place.result c.loop-place-test.true ∙ ap
    (λ x. take c.loop-place.place c.args.tokens.now ++ x ∷ []) (sym c.index-tokens-place.is)) in
    subst (λ x. Stands g.G.Grammar.rules g.G.Grammar.table c.args.limit x c.feed.new.work) next
    (stands_fed g.G.Grammar.rules g.G.Grammar.table g.met.G.Grammar.sound c.args.limit
    (take c.loop-place.place c.args.tokens.now) c.index-tokens-place.result c.loop-place.work c.feed.new.work
    c.loop-place.invariant
    (rw c.in-Read.is at c.in_ok-feed.ensures))

pub returns-in-Wrong : goal.returns-in-Wrong
returns-in-Wrong g c =
    let here = slice_get_read c.args.tokens.now _ c.loop-place.place c.index-tokens-place.result refl c.loop-place-test.true c.index-tokens-place.is in
    stands_wrong g.G.Grammar.rules g.G.Grammar.table g.met.G.Grammar.sound c.args.limit c.args.tokens.now c.loop-place.place
    (take c.loop-place.place c.args.tokens.now) _ c.index-tokens-place.result c.loop-place.work
    (omega (arith, c.loop-place-test.true))
    (length-take c.loop-place.place c.args.tokens.now ∙ omega (arith, c.loop-place-test.true)) refl
    (rest_at c.loop-place.place c.args.tokens.now c.index-tokens-place.result here)
    (text_safe g.G.Grammar.rules g.G.Grammar.table g.met.G.Grammar.sound c.args.limit) c.loop-place.invariant (rw c.in-Wrong.is at c.in_ok-feed.ensures)

pub returns-in-Deep : goal.returns-in-Deep
returns-in-Deep g c =
    let here = slice_get_read c.args.tokens.now _ c.loop-place.place c.index-tokens-place.result refl c.loop-place-test.true c.index-tokens-place.is in
    stands_deep g.G.Grammar.rules g.G.Grammar.table g.met.G.Grammar.sound c.args.limit c.args.tokens.now c.loop-place.place
    (take c.loop-place.place c.args.tokens.now) c.index-tokens-place.result c.loop-place.work
    (length-take c.loop-place.place c.args.tokens.now ∙ omega (arith, c.loop-place-test.true)) refl here
    c.loop-place.invariant (rw c.in-Deep.is at c.in_ok-feed.ensures)

pub returns-then-not-branch : goal.returns-then-not-branch
returns-then-not-branch g c =
    let all = take_all c.loop-place.place c.args.tokens.now c.loop-place-test.false in
    let at_end = subst (λ x. Stands g.G.Grammar.rules g.G.Grammar.table c.args.limit x c.loop-place.work) all c.loop-place.invariant in
    stands_short g.G.Grammar.rules g.G.Grammar.table g.met.G.Grammar.sound c.args.limit c.args.tokens.now c.loop-place.work
    (take_all (length c.args.tokens.now) c.args.tokens.now (omega arith)) (drop_all (length c.args.tokens.now) c.args.tokens.now (omega arith))
    (text_safe g.G.Grammar.rules g.G.Grammar.table g.met.G.Grammar.sound c.args.limit) at_end (rw c.if-not-branch.true at c.in_ok-finish.ensures)

pub returns : goal.returns
returns g c =
    let all = take_all c.loop-place.place c.args.tokens.now c.loop-place-test.false in
    let at_end = subst (λ x. Stands g.G.Grammar.rules g.G.Grammar.table c.args.limit x c.loop-place.work) all c.loop-place.invariant in
    stands_finished g.G.Grammar.rules g.G.Grammar.table g.met.G.Grammar.sound c.args.limit c.args.tokens.now
    c.loop-place.work c.finish.new.work at_end (rw c.if-not-branch.false at c.in_ok-finish.ensures)
