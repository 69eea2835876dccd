use Rattle.std.proofs.Common.{◌∷◌, sym, ◌∙◌, ap, arith, suc}
use Rattle.ll1_reader.specs.declared.symbol.Symbol.TheVariants.{Read, Open}
use Rattle.ll1_reader.specs.Readings.{Row, Took}
use Rattle.ll1_reader.specs.Moves.{take_read, take_open}
use Rattle.ll1_reader.specs.Frames.{stack_of}
use Rattle.ll1_reader.proofs.AdvanceLemmas.{takes_by}
use Rattle.ll1_reader.proofs.step.take_token.Goals as goal

pub returns-in_ok-push_row-in-Read : goal.returns-in_ok-push_row-in-Read
returns-in_ok-push_row-in-Read g c =
    let same = g.met.G.Grammar.sound.kinds_differ c.in-Read.wanted c.args.kind (sym c.number.ensures ∙ c.if-number.false ∙ c.number-in-Read.ensures) in
    takes_by g.G.Grammar.rules g.G.Grammar.table c.args.limit c.args.kind c.args.row.now
    (Read c.args.kind ∷ c.in-Some.rest.now) c.args.depth (Row c.in-Some.rest.now c.args.depth (stack_of c.args.work.now))
    (Took c.args.depth) c.args.work.now c.push_row.new.work
    (c.in-Some.ensures.cases.0 ∙ ap (λ x. x ∷ c.in-Some.rest.now) (c.in-Read.is ∙ ap (λ x. Read x) same))
    (take_read c.in-Some.rest.now c.args.depth (stack_of c.args.work.now)) c.in_ok-push_row-in-Read.ensures.stack
    (c.in_ok-push_row-in-Read.ensures.events ∙ c.in_ok-push-in-Read.ensures.ok)

pub returns-in_ok-push_row-in-Open : goal.returns-in_ok-push_row-in-Open
returns-in_ok-push_row-in-Open g c =
    let same =
    g.met.G.Grammar.sound.kinds_differ c.in-Open.wanted c.args.kind
    (sym c.number-in-Open.ensures ∙ c.if-number-2.false ∙ c.number-in-Open-2.ensures) in
    takes_by g.G.Grammar.rules g.G.Grammar.table c.args.limit c.args.kind c.args.row.now
    (Open c.args.kind ∷ c.in-Some.rest.now) c.args.depth
    (Row c.in-Some.rest.now (suc c.args.depth) (stack_of c.args.work.now)) (Took (suc c.args.depth)) c.args.work.now
    c.push_row-in-Open.new.work
    (c.in-Some.ensures.cases.0 ∙ ap (λ x. x ∷ c.in-Some.rest.now) (c.in-Open.is ∙ ap (λ x. Open x) same))
    (take_open c.in-Some.rest.now c.args.depth (stack_of c.args.work.now) (omega arith))
    (c.in_ok-push_row-in-Open.ensures.stack ∙ ap (λ x. Row c.in-Some.rest.now x (stack_of c.args.work.now)) (omega arith))
    (c.in_ok-push_row-in-Open.ensures.events ∙ c.in_ok-push-in-Open.ensures.ok)
