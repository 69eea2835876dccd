use Rattle.std.proofs.Common.{ap, subst, sym, ◌∙◌}
use Rattle.std.specs.List.{flat_map}
use Rattle.ll1_reader.specs.Grammars.{IsOneOf}
use Rattle.ll1_reader.specs.Predicting.{among, first_set}
use Rattle.ll1_reader.specs.Moves.{is_next}
use Rattle.ll1_reader.proofs.ProductionLemmas.{one_of_at, past_production, no_production_left}
use Rattle.ll1_reader.proofs.predict.choose.Goals as goal

pub returns-then-begins : goal.returns-then-begins
returns-then-begins g c =
    let there = one_of_at c.productions-production-items.result.now c.loop-production.production-index c.production-item.result
    c.loop-production-test.true c.production-item.is in (
      subst (λ x. IsOneOf c.production-item.result x) c.productions-production-items.ensures there,
      ap (λ x. is_next g.G.Grammar.rules g.G.Grammar.table (g.G.Grammar.table.first c.production-item.result) x) c.in_ok-kind.was
          ∙ sym c.begins.ensures ∙ c.if-begins.true,
    )

pub loop-production-preserved : goal.loop-production-preserved
loop-production-preserved g c =
    past_production g.G.Grammar.rules g.G.Grammar.table c.in_ok-kind.kind c.productions-production-items.result.now
    c.loop-production.production-index c.production-item.result c.loop-production-test.true c.production-item.is
    (sym c.begins.ensures ∙ c.if-begins.false) ∙ c.loop-production.invariant

pub returns : goal.returns
returns g c =
    ap (λ x. is_next g.G.Grammar.rules g.G.Grammar.table (first_set g.G.Grammar.rules g.G.Grammar.table c.args.nonterminal) x) c.in_ok-kind.was
    ∙ ap (λ ps. among g.G.Grammar.rules g.G.Grammar.table c.in_ok-kind.kind (flat_map g.G.Grammar.table.first ps)) (sym c.productions-production-items.ensures)
    ∙ sym c.loop-production.invariant
    ∙ no_production_left g.G.Grammar.rules g.G.Grammar.table c.in_ok-kind.kind c.productions-production-items.result.now c.loop-production.production-index
    c.loop-production-test.false
