use Rattle.std.proofs.Common.{sym, ap, ◌∙◌, Result, Bool}
use Rattle.store_logic.specs.declared.cond.Cond.TheOpen.{Cond-F}
use Rattle.store_logic.specs.declared.cond.Cond.TheFolds.{fold-roll-Cond}
use Rattle.store_logic.specs.declared.cond.Cond.TheVariants.{rolls-Bool, rolls-Is, rolls-Same}
use Rattle.store_exec.specs.declared.cause.Cause.{Cause}
use Rattle.store_exec.specs.Steps.{truth_of, truth_node}
use Rattle.store_runner.specs.Conditions.{resumed}
use Rattle.store_runner.proofs.TruthLemmas.{answered}
use Rattle.store_runner.proofs.truth.first_part.Goals as goal

pub returns-in-Bool-clause-told : goal.returns-in-Bool-clause-told
returns-in-Bool-clause-told c = answered c.args.store.now c.args.waiting.now c.loop-cond.waiting (truth_of c.args.store.now c.args.cond.now) c.truth_at.result
    _ c.answer.ensures
    (c.loop-cond.invariant.0 ∙ ap (λ (p : Result Bool Cause). resumed c.args.store.now c.loop-cond.waiting p)
    (ap (truth_of c.args.store.now) (c.in-Bool.is ∙ sym (rolls-Bool c.in-Bool.path))
    ∙ fold-roll-Cond (Result Bool Cause) (truth_node c.args.store.now) (Cond-F.Bool c.in-Bool.path) ∙ sym c.truth_at.ensures))

pub returns-in-Is-clause-told : goal.returns-in-Is-clause-told
returns-in-Is-clause-told c = answered c.args.store.now c.args.waiting.now c.loop-cond.waiting (truth_of c.args.store.now c.args.cond.now) c.is_of.result _
    c.answer-in-Is.ensures
    (c.loop-cond.invariant.0 ∙ ap (λ (p : Result Bool Cause). resumed c.args.store.now c.loop-cond.waiting p)
    (ap (truth_of c.args.store.now) (c.in-Is.is ∙ sym (rolls-Is c.in-Is.path c.in-Is.variant))
    ∙ fold-roll-Cond (Result Bool Cause) (truth_node c.args.store.now) (Cond-F.Is c.in-Is.path c.in-Is.variant) ∙ sym c.is_of.ensures))

pub returns-in-Same-clause-told : goal.returns-in-Same-clause-told
returns-in-Same-clause-told c = answered c.args.store.now c.args.waiting.now c.loop-cond.waiting (truth_of c.args.store.now c.args.cond.now) c.are_same.result
    _ c.answer-in-Same.ensures
    (c.loop-cond.invariant.0 ∙ ap (λ (p : Result Bool Cause). resumed c.args.store.now c.loop-cond.waiting p)
    (ap (truth_of c.args.store.now) (c.in-Same.is ∙ sym (rolls-Same c.in-Same.one c.in-Same.other))
    ∙ fold-roll-Cond (Result Bool Cause) (truth_node c.args.store.now) (Cond-F.Same c.in-Same.one c.in-Same.other) ∙ sym c.are_same.ensures))
