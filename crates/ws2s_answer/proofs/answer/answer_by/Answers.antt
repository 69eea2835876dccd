use Rattle.std.proofs.Common.{subst}
use Rattle.ws2s_decide.specs.Deciding.{IsVerdict}
use Rattle.ws2s_answer.proofs.AnsweringLemmas.{unsatisfiable, least_model, large_models}
use Rattle.ws2s_answer.proofs.answer.answer_by.Goals as goal

pub unless_valid-requires-clause-otherwise : goal.unless_valid-requires-clause-otherwise
unless_valid-requires-clause-otherwise c = λ not_valid.
    let reduced = c.args.reduced.now in
    record {
      least = least_model c.args.text.now reduced.holds reduced.free c.in-Witness.tree c.in-Witness.field-1 c.requires.holds (c.requires.reduced).free
          (subst (IsVerdict reduced.free reduced.holds) c.in-Witness.is c.in_ok-decide.ensures.value);
      not_valid = not_valid;
    }

pub unless_valid-requires-in-TooLarge-clause-otherwise : goal.unless_valid-requires-in-TooLarge-clause-otherwise
unless_valid-requires-in-TooLarge-clause-otherwise c = λ not_valid.
    let reduced = c.args.reduced.now in
    record {
      large = large_models c.args.text.now reduced.holds reduced.free c.requires.holds (c.requires.reduced).free
          (subst (IsVerdict reduced.free reduced.holds) c.in-TooLarge.is c.in_ok-decide.ensures.value);
      not_valid = not_valid;
    }

pub returns-in-None-clause-value : goal.returns-in-None-clause-value
returns-in-None-clause-value c =
    let reduced = c.args.reduced.now in
    unsatisfiable c.args.text.now reduced.holds c.requires.holds
    (subst (IsVerdict reduced.free reduced.holds) c.in-None.is c.in_ok-decide.ensures.value)
