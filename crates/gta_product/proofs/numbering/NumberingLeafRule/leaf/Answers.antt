use Rattle.std.proofs.Common.{◌∙◌, ap, length, ℕ, List}
use Rattle.gta_product.proofs.NumbersLemmas.{KeepsAnswers-grows, AnswersOnly-grows, two-of}
use Rattle.gta_product.proofs.numbering.NumberingLeafRule.leaf.Goals as goal

pub returns-clause-kept : goal.returns-clause-kept
returns-clause-kept c = KeepsAnswers-grows _ _ _ c.number.ensures.grows

pub returns-clause-only : goal.returns-clause-only
returns-clause-only c = λ states answer there absent.
    AnswersOnly-grows c.args.self.now c.number.new.self _ _ c.number.ensures.grows states answer there absent
    ∙ two-of c.as_slice-states.result.now (ap (λ (xs : List ℕ). length xs) c.as_slice-states.ensures ∙ c.requires.two)
    ∙ c.as_slice-states.ensures
