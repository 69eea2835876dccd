use Rattle.std.proofs.Common.{ℕ, List, ap, sym, ◌∙◌, subst}
use Rattle.bdd_walk.specs.Sets.{set_of, IsSet}
use Rattle.gta_subsets.specs.Numbers.{Grows}
use Rattle.bdd_walk.proofs.SetsLemmas.{set_of-twice}
use Rattle.gta_subsets.proofs.NumbersLemmas.{KeepsAnswers-grows, AnswersOnly-grows}
use Rattle.gta_subsets.proofs.numbering.NumberingLeafRule.leaf.Goals as goal

pub returns-clause-kept : goal.returns-clause-kept
returns-clause-kept c = KeepsAnswers-grows _ _ _ c.number.ensures.grows

pub returns-clause-only : goal.returns-clause-only
returns-clause-only c = λ states answer there absent.
    AnswersOnly-grows c.args.self.now c.number.new.self c.args.states.now
    (subst (λ (set : List ℕ). Grows c.args.self.now c.number.new.self set) (c.in_ok-set.ensures ∙ ap set_of c.as_slice.ensures) c.number.ensures.grows)
    states answer there absent

pub number-requires : goal.number-requires
number-requires c = subst (λ (set : List ℕ). IsSet set) (sym c.in_ok-set.ensures) (set_of-twice c.as_slice.result.now)
