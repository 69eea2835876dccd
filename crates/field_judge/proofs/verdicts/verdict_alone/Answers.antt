use Rattle.std.proofs.Common.{◌∙◌, sym, subst}
use Rattle.gta_theory.specs.Guides.{Spaces}
use Rattle.ws2s_theory.specs.Peaks.{HasPeak}
use Rattle.tree_reached.proofs.ReplacingLemmas.{same-on-trees}
use Rattle.field_judge.proofs.verdicts.verdict_alone.Goals as goal

pub verdict_on-verdict-requires-clause-kept : goal.verdict_on-verdict-requires-clause-kept
verdict_on-verdict-requires-clause-kept g c =
    c.used_once-decider.ensures.kept c.args.shelf.now (c.in_ok-decider.ensures.kept c.args.shelf.now c.requires.tables)

-- the formula by fields stands for it, since trees alone satisfy it
pub verdict_on-verdict-requires-clause-same : goal.verdict_on-verdict-requires-clause-same
verdict_on-verdict-requires-clause-same g c =
    same-on-trees c.args.l.now.types c.args.l.now.vars c.args.formula.now c.in_ok-easier.easier c.requires.trees c.in_ok-easier.ensures

-- the decider is under the guide
pub returns-clause-limit : goal.returns-clause-limit
returns-clause-limit g c = λ at_limit p peak.
    c.verdict_on-verdict.ensures.limit at_limit p
    (subst (λ (g : Spaces). HasPeak g c.args.formula.now p)
    (sym (c.used_once-decider.ensures.guide ∙ c.in_ok-decider.ensures.guide ∙ c.in_ok-guide.ensures)) peak)
