use Rattle.std.proofs.Common.{◌∙◌, sym}
use Rattle.ws2s_decide.specs.Deciding.{guide_of}
use Rattle.site_list.specs.Triples.{site_formula}
use Rattle.tree_reached.proofs.ReplacingLemmas.{same-on-trees}
use Rattle.triple_judge.proofs.FailingLemmas.{follows-site, lays-out}
use Rattle.triple_judge.proofs.SearchingLemmas.{verdict-of, above-peaks}
use Rattle.triple_judge.proofs.verdicts.verdict_at.Goals as goal

pub verdict_on-requires-clause-follows : goal.verdict_on-requires-clause-follows
verdict_on-requires-clause-follows g c =
    follows-site c.args.l.now.types c.args.l.now.vars c.args.t.now c.args.site c.in-Some.formula c.args.of_trees.now c.requires.holds
    (sym c.in_ok-formula.ensures.value ∙ c.in-Some.is)

pub verdict_on-requires-clause-same : goal.verdict_on-requires-clause-same
verdict_on-requires-clause-same g c =
    let types = c.args.l.now.types in
    let vars = c.args.l.now.vars in
    same-on-trees types vars c.in-Some.formula c.in_ok-easier-in-Some.easier
    (λ a finite sat.
    lays-out types vars c.args.t.now c.requires.table a finite c.args.site c.in-Some.formula (sym c.in_ok-formula.ensures.value ∙ c.in-Some.is) sat)
    c.in_ok-easier-in-Some.ensures

pub returns-in_ok-verdict-in-Some-clause-value : goal.returns-in_ok-verdict-in-Some-clause-value
returns-in_ok-verdict-in-Some-clause-value g c =
    verdict-of (site_formula c.args.l.now.types c.args.l.now.vars c.args.t.now) c.args.tracks.now c.args.site c.in-Some.formula
    c.in_ok-verdict-in-Some.verdict (sym c.in_ok-formula.ensures.value ∙ c.in-Some.is) c.in_ok-verdict-in-Some.ensures.value

pub returns-in_ok-verdict-in-Some-clause-limit : goal.returns-in_ok-verdict-in-Some-clause-limit
returns-in_ok-verdict-in-Some-clause-limit g c = λ at_limit p peaks.
    above-peaks (site_formula c.args.l.now.types c.args.l.now.vars c.args.t.now) (guide_of c.args.decider.now) c.args.site c.in-Some.formula _ p
    (sym c.in_ok-formula.ensures.value ∙ c.in-Some.is) (λ q peak. c.in_ok-verdict-in-Some.ensures.limit at_limit q peak) peaks

-- a site without a formula
pub returns-in-None-clause-value : goal.returns-in-None-clause-value
returns-in-None-clause-value g c = λ f there.
    let none = sym c.in-None.is ∙ c.in_ok-formula.ensures.value ∙ there in
    absurd (cc)
