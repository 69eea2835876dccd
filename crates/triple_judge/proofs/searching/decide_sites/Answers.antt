use Rattle.std.proofs.Common.{◌∙◌, sym, subst}
use Rattle.gta_theory.specs.Guides.{Spaces}
use Rattle.site_list.specs.Triples.{site_formula}
use Rattle.triple_judge.specs.Judging.{ArePeaksWithin}
use Rattle.triple_judge.proofs.searching.decide_sites.Goals as goal

pub decide_in_order-searched-requires-clause-kept : goal.decide_in_order-searched-requires-clause-kept
decide_in_order-searched-requires-clause-kept g c = c.in_ok-decider.ensures.kept c.args.shelf.now c.requires.tables

pub returns-clause-limit : goal.returns-clause-limit
returns-clause-limit g c = λ at_limit p peaks.
    c.decide_in_order-searched.ensures.limit at_limit p
    (subst (λ (g : Spaces). ArePeaksWithin g (site_formula c.args.l.now.types c.args.l.now.vars c.args.t.now) p)
    (sym (c.in_ok-decider.ensures.guide ∙ c.in_ok-guide.ensures)) peaks)
