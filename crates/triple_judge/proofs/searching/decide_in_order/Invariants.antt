use Rattle.site_list.specs.Triples.{site_formula}
use Rattle.triple_judge.proofs.SearchingLemmas.{GoesOn}
use Rattle.triple_judge.proofs.searching.decide_in_order.Given as goal

-- the sites so far are decided
abbrev pub invariant-loop-site : goal.invariant-loop-site
invariant-loop-site g l =
    GoesOn (site_formula l.l.types l.l.vars l.t) l.tracks l.initial.shelf l.initial.decider l.site l.searched l.shelf l.decider
