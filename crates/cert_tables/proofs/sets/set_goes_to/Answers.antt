use Rattle.cert_tables.proofs.SetsLemmas.{set-found, set-missing}
use Rattle.cert_tables.proofs.sets.set_goes_to.Goals as goal

pub returns-in-Some : goal.returns-in-Some
returns-in-Some c =
    set-found c.args.sets.now c.args.space c.rising.result.items c.args.state c.in-Some.found c.args.members.items c.in-Some.ensures.sets
    c.rising.ensures.rising c.rising.ensures.same c.in-Some.ensures.found

pub returns-in-None : goal.returns-in-None
returns-in-None c =
    set-missing c.args.sets.now c.args.space c.rising.result.items c.args.state c.args.members.items c.in-None.ensures.sets
    c.rising.ensures.rising c.rising.ensures.same c.in-None.ensures.none
