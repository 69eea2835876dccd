use Rattle.std.proofs.Common.{◌∷◌}
use Rattle.gta_theory.proofs.ListsLemmas.{Contains-first}
use Rattle.gta_keep.proofs.HoldingLemmas.{Holds-registered}
use Rattle.ws2s_decide.proofs.BackLemmas.{Releases-released}
use Rattle.ws2s_decide.proofs.valuing.valued_by.Goals as goal

pub release-requires : goal.release-requires
release-requires c =
    let all = c.args.auto ∷ c.requires.0 in
    let held = c.valued_with-found.ensures.still all c.requires.1 in
    Holds-registered c.args.g.now c.valued_with-found.new.shelf all held.holds c.args.auto (Contains-first c.args.auto c.requires.0)

pub returns-clause-rests : goal.returns-clause-rests
returns-clause-rests c = λ autos holds.
    Releases-released c.args.g.now c.args.shelf.now c.valued_with-found.new.shelf c.release.new.shelf c.args.auto autos
    (c.valued_with-found.ensures.still (c.args.auto ∷ autos) holds) c.release.ensures.shelf c.release.ensures.dropped
