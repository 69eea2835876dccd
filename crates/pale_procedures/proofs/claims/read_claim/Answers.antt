use Rattle.std.proofs.Common.{not, sym, subst}
use Rattle.pale_sights.specs.Framing.{AreOfATable}
use Rattle.pale_sights.proofs.SightLemmas.{heading-variables}
use Rattle.pale_procedures.proofs.claims.read_claim.Goals as goal

pub read_optional-requires-clause-variables : goal.read_optional-requires-clause-variables
read_optional-requires-clause-variables c =
    subst AreOfATable (sym c.in_ok-sight.ensures) (heading-variables c.args.heading.now c.args.is_pre (not c.args.is_pre))
