use Rattle.ws2s_core.specs.Examples.{track}
use Rattle.ws2s_theory.specs.Worked.{plain}
use Rattle.ws2s_theory.proofs.WorkedLemmas.{plain-guide}
use Rattle.cert_theory.proofs.StartsLemmas.{outside_itself, part, all, both, table, Recognises-part, HoldsAndCloses-both}
use Rattle.cert_theory.proofs.StartsLemmas.{IsSetTable-both, nothing-accepted, always}
use Rattle.cert_theory.proofs.tables.closed_starts_are_not_enough.Goals as goal

pub returns : goal.returns
returns c = (
  plain,
  part,
  all,
  track 1,
  outside_itself,
  both,
  table,
  plain-guide,
  Recognises-part,
  HoldsAndCloses-both,
  IsSetTable-both,
  nothing-accepted,
  always,
)
