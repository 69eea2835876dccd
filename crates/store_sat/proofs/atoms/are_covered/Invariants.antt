use Rattle.std.proofs.Common.{Contains}
use Rattle.store_core.specs.Stores.{IsLive}
use Rattle.store_sat.proofs.BelowLemmas.{AllBelow}
use Rattle.store_sat.proofs.atoms.are_covered.Given as goal

-- the live cells so far are among the others
abbrev pub invariant-loop-cell : goal.invariant-loop-cell
invariant-loop-cell l = AllBelow (λ c. IsLive l.store c → Contains l.others c) l.cell-index l.cells
