use Rattle.std.proofs.Common.{◌≡◌, ◌++◌, drop}
use Rattle.pale_sights.specs.Sights.{numbers}
use Rattle.pale_sights.proofs.sights.numbers.Given as goal

abbrev pub invariant-loop-variable : goal.invariant-loop-variable
invariant-loop-variable l = l.found ++ numbers l.number (drop l._variable-index l.variables) ≡ numbers l.first l.variables
