use Rattle.std.proofs.Common.{◌≡◌, map, take}
use Rattle.ws2s_syntax.specs.Checked.{class_of_free}
use Rattle.ws2s_reduce.specs.Reducing.{singles_from}
use Rattle.ws2s_reduce.proofs.reduction.singles.Given as goal

abbrev pub invariant-loop-variable : goal.invariant-loop-variable
invariant-loop-variable l = record {
  place : l.track ≡ l.variable-index;
  made : l.formulas.items ≡ singles_from 0 (map class_of_free (take l.variable-index l.free));
}
