use Rattle.std.proofs.Common.{◌≡◌, ◌++◌, drop}
use Rattle.store_core.specs.Tables.{AreDistinct, var_names}
use Rattle.pale_sights.proofs.sights.add_all.Given as goal

-- the variables that are left come behind those that are there, and have names of their own
abbrev pub invariant-loop-variable : goal.invariant-loop-variable
invariant-loop-variable l = record {
  there : l.vars ++ drop l.variable-index l.variables ≡ l.initial.vars ++ l.variables;
  new : AreDistinct (var_names l.vars ++ var_names (drop l.variable-index l.variables));
}
