use Rattle.std.proofs.Common.{◌≡◌, ◌++◌, drop}
use Rattle.store_core.specs.Tables.{AreDistinct, var_names}
use Rattle.pale_terms.specs.Scopes.{visible_names}
use Rattle.pale_sights.specs.Sights.{seen}
use Rattle.pale_sights.proofs.sights.show.Given as goal

-- the variables that are left come behind those that are shown, and have names of their own
abbrev pub invariant-loop-variable : goal.invariant-loop-variable
invariant-loop-variable l = record {
  shown : l.scope ++ seen l.may l.number (drop l.variable-index l.variables) ≡ l.initial.scope ++ seen l.may l.first l.variables;
  new : AreDistinct (visible_names l.scope ++ var_names (drop l.variable-index l.variables));
}
