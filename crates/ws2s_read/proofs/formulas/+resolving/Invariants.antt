use Rattle.std.proofs.Common.{◌≡◌, ◌++◌, Ok, map, drop}
use Rattle.ws2s_read.specs.Resolving.{each_resolved, resolved_formula, ◌>>=◌}
use Rattle.ws2s_read.proofs.formulas.+resolving.Given as goal

abbrev pub invariant-resolve_each-loop-formula : goal.invariant-resolve_each-loop-formula
invariant-resolve_each-loop-formula l = record {
  names_stay : l.names ≡ l.fn.names;
  so_far : (each_resolved l.fn.names (map (resolved_formula l.outer) (drop l.formula-index l.formulas)) >>= λ rest. Ok (l.resolved ++ rest))
      ≡ each_resolved l.fn.names (map (resolved_formula l.outer) l.formulas);
}
