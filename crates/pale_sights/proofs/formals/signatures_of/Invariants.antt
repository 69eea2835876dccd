use Rattle.std.proofs.Common.{◌≡◌, ◌++◌, None, drop, map}
use Rattle.pale_tables.specs.Names.{repeated_fault}
use Rattle.pale_calls.specs.Signatures.{procedure_names}
use Rattle.pale_sights.specs.Formals.{named_of}
use Rattle.pale_sights.proofs.formals.signatures_of.Given as goal

-- the names that are left are new
abbrev pub invariant-loop-procedure : goal.invariant-loop-procedure
invariant-loop-procedure l = record {
  names : repeated_fault (procedure_names l.found) (map (λ p. p.now.name) (drop l.procedure-index l.procedures)) ≡ None;
  found : l.found ++ map (named_of l.types) (map (λ p. p.now) (drop l.procedure-index l.procedures))
      ≡ map (named_of l.types) (map (λ p. p.now) l.procedures);
}
