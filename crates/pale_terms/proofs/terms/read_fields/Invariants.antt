use Rattle.std.proofs.Common.{◌≡◌, ◌++◌, drop}
use Rattle.pale_terms.specs.Terms.{fields_fault, typed_fields, sort_along}
use Rattle.pale_terms.proofs.terms.read_fields.Given as goal

-- what came before has no fault, and the fields that are left come behind those that were found
abbrev pub invariant-loop-name : goal.invariant-loop-name
invariant-loop-name l = record {
  faults : fields_fault l.types l.fn.start l.names ≡ fields_fault l.types l.sort (drop l.name-index l.names);
  fields : l.fields ++ typed_fields l.types l.sort (drop l.name-index l.names) ≡ typed_fields l.types l.fn.start l.names;
  sort : sort_along l.types l.sort (drop l.name-index l.names) ≡ sort_along l.types l.fn.start l.names;
}
