-- What a procedure declares for its callers. A type that isn't there differs from every type.
use Rattle.std.specs.Prelude.{List, map, None}
use Rattle.pale_syntax.specs.declared.tree.declaration.Parameter.{Parameter}
use Rattle.pale_syntax.specs.declared.tree.declaration.Parameter.TheVariants as parameter
use Rattle.pale_syntax.specs.declared.tree.declaration.LogicParameter.{LogicParameter}
use Rattle.pale_syntax.specs.declared.tree.declaration.LogicParameter.TheVariants as logic
use Rattle.pale_syntax.specs.declared.tree.declaration.Procedure.{Procedure}
use Rattle.store_core.specs.Tables.{TypeEntry, type_named}
use Rattle.pale_calls.specs.declared.class.VarClass.TheVariants as class
use Rattle.pale_calls.specs.declared.signature.Formal.{Formal}
use Rattle.pale_calls.specs.declared.signature.Signature.{Signature}
use Rattle.pale_calls.specs.Signatures.{Named}

abbrev pub formal_of : List TypeEntry → Parameter → Formal
formal_of types (parameter.Data name ty) = record { class = class.Data; ty = type_named types ty.bytes }
formal_of types (parameter.Pointer name ty) = record { class = class.Pointer; ty = type_named types ty.bytes }
formal_of types (parameter.Bool name) = record { class = class.Bool; ty = None }

abbrev pub logic_formal_of : List TypeEntry → LogicParameter → Formal
logic_formal_of types (logic.Set name ty) = record { class = class.LogicSet; ty = type_named types ty.bytes }
logic_formal_of types (logic.Bool name) = record { class = class.LogicBool; ty = None }

abbrev pub signature_of : List TypeEntry → Procedure → Signature
signature_of types p = record {
  params = map (formal_of types) p.parameters;
  results = map (formal_of types) p.results;
  logics = map (logic_formal_of types) p.logics;
}

-- the procedure as calls see it
abbrev pub named_of : List TypeEntry → Procedure → Named
named_of types p = record { name = p.name.bytes; signature = signature_of types p }
