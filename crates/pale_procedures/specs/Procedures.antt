-- Procedures: what they are typed as, and what is refused first, in the order parameters, results, logic variables, `pre`, `post`,
-- locals, statements.
use Rattle.std.specs.Prelude.{List}
use Rattle.pale_syntax.specs.declared.tree.declaration.Procedure.{Procedure}
use Rattle.store_core.specs.Tables.{VarEntry}
use Rattle.pale_tables.specs.Faults.{Fault, ◌>>◌}
use Rattle.pale_procedures.specs.declared.basis.Basis.{Basis}
use Rattle.pale_sights.specs.declared.sights.Heading.{Heading}
use Rattle.pale_sights.specs.declared.sights.Frame.{Frame}
use Rattle.pale_procedures.specs.declared.claims.Claims.{Claims}
use Rattle.pale_sights.specs.declared.headings.Lists.{Lists}
use Rattle.pale_typed.specs.declared.typed.ProcEntry.{ProcEntry}
use Rattle.pale_sights.specs.Variables.{variables_fault}
use Rattle.pale_sights.specs.Sights.{frame_of}
use Rattle.pale_procedures.specs.Statements.{types_of, typed_block, block_fault}
use Rattle.pale_sights.specs.Headings.{heading_of, locals_of, heading_names, heading_fault, frame_in, lists_of}
use Rattle.pale_procedures.specs.Claims.{claims_of, claims_fault}

-- ---- procedures

-- with its name, its places and its statements
abbrev pub entry_of : Basis → Lists → Claims → Frame → Procedure → ProcEntry
entry_of basis lists claims frame p = record {
  vars = frame.vars;
  proc = record {
    name = p.name.bytes;
    place = p.place;
    last = p.end.line;
    params = lists.params;
    results = lists.results;
    locals = lists.locals;
    logics = lists.logics;
    pre = claims.pre;
    post = claims.post;
    body = typed_block basis frame p.body;
  };
}

-- where the body has these locals
abbrev pub entry_with : Basis → Heading → List VarEntry → Claims → Procedure → ProcEntry
entry_with basis h locals claims p = entry_of basis (lists_of h locals) claims (frame_of h locals) p

unfoldable pub typed_procedure : Basis → Procedure → ProcEntry
typed_procedure basis p =
    entry_of basis (lists_of (heading_of (types_of basis) p) (locals_of (types_of basis) p))
    (claims_of basis.declared (heading_of (types_of basis) p) p) (frame_in (types_of basis) p) p

unfoldable pub procedure_fault : Basis → Procedure → Fault
procedure_fault basis p =
    heading_fault (types_of basis) p
    >> claims_fault basis.declared (heading_of (types_of basis) p) p
    >> variables_fault (types_of basis) (heading_names p) p.locals >> block_fault basis (frame_in (types_of basis) p) p.body
