-- What is made of declarations.
use Rattle.std.specs.Prelude.{[], ◌∷◌, ◌++◌, None, Some}
use Rattle.plain_data.specs.Stacks.{top, rest}
use Rattle.pale_syntax.specs.declared.grammar.act.TypeAct.{TypeAct}
use Rattle.pale_syntax.specs.declared.grammar.act.TypeAct.TheVariants.{BoolField, DataField, PointerField, EndCommon, AddVariant, AddType}
use Rattle.pale_syntax.specs.declared.grammar.act.PredicateAct.{PredicateAct}
use Rattle.pale_syntax.specs.declared.grammar.act.PredicateAct.TheVariants.{CellParameter, SetParameter, BoolParameter, AddPredicate}
use Rattle.pale_syntax.specs.declared.grammar.act.ProcedureAct.{ProcedureAct}
use Rattle.pale_syntax.specs.declared.grammar.act.ProcedureAct.TheVariants.{DataParameter, PointerParameter, BoolVariable, TakeParameters}
use Rattle.pale_syntax.specs.declared.grammar.act.ProcedureAct.TheVariants.{TakeResults, LogicSet, LogicBool, SetPre, SetPost, AddProcedure}
use Rattle.pale_syntax.specs.declared.tree.names.Name.{Name}
use Rattle.pale_syntax.specs.declared.tree.declaration.Declaration.{Declaration}
use Rattle.pale_syntax.specs.declared.tree.declaration.Declaration.TheVariants as declaration
use Rattle.pale_syntax.specs.declared.tree.declaration.FieldDeclaration.{FieldDeclaration}
use Rattle.pale_syntax.specs.declared.tree.declaration.FieldForm.TheVariants as form
use Rattle.pale_syntax.specs.declared.tree.declaration.LogicParameter.{LogicParameter}
use Rattle.pale_syntax.specs.declared.tree.declaration.LogicParameter.TheVariants as logic
use Rattle.pale_syntax.specs.declared.tree.declaration.Parameter.{Parameter}
use Rattle.pale_syntax.specs.declared.tree.declaration.Parameter.TheVariants as parameter
use Rattle.pale_syntax.specs.declared.tree.declaration.PredicateDeclaration.{PredicateDeclaration}
use Rattle.pale_syntax.specs.declared.tree.declaration.PredicateParameter.{PredicateParameter}
use Rattle.pale_syntax.specs.declared.tree.declaration.PredicateParameter.TheVariants as predicate
use Rattle.pale_syntax.specs.declared.tree.declaration.Procedure.{Procedure}
use Rattle.pale_syntax.specs.declared.tree.declaration.TypeDeclaration.{TypeDeclaration}
use Rattle.pale_syntax.specs.MakingParts.{Parts, Near, nameless}
use Rattle.pale_text.specs.Places.{nowhere}
use Rattle.pale_syntax.specs.MakingRoutes.{routeless}
use Rattle.pale_syntax.specs.MakingStatements.{bracketless}

-- the last name, and the one before it
abbrev pub last_name : Parts → Name
last_name parts = top nameless parts.names

abbrev pub name_before : Parts → Name
name_before parts = top nameless (rest parts.names)

abbrev pub with_field : FieldDeclaration → Parts → Parts
with_field one parts = record parts { fields = parts.fields ++ one ∷ [] }

abbrev pub with_declaration : Declaration → Parts → Parts
with_declaration one parts = record parts { declarations = parts.declarations ++ one ∷ [] }

abbrev pub type_of : Parts → TypeDeclaration
type_of parts = record { name = last_name parts; fields = parts.common; variants = parts.variants }

abbrev pub after_type : TypeAct → Near → Parts → Parts
after_type BoolField near parts =
    record (with_field (record { name = last_name parts; form = form.Bool }) parts) { names = rest parts.names }
after_type DataField near parts =
    record (with_field (record { name = name_before parts; form = form.Data (last_name parts) }) parts) { names = rest (rest parts.names) }
after_type PointerField near parts =
    record (with_field (record {
      name = name_before parts;
      form = form.Pointer (last_name parts) (top nowhere parts.places) (top routeless parts.routes);
    }) parts) {
      names = rest (rest parts.names);
      places = rest parts.places;
      routes = rest parts.routes;
    }
after_type EndCommon near parts = record parts { common = parts.fields; fields = [] }
after_type AddVariant near parts =
    record parts {
      variants = parts.variants ++ record { name = last_name parts; fields = parts.fields } ∷ [];
      names = rest parts.names;
      fields = [];
    }
after_type AddType near parts =
    record (with_declaration (declaration.«Type» (type_of parts)) parts) { names = rest parts.names; common = []; variants = [] }

abbrev pub with_predicate_parameter : PredicateParameter → Parts → Parts
with_predicate_parameter one parts = record parts { predicate_parameters = parts.predicate_parameters ++ one ∷ [] }

abbrev pub predicate_of : Parts → PredicateDeclaration
predicate_of parts =
    record { name = last_name parts; parameters = parts.predicate_parameters; body = top bracketless parts.brackets }

abbrev pub after_predicate : PredicateAct → Near → Parts → Parts
after_predicate CellParameter near parts =
    record (with_predicate_parameter (predicate.Cell (name_before parts) (last_name parts)) parts) { names = rest (rest parts.names) }
after_predicate SetParameter near parts =
    record (with_predicate_parameter (predicate.Set (name_before parts) (last_name parts)) parts) { names = rest (rest parts.names) }
after_predicate BoolParameter near parts =
    record (with_predicate_parameter (predicate.Bool (last_name parts)) parts) { names = rest parts.names }
after_predicate AddPredicate near parts =
    record (with_declaration (declaration.Predicate (predicate_of parts)) parts) {
      names = rest parts.names;
      brackets = rest parts.brackets;
      predicate_parameters = [];
    }

abbrev pub with_variable : Parameter → Parts → Parts
with_variable one parts = record parts { variables = parts.variables ++ one ∷ [] }

abbrev pub with_logic : LogicParameter → Parts → Parts
with_logic one parts = record parts { logics = parts.logics ++ one ∷ [] }

-- the place of `proc` lies below that of the last `}`
abbrev pub procedure_of : Parts → Procedure
procedure_of parts =
    record {
      place = top nowhere (rest parts.places);
      name = last_name parts;
      parameters = parts.parameters;
      results = parts.results;
      logics = parts.logics;
      pre = parts.pre;
      post = parts.post;
      locals = parts.variables;
      body = top [] parts.blocks;
      end = top nowhere parts.places;
    }

-- these parts are taken
abbrev pub without_procedure : Parts → Parts
without_procedure parts =
    record parts {
      places = rest (rest parts.places);
      names = rest parts.names;
      blocks = rest parts.blocks;
      variables = [];
      parameters = [];
      results = [];
      logics = [];
      pre = None;
      post = None;
    }

abbrev pub after_procedure : ProcedureAct → Near → Parts → Parts
after_procedure DataParameter near parts =
    record (with_variable (parameter.Data (name_before parts) (last_name parts)) parts) { names = rest (rest parts.names) }
after_procedure PointerParameter near parts =
    record (with_variable (parameter.Pointer (name_before parts) (last_name parts)) parts) { names = rest (rest parts.names) }
after_procedure BoolVariable near parts = record (with_variable (parameter.Bool (last_name parts)) parts) { names = rest parts.names }
after_procedure TakeParameters near parts = record parts { parameters = parts.variables; variables = [] }
after_procedure TakeResults near parts = record parts { results = parts.variables; variables = [] }
after_procedure LogicSet near parts =
    record (with_logic (logic.Set (name_before parts) (last_name parts)) parts) { names = rest (rest parts.names) }
after_procedure LogicBool near parts = record (with_logic (logic.Bool (last_name parts)) parts) { names = rest parts.names }
after_procedure SetPre near parts = record parts { pre = Some (top bracketless parts.brackets); brackets = rest parts.brackets }
after_procedure SetPost near parts = record parts { post = Some (top bracketless parts.brackets); brackets = rest parts.brackets }
after_procedure AddProcedure near parts = with_declaration (declaration.Procedure (procedure_of parts)) (without_procedure parts)
