-- How many tokens declarations and programs have.
use Rattle.std.proofs.Common.{◌≡◌, ℕ, suc, ◌+◌, ◌≤◌, false, List, [], ◌∷◌, length, arith}
use Rattle.std.specs.Prelude.{codes}
use Rattle.pale_text.specs.declared.token.Mark.TheVariants as mark
use Rattle.pale_syntax.specs.declared.tree.declaration.Declaration.{Declaration}
use Rattle.pale_syntax.specs.declared.tree.declaration.Declaration.TheVariants as declaration
use Rattle.pale_syntax.specs.declared.tree.declaration.FieldDeclaration.{FieldDeclaration}
use Rattle.pale_syntax.specs.declared.tree.declaration.FieldForm.{FieldForm}
use Rattle.pale_syntax.specs.declared.tree.declaration.FieldForm.TheVariants as form
use Rattle.pale_syntax.specs.declared.tree.declaration.LogicParameter.{LogicParameter}
use Rattle.pale_syntax.specs.declared.tree.declaration.LogicParameter.TheVariants as logic
use Rattle.pale_syntax.specs.declared.tree.declaration.Parameter.{Parameter}
use Rattle.pale_syntax.specs.declared.tree.declaration.Parameter.TheVariants as parameter
use Rattle.pale_syntax.specs.declared.tree.declaration.PredicateDeclaration.{PredicateDeclaration}
use Rattle.pale_syntax.specs.declared.tree.declaration.PredicateParameter.{PredicateParameter}
use Rattle.pale_syntax.specs.declared.tree.declaration.PredicateParameter.TheVariants as predicate
use Rattle.pale_syntax.specs.declared.tree.declaration.Procedure.{Procedure}
use Rattle.pale_syntax.specs.declared.tree.declaration.Program.{Program}
use Rattle.pale_syntax.specs.declared.tree.declaration.TypeDeclaration.{TypeDeclaration}
use Rattle.pale_syntax.specs.declared.tree.declaration.VariantDeclaration.{VariantDeclaration}
use Rattle.pale_syntax.specs.declared.tree.names.Name.{Name}
use Rattle.pale_syntax.specs.declared.tree.statement.Statement.{Statement}
use Rattle.pale_print.specs.Tokens.{each, each_behind, sign, ◌>>◌}
use Rattle.pale_print.specs.AssertionTokens.{bracketed_tokens}
use Rattle.pale_print.specs.StatementTokens.{clause_tokens, statement_tokens}
use Rattle.pale_print.specs.DeclarationTokens.{field_form_tokens, field_tokens, fields_tokens, variant_tokens, type_tokens}
use Rattle.pale_print.specs.DeclarationTokens.{predicate_parameter_tokens, predicate_tokens, parameter_tokens, parameters_tokens}
use Rattle.pale_print.specs.DeclarationTokens.{results_tokens, logic_parameter_tokens, logics_tokens, local_tokens}
use Rattle.pale_print.specs.DeclarationTokens.{procedure_tokens, declaration_tokens, program_tokens}
use Rattle.pale_print_laws.proofs.RouteSizes.{Takes, route_size, route_takes}
use Rattle.pale_print_laws.proofs.AssertionSizes.{assertion_size}
use Rattle.pale_print_laws.proofs.ListSizes.{each_size, behind_size, separated_size, each_takes, behind_takes, separated_takes}
use Rattle.pale_print_laws.proofs.StatementSizes.{clause_size, clause_takes, bracketed_takes, statement_takes, statements_size}

abbrev pub form_size : FieldForm → ℕ
form_size form.Bool = 3
form_size (form.Data ty) = 5
form_size (form.Pointer ty place r) = suc (suc (suc (suc (suc (route_size r 0 + 2)))))

abbrev pub field_size : FieldDeclaration → ℕ
field_size f = form_size f.form

abbrev pub variant_size : VariantDeclaration → ℕ
variant_size v = suc (suc (suc (each_size field_size v.fields)))

abbrev pub type_size : TypeDeclaration → ℕ
type_size t = suc (suc (suc (suc (suc (each_size field_size t.fields + behind_size variant_size t.variants)))))

abbrev pub predicate_parameter_size : PredicateParameter → ℕ
predicate_parameter_size (predicate.Cell x ty) = 3
predicate_parameter_size (predicate.Set x ty) = 4
predicate_parameter_size (predicate.Bool x) = 2

abbrev pub predicate_size : PredicateDeclaration → ℕ
predicate_size p =
    suc
    (suc (suc (separated_size predicate_parameter_size p.parameters + suc (suc (suc (suc (suc (assertion_size p.body.assertion 0 false))))))))

abbrev pub parameter_size : Parameter → ℕ
parameter_size (parameter.Data x ty) = 4
parameter_size (parameter.Pointer x ty) = 4
parameter_size (parameter.Bool x) = 2

abbrev pub results_size : List Parameter → ℕ
results_size [] = 0
results_size (p ∷ ps) = suc (suc (suc (separated_size parameter_size (p ∷ ps))))

abbrev pub logic_parameter_size : LogicParameter → ℕ
logic_parameter_size (logic.Set x ty) = 4
logic_parameter_size (logic.Bool x) = 2

abbrev pub logics_size : List LogicParameter → ℕ
logics_size [] = 0
logics_size (l ∷ ls) = suc (separated_size logic_parameter_size (l ∷ ls))

abbrev pub local_size : Parameter → ℕ
local_size p = suc (parameter_size p)

abbrev pub procedure_size : Procedure → ℕ
procedure_size p =
    suc (suc (suc (suc
    (separated_size parameter_size p.parameters + (results_size p.results + (logics_size p.logics + (clause_size p.pre + (clause_size p.post +
    suc (suc (each_size local_size p.locals + statements_size p.body))))))))))

abbrev pub declaration_size : Declaration → ℕ
declaration_size (declaration.«Type» t) = type_size t
declaration_size (declaration.Predicate p) = predicate_size p
declaration_size (declaration.Procedure p) = procedure_size p

-- ---- the tokens are so many

form_takes : (x : Name) (f : FieldForm) → Takes (field_form_tokens x f) (form_size f)
form_takes x form.Bool = record { takes = λ after. omega arith }
form_takes x (form.Data ty) = record { takes = λ after. omega arith }
form_takes x (form.Pointer ty place r) = record {
  takes = λ after.
      let e = (route_takes r 0).takes (sign mark.RightBracket >> sign mark.Semicolon >> after) in omega arith;
}

field_takes : (f : FieldDeclaration) → Takes (field_tokens f) (field_size f)
field_takes f = form_takes f.name f.form

fields_take : (fs : List FieldDeclaration) → Takes (fields_tokens fs) (suc (suc (each_size field_size fs)))
fields_take fs = record { takes = λ after. let e = each_takes field_tokens field_size field_takes fs (sign mark.RightBrace >> after) in omega arith }

variant_takes : (v : VariantDeclaration) → Takes (variant_tokens v) (variant_size v)
variant_takes v = record { takes = λ after. let e = (fields_take v.fields).takes after in omega arith }

type_takes : (t : TypeDeclaration) → Takes (type_tokens t) (type_size t)
type_takes t = record {
  takes = λ after.
      let e = (fields_take t.fields).takes (each_behind mark.Bar variant_tokens t.variants >> after) in
      let f = behind_takes variant_tokens variant_size variant_takes mark.Bar t.variants after in
      omega arith;
}

predicate_parameter_takes : (p : PredicateParameter) → Takes (predicate_parameter_tokens p) (predicate_parameter_size p)
predicate_parameter_takes (predicate.Cell x ty) = record { takes = λ after. omega arith }
predicate_parameter_takes (predicate.Set x ty) = record { takes = λ after. omega arith }
predicate_parameter_takes (predicate.Bool x) = record { takes = λ after. omega arith }

predicate_takes : (p : PredicateDeclaration) → Takes (predicate_tokens p) (predicate_size p)
predicate_takes p = record {
  takes = λ after.
      let last = sign mark.Semicolon >> after in
      let e = separated_takes predicate_parameter_tokens predicate_parameter_size predicate_parameter_takes mark.Comma p.parameters
      (sign mark.RightParen >> sign mark.Equals >> bracketed_tokens p.body >> last) in
      let f = (bracketed_takes p.body).takes last in
      omega arith;
}

parameter_takes : (p : Parameter) → Takes (parameter_tokens p) (parameter_size p)
parameter_takes (parameter.Data x ty) = record { takes = λ after. omega arith }
parameter_takes (parameter.Pointer x ty) = record { takes = λ after. omega arith }
parameter_takes (parameter.Bool x) = record { takes = λ after. omega arith }

parameters_take : (ps : List Parameter) → Takes (parameters_tokens ps) (suc (suc (separated_size parameter_size ps)))
parameters_take ps =
    record {
      takes = λ after. let e = separated_takes parameter_tokens parameter_size parameter_takes mark.Comma ps
          (sign mark.RightParen >> after) in omega arith;
    }

results_take : (ps : List Parameter) → Takes (results_tokens ps) (results_size ps)
results_take [] = record { takes = λ after. omega arith }
results_take (p ∷ ps) = record { takes = λ after. let e = (parameters_take (p ∷ ps)).takes after in omega arith }

logic_parameter_takes : (l : LogicParameter) → Takes (logic_parameter_tokens l) (logic_parameter_size l)
logic_parameter_takes (logic.Set x ty) = record { takes = λ after. omega arith }
logic_parameter_takes (logic.Bool x) = record { takes = λ after. omega arith }

logics_take : (ls : List LogicParameter) → Takes (logics_tokens ls) (logics_size ls)
logics_take [] = record { takes = λ after. omega arith }
logics_take (l ∷ ls) = record {
  takes = λ after.
      let e = separated_takes logic_parameter_tokens logic_parameter_size logic_parameter_takes mark.Comma (l ∷ ls) after in omega arith;
}

local_takes : (p : Parameter) → Takes (local_tokens p) (local_size p)
local_takes p = record { takes = λ after. let e = (parameter_takes p).takes (sign mark.Semicolon >> after) in omega arith }

statements_take : (ss : List Statement) (after : _) → length (each statement_tokens ss after) ≡ statements_size ss + length after
statements_take [] after = omega arith
statements_take (s ∷ ss) after =
    let e = (statement_takes s).takes (each statement_tokens ss after) in
    let more = statements_take ss after in
    omega arith

procedure_takes : (p : Procedure) → Takes (procedure_tokens p) (procedure_size p)
procedure_takes p = record {
  takes = λ after.
      let end = sign mark.RightBrace >> after in
      let body = each statement_tokens p.body >> end in
      let locals = sign mark.LeftBrace >> each local_tokens p.locals >> body in
      let post = clause_tokens (codes "post") p.post >> locals in
      let pre = clause_tokens (codes "pre") p.pre >> post in
      let logics = logics_tokens p.logics >> pre in
      let results = results_tokens p.results >> logics in
      let a = (parameters_take p.parameters).takes results in
      let b = (results_take p.results).takes logics in
      let c = (logics_take p.logics).takes pre in
      let d = (clause_takes (codes "pre") p.pre).takes post in
      let e = (clause_takes (codes "post") p.post).takes locals in
      let f = each_takes local_tokens local_size local_takes p.locals body in
      let g = statements_take p.body end in
      omega arith;
}

declaration_takes : (d : Declaration) → Takes (declaration_tokens d) (declaration_size d)
declaration_takes (declaration.«Type» t) = type_takes t
declaration_takes (declaration.Predicate p) = predicate_takes p
declaration_takes (declaration.Procedure p) = procedure_takes p

pub program_length : (p : Program) → length (program_tokens p) ≡ each_size declaration_size p.declarations
unfolding program_tokens
program_length p = let e = each_takes declaration_tokens declaration_size declaration_takes p.declarations [] in omega arith

pub results_at_most : (ps : List Parameter) → results_size ps ≤ suc (suc (suc (separated_size parameter_size ps)))
results_at_most [] = omega arith
results_at_most (p ∷ ps) = omega arith

pub logics_at_most : (ls : List LogicParameter) → logics_size ls ≤ suc (separated_size logic_parameter_size ls)
logics_at_most [] = omega arith
logics_at_most (l ∷ ls) = omega arith
