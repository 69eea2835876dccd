-- Statements, declarations and programs have as many tokens without their places.
use Rattle.std.proofs.Common.{◌≡◌, ℕ, suc, false, List, [], ◌∷◌, length, Option, None, Some, map, refl, sym, ap, ◌∙◌, subst, arith}
use Rattle.std.specs.Option.{option_map}
use Rattle.pale_syntax.specs.declared.tree.names.Name.{Name}
use Rattle.pale_syntax.specs.declared.tree.assertion.Bracketed.{Bracketed}
use Rattle.pale_syntax.specs.declared.tree.statement.Argument.{Argument}
use Rattle.pale_syntax.specs.declared.tree.statement.Call.{Call}
use Rattle.pale_syntax.specs.declared.tree.statement.Value.{Value}
use Rattle.pale_syntax.specs.declared.tree.statement.Value.TheVariants as value
use Rattle.pale_syntax.specs.declared.tree.statement.Statement.{Statement, roll-Statement}
use Rattle.pale_syntax.specs.declared.tree.statement.Statement.TheOpen.{Statement-F}
use Rattle.pale_syntax.specs.declared.tree.statement.Statement.TheFolds.{fold-roll-Statement, ind-Statement, map-Statement}
use denote.Hole.Carrier.{roll}
use Rattle.pale_syntax.specs.declared.tree.declaration.Declaration.{Declaration}
use Rattle.pale_syntax.specs.declared.tree.declaration.Declaration.TheVariants as declaration
use Rattle.pale_syntax.specs.declared.tree.declaration.FieldDeclaration.{FieldDeclaration}
use Rattle.pale_syntax.specs.declared.tree.declaration.FieldForm.{FieldForm}
use Rattle.pale_syntax.specs.declared.tree.declaration.FieldForm.TheVariants as form
use Rattle.pale_syntax.specs.declared.tree.declaration.LogicParameter.{LogicParameter}
use Rattle.pale_syntax.specs.declared.tree.declaration.LogicParameter.TheVariants as logic
use Rattle.pale_syntax.specs.declared.tree.declaration.Parameter.{Parameter}
use Rattle.pale_syntax.specs.declared.tree.declaration.Parameter.TheVariants as parameter
use Rattle.pale_syntax.specs.declared.tree.declaration.PredicateDeclaration.{PredicateDeclaration}
use Rattle.pale_syntax.specs.declared.tree.declaration.PredicateParameter.{PredicateParameter}
use Rattle.pale_syntax.specs.declared.tree.declaration.PredicateParameter.TheVariants as predicate
use Rattle.pale_syntax.specs.declared.tree.declaration.Procedure.{Procedure}
use Rattle.pale_syntax.specs.declared.tree.declaration.Program.{Program}
use Rattle.pale_syntax.specs.declared.tree.declaration.TypeDeclaration.{TypeDeclaration}
use Rattle.pale_syntax.specs.declared.tree.declaration.VariantDeclaration.{VariantDeclaration}
use Rattle.pale_print.specs.DeclarationTokens.{program_tokens}
use Rattle.pale_print.specs.Placeless.{nowhere, placeless_name, placeless_path, placeless_condition, placeless_bracketed}
use Rattle.pale_print.specs.Placeless.{placeless_value, placeless_argument, placeless_call, placeless_statement_node}
use Rattle.pale_print.specs.Placeless.{placeless_statement, placeless_form, placeless_field, placeless_variant, placeless_type}
use Rattle.pale_print.specs.Placeless.{placeless_predicate_parameter, placeless_predicate, placeless_parameter, placeless_logic}
use Rattle.pale_print.specs.Placeless.{placeless_procedure, placeless_declaration, placeless, IsSameButForPlaces}
use Rattle.pale_print_laws.proofs.StatementSizes.{one_token, clause_size, call_result_size, logic_argument_size, call_size}
use Rattle.pale_print_laws.proofs.StatementSizes.{value_size, total, size_node, statement_size, statements_size, sized_at}
use Rattle.pale_print_laws.proofs.DeclarationSizes.{form_size, field_size, variant_size, type_size, predicate_parameter_size}
use Rattle.pale_print_laws.proofs.DeclarationSizes.{predicate_size, parameter_size, results_size, logic_parameter_size}
use Rattle.pale_print_laws.proofs.DeclarationSizes.{logics_size, local_size, procedure_size, declaration_size, program_length}
use Rattle.pale_print_laws.proofs.PlacelessSizes.{each_same, behind_same, separated_same, path_same, route_same, condition_same}
use Rattle.pale_print_laws.proofs.PlacelessAssertionSizes.{assertion_same}

clause_same : (b : Option Bracketed) → clause_size (option_map placeless_bracketed b) ≡ clause_size b
clause_same None = refl
clause_same (Some b) = let e = assertion_same b.assertion 0 false in omega arith

results_alike : (xs : List Name) → call_result_size (map placeless_name xs) ≡ call_result_size xs
results_alike [] = refl
results_alike (x ∷ xs) = ap suc (separated_same one_token placeless_name (λ x. refl) (x ∷ xs))

logic_arguments_alike : (xs : List Argument) → logic_argument_size (map placeless_argument xs) ≡ logic_argument_size xs
logic_arguments_alike [] = refl
logic_arguments_alike (x ∷ xs) = ap suc (separated_same one_token placeless_argument (λ x. refl) (x ∷ xs))

call_same : (c : Call) → call_size (placeless_call c) ≡ call_size c
call_same c =
    let e = results_alike c.results in
    let f = separated_same one_token placeless_argument (λ x. refl) c.arguments in
    let g = logic_arguments_alike c.logics in
    let h = clause_same c.keep in
    omega arith

value_same : (v : Value) → value_size (placeless_value v) ≡ value_size v
value_same (value.New place ty None) = refl
value_same (value.New place ty (Some x)) = refl
value_same (value.Condition place c) = condition_same c 0

abbrev Same : Statement → Type 0
Same s = statement_size (placeless_statement s) ≡ statement_size s

abbrev Known : Type 0
Known = (s : Statement) × Same s

abbrev trees : List Known → List Statement
trees ss = map (λ (e : Known). e.0) ss

total_same : (ss : List Known) → total (map statement_size (map placeless_statement (trees ss))) ≡ total (map statement_size (trees ss))
total_same [] = refl
total_same (s ∷ ss) = let e = s.1 in let more = total_same ss in omega arith

at_form : (x : Statement-F Statement) → statement_size (roll-Statement x) ≡ size_node (map-Statement Statement ℕ statement_size x)
at_form x = sized_at x

node_same : (y : Statement-F Known) →
    statement_size (placeless_statement_node (map-Statement Statement Statement placeless_statement (map-Statement Known Statement (λ e. e.0) y))) ≡
    size_node (map-Statement Statement ℕ statement_size (map-Statement Known Statement (λ e. e.0) y))
unfolding roll-Statement roll
node_same (Statement-F.Skip place) = at_form (Statement-F.Skip nowhere)
node_same (Statement-F.If place c then None) =
    omega (arith, at_form (Statement-F.If nowhere (placeless_condition c) (map placeless_statement (trees then)) None), condition_same c 0, total_same then)
node_same (Statement-F.If place c then (Some otherwise)) =
    omega (
      arith,
      at_form (Statement-F.If nowhere (placeless_condition c) (map placeless_statement (trees then)) (Some (map placeless_statement (trees otherwise)))),
      condition_same c 0,
      total_same then,
      total_same otherwise,
    )
node_same (Statement-F.While place c invariant body) =
    omega (
      arith,
      at_form (Statement-F.While nowhere (placeless_condition c) (placeless_bracketed invariant) (map placeless_statement (trees body))),
      condition_same c 0,
      assertion_same invariant.assertion 0 false,
      total_same body,
    )
node_same (Statement-F.Split place b) = omega (arith, at_form (Statement-F.Split nowhere (placeless_bracketed b)), assertion_same b.assertion 0 false)
node_same (Statement-F.Assert place b) = omega (arith, at_form (Statement-F.Assert nowhere (placeless_bracketed b)), assertion_same b.assertion 0 false)
node_same (Statement-F.Free place x) = at_form (Statement-F.Free nowhere (placeless_name x))
node_same (Statement-F.Call c) = at_form (Statement-F.Call (placeless_call c)) ∙ call_same c
node_same (Statement-F.Assign p place v) = omega (arith, at_form (Statement-F.Assign (placeless_path p) nowhere (placeless_value v)), path_same p, value_same v)

opened_placeless : (x : Statement-F Statement) →
    placeless_statement (roll-Statement x) ≡ placeless_statement_node (map-Statement Statement Statement placeless_statement x)
unfolding placeless_statement
opened_placeless x = fold-roll-Statement Statement placeless_statement_node x

statement_same : (s : Statement) → statement_size (placeless_statement s) ≡ statement_size s
statement_same = ind-Statement Same (λ x y is.
    ap statement_size (opened_placeless x) ∙
    subst (λ (z : Statement-F Statement). statement_size (placeless_statement_node (map-Statement Statement Statement placeless_statement z)) ≡
    size_node (map-Statement Statement ℕ statement_size z)) is (node_same y) ∙
    sym (sized_at x))

statements_same : (ss : List Statement) → statements_size (map placeless_statement ss) ≡ statements_size ss
statements_same [] = refl
statements_same (s ∷ ss) = let e = statement_same s in let more = statements_same ss in omega arith

-- ---- declarations

form_same : (f : FieldForm) → form_size (placeless_form f) ≡ form_size f
form_same form.Bool = refl
form_same (form.Data ty) = refl
form_same (form.Pointer ty place r) = let e = route_same r 0 in omega arith

field_same : (f : FieldDeclaration) → field_size (placeless_field f) ≡ field_size f
field_same f = form_same f.form

variant_same : (v : VariantDeclaration) → variant_size (placeless_variant v) ≡ variant_size v
variant_same v = let e = each_same field_size placeless_field field_same v.fields in omega arith

predicate_parameter_same : (p : PredicateParameter) → predicate_parameter_size (placeless_predicate_parameter p) ≡ predicate_parameter_size p
predicate_parameter_same (predicate.Cell x ty) = refl
predicate_parameter_same (predicate.Set x ty) = refl
predicate_parameter_same (predicate.Bool x) = refl

parameter_same : (p : Parameter) → parameter_size (placeless_parameter p) ≡ parameter_size p
parameter_same (parameter.Data x ty) = refl
parameter_same (parameter.Pointer x ty) = refl
parameter_same (parameter.Bool x) = refl

logic_same : (l : LogicParameter) → logic_parameter_size (placeless_logic l) ≡ logic_parameter_size l
logic_same (logic.Set x ty) = refl
logic_same (logic.Bool x) = refl

results_same : (ps : List Parameter) → results_size (map placeless_parameter ps) ≡ results_size ps
results_same [] = refl
results_same (p ∷ ps) = let e = separated_same parameter_size placeless_parameter parameter_same (p ∷ ps) in omega arith

logics_same : (ls : List LogicParameter) → logics_size (map placeless_logic ls) ≡ logics_size ls
logics_same [] = refl
logics_same (l ∷ ls) = let e = separated_same logic_parameter_size placeless_logic logic_same (l ∷ ls) in omega arith

type_same : (t : TypeDeclaration) → type_size (placeless_type t) ≡ type_size t
type_same t =
    let e = each_same field_size placeless_field field_same t.fields in
    let f = behind_same variant_size placeless_variant variant_same t.variants in
    omega arith

predicate_same : (p : PredicateDeclaration) → predicate_size (placeless_predicate p) ≡ predicate_size p
predicate_same p =
    let e = separated_same predicate_parameter_size placeless_predicate_parameter predicate_parameter_same p.parameters in
    let f = assertion_same p.body.assertion 0 false in
    omega arith

procedure_same : (p : Procedure) → procedure_size (placeless_procedure p) ≡ procedure_size p
procedure_same p =
    let a = separated_same parameter_size placeless_parameter parameter_same p.parameters in
    let b = results_same p.results in
    let c = logics_same p.logics in
    let d = clause_same p.pre in
    let e = clause_same p.post in
    let f = each_same local_size placeless_parameter (λ l. ap suc (parameter_same l)) p.locals in
    let g = statements_same p.body in
    omega arith

declaration_same : (d : Declaration) → declaration_size (placeless_declaration d) ≡ declaration_size d
declaration_same (declaration.«Type» t) = type_same t
declaration_same (declaration.Predicate p) = predicate_same p
declaration_same (declaration.Procedure p) = procedure_same p

placeless_length : (p : Program) → length (program_tokens (placeless p)) ≡ length (program_tokens p)
unfolding placeless
placeless_length p =
    let e = program_length (placeless p) in
    let f = program_length p in
    let g = each_same declaration_size placeless_declaration declaration_same p.declarations in
    omega arith

-- programs that are the same but for places have as many tokens
pub same_length : (one other : Program) → IsSameButForPlaces one other → length (program_tokens one) ≡ length (program_tokens other)
same_length one other is = sym (placeless_length one) ∙ ap (λ (p : Program). length (program_tokens p)) is ∙ placeless_length other
