-- Trees without their places: every place in them is set to one and the same.
use Rattle.std.specs.Prelude.{◌≡◌, map}
use Rattle.std.specs.Option.{option_map}
use Rattle.pale_text.specs.declared.place.Pos.{Pos}
use Rattle.pale_syntax.specs.declared.tree.names.Name.{Name}
use Rattle.pale_syntax.specs.declared.tree.names.Path.{Path}
use Rattle.pale_syntax.specs.declared.tree.names.Term.{Term}
use Rattle.pale_syntax.specs.declared.tree.names.Term.TheVariants as term
use Rattle.pale_syntax.specs.declared.tree.route.Route.{Route}
use Rattle.pale_syntax.specs.declared.tree.route.Route.TheVariants as route
use Rattle.pale_syntax.specs.declared.tree.route.Route.TheOpen.{Route-F}
use Rattle.pale_syntax.specs.declared.tree.route.Route.TheFolds.{fold-Route}
use Rattle.pale_syntax.specs.declared.tree.condition.Condition.{Condition}
use Rattle.pale_syntax.specs.declared.tree.condition.Condition.TheVariants as condition
use Rattle.pale_syntax.specs.declared.tree.condition.Condition.TheOpen.{Condition-F}
use Rattle.pale_syntax.specs.declared.tree.condition.Condition.TheFolds.{fold-Condition}
use Rattle.pale_syntax.specs.declared.tree.assertion.Assertion.{Assertion}
use Rattle.pale_syntax.specs.declared.tree.assertion.Assertion.TheVariants as assertion
use Rattle.pale_syntax.specs.declared.tree.assertion.Assertion.TheOpen.{Assertion-F}
use Rattle.pale_syntax.specs.declared.tree.assertion.Assertion.TheFolds.{fold-Assertion}
use Rattle.pale_syntax.specs.declared.tree.assertion.Bracketed.{Bracketed}
use Rattle.pale_syntax.specs.declared.tree.assertion.Quantifier.{Quantifier}
use Rattle.pale_syntax.specs.declared.tree.statement.Argument.{Argument}
use Rattle.pale_syntax.specs.declared.tree.statement.Argument.TheVariants as argument
use Rattle.pale_syntax.specs.declared.tree.statement.Call.{Call}
use Rattle.pale_syntax.specs.declared.tree.statement.Statement.{Statement}
use Rattle.pale_syntax.specs.declared.tree.statement.Statement.TheVariants as statement
use Rattle.pale_syntax.specs.declared.tree.statement.Statement.TheOpen.{Statement-F}
use Rattle.pale_syntax.specs.declared.tree.statement.Statement.TheFolds.{fold-Statement}
use Rattle.pale_syntax.specs.declared.tree.statement.Value.{Value}
use Rattle.pale_syntax.specs.declared.tree.statement.Value.TheVariants as value
use Rattle.pale_syntax.specs.declared.tree.declaration.Declaration.{Declaration}
use Rattle.pale_syntax.specs.declared.tree.declaration.Declaration.TheVariants as declaration
use Rattle.pale_syntax.specs.declared.tree.declaration.FieldDeclaration.{FieldDeclaration}
use Rattle.pale_syntax.specs.declared.tree.declaration.FieldForm.{FieldForm}
use Rattle.pale_syntax.specs.declared.tree.declaration.FieldForm.TheVariants as form
use Rattle.pale_syntax.specs.declared.tree.declaration.LogicParameter.{LogicParameter}
use Rattle.pale_syntax.specs.declared.tree.declaration.LogicParameter.TheVariants as logic
use Rattle.pale_syntax.specs.declared.tree.declaration.Parameter.{Parameter}
use Rattle.pale_syntax.specs.declared.tree.declaration.Parameter.TheVariants as parameter
use Rattle.pale_syntax.specs.declared.tree.declaration.PredicateDeclaration.{PredicateDeclaration}
use Rattle.pale_syntax.specs.declared.tree.declaration.PredicateParameter.{PredicateParameter}
use Rattle.pale_syntax.specs.declared.tree.declaration.PredicateParameter.TheVariants as predicate
use Rattle.pale_syntax.specs.declared.tree.declaration.Procedure.{Procedure}
use Rattle.pale_syntax.specs.declared.tree.declaration.Program.{Program}
use Rattle.pale_syntax.specs.declared.tree.declaration.TypeDeclaration.{TypeDeclaration}
use Rattle.pale_syntax.specs.declared.tree.declaration.VariantDeclaration.{VariantDeclaration}

-- the one place
abbrev pub nowhere : Pos
nowhere = record { line = 0; column = 0 }

-- ---- names, paths, terms and routes

abbrev pub placeless_name : Name → Name
placeless_name x = record { bytes = x.bytes; place = nowhere }

abbrev pub placeless_path : Path → Path
placeless_path p = record { base = placeless_name p.base; fields = map placeless_name p.fields }

abbrev pub placeless_term : Term → Term
placeless_term (term.Null place) = term.Null nowhere
placeless_term (term.Path p) = term.Path (placeless_path p)

abbrev pub placeless_route_node : Route-F Route → Route
placeless_route_node (Route-F.Down f) = route.Down (placeless_name f)
placeless_route_node (Route-F.Up f) = route.Up (placeless_name f)
placeless_route_node Route-F.UpAny = route.UpAny
placeless_route_node Route-F.Root = route.Root
placeless_route_node Route-F.Leaf = route.Leaf
placeless_route_node (Route-F.IsType ty) = route.IsType (placeless_name ty)
placeless_route_node (Route-F.IsVariant ty variant) = route.IsVariant (placeless_name ty) (placeless_name variant)
placeless_route_node (Route-F.IsBool f value) = route.IsBool (placeless_name f) value
placeless_route_node (Route-F.Then first others) = route.Then first others
placeless_route_node (Route-F.Or first others) = route.Or first others
placeless_route_node (Route-F.Star inner places) = route.Star inner (map (λ place. nowhere) places)

unfoldable pub placeless_route : Route → Route
placeless_route = fold-Route Route placeless_route_node

-- ---- conditions and assertions

abbrev pub placeless_condition_node : Condition-F Condition → Condition
placeless_condition_node (Condition-F.True place) = condition.True nowhere
placeless_condition_node (Condition-F.False place) = condition.False nowhere
placeless_condition_node (Condition-F.Truth t) = condition.Truth (placeless_term t)
placeless_condition_node (Condition-F.Same t place u) = condition.Same (placeless_term t) nowhere (placeless_term u)
placeless_condition_node (Condition-F.Differ t place u) = condition.Differ (placeless_term t) nowhere (placeless_term u)
placeless_condition_node (Condition-F.Is t place variant) = condition.Is (placeless_term t) nowhere (placeless_name variant)
placeless_condition_node (Condition-F.Not place inner) = condition.Not nowhere inner
placeless_condition_node (Condition-F.And first others) = condition.And first others
placeless_condition_node (Condition-F.Or first others) = condition.Or first others

unfoldable pub placeless_condition : Condition → Condition
placeless_condition = fold-Condition Condition placeless_condition_node

abbrev pub placeless_quantifier : Quantifier → Quantifier
placeless_quantifier q = record q { place = nowhere; names = map placeless_name q.names; ty = placeless_name q.ty }

abbrev pub placeless_assertion_node : Assertion-F Assertion → Assertion
placeless_assertion_node Assertion-F.True = assertion.True
placeless_assertion_node Assertion-F.False = assertion.False
placeless_assertion_node (Assertion-F.Truth p) = assertion.Truth (placeless_path p)
placeless_assertion_node (Assertion-F.Same t place u) = assertion.Same (placeless_term t) nowhere (placeless_term u)
placeless_assertion_node (Assertion-F.Differ t place u) = assertion.Differ (placeless_term t) nowhere (placeless_term u)
placeless_assertion_node (Assertion-F.Member t place set) = assertion.Member (placeless_term t) nowhere (placeless_name set)
placeless_assertion_node (Assertion-F.Subset t place set) = assertion.Subset (placeless_term t) nowhere (placeless_name set)
placeless_assertion_node (Assertion-F.Walk t place r u) =
    assertion.Walk (placeless_term t) nowhere (placeless_route r) (placeless_term u)
placeless_assertion_node (Assertion-F.Is t place variant) = assertion.Is (placeless_term t) nowhere (placeless_name variant)
placeless_assertion_node (Assertion-F.Use predicate arguments) =
    assertion.Use (placeless_name predicate) (map placeless_path arguments)
placeless_assertion_node (Assertion-F.Not place inner) = assertion.Not nowhere inner
placeless_assertion_node (Assertion-F.And first others) = assertion.And first others
placeless_assertion_node (Assertion-F.Or first others) = assertion.Or first others
placeless_assertion_node (Assertion-F.Imp left place right) = assertion.Imp left nowhere right
placeless_assertion_node (Assertion-F.Iff first others) = assertion.Iff first others
placeless_assertion_node (Assertion-F.Quantified q inner) = assertion.Quantified (placeless_quantifier q) inner

unfoldable pub placeless_assertion : Assertion → Assertion
placeless_assertion = fold-Assertion Assertion placeless_assertion_node

abbrev pub placeless_bracketed : Bracketed → Bracketed
placeless_bracketed b = record { place = nowhere; assertion = placeless_assertion b.assertion }

-- ---- statements

abbrev pub placeless_value : Value → Value
placeless_value (value.New place ty variant) = value.New nowhere (placeless_name ty) (option_map placeless_name variant)
placeless_value (value.Condition place c) = value.Condition nowhere (placeless_condition c)

abbrev pub placeless_argument : Argument → Argument
placeless_argument (argument.Name x) = argument.Name (placeless_name x)
placeless_argument (argument.Null place) = argument.Null nowhere
placeless_argument (argument.Truth place value) = argument.Truth nowhere value

abbrev pub placeless_call : Call → Call
placeless_call c =
    record {
      place = nowhere;
      results = map placeless_name c.results;
      callee = placeless_name c.callee;
      arguments = map placeless_argument c.arguments;
      logics = map placeless_argument c.logics;
      keep = option_map placeless_bracketed c.keep;
    }

abbrev pub placeless_statement_node : Statement-F Statement → Statement
placeless_statement_node (Statement-F.Skip place) = statement.Skip nowhere
placeless_statement_node (Statement-F.If place c then otherwise) = statement.If nowhere (placeless_condition c) then otherwise
placeless_statement_node (Statement-F.While place c invariant body) =
    statement.While nowhere (placeless_condition c) (placeless_bracketed invariant) body
placeless_statement_node (Statement-F.Split place b) = statement.Split nowhere (placeless_bracketed b)
placeless_statement_node (Statement-F.Assert place b) = statement.Assert nowhere (placeless_bracketed b)
placeless_statement_node (Statement-F.Free place x) = statement.Free nowhere (placeless_name x)
placeless_statement_node (Statement-F.Call c) = statement.Call (placeless_call c)
placeless_statement_node (Statement-F.Assign p place v) = statement.Assign (placeless_path p) nowhere (placeless_value v)

unfoldable pub placeless_statement : Statement → Statement
placeless_statement = fold-Statement Statement placeless_statement_node

-- ---- declarations and programs

abbrev pub placeless_form : FieldForm → FieldForm
placeless_form form.Bool = form.Bool
placeless_form (form.Data ty) = form.Data (placeless_name ty)
placeless_form (form.Pointer ty place r) = form.Pointer (placeless_name ty) nowhere (placeless_route r)

abbrev pub placeless_field : FieldDeclaration → FieldDeclaration
placeless_field f = record { name = placeless_name f.name; form = placeless_form f.form }

abbrev pub placeless_variant : VariantDeclaration → VariantDeclaration
placeless_variant v = record { name = placeless_name v.name; fields = map placeless_field v.fields }

abbrev pub placeless_type : TypeDeclaration → TypeDeclaration
placeless_type t =
    record { name = placeless_name t.name; fields = map placeless_field t.fields; variants = map placeless_variant t.variants }

abbrev pub placeless_predicate_parameter : PredicateParameter → PredicateParameter
placeless_predicate_parameter (predicate.Cell x ty) = predicate.Cell (placeless_name x) (placeless_name ty)
placeless_predicate_parameter (predicate.Set x ty) = predicate.Set (placeless_name x) (placeless_name ty)
placeless_predicate_parameter (predicate.Bool x) = predicate.Bool (placeless_name x)

abbrev pub placeless_predicate : PredicateDeclaration → PredicateDeclaration
placeless_predicate p =
    record {
      name = placeless_name p.name;
      parameters = map placeless_predicate_parameter p.parameters;
      body = placeless_bracketed p.body;
    }

abbrev pub placeless_parameter : Parameter → Parameter
placeless_parameter (parameter.Data x ty) = parameter.Data (placeless_name x) (placeless_name ty)
placeless_parameter (parameter.Pointer x ty) = parameter.Pointer (placeless_name x) (placeless_name ty)
placeless_parameter (parameter.Bool x) = parameter.Bool (placeless_name x)

abbrev pub placeless_logic : LogicParameter → LogicParameter
placeless_logic (logic.Set x ty) = logic.Set (placeless_name x) (placeless_name ty)
placeless_logic (logic.Bool x) = logic.Bool (placeless_name x)

abbrev pub placeless_procedure : Procedure → Procedure
placeless_procedure p =
    record {
      place = nowhere;
      name = placeless_name p.name;
      parameters = map placeless_parameter p.parameters;
      results = map placeless_parameter p.results;
      logics = map placeless_logic p.logics;
      pre = option_map placeless_bracketed p.pre;
      post = option_map placeless_bracketed p.post;
      locals = map placeless_parameter p.locals;
      body = map placeless_statement p.body;
      end = nowhere;
    }

abbrev pub placeless_declaration : Declaration → Declaration
placeless_declaration (declaration.«Type» t) = declaration.«Type» (placeless_type t)
placeless_declaration (declaration.Predicate p) = declaration.Predicate (placeless_predicate p)
placeless_declaration (declaration.Procedure p) = declaration.Procedure (placeless_procedure p)

unfoldable pub placeless : Program → Program
placeless p = record { declarations = map placeless_declaration p.declarations }

-- the programs are the same but for places
abbrev pub IsSameButForPlaces : Program → Program → Type 0
IsSameButForPlaces one other = placeless one ≡ placeless other
