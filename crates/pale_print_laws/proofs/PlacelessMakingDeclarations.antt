-- Each act makes the same of parts without their places.
use Rattle.std.proofs.Common.{◌≡◌, [], ◌∷◌, ◌++◌, Some, None, map, refl, ap, ◌∙◌}
use Rattle.plain_data.specs.Stacks.{top, rest}
use Rattle.pale_text.specs.declared.place.Pos.{Pos}
use Rattle.pale_syntax.specs.declared.tree.names.Name.{Name}
use Rattle.pale_syntax.specs.declared.tree.route.Route.{Route}
use Rattle.pale_syntax.specs.declared.tree.assertion.Bracketed.{Bracketed}
use Rattle.pale_syntax.specs.declared.tree.declaration.Declaration.TheVariants as declaration
use Rattle.pale_syntax.specs.declared.tree.declaration.FieldForm.TheVariants as form
use Rattle.pale_syntax.specs.declared.tree.declaration.LogicParameter.TheVariants as logic
use Rattle.pale_syntax.specs.declared.tree.declaration.Parameter.TheVariants as parameter
use Rattle.pale_syntax.specs.declared.tree.declaration.PredicateParameter.TheVariants as predicate
use Rattle.pale_syntax.specs.MakingParts.{Parts, Near, nameless}
use Rattle.pale_syntax.specs.MakingRoutes.{routeless}
use Rattle.pale_syntax.specs.MakingDeclarations.{type_of, predicate_of, procedure_of, after_type, after_predicate, after_procedure}
use Rattle.pale_print.specs.Placeless.{nowhere, placeless_field, placeless_variant, placeless_predicate_parameter, placeless_parameter}
use Rattle.pale_print.specs.Placeless.{placeless_logic, placeless_procedure, placeless_declaration}
use Rattle.pale_print_laws.proofs.StackLemmas.{map-last}
use Rattle.pale_print_laws.proofs.PlacelessParts.{placeless_parts, placeless_near, ap2, ap4, name1, name2, names1, names2}
use Rattle.pale_print_laws.proofs.PlacelessParts.{place1, place2, places1, places2, route1, routes1, bracket1, brackets1, block1, blocks1}
use Rattle.pale_syntax.specs.declared.grammar.act.TypeAct.{TypeAct}
use Rattle.pale_syntax.specs.declared.grammar.act.TypeAct.TheVariants as type_act
use Rattle.pale_syntax.specs.declared.grammar.act.PredicateAct.{PredicateAct}
use Rattle.pale_syntax.specs.declared.grammar.act.PredicateAct.TheVariants as predicate_act
use Rattle.pale_syntax.specs.declared.grammar.act.ProcedureAct.{ProcedureAct}
use Rattle.pale_syntax.specs.declared.grammar.act.ProcedureAct.TheVariants as procedure_act

pub type_placeless : (a : TypeAct) (near : Near) (parts : Parts) →
    placeless_parts (after_type a near parts) ≡ after_type a (placeless_near near) (placeless_parts parts)
type_placeless type_act.BoolField near parts = λ i. record (placeless_parts parts) {
  fields =
      (map-last placeless_field parts.fields (record { name = (top nameless parts.names); form = form.Bool }) ∙ ap
      (λ l. map placeless_field parts.fields ++ l ∷ []) (ap (λ n. record { name = n; form = form.Bool }) (name1 parts))) i;
  names = names1 parts i;
}
type_placeless type_act.DataField near parts = λ i. record (placeless_parts parts) {
  fields =
      (map-last placeless_field parts.fields
      (record { name = (top nameless (rest parts.names)); form = form.Data (top nameless parts.names) }) ∙ ap
      (λ l. map placeless_field parts.fields ++ l ∷ [])
      (ap2 (λ (n m : Name). record { name = n; form = form.Data m }) (name2 parts) (name1 parts))) i;
  names = names2 parts i;
}
type_placeless type_act.PointerField near parts = λ i. record (placeless_parts parts) {
  fields =
      (map-last placeless_field parts.fields
      (record {
        name = (top nameless (rest parts.names));
        form = form.Pointer (top nameless parts.names) (top nowhere parts.places) (top routeless parts.routes);
      })
      ∙ ap (λ l. map placeless_field parts.fields ++ l ∷ [])
      (ap4 (λ (n m : Name) (place : Pos) (r : Route). record { name = n; form = form.Pointer m place r }) (name2 parts) (name1 parts)
      (place1 parts) (route1 parts))) i;
  names = names2 parts i;
  places = places1 parts i;
  routes = routes1 parts i;
}
type_placeless type_act.EndCommon near parts = refl
type_placeless type_act.AddVariant near parts = λ i. record (placeless_parts parts) {
  variants =
      (map-last placeless_variant parts.variants (record { name = (top nameless parts.names); fields = parts.fields }) ∙ ap
      (λ l. map placeless_variant parts.variants ++ l ∷ [])
      (ap (λ n. record { name = n; fields = map placeless_field parts.fields }) (name1 parts))) i;
  names = names1 parts i;
  fields = [];
}
type_placeless type_act.AddType near parts = λ i. record (placeless_parts parts) {
  declarations =
      (map-last placeless_declaration parts.declarations (declaration.«Type» (type_of parts)) ∙ ap (λ l. map
      placeless_declaration parts.declarations ++ l ∷ []) (ap
      (λ n. declaration.«Type» (record { name = n; fields = map placeless_field parts.common; variants = map placeless_variant parts.variants }))
      (name1 parts))) i;
  names = names1 parts i;
  common = [];
  variants = [];
}

pub predicate_placeless : (a : PredicateAct) (near : Near) (parts : Parts) →
    placeless_parts (after_predicate a near parts) ≡ after_predicate a (placeless_near near) (placeless_parts parts)
predicate_placeless predicate_act.CellParameter near parts = λ i. record (placeless_parts parts) {
  predicate_parameters =
      (map-last placeless_predicate_parameter parts.predicate_parameters
      (predicate.Cell (top nameless (rest parts.names)) (top nameless parts.names)) ∙ ap
      (λ l. map placeless_predicate_parameter parts.predicate_parameters ++ l ∷ [])
      (ap2 predicate.Cell (name2 parts) (name1 parts))) i;
  names = names2 parts i;
}
predicate_placeless predicate_act.SetParameter near parts = λ i. record (placeless_parts parts) {
  predicate_parameters =
      (map-last placeless_predicate_parameter parts.predicate_parameters
      (predicate.Set (top nameless (rest parts.names)) (top nameless parts.names)) ∙ ap
      (λ l. map placeless_predicate_parameter parts.predicate_parameters ++ l ∷ [])
      (ap2 predicate.Set (name2 parts) (name1 parts))) i;
  names = names2 parts i;
}
predicate_placeless predicate_act.BoolParameter near parts = λ i. record (placeless_parts parts) {
  predicate_parameters =
      (map-last placeless_predicate_parameter parts.predicate_parameters (predicate.Bool (top nameless parts.names)) ∙ ap
      (λ l. map placeless_predicate_parameter parts.predicate_parameters ++ l ∷ []) (ap predicate.Bool (name1 parts))) i;
  names = names1 parts i;
}
predicate_placeless predicate_act.AddPredicate near parts = λ i. record (placeless_parts parts) {
  declarations =
      (map-last placeless_declaration parts.declarations (declaration.Predicate (predicate_of
      parts)) ∙ ap (λ l. map placeless_declaration parts.declarations ++ l ∷ []) (ap2 (λ (n : Name) (b : Bracketed).
      declaration.Predicate
      (record { name = n; parameters = map placeless_predicate_parameter parts.predicate_parameters; body = b })) (name1
      parts) (bracket1 parts))) i;
  names = names1 parts i;
  brackets = brackets1 parts i;
  predicate_parameters = [];
}

procedure_of-placeless : (parts : Parts) →
    declaration.Procedure (placeless_procedure (procedure_of parts)) ≡ declaration.Procedure (procedure_of (placeless_parts parts))
procedure_of-placeless parts =
    λ i. declaration.Procedure (record (procedure_of (placeless_parts parts))
    { place = place2 parts i; name = name1 parts i; body = block1 parts i; end = place1 parts i })

pub procedure_placeless : (a : ProcedureAct) (near : Near) (parts : Parts) →
    placeless_parts (after_procedure a near parts) ≡ after_procedure a (placeless_near near) (placeless_parts parts)
procedure_placeless procedure_act.DataParameter near parts = λ i. record (placeless_parts parts) {
  variables =
      (map-last placeless_parameter parts.variables (parameter.Data (top nameless (rest parts.names)) (top nameless parts.names))
      ∙ ap (λ l. map placeless_parameter parts.variables ++ l ∷ []) (ap2 parameter.Data (name2 parts) (name1 parts))) i;
  names = names2 parts i;
}
procedure_placeless procedure_act.PointerParameter near parts = λ i. record (placeless_parts parts) {
  variables =
      (map-last placeless_parameter parts.variables
      (parameter.Pointer (top nameless (rest parts.names)) (top nameless parts.names)) ∙ ap
      (λ l. map placeless_parameter parts.variables ++ l ∷ []) (ap2 parameter.Pointer (name2 parts) (name1 parts))) i;
  names = names2 parts i;
}
procedure_placeless procedure_act.BoolVariable near parts = λ i. record (placeless_parts parts) {
  variables =
      (map-last placeless_parameter parts.variables (parameter.Bool (top nameless parts.names)) ∙ ap
      (λ l. map placeless_parameter parts.variables ++ l ∷ []) (ap parameter.Bool (name1 parts))) i;
  names = names1 parts i;
}
procedure_placeless procedure_act.TakeParameters near parts = refl
procedure_placeless procedure_act.TakeResults near parts = refl
procedure_placeless procedure_act.LogicSet near parts = λ i. record (placeless_parts parts) {
  logics =
      (map-last placeless_logic parts.logics (logic.Set (top nameless (rest parts.names)) (top nameless parts.names)) ∙ ap
      (λ l. map placeless_logic parts.logics ++ l ∷ []) (ap2 logic.Set (name2 parts) (name1 parts))) i;
  names = names2 parts i;
}
procedure_placeless procedure_act.LogicBool near parts = λ i. record (placeless_parts parts) {
  logics =
      (map-last placeless_logic parts.logics (logic.Bool (top nameless parts.names)) ∙ ap
      (λ l. map placeless_logic parts.logics ++ l ∷ []) (ap logic.Bool (name1 parts))) i;
  names = names1 parts i;
}
procedure_placeless procedure_act.SetPre near parts = λ i. record (placeless_parts parts) {
  pre = ap Some (bracket1 parts) i;
  brackets = brackets1 parts i;
}
procedure_placeless procedure_act.SetPost near parts = λ i. record (placeless_parts parts) {
  post = ap Some (bracket1 parts) i;
  brackets = brackets1 parts i;
}
procedure_placeless procedure_act.AddProcedure near parts = λ i. record (placeless_parts parts) {
  declarations =
      (map-last placeless_declaration parts.declarations (declaration.Procedure (procedure_of parts)) ∙ ap
      (λ l. map placeless_declaration parts.declarations ++ l ∷ []) (procedure_of-placeless parts)) i;
  places = places2 parts i;
  names = names1 parts i;
  blocks = blocks1 parts i;
  variables = [];
  parameters = [];
  results = [];
  logics = [];
  pre = None;
  post = None;
}
