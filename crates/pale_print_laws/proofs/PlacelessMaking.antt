-- Each act makes the same of parts without their places.
use Rattle.std.proofs.Common.{◌≡◌, true, false, ◌∷◌, map, ap, ◌∙◌}
use Rattle.plain_data.specs.Stacks.{top, rest}
use Rattle.pale_syntax.specs.declared.tree.names.Term.TheVariants as term
use Rattle.pale_syntax.specs.declared.tree.route.Route.TheVariants as route
use Rattle.pale_syntax.specs.declared.tree.condition.Condition.TheVariants as condition
use Rattle.pale_syntax.specs.MakingParts.{Parts, Near, nameless}
use Rattle.pale_text.specs.Tokens.{place_of}
use Rattle.pale_syntax.specs.MakingWords.{pathless, termless, path_at, extended, after_word}
use Rattle.pale_syntax.specs.MakingRoutes.{routeless, tested_type, joined_then, joined_or, starred, after_route}
use Rattle.pale_syntax.specs.MakingConditions.{conditionless, term_alone, both_conditions, either_condition, after_condition}
use Rattle.pale_print.specs.Placeless.{nowhere, placeless_name, placeless_path, placeless_term, placeless_route, placeless_condition}
use Rattle.pale_print_laws.proofs.PlacelessForms.{route-Down, route-Up, route-UpAny, route-Root, route-Leaf, route-IsType}
use Rattle.pale_print_laws.proofs.PlacelessForms.{route-IsVariant, route-IsBool, condition-True, condition-False}
use Rattle.pale_print_laws.proofs.PlacelessForms.{condition-Truth, condition-Same, condition-Differ, condition-Is, condition-Not}
use Rattle.pale_print_laws.proofs.PlacelessRoutes.{joined_then-placeless, joined_or-placeless, starred-placeless, tested_type-placeless}
use Rattle.pale_print_laws.proofs.PlacelessConditions.{both_conditions-placeless, either_condition-placeless, term_alone-placeless}
use Rattle.pale_print_laws.proofs.PlacelessParts.{placeless_parts, placeless_near, place_of-placeless, name_of-placeless, ap2}
use Rattle.pale_print_laws.proofs.PlacelessParts.{ap3, extended-placeless, name1, names1, place1, places1, path1, paths1, term1}
use Rattle.pale_print_laws.proofs.PlacelessParts.{term2, terms1, terms2, route1, route2, routes1, routes2, condition1}
use Rattle.pale_print_laws.proofs.PlacelessParts.{condition2, conditions1, conditions2}
use Rattle.pale_syntax.specs.declared.grammar.act.WordAct.{WordAct}
use Rattle.pale_syntax.specs.declared.grammar.act.WordAct.TheVariants as word_act
use Rattle.pale_syntax.specs.declared.grammar.act.RouteAct.{RouteAct}
use Rattle.pale_syntax.specs.declared.grammar.act.RouteAct.TheVariants as route_act
use Rattle.pale_syntax.specs.declared.grammar.act.ConditionAct.{ConditionAct}
use Rattle.pale_syntax.specs.declared.grammar.act.ConditionAct.TheVariants as condition_act

pub word_placeless : (a : WordAct) (near : Near) (parts : Parts) →
    placeless_parts (after_word a near parts) ≡ after_word a (placeless_near near) (placeless_parts parts)
word_placeless word_act.PushName near parts = λ i. record (placeless_parts parts) {
  names = (name_of-placeless near.last) i ∷ map placeless_name parts.names;
}
word_placeless word_act.MarkPlace near parts = λ i. record (placeless_parts parts) {
  places = (place_of-placeless near.last) i ∷ map (λ p. nowhere) parts.places;
}
word_placeless word_act.MarkNext near parts = λ i. record (placeless_parts parts) {
  places = (place_of-placeless near.next) i ∷ map (λ p. nowhere) parts.places;
}
word_placeless word_act.StartPath near parts = λ i. record (placeless_parts parts) {
  paths = (ap path_at (name1 parts)) i ∷ map placeless_path parts.paths;
  names = names1 parts i;
}
word_placeless word_act.ExtendPath near parts = λ i. record (placeless_parts parts) {
  paths = (extended-placeless (top pathless parts.paths) (top nameless parts.names) ∙ ap2 extended (path1 parts) (name1 parts)) i ∷ paths1 parts i;
  names = names1 parts i;
}
word_placeless word_act.PushNull near parts = λ i. record (placeless_parts parts) {
  terms = (ap term.Null (place_of-placeless near.last)) i ∷ map placeless_term parts.terms;
}
word_placeless word_act.PathTerm near parts = λ i. record (placeless_parts parts) {
  terms = (ap term.Path (path1 parts)) i ∷ map placeless_term parts.terms;
  paths = paths1 parts i;
}

pub route_placeless : (a : RouteAct) (near : Near) (parts : Parts) →
    placeless_parts (after_route a near parts) ≡ after_route a (placeless_near near) (placeless_parts parts)
route_placeless route_act.Down near parts = λ i. record (placeless_parts parts) {
  routes = (route-Down (top nameless parts.names) ∙ ap route.Down (name1 parts)) i ∷ map placeless_route parts.routes;
  names = names1 parts i;
}
route_placeless route_act.UpAny near parts = λ i. record (placeless_parts parts) {
  routes = (route-UpAny) i ∷ map placeless_route parts.routes;
}
route_placeless route_act.NameUp near parts = λ i. record (placeless_parts parts) {
  routes = (route-Up (top nameless parts.names) ∙ ap route.Up (name1 parts)) i ∷ routes1 parts i;
  names = names1 parts i;
}
route_placeless route_act.Leaf near parts = λ i. record (placeless_parts parts) {
  routes = (route-Leaf) i ∷ map placeless_route parts.routes;
}
route_placeless route_act.Root near parts = λ i. record (placeless_parts parts) {
  routes = (route-Root) i ∷ map placeless_route parts.routes;
}
route_placeless route_act.IsType near parts = λ i. record (placeless_parts parts) {
  routes = (route-IsType (top nameless parts.names) ∙ ap route.IsType (name1 parts)) i ∷ map placeless_route parts.routes;
  names = names1 parts i;
}
route_placeless route_act.NarrowToVariant near parts = λ i. record (placeless_parts parts) {
  routes =
      (route-IsVariant (tested_type (top routeless parts.routes)) (top nameless parts.names) ∙ ap2 route.IsVariant
      (tested_type-placeless (top routeless parts.routes) ∙ ap tested_type (route1 parts)) (name1 parts)) i ∷ routes1 parts i;
  names = names1 parts i;
}
route_placeless route_act.IsTrue near parts = λ i. record (placeless_parts parts) {
  routes = (route-IsBool (top nameless parts.names) true ∙ ap (λ n. route.IsBool n true) (name1 parts)) i ∷ map placeless_route parts.routes;
  names = names1 parts i;
}
route_placeless route_act.IsFalse near parts = λ i. record (placeless_parts parts) {
  routes = (route-IsBool (top nameless parts.names) false ∙ ap (λ n. route.IsBool n false) (name1 parts)) i ∷ map placeless_route parts.routes;
  names = names1 parts i;
}
route_placeless route_act.JoinThen near parts = λ i. record (placeless_parts parts) {
  routes =
      (joined_then-placeless (top routeless (rest parts.routes)) (top routeless parts.routes) ∙ ap2 joined_then (route2 parts) (route1 parts))
      i ∷ routes2 parts i;
}
route_placeless route_act.JoinOr near parts = λ i. record (placeless_parts parts) {
  routes =
      (joined_or-placeless (top routeless (rest parts.routes)) (top routeless parts.routes) ∙ ap2 joined_or (route2 parts) (route1 parts))
      i ∷ routes2 parts i;
}
route_placeless route_act.AddStar near parts = λ i. record (placeless_parts parts) {
  routes =
      (starred-placeless (top routeless parts.routes) (place_of near.last) ∙ ap2 starred (route1 parts) (place_of-placeless near.last))
      i ∷ routes1 parts i;
}

pub condition_placeless : (a : ConditionAct) (near : Near) (parts : Parts) →
    placeless_parts (after_condition a near parts) ≡ after_condition a (placeless_near near) (placeless_parts parts)
condition_placeless condition_act.TrueCondition near parts = λ i. record (placeless_parts parts) {
  conditions = (condition-True (place_of near.last) ∙ ap condition.True (place_of-placeless near.last)) i ∷ map placeless_condition parts.conditions;
}
condition_placeless condition_act.FalseCondition near parts = λ i. record (placeless_parts parts) {
  conditions = (condition-False (place_of near.last) ∙ ap condition.False (place_of-placeless near.last)) i ∷ map placeless_condition parts.conditions;
}
condition_placeless condition_act.TermAlone near parts = λ i. record (placeless_parts parts) {
  conditions = (condition-Truth (top termless parts.terms) ∙ ap condition.Truth (term1 parts)) i ∷ map placeless_condition parts.conditions;
  terms = terms1 parts i;
}
condition_placeless condition_act.TakeTermBack near parts = λ i. record (placeless_parts parts) {
  terms = (term_alone-placeless (top conditionless parts.conditions) ∙ ap term_alone (condition1 parts)) i ∷ map placeless_term parts.terms;
  conditions = conditions1 parts i;
}
condition_placeless condition_act.SameAs near parts = λ i. record (placeless_parts parts) {
  conditions =
      (condition-Same (top termless (rest parts.terms)) (top nowhere parts.places) (top termless parts.terms) ∙ ap3
      condition.Same (term2 parts) (place1 parts) (term1 parts)) i ∷ map placeless_condition parts.conditions;
  terms = terms2 parts i;
  places = places1 parts i;
}
condition_placeless condition_act.NotSameAs near parts = λ i. record (placeless_parts parts) {
  conditions =
      (condition-Differ (top termless (rest parts.terms)) (top nowhere parts.places) (top termless parts.terms) ∙ ap3
      condition.Differ (term2 parts) (place1 parts) (term1 parts)) i ∷ map placeless_condition parts.conditions;
  terms = terms2 parts i;
  places = places1 parts i;
}
condition_placeless condition_act.OfVariant near parts = λ i. record (placeless_parts parts) {
  conditions =
      (condition-Is (top termless parts.terms) (top nowhere parts.places) (top nameless parts.names) ∙ ap3 condition.Is
      (term1 parts) (place1 parts) (name1 parts)) i ∷ map placeless_condition parts.conditions;
  terms = terms1 parts i;
  places = places1 parts i;
  names = names1 parts i;
}
condition_placeless condition_act.NotCondition near parts = λ i. record (placeless_parts parts) {
  conditions =
      (condition-Not (top nowhere parts.places) (top conditionless parts.conditions) ∙ ap2 condition.Not (place1 parts) (condition1 parts))
      i ∷ conditions1 parts i;
  places = places1 parts i;
}
condition_placeless condition_act.JoinAndAlso near parts = λ i. record (placeless_parts parts) {
  conditions =
      (both_conditions-placeless (top conditionless (rest parts.conditions)) (top conditionless parts.conditions) ∙ ap2
      both_conditions (condition2 parts) (condition1 parts)) i ∷ conditions2 parts i;
}
condition_placeless condition_act.JoinOrElse near parts = λ i. record (placeless_parts parts) {
  conditions =
      (either_condition-placeless (top conditionless (rest parts.conditions)) (top conditionless parts.conditions) ∙ ap2
      either_condition (condition2 parts) (condition1 parts)) i ∷ conditions2 parts i;
}
