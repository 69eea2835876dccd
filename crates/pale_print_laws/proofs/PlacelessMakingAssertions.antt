-- Each act makes the same of parts without their places.
use Rattle.std.proofs.Common.{◌≡◌, [], ◌∷◌, ◌++◌, map, ap, ◌∙◌}
use Rattle.plain_data.specs.Stacks.{top, rest}
use Rattle.pale_text.specs.declared.place.Pos.{Pos}
use Rattle.pale_syntax.specs.declared.tree.names.Path.{Path}
use Rattle.pale_syntax.specs.declared.tree.names.Term.TheVariants as term
use Rattle.pale_syntax.specs.declared.tree.assertion.Assertion.{Assertion}
use Rattle.pale_syntax.specs.declared.tree.assertion.Assertion.TheVariants as assertion
use Rattle.pale_syntax.specs.declared.tree.assertion.QuantifierKind.TheVariants as quantifier
use Rattle.pale_syntax.specs.MakingParts.{Parts, Near, nameless}
use Rattle.pale_syntax.specs.MakingWords.{pathless, termless, extended}
use Rattle.pale_syntax.specs.MakingRoutes.{routeless}
use Rattle.pale_syntax.specs.MakingAssertions.{assertionless, path_alone, both, either, equivalent, begun, quantifierless}
use Rattle.pale_syntax.specs.MakingAssertions.{of_sets, binding, over, after_atom, after_connective}
use Rattle.pale_print.specs.Placeless.{nowhere, placeless_path, placeless_term, placeless_quantifier, placeless_assertion, placeless_bracketed}
use Rattle.pale_print_laws.proofs.StackLemmas.{map-last}
use Rattle.pale_print_laws.proofs.PlacelessForms.{assertion-True, assertion-False, assertion-Truth, assertion-Same}
use Rattle.pale_print_laws.proofs.PlacelessForms.{assertion-Differ, assertion-Member, assertion-Subset, assertion-Walk}
use Rattle.pale_print_laws.proofs.PlacelessForms.{assertion-Is, assertion-Use, assertion-Not, assertion-Imp}
use Rattle.pale_print_laws.proofs.PlacelessForms.{assertion-Quantified}
use Rattle.pale_print_laws.proofs.PlacelessAssertions.{both-placeless, either-placeless, equivalent-placeless, path_alone-placeless}
use Rattle.pale_print_laws.proofs.PlacelessParts.{placeless_parts, placeless_near, place_of-placeless, ap2, ap3, ap4}
use Rattle.pale_print_laws.proofs.PlacelessParts.{extended-placeless, binding-placeless, name1, names1, place1, places1, path1}
use Rattle.pale_print_laws.proofs.PlacelessParts.{paths1, term1, term2, terms1, terms2, route1, routes1, assertion1, assertion2}
use Rattle.pale_print_laws.proofs.PlacelessParts.{assertions1, assertions2, quantifier1, quantifiers1}
use Rattle.pale_syntax.specs.declared.grammar.act.AtomAct.{AtomAct}
use Rattle.pale_syntax.specs.declared.grammar.act.AtomAct.TheVariants as atom_act
use Rattle.pale_syntax.specs.declared.grammar.act.ConnectiveAct.{ConnectiveAct}
use Rattle.pale_syntax.specs.declared.grammar.act.ConnectiveAct.TheVariants as connective_act

pub atom_placeless : (a : AtomAct) (near : Near) (parts : Parts) →
    placeless_parts (after_atom a near parts) ≡ after_atom a (placeless_near near) (placeless_parts parts)
atom_placeless atom_act.TrueAssertion near parts = λ i. record (placeless_parts parts) {
  assertions = (assertion-True) i ∷ map placeless_assertion parts.assertions;
}
atom_placeless atom_act.FalseAssertion near parts = λ i. record (placeless_parts parts) {
  assertions = (assertion-False) i ∷ map placeless_assertion parts.assertions;
}
atom_placeless atom_act.PathAlone near parts = λ i. record (placeless_parts parts) {
  assertions = (assertion-Truth (top pathless parts.paths) ∙ ap assertion.Truth (path1 parts)) i ∷ map placeless_assertion parts.assertions;
  paths = paths1 parts i;
}
atom_placeless atom_act.ExtendPathAlone near parts = λ i. record (placeless_parts parts) {
  assertions =
      (assertion-Truth (extended (path_alone (top assertionless parts.assertions))
      (top nameless parts.names)) ∙ ap assertion.Truth (extended-placeless (path_alone (top assertionless parts.assertions))
      (top nameless parts.names) ∙ ap2 extended
      (path_alone-placeless (top assertionless parts.assertions) ∙ ap path_alone (assertion1 parts))
      (name1 parts))) i ∷ assertions1 parts i;
  names = names1 parts i;
}
atom_placeless atom_act.TakePathBack near parts = λ i. record (placeless_parts parts) {
  terms = (ap term.Path (path_alone-placeless (top assertionless parts.assertions) ∙ ap path_alone (assertion1 parts))) i ∷ map placeless_term parts.terms;
  assertions = assertions1 parts i;
}
atom_placeless atom_act.AddUsedPath near parts = λ i. record (placeless_parts parts) {
  used = (map-last placeless_path parts.used (top pathless parts.paths) ∙ ap (λ l. map placeless_path parts.used ++ l ∷ []) (path1 parts)) i;
  paths = paths1 parts i;
}
atom_placeless atom_act.MakeUse near parts = λ i. record (placeless_parts parts) {
  assertions =
      (assertion-Use (path_alone (top assertionless parts.assertions)).base parts.used ∙ ap
      (λ (p : Path). assertion.Use p.base (map placeless_path parts.used))
      (path_alone-placeless (top assertionless parts.assertions) ∙ ap path_alone (assertion1 parts))) i ∷ assertions1 parts i;
  used = [];
}
atom_placeless atom_act.MakeSame near parts = λ i. record (placeless_parts parts) {
  assertions =
      (assertion-Same (top termless (rest parts.terms)) (top nowhere parts.places) (top termless parts.terms) ∙ ap3
      assertion.Same (term2 parts) (place1 parts) (term1 parts)) i ∷ map placeless_assertion parts.assertions;
  terms = terms2 parts i;
  places = places1 parts i;
}
atom_placeless atom_act.MakeDiffer near parts = λ i. record (placeless_parts parts) {
  assertions =
      (assertion-Differ (top termless (rest parts.terms)) (top nowhere parts.places) (top termless parts.terms) ∙ ap3
      assertion.Differ (term2 parts) (place1 parts) (term1 parts)) i ∷ map placeless_assertion parts.assertions;
  terms = terms2 parts i;
  places = places1 parts i;
}
atom_placeless atom_act.MakeMember near parts = λ i. record (placeless_parts parts) {
  assertions =
      (assertion-Member (top termless parts.terms) (top nowhere parts.places) (top nameless parts.names) ∙ ap3 assertion.Member
      (term1 parts) (place1 parts) (name1 parts)) i ∷ map placeless_assertion parts.assertions;
  terms = terms1 parts i;
  places = places1 parts i;
  names = names1 parts i;
}
atom_placeless atom_act.MakeSubset near parts = λ i. record (placeless_parts parts) {
  assertions =
      (assertion-Subset (top termless parts.terms) (top nowhere parts.places) (top nameless parts.names) ∙ ap3 assertion.Subset
      (term1 parts) (place1 parts) (name1 parts)) i ∷ map placeless_assertion parts.assertions;
  terms = terms1 parts i;
  places = places1 parts i;
  names = names1 parts i;
}
atom_placeless atom_act.MakeWalk near parts = λ i. record (placeless_parts parts) {
  assertions =
      (assertion-Walk (top termless (rest parts.terms)) (top nowhere parts.places) (top routeless parts.routes)
      (top termless parts.terms) ∙ ap4 assertion.Walk (term2 parts) (place1 parts) (route1 parts)
      (term1 parts)) i ∷ map placeless_assertion parts.assertions;
  terms = terms2 parts i;
  places = places1 parts i;
  routes = routes1 parts i;
}
atom_placeless atom_act.MakeIs near parts = λ i. record (placeless_parts parts) {
  assertions =
      (assertion-Is (top termless parts.terms) (top nowhere parts.places) (top nameless parts.names) ∙ ap3 assertion.Is
      (term1 parts) (place1 parts) (name1 parts)) i ∷ map placeless_assertion parts.assertions;
  terms = terms1 parts i;
  places = places1 parts i;
  names = names1 parts i;
}

pub connective_placeless : (a : ConnectiveAct) (near : Near) (parts : Parts) →
    placeless_parts (after_connective a near parts) ≡ after_connective a (placeless_near near) (placeless_parts parts)
connective_placeless connective_act.JoinIff near parts = λ i. record (placeless_parts parts) {
  assertions =
      (equivalent-placeless (top assertionless (rest parts.assertions)) (top assertionless parts.assertions) ∙ ap2 equivalent
      (assertion2 parts) (assertion1 parts)) i ∷ assertions2 parts i;
}
connective_placeless connective_act.MakeImp near parts = λ i. record (placeless_parts parts) {
  assertions =
      (assertion-Imp (top assertionless (rest parts.assertions)) (top nowhere parts.places) (top assertionless parts.assertions)
      ∙ ap3 assertion.Imp (assertion2 parts) (place1 parts) (assertion1 parts)) i ∷ assertions2 parts i;
  places = places1 parts i;
}
connective_placeless connective_act.JoinOr near parts = λ i. record (placeless_parts parts) {
  assertions =
      (either-placeless (top assertionless (rest parts.assertions)) (top assertionless parts.assertions) ∙ ap2 either
      (assertion2 parts) (assertion1 parts)) i ∷ assertions2 parts i;
}
connective_placeless connective_act.JoinAnd near parts = λ i. record (placeless_parts parts) {
  assertions =
      (both-placeless (top assertionless (rest parts.assertions)) (top assertionless parts.assertions) ∙ ap2 both
      (assertion2 parts) (assertion1 parts)) i ∷ assertions2 parts i;
}
connective_placeless connective_act.MakeNot near parts = λ i. record (placeless_parts parts) {
  assertions =
      (assertion-Not (top nowhere parts.places) (top assertionless parts.assertions) ∙ ap2 assertion.Not (place1 parts) (assertion1 parts))
      i ∷ assertions1 parts i;
  places = places1 parts i;
}
connective_placeless connective_act.BeginEx near parts = λ i. record (placeless_parts parts) {
  quantifiers = (ap (begun quantifier.Ex) (place_of-placeless near.last)) i ∷ map placeless_quantifier parts.quantifiers;
}
connective_placeless connective_act.BeginAll near parts = λ i. record (placeless_parts parts) {
  quantifiers = (ap (begun quantifier.All) (place_of-placeless near.last)) i ∷ map placeless_quantifier parts.quantifiers;
}
connective_placeless connective_act.BindsSets near parts = λ i. record (placeless_parts parts) {
  quantifiers = (ap of_sets (quantifier1 parts)) i ∷ quantifiers1 parts i;
}
connective_placeless connective_act.AddBound near parts = λ i. record (placeless_parts parts) {
  quantifiers =
      (binding-placeless (top quantifierless parts.quantifiers) (top nameless parts.names) ∙ ap2 binding (quantifier1 parts) (name1 parts))
      i ∷ quantifiers1 parts i;
  names = names1 parts i;
}
connective_placeless connective_act.MakeQuantified near parts = λ i. record (placeless_parts parts) {
  assertions =
      (assertion-Quantified (over (top quantifierless parts.quantifiers) (top nameless parts.names))
      (top assertionless parts.assertions) ∙ ap2 assertion.Quantified (ap2 over (quantifier1 parts) (name1 parts))
      (assertion1 parts)) i ∷ assertions1 parts i;
  quantifiers = quantifiers1 parts i;
  names = names1 parts i;
}
connective_placeless connective_act.Bracket near parts = λ i. record (placeless_parts parts) {
  brackets =
      (ap2 (λ (p : Pos) (a : Assertion). record { place = p; assertion = a }) (place1 parts) (assertion1 parts)) i ∷ map
      placeless_bracketed parts.brackets;
  places = places1 parts i;
  assertions = assertions1 parts i;
}
