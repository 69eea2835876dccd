-- Parts without their places.
use Rattle.std.proofs.Common.{◌≡◌, List, [], ◌∷◌, ◌++◌, Option, Some, None, map, refl, ap, ◌∙◌}
use Rattle.std.specs.Option.{option_map}
use Rattle.plain_data.specs.Stacks.{top, rest}
use Rattle.pale_text.specs.declared.token.Token.{Token}
use Rattle.pale_syntax.specs.declared.tree.names.Name.{Name}
use Rattle.pale_syntax.specs.declared.tree.names.Path.{Path}
use Rattle.pale_syntax.specs.declared.tree.assertion.Quantifier.{Quantifier}
use Rattle.pale_syntax.specs.declared.tree.statement.Statement.{Statement}
use Rattle.pale_syntax.specs.declared.tree.statement.Value.{Value}
use Rattle.pale_syntax.specs.declared.tree.statement.Value.TheVariants as value
use Rattle.pale_syntax.specs.MakingParts.{Parts, Near, nameless, name_of}
use Rattle.pale_text.specs.Tokens.{place_of}
use Rattle.pale_syntax.specs.MakingWords.{pathless, termless, extended}
use Rattle.pale_syntax.specs.MakingRoutes.{routeless}
use Rattle.pale_syntax.specs.MakingConditions.{conditionless}
use Rattle.pale_syntax.specs.MakingAssertions.{assertionless, quantifierless, binding}
use Rattle.pale_syntax.specs.MakingStatements.{bracketless, valueless, narrowed, with_statement}
use Rattle.pale_print.specs.Placeless.{nowhere, placeless_name, placeless_path, placeless_term, placeless_route}
use Rattle.pale_print.specs.Placeless.{placeless_condition, placeless_quantifier, placeless_assertion, placeless_bracketed}
use Rattle.pale_print.specs.Placeless.{placeless_value, placeless_argument, placeless_statement, placeless_field}
use Rattle.pale_print.specs.Placeless.{placeless_variant, placeless_predicate_parameter, placeless_parameter, placeless_logic}
use Rattle.pale_print.specs.Placeless.{placeless_declaration}
use Rattle.pale_print_laws.proofs.StackLemmas.{map-last, top-map, rest-map, second-map, rest-rest-map}
use Rattle.pale_print_laws.proofs.PlacelessForms.{route-UpAny, condition-True, assertion-True}

-- the parts with every place in them set to one and the same
abbrev pub placeless_parts : Parts → Parts
placeless_parts parts =
    record {
      names = map placeless_name parts.names;
      places = map (λ p. nowhere) parts.places;
      paths = map placeless_path parts.paths;
      terms = map placeless_term parts.terms;
      routes = map placeless_route parts.routes;
      conditions = map placeless_condition parts.conditions;
      assertions = map placeless_assertion parts.assertions;
      quantifiers = map placeless_quantifier parts.quantifiers;
      brackets = map placeless_bracketed parts.brackets;
      blocks = map (map placeless_statement) parts.blocks;
      elses = map (option_map (map placeless_statement)) parts.elses;
      values = map placeless_value parts.values;
      used = map placeless_path parts.used;
      call_results = map placeless_name parts.call_results;
      given = map placeless_argument parts.given;
      arguments = map placeless_argument parts.arguments;
      keep = option_map placeless_bracketed parts.keep;
      variables = map placeless_parameter parts.variables;
      parameters = map placeless_parameter parts.parameters;
      results = map placeless_parameter parts.results;
      logics = map placeless_logic parts.logics;
      pre = option_map placeless_bracketed parts.pre;
      post = option_map placeless_bracketed parts.post;
      predicate_parameters = map placeless_predicate_parameter parts.predicate_parameters;
      fields = map placeless_field parts.fields;
      common = map placeless_field parts.common;
      variants = map placeless_variant parts.variants;
      declarations = map placeless_declaration parts.declarations;
    }

abbrev pub placeless_token : Token → Token
placeless_token one = record { span = record { start = nowhere; length = 0 }; kind = one.kind }

abbrev pub placeless_near : Near → Near
placeless_near near = record { last = option_map placeless_token near.last; next = option_map placeless_token near.next }

pub place_of-placeless : (o : Option Token) → nowhere ≡ place_of (option_map placeless_token o)
place_of-placeless None = refl
place_of-placeless (Some one) = refl

pub name_of-placeless : (o : Option Token) → placeless_name (name_of o) ≡ name_of (option_map placeless_token o)
name_of-placeless None = refl
name_of-placeless (Some one) = refl

-- ---- equal where their parts are

pub ap2 : {A B C : Type 0} (f : A → B → C) {a b : A} {c d : B} → a ≡ b → c ≡ d → f a c ≡ f b d
ap2 f p q = λ i. f (p i) (q i)

pub ap3 : {A B C D : Type 0} (f : A → B → C → D) {a b : A} {c d : B} {e g : C} → a ≡ b → c ≡ d → e ≡ g → f a c e ≡ f b d g
ap3 f p q r = λ i. f (p i) (q i) (r i)

pub ap4 : {A B C D E : Type 0} (f : A → B → C → D → E) {a b : A} {c d : B} {e g : C} {h k : D} → a ≡ b → c ≡ d → e ≡ g → h ≡ k → f a c e h ≡ f b d g k
ap4 f p q r s = λ i. f (p i) (q i) (r i) (s i)

-- ---- the stacks' tops, and what lies below

pub name1 : (parts : Parts) → placeless_name (top nameless parts.names) ≡ top nameless (map placeless_name parts.names)
name1 parts = top-map placeless_name nameless nameless refl parts.names

pub name2 : (parts : Parts) → placeless_name (top nameless (rest parts.names)) ≡ top nameless (rest (map placeless_name parts.names))
name2 parts = second-map placeless_name nameless nameless refl parts.names

pub names1 : (parts : Parts) → map placeless_name (rest parts.names) ≡ rest (map placeless_name parts.names)
names1 parts = rest-map placeless_name parts.names

pub names2 : (parts : Parts) → map placeless_name (rest (rest parts.names)) ≡ rest (rest (map placeless_name parts.names))
names2 parts = rest-rest-map placeless_name parts.names

pub place1 : (parts : Parts) → nowhere ≡ top nowhere (map (λ p. nowhere) parts.places)
place1 parts = top-map (λ p. nowhere) nowhere nowhere refl parts.places

pub place2 : (parts : Parts) → nowhere ≡ top nowhere (rest (map (λ p. nowhere) parts.places))
place2 parts = second-map (λ p. nowhere) nowhere nowhere refl parts.places

pub places1 : (parts : Parts) → map (λ p. nowhere) (rest parts.places) ≡ rest (map (λ p. nowhere) parts.places)
places1 parts = rest-map (λ p. nowhere) parts.places

pub places2 : (parts : Parts) → map (λ p. nowhere) (rest (rest parts.places)) ≡ rest (rest (map (λ p. nowhere) parts.places))
places2 parts = rest-rest-map (λ p. nowhere) parts.places

pub path1 : (parts : Parts) → placeless_path (top pathless parts.paths) ≡ top pathless (map placeless_path parts.paths)
path1 parts = top-map placeless_path pathless pathless refl parts.paths

pub path2 : (parts : Parts) → placeless_path (top pathless (rest parts.paths)) ≡ top pathless (rest (map placeless_path parts.paths))
path2 parts = second-map placeless_path pathless pathless refl parts.paths

pub paths1 : (parts : Parts) → map placeless_path (rest parts.paths) ≡ rest (map placeless_path parts.paths)
paths1 parts = rest-map placeless_path parts.paths

pub paths2 : (parts : Parts) → map placeless_path (rest (rest parts.paths)) ≡ rest (rest (map placeless_path parts.paths))
paths2 parts = rest-rest-map placeless_path parts.paths

pub term1 : (parts : Parts) → placeless_term (top termless parts.terms) ≡ top termless (map placeless_term parts.terms)
term1 parts = top-map placeless_term termless termless refl parts.terms

pub term2 : (parts : Parts) → placeless_term (top termless (rest parts.terms)) ≡ top termless (rest (map placeless_term parts.terms))
term2 parts = second-map placeless_term termless termless refl parts.terms

pub terms1 : (parts : Parts) → map placeless_term (rest parts.terms) ≡ rest (map placeless_term parts.terms)
terms1 parts = rest-map placeless_term parts.terms

pub terms2 : (parts : Parts) → map placeless_term (rest (rest parts.terms)) ≡ rest (rest (map placeless_term parts.terms))
terms2 parts = rest-rest-map placeless_term parts.terms

pub route1 : (parts : Parts) → placeless_route (top routeless parts.routes) ≡ top routeless (map placeless_route parts.routes)
route1 parts = top-map placeless_route routeless routeless route-UpAny parts.routes

pub route2 : (parts : Parts) → placeless_route (top routeless (rest parts.routes)) ≡ top routeless (rest (map placeless_route parts.routes))
route2 parts = second-map placeless_route routeless routeless route-UpAny parts.routes

pub routes1 : (parts : Parts) → map placeless_route (rest parts.routes) ≡ rest (map placeless_route parts.routes)
routes1 parts = rest-map placeless_route parts.routes

pub routes2 : (parts : Parts) → map placeless_route (rest (rest parts.routes)) ≡ rest (rest (map placeless_route parts.routes))
routes2 parts = rest-rest-map placeless_route parts.routes

pub condition1 : (parts : Parts) → placeless_condition (top conditionless parts.conditions) ≡ top conditionless (map placeless_condition parts.conditions)
condition1 parts = top-map placeless_condition conditionless conditionless (condition-True nowhere) parts.conditions

pub condition2 : (parts : Parts) →
    placeless_condition (top conditionless (rest parts.conditions)) ≡ top conditionless (rest (map placeless_condition parts.conditions))
condition2 parts = second-map placeless_condition conditionless conditionless (condition-True nowhere) parts.conditions

pub conditions1 : (parts : Parts) → map placeless_condition (rest parts.conditions) ≡ rest (map placeless_condition parts.conditions)
conditions1 parts = rest-map placeless_condition parts.conditions

pub conditions2 : (parts : Parts) → map placeless_condition (rest (rest parts.conditions)) ≡ rest (rest (map placeless_condition parts.conditions))
conditions2 parts = rest-rest-map placeless_condition parts.conditions

pub assertion1 : (parts : Parts) → placeless_assertion (top assertionless parts.assertions) ≡ top assertionless (map placeless_assertion parts.assertions)
assertion1 parts = top-map placeless_assertion assertionless assertionless assertion-True parts.assertions

pub assertion2 : (parts : Parts) →
    placeless_assertion (top assertionless (rest parts.assertions)) ≡ top assertionless (rest (map placeless_assertion parts.assertions))
assertion2 parts = second-map placeless_assertion assertionless assertionless assertion-True parts.assertions

pub assertions1 : (parts : Parts) → map placeless_assertion (rest parts.assertions) ≡ rest (map placeless_assertion parts.assertions)
assertions1 parts = rest-map placeless_assertion parts.assertions

pub assertions2 : (parts : Parts) → map placeless_assertion (rest (rest parts.assertions)) ≡ rest (rest (map placeless_assertion parts.assertions))
assertions2 parts = rest-rest-map placeless_assertion parts.assertions

pub quantifier1 : (parts : Parts) →
    placeless_quantifier (top quantifierless parts.quantifiers) ≡ top quantifierless (map placeless_quantifier parts.quantifiers)
quantifier1 parts = top-map placeless_quantifier quantifierless quantifierless refl parts.quantifiers

pub quantifier2 : (parts : Parts) →
    placeless_quantifier (top quantifierless (rest parts.quantifiers)) ≡ top quantifierless (rest (map placeless_quantifier parts.quantifiers))
quantifier2 parts = second-map placeless_quantifier quantifierless quantifierless refl parts.quantifiers

pub quantifiers1 : (parts : Parts) → map placeless_quantifier (rest parts.quantifiers) ≡ rest (map placeless_quantifier parts.quantifiers)
quantifiers1 parts = rest-map placeless_quantifier parts.quantifiers

pub quantifiers2 : (parts : Parts) → map placeless_quantifier (rest (rest parts.quantifiers)) ≡ rest (rest (map placeless_quantifier parts.quantifiers))
quantifiers2 parts = rest-rest-map placeless_quantifier parts.quantifiers

pub bracket1 : (parts : Parts) → placeless_bracketed (top bracketless parts.brackets) ≡ top bracketless (map placeless_bracketed parts.brackets)
bracket1 parts = top-map placeless_bracketed bracketless bracketless (ap (λ a. record { place = nowhere; assertion = a }) assertion-True) parts.brackets

pub bracket2 : (parts : Parts) → placeless_bracketed (top bracketless (rest parts.brackets)) ≡ top bracketless (rest (map placeless_bracketed parts.brackets))
bracket2 parts = second-map placeless_bracketed bracketless bracketless (ap (λ a. record { place = nowhere; assertion = a }) assertion-True) parts.brackets

pub brackets1 : (parts : Parts) → map placeless_bracketed (rest parts.brackets) ≡ rest (map placeless_bracketed parts.brackets)
brackets1 parts = rest-map placeless_bracketed parts.brackets

pub brackets2 : (parts : Parts) → map placeless_bracketed (rest (rest parts.brackets)) ≡ rest (rest (map placeless_bracketed parts.brackets))
brackets2 parts = rest-rest-map placeless_bracketed parts.brackets

pub block1 : (parts : Parts) → (map placeless_statement) (top [] parts.blocks) ≡ top [] (map (map placeless_statement) parts.blocks)
block1 parts = top-map (map placeless_statement) [] [] refl parts.blocks

pub block2 : (parts : Parts) → (map placeless_statement) (top [] (rest parts.blocks)) ≡ top [] (rest (map (map placeless_statement) parts.blocks))
block2 parts = second-map (map placeless_statement) [] [] refl parts.blocks

pub blocks1 : (parts : Parts) → map (map placeless_statement) (rest parts.blocks) ≡ rest (map (map placeless_statement) parts.blocks)
blocks1 parts = rest-map (map placeless_statement) parts.blocks

pub blocks2 : (parts : Parts) → map (map placeless_statement) (rest (rest parts.blocks)) ≡ rest (rest (map (map placeless_statement) parts.blocks))
blocks2 parts = rest-rest-map (map placeless_statement) parts.blocks

pub else1 : (parts : Parts) → (option_map (map placeless_statement)) (top None parts.elses) ≡ top None (map (option_map (map placeless_statement)) parts.elses)
else1 parts = top-map (option_map (map placeless_statement)) None None refl parts.elses

pub else2 : (parts : Parts) →
    (option_map (map placeless_statement)) (top None (rest parts.elses)) ≡ top None (rest (map (option_map (map placeless_statement)) parts.elses))
else2 parts = second-map (option_map (map placeless_statement)) None None refl parts.elses

pub elses1 : (parts : Parts) → map (option_map (map placeless_statement)) (rest parts.elses) ≡ rest (map (option_map (map placeless_statement)) parts.elses)
elses1 parts = rest-map (option_map (map placeless_statement)) parts.elses

pub elses2 : (parts : Parts) →
    map (option_map (map placeless_statement)) (rest (rest parts.elses)) ≡ rest (rest (map (option_map (map placeless_statement)) parts.elses))
elses2 parts = rest-rest-map (option_map (map placeless_statement)) parts.elses

pub value1 : (parts : Parts) → placeless_value (top valueless parts.values) ≡ top valueless (map placeless_value parts.values)
value1 parts = top-map placeless_value valueless valueless (ap (value.Condition nowhere) (condition-True nowhere)) parts.values

pub value2 : (parts : Parts) → placeless_value (top valueless (rest parts.values)) ≡ top valueless (rest (map placeless_value parts.values))
value2 parts = second-map placeless_value valueless valueless (ap (value.Condition nowhere) (condition-True nowhere)) parts.values

pub values1 : (parts : Parts) → map placeless_value (rest parts.values) ≡ rest (map placeless_value parts.values)
values1 parts = rest-map placeless_value parts.values

pub values2 : (parts : Parts) → map placeless_value (rest (rest parts.values)) ≡ rest (rest (map placeless_value parts.values))
values2 parts = rest-rest-map placeless_value parts.values

pub extended-placeless : (p : Path) (f : Name) → placeless_path (extended p f) ≡ extended (placeless_path p) (placeless_name f)
extended-placeless p f = λ i. record { base = placeless_name p.base; fields = map-last placeless_name p.fields f i }

pub binding-placeless : (q : Quantifier) (x : Name) → placeless_quantifier (binding q x) ≡ binding (placeless_quantifier q) (placeless_name x)
binding-placeless q x = λ i. record (placeless_quantifier q) { names = map-last placeless_name q.names x i }

pub narrowed-placeless : (v : Value) (x : Name) → placeless_value (narrowed v x) ≡ narrowed (placeless_value v) (placeless_name x)
narrowed-placeless (value.New place ty variant) x = refl
narrowed-placeless (value.Condition place c) x = refl

-- a statement at the end of the block on top
pub with_statement-placeless : (one other : Statement) (blocks : List (List Statement)) → placeless_statement one ≡ other →
    map (map placeless_statement) (with_statement one blocks) ≡ with_statement other (map (map placeless_statement) blocks)
with_statement-placeless one other [] is = λ i. (is i ∷ []) ∷ []
with_statement-placeless one other (block ∷ blocks) is =
    λ i. (map-last placeless_statement block one ∙ ap (λ s. map placeless_statement block ++ s ∷ []) is) i ∷ map
    (map placeless_statement) blocks
