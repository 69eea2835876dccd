-- Trees without their places, form by form.
use Rattle.std.proofs.Common.{◌≡◌, Bool, List, Option, Some, None, map, sym, ap, ◌∙◌}
use Rattle.std.specs.Option.{option_map}
use Rattle.pale_text.specs.declared.place.Pos.{Pos}
use Rattle.pale_syntax.specs.declared.tree.names.Name.{Name}
use Rattle.pale_syntax.specs.declared.tree.names.Path.{Path}
use Rattle.pale_syntax.specs.declared.tree.names.Term.{Term}
use Rattle.pale_syntax.specs.declared.tree.assertion.Bracketed.{Bracketed}
use Rattle.pale_syntax.specs.declared.tree.assertion.Quantifier.{Quantifier}
use Rattle.pale_syntax.specs.declared.tree.statement.Call.{Call}
use Rattle.pale_syntax.specs.declared.tree.statement.Value.{Value}
use Rattle.pale_syntax.specs.declared.tree.route.Route.{Route}
use Rattle.pale_syntax.specs.declared.tree.route.Route.TheVariants as route
use Rattle.pale_syntax.specs.declared.tree.route.Route.TheOpen.{Route-F}
use Rattle.pale_syntax.specs.declared.tree.route.Route.TheFolds.{fold-roll-Route}
use Rattle.pale_syntax.specs.declared.tree.condition.Condition.{Condition}
use Rattle.pale_syntax.specs.declared.tree.condition.Condition.TheVariants as condition
use Rattle.pale_syntax.specs.declared.tree.condition.Condition.TheOpen.{Condition-F}
use Rattle.pale_syntax.specs.declared.tree.condition.Condition.TheFolds.{fold-roll-Condition}
use Rattle.pale_syntax.specs.declared.tree.assertion.Assertion.{Assertion}
use Rattle.pale_syntax.specs.declared.tree.assertion.Assertion.TheVariants as assertion
use Rattle.pale_syntax.specs.declared.tree.assertion.Assertion.TheOpen.{Assertion-F}
use Rattle.pale_syntax.specs.declared.tree.assertion.Assertion.TheFolds.{fold-roll-Assertion}
use Rattle.pale_syntax.specs.declared.tree.statement.Statement.{Statement}
use Rattle.pale_syntax.specs.declared.tree.statement.Statement.TheVariants as statement
use Rattle.pale_syntax.specs.declared.tree.statement.Statement.TheOpen.{Statement-F}
use Rattle.pale_syntax.specs.declared.tree.statement.Statement.TheFolds.{fold-roll-Statement}
use Rattle.pale_print.specs.Placeless.{nowhere, placeless_name, placeless_path, placeless_term, placeless_route_node}
use Rattle.pale_print.specs.Placeless.{placeless_route, placeless_condition_node, placeless_condition, placeless_quantifier}
use Rattle.pale_print.specs.Placeless.{placeless_assertion_node, placeless_assertion, placeless_bracketed, placeless_value}
use Rattle.pale_print.specs.Placeless.{placeless_call, placeless_statement_node, placeless_statement}

-- ---- routes

pub route-Down : (f : Name) → placeless_route (route.Down f) ≡ route.Down (placeless_name f)
unfolding placeless_route
route-Down f = ap placeless_route (sym (route.rolls-Down f)) ∙ fold-roll-Route Route placeless_route_node (Route-F.Down f)

pub route-Up : (f : Name) → placeless_route (route.Up f) ≡ route.Up (placeless_name f)
unfolding placeless_route
route-Up f = ap placeless_route (sym (route.rolls-Up f)) ∙ fold-roll-Route Route placeless_route_node (Route-F.Up f)

pub route-UpAny : placeless_route route.UpAny ≡ route.UpAny
unfolding placeless_route
route-UpAny = ap placeless_route (sym route.rolls-UpAny) ∙ fold-roll-Route Route placeless_route_node Route-F.UpAny

pub route-Root : placeless_route route.Root ≡ route.Root
unfolding placeless_route
route-Root = ap placeless_route (sym route.rolls-Root) ∙ fold-roll-Route Route placeless_route_node Route-F.Root

pub route-Leaf : placeless_route route.Leaf ≡ route.Leaf
unfolding placeless_route
route-Leaf = ap placeless_route (sym route.rolls-Leaf) ∙ fold-roll-Route Route placeless_route_node Route-F.Leaf

pub route-IsType : (ty : Name) → placeless_route (route.IsType ty) ≡ route.IsType (placeless_name ty)
unfolding placeless_route
route-IsType ty = ap placeless_route (sym (route.rolls-IsType ty)) ∙ fold-roll-Route Route placeless_route_node (Route-F.IsType ty)

pub route-IsVariant : (ty : Name) (variant : Name) → placeless_route (route.IsVariant ty variant) ≡ route.IsVariant (placeless_name ty) (placeless_name variant)
unfolding placeless_route
route-IsVariant ty variant =
    ap placeless_route (sym (route.rolls-IsVariant ty variant))
    ∙ fold-roll-Route Route placeless_route_node (Route-F.IsVariant ty variant)

pub route-IsBool : (f : Name) (value : Bool) → placeless_route (route.IsBool f value) ≡ route.IsBool (placeless_name f) value
unfolding placeless_route
route-IsBool f value = ap placeless_route (sym (route.rolls-IsBool f value)) ∙ fold-roll-Route Route placeless_route_node (Route-F.IsBool f value)

pub route-Then : (first : Route) (others : List Route) →
    placeless_route (route.Then first others) ≡ route.Then (placeless_route first) (map placeless_route others)
unfolding placeless_route
route-Then first others = ap placeless_route (sym (route.rolls-Then first others)) ∙ fold-roll-Route Route placeless_route_node (Route-F.Then first others)

pub route-Or : (first : Route) (others : List Route) → placeless_route (route.Or first others) ≡ route.Or (placeless_route first) (map placeless_route others)
unfolding placeless_route
route-Or first others = ap placeless_route (sym (route.rolls-Or first others)) ∙ fold-roll-Route Route placeless_route_node (Route-F.Or first others)

pub route-Star : (inner : Route) (places : List Pos) →
    placeless_route (route.Star inner places) ≡ route.Star (placeless_route inner) (map (λ place. nowhere) places)
unfolding placeless_route
route-Star inner places = ap placeless_route (sym (route.rolls-Star inner places)) ∙ fold-roll-Route Route placeless_route_node (Route-F.Star inner places)

-- ---- conditions

pub condition-True : (place : Pos) → placeless_condition (condition.True place) ≡ condition.True nowhere
unfolding placeless_condition
condition-True place =
    ap placeless_condition (sym (condition.rolls-True place))
    ∙ fold-roll-Condition Condition placeless_condition_node (Condition-F.True place)

pub condition-False : (place : Pos) → placeless_condition (condition.False place) ≡ condition.False nowhere
unfolding placeless_condition
condition-False place =
    ap placeless_condition (sym (condition.rolls-False place))
    ∙ fold-roll-Condition Condition placeless_condition_node (Condition-F.False place)

pub condition-Truth : (t : Term) → placeless_condition (condition.Truth t) ≡ condition.Truth (placeless_term t)
unfolding placeless_condition
condition-Truth t = ap placeless_condition (sym (condition.rolls-Truth t)) ∙ fold-roll-Condition Condition placeless_condition_node (Condition-F.Truth t)

pub condition-Same : (t : Term) (place : Pos) (u : Term) →
    placeless_condition (condition.Same t place u) ≡ condition.Same (placeless_term t) nowhere (placeless_term u)
unfolding placeless_condition
condition-Same t place u =
    ap placeless_condition (sym (condition.rolls-Same t place u))
    ∙ fold-roll-Condition Condition placeless_condition_node (Condition-F.Same t place u)

pub condition-Differ : (t : Term) (place : Pos) (u : Term) →
    placeless_condition (condition.Differ t place u) ≡ condition.Differ (placeless_term t) nowhere (placeless_term u)
unfolding placeless_condition
condition-Differ t place u =
    ap placeless_condition (sym (condition.rolls-Differ t place u))
    ∙ fold-roll-Condition Condition placeless_condition_node (Condition-F.Differ t place u)

pub condition-Is : (t : Term) (place : Pos) (variant : Name) →
    placeless_condition (condition.Is t place variant) ≡ condition.Is (placeless_term t) nowhere (placeless_name variant)
unfolding placeless_condition
condition-Is t place variant =
    ap placeless_condition (sym (condition.rolls-Is t place variant))
    ∙ fold-roll-Condition Condition placeless_condition_node (Condition-F.Is t place variant)

pub condition-Not : (place : Pos) (inner : Condition) → placeless_condition (condition.Not place inner) ≡ condition.Not nowhere (placeless_condition inner)
unfolding placeless_condition
condition-Not place inner =
    ap placeless_condition (sym (condition.rolls-Not place inner))
    ∙ fold-roll-Condition Condition placeless_condition_node (Condition-F.Not place inner)

pub condition-And : (first : Condition) (others : List Condition) →
    placeless_condition (condition.And first others) ≡ condition.And (placeless_condition first) (map placeless_condition others)
unfolding placeless_condition
condition-And first others =
    ap placeless_condition (sym (condition.rolls-And first others))
    ∙ fold-roll-Condition Condition placeless_condition_node (Condition-F.And first others)

pub condition-Or : (first : Condition) (others : List Condition) →
    placeless_condition (condition.Or first others) ≡ condition.Or (placeless_condition first) (map placeless_condition others)
unfolding placeless_condition
condition-Or first others =
    ap placeless_condition (sym (condition.rolls-Or first others))
    ∙ fold-roll-Condition Condition placeless_condition_node (Condition-F.Or first others)

-- ---- assertions

pub assertion-True : placeless_assertion assertion.True ≡ assertion.True
unfolding placeless_assertion
assertion-True = ap placeless_assertion (sym assertion.rolls-True) ∙ fold-roll-Assertion Assertion placeless_assertion_node Assertion-F.True

pub assertion-False : placeless_assertion assertion.False ≡ assertion.False
unfolding placeless_assertion
assertion-False = ap placeless_assertion (sym assertion.rolls-False) ∙ fold-roll-Assertion Assertion placeless_assertion_node Assertion-F.False

pub assertion-Truth : (p : Path) → placeless_assertion (assertion.Truth p) ≡ assertion.Truth (placeless_path p)
unfolding placeless_assertion
assertion-Truth p = ap placeless_assertion (sym (assertion.rolls-Truth p)) ∙ fold-roll-Assertion Assertion placeless_assertion_node (Assertion-F.Truth p)

pub assertion-Same : (t : Term) (place : Pos) (u : Term) →
    placeless_assertion (assertion.Same t place u) ≡ assertion.Same (placeless_term t) nowhere (placeless_term u)
unfolding placeless_assertion
assertion-Same t place u =
    ap placeless_assertion (sym (assertion.rolls-Same t place u))
    ∙ fold-roll-Assertion Assertion placeless_assertion_node (Assertion-F.Same t place u)

pub assertion-Differ : (t : Term) (place : Pos) (u : Term) →
    placeless_assertion (assertion.Differ t place u) ≡ assertion.Differ (placeless_term t) nowhere (placeless_term u)
unfolding placeless_assertion
assertion-Differ t place u =
    ap placeless_assertion (sym (assertion.rolls-Differ t place u))
    ∙ fold-roll-Assertion Assertion placeless_assertion_node (Assertion-F.Differ t place u)

pub assertion-Member : (t : Term) (place : Pos) (set : Name) →
    placeless_assertion (assertion.Member t place set) ≡ assertion.Member (placeless_term t) nowhere (placeless_name set)
unfolding placeless_assertion
assertion-Member t place set =
    ap placeless_assertion (sym (assertion.rolls-Member t place set))
    ∙ fold-roll-Assertion Assertion placeless_assertion_node (Assertion-F.Member t place set)

pub assertion-Subset : (t : Term) (place : Pos) (set : Name) →
    placeless_assertion (assertion.Subset t place set) ≡ assertion.Subset (placeless_term t) nowhere (placeless_name set)
unfolding placeless_assertion
assertion-Subset t place set =
    ap placeless_assertion (sym (assertion.rolls-Subset t place set))
    ∙ fold-roll-Assertion Assertion placeless_assertion_node (Assertion-F.Subset t place set)

pub assertion-Walk : (t : Term) (place : Pos) (r : Route) (u : Term) →
    placeless_assertion (assertion.Walk t place r u) ≡ assertion.Walk (placeless_term t) nowhere (placeless_route r) (placeless_term u)
unfolding placeless_assertion
assertion-Walk t place r u =
    ap placeless_assertion (sym (assertion.rolls-Walk t place r u))
    ∙ fold-roll-Assertion Assertion placeless_assertion_node (Assertion-F.Walk t place r u)

pub assertion-Is : (t : Term) (place : Pos) (variant : Name) →
    placeless_assertion (assertion.Is t place variant) ≡ assertion.Is (placeless_term t) nowhere (placeless_name variant)
unfolding placeless_assertion
assertion-Is t place variant =
    ap placeless_assertion (sym (assertion.rolls-Is t place variant))
    ∙ fold-roll-Assertion Assertion placeless_assertion_node (Assertion-F.Is t place variant)

pub assertion-Use : (predicate : Name) (arguments : List Path) →
    placeless_assertion (assertion.Use predicate arguments) ≡ assertion.Use (placeless_name predicate) (map placeless_path arguments)
unfolding placeless_assertion
assertion-Use predicate arguments =
    ap placeless_assertion (sym (assertion.rolls-Use predicate arguments))
    ∙ fold-roll-Assertion Assertion placeless_assertion_node (Assertion-F.Use predicate arguments)

pub assertion-Not : (place : Pos) (inner : Assertion) → placeless_assertion (assertion.Not place inner) ≡ assertion.Not nowhere (placeless_assertion inner)
unfolding placeless_assertion
assertion-Not place inner =
    ap placeless_assertion (sym (assertion.rolls-Not place inner))
    ∙ fold-roll-Assertion Assertion placeless_assertion_node (Assertion-F.Not place inner)

pub assertion-And : (first : Assertion) (others : List Assertion) →
    placeless_assertion (assertion.And first others) ≡ assertion.And (placeless_assertion first) (map placeless_assertion others)
unfolding placeless_assertion
assertion-And first others =
    ap placeless_assertion (sym (assertion.rolls-And first others))
    ∙ fold-roll-Assertion Assertion placeless_assertion_node (Assertion-F.And first others)

pub assertion-Or : (first : Assertion) (others : List Assertion) →
    placeless_assertion (assertion.Or first others) ≡ assertion.Or (placeless_assertion first) (map placeless_assertion others)
unfolding placeless_assertion
assertion-Or first others =
    ap placeless_assertion (sym (assertion.rolls-Or first others))
    ∙ fold-roll-Assertion Assertion placeless_assertion_node (Assertion-F.Or first others)

pub assertion-Imp : (left : Assertion) (place : Pos) (right : Assertion) →
    placeless_assertion (assertion.Imp left place right) ≡ assertion.Imp (placeless_assertion left) nowhere (placeless_assertion right)
unfolding placeless_assertion
assertion-Imp left place right =
    ap placeless_assertion (sym (assertion.rolls-Imp left place right))
    ∙ fold-roll-Assertion Assertion placeless_assertion_node (Assertion-F.Imp left place right)

pub assertion-Iff : (first : Assertion) (others : List Assertion) →
    placeless_assertion (assertion.Iff first others) ≡ assertion.Iff (placeless_assertion first) (map placeless_assertion others)
unfolding placeless_assertion
assertion-Iff first others =
    ap placeless_assertion (sym (assertion.rolls-Iff first others))
    ∙ fold-roll-Assertion Assertion placeless_assertion_node (Assertion-F.Iff first others)

pub assertion-Quantified : (q : Quantifier) (inner : Assertion) →
    placeless_assertion (assertion.Quantified q inner) ≡ assertion.Quantified (placeless_quantifier q) (placeless_assertion inner)
unfolding placeless_assertion
assertion-Quantified q inner =
    ap placeless_assertion (sym (assertion.rolls-Quantified q inner))
    ∙ fold-roll-Assertion Assertion placeless_assertion_node (Assertion-F.Quantified q inner)

-- ---- statements

pub statement-Skip : (place : Pos) → placeless_statement (statement.Skip place) ≡ statement.Skip nowhere
unfolding placeless_statement
statement-Skip place =
    ap placeless_statement (sym (statement.rolls-Skip place))
    ∙ fold-roll-Statement Statement placeless_statement_node (Statement-F.Skip place)

pub statement-If : (place : Pos) (c : Condition) (then : List Statement) (otherwise : Option (List Statement)) →
    placeless_statement (statement.If place c then otherwise) ≡ statement.If nowhere (placeless_condition c)
    (map placeless_statement then) (option_map (map placeless_statement) otherwise)
unfolding placeless_statement
statement-If place c then None =
    ap placeless_statement (sym (statement.rolls-If place c then None))
    ∙ fold-roll-Statement Statement placeless_statement_node (Statement-F.If place c then None)
statement-If place c then (Some otherwise) =
    ap placeless_statement (sym (statement.rolls-If place c then (Some otherwise)))
    ∙ fold-roll-Statement Statement placeless_statement_node (Statement-F.If place c then (Some otherwise))

pub statement-While : (place : Pos) (c : Condition) (invariant : Bracketed) (body : List Statement) →
    placeless_statement (statement.While place c invariant body) ≡ statement.While nowhere (placeless_condition c)
    (placeless_bracketed invariant) (map placeless_statement body)
unfolding placeless_statement
statement-While place c invariant body =
    ap placeless_statement (sym (statement.rolls-While place c invariant body))
    ∙ fold-roll-Statement Statement placeless_statement_node (Statement-F.While place c invariant body)

pub statement-Split : (place : Pos) (b : Bracketed) → placeless_statement (statement.Split place b) ≡ statement.Split nowhere (placeless_bracketed b)
unfolding placeless_statement
statement-Split place b =
    ap placeless_statement (sym (statement.rolls-Split place b))
    ∙ fold-roll-Statement Statement placeless_statement_node (Statement-F.Split place b)

pub statement-Assert : (place : Pos) (b : Bracketed) → placeless_statement (statement.Assert place b) ≡ statement.Assert nowhere (placeless_bracketed b)
unfolding placeless_statement
statement-Assert place b =
    ap placeless_statement (sym (statement.rolls-Assert place b))
    ∙ fold-roll-Statement Statement placeless_statement_node (Statement-F.Assert place b)

pub statement-Free : (place : Pos) (x : Name) → placeless_statement (statement.Free place x) ≡ statement.Free nowhere (placeless_name x)
unfolding placeless_statement
statement-Free place x =
    ap placeless_statement (sym (statement.rolls-Free place x))
    ∙ fold-roll-Statement Statement placeless_statement_node (Statement-F.Free place x)

pub statement-Call : (c : Call) → placeless_statement (statement.Call c) ≡ statement.Call (placeless_call c)
unfolding placeless_statement
statement-Call c = ap placeless_statement (sym (statement.rolls-Call c)) ∙ fold-roll-Statement Statement placeless_statement_node (Statement-F.Call c)

pub statement-Assign : (p : Path) (place : Pos) (v : Value) →
    placeless_statement (statement.Assign p place v) ≡ statement.Assign (placeless_path p) nowhere (placeless_value v)
unfolding placeless_statement
statement-Assign p place v =
    ap placeless_statement (sym (statement.rolls-Assign p place v))
    ∙ fold-roll-Statement Statement placeless_statement_node (Statement-F.Assign p place v)
