-- Trees have as many tokens without their places.
use Rattle.std.proofs.Common.{◌≡◌, ℕ, suc, ◌+◌, nat_lt, List, [], ◌∷◌, length, map, refl, sym, ap, ◌∙◌, subst, arith}
use Rattle.pale_text.specs.declared.place.Pos.{Pos}
use Rattle.pale_syntax.specs.declared.tree.names.Name.{Name}
use Rattle.pale_syntax.specs.declared.tree.names.Path.{Path}
use Rattle.pale_syntax.specs.declared.tree.names.Term.{Term}
use Rattle.pale_syntax.specs.declared.tree.names.Term.TheVariants as term
use Rattle.pale_syntax.specs.declared.tree.route.Route.{Route, roll-Route}
use Rattle.pale_syntax.specs.declared.tree.route.Route.TheOpen.{Route-F}
use Rattle.pale_syntax.specs.declared.tree.route.Route.TheFolds.{fold-roll-Route, ind-Route, map-Route}
use Rattle.pale_syntax.specs.declared.tree.condition.Condition.{Condition, roll-Condition}
use Rattle.pale_syntax.specs.declared.tree.condition.Condition.TheOpen.{Condition-F}
use Rattle.pale_syntax.specs.declared.tree.condition.Condition.TheFolds.{fold-roll-Condition, ind-Condition, map-Condition}
use Rattle.pale_print.specs.Placeless.{nowhere, placeless_name, placeless_path, placeless_term, placeless_route_node}
use Rattle.pale_print.specs.Placeless.{placeless_route, placeless_condition_node, placeless_condition}
use Rattle.pale_print_laws.proofs.NameSizes.{names_size, path_size, term_size}
use Rattle.pale_print_laws.proofs.ListSizes.{each_size, behind_size as all_behind_size, separated_size}
use Rattle.pale_print_laws.proofs.RouteSizes.{Size, grouped_size, behind_size, size_node as route_size_node, route_size}
use Rattle.pale_print_laws.proofs.RouteSizes.{sized_at as route_sized_at, size_down, size_up, size_up_any, size_root, size_leaf}
use Rattle.pale_print_laws.proofs.RouteSizes.{size_is_type, size_is_variant, size_is_bool, size_then, size_or as size_or_route}
use Rattle.pale_print_laws.proofs.RouteSizes.{size_star}
use Rattle.pale_print_laws.proofs.ConditionSizes.{size_node, condition_size, sized_at, size_true, size_false, size_truth}
use Rattle.pale_print_laws.proofs.ConditionSizes.{size_same, size_differ, size_is, size_not, size_and, size_or}

-- ---- lists

module _ {X : Type 0} (size : X → ℕ) (f : X → X) (same : (x : X) → size (f x) ≡ size x) where
  pub each_same : (xs : List X) → each_size size (map f xs) ≡ each_size size xs
  each_same [] = refl
  each_same (x ∷ xs) = let e = same x in let more = each_same xs in omega arith

  pub behind_same : (xs : List X) → all_behind_size size (map f xs) ≡ all_behind_size size xs
  behind_same [] = refl
  behind_same (x ∷ xs) = let e = same x in let more = behind_same xs in omega arith

  pub separated_same : (xs : List X) → separated_size size (map f xs) ≡ separated_size size xs
  separated_same [] = refl
  separated_same (x ∷ xs) = let e = same x in let more = behind_same xs in omega arith

-- ---- names

pub names_same : (xs : List Name) → names_size (map placeless_name xs) ≡ names_size xs
names_same [] = refl
names_same (x ∷ xs) = let e = names_same xs in omega arith

pub path_same : (p : Path) → path_size (placeless_path p) ≡ path_size p
path_same p = ap suc (names_same p.fields)

pub term_same : (t : Term) → term_size (placeless_term t) ≡ term_size t
term_same (term.Null place) = refl
term_same (term.Path p) = path_same p

-- ---- routes

abbrev RouteSame : Route → Type 0
RouteSame r = (asked : ℕ) → route_size (placeless_route r) asked ≡ route_size r asked

abbrev KnownRoute : Type 0
KnownRoute = (r : Route) × RouteSame r

abbrev routes : List KnownRoute → List Route
routes rs = map (λ (e : KnownRoute). e.0) rs

routes_same : (asked : ℕ) (rs : List KnownRoute) →
    behind_size asked (map route_size (map placeless_route (routes rs))) ≡ behind_size asked (map route_size (routes rs))
routes_same asked [] = refl
routes_same asked (r ∷ rs) = let e = r.1 asked in let more = routes_same asked rs in omega arith

places_same : (places : List Pos) → length (map (λ (place : Pos). nowhere) places) ≡ length places
places_same [] = refl
places_same (place ∷ places) = ap suc (places_same places)

route_node_same : (y : Route-F KnownRoute) (asked : ℕ) →
    route_size (placeless_route_node (map-Route Route Route placeless_route (map-Route KnownRoute Route (λ e. e.0) y))) asked ≡
    route_size_node (map-Route Route Size route_size (map-Route KnownRoute Route (λ e. e.0) y)) asked
route_node_same (Route-F.Down f) asked = size_down (placeless_name f) asked
route_node_same (Route-F.Up f) asked = size_up (placeless_name f) asked
route_node_same Route-F.UpAny asked = size_up_any asked
route_node_same Route-F.Root asked = size_root asked
route_node_same Route-F.Leaf asked = size_leaf asked
route_node_same (Route-F.IsType ty) asked = size_is_type (placeless_name ty) asked
route_node_same (Route-F.IsVariant ty variant) asked = size_is_variant (placeless_name ty) (placeless_name variant) asked
route_node_same (Route-F.IsBool f value) asked = size_is_bool (placeless_name f) value asked
route_node_same (Route-F.Then first others) asked =
    let e : route_size (placeless_route first.0) 2 + behind_size 2 (map route_size (map placeless_route (routes others)))
    ≡ route_size first.0 2 + behind_size 2 (map route_size (routes others)) =
    omega (arith, first.1 2, routes_same 2 others) in
    size_then (placeless_route first.0) (map placeless_route (routes others)) asked ∙ ap (λ (n : ℕ). grouped_size (nat_lt 1 asked) n) e
route_node_same (Route-F.Or first others) asked =
    let e : route_size (placeless_route first.0) 1 + behind_size 1 (map route_size (map placeless_route (routes others)))
    ≡ route_size first.0 1 + behind_size 1 (map route_size (routes others)) =
    omega (arith, first.1 1, routes_same 1 others) in
    size_or_route (placeless_route first.0) (map placeless_route (routes others)) asked ∙ ap (λ (n : ℕ). grouped_size (nat_lt 0 asked) n) e
route_node_same (Route-F.Star inner places) asked =
    let e : route_size (placeless_route inner.0) 3 + length (map (λ (place : Pos). nowhere) places) ≡ route_size inner.0 3 + length places =
    omega (arith, inner.1 3, places_same places) in
    size_star (placeless_route inner.0) (map (λ place. nowhere) places) asked ∙ ap (λ (n : ℕ). grouped_size (nat_lt 2 asked) n) e

opened_placeless_route : (x : Route-F Route) → placeless_route (roll-Route x) ≡ placeless_route_node (map-Route Route Route placeless_route x)
unfolding placeless_route
opened_placeless_route x = fold-roll-Route Route placeless_route_node x

pub route_same : (r : Route) (asked : ℕ) → route_size (placeless_route r) asked ≡ route_size r asked
route_same = ind-Route RouteSame (λ x y is asked.
    ap (λ (r : Route). route_size r asked) (opened_placeless_route x) ∙
    subst (λ (z : Route-F Route). route_size (placeless_route_node (map-Route Route Route placeless_route z)) asked
    ≡ route_size_node (map-Route Route Size route_size z) asked) is
    (route_node_same y asked) ∙
    sym (ap (λ (s : Size). s asked) (route_sized_at x)))

-- ---- conditions

abbrev ConditionSame : Condition → Type 0
ConditionSame c = (asked : ℕ) → condition_size (placeless_condition c) asked ≡ condition_size c asked

abbrev KnownCondition : Type 0
KnownCondition = (c : Condition) × ConditionSame c

abbrev conditions : List KnownCondition → List Condition
conditions cs = map (λ (e : KnownCondition). e.0) cs

conditions_same : (asked : ℕ) (cs : List KnownCondition) →
    behind_size asked (map condition_size (map placeless_condition (conditions cs))) ≡ behind_size asked (map condition_size (conditions cs))
conditions_same asked [] = refl
conditions_same asked (c ∷ cs) = let e = c.1 asked in let more = conditions_same asked cs in omega arith

condition_node_same : (y : Condition-F KnownCondition) (asked : ℕ) →
    condition_size
    (placeless_condition_node (map-Condition Condition Condition placeless_condition (map-Condition KnownCondition Condition (λ e. e.0) y)))
    asked ≡
    size_node (map-Condition Condition Size condition_size (map-Condition KnownCondition Condition (λ e. e.0) y)) asked
condition_node_same (Condition-F.True place) asked = size_true nowhere asked
condition_node_same (Condition-F.False place) asked = size_false nowhere asked
condition_node_same (Condition-F.Truth t) asked = size_truth (placeless_term t) asked ∙ term_same t
condition_node_same (Condition-F.Same t place u) asked = omega (arith, size_same (placeless_term t) nowhere (placeless_term u) asked, term_same t, term_same u)
condition_node_same (Condition-F.Differ t place u) asked =
    omega (arith, size_differ (placeless_term t) nowhere (placeless_term u) asked, term_same t, term_same u)
condition_node_same (Condition-F.Is t place variant) asked = omega (arith, size_is (placeless_term t) nowhere (placeless_name variant) asked, term_same t)
condition_node_same (Condition-F.Not place inner) asked = omega (arith, size_not nowhere (placeless_condition inner.0) asked, inner.1 2)
condition_node_same (Condition-F.And first others) asked =
    let e : condition_size (placeless_condition first.0) 2 + behind_size 2 (map condition_size (map placeless_condition (conditions others))) ≡
    condition_size first.0 2 + behind_size 2 (map condition_size (conditions others)) = omega (arith, first.1 2, conditions_same 2 others) in
    size_and (placeless_condition first.0) (map placeless_condition (conditions others)) asked ∙ ap (λ (n : ℕ). grouped_size (nat_lt 1 asked) n) e
condition_node_same (Condition-F.Or first others) asked =
    let e : condition_size (placeless_condition first.0) 1 + behind_size 1 (map condition_size (map placeless_condition (conditions others))) ≡
    condition_size first.0 1 + behind_size 1 (map condition_size (conditions others)) = omega (arith, first.1 1, conditions_same 1 others) in
    size_or (placeless_condition first.0) (map placeless_condition (conditions others)) asked ∙ ap (λ (n : ℕ). grouped_size (nat_lt 0 asked) n) e

opened_placeless_condition : (x : Condition-F Condition) →
    placeless_condition (roll-Condition x) ≡ placeless_condition_node (map-Condition Condition Condition placeless_condition x)
unfolding placeless_condition
opened_placeless_condition x = fold-roll-Condition Condition placeless_condition_node x

pub condition_same : (c : Condition) (asked : ℕ) → condition_size (placeless_condition c) asked ≡ condition_size c asked
condition_same = ind-Condition ConditionSame (λ x y is asked.
    ap (λ (c : Condition). condition_size c asked) (opened_placeless_condition x) ∙
    subst (λ (z : Condition-F Condition). condition_size (placeless_condition_node (map-Condition Condition Condition placeless_condition z)) asked ≡
    size_node (map-Condition Condition Size condition_size z) asked) is (condition_node_same y asked) ∙
    sym (ap (λ (s : Size). s asked) (sized_at x)))
