-- How many tokens a route has at each place.
use Rattle.std.proofs.Common.{◌≡◌, ℕ, suc, ◌+◌, ◌≤◌, nat_lt, Bool, true, false, List, [], ◌∷◌, ◌++◌, length, map, refl, sym, ap, subst, arith}
use Rattle.pale_text.specs.declared.place.Pos.{Pos}
use Rattle.pale_text.specs.declared.token.Mark.{Mark}
use Rattle.pale_text.specs.declared.token.Mark.TheVariants as mark
use Rattle.pale_text.specs.declared.token.TokenKind.{TokenKind}
use Rattle.pale_text.specs.declared.token.TokenKind.TheVariants as token
use Rattle.pale_syntax.specs.declared.tree.names.Name.{Name}
use Rattle.pale_syntax.specs.declared.tree.route.Route.{Route, roll-Route, out-roll-Route}
use Rattle.pale_syntax.specs.declared.tree.route.Route.TheVariants as route
use Rattle.pale_syntax.specs.declared.tree.route.Route.TheOpen.{Route-F}
use Rattle.pale_syntax.specs.declared.tree.route.Route.TheFolds.{fold-Route, fold-roll-Route, ind-Route, map-Route}
use denote.Hole.Carrier.{roll}
use Rattle.pale_syntax.specs.MakingRoutes.{then_by, or_by, star_by, joined_then, joined_or, starred}
use Rattle.pale_print.specs.Tokens.{Tokens, each_behind}
use Rattle.pale_print.specs.RouteTokens.{Placed, grouped, stars, bool_test, route_node, route_tokens}
use Rattle.pale_print_laws.specs.CanonicalRoutes.{is_then_node, is_or_node, is_star_node}
use Rattle.pale_print_laws.proofs.RouteShapes.{opened_route}

-- how many tokens there are at a place that asks how tightly they bind
abbrev pub Size : Type 0
Size = ℕ → ℕ

-- two more in parentheses
abbrev pub grouped_size : Bool → ℕ → ℕ
grouped_size true n = suc (suc n)
grouped_size false n = n

-- the operands of a chain but the first, each behind its operator
abbrev pub behind_size : ℕ → List Size → ℕ
behind_size asked [] = 0
behind_size asked (one ∷ others) = suc (one asked + behind_size asked others)

abbrev pub size_node : Route-F Size → Size
size_node (Route-F.Down f) asked = 1
size_node (Route-F.Up f) asked = 2
size_node Route-F.UpAny asked = 1
size_node Route-F.Root asked = 1
size_node Route-F.Leaf asked = 1
size_node (Route-F.IsType ty) asked = 2
size_node (Route-F.IsVariant ty variant) asked = 4
size_node (Route-F.IsBool f value) asked = 2
size_node (Route-F.Then first others) asked = grouped_size (nat_lt 1 asked) (first 2 + behind_size 2 others)
size_node (Route-F.Or first others) asked = grouped_size (nat_lt 0 asked) (first 1 + behind_size 1 others)
size_node (Route-F.Star inner places) asked = grouped_size (nat_lt 2 asked) (inner 3 + length places)

unfoldable pub route_size : Route → Size
route_size = fold-Route Size size_node

pub sized_at : (x : Route-F Route) → route_size (roll-Route x) ≡ size_node (map-Route Route Size route_size x)
unfolding route_size
sized_at x = fold-roll-Route Size size_node x

-- ---- the tokens are so many

-- tokens that are so many
pub record Takes (tokens : Tokens) (n : ℕ) : Type 0 where
  pub takes : (after : List TokenKind) → length (tokens after) ≡ n + length after

pub grouped_takes : (needed : Bool) (tokens : Tokens) (n : ℕ) → Takes tokens n → Takes (grouped needed tokens) (grouped_size needed n)
grouped_takes true tokens n t = record { takes = λ after. let e = t.takes (token.Mark mark.RightParen ∷ after) in omega arith }
grouped_takes false tokens n t = t

abbrev Sized : Route → Type 0
Sized r = (asked : ℕ) → Takes (route_tokens r asked) (route_size r asked)

abbrev Known : Type 0
Known = (r : Route) × Sized r

behind_takes : (m : Mark) (asked : ℕ) (others : List Known) (after : List TokenKind) →
    length (each_behind m (λ (other : Placed). other asked) (map route_tokens (map (λ (e : Known). e.0) others)) after) ≡
    behind_size asked (map route_size (map (λ (e : Known). e.0) others)) + length after
behind_takes m asked [] after = omega arith
behind_takes m asked (one ∷ others) after =
    let e = (one.1 asked).takes (each_behind m (λ (other : Placed). other asked) (map route_tokens (map (λ (e : Known). e.0) others)) after) in
    let more = behind_takes m asked others after in
    omega arith

stars_take : (places : List Pos) (after : List TokenKind) → length (stars places after) ≡ length places + length after
stars_take [] after = omega arith
stars_take (place ∷ places) after = let e = stars_take places after in omega arith

test_takes : (value : Bool) (after : List TokenKind) → length (bool_test value after) ≡ suc (length after)
test_takes true after = refl
test_takes false after = refl

node_takes : (y : Route-F Known) (asked : ℕ) →
    Takes (route_node (map-Route Route Placed route_tokens (map-Route Known Route (λ e. e.0) y)) asked)
    (size_node (map-Route Route Size route_size (map-Route Known Route (λ e. e.0) y)) asked)
node_takes (Route-F.Down f) asked = record { takes = λ after. omega arith }
node_takes (Route-F.Up f) asked = record { takes = λ after. omega arith }
node_takes Route-F.UpAny asked = record { takes = λ after. omega arith }
node_takes Route-F.Root asked = record { takes = λ after. omega arith }
node_takes Route-F.Leaf asked = record { takes = λ after. omega arith }
node_takes (Route-F.IsType ty) asked = record { takes = λ after. omega arith }
node_takes (Route-F.IsVariant ty variant) asked = record { takes = λ after. omega arith }
node_takes (Route-F.IsBool f value) asked = record { takes = λ after. let e = test_takes value (token.Name f.bytes ∷ after) in omega arith }
node_takes (Route-F.Then first others) asked =
    grouped_takes (nat_lt 1 asked) _ _ (record {
      takes = λ after.
          let e = (first.1 2).takes (each_behind mark.Dot (λ (other : Placed). other 2) (map route_tokens (map (λ (e : Known). e.0) others)) after) in
          let more = behind_takes mark.Dot 2 others after in
          omega arith;
    })
node_takes (Route-F.Or first others) asked =
    grouped_takes (nat_lt 0 asked) _ _ (record {
      takes = λ after.
          let e = (first.1 1).takes (each_behind mark.Plus (λ (other : Placed). other 1) (map route_tokens (map (λ (e : Known). e.0) others)) after) in
          let more = behind_takes mark.Plus 1 others after in
          omega arith;
    })
node_takes (Route-F.Star inner places) asked =
    grouped_takes (nat_lt 2 asked) _ _ (record {
      takes = λ after.
          let e = (inner.1 3).takes (stars places after) in
          let more = stars_take places after in
          omega arith;
    })

tokens_at : (x : Route-F Route) → route_tokens (roll-Route x) ≡ route_node (map-Route Route Placed route_tokens x)
unfolding route_tokens
tokens_at x = fold-roll-Route Placed route_node x

pub route_takes : (r : Route) (asked : ℕ) → Takes (route_tokens r asked) (route_size r asked)
route_takes = ind-Route Sized (λ x y is asked.
    subst (λ (t : Placed). Takes (t asked) (route_size (roll-Route x) asked)) (sym (tokens_at x))
    (subst (λ (s : Size). Takes (route_node (map-Route Route Placed route_tokens x) asked) (s asked)) (sym (sized_at x))
    (subst (λ (z : Route-F Route). Takes (route_node (map-Route Route Placed route_tokens z) asked)
    (size_node (map-Route Route Size route_size z) asked)) is (node_takes y asked))))

-- ---- at other places

-- at a tighter place there are at least as many, but two more at most
pub record Rises (s : Size) : Type 0 where
  pub to_one : s 0 ≤ s 1
  pub to_two : s 1 ≤ s 2
  pub to_three : s 2 ≤ s 3
  pub at_most : s 3 ≤ suc (suc (s 0))

node_rises : (y : Route-F Size) → Rises (size_node y)
node_rises (Route-F.Then first others) = record { to_one = omega arith; to_two = omega arith; to_three = omega arith; at_most = omega arith }
node_rises (Route-F.Or first others) = record { to_one = omega arith; to_two = omega arith; to_three = omega arith; at_most = omega arith }
node_rises (Route-F.Star inner places) = record { to_one = omega arith; to_two = omega arith; to_three = omega arith; at_most = omega arith }
node_rises _ = record { to_one = omega arith; to_two = omega arith; to_three = omega arith; at_most = omega arith }

pub route_rises : (r : Route) → Rises (route_size r)
route_rises = opened_route (λ r. Rises (route_size r)) (λ x. subst Rises (sym (sized_at x)) (node_rises (map-Route Route Size route_size x)))

-- ---- chains

behind_last : (asked : ℕ) (rs : List Route) (r : Route) →
    behind_size asked (map route_size (rs ++ r ∷ [])) ≡ behind_size asked (map route_size rs) + suc (route_size r asked)
behind_last asked [] r = omega arith
behind_last asked (one ∷ rs) r = let e = behind_last asked rs r in omega arith

pub size_or : (first : Route) (others : List Route) (asked : ℕ) →
    route_size (route.Or first others) asked ≡ grouped_size (nat_lt 0 asked) (route_size first 1 + behind_size 1 (map route_size others))
unfolding roll-Route roll
size_or first others asked = ap (λ (s : Size). s asked) (sized_at (Route-F.Or first others))

pub size_then : (first : Route) (others : List Route) (asked : ℕ) →
    route_size (route.Then first others) asked ≡ grouped_size (nat_lt 1 asked) (route_size first 2 + behind_size 2 (map route_size others))
unfolding roll-Route roll
size_then first others asked = ap (λ (s : Size). s asked) (sized_at (Route-F.Then first others))

pub size_star : (inner : Route) (places : List Pos) (asked : ℕ) →
    route_size (route.Star inner places) asked ≡ grouped_size (nat_lt 2 asked) (route_size inner 3 + length places)
unfolding roll-Route roll
size_star inner places asked = ap (λ (s : Size). s asked) (sized_at (Route-F.Star inner places))

no_or_node : (x : Route-F Route) → is_or_node x ≡ false → size_node (map-Route Route Size route_size x) 1 ≤ size_node (map-Route Route Size route_size x) 0
no_or_node (Route-F.Or first others) is = absurd (cc is)
no_or_node _ is = omega arith

no_then_node : (x : Route-F Route) → is_then_node x ≡ false → size_node (map-Route Route Size route_size x) 2 ≤ size_node (map-Route Route Size route_size x) 1
no_then_node (Route-F.Then first others) is = absurd (cc is)
no_then_node (Route-F.Or first others) is = omega arith
no_then_node _ is = omega arith

no_star_node : (x : Route-F Route) → is_star_node x ≡ false → size_node (map-Route Route Size route_size x) 3 ≤ size_node (map-Route Route Size route_size x) 2
no_star_node (Route-F.Star inner places) is = absurd (cc is)
no_star_node _ is = omega arith

begun_or : (x : Route-F Route) (other : Route) → is_or_node x ≡ false →
    route_size (route.Or (roll-Route x) (other ∷ [])) 0 ≤ route_size (roll-Route x) 0 + suc (route_size other 1)
begun_or x other is =
    let e = size_or (roll-Route x) (other ∷ []) 0 in
    let l : route_size (roll-Route x) 1 ≤ route_size (roll-Route x) 0 = subst (λ (s : Size). s 1 ≤ s 0) (sym (sized_at x)) (no_or_node x is) in
    omega arith

or_by_size : (x : Route-F Route) (other : Route) → route_size (or_by x (roll-Route x) other) 0 ≤ route_size (roll-Route x) 0 + suc (route_size other 1)
unfolding roll-Route roll
or_by_size (Route-F.Or first others) other =
    let e = size_or first others 0 in
    let f = size_or first (others ++ other ∷ []) 0 in
    let l = behind_last 1 others other in
    omega arith
or_by_size x other = begun_or x other refl

pub joined_or_size : (r other : Route) → route_size (joined_or r other) 0 ≤ route_size r 0 + suc (route_size other 1)
joined_or_size = opened_route (λ r. (other : Route) → route_size (joined_or r other) 0 ≤ route_size r 0 + suc (route_size other 1)) (λ x other.
    subst
    (λ (n : Route-F Route). route_size (or_by n (roll-Route x) other) 0 ≤ route_size (roll-Route x) 0 + suc (route_size other 1))
    (sym (out-roll-Route x)) (or_by_size x other))

begun_then : (x : Route-F Route) (other : Route) → is_then_node x ≡ false →
    route_size (route.Then (roll-Route x) (other ∷ [])) 1 ≤ route_size (roll-Route x) 1 + suc (route_size other 2)
begun_then x other is =
    let e = size_then (roll-Route x) (other ∷ []) 1 in
    let l : route_size (roll-Route x) 2 ≤ route_size (roll-Route x) 1 = subst (λ (s : Size). s 2 ≤ s 1) (sym (sized_at x)) (no_then_node x is) in
    omega arith

then_by_size : (x : Route-F Route) (other : Route) → route_size (then_by x (roll-Route x) other) 1 ≤ route_size (roll-Route x) 1 + suc (route_size other 2)
unfolding roll-Route roll
then_by_size (Route-F.Then first others) other =
    let e = size_then first others 1 in
    let f = size_then first (others ++ other ∷ []) 1 in
    let l = behind_last 2 others other in
    omega arith
then_by_size x other = begun_then x other refl

pub joined_then_size : (r other : Route) → route_size (joined_then r other) 1 ≤ route_size r 1 + suc (route_size other 2)
joined_then_size = opened_route (λ r. (other : Route) → route_size (joined_then r other) 1 ≤ route_size r 1 + suc (route_size other 2)) (λ x other.
    subst
    (λ (n : Route-F Route). route_size (then_by n (roll-Route x) other) 1 ≤ route_size (roll-Route x) 1 + suc (route_size other 2))
    (sym (out-roll-Route x)) (then_by_size x other))

places_last : (places : List Pos) (at : Pos) → length (places ++ at ∷ []) ≡ suc (length places)
places_last [] at = refl
places_last (place ∷ places) at = ap suc (places_last places at)

begun_star : (x : Route-F Route) (at : Pos) → is_star_node x ≡ false → route_size (route.Star (roll-Route x) (at ∷ [])) 2 ≤ suc (route_size (roll-Route x) 2)
begun_star x at is =
    let e = size_star (roll-Route x) (at ∷ []) 2 in
    let l : route_size (roll-Route x) 3 ≤ route_size (roll-Route x) 2 = subst (λ (s : Size). s 3 ≤ s 2) (sym (sized_at x)) (no_star_node x is) in
    omega arith

star_by_size : (x : Route-F Route) (at : Pos) → route_size (star_by x (roll-Route x) at) 2 ≤ suc (route_size (roll-Route x) 2)
unfolding roll-Route roll
star_by_size (Route-F.Star inner places) at =
    let e = size_star inner places 2 in
    let f = size_star inner (places ++ at ∷ []) 2 in
    let l = places_last places at in
    omega arith
star_by_size x at = begun_star x at refl

pub starred_size : (r : Route) (at : Pos) → route_size (starred r at) 2 ≤ suc (route_size r 2)
starred_size = opened_route (λ r. (at : Pos) → route_size (starred r at) 2 ≤ suc (route_size r 2)) (λ x at.
    subst (λ (n : Route-F Route). route_size (star_by n (roll-Route x) at) 2 ≤ suc (route_size (roll-Route x) 2)) (sym (out-roll-Route x)) (star_by_size x at))

-- ---- steps

pub size_down : (f : Name) (asked : ℕ) → route_size (route.Down f) asked ≡ 1
unfolding roll-Route roll
size_down f asked = ap (λ (s : Size). s asked) (sized_at (Route-F.Down f))

pub size_up : (f : Name) (asked : ℕ) → route_size (route.Up f) asked ≡ 2
unfolding roll-Route roll
size_up f asked = ap (λ (s : Size). s asked) (sized_at (Route-F.Up f))

pub size_up_any : (asked : ℕ) → route_size route.UpAny asked ≡ 1
unfolding roll-Route roll
size_up_any asked = ap (λ (s : Size). s asked) (sized_at Route-F.UpAny)

pub size_root : (asked : ℕ) → route_size route.Root asked ≡ 1
unfolding roll-Route roll
size_root asked = ap (λ (s : Size). s asked) (sized_at Route-F.Root)

pub size_leaf : (asked : ℕ) → route_size route.Leaf asked ≡ 1
unfolding roll-Route roll
size_leaf asked = ap (λ (s : Size). s asked) (sized_at Route-F.Leaf)

pub size_is_type : (ty : Name) (asked : ℕ) → route_size (route.IsType ty) asked ≡ 2
unfolding roll-Route roll
size_is_type ty asked = ap (λ (s : Size). s asked) (sized_at (Route-F.IsType ty))

pub size_is_variant : (ty variant : Name) (asked : ℕ) → route_size (route.IsVariant ty variant) asked ≡ 4
unfolding roll-Route roll
size_is_variant ty variant asked = ap (λ (s : Size). s asked) (sized_at (Route-F.IsVariant ty variant))

pub size_is_bool : (f : Name) (value : Bool) (asked : ℕ) → route_size (route.IsBool f value) asked ≡ 2
unfolding roll-Route roll
size_is_bool f value asked = ap (λ (s : Size). s asked) (sized_at (Route-F.IsBool f value))
