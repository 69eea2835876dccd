-- Sizes of routes, form by form, and what is left of so many nodes behind them.
use Rattle.std.proofs.Common.{◌≡◌, ◌≤◌, ◌+◌, ◌-◌, ℕ, Bool, List, length, map, Option, Some, None, arith, sym, ap, ◌∙◌}
use Rattle.std.specs.Prelude.{SomeIff}
use Rattle.pale_text.specs.declared.place.Pos.{Pos}
use Rattle.pale_syntax.specs.declared.tree.names.Name.{Name}
use Rattle.pale_syntax.specs.declared.tree.route.Route.{Route, roll-Route}
use Rattle.pale_syntax.specs.declared.tree.route.Route.TheVariants.{Down, Up, UpAny, Root, Leaf, IsType, IsVariant, IsBool, Then}
use Rattle.pale_syntax.specs.declared.tree.route.Route.TheVariants.{Or, Star, rolls-Down, rolls-Up, rolls-UpAny, rolls-Root}
use Rattle.pale_syntax.specs.declared.tree.route.Route.TheVariants.{rolls-Leaf, rolls-IsType, rolls-IsVariant, rolls-IsBool}
use Rattle.pale_syntax.specs.declared.tree.route.Route.TheVariants.{rolls-Then, rolls-Or, rolls-Star}
use Rattle.pale_syntax.specs.declared.tree.route.Route.TheOpen.{Route-F}
use Rattle.pale_syntax.specs.declared.tree.route.Route.TheFolds.{map-Route, fold-roll-Route}
use Rattle.pale_tables.specs.Sizes.{size_rules, route_size, others_size}

size_form : (r : Route) (x : Route-F Route) → r ≡ roll-Route x → route_size r ≡ size_rules (map-Route Route ℕ route_size x)
unfolding route_size
size_form r x is = ap route_size is ∙ fold-roll-Route ℕ size_rules x

-- ---- each form

pub size-Down : (f : Name) → route_size (Down f) ≡ 1
size-Down f = size_form _ (Route-F.Down f) (sym (rolls-Down f))

pub size-Up : (f : Name) → route_size (Up f) ≡ 1
size-Up f = size_form _ (Route-F.Up f) (sym (rolls-Up f))

pub size-UpAny : route_size UpAny ≡ 1
size-UpAny = size_form _ Route-F.UpAny (sym rolls-UpAny)

pub size-Root : route_size Root ≡ 1
size-Root = size_form _ Route-F.Root (sym rolls-Root)

pub size-Leaf : route_size Leaf ≡ 1
size-Leaf = size_form _ Route-F.Leaf (sym rolls-Leaf)

pub size-IsType : (ty : Name) → route_size (IsType ty) ≡ 1
size-IsType ty = size_form _ (Route-F.IsType ty) (sym (rolls-IsType ty))

pub size-IsVariant : (ty v : Name) → route_size (IsVariant ty v) ≡ 1
size-IsVariant ty v = size_form _ (Route-F.IsVariant ty v) (sym (rolls-IsVariant ty v))

pub size-IsBool : (f : Name) (truth : Bool) → route_size (IsBool f truth) ≡ 1
size-IsBool f truth = size_form _ (Route-F.IsBool f truth) (sym (rolls-IsBool f truth))

pub size-Then : (first : Route) (others : List Route) → route_size (Then first others) ≡ route_size first + others_size (map route_size others)
size-Then first others = size_form _ (Route-F.Then first others) (sym (rolls-Then first others))

pub size-Or : (first : Route) (others : List Route) → route_size (Or first others) ≡ route_size first + others_size (map route_size others)
size-Or first others = size_form _ (Route-F.Or first others) (sym (rolls-Or first others))

pub size-Star : (round : Route) (stars : List Pos) → route_size (Star round stars) ≡ route_size round + length stars
size-Star round stars = size_form _ (Route-F.Star round stars) (sym (rolls-Star round stars))

-- ---- what is left

-- what is left behind the one part and then behind the other is what is left behind both
pub left-both : (o : Option ℕ) (most left one other whole : ℕ) → whole ≡ one + other → one ≤ most → left ≡ most - one →
    SomeIff o (other ≤ left) (left - other) → SomeIff o (whole ≤ most) (most - whole)
left-both None most left one other whole is fits at none = λ low. none (omega arith)
left-both (Some more) most left one other whole is fits at some = (omega (arith, some.0), some.1 ∙ omega (arith, some.0))

pub ruleset sizes = (
  size-Down,
  size-Up,
  size-UpAny,
  size-Root,
  size-Leaf,
  size-IsType,
  size-IsVariant,
  size-IsBool,
  size-Then,
  size-Or,
  size-Star,
  left-both,
)
