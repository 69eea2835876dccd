-- A walk's parts in postfix order, each after its own parts, with the tracks that each joins and may bind. (Reverse Polish
-- notation.)
use Rattle.std.specs.Prelude.{ℕ, suc, List, [], ◌∷◌, ◌++◌, Option, Some, None, option_map}
use Rattle.std.specs.Option.{option_and_then}
use Rattle.store_core.specs.declared.kind.Route.{Route}
use Rattle.store_core.specs.declared.kind.Route.TheOpen.{Route-F}
use Rattle.store_core.specs.declared.kind.Route.TheFolds.{fold-Route}
use Rattle.store_core.specs.Postfix.{Form, form_of, without_parts, form_count}
use Rattle.ws2s_core.specs.declared.formula.Formula.{Formula}
use Rattle.graph_view.specs.Routes.{Joining}
use Rattle.graph_cells.specs.Given.{given}
use Rattle.graph_routes.specs.declared.legs.Leg.{Leg}

-- a form of a route, the first track that it may bind, and the tracks that it joins
pub record Part : Type 0 where
  pub form : Form
  pub next : ℕ
  pub from : ℕ
  pub to : ℕ

-- the parts of a route, by these tracks
abbrev pub Parts : Type 0
Parts = ℕ → ℕ → ℕ → List Part

-- those of its own parts, from the left
abbrev pub inner_parts : Route-F Parts → Parts
inner_parts (Route-F.Down name) next a b = []
inner_parts (Route-F.Up name) next a b = []
inner_parts Route-F.UpAny next a b = []
inner_parts Route-F.Root next a b = []
inner_parts Route-F.Leaf next a b = []
inner_parts (Route-F.IsType ty) next a b = []
inner_parts (Route-F.IsVariant v) next a b = []
inner_parts (Route-F.IsBool name value) next a b = []
inner_parts (Route-F.Then first second) next a b = first (suc next) a next ++ second (suc next) next b
inner_parts (Route-F.Or one other) next a b = one next a b ++ other next a b
inner_parts (Route-F.Star round) next a b = round (suc (suc (suc next))) (suc next) (suc (suc next))

abbrev pub parts_of_node : Route-F Parts → Parts
parts_of_node node next a b = inner_parts node next a b ++ record { form = without_parts Parts node; next = next; from = a; to = b } ∷ []

-- the parts of a route, and last itself
abbrev pub parts_of : Route → Parts
parts_of = fold-Route Parts parts_of_node

-- ---- legs

-- a route by tracks
pub record Span : Type 0 where
  pub route : Route
  pub next : ℕ
  pub from : ℕ
  pub to : ℕ

abbrev pub span_of : Leg → Span
span_of leg = record { route = leg.route.now; next = leg.next; from = leg.from; to = leg.to }

-- the parts of the route, by their tracks
abbrev pub spans_in : Route-F Route → ℕ → ℕ → ℕ → List Span
spans_in (Route-F.Down name) next a b = []
spans_in (Route-F.Up name) next a b = []
spans_in Route-F.UpAny next a b = []
spans_in Route-F.Root next a b = []
spans_in Route-F.Leaf next a b = []
spans_in (Route-F.IsType ty) next a b = []
spans_in (Route-F.IsVariant v) next a b = []
spans_in (Route-F.IsBool name value) next a b = []
spans_in (Route-F.Then first second) next a b =
    record { route = first; next = suc next; from = a; to = next } ∷ record { route = second; next = suc next; from = next; to = b } ∷ []
spans_in (Route-F.Or one other) next a b =
    record { route = one; next = next; from = a; to = b } ∷ record { route = other; next = next; from = a; to = b } ∷ []
spans_in (Route-F.Star round) next a b = record { route = round; next = suc (suc (suc next)); from = suc next; to = suc (suc next) } ∷ []

abbrev pub span_parts : Span → List Part
span_parts span = parts_of span.route span.next span.from span.to

-- how many forms the route is made of
abbrev pub span_count : Span → ℕ
span_count span = form_count span.route

-- the form of the route, by its tracks
abbrev pub part_of : Leg → Part
part_of leg = record { form = form_of leg.route.now; next = leg.next; from = leg.from; to = leg.to }

-- ---- the formulas of parts

-- the form with the last formulas as its parts, and the formulas before them; the last one comes first
abbrev pub taken : Form → List Formula → Option (Route-F Joining × List Formula)
taken (Route-F.Down name) made = Some (Route-F.Down name, made)
taken (Route-F.Up name) made = Some (Route-F.Up name, made)
taken Route-F.UpAny made = Some (Route-F.UpAny, made)
taken Route-F.Root made = Some (Route-F.Root, made)
taken Route-F.Leaf made = Some (Route-F.Leaf, made)
taken (Route-F.IsType ty) made = Some (Route-F.IsType ty, made)
taken (Route-F.IsVariant v) made = Some (Route-F.IsVariant v, made)
taken (Route-F.IsBool name value) made = Some (Route-F.IsBool name value, made)
taken (Route-F.Then first second) (g ∷ f ∷ made) = Some (Route-F.Then (given f) (given g), made)
taken (Route-F.Then first second) (g ∷ []) = None
taken (Route-F.Then first second) [] = None
taken (Route-F.Or one other) (g ∷ f ∷ made) = Some (Route-F.Or (given f) (given g), made)
taken (Route-F.Or one other) (g ∷ []) = None
taken (Route-F.Or one other) [] = None
taken (Route-F.Star round) (f ∷ made) = Some (Route-F.Star (given f), made)
taken (Route-F.Star round) [] = None

-- the formulas after a part took its own ones and its formula, by the rules, came in their place
abbrev pub applied : (Route-F Joining → Joining) → Part → List Formula → Option (List Formula)
applied rules part made = option_map (λ found. rules found.0 part.next part.from part.to ∷ found.1) (taken part.form made)

-- the formulas after all parts
abbrev pub run_on : (Route-F Joining → Joining) → List Part → List Formula → Option (List Formula)
run_on rules [] made = Some made
run_on rules (part ∷ parts) made = option_and_then (λ after. run_on rules parts after) (applied rules part made)
