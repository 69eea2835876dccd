-- A walk's parts, run after one another, make its formula.
use Rattle.std.proofs.Common.{◌≡◌, ℕ, suc, ◌+◌, ◌<◌, Bool, List, [], ◌∷◌, ◌++◌, length}
use Rattle.std.proofs.Common.{map, drop, get_or, IsSome, IfOk, Result, Ok, Err, Option, Some, None, option_and_then}
use Rattle.std.proofs.Common.{drop-cons, add-one, rules, sym, ap, ◌∙◌, subst, append_assoc, append-nil}
use Rattle.store_core.specs.declared.kind.FieldKind.{FieldKind}
use Rattle.store_core.specs.declared.kind.Route.{Route, roll-Route}
use Rattle.store_core.specs.declared.kind.Route.TheOpen.{Route-F}
use Rattle.store_core.specs.declared.kind.Route.TheFolds.{ind-Route, map-Route, fold-roll-Route}
use Rattle.store_core.specs.Tables.{TypeEntry}
use Rattle.ws2s_core.specs.declared.formula.Formula.{Formula}
use Rattle.graph_view.specs.Sights.{Sight}
use Rattle.graph_view.specs.Routes.{Naming, Joining, walk_rules, walk_by}
use Rattle.graph_routes.specs.Legs.{Part, Parts, parts_of, parts_of_node, applied, run_on}

module _ (types : List TypeEntry) (sight : Sight) (names : Naming) (followed : FieldKind → Bool) where
  abbrev by : Route-F Joining → Joining
  by = walk_rules types sight names followed

  abbrev walked : Route → Joining
  walked = walk_by types sight names followed

  abbrev Runs : Route → Type 0
  Runs r = (next a b : ℕ) (rest : List Part) (made : List Formula) →
      run_on by (parts_of r next a b ++ rest) made ≡ run_on by rest (walked r next a b ∷ made)

  -- two lists of parts and the whole's part
  two_then : (xs ys : List Part) (whole : Part) (rest : List Part) (made : List Formula) →
      run_on by (((xs ++ ys) ++ whole ∷ []) ++ rest) made ≡ run_on by (xs ++ (ys ++ whole ∷ rest)) made
  two_then xs ys whole rest made =
      ap (λ s. run_on by s made) (append_assoc (xs ++ ys) (whole ∷ []) rest ∙ append_assoc xs ys (whole ∷ rest))

  one_then : (xs : List Part) (whole : Part) (rest : List Part) (made : List Formula) →
      run_on by ((xs ++ whole ∷ []) ++ rest) made ≡ run_on by (xs ++ whole ∷ rest) made
  one_then xs whole rest made = ap (λ s. run_on by s made) (append_assoc xs (whole ∷ []) rest)

  abbrev rolled : Route-F ((r : Route) × Runs r) → Route-F Route
  rolled y = map-Route ((r : Route) × Runs r) Route (λ e. e.0) y

  at : (y : Route-F ((r : Route) × Runs r)) (next a b : ℕ) (rest : List Part) (made : List Formula) →
      run_on by (parts_of (roll-Route (rolled y)) next a b ++ rest) made
      ≡ run_on by (parts_of_node (map-Route Route Parts parts_of (rolled y)) next a b ++ rest) made
  at y next a b rest made = ap (λ (p : Parts). run_on by (p next a b ++ rest) made) (fold-roll-Route Parts parts_of_node (rolled y))

  ends : (y : Route-F ((r : Route) × Runs r)) (next a b : ℕ) (rest : List Part) (made : List Formula) →
      run_on by rest (by (map-Route Route Joining walked (rolled y)) next a b ∷ made)
      ≡ run_on by rest (walked (roll-Route (rolled y)) next a b ∷ made)
  ends y next a b rest made = sym (ap (λ (j : Joining). run_on by rest (j next a b ∷ made)) (fold-roll-Route Joining by (rolled y)))

  makes : (y : Route-F ((r : Route) × Runs r)) → Runs (roll-Route (rolled y))
  makes (Route-F.Down name) next a b rest made = at (Route-F.Down name) next a b rest made ∙ ends (Route-F.Down name) next a b rest made
  makes (Route-F.Up name) next a b rest made = at (Route-F.Up name) next a b rest made ∙ ends (Route-F.Up name) next a b rest made
  makes Route-F.UpAny next a b rest made = at Route-F.UpAny next a b rest made ∙ ends Route-F.UpAny next a b rest made
  makes Route-F.Root next a b rest made = at Route-F.Root next a b rest made ∙ ends Route-F.Root next a b rest made
  makes Route-F.Leaf next a b rest made = at Route-F.Leaf next a b rest made ∙ ends Route-F.Leaf next a b rest made
  makes (Route-F.IsType ty) next a b rest made = at (Route-F.IsType ty) next a b rest made ∙ ends (Route-F.IsType ty) next a b rest made
  makes (Route-F.IsVariant v) next a b rest made = at (Route-F.IsVariant v) next a b rest made ∙ ends (Route-F.IsVariant v) next a b rest made
  makes (Route-F.IsBool name value) next a b rest made =
      at (Route-F.IsBool name value) next a b rest made ∙ ends (Route-F.IsBool name value) next a b rest made
  makes (Route-F.Then u v) next a b rest made =
      let whole : Part = record { form = Route-F.Then tt tt; next = next; from = a; to = b } in
      at (Route-F.Then u v) next a b rest made
      ∙ two_then (parts_of u.0 (suc next) a next) (parts_of v.0 (suc next) next b) whole rest made
      ∙ u.1 (suc next) a next (parts_of v.0 (suc next) next b ++ whole ∷ rest) made
      ∙ v.1 (suc next) next b (whole ∷ rest) (walked u.0 (suc next) a next ∷ made)
      ∙ ends (Route-F.Then u v) next a b rest made
  makes (Route-F.Or u v) next a b rest made =
      let whole : Part = record { form = Route-F.Or tt tt; next = next; from = a; to = b } in
      at (Route-F.Or u v) next a b rest made
      ∙ two_then (parts_of u.0 next a b) (parts_of v.0 next a b) whole rest made
      ∙ u.1 next a b (parts_of v.0 next a b ++ whole ∷ rest) made
      ∙ v.1 next a b (whole ∷ rest) (walked u.0 next a b ∷ made)
      ∙ ends (Route-F.Or u v) next a b rest made
  makes (Route-F.Star u) next a b rest made =
      let whole : Part = record { form = Route-F.Star tt; next = next; from = a; to = b } in
      at (Route-F.Star u) next a b rest made
      ∙ one_then (parts_of u.0 (suc (suc (suc next))) (suc next) (suc (suc next))) whole rest made
      ∙ u.1 (suc (suc (suc next))) (suc next) (suc (suc next)) (whole ∷ rest) made
      ∙ ends (Route-F.Star u) next a b rest made

  -- a route's parts put its formula in the place of theirs
  run_on-parts : (r : Route) → Runs r
  run_on-parts = ind-Route Runs (λ x y e. subst (λ z. Runs (roll-Route z)) e (makes y))

  pub run_on-whole : (r : Route) (next a b : ℕ) → run_on by (parts_of r next a b) [] ≡ Some (walked r next a b ∷ [])
  run_on-whole r next a b = ap (λ s. run_on by s []) (sym (append-nil (parts_of r next a b))) ∙ run_on-parts r next a b [] []

-- a formula in front of those that are made
pub filled : {E : Type 0} (r : Result Formula E) (walk given : Formula) (made : List Formula) → given ≡ walk → IfOk r (λ formula. formula ≡ given) →
    IfOk r (λ formula. Some (walk ∷ made) ≡ Some (formula ∷ made))
filled (Ok formula) walk given made same is = ap (λ f. Some (f ∷ made)) (sym (is ∙ same))
filled (Err e) walk given made same is = tt

-- ---- a loop over what shows parts

-- where a run ends well, its next part has its own parts
some-before : {A B : Type 0} (o : Option A) (k : A → Option B) (b : B) → option_and_then k o ≡ Some b → IsSome o
some-before None k b e = absurd cc
some-before (Some a) k b e = search rules

module _ (by : Route-F Joining → Joining) {X : Type 0} (f : X → Part) (xs : List X) (k : ℕ) (x : X) (is : x ≡ get_or xs k x) (inside : k < length xs) where
  next_part : (made : List Formula) → run_on by (map f (drop k xs)) made ≡ option_and_then (run_on by (map f (drop (suc k) xs))) (applied by (f x) made)
  next_part made = ap (λ ys. run_on by (map f ys) made) (drop-cons xs k x inside)
      ∙ ap (λ y. option_and_then (run_on by (map f (drop (suc k) xs))) (applied by (f y) made)) (sym is)

  pub applied-next : (made end : List Formula) → run_on by (map f (drop k xs)) made ≡ Some end → IsSome (applied by (f x) made)
  applied-next made end runs = some-before (applied by (f x) made) (run_on by (map f (drop (suc k) xs))) end (sym (next_part made) ∙ runs)

  -- and the rest runs on from there
  pub run_on-next : (made after end : List Formula) → run_on by (map f (drop k xs)) made ≡ Some end → applied by (f x) made ≡ Some after →
      run_on by (map f (drop (k + 1) xs)) after ≡ Some end
  run_on-next made after end runs applies =
      let rest : option_and_then (run_on by (map f (drop (suc k) xs))) (Some after) ≡ Some end =
      ap (option_and_then (run_on by (map f (drop (suc k) xs)))) (sym applies) ∙ sym (next_part made) ∙ runs in
      ap (λ n. run_on by (map f (drop n xs)) after) (add-one k) ∙ rest
