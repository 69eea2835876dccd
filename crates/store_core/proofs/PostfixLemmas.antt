-- On routes in postfix order.
use Rattle.std.proofs.Common.{◌≡◌, ℕ, ◌+◌, ◌<◌, List, [], ◌∷◌, ◌++◌, length, map, drop, get_or, IsSome, Option, Some, None, option_and_then}
use Rattle.std.proofs.Common.{drop-cons, add-one, rules, suc, sym, ap, ◌∙◌, subst, append_assoc, append-nil}
use Rattle.store_core.specs.declared.kind.Route.{Route, roll-Route}
use Rattle.store_core.specs.declared.kind.Route.TheOpen.{Route-F}
use Rattle.store_core.specs.declared.kind.Route.TheFolds.{ind-Route, map-Route, fold-roll-Route}
use Rattle.store_core.specs.Postfix.{Form, postfix_of, postfix_of_node, applied, run_on}

-- ---- runs

abbrev Runs : Route → Type 0
Runs r = (rest : List Form) (routes : List Route) → run_on (postfix_of r ++ rest) routes ≡ run_on rest (r ∷ routes)

-- the forms of a route of two parts, run after one another
run_both : (u v : Route) (form : Form) (rest : List Form) (routes : List Route) → Runs u → Runs v →
    run_on (((postfix_of u ++ (postfix_of v ++ [])) ++ form ∷ []) ++ rest) routes ≡ run_on (form ∷ rest) (v ∷ u ∷ routes)
run_both u v form rest routes of_u of_v =
    ap (λ s. run_on (((postfix_of u ++ s) ++ form ∷ []) ++ rest) routes) (append-nil (postfix_of v))
    ∙ ap (λ s. run_on s routes) (append_assoc (postfix_of u ++ postfix_of v) (form ∷ []) rest
    ∙ append_assoc (postfix_of u) (postfix_of v) (form ∷ rest))
    ∙ of_u (postfix_of v ++ form ∷ rest) routes
    ∙ of_v (form ∷ rest) (u ∷ routes)

run_one : (u : Route) (form : Form) (rest : List Form) (routes : List Route) → Runs u →
    run_on (((postfix_of u ++ []) ++ form ∷ []) ++ rest) routes ≡ run_on (form ∷ rest) (u ∷ routes)
run_one u form rest routes of_u =
    ap (λ s. run_on ((s ++ form ∷ []) ++ rest) routes) (append-nil (postfix_of u))
    ∙ ap (λ s. run_on s routes) (append_assoc (postfix_of u) (form ∷ []) rest)
    ∙ of_u (form ∷ rest) routes

module _ where
  abbrev rolled : Route-F ((r : Route) × Runs r) → Route-F Route
  rolled y = map-Route ((r : Route) × Runs r) Route (λ e. e.0) y

  at : (y : Route-F ((r : Route) × Runs r)) (rest : List Form) (routes : List Route) →
      run_on (postfix_of (roll-Route (rolled y)) ++ rest) routes
      ≡ run_on (postfix_of_node (map-Route Route (List Form) postfix_of (rolled y)) ++ rest) routes
  at y rest routes = ap (λ s. run_on (s ++ rest) routes) (fold-roll-Route (List Form) postfix_of_node (rolled y))

  made : (y : Route-F ((r : Route) × Runs r)) → Runs (roll-Route (rolled y))
  made (Route-F.Down name) rest routes = at (Route-F.Down name) rest routes
  made (Route-F.Up name) rest routes = at (Route-F.Up name) rest routes
  made Route-F.UpAny rest routes = at Route-F.UpAny rest routes
  made Route-F.Root rest routes = at Route-F.Root rest routes
  made Route-F.Leaf rest routes = at Route-F.Leaf rest routes
  made (Route-F.IsType ty) rest routes = at (Route-F.IsType ty) rest routes
  made (Route-F.IsVariant v) rest routes = at (Route-F.IsVariant v) rest routes
  made (Route-F.IsBool name value) rest routes = at (Route-F.IsBool name value) rest routes
  made (Route-F.Then u v) rest routes = at (Route-F.Then u v) rest routes ∙ run_both u.0 v.0 (Route-F.Then tt tt) rest routes u.1 v.1
  made (Route-F.Or u v) rest routes = at (Route-F.Or u v) rest routes ∙ run_both u.0 v.0 (Route-F.Or tt tt) rest routes u.1 v.1
  made (Route-F.Star u) rest routes = at (Route-F.Star u) rest routes ∙ run_one u.0 (Route-F.Star tt) rest routes u.1

-- a route's forms put the route in the place of its parts
pub run_on-postfix : (r : Route) → Runs r
run_on-postfix = ind-Route Runs (λ x y e. subst (λ z. Runs (roll-Route z)) e (made y))

pub run_on-whole : (r : Route) → run_on (postfix_of r) [] ≡ Some (r ∷ [])
run_on-whole r = ap (λ s. run_on s []) (sym (append-nil (postfix_of r))) ∙ run_on-postfix r [] []

-- ---- a walk over things that show forms

-- where a run ends well, its next form has its parts
some-before : {A B : Type 0} (o : Option A) (k : A → Option B) (b : B) → option_and_then k o ≡ Some b → IsSome o
some-before None k b e = absurd cc
some-before (Some a) k b e = search rules

module _ {X : Type 0} (f : X → Form) (xs : List X) (k : ℕ) (x : X) (is : x ≡ get_or xs k x) (inside : k < length xs) where
  next_form : (routes : List Route) → run_on (map f (drop k xs)) routes ≡ option_and_then (run_on (map f (drop (suc k) xs))) (applied (f x) routes)
  next_form routes = ap (λ ys. run_on (map f ys) routes) (drop-cons xs k x inside)
      ∙ ap (λ y. option_and_then (run_on (map f (drop (suc k) xs))) (applied (f y) routes)) (sym is)

  pub applied-next : (routes end : List Route) → run_on (map f (drop k xs)) routes ≡ Some end → IsSome (applied (f x) routes)
  applied-next routes end runs = some-before (applied (f x) routes) (run_on (map f (drop (suc k) xs))) end (sym (next_form routes) ∙ runs)

  -- and the rest runs on from there
  pub run_on-next : (routes after end : List Route) → run_on (map f (drop k xs)) routes ≡ Some end → applied (f x) routes ≡ Some after →
      run_on (map f (drop (k + 1) xs)) after ≡ Some end
  run_on-next routes after end runs applies =
      let rest : option_and_then (run_on (map f (drop (suc k) xs))) (Some after) ≡ Some end =
      ap (option_and_then (run_on (map f (drop (suc k) xs)))) (sym applies) ∙ sym (next_form routes) ∙ runs in
      ap (λ n. run_on (map f (drop n xs)) after) (add-one k) ∙ rest
