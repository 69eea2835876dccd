-- What stands in the place of an assertion while predicates are put in: for a predicate's use its body, for any other form the
-- form with the arguments put in, after its parts.
use Rattle.std.specs.Prelude.{ℕ, ◌+◌, List, [], ◌∷◌, ◌++◌, map, slice_get, Option, None, option_map, unwrap_or, reverse}
use Rattle.std.specs.Option.{option_map_or}
use Rattle.store_logic.specs.declared.assertion.Assertion.{Assertion, out-Assertion}
use Rattle.store_logic.specs.declared.assertion.Assertion.TheOpen.{Assertion-F}
use Rattle.store_logic.specs.declared.assertion.Assertion.TheFolds.{fold-Assertion}
use Rattle.store_logic.specs.declared.pred.PredDef.{PredDef}
use Rattle.store_logic.specs.Expansion.{with_bodies}
use Rattle.store_logic.specs.Postfix.{Form, form_of, parts_of, form_count_of_node}
use Rattle.store_expand.specs.Standing.{Standing, in_body, deeper, put_term, put_set, put_truth, put_args, put_whole}

-- an assertion where it stands
abbrev pub Spot : Type 0
Spot = Assertion × Standing

-- with these bodies put in for the predicates, and the arguments put in
abbrev pub expanded_at : List Assertion → Spot → Assertion
expanded_at bodies at = put_whole at.1 (with_bodies bodies at.0)

-- ---- a predicate's use

abbrev pub body_of_node : List PredDef → Standing → Assertion-F Assertion → Option Spot
body_of_node preds w (Assertion-F.Pred k args) = option_map (λ p. (p.body, in_body (put_args w args))) (slice_get preds k)
body_of_node preds w other = None

-- the body of the predicate that is used, where the arguments of the use go in; None where no predicate of the list is used
abbrev pub body_there : List PredDef → Spot → Option Spot
body_there preds at = body_of_node preds at.1 (out-Assertion at.0)

-- ---- any other form

-- where the parts of a form stand
abbrev pub inside : Standing → Assertion-F Assertion → Standing
inside w (Assertion-F.Ex ty a) = deeper w
inside w (Assertion-F.All ty a) = deeper w
inside w (Assertion-F.ExSet ty a) = deeper w
inside w (Assertion-F.AllSet ty a) = deeper w
inside w other = w

-- the parts, each where it stands
abbrev pub parts_there : Spot → List Spot
parts_there at = map (λ part. (part, inside at.1 (out-Assertion at.0))) (parts_of Assertion (out-Assertion at.0))

abbrev pub form_of_node : Standing → Assertion-F Assertion → Form
form_of_node w Assertion-F.True = Assertion-F.True
form_of_node w Assertion-F.False = Assertion-F.False
form_of_node w (Assertion-F.Truth t) = form_of (put_truth w t)
form_of_node w (Assertion-F.Is t v) = Assertion-F.Is (put_term w t) v
form_of_node w (Assertion-F.Same t u) = Assertion-F.Same (put_term w t) (put_term w u)
form_of_node w (Assertion-F.Member t set) = Assertion-F.Member (put_term w t) (put_set w set)
form_of_node w (Assertion-F.Subset set other) = Assertion-F.Subset (put_set w set) (put_set w other)
form_of_node w (Assertion-F.Walk t along u) = Assertion-F.Walk (put_term w t) along (put_term w u)
form_of_node w (Assertion-F.Pred k args) = Assertion-F.Pred k (put_args w args)
form_of_node w (Assertion-F.Not a) = Assertion-F.Not tt
form_of_node w (Assertion-F.And a b) = Assertion-F.And tt tt
form_of_node w (Assertion-F.Or a b) = Assertion-F.Or tt tt
form_of_node w (Assertion-F.Imp a b) = Assertion-F.Imp tt tt
form_of_node w (Assertion-F.Iff a b) = Assertion-F.Iff tt tt
form_of_node w (Assertion-F.Ex ty a) = Assertion-F.Ex ty tt
form_of_node w (Assertion-F.All ty a) = Assertion-F.All ty tt
form_of_node w (Assertion-F.ExSet ty a) = Assertion-F.ExSet ty tt
form_of_node w (Assertion-F.AllSet ty a) = Assertion-F.AllSet ty tt

-- the form with the arguments put in
abbrev pub form_at : Spot → Form
form_at at = form_of_node at.1 (out-Assertion at.0)

-- ---- both

-- what is still to be gone through, and the forms so far, after one step: the body of a use, or the parts and the form
abbrev pub stepped : List PredDef → Spot → List Spot → List Spot → List Spot × List Spot
stepped preds next pending forms =
    option_map_or (λ body. (pending ++ body ∷ [], forms)) (body_there preds next) (pending ++ parts_there next, forms ++ next ∷ [])

-- ---- how many steps there are

abbrev pub steps_of_node : List ℕ → Assertion-F ℕ → ℕ
steps_of_node steps (Assertion-F.Pred k args) = unwrap_or (slice_get steps k) 0 + 1
steps_of_node steps other = form_count_of_node other

-- the forms of the assertion, and for each use the steps of its body
abbrev pub steps_with : List ℕ → Assertion → ℕ
steps_with steps = fold-Assertion ℕ (steps_of_node steps)

-- those of the bodies of the predicates of a list, the last of them first
abbrev pub body_steps : List PredDef → List ℕ
body_steps [] = []
body_steps (p ∷ earlier) = body_steps earlier ++ steps_with (body_steps earlier) p.body ∷ []

-- the steps in which an assertion's predicates are put in
abbrev pub steps : List PredDef → Assertion → ℕ
steps preds = steps_with (body_steps (reverse preds))
