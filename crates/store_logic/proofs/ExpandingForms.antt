-- What is filled, expanded, named and used in an assertion, form by form.
use Rattle.std.proofs.Common.{◌≡◌, ℕ, suc, ◌+◌, ◌*◌, List, [], ◌∷◌, ◌++◌, map, flat_map, slice_get, ap, ◌∙◌}
use Rattle.std.specs.Option.{option_map_or}
use Rattle.store_core.specs.declared.ids.TypeId.{TypeId}
use Rattle.store_core.specs.declared.ids.VariantId.{VariantId}
use Rattle.store_core.specs.declared.kind.Route.{Route}
use Rattle.store_logic.specs.declared.term.Base.{Base}
use Rattle.store_logic.specs.declared.term.Term.{Term}
use Rattle.store_logic.specs.declared.arg.Arg.{Arg}
use Rattle.store_logic.specs.declared.assertion.Assertion.{Assertion}
use Rattle.store_logic.specs.declared.assertion.Assertion.TheVariants as assertion
use Rattle.store_logic.specs.declared.assertion.Assertion.TheVariants.{rolls-True, rolls-False, rolls-Truth, rolls-Is, rolls-Same, rolls-Member, rolls-Subset}
use Rattle.store_logic.specs.declared.assertion.Assertion.TheVariants.{rolls-Walk, rolls-Not, rolls-And, rolls-Or, rolls-Imp, rolls-Iff}
use Rattle.store_logic.specs.declared.assertion.Assertion.TheVariants.{rolls-Ex, rolls-All, rolls-ExSet, rolls-AllSet}
use Rattle.store_logic.specs.declared.assertion.Assertion.TheFolds.{fold-Assertion}
use Rattle.store_logic.proofs.AssertionLemmas.{fold-True, fold-False, fold-Truth, fold-Is, fold-Same, fold-Member, fold-Subset, fold-Walk, fold-Pred}
use Rattle.store_logic.proofs.AssertionLemmas.{fold-Not, fold-And, fold-Or, fold-Imp, fold-Iff, fold-Ex, fold-All, fold-ExSet, fold-AllSet}
use Rattle.store_core.specs.declared.value.Class.TheVariants as class
use Rattle.store_logic.specs.Filling.{Filling, filled_term, filled_truth, filled_set, filled_arg, filled_node, filled, put_in}
use Rattle.store_logic.specs.Expansion.{expanded_node, with_bodies}
use Rattle.store_logic.specs.Sizes.{count_of_node, node_count}
use Rattle.store_logic.specs.Uses.{NameUse, term_names, set_name, arg_names, names_of_node, uses_of_node, uses_in}

-- the names in an assertion that stands under so many quantifiers
abbrev pub names_at : Assertion → ℕ → List NameUse
names_at = fold-Assertion (ℕ → List NameUse) names_of_node

-- ---- filled

module _ (put : Base → Filling) where
  pub filled-True : (d : ℕ) → filled put assertion.True d ≡ assertion.True
  filled-True d = ap (λ f. f d) (fold-True (ℕ → Assertion) (filled_node put))

  pub filled-False : (d : ℕ) → filled put assertion.False d ≡ assertion.False
  filled-False d = ap (λ f. f d) (fold-False (ℕ → Assertion) (filled_node put))

  pub filled-Truth : (t : Term) (d : ℕ) → filled put (assertion.Truth t) d ≡ filled_truth put d t
  filled-Truth t d = ap (λ f. f d) (fold-Truth (ℕ → Assertion) (filled_node put) t)

  pub filled-Is : (t : Term) (v : VariantId) (d : ℕ) → filled put (assertion.Is t v) d ≡ assertion.Is (filled_term put d t) v
  filled-Is t v d = ap (λ f. f d) (fold-Is (ℕ → Assertion) (filled_node put) t v)

  pub filled-Same : (t : Term) (u : Term) (d : ℕ) → filled put (assertion.Same t u) d ≡ assertion.Same (filled_term put d t) (filled_term put d u)
  filled-Same t u d = ap (λ f. f d) (fold-Same (ℕ → Assertion) (filled_node put) t u)

  pub filled-Member : (t : Term) (set : Base) (d : ℕ) → filled put (assertion.Member t set) d ≡ assertion.Member (filled_term put d t) (filled_set put d set)
  filled-Member t set d = ap (λ f. f d) (fold-Member (ℕ → Assertion) (filled_node put) t set)

  pub filled-Subset : (set : Base) (other : Base) (d : ℕ) → filled put (assertion.Subset set other) d
      ≡ assertion.Subset (filled_set put d set) (filled_set put d other)
  filled-Subset set other d = ap (λ f. f d) (fold-Subset (ℕ → Assertion) (filled_node put) set other)

  pub filled-Walk : (t : Term) (along : Route) (u : Term) (d : ℕ) → filled put (assertion.Walk t along u) d
      ≡ assertion.Walk (filled_term put d t) along (filled_term put d u)
  filled-Walk t along u d = ap (λ f. f d) (fold-Walk (ℕ → Assertion) (filled_node put) t along u)

  pub filled-Pred : (k : ℕ) (args : List Arg) (d : ℕ) → filled put (assertion.Pred k args) d ≡ assertion.Pred k (map (filled_arg put d) args)
  filled-Pred k args d = ap (λ f. f d) (fold-Pred (ℕ → Assertion) (filled_node put) k args)

  pub filled-Not : (a : Assertion) (d : ℕ) → filled put (assertion.Not a) d ≡ assertion.Not (filled put a d)
  filled-Not a d = ap (λ f. f d) (fold-Not (ℕ → Assertion) (filled_node put) a)

  pub filled-And : (a : Assertion) (b : Assertion) (d : ℕ) → filled put (assertion.And a b) d ≡ assertion.And (filled put a d) (filled put b d)
  filled-And a b d = ap (λ f. f d) (fold-And (ℕ → Assertion) (filled_node put) a b)

  pub filled-Or : (a : Assertion) (b : Assertion) (d : ℕ) → filled put (assertion.Or a b) d ≡ assertion.Or (filled put a d) (filled put b d)
  filled-Or a b d = ap (λ f. f d) (fold-Or (ℕ → Assertion) (filled_node put) a b)

  pub filled-Imp : (a : Assertion) (b : Assertion) (d : ℕ) → filled put (assertion.Imp a b) d ≡ assertion.Imp (filled put a d) (filled put b d)
  filled-Imp a b d = ap (λ f. f d) (fold-Imp (ℕ → Assertion) (filled_node put) a b)

  pub filled-Iff : (a : Assertion) (b : Assertion) (d : ℕ) → filled put (assertion.Iff a b) d ≡ assertion.Iff (filled put a d) (filled put b d)
  filled-Iff a b d = ap (λ f. f d) (fold-Iff (ℕ → Assertion) (filled_node put) a b)

  pub filled-Ex : (ty : TypeId) (a : Assertion) (d : ℕ) → filled put (assertion.Ex ty a) d ≡ assertion.Ex ty (filled put a (suc d))
  filled-Ex ty a d = ap (λ f. f d) (fold-Ex (ℕ → Assertion) (filled_node put) ty a)

  pub filled-All : (ty : TypeId) (a : Assertion) (d : ℕ) → filled put (assertion.All ty a) d ≡ assertion.All ty (filled put a (suc d))
  filled-All ty a d = ap (λ f. f d) (fold-All (ℕ → Assertion) (filled_node put) ty a)

  pub filled-ExSet : (ty : TypeId) (a : Assertion) (d : ℕ) → filled put (assertion.ExSet ty a) d ≡ assertion.ExSet ty (filled put a (suc d))
  filled-ExSet ty a d = ap (λ f. f d) (fold-ExSet (ℕ → Assertion) (filled_node put) ty a)

  pub filled-AllSet : (ty : TypeId) (a : Assertion) (d : ℕ) → filled put (assertion.AllSet ty a) d ≡ assertion.AllSet ty (filled put a (suc d))
  filled-AllSet ty a d = ap (λ f. f d) (fold-AllSet (ℕ → Assertion) (filled_node put) ty a)

-- ---- names

module _ where
  pub names-True : (d : ℕ) → names_at assertion.True d ≡ []
  names-True d = ap (λ f. f d) (fold-True (ℕ → List NameUse) names_of_node)

  pub names-False : (d : ℕ) → names_at assertion.False d ≡ []
  names-False d = ap (λ f. f d) (fold-False (ℕ → List NameUse) names_of_node)

  pub names-Truth : (t : Term) (d : ℕ) → names_at (assertion.Truth t) d ≡ term_names class.Truth t d
  names-Truth t d = ap (λ f. f d) (fold-Truth (ℕ → List NameUse) names_of_node t)

  pub names-Is : (t : Term) (v : VariantId) (d : ℕ) → names_at (assertion.Is t v) d ≡ term_names class.Reference t d
  names-Is t v d = ap (λ f. f d) (fold-Is (ℕ → List NameUse) names_of_node t v)

  pub names-Same : (t : Term) (u : Term) (d : ℕ) → names_at (assertion.Same t u) d ≡ term_names class.Reference t d ++ term_names class.Reference u d
  names-Same t u d = ap (λ f. f d) (fold-Same (ℕ → List NameUse) names_of_node t u)

  pub names-Member : (t : Term) (set : Base) (d : ℕ) → names_at (assertion.Member t set) d ≡ term_names class.Reference t d ++ set_name set d
  names-Member t set d = ap (λ f. f d) (fold-Member (ℕ → List NameUse) names_of_node t set)

  pub names-Subset : (set : Base) (other : Base) (d : ℕ) → names_at (assertion.Subset set other) d ≡ set_name set d ++ set_name other d
  names-Subset set other d = ap (λ f. f d) (fold-Subset (ℕ → List NameUse) names_of_node set other)

  pub names-Walk : (t : Term) (along : Route) (u : Term) (d : ℕ) → names_at (assertion.Walk t along u) d
      ≡ term_names class.Reference t d ++ term_names class.Reference u d
  names-Walk t along u d = ap (λ f. f d) (fold-Walk (ℕ → List NameUse) names_of_node t along u)

  pub names-Pred : (k : ℕ) (args : List Arg) (d : ℕ) → names_at (assertion.Pred k args) d ≡ flat_map (λ x. arg_names x d) args
  names-Pred k args d = ap (λ f. f d) (fold-Pred (ℕ → List NameUse) names_of_node k args)

  pub names-Not : (a : Assertion) (d : ℕ) → names_at (assertion.Not a) d ≡ names_at a d
  names-Not a d = ap (λ f. f d) (fold-Not (ℕ → List NameUse) names_of_node a)

  pub names-And : (a : Assertion) (b : Assertion) (d : ℕ) → names_at (assertion.And a b) d ≡ names_at a d ++ names_at b d
  names-And a b d = ap (λ f. f d) (fold-And (ℕ → List NameUse) names_of_node a b)

  pub names-Or : (a : Assertion) (b : Assertion) (d : ℕ) → names_at (assertion.Or a b) d ≡ names_at a d ++ names_at b d
  names-Or a b d = ap (λ f. f d) (fold-Or (ℕ → List NameUse) names_of_node a b)

  pub names-Imp : (a : Assertion) (b : Assertion) (d : ℕ) → names_at (assertion.Imp a b) d ≡ names_at a d ++ names_at b d
  names-Imp a b d = ap (λ f. f d) (fold-Imp (ℕ → List NameUse) names_of_node a b)

  pub names-Iff : (a : Assertion) (b : Assertion) (d : ℕ) → names_at (assertion.Iff a b) d ≡ names_at a d ++ names_at b d
  names-Iff a b d = ap (λ f. f d) (fold-Iff (ℕ → List NameUse) names_of_node a b)

  pub names-Ex : (ty : TypeId) (a : Assertion) (d : ℕ) → names_at (assertion.Ex ty a) d ≡ names_at a (suc d)
  names-Ex ty a d = ap (λ f. f d) (fold-Ex (ℕ → List NameUse) names_of_node ty a)

  pub names-All : (ty : TypeId) (a : Assertion) (d : ℕ) → names_at (assertion.All ty a) d ≡ names_at a (suc d)
  names-All ty a d = ap (λ f. f d) (fold-All (ℕ → List NameUse) names_of_node ty a)

  pub names-ExSet : (ty : TypeId) (a : Assertion) (d : ℕ) → names_at (assertion.ExSet ty a) d ≡ names_at a (suc d)
  names-ExSet ty a d = ap (λ f. f d) (fold-ExSet (ℕ → List NameUse) names_of_node ty a)

  pub names-AllSet : (ty : TypeId) (a : Assertion) (d : ℕ) → names_at (assertion.AllSet ty a) d ≡ names_at a (suc d)
  names-AllSet ty a d = ap (λ f. f d) (fold-AllSet (ℕ → List NameUse) names_of_node ty a)

-- ---- predicates

module _ where
  pub uses-True : uses_in assertion.True ≡ []
  uses-True = fold-True (List (ℕ × List Arg)) uses_of_node

  pub uses-False : uses_in assertion.False ≡ []
  uses-False = fold-False (List (ℕ × List Arg)) uses_of_node

  pub uses-Truth : (t : Term) → uses_in (assertion.Truth t) ≡ []
  uses-Truth t = fold-Truth (List (ℕ × List Arg)) uses_of_node t

  pub uses-Is : (t : Term) (v : VariantId) → uses_in (assertion.Is t v) ≡ []
  uses-Is t v = fold-Is (List (ℕ × List Arg)) uses_of_node t v

  pub uses-Same : (t : Term) (u : Term) → uses_in (assertion.Same t u) ≡ []
  uses-Same t u = fold-Same (List (ℕ × List Arg)) uses_of_node t u

  pub uses-Member : (t : Term) (set : Base) → uses_in (assertion.Member t set) ≡ []
  uses-Member t set = fold-Member (List (ℕ × List Arg)) uses_of_node t set

  pub uses-Subset : (set : Base) (other : Base) → uses_in (assertion.Subset set other) ≡ []
  uses-Subset set other = fold-Subset (List (ℕ × List Arg)) uses_of_node set other

  pub uses-Walk : (t : Term) (along : Route) (u : Term) → uses_in (assertion.Walk t along u) ≡ []
  uses-Walk t along u = fold-Walk (List (ℕ × List Arg)) uses_of_node t along u

  pub uses-Pred : (k : ℕ) (args : List Arg) → uses_in (assertion.Pred k args) ≡ (k, args) ∷ []
  uses-Pred k args = fold-Pred (List (ℕ × List Arg)) uses_of_node k args

  pub uses-Not : (a : Assertion) → uses_in (assertion.Not a) ≡ uses_in a
  uses-Not a = fold-Not (List (ℕ × List Arg)) uses_of_node a

  pub uses-And : (a : Assertion) (b : Assertion) → uses_in (assertion.And a b) ≡ uses_in a ++ uses_in b
  uses-And a b = fold-And (List (ℕ × List Arg)) uses_of_node a b

  pub uses-Or : (a : Assertion) (b : Assertion) → uses_in (assertion.Or a b) ≡ uses_in a ++ uses_in b
  uses-Or a b = fold-Or (List (ℕ × List Arg)) uses_of_node a b

  pub uses-Imp : (a : Assertion) (b : Assertion) → uses_in (assertion.Imp a b) ≡ uses_in a ++ uses_in b
  uses-Imp a b = fold-Imp (List (ℕ × List Arg)) uses_of_node a b

  pub uses-Iff : (a : Assertion) (b : Assertion) → uses_in (assertion.Iff a b) ≡ uses_in a ++ uses_in b
  uses-Iff a b = fold-Iff (List (ℕ × List Arg)) uses_of_node a b

  pub uses-Ex : (ty : TypeId) (a : Assertion) → uses_in (assertion.Ex ty a) ≡ uses_in a
  uses-Ex ty a = fold-Ex (List (ℕ × List Arg)) uses_of_node ty a

  pub uses-All : (ty : TypeId) (a : Assertion) → uses_in (assertion.All ty a) ≡ uses_in a
  uses-All ty a = fold-All (List (ℕ × List Arg)) uses_of_node ty a

  pub uses-ExSet : (ty : TypeId) (a : Assertion) → uses_in (assertion.ExSet ty a) ≡ uses_in a
  uses-ExSet ty a = fold-ExSet (List (ℕ × List Arg)) uses_of_node ty a

  pub uses-AllSet : (ty : TypeId) (a : Assertion) → uses_in (assertion.AllSet ty a) ≡ uses_in a
  uses-AllSet ty a = fold-AllSet (List (ℕ × List Arg)) uses_of_node ty a

-- ---- expanded

module _ (bodies : List Assertion) where
  pub bodies-True : with_bodies bodies assertion.True ≡ assertion.True
  bodies-True = fold-True Assertion (expanded_node bodies) ∙ rolls-True

  pub bodies-False : with_bodies bodies assertion.False ≡ assertion.False
  bodies-False = fold-False Assertion (expanded_node bodies) ∙ rolls-False

  pub bodies-Truth : (t : Term) → with_bodies bodies (assertion.Truth t) ≡ assertion.Truth t
  bodies-Truth t = fold-Truth Assertion (expanded_node bodies) t ∙ rolls-Truth t

  pub bodies-Is : (t : Term) (v : VariantId) → with_bodies bodies (assertion.Is t v) ≡ assertion.Is t v
  bodies-Is t v = fold-Is Assertion (expanded_node bodies) t v ∙ rolls-Is t v

  pub bodies-Same : (t : Term) (u : Term) → with_bodies bodies (assertion.Same t u) ≡ assertion.Same t u
  bodies-Same t u = fold-Same Assertion (expanded_node bodies) t u ∙ rolls-Same t u

  pub bodies-Member : (t : Term) (set : Base) → with_bodies bodies (assertion.Member t set) ≡ assertion.Member t set
  bodies-Member t set = fold-Member Assertion (expanded_node bodies) t set ∙ rolls-Member t set

  pub bodies-Subset : (set : Base) (other : Base) → with_bodies bodies (assertion.Subset set other) ≡ assertion.Subset set other
  bodies-Subset set other = fold-Subset Assertion (expanded_node bodies) set other ∙ rolls-Subset set other

  pub bodies-Walk : (t : Term) (along : Route) (u : Term) → with_bodies bodies (assertion.Walk t along u) ≡ assertion.Walk t along u
  bodies-Walk t along u = fold-Walk Assertion (expanded_node bodies) t along u ∙ rolls-Walk t along u

  pub bodies-Pred : (k : ℕ) (args : List Arg) → with_bodies bodies (assertion.Pred k args)
      ≡ option_map_or (put_in args) (slice_get bodies k) (assertion.Pred k args)
  bodies-Pred k args = fold-Pred Assertion (expanded_node bodies) k args

  pub bodies-Not : (a : Assertion) → with_bodies bodies (assertion.Not a) ≡ assertion.Not (with_bodies bodies a)
  bodies-Not a = fold-Not Assertion (expanded_node bodies) a ∙ rolls-Not (with_bodies bodies a)

  pub bodies-And : (a : Assertion) (b : Assertion) → with_bodies bodies (assertion.And a b) ≡ assertion.And (with_bodies bodies a) (with_bodies bodies b)
  bodies-And a b = fold-And Assertion (expanded_node bodies) a b ∙ rolls-And (with_bodies bodies a) (with_bodies bodies b)

  pub bodies-Or : (a : Assertion) (b : Assertion) → with_bodies bodies (assertion.Or a b) ≡ assertion.Or (with_bodies bodies a) (with_bodies bodies b)
  bodies-Or a b = fold-Or Assertion (expanded_node bodies) a b ∙ rolls-Or (with_bodies bodies a) (with_bodies bodies b)

  pub bodies-Imp : (a : Assertion) (b : Assertion) → with_bodies bodies (assertion.Imp a b) ≡ assertion.Imp (with_bodies bodies a) (with_bodies bodies b)
  bodies-Imp a b = fold-Imp Assertion (expanded_node bodies) a b ∙ rolls-Imp (with_bodies bodies a) (with_bodies bodies b)

  pub bodies-Iff : (a : Assertion) (b : Assertion) → with_bodies bodies (assertion.Iff a b) ≡ assertion.Iff (with_bodies bodies a) (with_bodies bodies b)
  bodies-Iff a b = fold-Iff Assertion (expanded_node bodies) a b ∙ rolls-Iff (with_bodies bodies a) (with_bodies bodies b)

  pub bodies-Ex : (ty : TypeId) (a : Assertion) → with_bodies bodies (assertion.Ex ty a) ≡ assertion.Ex ty (with_bodies bodies a)
  bodies-Ex ty a = fold-Ex Assertion (expanded_node bodies) ty a ∙ rolls-Ex ty (with_bodies bodies a)

  pub bodies-All : (ty : TypeId) (a : Assertion) → with_bodies bodies (assertion.All ty a) ≡ assertion.All ty (with_bodies bodies a)
  bodies-All ty a = fold-All Assertion (expanded_node bodies) ty a ∙ rolls-All ty (with_bodies bodies a)

  pub bodies-ExSet : (ty : TypeId) (a : Assertion) → with_bodies bodies (assertion.ExSet ty a) ≡ assertion.ExSet ty (with_bodies bodies a)
  bodies-ExSet ty a = fold-ExSet Assertion (expanded_node bodies) ty a ∙ rolls-ExSet ty (with_bodies bodies a)

  pub bodies-AllSet : (ty : TypeId) (a : Assertion) → with_bodies bodies (assertion.AllSet ty a) ≡ assertion.AllSet ty (with_bodies bodies a)
  bodies-AllSet ty a = fold-AllSet Assertion (expanded_node bodies) ty a ∙ rolls-AllSet ty (with_bodies bodies a)

-- ---- counted

module _ where
  pub count-True : node_count assertion.True ≡ 1
  count-True = fold-True ℕ count_of_node

  pub count-False : node_count assertion.False ≡ 1
  count-False = fold-False ℕ count_of_node

  pub count-Truth : (t : Term) → node_count (assertion.Truth t) ≡ 1
  count-Truth t = fold-Truth ℕ count_of_node t

  pub count-Is : (t : Term) (v : VariantId) → node_count (assertion.Is t v) ≡ 1
  count-Is t v = fold-Is ℕ count_of_node t v

  pub count-Same : (t : Term) (u : Term) → node_count (assertion.Same t u) ≡ 1
  count-Same t u = fold-Same ℕ count_of_node t u

  pub count-Member : (t : Term) (set : Base) → node_count (assertion.Member t set) ≡ 1
  count-Member t set = fold-Member ℕ count_of_node t set

  pub count-Subset : (set : Base) (other : Base) → node_count (assertion.Subset set other) ≡ 1
  count-Subset set other = fold-Subset ℕ count_of_node set other

  pub count-Walk : (t : Term) (along : Route) (u : Term) → node_count (assertion.Walk t along u) ≡ 1
  count-Walk t along u = fold-Walk ℕ count_of_node t along u

  pub count-Pred : (k : ℕ) (args : List Arg) → node_count (assertion.Pred k args) ≡ 1
  count-Pred k args = fold-Pred ℕ count_of_node k args

  pub count-Not : (a : Assertion) → node_count (assertion.Not a) ≡ node_count a + 1
  count-Not a = fold-Not ℕ count_of_node a

  pub count-And : (a : Assertion) (b : Assertion) → node_count (assertion.And a b) ≡ node_count a + node_count b + 1
  count-And a b = fold-And ℕ count_of_node a b

  pub count-Or : (a : Assertion) (b : Assertion) → node_count (assertion.Or a b) ≡ node_count a + node_count b + 1
  count-Or a b = fold-Or ℕ count_of_node a b

  pub count-Imp : (a : Assertion) (b : Assertion) → node_count (assertion.Imp a b) ≡ node_count a + node_count b + 1
  count-Imp a b = fold-Imp ℕ count_of_node a b

  pub count-Iff : (a : Assertion) (b : Assertion) → node_count (assertion.Iff a b) ≡ 2 * (node_count a + node_count b) + 1
  count-Iff a b = fold-Iff ℕ count_of_node a b

  pub count-Ex : (ty : TypeId) (a : Assertion) → node_count (assertion.Ex ty a) ≡ node_count a + 1
  count-Ex ty a = fold-Ex ℕ count_of_node ty a

  pub count-All : (ty : TypeId) (a : Assertion) → node_count (assertion.All ty a) ≡ node_count a + 1
  count-All ty a = fold-All ℕ count_of_node ty a

  pub count-ExSet : (ty : TypeId) (a : Assertion) → node_count (assertion.ExSet ty a) ≡ node_count a + 1
  count-ExSet ty a = fold-ExSet ℕ count_of_node ty a

  pub count-AllSet : (ty : TypeId) (a : Assertion) → node_count (assertion.AllSet ty a) ≡ node_count a + 1
  count-AllSet ty a = fold-AllSet ℕ count_of_node ty a
