-- Assertions with their predicates put in: they hold where they held, and no predicate stands in them.
use Rattle.std.proofs.Common.{◌≡◌, ◌↔◌, ◌≢◌, ◌==◌, ℕ, suc, ◌+◌, ◌<◌, Bool, true, false, Option, Some, IfSome, List, [], ◌∷◌, ◌++◌, length}
use Rattle.std.proofs.Common.{map, reverse, slice_get, sym, refl, ap, ◌∙◌, subst, subst₂, arith, append_assoc, append-nil, eqb-true, eq-eqb}
use Rattle.std.proofs.lemmas.Bool.{eqb-false}
use Rattle.std.specs.Prelude.{MatchBool}
use Rattle.std.specs.List.{AllByRecursion}
use Rattle.std.specs.Option.{option_map_or}
use Rattle.std.proofs.lemmas.List.{reverse-append, reverse-reverse, length-reverse, length-append}
use Rattle.store_core.specs.declared.value.Value.{Value}
use Rattle.store_core.specs.Tables.{TypeEntry, VarEntry}
use Rattle.store_core.specs.Stores.{StoreMap}
use Rattle.store_core.proofs.FittingLemmas.{IsSomeAnd-at}
use Rattle.routing_walks.specs.Regions.{store_on}
use Rattle.store_logic.specs.declared.arg.Arg.{Arg}
use Rattle.store_logic.specs.declared.assertion.Assertion.{Assertion}
use Rattle.store_logic.specs.declared.assertion.Assertion.TheVariants as assertion
use Rattle.store_logic.specs.declared.pred.PredDef.{PredDef}
use Rattle.store_logic.specs.declared.region.Region.{Region}
use Rattle.store_logic.specs.declared.region.Region.TheVariants as region
use Rattle.store_logic.specs.Terms.{Environment, given, arg_value}
use Rattle.store_logic.specs.Satisfaction.{Holds, Says, SatAll, Sat}
use Rattle.store_logic.specs.Filling.{put_in}
use Rattle.store_logic.specs.Expansion.{with_bodies, expanded_bodies, expansion}
use Rattle.store_logic.specs.Uses.{NameUse, names_in, uses_in, IsGiven, IsOwn, IsRightUse, IsBodyAt, CanExpand}
use Rattle.store_logic.proofs.AssertionLemmas.{assertion-induction}
use Rattle.store_logic.proofs.HoldsLemmas.{Holds-True, Holds-False, Holds-Truth, Holds-Is, Holds-Same, Holds-Member, Holds-Subset, Holds-Walk, Holds-Pred}
use Rattle.store_logic.proofs.HoldsLemmas.{Holds-Not, Holds-And, Holds-Or, Holds-Imp, Holds-Iff, Holds-Ex, Holds-All, Holds-ExSet, Holds-AllSet}
use Rattle.store_logic.proofs.ExpandingForms.{bodies-True, bodies-False, bodies-Truth, bodies-Is, bodies-Same, bodies-Member, bodies-Subset, bodies-Walk}
use Rattle.store_logic.proofs.ExpandingForms.{bodies-Pred}
use Rattle.store_logic.proofs.ExpandingForms.{bodies-Not, bodies-And, bodies-Or, bodies-Imp, bodies-Iff, bodies-Ex, bodies-All, bodies-ExSet, bodies-AllSet}
use Rattle.store_logic.proofs.ExpandingForms.{uses-True, uses-False, uses-Truth, uses-Is, uses-Same, uses-Member, uses-Subset, uses-Walk, uses-Pred}
use Rattle.store_logic.proofs.ExpandingForms.{uses-Not, uses-And, uses-Or, uses-Imp, uses-Iff, uses-Ex, uses-All, uses-ExSet, uses-AllSet}
use Rattle.store_logic.proofs.ExpandingForms.{names-Pred}
use Rattle.store_logic.proofs.ExpandingForms.{names-Not, names-And, names-Or, names-Imp, names-Iff, names-Ex, names-All, names-ExSet, names-AllSet}
use Rattle.store_logic.proofs.ExpandingForms.{names_at}
use Rattle.store_logic.proofs.ExpandingLists.{slice_get-first, slice_get-seam, append-empty, all-first, all-second, all-append}
use Rattle.store_logic.proofs.ExpandingTerms.{IsBoth, IsStable, IsStable-both}
use Rattle.store_logic.proofs.ExpandingFilled.{uses-filled, names-filled}
use Rattle.store_logic.proofs.ExpandingHolds.{Holds-filled, Holds-same, chained}
use Rattle.store_logic.proofs.SameLemmas.{both, itself, turned, not-both, and-both, or-both, then-both, iff-both, some-both, all-both}

-- an expanded body of the predicate at k, of predicates that stand in a list, the last of them first
pub record Expands (l : List PredDef) (k : ℕ) (p : PredDef) (b : Assertion) : Type 0 where
  pub none : uses_in b ≡ []
  pub names : (args : List Arg) → AllByRecursion (IsGiven args) (names_in p.body) → AllByRecursion (IsBoth p.params args) (names_in b)
  pub says : (types : List TypeEntry) (s : StoreMap) (args : List Value) → Says types s l k args ↔ Holds types s (Says types s []) b (given args)

-- with the expanded bodies of a list put in
module _ (preds l : List PredDef) where
  -- the expanded body of each predicate of the list is known
  abbrev Known : Type 0
  Known = (k : ℕ) (p : PredDef) → k < length l → slice_get preds k ≡ Some p → (b : Assertion) × (slice_get (expanded_bodies l) k ≡ Some b) × Expands l k p b

  -- what a use of a predicate becomes
  record Put (k : ℕ) (args : List Arg) : Type 0 where
    pub p : PredDef
    pub b : Assertion
    pub at : with_bodies (expanded_bodies l) (assertion.Pred k args) ≡ put_in args b
    pub body : Expands l k p b
    pub gets : AllByRecursion (IsGiven args) (names_in p.body)

  abbrev Right : Assertion → Type 0
  Right a = AllByRecursion (IsRightUse preds (length l)) (uses_in a)

  module _ (known : Known) where
    put : (k : ℕ) (args : List Arg) → IsRightUse preds (length l) (k, args) → Put k args
    put k args h =
        let found = IsSomeAnd-at (slice_get preds k) _ h.args in
        let own = known k found.0 h.among found.1 in
        record {
          p = found.0;
          b = own.0;
          at = bodies-Pred (expanded_bodies l) k args
              ∙ ap (λ (o : Option Assertion). option_map_or (put_in args) o (assertion.Pred k args)) own.1;
          body = own.2;
          gets = found.2.1;
        }

    put_at : (k : ℕ) (args : List Arg) → Right (assertion.Pred k args) → Put k args
    put_at k args h = put k args (subst (AllByRecursion (IsRightUse preds (length l))) (uses-Pred k args) h).0

    right : {us vs : List (ℕ × List Arg)} → us ≡ vs → AllByRecursion (IsRightUse preds (length l)) us → AllByRecursion (IsRightUse preds (length l)) vs
    right same h = subst (AllByRecursion (IsRightUse preds (length l))) same h

    first : (us vs : List (ℕ × List Arg)) → AllByRecursion (IsRightUse preds (length l)) (us ++ vs) → AllByRecursion (IsRightUse preds (length l)) us
    first = all-first (IsRightUse preds (length l))

    second : (us vs : List (ℕ × List Arg)) → AllByRecursion (IsRightUse preds (length l)) (us ++ vs) → AllByRecursion (IsRightUse preds (length l)) vs
    second = all-second (IsRightUse preds (length l))

    -- ---- predicates

    abbrev HasNone : Assertion → Type 0
    HasNone a = Right a → uses_in (with_bodies (expanded_bodies l) a) ≡ []

    uses-bodies : (a : Assertion) → HasNone a
    uses-bodies = assertion-induction HasNone (record {
      of_True = λ h. ap uses_in (bodies-True (expanded_bodies l)) ∙ uses-True;
      of_False = λ h. ap uses_in (bodies-False (expanded_bodies l)) ∙ uses-False;
      of_Truth = λ t h. ap uses_in (bodies-Truth (expanded_bodies l) t) ∙ uses-Truth t;
      of_Is = λ t v h. ap uses_in (bodies-Is (expanded_bodies l) t v) ∙ uses-Is t v;
      of_Same = λ t u h. ap uses_in (bodies-Same (expanded_bodies l) t u) ∙ uses-Same t u;
      of_Member = λ t set h. ap uses_in (bodies-Member (expanded_bodies l) t set) ∙ uses-Member t set;
      of_Subset = λ set other h. ap uses_in (bodies-Subset (expanded_bodies l) set other) ∙ uses-Subset set other;
      of_Walk = λ t along u h. ap uses_in (bodies-Walk (expanded_bodies l) t along u) ∙ uses-Walk t along u;
      of_Pred = λ k args h.
          let it = put_at k args h in ap uses_in it.at ∙ uses-filled args it.b 0 it.body.none;
      of_Not = λ a of_a h. ap uses_in (bodies-Not (expanded_bodies l) a) ∙ uses-Not _ ∙ of_a (right (uses-Not a) h);
      of_And = λ a b of_a of_b h. ap uses_in (bodies-And (expanded_bodies l) a b) ∙ uses-And _ _
          ∙ append-empty _ _ (of_a (first (uses_in a) (uses_in b) (right (uses-And a b) h)))
          (of_b (second (uses_in a) (uses_in b) (right (uses-And a b) h)));
      of_Or = λ a b of_a of_b h. ap uses_in (bodies-Or (expanded_bodies l) a b) ∙ uses-Or _ _
          ∙ append-empty _ _ (of_a (first (uses_in a) (uses_in b) (right (uses-Or a b) h)))
          (of_b (second (uses_in a) (uses_in b) (right (uses-Or a b) h)));
      of_Imp = λ a b of_a of_b h. ap uses_in (bodies-Imp (expanded_bodies l) a b) ∙ uses-Imp _ _
          ∙ append-empty _ _ (of_a (first (uses_in a) (uses_in b) (right (uses-Imp a b) h)))
          (of_b (second (uses_in a) (uses_in b) (right (uses-Imp a b) h)));
      of_Iff = λ a b of_a of_b h. ap uses_in (bodies-Iff (expanded_bodies l) a b) ∙ uses-Iff _ _
          ∙ append-empty _ _ (of_a (first (uses_in a) (uses_in b) (right (uses-Iff a b) h)))
          (of_b (second (uses_in a) (uses_in b) (right (uses-Iff a b) h)));
      of_Ex = λ ty a of_a h. ap uses_in (bodies-Ex (expanded_bodies l) ty a) ∙ uses-Ex ty _ ∙ of_a (right (uses-Ex ty a) h);
      of_All = λ ty a of_a h. ap uses_in (bodies-All (expanded_bodies l) ty a) ∙ uses-All ty _ ∙ of_a (right (uses-All ty a) h);
      of_ExSet = λ ty a of_a h. ap uses_in (bodies-ExSet (expanded_bodies l) ty a) ∙ uses-ExSet ty _ ∙ of_a (right (uses-ExSet ty a) h);
      of_AllSet = λ ty a of_a h. ap uses_in (bodies-AllSet (expanded_bodies l) ty a) ∙ uses-AllSet ty _ ∙ of_a (right (uses-AllSet ty a) h);
    })

    -- ---- names

    module _ (P : NameUse → Type 0) (stable : IsStable P) where
      abbrev KeepsNames : Assertion → Type 0
      KeepsNames a = (d : ℕ) → Right a → AllByRecursion P (names_at a d) → AllByRecursion P (names_at (with_bodies (expanded_bodies l) a) d)

      as_names : {xs ys : List NameUse} → ys ≡ xs → AllByRecursion P xs → AllByRecursion P ys
      as_names same h = subst (AllByRecursion P) (sym same) h

      own : {xs ys : List NameUse} → xs ≡ ys → AllByRecursion P xs → AllByRecursion P ys
      own same h = subst (AllByRecursion P) same h

      names-put : (k : ℕ) (args : List Arg) (d : ℕ) → Put k args → AllByRecursion P (names_at (assertion.Pred k args) d) →
          AllByRecursion P (names_at (with_bodies (expanded_bodies l) (assertion.Pred k args)) d)
      names-put k args d it n = as_names (ap (λ z. names_at z d) it.at)
          (subst (λ (m : ℕ). AllByRecursion P (names_at (put_in args it.b) m)) (let same : d + 0 ≡ d = omega arith in same)
          (names-filled P stable it.p.params args d (own (names-Pred k args d) n) it.b 0 (it.body.names args it.gets)))

      names-bodies : (a : Assertion) → KeepsNames a
      names-bodies = assertion-induction KeepsNames (record {
        of_True = λ d h n. as_names (ap (λ z. names_at z d) (bodies-True (expanded_bodies l))) n;
        of_False = λ d h n. as_names (ap (λ z. names_at z d) (bodies-False (expanded_bodies l))) n;
        of_Truth = λ t d h n. as_names (ap (λ z. names_at z d) (bodies-Truth (expanded_bodies l) t)) n;
        of_Is = λ t v d h n. as_names (ap (λ z. names_at z d) (bodies-Is (expanded_bodies l) t v)) n;
        of_Same = λ t u d h n. as_names (ap (λ z. names_at z d) (bodies-Same (expanded_bodies l) t u)) n;
        of_Member = λ t set d h n. as_names (ap (λ z. names_at z d) (bodies-Member (expanded_bodies l) t set)) n;
        of_Subset = λ set other d h n. as_names (ap (λ z. names_at z d) (bodies-Subset (expanded_bodies l) set other)) n;
        of_Walk = λ t along u d h n. as_names (ap (λ z. names_at z d) (bodies-Walk (expanded_bodies l) t along u)) n;
        of_Pred = λ k args d h n. names-put k args d (put_at k args h) n;
        of_Not = λ a of_a d h n. as_names (ap (λ z. names_at z d) (bodies-Not (expanded_bodies l) a) ∙ names-Not _ d)
            (of_a d (right (uses-Not a) h) (own (names-Not a d) n));
        of_And = λ a b of_a of_b d h n. as_names (ap (λ z. names_at z d) (bodies-And (expanded_bodies l) a b) ∙ names-And _ _ d) (all-append P _ _
            (of_a d (first (uses_in a) (uses_in b) (right (uses-And a b) h)) (all-first P (names_at a d) (names_at b d) (own (names-And a b d) n)))
            (of_b d (second (uses_in a) (uses_in b) (right (uses-And a b) h)) (all-second P (names_at a d) (names_at b d) (own (names-And a b d) n))));
        of_Or = λ a b of_a of_b d h n. as_names (ap (λ z. names_at z d) (bodies-Or (expanded_bodies l) a b) ∙ names-Or _ _ d) (all-append P _ _
            (of_a d (first (uses_in a) (uses_in b) (right (uses-Or a b) h)) (all-first P (names_at a d) (names_at b d) (own (names-Or a b d) n)))
            (of_b d (second (uses_in a) (uses_in b) (right (uses-Or a b) h)) (all-second P (names_at a d) (names_at b d) (own (names-Or a b d) n))));
        of_Imp = λ a b of_a of_b d h n. as_names (ap (λ z. names_at z d) (bodies-Imp (expanded_bodies l) a b) ∙ names-Imp _ _ d) (all-append P _ _
            (of_a d (first (uses_in a) (uses_in b) (right (uses-Imp a b) h)) (all-first P (names_at a d) (names_at b d) (own (names-Imp a b d) n)))
            (of_b d (second (uses_in a) (uses_in b) (right (uses-Imp a b) h)) (all-second P (names_at a d) (names_at b d) (own (names-Imp a b d) n))));
        of_Iff = λ a b of_a of_b d h n. as_names (ap (λ z. names_at z d) (bodies-Iff (expanded_bodies l) a b) ∙ names-Iff _ _ d) (all-append P _ _
            (of_a d (first (uses_in a) (uses_in b) (right (uses-Iff a b) h)) (all-first P (names_at a d) (names_at b d) (own (names-Iff a b d) n)))
            (of_b d (second (uses_in a) (uses_in b) (right (uses-Iff a b) h)) (all-second P (names_at a d) (names_at b d) (own (names-Iff a b d) n))));
        of_Ex = λ ty a of_a d h n. as_names (ap (λ z. names_at z d) (bodies-Ex (expanded_bodies l) ty a) ∙ names-Ex ty _ d)
            (of_a (suc d) (right (uses-Ex ty a) h) (own (names-Ex ty a d) n));
        of_All = λ ty a of_a d h n. as_names (ap (λ z. names_at z d) (bodies-All (expanded_bodies l) ty a) ∙ names-All ty _ d)
            (of_a (suc d) (right (uses-All ty a) h) (own (names-All ty a d) n));
        of_ExSet = λ ty a of_a d h n. as_names (ap (λ z. names_at z d) (bodies-ExSet (expanded_bodies l) ty a) ∙ names-ExSet ty _ d)
            (of_a (suc d) (right (uses-ExSet ty a) h) (own (names-ExSet ty a d) n));
        of_AllSet = λ ty a of_a d h n. as_names (ap (λ z. names_at z d) (bodies-AllSet (expanded_bodies l) ty a) ∙ names-AllSet ty _ d)
            (of_a (suc d) (right (uses-AllSet ty a) h) (own (names-AllSet ty a d) n));
      })

    -- ---- satisfaction

    module _ (types : List TypeEntry) (s : StoreMap) where
      abbrev IsKept : Assertion → Type 0
      IsKept a = (e : Environment) → Right a →
          Holds types s (Says types s []) (with_bodies (expanded_bodies l) a) e ↔ Holds types s (Says types s l) a e

      Holds-put : (k : ℕ) (args : List Arg) (e : Environment) → Put k args →
          Holds types s (Says types s []) (with_bodies (expanded_bodies l) (assertion.Pred k args)) e ↔ Holds types s (Says types s l) (assertion.Pred k args) e
      Holds-put k args e it = chained (Holds-same types s (Says types s []) it.at e)
          (both (Holds-filled types s (Says types s []) args e it.p.params it.b [] (it.body.names args it.gets))
          (turned (it.body.says types s (map (arg_value s e) args)))
          (Holds-Pred types s (Says types s l) k args e))

      Holds-bodies : (a : Assertion) → IsKept a
      Holds-bodies = assertion-induction IsKept (record {
        of_True = λ e h. chained (Holds-same types s (Says types s []) (bodies-True (expanded_bodies l)) e)
            (both (Holds-True types s (Says types s []) e) itself
            (Holds-True types s (Says types s l) e));
        of_False = λ e h. chained (Holds-same types s (Says types s []) (bodies-False (expanded_bodies l)) e)
            (both (Holds-False types s (Says types s []) e) itself
            (Holds-False types s (Says types s l) e));
        of_Truth = λ t e h. chained (Holds-same types s (Says types s []) (bodies-Truth (expanded_bodies l) t) e)
            (both (Holds-Truth types s (Says types s []) t e) itself
            (Holds-Truth types s (Says types s l) t e));
        of_Is = λ t v e h. chained (Holds-same types s (Says types s []) (bodies-Is (expanded_bodies l) t v) e)
            (both (Holds-Is types s (Says types s []) t v e) itself
            (Holds-Is types s (Says types s l) t v e));
        of_Same = λ t u e h. chained (Holds-same types s (Says types s []) (bodies-Same (expanded_bodies l) t u) e)
            (both (Holds-Same types s (Says types s []) t u e) itself
            (Holds-Same types s (Says types s l) t u e));
        of_Member = λ t set e h. chained (Holds-same types s (Says types s []) (bodies-Member (expanded_bodies l) t set) e)
            (both (Holds-Member types s (Says types s []) t set e) itself
            (Holds-Member types s (Says types s l) t set e));
        of_Subset = λ set other e h. chained (Holds-same types s (Says types s []) (bodies-Subset (expanded_bodies l) set other) e)
            (both (Holds-Subset types s (Says types s []) set other e) itself
            (Holds-Subset types s (Says types s l) set other e));
        of_Walk = λ t along u e h. chained (Holds-same types s (Says types s []) (bodies-Walk (expanded_bodies l) t along u) e)
            (both (Holds-Walk types s (Says types s []) t along u e) itself
            (Holds-Walk types s (Says types s l) t along u e));
        of_Pred = λ k args e h. Holds-put k args e (put_at k args h);
        of_Not = λ a of_a e h. chained (Holds-same types s (Says types s []) (bodies-Not (expanded_bodies l) a) e)
            (both (Holds-Not types s (Says types s []) _ e) (not-both (of_a e (right (uses-Not a) h)))
            (Holds-Not types s (Says types s l) a e));
        of_And = λ a b of_a of_b e h. chained (Holds-same types s (Says types s []) (bodies-And (expanded_bodies l) a b) e)
            (both (Holds-And types s (Says types s []) _ _ e) (and-both (of_a e (first (uses_in a) (uses_in b) (right (uses-And a b) h)))
            (of_b e (second (uses_in a) (uses_in b) (right (uses-And a b) h))))
            (Holds-And types s (Says types s l) a b e));
        of_Or = λ a b of_a of_b e h. chained (Holds-same types s (Says types s []) (bodies-Or (expanded_bodies l) a b) e)
            (both (Holds-Or types s (Says types s []) _ _ e) (or-both (of_a e (first (uses_in a) (uses_in b) (right (uses-Or a b) h)))
            (of_b e (second (uses_in a) (uses_in b) (right (uses-Or a b) h))))
            (Holds-Or types s (Says types s l) a b e));
        of_Imp = λ a b of_a of_b e h. chained (Holds-same types s (Says types s []) (bodies-Imp (expanded_bodies l) a b) e)
            (both (Holds-Imp types s (Says types s []) _ _ e) (then-both (of_a e (first (uses_in a) (uses_in b) (right (uses-Imp a b) h)))
            (of_b e (second (uses_in a) (uses_in b) (right (uses-Imp a b) h))))
            (Holds-Imp types s (Says types s l) a b e));
        of_Iff = λ a b of_a of_b e h. chained (Holds-same types s (Says types s []) (bodies-Iff (expanded_bodies l) a b) e)
            (both (Holds-Iff types s (Says types s []) _ _ e) (iff-both (of_a e (first (uses_in a) (uses_in b) (right (uses-Iff a b) h)))
            (of_b e (second (uses_in a) (uses_in b) (right (uses-Iff a b) h))))
            (Holds-Iff types s (Says types s l) a b e));
        of_Ex = λ ty a of_a e h. chained (Holds-same types s (Says types s []) (bodies-Ex (expanded_bodies l) ty a) e)
            (both (Holds-Ex types s (Says types s []) ty _ e) (some-both (λ c. itself) (λ c. of_a _ (right (uses-Ex ty a) h)))
            (Holds-Ex types s (Says types s l) ty a e));
        of_All = λ ty a of_a e h. chained (Holds-same types s (Says types s []) (bodies-All (expanded_bodies l) ty a) e)
            (both (Holds-All types s (Says types s []) ty _ e) (all-both (λ c. itself) (λ c. of_a _ (right (uses-All ty a) h)))
            (Holds-All types s (Says types s l) ty a e));
        of_ExSet = λ ty a of_a e h. chained (Holds-same types s (Says types s []) (bodies-ExSet (expanded_bodies l) ty a) e)
            (both (Holds-ExSet types s (Says types s []) ty _ e) (some-both (λ c. itself) (λ c. of_a _ (right (uses-ExSet ty a) h)))
            (Holds-ExSet types s (Says types s l) ty a e));
        of_AllSet = λ ty a of_a e h. chained (Holds-same types s (Says types s []) (bodies-AllSet (expanded_bodies l) ty a) e)
            (both (Holds-AllSet types s (Says types s []) ty _ e) (all-both (λ c. itself) (λ c. of_a _ (right (uses-AllSet ty a) h)))
            (Holds-AllSet types s (Says types s l) ty a e));
      })

-- ---- the predicates one after the other

length-expanded_bodies : (l : List PredDef) → length (expanded_bodies l) ≡ length l
length-expanded_bodies [] = refl
length-expanded_bodies (p ∷ earlier) =
    let rest : length (expanded_bodies earlier) ≡ length earlier = length-expanded_bodies earlier in
    length-append (expanded_bodies earlier) (with_bodies (expanded_bodies earlier) p.body ∷ []) ∙ omega arith

module _ (preds : List PredDef) where
  -- the predicates of the list, the last of them first, are the first ones
  abbrev AreFirst : List PredDef → Type 0
  AreFirst [] = Unit {0}
  AreFirst (p ∷ earlier) = (slice_get preds (length earlier) ≡ Some p) × AreFirst earlier

  AreFirst-reverse : (l rest : List PredDef) → preds ≡ reverse l ++ rest → AreFirst l
  AreFirst-reverse [] rest is = tt
  AreFirst-reverse (p ∷ earlier) rest is =
      let onto : preds ≡ reverse earlier ++ p ∷ rest =
      is ∙ ap (λ l. l ++ rest) (reverse-append (p ∷ []) earlier) ∙ append_assoc (reverse earlier) (p ∷ []) rest in (
        ap (λ ps. slice_get ps (length earlier)) onto ∙ ap (slice_get (reverse earlier ++ p ∷ rest)) (sym (length-reverse earlier))
            ∙ slice_get-seam (reverse earlier) p rest,
        AreFirst-reverse earlier (p ∷ rest) onto,
      )

  module _ (bodies : (k : ℕ) → IfSome (slice_get preds k) (IsBodyAt preds k)) where
    body_at : (k : ℕ) (p : PredDef) → slice_get preds k ≡ Some p → IsBodyAt preds k p
    body_at k p at = subst (λ (o : Option PredDef). IfSome o (IsBodyAt preds k)) at (bodies k)

    abbrev Found : List PredDef → ℕ → PredDef → Type 0
    Found l k p = (b : Assertion) × (slice_get (expanded_bodies l) k ≡ Some b) × Expands l k p b

    both_of : (params : ℕ) (args : List Arg) (ns : List NameUse) → AllByRecursion (IsOwn params) ns → AllByRecursion (IsGiven args) ns →
        AllByRecursion (IsBoth params args) ns
    both_of params args [] h k = tt
    both_of params args (n ∷ ns) h k = ((h.0, k.0), both_of params args ns h.1 k.1)

    -- the last predicate of a list
    found_last : (p : PredDef) (earlier : List PredDef) → Known preds earlier → slice_get preds (length earlier) ≡ Some p →
        Found (p ∷ earlier) (length earlier) p
    found_last p earlier known at =
        let is_body = body_at (length earlier) p at in
        let b = with_bodies (expanded_bodies earlier) p.body in (
          b,
          ap (slice_get (expanded_bodies earlier ++ b ∷ [])) (sym (length-expanded_bodies earlier)) ∙ slice_get-seam (expanded_bodies earlier) b [],
          record {
            none = uses-bodies preds earlier known p.body is_body.uses;
            names = λ args gets. names-bodies preds earlier known (IsBoth p.params args) (IsStable-both p.params args) p.body 0 is_body.uses
                (both_of p.params args (names_in p.body) is_body.names gets);
            says = λ types s args. subst (λ (t : Bool). MatchBool t (Holds types s (Says types s earlier) p.body (given args))
                (Says types s earlier (length earlier) args) ↔ Holds types s (Says types s []) b (given args))
                (sym (eq-eqb (length earlier) (length earlier) refl))
                (turned (Holds-bodies preds earlier known types s p.body (given args) is_body.uses));
          },
        )

    all_known : (l : List PredDef) → AreFirst l → Known preds l
    all_known [] are k p inside at = absurd (omega arith)
    all_known (q ∷ earlier) are k p inside at = of (all_known earlier are.1) (k == length earlier) refl
      where
        of : Known preds earlier → (same : Bool) → (k == length earlier) ≡ same → Found (q ∷ earlier) k p
        of known true is =
            let place : k ≡ length earlier = eqb-true k (length earlier) is in
            let there : slice_get preds k ≡ Some q = ap (slice_get preds) place ∙ are.0 in
            let one : q ≡ p = cc in
            subst₂ (Found (q ∷ earlier)) (sym place) one (found_last q earlier known are.0)
        of known false is =
            let other : k ≢ length earlier = eqb-false k (length earlier) is in
            let before : k < length earlier = omega arith in
            let own = known k p before at in
            let inner : k < length (expanded_bodies earlier) = subst (λ (n : ℕ). k < n) (sym (length-expanded_bodies earlier)) before in (
              own.0,
              slice_get-first (expanded_bodies earlier) (with_bodies (expanded_bodies earlier) q.body ∷ []) k inner ∙ own.1,
              record {
                none = own.2.none;
                names = own.2.names;
                says = λ types s args. subst (λ (t : Bool). MatchBool t (Holds types s (Says types s earlier) q.body (given args))
                    (Says types s earlier k args) ↔ Holds types s (Says types s []) own.0 (given args)) (sym is) (own.2.says types s args);
              },
            )

-- ---- predicates that can be put in

pub known-of : (preds : List PredDef) (a : Assertion) → CanExpand preds a → Known preds (reverse preds)
known-of preds a can = all_known preds can.bodies (reverse preds)
    (AreFirst-reverse preds (reverse preds) [] (sym (append-nil (reverse (reverse preds)) ∙ reverse-reverse preds)))

pub uses-of : (preds : List PredDef) (a : Assertion) → CanExpand preds a → AllByRecursion (IsRightUse preds (length (reverse preds))) (uses_in a)
uses-of preds a can = subst (λ (n : ℕ). AllByRecursion (IsRightUse preds n) (uses_in a)) (sym (length-reverse preds)) can.uses

pub uses-expansion : (preds : List PredDef) (a : Assertion) → CanExpand preds a → uses_in (expansion preds a) ≡ []
uses-expansion preds a can = uses-bodies preds (reverse preds) (known-of preds a can) a (uses-of preds a can)

pub SatAll-expansion : (types : List TypeEntry) (preds : List PredDef) (s : StoreMap) (e : Environment) (a : Assertion) → CanExpand preds a →
    SatAll types preds s e a ↔ SatAll types [] s e (expansion preds a)
SatAll-expansion types preds s e a can = turned (Holds-bodies preds (reverse preds) (known-of preds a can) types s a e (uses-of preds a can))

pub Sat-expansion : (types : List TypeEntry) (vars : List VarEntry) (preds : List PredDef) (s : StoreMap) (on : Region) (e : Environment)
    (a : Assertion) → CanExpand preds a → Sat types vars preds s on e a ↔ Sat types vars [] s on e (expansion preds a)
Sat-expansion types vars preds s region.All e a can = SatAll-expansion types preds s e a can
Sat-expansion types vars preds s (region.Part roots) e a can =
    some-both (λ cells. itself) (λ cells. SatAll-expansion types preds (store_on s cells) e a can)
Sat-expansion types vars preds s (region.Rest roots) e a can =
    some-both (λ cells. itself) (λ cells. SatAll-expansion types preds (store_on s cells) e a can)
