-- Folds over assertions that read a list at the uses of predicates: they need no more of the list than the assertion uses, so the
-- body of each predicate of a list is read alike by the list up to it and by the whole.
use Rattle.std.proofs.Common.{◌≡◌, ◌≢◌, ◌==◌, ℕ, zero, suc, ◌<◌, ◌≤◌, Bool, true, false, Option, Some, List, [], ◌∷◌, ◌++◌, length, reverse, slice_get}
use Rattle.std.proofs.Common.{sym, refl, ap, ap₂, ◌∙◌, subst, arith, append_assoc, append-nil, eqb-true}
use Rattle.std.specs.List.{AllByRecursion}
use Rattle.std.proofs.lemmas.Bool.{eqb-false}
use Rattle.std.proofs.lemmas.List.{reverse-append, reverse-reverse, length-reverse, length-append}
use Rattle.store_logic.specs.declared.arg.Arg.{Arg}
use Rattle.store_logic.specs.declared.assertion.Assertion.{Assertion}
use Rattle.store_logic.specs.declared.assertion.Assertion.TheVariants as assertion
use Rattle.store_logic.specs.declared.assertion.Assertion.TheOpen.{Assertion-F}
use Rattle.store_logic.specs.declared.assertion.Assertion.TheFolds.{fold-Assertion}
use Rattle.store_logic.specs.declared.pred.PredDef.{PredDef}
use Rattle.store_logic.specs.Uses.{uses_in}
use Rattle.store_logic.proofs.AssertionLemmas.{assertion-induction}
use Rattle.store_logic.proofs.AssertionLemmas.{fold-True, fold-False, fold-Truth, fold-Is, fold-Same, fold-Member, fold-Subset, fold-Walk, fold-Pred}
use Rattle.store_logic.proofs.AssertionLemmas.{fold-Not, fold-And, fold-Or, fold-Imp, fold-Iff, fold-Ex, fold-All, fold-ExSet, fold-AllSet}
use Rattle.store_logic.proofs.ExpandingForms.{uses-Pred, uses-Not, uses-And, uses-Or, uses-Imp, uses-Iff, uses-Ex, uses-All, uses-ExSet, uses-AllSet}
use Rattle.store_logic.proofs.ExpandingLists.{slice_get-first, slice_get-seam, all-first, all-second}

-- a use of a predicate before this one
abbrev pub IsBefore : ℕ → ℕ × List Arg → Type 0
IsBefore n u = u.0 < n

module _ {X : Type 0} (use_of : Option X → ℕ → List Arg → X) (plain : Assertion-F X → X) where
  abbrev read_node : List X → Assertion-F X → X
  read_node xs (Assertion-F.Pred k args) = use_of (slice_get xs k) k args
  read_node xs other = plain other

  abbrev read : List X → Assertion → X
  read xs = fold-Assertion X (read_node xs)

  module _ (xs ys : List X) (n : ℕ) (agree : (k : ℕ) → k < n → slice_get xs k ≡ slice_get ys k) where
    abbrev Uses : List (ℕ × List Arg) → Type 0
    Uses = AllByRecursion (IsBefore n)

    abbrev IsSame : Assertion → Type 0
    IsSame a = Uses (uses_in a) → read xs a ≡ read ys a

    own : {us vs : List (ℕ × List Arg)} → us ≡ vs → Uses us → Uses vs
    own same h = subst Uses same h

    one : (make : X → Assertion-F X) (a : Assertion) (us : List (ℕ × List Arg)) → us ≡ uses_in a → IsSame a → Uses us →
        plain (make (read xs a)) ≡ plain (make (read ys a))
    one make a us same of_a h = ap (λ z. plain (make z)) (of_a (own same h))

    two : (make : X → X → Assertion-F X) (a b : Assertion) (us : List (ℕ × List Arg)) → us ≡ uses_in a ++ uses_in b → IsSame a → IsSame b → Uses us →
        plain (make (read xs a) (read xs b)) ≡ plain (make (read ys a) (read ys b))
    two make a b us same of_a of_b h = ap₂ (λ y z. plain (make y z)) (of_a (all-first (IsBefore n) (uses_in a) (uses_in b) (own same h)))
        (of_b (all-second (IsBefore n) (uses_in a) (uses_in b) (own same h)))

    abbrev sx : Assertion-F X → X
    sx = read_node xs

    abbrev sy : Assertion-F X → X
    sy = read_node ys

    pub same-read : (a : Assertion) → IsSame a
    same-read = assertion-induction IsSame (record {
      of_True = λ h. fold-True X sx ∙ sym (fold-True X sy);
      of_False = λ h. fold-False X sx ∙ sym (fold-False X sy);
      of_Truth = λ t h. fold-Truth X sx t ∙ sym (fold-Truth X sy t);
      of_Is = λ t v h. fold-Is X sx t v ∙ sym (fold-Is X sy t v);
      of_Same = λ t u h. fold-Same X sx t u ∙ sym (fold-Same X sy t u);
      of_Member = λ t set h. fold-Member X sx t set ∙ sym (fold-Member X sy t set);
      of_Subset = λ set other h. fold-Subset X sx set other ∙ sym (fold-Subset X sy set other);
      of_Walk = λ t along u h. fold-Walk X sx t along u ∙ sym (fold-Walk X sy t along u);
      of_Pred = λ k args h. fold-Pred X sx k args ∙ ap (λ o. use_of o k args) (agree k (own (uses-Pred k args) h).0) ∙ sym (fold-Pred X sy k args);
      of_Not = λ a of_a h. fold-Not X sx a ∙ one Assertion-F.Not a (uses_in (assertion.Not a)) (uses-Not a) of_a h ∙ sym (fold-Not X sy a);
      of_And = λ a b of_a of_b h.
          fold-And X sx a b ∙ two Assertion-F.And a b (uses_in (assertion.And a b)) (uses-And a b) of_a of_b h ∙ sym (fold-And X sy a b);
      of_Or = λ a b of_a of_b h.
          fold-Or X sx a b ∙ two Assertion-F.Or a b (uses_in (assertion.Or a b)) (uses-Or a b) of_a of_b h ∙ sym (fold-Or X sy a b);
      of_Imp = λ a b of_a of_b h.
          fold-Imp X sx a b ∙ two Assertion-F.Imp a b (uses_in (assertion.Imp a b)) (uses-Imp a b) of_a of_b h ∙ sym (fold-Imp X sy a b);
      of_Iff = λ a b of_a of_b h.
          fold-Iff X sx a b ∙ two Assertion-F.Iff a b (uses_in (assertion.Iff a b)) (uses-Iff a b) of_a of_b h ∙ sym (fold-Iff X sy a b);
      of_Ex = λ ty a of_a h. fold-Ex X sx ty a ∙ one (Assertion-F.Ex ty) a (uses_in (assertion.Ex ty a)) (uses-Ex ty a) of_a h ∙ sym (fold-Ex X sy ty a);
      of_All = λ ty a of_a h. fold-All X sx ty a ∙ one (Assertion-F.All ty) a (uses_in (assertion.All ty a)) (uses-All ty a) of_a h ∙ sym (fold-All X sy ty a);
      of_ExSet = λ ty a of_a h.
          fold-ExSet X sx ty a ∙ one (Assertion-F.ExSet ty) a (uses_in (assertion.ExSet ty a)) (uses-ExSet ty a) of_a h ∙ sym (fold-ExSet X sy ty a);
      of_AllSet = λ ty a of_a h.
          fold-AllSet X sx ty a ∙ one (Assertion-F.AllSet ty) a (uses_in (assertion.AllSet ty a)) (uses-AllSet ty a) of_a h ∙ sym (fold-AllSet X sy ty a);
    })

  -- ---- what is read of each body, in a list of predicates, the last of them first

  abbrev bodies : List PredDef → List X
  bodies [] = []
  bodies (p ∷ earlier) = bodies earlier ++ read (bodies earlier) p.body ∷ []

  pub length-bodies : (l : List PredDef) → length (bodies l) ≡ length l
  length-bodies [] = refl
  length-bodies (p ∷ earlier) =
      let rest : length (bodies earlier) ≡ length earlier = length-bodies earlier in
      length-append (bodies earlier) (read (bodies earlier) p.body ∷ []) ∙ omega arith

  -- a longer list reads the bodies alike
  longer : (earlier : List PredDef) (x : X) (n : ℕ) → n ≤ length earlier → (a : Assertion) → AllByRecursion (IsBefore n) (uses_in a) →
      read (bodies earlier) a ≡ read (bodies earlier ++ x ∷ []) a
  longer earlier x n within a h = same-read (bodies earlier) (bodies earlier ++ x ∷ []) n
      (λ k below. sym (slice_get-first (bodies earlier) (x ∷ []) k
      (let inner : k < length (bodies earlier) = omega (arith, length-bodies earlier) in inner))) a h

  module _ (preds : List PredDef) (before : (k : ℕ) (p : PredDef) → slice_get preds k ≡ Some p → AllByRecursion (IsBefore k) (uses_in p.body)) where
    -- the predicates of the list, the last of them first, are the first ones
    abbrev AreFirst : List PredDef → Type 0
    AreFirst [] = Unit {0}
    AreFirst (p ∷ earlier) = (slice_get preds (length earlier) ≡ Some p) × AreFirst earlier

    AreFirst-reverse : (l rest : List PredDef) → preds ≡ reverse l ++ rest → AreFirst l
    AreFirst-reverse [] rest is = tt
    AreFirst-reverse (p ∷ earlier) rest is =
        let onto : preds ≡ reverse earlier ++ p ∷ rest =
        is ∙ ap (λ l. l ++ rest) (reverse-append (p ∷ []) earlier) ∙ append_assoc (reverse earlier) (p ∷ []) rest in (
          ap (λ ps. slice_get ps (length earlier)) onto ∙ ap (slice_get (reverse earlier ++ p ∷ rest)) (sym (length-reverse earlier))
              ∙ slice_get-seam (reverse earlier) p rest,
          AreFirst-reverse earlier (p ∷ rest) onto,
        )

    abbrev IsRead : List PredDef → ℕ → PredDef → Type 0
    IsRead l k p = slice_get (bodies l) k ≡ Some (read (bodies l) p.body)

    read-first : (l : List PredDef) → AreFirst l → (k : ℕ) (p : PredDef) → k < length l → slice_get preds k ≡ Some p → IsRead l k p
    read-first [] are k p inside at = absurd (omega arith)
    read-first (q ∷ earlier) are k p inside at = of (λ below. read-first earlier are.1 k p below at) (k == length earlier) refl
      where
        of : (k < length earlier → IsRead earlier k p) → (same : Bool) → (k == length earlier) ≡ same →
            slice_get (bodies earlier ++ read (bodies earlier) q.body ∷ []) k
            ≡ Some (read (bodies earlier ++ read (bodies earlier) q.body ∷ []) p.body)
        of rest true is =
            let place : k ≡ length earlier = eqb-true k (length earlier) is in
            let there : slice_get preds k ≡ Some q = ap (slice_get preds) place ∙ are.0 in
            let same : q ≡ p = cc in
            let within : k ≤ length earlier = omega arith in
            ap (slice_get (bodies earlier ++ read (bodies earlier) q.body ∷ [])) (place ∙ sym (length-bodies earlier))
            ∙ slice_get-seam (bodies earlier) (read (bodies earlier) q.body) []
            ∙ ap Some (longer earlier (read (bodies earlier) q.body) k within q.body (before k q there)
            ∙ ap (λ (r : PredDef). read (bodies earlier ++ read (bodies earlier) q.body ∷ []) r.body) same)
        of rest false is =
            let other : k ≢ length earlier = eqb-false k (length earlier) is in
            let below : k < length earlier = omega arith in
            let within : k ≤ length earlier = omega arith in
            slice_get-first (bodies earlier) (read (bodies earlier) q.body ∷ []) k
            (let inner : k < length (bodies earlier) = omega (arith, length-bodies earlier) in inner)
            ∙ rest below
            ∙ ap Some (longer earlier (read (bodies earlier) q.body) k within p.body (before k p at))

    some-inside : {Y : Type 0} (ys : List Y) (k : ℕ) (y : Y) → slice_get ys k ≡ Some y → k < length ys
    some-inside [] k y at = absurd cc
    some-inside (z ∷ ys) zero y at = omega arith
    some-inside (z ∷ ys) (suc k) y at = let rest : k < length ys = some-inside ys k y at in omega arith

    -- what stands in the list for a predicate is read of its body by the whole list
    pub read-at : (k : ℕ) (p : PredDef) → slice_get preds k ≡ Some p → IsRead (reverse preds) k p
    read-at k p at = read-first (reverse preds) (AreFirst-reverse (reverse preds) []
        (sym (append-nil (reverse (reverse preds)) ∙ reverse-reverse preds)))
        k p (let inner : k < length (reverse preds) = omega (arith, length-reverse preds, some-inside preds k p at) in inner) at
