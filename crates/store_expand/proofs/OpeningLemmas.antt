-- What stands in the place of an assertion: a use's body expands to what the use does, and any other form is made of its parts.
use Rattle.std.proofs.Common.{◌≡◌, ℕ, zero, suc, ◌+◌, ◌<◌, List, [], ◌∷◌, ◌++◌, length, map, flat_map, reverse, slice_get, Option, Some, None}
use Rattle.std.proofs.Common.{IfSome, IsSomeAnd, unwrap_or, sym, refl, ap, ◌∙◌, subst, arith}
use Rattle.std.specs.Prelude.{option_map, sum_by}
use Rattle.std.specs.Option.{option_map_or}
use Rattle.std.specs.List.{AllByRecursion}
use Rattle.std.proofs.lemmas.List.{length-reverse}
use Rattle.store_logic.specs.declared.arg.Arg.{Arg}
use Rattle.store_logic.specs.declared.assertion.Assertion.{Assertion, out-Assertion, roll-Assertion, out-roll-Assertion}
use Rattle.store_logic.specs.declared.assertion.Assertion.TheVariants as assertion
use Rattle.store_logic.specs.declared.assertion.Assertion.TheVariants.{rolls-True, rolls-False, rolls-Truth, rolls-Is, rolls-Same, rolls-Member, rolls-Subset}
use Rattle.store_logic.specs.declared.assertion.Assertion.TheVariants.{rolls-Walk, rolls-Pred, rolls-Not, rolls-And, rolls-Or, rolls-Imp, rolls-Iff}
use Rattle.store_logic.specs.declared.assertion.Assertion.TheVariants.{rolls-Ex, rolls-All, rolls-ExSet, rolls-AllSet}
use Rattle.store_logic.specs.declared.assertion.Assertion.TheOpen.{Assertion-F}
use Rattle.store_logic.specs.declared.assertion.Assertion.TheFolds.{ind-Assertion, map-Assertion, fold-roll-Assertion}
use Rattle.store_logic.specs.declared.pred.PredDef.{PredDef}
use Rattle.store_logic.specs.Filling.{args_for, filled, put_in}
use Rattle.store_logic.specs.Expansion.{with_bodies, expanded_bodies}
use Rattle.store_logic.specs.Postfix.{Form, parts_of, postfix_of, postfix_of_node, form_count_of_node}
use Rattle.store_logic.specs.Uses.{names_in, uses_in, IsGiven, IsRightUse, IsBodyAt, CanExpand}
use Rattle.store_logic.proofs.AssertionLemmas.{fold-True, fold-False, fold-Is, fold-Same, fold-Member, fold-Subset, fold-Walk, fold-Pred}
use Rattle.store_logic.proofs.AssertionLemmas.{fold-Not, fold-And, fold-Or, fold-Imp, fold-Iff, fold-Ex, fold-All, fold-ExSet, fold-AllSet}
use Rattle.store_logic.proofs.ExpandingForms.{bodies-True, bodies-False, bodies-Truth, bodies-Is, bodies-Same, bodies-Member, bodies-Subset, bodies-Walk}
use Rattle.store_logic.proofs.ExpandingForms.{bodies-Pred}
use Rattle.store_logic.proofs.ExpandingForms.{bodies-Not, bodies-And, bodies-Or, bodies-Imp, bodies-Iff, bodies-Ex, bodies-All, bodies-ExSet, bodies-AllSet}
use Rattle.store_logic.proofs.ExpandingForms.{uses-Pred, uses-Not, uses-And, uses-Or, uses-Imp, uses-Iff, uses-Ex, uses-All, uses-ExSet, uses-AllSet}
use Rattle.store_logic.proofs.ExpandingLists.{all-first, all-second}
use Rattle.store_logic.proofs.ExpandingTerms.{IsBoth}
use Rattle.store_logic.proofs.ExpandingTwice.{through, filled-twice}
use Rattle.store_logic.proofs.ExpandingBodies.{known-of}
use Rattle.store_expand.specs.Standing.{Standing, in_body, put_args, put_whole}
use Rattle.store_expand.specs.Opening.{Spot, expanded_at, body_of_node, inside, form_of_node, steps_of_node, steps_with, body_steps}
use Rattle.store_expand.proofs.ReadingLemmas.{IsBefore, read-at, length-bodies}
use Rattle.store_expand.proofs.SpotLemmas.{stands, put_args-none, put_args-some, leaf-put_truth}
use Rattle.store_expand.proofs.SpotLemmas.{put-True, put-False, put-Truth, put-Is, put-Same, put-Member, put-Subset, put-Walk, put-Pred}
use Rattle.store_expand.proofs.SpotLemmas.{put-Not, put-And, put-Or, put-Imp, put-Iff, put-Ex, put-All, put-ExSet, put-AllSet}

-- ---- forms with parts

module _ (preds : List PredDef) (bodies : List Assertion) (ends : (k : ℕ) → slice_get preds k ≡ None → slice_get bodies k ≡ None)
    (o : Option (List Arg)) (d : ℕ) where
  abbrev w : Standing
  w = stands o d

  -- the forms of what the form expands to
  abbrev forms : Assertion → List Form
  forms a = postfix_of (put_whole w (with_bodies bodies a))

  abbrev split_node : Assertion-F Assertion → List Form
  split_node x = flat_map (λ at. postfix_of (expanded_at bodies at)) (map (λ part. (part, inside w x)) (parts_of Assertion x)) ++ form_of_node w x ∷ []

  -- from the node to the assertion, and to what it expands to
  from : (x : Assertion-F Assertion) (a b : Assertion) → roll-Assertion x ≡ a → put_whole w (with_bodies bodies a) ≡ b →
      postfix_of b ≡ split_node x → forms (roll-Assertion x) ≡ split_node x
  from x a b rolls is split = ap forms rolls ∙ ap postfix_of is ∙ split

  -- with the bodies put in, and then the arguments
  onto : (a b c : Assertion) → with_bodies bodies a ≡ b → put_whole w b ≡ c → put_whole w (with_bodies bodies a) ≡ c
  onto a b c is then = ap (put_whole w) is ∙ then

  no_body : (k : ℕ) (xs : List Arg) → option_map {U = Spot} (λ p. (p.body, in_body (put_args w xs))) (slice_get preds k) ≡ None →
      with_bodies bodies (assertion.Pred k xs) ≡ assertion.Pred k xs
  no_body k xs none = bodies-Pred bodies k xs
      ∙ ap (λ (o : Option Assertion). option_map_or (put_in xs) o (assertion.Pred k xs)) (ends k (of (slice_get preds k) none))
    where
      of : (found : Option PredDef) → option_map {U = Spot} (λ p. (p.body, in_body (put_args w xs))) found ≡ None → found ≡ None
      of None e = refl
      of (Some p) e = absurd cc

  split : (x : Assertion-F Assertion) → body_of_node preds w x ≡ None → forms (roll-Assertion x) ≡ split_node x
  split Assertion-F.True none = from _ _ _ rolls-True (onto _ _ _ (bodies-True bodies) (put-True o d)) (fold-True (List Form) postfix_of_node)
  split Assertion-F.False none = from _ _ _ rolls-False (onto _ _ _ (bodies-False bodies) (put-False o d)) (fold-False (List Form) postfix_of_node)
  split (Assertion-F.Truth t) none = from _ _ _ (rolls-Truth t) (onto _ _ _ (bodies-Truth bodies t) (put-Truth o d t)) (leaf-put_truth o d t).0
  split (Assertion-F.Is t v) none = from _ _ _ (rolls-Is t v) (onto _ _ _ (bodies-Is bodies t v) (put-Is o d t v)) (fold-Is (List Form) postfix_of_node _ v)
  split (Assertion-F.Same t u) none =
      from _ _ _ (rolls-Same t u) (onto _ _ _ (bodies-Same bodies t u) (put-Same o d t u)) (fold-Same (List Form) postfix_of_node _ _)
  split (Assertion-F.Member t set) none =
      from _ _ _ (rolls-Member t set) (onto _ _ _ (bodies-Member bodies t set) (put-Member o d t set)) (fold-Member (List Form) postfix_of_node _ _)
  split (Assertion-F.Subset set other) none =
      from _ _ _ (rolls-Subset set other) (onto _ _ _ (bodies-Subset bodies set other) (put-Subset o d set other)) (fold-Subset (List Form) postfix_of_node _ _)
  split (Assertion-F.Walk t along u) none =
      from _ _ _ (rolls-Walk t along u) (onto _ _ _ (bodies-Walk bodies t along u) (put-Walk o d t along u)) (fold-Walk (List Form) postfix_of_node _ along _)
  split (Assertion-F.Pred k xs) none =
      from _ _ _ (rolls-Pred k xs) (onto _ _ _ (no_body k xs none) (put-Pred o d k xs)) (fold-Pred (List Form) postfix_of_node k _)
  split (Assertion-F.Not a) none = from _ _ _ (rolls-Not a) (onto _ _ _ (bodies-Not bodies a) (put-Not o d _)) (fold-Not (List Form) postfix_of_node _)
  split (Assertion-F.And a b) none =
      from _ _ _ (rolls-And a b) (onto _ _ _ (bodies-And bodies a b) (put-And o d _ _)) (fold-And (List Form) postfix_of_node _ _)
  split (Assertion-F.Or a b) none = from _ _ _ (rolls-Or a b) (onto _ _ _ (bodies-Or bodies a b) (put-Or o d _ _)) (fold-Or (List Form) postfix_of_node _ _)
  split (Assertion-F.Imp a b) none =
      from _ _ _ (rolls-Imp a b) (onto _ _ _ (bodies-Imp bodies a b) (put-Imp o d _ _)) (fold-Imp (List Form) postfix_of_node _ _)
  split (Assertion-F.Iff a b) none =
      from _ _ _ (rolls-Iff a b) (onto _ _ _ (bodies-Iff bodies a b) (put-Iff o d _ _)) (fold-Iff (List Form) postfix_of_node _ _)
  split (Assertion-F.Ex ty a) none =
      from _ _ _ (rolls-Ex ty a) (onto _ _ _ (bodies-Ex bodies ty a) (put-Ex o d ty _)) (fold-Ex (List Form) postfix_of_node ty _)
  split (Assertion-F.All ty a) none =
      from _ _ _ (rolls-All ty a) (onto _ _ _ (bodies-All bodies ty a) (put-All o d ty _)) (fold-All (List Form) postfix_of_node ty _)
  split (Assertion-F.ExSet ty a) none =
      from _ _ _ (rolls-ExSet ty a) (onto _ _ _ (bodies-ExSet bodies ty a) (put-ExSet o d ty _)) (fold-ExSet (List Form) postfix_of_node ty _)
  split (Assertion-F.AllSet ty a) none =
      from _ _ _ (rolls-AllSet ty a) (onto _ _ _ (bodies-AllSet bodies ty a) (put-AllSet o d ty _)) (fold-AllSet (List Form) postfix_of_node ty _)

  -- the forms of what a form expands to are those of its parts, and its own
  pub forms-split : (a : Assertion) → body_of_node preds w (out-Assertion a) ≡ None → forms a ≡ split_node (out-Assertion a)
  forms-split = ind-Assertion (λ a. body_of_node preds w (out-Assertion a) ≡ None → forms a ≡ split_node (out-Assertion a))
      (λ x y is none. split x (ap (body_of_node preds w) (sym (out-roll-Assertion x)) ∙ none) ∙ ap split_node (sym (out-roll-Assertion x)))

-- ---- what the parts use, and how many steps they take

module _ (preds : List PredDef) where
  abbrev pub Right : Assertion → Type 0
  Right a = AllByRecursion (IsRightUse preds (length preds)) (uses_in a)

  own : {us vs : List (ℕ × List Arg)} → us ≡ vs → AllByRecursion (IsRightUse preds (length preds)) us → AllByRecursion (IsRightUse preds (length preds)) vs
  own same h = subst (AllByRecursion (IsRightUse preds (length preds))) same h

  -- the uses of one part, and of two
  one : (a c : Assertion) (x : Assertion-F Assertion) → roll-Assertion x ≡ c → uses_in c ≡ uses_in a → Right (roll-Assertion x) → Right a × Unit {0}
  one a c x rolls is h = (own (ap uses_in rolls ∙ is) h, tt)

  two : (a b c : Assertion) (x : Assertion-F Assertion) → roll-Assertion x ≡ c → uses_in c ≡ uses_in a ++ uses_in b → Right (roll-Assertion x) →
      Right a × (Right b × Unit {0})
  two a b c x rolls is h = (
    all-first (IsRightUse preds (length preds)) (uses_in a) (uses_in b) (own (ap uses_in rolls ∙ is) h),
    (all-second (IsRightUse preds (length preds)) (uses_in a) (uses_in b) (own (ap uses_in rolls ∙ is) h), tt),
  )

  right-node : (x : Assertion-F Assertion) → Right (roll-Assertion x) → AllByRecursion Right (parts_of Assertion x)
  right-node Assertion-F.True h = tt
  right-node Assertion-F.False h = tt
  right-node (Assertion-F.Truth t) h = tt
  right-node (Assertion-F.Is t v) h = tt
  right-node (Assertion-F.Same t u) h = tt
  right-node (Assertion-F.Member t set) h = tt
  right-node (Assertion-F.Subset set other) h = tt
  right-node (Assertion-F.Walk t along u) h = tt
  right-node (Assertion-F.Pred k args) h = tt
  right-node (Assertion-F.Not a) h = one a _ (Assertion-F.Not a) (rolls-Not a) (uses-Not a) h
  right-node (Assertion-F.And a b) h = two a b _ (Assertion-F.And a b) (rolls-And a b) (uses-And a b) h
  right-node (Assertion-F.Or a b) h = two a b _ (Assertion-F.Or a b) (rolls-Or a b) (uses-Or a b) h
  right-node (Assertion-F.Imp a b) h = two a b _ (Assertion-F.Imp a b) (rolls-Imp a b) (uses-Imp a b) h
  right-node (Assertion-F.Iff a b) h = two a b _ (Assertion-F.Iff a b) (rolls-Iff a b) (uses-Iff a b) h
  right-node (Assertion-F.Ex ty a) h = one a _ (Assertion-F.Ex ty a) (rolls-Ex ty a) (uses-Ex ty a) h
  right-node (Assertion-F.All ty a) h = one a _ (Assertion-F.All ty a) (rolls-All ty a) (uses-All ty a) h
  right-node (Assertion-F.ExSet ty a) h = one a _ (Assertion-F.ExSet ty a) (rolls-ExSet ty a) (uses-ExSet ty a) h
  right-node (Assertion-F.AllSet ty a) h = one a _ (Assertion-F.AllSet ty a) (rolls-AllSet ty a) (uses-AllSet ty a) h

  -- the parts of an assertion with right uses have right uses
  pub parts-right : (a : Assertion) → Right a → AllByRecursion Right (parts_of Assertion (out-Assertion a))
  parts-right = ind-Assertion (λ a. Right a → AllByRecursion Right (parts_of Assertion (out-Assertion a)))
      (λ x y is h. subst (λ z. AllByRecursion Right (parts_of Assertion z)) (sym (out-roll-Assertion x)) (right-node x h))

module _ (S : List ℕ) where
  more : (n : ℕ) → n < n + 1
  more n = omega arith

  steps-node : (x : Assertion-F Assertion) → sum_by (steps_with S) (parts_of Assertion x) < steps_of_node S (map-Assertion Assertion ℕ (steps_with S) x)
  steps-node Assertion-F.True = more 0
  steps-node Assertion-F.False = more 0
  steps-node (Assertion-F.Truth t) = more 0
  steps-node (Assertion-F.Is t v) = more 0
  steps-node (Assertion-F.Same t u) = more 0
  steps-node (Assertion-F.Member t set) = more 0
  steps-node (Assertion-F.Subset set other) = more 0
  steps-node (Assertion-F.Walk t along u) = more 0
  steps-node (Assertion-F.Pred k args) = let some : 0 < unwrap_or (slice_get S k) 0 + 1 = omega arith in some
  steps-node (Assertion-F.Not a) = more _
  steps-node (Assertion-F.And a b) = more _
  steps-node (Assertion-F.Or a b) = more _
  steps-node (Assertion-F.Imp a b) = more _
  steps-node (Assertion-F.Iff a b) = more _
  steps-node (Assertion-F.Ex ty a) = more _
  steps-node (Assertion-F.All ty a) = more _
  steps-node (Assertion-F.ExSet ty a) = more _
  steps-node (Assertion-F.AllSet ty a) = more _

  -- the parts take fewer steps than the whole
  pub parts-steps : (a : Assertion) → sum_by (steps_with S) (parts_of Assertion (out-Assertion a)) < steps_with S a
  parts-steps = ind-Assertion (λ a. sum_by (steps_with S) (parts_of Assertion (out-Assertion a)) < steps_with S a)
      (λ x y is. subst (λ z. sum_by (steps_with S) (parts_of Assertion z) < steps_with S (roll-Assertion x)) (sym (out-roll-Assertion x))
      (subst (λ (n : ℕ). sum_by (steps_with S) (parts_of Assertion x) < n) (sym (fold-roll-Assertion ℕ (steps_of_node S) x)) (steps-node x)))

-- ---- a predicate's use

all-as : {X : Type 0} (P Q : X → Type 0) → ((x : X) → P x → Q x) → (xs : List X) → AllByRecursion P xs → AllByRecursion Q xs
all-as P Q f [] h = tt
all-as P Q f (x ∷ xs) h = (f x h.0, all-as P Q f xs h.1)

inside-some : {Y : Type 0} (ys : List Y) (k : ℕ) (y : Y) → slice_get ys k ≡ Some y → k < length ys
inside-some [] k y at = absurd cc
inside-some (z ∷ ys) zero y at = omega arith
inside-some (z ∷ ys) (suc k) y at = let rest : k < length ys = inside-some ys k y at in omega arith

none-past : {Y Z : Type 0} (ys : List Y) (zs : List Z) → length ys ≡ length zs → (k : ℕ) → slice_get ys k ≡ None → slice_get zs k ≡ None
none-past [] [] same k none = refl
none-past [] (z ∷ zs) same k none = absurd (omega arith)
none-past (y ∷ ys) [] same k none = absurd (omega arith)
none-past (y ∷ ys) (z ∷ zs) same zero none = absurd cc
none-past (y ∷ ys) (z ∷ zs) same (suc k) none = none-past ys zs (let rest : length ys ≡ length zs = omega arith in rest) k none

module _ (preds : List PredDef) (whole : Assertion) (can : CanExpand preds whole) where
  abbrev B : List Assertion
  B = expanded_bodies (reverse preds)

  abbrev S : List ℕ
  S = body_steps (reverse preds)

  is_body : (k : ℕ) (p : PredDef) → slice_get preds k ≡ Some p → IsBodyAt preds k p
  is_body k p at = subst (λ (o : Option PredDef). IfSome o (IsBodyAt preds k)) at (can.bodies k)

  before : (k : ℕ) (p : PredDef) → slice_get preds k ≡ Some p → AllByRecursion (IsBefore k) (uses_in p.body)
  before k p at = all-as (IsRightUse preds k) (IsBefore k) (λ u h. h.among) (uses_in p.body) (is_body k p at).uses

  -- the body with its predicates put in stands in the list
  body_is : (k : ℕ) (p : PredDef) → slice_get preds k ≡ Some p → slice_get B k ≡ Some (with_bodies B p.body)
  body_is = read-at (λ o k args. option_map_or (put_in args) o (assertion.Pred k args)) roll-Assertion preds before

  steps_is : (k : ℕ) (p : PredDef) → slice_get preds k ≡ Some p → slice_get S k ≡ Some (steps_with S p.body)
  steps_is = read-at (λ o k args. unwrap_or o 0 + 1) form_count_of_node preds before

  pub ends : (k : ℕ) → slice_get preds k ≡ None → slice_get B k ≡ None
  ends = none-past preds B (sym (length-bodies (λ o k args. option_map_or (put_in args) o (assertion.Pred k args)) roll-Assertion (reverse preds)
      ∙ length-reverse preds))

  abbrev given : List Arg → PredDef → Type 0
  given xs p = (length xs ≡ p.params) × AllByRecursion (IsGiven xs) (names_in p.body)

  gets : (k : ℕ) (xs : List Arg) (p : PredDef) → slice_get preds k ≡ Some p → IsRightUse preds (length preds) (k, xs) →
      AllByRecursion (IsGiven xs) (names_in (with_bodies B p.body))
  gets k xs p at h =
      let inner : k < length (reverse preds) = omega (arith, length-reverse preds, h.among) in
      let known = known-of preds whole can k p inner at in
      let same : known.0 ≡ with_bodies B p.body = of (sym known.1 ∙ body_is k p at) in
      subst (λ (b : Assertion). AllByRecursion (IsGiven xs) (names_in b)) same
      (all-as (IsBoth p.params xs) (IsGiven xs) (λ n both. both.1) (names_in known.0)
      (known.2.names xs (subst (λ (o : Option PredDef). IsSomeAnd o (given xs)) at h.args).1))
    where
      of : {b c : Assertion} → Some b ≡ Some c → b ≡ c
      of e = cc

  -- arguments put into a use that is opened
  put-again : (o : Option (List Arg)) (d : ℕ) (xs : List Arg) (b : Assertion) → AllByRecursion (IsGiven xs) (names_in b) →
      put_whole (stands o d) (put_in xs b) ≡ put_in (put_args (stands o d) xs) b
  put-again None d xs b h = ap (λ (l : List Arg). put_in l b) (sym (put_args-none d xs))
  put-again (Some args) d xs b h =
      subst (λ (n : ℕ). filled (args_for args) (put_in xs b) n ≡ put_in (through args d xs) b)
      (let same : d + 0 ≡ d = omega arith in same) (filled-twice args d xs b 0 h)
      ∙ ap (λ (l : List Arg). put_in l b) (sym (put_args-some args d xs))

  -- a body that stands in the place of a use
  pub record Opens (a : Assertion) (w : Standing) (body : Spot) : Type 0 where
    pub same : expanded_at B (a, w) ≡ expanded_at B body
    pub right : Right preds body.0
    pub less : steps_with S body.0 < steps_with S a

  opens-use : (o : Option (List Arg)) (d k : ℕ) (xs : List Arg) (p : PredDef) → slice_get preds k ≡ Some p →
      IsRightUse preds (length preds) (k, xs) → Opens (assertion.Pred k xs) (stands o d) (p.body, in_body (put_args (stands o d) xs))
  opens-use o d k xs p at h = record {
    same = ap (put_whole (stands o d)) (bodies-Pred B k xs
        ∙ ap (λ (found : Option Assertion). option_map_or (put_in xs) found (assertion.Pred k xs)) (body_is k p at))
        ∙ put-again o d xs (with_bodies B p.body) (gets k xs p at h);
    right = all-as (IsRightUse preds k) (IsRightUse preds (length preds))
        (λ u right. record { among = within u right.among; args = right.args }) (uses_in p.body) (is_body k p at).uses;
    less = subst (λ (n : ℕ). steps_with S p.body < n)
        (sym (fold-Pred ℕ (steps_of_node S) k xs ∙ ap (λ (found : Option ℕ). unwrap_or found 0 + 1) (steps_is k p at)))
        (more S (steps_with S p.body));
  }
    where
      within : (u : ℕ × List Arg) → u.0 < k → u.0 < length preds
      within u below = let inner : k < length preds = h.among in omega arith

  module _ (o : Option (List Arg)) (d : ℕ) (body : Spot) where
    no : {P : Type 0} → None ≡ Some body → P
    no e = absurd cc

    opens-node : (x : Assertion-F Assertion) → Right preds (roll-Assertion x) → body_of_node preds (stands o d) x ≡ Some body →
        Opens (roll-Assertion x) (stands o d) body
    opens-node Assertion-F.True h e = no e
    opens-node Assertion-F.False h e = no e
    opens-node (Assertion-F.Truth t) h e = no e
    opens-node (Assertion-F.Is t v) h e = no e
    opens-node (Assertion-F.Same t u) h e = no e
    opens-node (Assertion-F.Member t set) h e = no e
    opens-node (Assertion-F.Subset set other) h e = no e
    opens-node (Assertion-F.Walk t along u) h e = no e
    opens-node (Assertion-F.Pred k xs) h e = of (slice_get preds k) refl e
      where
        of : (found : Option PredDef) → slice_get preds k ≡ found →
            option_map {U = Spot} (λ p. (p.body, in_body (put_args (stands o d) xs))) found ≡ Some body →
            Opens (roll-Assertion (Assertion-F.Pred k xs)) (stands o d) body
        of None at e = no e
        of (Some p) at e =
            let it : Spot = (p.body, in_body (put_args (stands o d) xs)) in
            let is : it ≡ body = cc in
            subst (λ (a : Assertion). Opens a (stands o d) body) (sym (rolls-Pred k xs))
            (subst (Opens (assertion.Pred k xs) (stands o d)) is
            (opens-use o d k xs p at (subst (AllByRecursion (IsRightUse preds (length preds))) (ap uses_in (rolls-Pred k xs) ∙ uses-Pred k xs) h).0))
    opens-node (Assertion-F.Not a) h e = no e
    opens-node (Assertion-F.And a b) h e = no e
    opens-node (Assertion-F.Or a b) h e = no e
    opens-node (Assertion-F.Imp a b) h e = no e
    opens-node (Assertion-F.Iff a b) h e = no e
    opens-node (Assertion-F.Ex ty a) h e = no e
    opens-node (Assertion-F.All ty a) h e = no e
    opens-node (Assertion-F.ExSet ty a) h e = no e
    opens-node (Assertion-F.AllSet ty a) h e = no e

    pub opens : (a : Assertion) → Right preds a → body_of_node preds (stands o d) (out-Assertion a) ≡ Some body → Opens a (stands o d) body
    opens = ind-Assertion (λ a. Right preds a → body_of_node preds (stands o d) (out-Assertion a) ≡ Some body → Opens a (stands o d) body)
        (λ x y is h e. opens-node x h (ap (body_of_node preds (stands o d)) (sym (out-roll-Assertion x)) ∙ e))
