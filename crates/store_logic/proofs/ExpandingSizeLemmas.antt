-- How large an assertion becomes with its predicates put in: by how large their bodies become, and form by form.
use Rattle.std.proofs.Common.{◌≡◌, ℕ, ◌+◌, ◌*◌, ◌≤◌, Option, Some, None, unwrap_or, List, [], ◌∷◌, map, slice_get}
use Rattle.std.proofs.Common.{sym, refl, ap, ap₂, ◌∙◌, subst, arith}
use Rattle.std.specs.Prelude.{option_map}
use Rattle.std.specs.List.{AllByRecursion}
use Rattle.std.specs.Option.{option_map_or}
use Rattle.std.proofs.lemmas.Option.{slice_get-map}
use Rattle.std.proofs.Math.Nat.{mul-add, mul_left_comm, mul_assoc}
use Rattle.store_logic.specs.declared.arg.Arg.{Arg}
use Rattle.store_logic.specs.declared.assertion.Assertion.{Assertion, out-Assertion, roll-Assertion, out-roll-Assertion}
use Rattle.store_logic.specs.declared.assertion.Assertion.TheVariants as assertion
use Rattle.store_logic.specs.declared.assertion.Assertion.TheOpen.{Assertion-F}
use Rattle.store_logic.specs.declared.assertion.Assertion.TheFolds.{ind-Assertion, map-Assertion, fold-roll-Assertion}
use Rattle.store_logic.specs.Filling.{put_in}
use Rattle.store_logic.specs.Expansion.{expanded_node, with_bodies}
use Rattle.store_logic.specs.Postfix.{parts_of}
use Rattle.store_logic.specs.Sizes.{count_of_node, node_count}
use Rattle.store_logic.specs.ExpandingSizes.{sized_node, sized, capped, own_size_of_node, own_size, part_times_of_node, part_times, total_size}
use Rattle.store_logic.proofs.ExpandingForms.{count-Pred}
use Rattle.store_logic.proofs.ExpandingFilled.{count-filled}

-- ---- what a form adds, and its parts

module _ (sizes : List ℕ) (times : ℕ) where
  alone : (n : ℕ) → n ≡ n + 0
  alone n = omega arith

  one_part : (a : ℕ) → times * (a + 1) ≡ times * 1 + (0 + times * a)
  one_part a = omega (arith, mul-add times a 1)

  two_parts : (a b : ℕ) → times * (a + b + 1) ≡ times * 1 + (0 + times * a + times * b)
  two_parts a b = omega (arith, mul-add times (a + b) 1, mul-add times a b)

  two_parts_twice : (a b : ℕ) → times * (2 * (a + b) + 1) ≡ times * 1 + (0 + 2 * times * a + 2 * times * b)
  two_parts_twice a b = omega (
    arith,
    mul-add times (2 * (a + b)) 1,
    mul_left_comm times 2 (a + b),
    mul-add times a b,
    mul_assoc 2 times a,
    mul_assoc 2 times b,
  )

  abbrev split_node : Assertion-F Assertion → ℕ
  split_node x =
      times * own_size_of_node sizes x + total_size sizes (map (λ b. (b, part_times_of_node times x)) (parts_of Assertion x))

  split : (x : Assertion-F Assertion) → times * sized_node sizes (map-Assertion Assertion ℕ (sized sizes) x) ≡ split_node x
  split Assertion-F.True = alone (times * 1)
  split Assertion-F.False = alone (times * 1)
  split (Assertion-F.Truth t) = alone (times * 1)
  split (Assertion-F.Is t v) = alone (times * 1)
  split (Assertion-F.Same t u) = alone (times * 1)
  split (Assertion-F.Member t set) = alone (times * 1)
  split (Assertion-F.Subset set other) = alone (times * 1)
  split (Assertion-F.Walk t along u) = alone (times * 1)
  split (Assertion-F.Pred k args) = alone (times * unwrap_or (slice_get sizes k) 1)
  split (Assertion-F.Not a) = one_part (sized sizes a)
  split (Assertion-F.And a b) = two_parts (sized sizes a) (sized sizes b)
  split (Assertion-F.Or a b) = two_parts (sized sizes a) (sized sizes b)
  split (Assertion-F.Imp a b) = two_parts (sized sizes a) (sized sizes b)
  split (Assertion-F.Iff a b) = two_parts_twice (sized sizes a) (sized sizes b)
  split (Assertion-F.Ex ty a) = one_part (sized sizes a)
  split (Assertion-F.All ty a) = one_part (sized sizes a)
  split (Assertion-F.ExSet ty a) = one_part (sized sizes a)
  split (Assertion-F.AllSet ty a) = one_part (sized sizes a)

  pub sized-split : (a : Assertion) →
      times * sized sizes a ≡ times * own_size sizes a + total_size sizes (map (λ b. (b, part_times times a)) (parts_of Assertion (out-Assertion a)))
  sized-split = ind-Assertion (λ a. times * sized sizes a ≡ split_node (out-Assertion a))
      (λ x y is. ap (λ n. times * n) (fold-roll-Assertion ℕ (sized_node sizes) x)
      ∙ split x ∙ ap split_node (sym (out-roll-Assertion x)))

-- ---- sizes that are capped

cap_one : (a b : ℕ) → capped a ≡ capped b → capped (a + 1) ≡ capped (b + 1)
cap_one a b h = omega arith

cap_two : (a b c d : ℕ) → capped a ≡ capped b → capped c ≡ capped d → capped (a + c + 1) ≡ capped (b + d + 1)
cap_two a b c d h k = omega arith

cap_twice : (a b c d : ℕ) → capped a ≡ capped b → capped c ≡ capped d → capped (2 * (a + c) + 1) ≡ capped (2 * (b + d) + 1)
cap_twice a b c d h k = omega arith

capped-capped : (n : ℕ) → capped (capped n) ≡ capped n
capped-capped n = omega arith

module _ (sizes : List ℕ) where
  abbrev IsCapped : Assertion → Type 0
  IsCapped a = capped (sized (map capped sizes) a) ≡ capped (sized sizes a)

  of_pred : (k : ℕ) → capped (unwrap_or (slice_get (map capped sizes) k) 1) ≡ capped (unwrap_or (slice_get sizes k) 1)
  of_pred k = ap (λ (o : Option ℕ). capped (unwrap_or o 1)) (slice_get-map capped sizes k) ∙ of (slice_get sizes k)
    where
      of : (o : Option ℕ) → capped (unwrap_or (option_map capped o) 1) ≡ capped (unwrap_or o 1)
      of None = refl
      of (Some n) = capped-capped n

  abbrev rolled : Assertion-F ((a : Assertion) × IsCapped a) → Assertion-F Assertion
  rolled y = map-Assertion ((a : Assertion) × IsCapped a) Assertion (λ e. e.0) y

  capping : (y : Assertion-F ((a : Assertion) × IsCapped a)) →
      capped (sized_node (map capped sizes) (map-Assertion Assertion ℕ (sized (map capped sizes)) (rolled y)))
      ≡ capped (sized_node sizes (map-Assertion Assertion ℕ (sized sizes) (rolled y)))
  capping Assertion-F.True = refl
  capping Assertion-F.False = refl
  capping (Assertion-F.Truth t) = refl
  capping (Assertion-F.Is t v) = refl
  capping (Assertion-F.Same t u) = refl
  capping (Assertion-F.Member t set) = refl
  capping (Assertion-F.Subset set other) = refl
  capping (Assertion-F.Walk t along u) = refl
  capping (Assertion-F.Pred k args) = of_pred k
  capping (Assertion-F.Not a) = cap_one _ _ a.1
  capping (Assertion-F.And a b) = cap_two _ _ _ _ a.1 b.1
  capping (Assertion-F.Or a b) = cap_two _ _ _ _ a.1 b.1
  capping (Assertion-F.Imp a b) = cap_two _ _ _ _ a.1 b.1
  capping (Assertion-F.Iff a b) = cap_twice _ _ _ _ a.1 b.1
  capping (Assertion-F.Ex ty a) = cap_one _ _ a.1
  capping (Assertion-F.All ty a) = cap_one _ _ a.1
  capping (Assertion-F.ExSet ty a) = cap_one _ _ a.1
  capping (Assertion-F.AllSet ty a) = cap_one _ _ a.1

  pub sized-capped : (a : Assertion) → IsCapped a
  sized-capped = ind-Assertion IsCapped (λ x y is. subst (λ (z : Assertion-F Assertion). IsCapped (roll-Assertion z)) is
      (ap capped (fold-roll-Assertion ℕ (sized_node (map capped sizes)) (rolled y)) ∙ capping y
      ∙ sym (ap capped (fold-roll-Assertion ℕ (sized_node sizes) (rolled y)))))

-- ---- the sizes of expanded bodies

module _ (bodies : List Assertion) where
  abbrev IsSized : Assertion → Type 0
  IsSized a = sized (map node_count bodies) a ≡ node_count (with_bodies bodies a)

  use_sized : (k : ℕ) (args : List Arg) → unwrap_or (slice_get (map node_count bodies) k) 1
      ≡ node_count (option_map_or (put_in args) (slice_get bodies k) (assertion.Pred k args))
  use_sized k args = ap (λ (o : Option ℕ). unwrap_or o 1) (slice_get-map node_count bodies k) ∙ of (slice_get bodies k)
    where
      of : (o : Option Assertion) → unwrap_or (option_map node_count o) 1 ≡ node_count (option_map_or (put_in args) o (assertion.Pred k args))
      of None = sym (count-Pred k args)
      of (Some b) = sym (count-filled args b 0)

  abbrev parts : Assertion-F ((a : Assertion) × IsSized a) → Assertion-F Assertion
  parts y = map-Assertion ((a : Assertion) × IsSized a) Assertion (λ e. e.0) y

  counted : (x : Assertion-F Assertion) → node_count (roll-Assertion x) ≡ count_of_node (map-Assertion Assertion ℕ node_count x)
  counted x = fold-roll-Assertion ℕ count_of_node x

  sizing : (y : Assertion-F ((a : Assertion) × IsSized a)) →
      sized_node (map node_count bodies) (map-Assertion Assertion ℕ (sized (map node_count bodies)) (parts y))
      ≡ node_count (expanded_node bodies (map-Assertion Assertion Assertion (with_bodies bodies) (parts y)))
  sizing Assertion-F.True = sym (counted Assertion-F.True)
  sizing Assertion-F.False = sym (counted Assertion-F.False)
  sizing (Assertion-F.Truth t) = sym (counted (Assertion-F.Truth t))
  sizing (Assertion-F.Is t v) = sym (counted (Assertion-F.Is t v))
  sizing (Assertion-F.Same t u) = sym (counted (Assertion-F.Same t u))
  sizing (Assertion-F.Member t set) = sym (counted (Assertion-F.Member t set))
  sizing (Assertion-F.Subset set other) = sym (counted (Assertion-F.Subset set other))
  sizing (Assertion-F.Walk t along u) = sym (counted (Assertion-F.Walk t along u))
  sizing (Assertion-F.Pred k args) = use_sized k args
  sizing (Assertion-F.Not a) = ap (λ n. n + 1) a.1 ∙ sym (counted (Assertion-F.Not (with_bodies bodies a.0)))
  sizing (Assertion-F.And a b) = ap₂ (λ m n. m + n + 1) a.1 b.1 ∙ sym (counted (Assertion-F.And (with_bodies bodies a.0) (with_bodies bodies b.0)))
  sizing (Assertion-F.Or a b) = ap₂ (λ m n. m + n + 1) a.1 b.1 ∙ sym (counted (Assertion-F.Or (with_bodies bodies a.0) (with_bodies bodies b.0)))
  sizing (Assertion-F.Imp a b) = ap₂ (λ m n. m + n + 1) a.1 b.1 ∙ sym (counted (Assertion-F.Imp (with_bodies bodies a.0) (with_bodies bodies b.0)))
  sizing (Assertion-F.Iff a b) = ap₂ (λ m n. 2 * (m + n) + 1) a.1 b.1 ∙ sym (counted (Assertion-F.Iff (with_bodies bodies a.0) (with_bodies bodies b.0)))
  sizing (Assertion-F.Ex ty a) = ap (λ n. n + 1) a.1 ∙ sym (counted (Assertion-F.Ex ty (with_bodies bodies a.0)))
  sizing (Assertion-F.All ty a) = ap (λ n. n + 1) a.1 ∙ sym (counted (Assertion-F.All ty (with_bodies bodies a.0)))
  sizing (Assertion-F.ExSet ty a) = ap (λ n. n + 1) a.1 ∙ sym (counted (Assertion-F.ExSet ty (with_bodies bodies a.0)))
  sizing (Assertion-F.AllSet ty a) = ap (λ n. n + 1) a.1 ∙ sym (counted (Assertion-F.AllSet ty (with_bodies bodies a.0)))

  pub sized-bodies : (a : Assertion) → IsSized a
  sized-bodies = ind-Assertion IsSized (λ x y is. subst (λ (z : Assertion-F Assertion). IsSized (roll-Assertion z)) is
      (fold-roll-Assertion ℕ (sized_node (map node_count bodies)) (parts y) ∙ sizing y
      ∙ sym (ap node_count (fold-roll-Assertion Assertion (expanded_node bodies) (parts y)))))

map-twice : (bodies : List Assertion) → map capped (map node_count bodies) ≡ map (λ b. capped (node_count b)) bodies
map-twice [] = refl
map-twice (b ∷ bodies) = ap (λ (l : List ℕ). capped (node_count b) ∷ l) (map-twice bodies)

-- what is counted by capped sizes of the bodies
pub capped-bodies : (bodies : List Assertion) (a : Assertion) →
    capped (sized (map (λ b. capped (node_count b)) bodies) a) ≡ capped (node_count (with_bodies bodies a))
capped-bodies bodies a = ap (λ (l : List ℕ). capped (sized l a)) (sym (map-twice bodies)) ∙ sized-capped (map node_count bodies) a
    ∙ ap capped (sized-bodies bodies a)

pub all-capped : (bodies : List Assertion) → AllByRecursion (λ n. n ≤ 65537) (map (λ b. capped (node_count b)) bodies)
all-capped [] = tt
all-capped (b ∷ bodies) = (let small : capped (node_count b) ≤ 65537 = omega arith in small, all-capped bodies)
