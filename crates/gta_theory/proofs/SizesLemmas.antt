-- On Sizes: each automaton has one at most, and alike automata have the same in each space.
use Rattle.std.proofs.Common.{◌≡◌, ◌≢◌, ℕ, zero, suc, ◌+◌, ◌<◌, ◌≤◌, Bool, true, false, List, [], ◌∷◌, length, slice_index_or, nat_lt, All}
use Rattle.std.proofs.Common.{Contains, AllPairs, refl, sym, ap, subst, ◌∙◌, arith}
use Rattle.std.proofs.lemmas.Bool.{ltb-true, ltb-false}
use Rattle.std.proofs.lemmas.List.{get_or_default}
use Rattle.std.proofs.lemmas.List.Elements.{All-contains}
use Rattle.labels.specs.Labels.{Label, with_below}
use Rattle.gta_theory.specs.Guides.{Spaces, IsSpace, IsGuide, left, right}
use Rattle.gta_theory.specs.Automata.{Automaton}
use Rattle.gta_theory.specs.Minimal.{AreTwins, AreAlike}
use Rattle.gta_theory.specs.Sizes.{AreDifferent, IsPart, IsChildPair, SizeIn, sum_below, SizeOf}
use Rattle.gta_theory.proofs.AlikeMoreLemmas.{AreAlike-sym}
use Rattle.gta_theory.proofs.CountingLemmas.{matched-le}

-- the element at a place
element : {X : Type 0} (xs : List X) (i : ℕ) → i < length xs → (x : X) × (slice_index_or xs i x ≡ x)
element [] i inside = absurd (omega arith)
element (x ∷ xs) zero inside = (x, refl)
element (x ∷ xs) (suc i) inside = element xs i (omega arith)

-- elements of two lists at these places are partners
record ArePartners {X Y : Type 0} (R : X → Y → Type 0) (xs : List X) (ys : List Y) (i j : ℕ) : Type 0 where
  first : X
  second : Y
  in_first : i < length xs
  in_second : j < length ys
  is_first : slice_index_or xs i first ≡ first
  is_second : slice_index_or ys j second ≡ second
  related : R first second

-- things apart have no common partner, so a list of them isn't longer than a list of their partners
module _ {X Y : Type 0} (Apart : X → X → Type 0) (R : X → Y → Type 0)
    (common : (x x' : X) (y : Y) → R x y → R x' y → Apart x x' → ⊥) (xs : List X) (ys : List Y) (once : AllPairs Apart xs) where
  no_earlier : (i k j : ℕ) → ArePartners R xs ys i j → ArePartners R xs ys k j → i < k → ⊥
  no_earlier i k j p q less =
      let same : q.second ≡ p.second =
      sym q.is_second ∙ get_or_default ys j q.second p.second p.in_second ∙ p.is_second in
      let is_q : slice_index_or xs k p.first ≡ q.first = get_or_default xs k p.first q.first q.in_first ∙ q.is_first in
      common p.first q.first p.second p.related (subst (R q.first) same q.related)
      (subst (λ x. Apart x q.first) p.is_first (subst (λ x. Apart (slice_index_or xs i p.first) x) is_q (once i k p.first less q.in_first)))

  one-place : (i k j : ℕ) → ArePartners R xs ys i j → ArePartners R xs ys k j → i ≡ k
  one-place i k j p q = pick (nat_lt i k) (nat_lt k i) refl refl
    where
      pick : (b c : Bool) → nat_lt i k ≡ b → nat_lt k i ≡ c → i ≡ k
      pick true c less other = absurd (no_earlier i k j p q (ltb-true i k less))
      pick false true less other = absurd (no_earlier k i j q p (ltb-true k i other))
      pick false false less other = omega (arith, ltb-false i k less, ltb-false k i other)

  pub length-partners : ((x : X) → Contains xs x → (y : Y) × Contains ys y × R x y) → length xs ≤ length ys
  length-partners partner = matched-le (length ys) (length xs) (ArePartners R xs ys) (record {
    partner = λ i inside.
        let x = element xs i inside in
        let y = partner x.0 (i, inside, x.1) in
        let place = y.1 in (
          place.0,
          place.1,
          record { first = x.0; second = y.0; in_first = inside; in_second = place.1; is_first = x.1; is_second = place.2; related = y.2 },
        );
    once = one-place;
  })

-- a relation between the states of two automata along which each state of the first has a partner of its own
module _ {Q R : Type 0} (g : Spaces) (guide : IsGuide g) (A : Automaton Q) (has_A : ℕ → Q → Type 0) (B : Automaton R)
    (has_B : ℕ → R → Type 0) (Rel : ℕ → Q → R → Type 0)
    (there : (s : ℕ) (p : Q) → IsSpace g s → has_A s p → (x : R) × has_B s x × Rel s p x)
    (one : (s : ℕ) (p q : Q) (x : R) → IsSpace g s → Rel s p x → Rel s q x → p ≡ q)
    (step : (s : ℕ) (p q : Q) (x y : R) (label : Label) → IsSpace g s → Rel (left g s) p x → Rel (right g s) q y →
    Rel s (A.step s p q label) (B.step s x y label)) where
  RelPairs : ℕ → Q × Q → R × R → Type 0
  RelPairs s p x = Rel (left g s) p.0 x.0 × Rel (right g s) p.1 x.1

  RelFunctions : ℕ → (Label → Q) → (Label → R) → Type 0
  RelFunctions s f h = (label : Label) → Rel s (f label) (h label)

  pair-there : (s : ℕ) (p : Q × Q) → IsSpace g s → IsChildPair g has_A s p → (x : R × R) × IsChildPair g has_B s x × RelPairs s p x
  unfolding RelPairs
  pair-there s p inside has =
      let l = there (left g s) p.0 (guide.left_inside s inside) has.0 in
      let r = there (right g s) p.1 (guide.right_inside s inside) has.1 in
      ((l.0, r.0), (l.1, r.1), (l.2, r.2))

  pair-common : (s : ℕ) → IsSpace g s → (p q : Q × Q) (x : R × R) → RelPairs s p x → RelPairs s q x → p ≢ q → ⊥
  unfolding RelPairs
  pair-common s inside p q x of_p of_q differ = differ (λ i. (
    one (left g s) p.0 q.0 x.0 (guide.left_inside s inside) of_p.0 of_q.0 i,
    one (right g s) p.1 q.1 x.1 (guide.right_inside s inside) of_p.1 of_q.1 i,
  ))

  part-there : (s : ℕ) (f : Label → Q) → IsSpace g s → IsPart g A has_A s f → (h : Label → R) × IsPart g B has_B s h × RelFunctions s f h
  unfolding RelFunctions
  part-there s f inside part =
      let u = part.under in
      let v = part.varied in
      let l = there (left g s) u.at_left (guide.left_inside s inside) u.in_left in
      let r = there (right g s) u.at_right (guide.right_inside s inside) u.in_right in
      let h : Label → R = λ label. B.step s l.0 r.0 (with_below u.below u.fixed label) in
      let along : (label : Label) → Rel s (f label) (h label) = λ label. subst (λ z. Rel s z (h label)) (sym (u.states label))
      (step s u.at_left u.at_right l.0 r.0 (with_below u.below u.fixed label) inside l.2 r.2) in (
        h,
        record {
          under = record {
            at_left = l.0;
            at_right = r.0;
            in_left = l.1;
            in_right = r.1;
            below = u.below;
            fixed = u.fixed;
            states = λ label. refl;
          };
          varied = record {
            one = v.one;
            other = v.other;
            differs = λ same. v.differs (one s (f v.one) (f v.other) (h v.other) inside (subst (Rel s (f v.one)) same (along v.one)) (along v.other));
          };
        },
        along,
      )

  part-common : (s : ℕ) → IsSpace g s → (f f' : Label → Q) (h : Label → R) →
      RelFunctions s f h → RelFunctions s f' h → AreDifferent f f' → ⊥
  unfolding RelFunctions
  part-common s inside f f' h of_f of_f' d =
      d.differs (one s (f d.label) (f' d.label) (h d.label) inside (of_f d.label) (of_f' d.label))

  pub SizeIn-le : (s n m : ℕ) → IsSpace g s → SizeIn g A has_A s n → SizeIn g B has_B s m → n ≤ m
  SizeIn-le s n m inside of_A of_B =
      let pairs_le : length of_A.pairs ≤ length of_B.pairs =
      length-partners (λ x y. x ≢ y) (RelPairs s) (pair-common s inside) of_A.pairs of_B.pairs (of_A.all_pairs).once
      (λ p within.
      let x = pair-there s p inside ((of_A.all_pairs).only p within) in
      (x.0, (of_B.all_pairs).every x.0 x.1, x.2)) in
      let parts_le : length of_A.parts ≤ length of_B.parts =
      length-partners AreDifferent (RelFunctions s) (part-common s inside) of_A.parts of_B.parts (of_A.all_parts).once
      (λ f within.
      let h = part-there s f inside ((of_A.all_parts).only f within) in
      (h.0, (of_B.all_parts).every h.0 h.1, h.2)) in
      omega (arith, pairs_le, parts_le, of_A.is_sum, of_B.is_sum)

-- alike automata have the same size in each space
module _ {Q R : Type 0} (g : Spaces) (guide : IsGuide g) (A : Automaton Q) (has_A : ℕ → Q → Type 0) (B : Automaton R)
    (has_B : ℕ → R → Type 0) where
  SizeIn-alike_le : AreAlike g A has_A B has_B → (s n m : ℕ) → IsSpace g s → SizeIn g A has_A s n → SizeIn g B has_B s m → n ≤ m
  SizeIn-alike_le alike = SizeIn-le g guide A has_A B has_B (AreTwins g A B) alike.there alike.one_back alike.step

pub SizeIn-alike : {Q R : Type 0} (g : Spaces) (guide : IsGuide g) (A : Automaton Q) (has_A : ℕ → Q → Type 0) (B : Automaton R)
    (has_B : ℕ → R → Type 0) → AreAlike g A has_A B has_B → (s n m : ℕ) → IsSpace g s →
    SizeIn g A has_A s n → SizeIn g B has_B s m → n ≡ m
SizeIn-alike g guide A has_A B has_B alike s n m inside of_A of_B =
    let up = SizeIn-alike_le g guide A has_A B has_B alike s n m inside of_A of_B in
    let down = SizeIn-alike_le g guide B has_B A has_A (AreAlike-sym g A has_A B has_B alike) s m n inside of_B of_A in
    omega (arith, up, down)

-- and so an automaton has one size in a space
module _ {Q : Type 0} (g : Spaces) (guide : IsGuide g) (A : Automaton Q) (has : ℕ → Q → Type 0) where
  SizeIn-one_le : (s n m : ℕ) → IsSpace g s → SizeIn g A has s n → SizeIn g A has s m → n ≤ m
  SizeIn-one_le = SizeIn-le g guide A has A has (λ s p q. p ≡ q) (λ s p inside in_A. (p, in_A, refl))
      (λ s p q x inside e e'. e ∙ sym e') (λ s p q x y label inside e e'. λ i. A.step s (e i) (e' i) label)

  pub SizeIn-unique : (s n m : ℕ) → IsSpace g s → SizeIn g A has s n → SizeIn g A has s m → n ≡ m
  SizeIn-unique s n m inside one other =
      let up = SizeIn-one_le s n m inside one other in
      let down = SizeIn-one_le s m n inside other one in
      omega (arith, up, down)

sum_below-same : (f h : ℕ → ℕ) (n : ℕ) → ((s : ℕ) → s < n → f s ≡ h s) → sum_below f n ≡ sum_below h n
sum_below-same f h zero same = refl
sum_below-same f h (suc n) same =
    let rest = sum_below-same f h n (λ s below. same s (omega arith)) in
    let last = same n (omega arith) in
    λ i. rest i + last i

sum_below-le : (f h : ℕ → ℕ) (n : ℕ) → ((s : ℕ) → s < n → f s ≤ h s) → sum_below f n ≤ sum_below h n
sum_below-le f h zero less = omega arith
sum_below-le f h (suc n) less =
    let rest = sum_below-le f h n (λ s below. less s (omega arith)) in
    let last = less n (omega arith) in
    omega (arith, rest, last)

pub SizeOf-alike : {Q R : Type 0} (g : Spaces) (guide : IsGuide g) (A : Automaton Q) (has_A : ℕ → Q → Type 0) (B : Automaton R)
    (has_B : ℕ → R → Type 0) → AreAlike g A has_A B has_B → (n m : ℕ) → SizeOf g A has_A n → SizeOf g B has_B m → n ≡ m
SizeOf-alike g guide A has_A B has_B alike n m of_A of_B =
    sym of_A.is_sum
    ∙ sum_below-same of_A.sizes of_B.sizes (length g) (λ s inside.
    SizeIn-alike g guide A has_A B has_B alike s (of_A.sizes s) (of_B.sizes s) inside (of_A.in_space s inside) (of_B.in_space s inside))
    ∙ of_B.is_sum

pub SizeOf-unique : {Q : Type 0} (g : Spaces) (guide : IsGuide g) (A : Automaton Q) (has : ℕ → Q → Type 0) (n m : ℕ) →
    SizeOf g A has n → SizeOf g A has m → n ≡ m
SizeOf-unique g guide A has n m one other =
    sym one.is_sum
    ∙ sum_below-same one.sizes other.sizes (length g) (λ s inside.
    SizeIn-unique g guide A has s (one.sizes s) (other.sizes s) inside (one.in_space s inside) (other.in_space s inside))
    ∙ other.is_sum

-- pairs and parts that are listed, each once, fit in the size
module _ {Q : Type 0} (g : Spaces) (A : Automaton Q) (has : ℕ → Q → Type 0) where
  pub SizeIn-fits : (s n : ℕ) (pairs : List (Q × Q)) (parts : List (Label → Q)) →
      AllPairs (λ x y. x ≢ y) pairs → All (IsChildPair g has s) pairs → AllPairs AreDifferent parts → All (IsPart g A has s) parts →
      SizeIn g A has s n → length pairs + length parts ≤ n
  SizeIn-fits s n pairs parts pairs_once are_pairs parts_once are_parts size =
      let pairs_le : length pairs ≤ length size.pairs =
      length-partners (λ x y. x ≢ y) (λ x y. x ≡ y) (λ x x' y e e' differ. differ (e ∙ sym e')) pairs size.pairs pairs_once
      (λ x h. (x, (size.all_pairs).every x (All-contains (IsChildPair g has s) pairs x are_pairs h), refl)) in
      let parts_le : length parts ≤ length size.parts =
      length-partners AreDifferent (λ f h. f ≡ h) (λ f f' h e e' d. d.differs (ap (λ z. z d.label) (e ∙ sym e'))) parts size.parts parts_once
      (λ f h. (f, (size.all_parts).every f (All-contains (IsPart g A has s) parts f are_parts h), refl)) in
      omega (arith, pairs_le, parts_le, size.is_sum)

  pub SizeOf-fits : (n : ℕ) (pairs : ℕ → List (Q × Q)) (parts : ℕ → List (Label → Q)) →
      ((s : ℕ) → IsSpace g s → AllPairs (λ x y. x ≢ y) (pairs s) × All (IsChildPair g has s) (pairs s)) →
      ((s : ℕ) → IsSpace g s → AllPairs AreDifferent (parts s) × All (IsPart g A has s) (parts s)) →
      SizeOf g A has n → sum_below (λ s. length (pairs s) + length (parts s)) (length g) ≤ n
  SizeOf-fits n pairs parts are_pairs are_parts size =
      let fits = sum_below-le (λ s. length (pairs s) + length (parts s)) size.sizes (length g) (λ s there.
      SizeIn-fits s (size.sizes s) (pairs s) (parts s) (are_pairs s there).0 (are_pairs s there).1 (are_parts s there).0 (are_parts s there).1
      (size.in_space s there)) in
      omega (arith, fits, size.is_sum)
