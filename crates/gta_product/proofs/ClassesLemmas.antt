-- Classes, one pair after the other.
use Rattle.std.proofs.Common.{◌≡◌, ℕ, zero, suc, ◌<◌, List, [], ◌∷◌, ◌++◌, length, length-append, Option, Some, None, slice_get}
use Rattle.std.proofs.Common.{slice_index, sym, ◌∙◌, ap, refl, subst, inl, inr, arith}
use Rattle.std.proofs.lemmas.Option.{slice_get_within}
use Rattle.gta_product.specs.Numbers.{number_in, AreNumbers, Grows, stays, comes}
use Rattle.gta_product.specs.Classes.{HaveClasses, IsClassed, IsClass, Notes, known, fresh, AreKeyed}
use Rattle.gta_product.proofs.NumbersLemmas.{number_in-get, number_in-last, get-snoc, get-kept, get-last}

pub get-index : {X : Type 0} (d : X) (xs : List X) (k : ℕ) → k < length xs → (x : X) × (slice_get xs k ≡ Some x)
get-index d [] k within = absurd (omega arith)
get-index d (x ∷ xs) zero within = (x, refl)
get-index d (x ∷ xs) (suc k) within = get-index d xs k (omega arith)

get-number : (xs : List ℕ) (k : ℕ) → k < length xs → slice_get xs k ≡ Some (slice_index xs k)
get-number [] k within = absurd (omega arith)
get-number (x ∷ xs) zero within = refl
get-number (x ∷ xs) (suc k) within = get-number xs k (omega arith)

same_some : (a b : ℕ × ℕ) → ◌≡◌ {A = Option (ℕ × ℕ)} (Some a) (Some b) → a ≡ b
same_some a b e = cc

same_number : (a b : ℕ) → ◌≡◌ {A = Option ℕ} (Some a) (Some b) → a ≡ b
same_number a b e = cc

pub AreKeyed-none : (left right : List ℕ) → AreKeyed [] left right [] [] []
AreKeyed-none left right = record {
  classes = record {
    many = refl;
    each = λ k pair e. absurd (let f : ◌≡◌ {A = Option (ℕ × ℕ)} None (Some pair) = e in cc);
    used = λ class within. absurd (omega arith);
  };
  many = refl;
  few = omega arith;
  key = λ class one e. absurd (let f : ◌≡◌ {A = Option (ℕ × ℕ)} None (Some one) = e in cc);
  inside = λ class one e. absurd (let f : ◌≡◌ {A = Option (ℕ × ℕ)} None (Some one) = e in cc);
}

-- equal keys are equal classes
have-classes : (left right : List ℕ) (one other : ℕ × ℕ) → one.0 < length left → one.1 < length right →
    other.0 < length left → other.1 < length right →
    ◌≡◌ {A = ℕ × ℕ} (slice_index left one.0, slice_index right one.1) (slice_index left other.0, slice_index right other.1) →
    HaveClasses left right one other
have-classes left right one other a b c d same = record {
  first = get-number left one.0 a ∙ ap (λ (p : ℕ × ℕ). let o : Option ℕ = Some p.0 in o) same ∙ sym (get-number left other.0 c);
  second = get-number right one.1 b ∙ ap (λ (p : ℕ × ℕ). let o : Option ℕ = Some p.1 in o) same ∙ sym (get-number right other.1 d);
}

-- one pair more
module _ (pairs : List (ℕ × ℕ)) (left right of : List ℕ) (ones keys ones_after keys_after : List (ℕ × ℕ)) (pair : ℕ × ℕ) (class : ℕ)
    (keyed : AreKeyed pairs left right of ones keys) (in_left : pair.0 < length left) (in_right : pair.1 < length right)
    (numbers : AreNumbers keys_after)
    (value : number_in keys_after (slice_index left pair.0, slice_index right pair.1) ≡ Some class) (place : class < length keys_after) where
  abbrev pub of_after : List ℕ
  of_after = of ++ class ∷ []

  abbrev pub pairs_after : List (ℕ × ℕ)
  pairs_after = pairs ++ pair ∷ []

  at_end : length of ≡ length pairs
  at_end = keyed.classes.many

  -- a class that stands keeps its pair, and its states
  kept-class : ((k : ℕ) (one : ℕ × ℕ) → slice_get ones k ≡ Some one → slice_get ones_after k ≡ Some one) →
      (k : ℕ) (q : ℕ × ℕ) → IsClassed left right of ones k q →
      IsClassed left right of_after ones_after k q
  kept-class kept k q is = record {
    class = is.class;
    has = get-kept of (class ∷ []) is.class k is.has;
    one = is.one;
    stands = kept is.class is.one is.stands;
    same = is.same;
  }

  used-class : ((k : ℕ) (one : ℕ × ℕ) → slice_get ones k ≡ Some one → slice_get ones_after k ≡ Some one) →
      (k : ℕ) (one : ℕ × ℕ) → slice_get ones k ≡ Some one → IsClass pairs of ones k →
      IsClass pairs_after of_after ones_after k
  used-class kept k one there is =
      let q = get-index (0, 0) pairs is.at is.inside in
      record {
        at = is.at;
        inside = let more = length-append pairs (pair ∷ []) in let below = is.inside in omega arith;
        has = get-kept of (class ∷ []) k is.at is.has;
        stands = kept k one there ∙ sym there ∙ is.stands ∙ q.1 ∙ sym (get-kept pairs (pair ∷ []) q.0 is.at q.1);
      }

  -- the class is new
  module _ (at : class ≡ length ones) (ones_is : ones_after ≡ ones ++ pair ∷ [])
      (keys_is : keys_after ≡ keys ++ (slice_index left pair.0, slice_index right pair.1) ∷ []) where
    kept_fresh : (k : ℕ) (one : ℕ × ℕ) → slice_get ones k ≡ Some one → slice_get ones_after k ≡ Some one
    kept_fresh k one there = subst (λ (xs : List (ℕ × ℕ)). slice_get xs k ≡ Some one) (sym ones_is) (get-kept ones (pair ∷ []) one k there)

    stands_fresh : slice_get ones_after class ≡ Some pair
    stands_fresh = ap (λ (xs : List (ℕ × ℕ)). slice_get xs class) ones_is ∙ ap (slice_get (ones ++ pair ∷ [])) at ∙ get-last ones pair

    pub AreKeyed-fresh : AreKeyed pairs_after left right of_after ones_after keys_after
    AreKeyed-fresh = record {
      classes = record {
        many = let e = at_end in let a = length-append of (class ∷ []) in let b = length-append pairs (pair ∷ []) in omega arith;
        each = λ k q there. elim (get-snoc pairs pair q k there) [
          | inl before ↦ kept-class kept_fresh k q (keyed.classes.each k q before)
          | inr last ↦ record {
            class = class;
            has = ap (slice_get (of ++ class ∷ [])) (last.0 ∙ sym at_end) ∙ get-last of class;
            one = pair;
            stands = stands_fresh;
            same = subst (λ (p : ℕ × ℕ). HaveClasses left right p pair) (sym last.1) (record { first = refl; second = refl });
          }
        ];
        used = λ k within.
            let one = get-index (0, 0) ones_after k within in
            elim (get-snoc ones pair one.0 k (subst (λ (xs : List (ℕ × ℕ)). slice_get xs k ≡ Some one.0) ones_is one.1)) [
              | inl before ↦ used-class kept_fresh k one.0 before (keyed.classes.used k (slice_get_within ones k one.0 before))
              | inr last ↦ record {
                at = length pairs;
                inside = let b = length-append pairs (pair ∷ []) in omega arith;
                has = ap (slice_get (of ++ class ∷ [])) (sym at_end) ∙ get-last of class ∙ ap (λ (n : ℕ). let o : Option ℕ = Some n in o) (at ∙ sym last.0);
                stands = one.1 ∙ ap (λ (p : ℕ × ℕ). let o : Option (ℕ × ℕ) = Some p in o) last.1 ∙ sym (get-last pairs pair);
              }
            ];
      };
      many =
          let e = keyed.many in
          let a = ap length ones_is ∙ length-append ones (pair ∷ []) in
          let b = ap length keys_is ∙ length-append keys ((slice_index left pair.0, slice_index right pair.1) ∷ []) in
          omega arith;
      few =
          let e = keyed.many in
          let a = ap length ones_is ∙ length-append ones (pair ∷ []) in
          let b = ap length keys_is ∙ length-append keys ((slice_index left pair.0, slice_index right pair.1) ∷ []) in
          let f = numbers.few in
          omega arith;
      key = λ k one there. elim (get-snoc ones pair one k (subst (λ (xs : List (ℕ × ℕ)). slice_get xs k ≡ Some one) ones_is there)) [
        | inl before ↦ subst (λ (xs : List (ℕ × ℕ)). slice_get xs k ≡ Some (slice_index left one.0, slice_index right one.1)) (sym keys_is)
            (get-kept keys ((slice_index left pair.0, slice_index right pair.1) ∷ []) (slice_index left one.0, slice_index right one.1) k
            (keyed.key k one before))
        | inr last ↦ subst (λ (p : ℕ × ℕ). slice_get keys_after k ≡ Some (slice_index left p.0, slice_index right p.1)) (sym last.1)
            (subst (λ (xs : List (ℕ × ℕ)). slice_get xs k ≡ Some (slice_index left pair.0, slice_index right pair.1)) (sym keys_is)
            (ap (slice_get (keys ++ (slice_index left pair.0, slice_index right pair.1) ∷ [])) (last.0 ∙ sym keyed.many)
            ∙ get-last keys (slice_index left pair.0, slice_index right pair.1)))
      ];
      inside = λ k one there. elim (get-snoc ones pair one k (subst (λ (xs : List (ℕ × ℕ)). slice_get xs k ≡ Some one) ones_is there)) [
        | inl before ↦ keyed.inside k one before
        | inr last ↦ subst (λ (p : ℕ × ℕ). (p.0 < length left) × (p.1 < length right)) (sym last.1) (in_left, in_right)
      ];
    }

  -- the class is known
  module _ (ones_is : ones_after ≡ ones) (keys_is : keys_after ≡ keys) where
    kept_known : (k : ℕ) (one : ℕ × ℕ) → slice_get ones k ≡ Some one → slice_get ones_after k ≡ Some one
    kept_known k one there = subst (λ (xs : List (ℕ × ℕ)). slice_get xs k ≡ Some one) (sym ones_is) there

    class_within : class < length ones
    class_within = let e = keyed.many in let f = ap length keys_is in let g = place in omega arith

    classed_known : IsClassed left right of_after ones_after (length pairs) pair
    classed_known =
        let one = get-index (0, 0) ones class class_within in
        let key_one = keyed.key class one.0 one.1 in
        let key_pair = subst (λ (xs : List (ℕ × ℕ)). slice_get xs class ≡ Some (slice_index left pair.0, slice_index right pair.1)) keys_is
        (number_in-get keys_after (slice_index left pair.0, slice_index right pair.1) class value) in
        let within = keyed.inside class one.0 one.1 in
        record {
          class = class;
          has = ap (slice_get (of ++ class ∷ [])) (sym at_end) ∙ get-last of class;
          one = one.0;
          stands = kept_known class one.0 one.1;
          same = have-classes left right pair one.0 in_left in_right within.0 within.1 (same_some _ _ (sym key_pair ∙ key_one));
        }

    pub AreKeyed-known : AreKeyed pairs_after left right of_after ones_after keys_after
    AreKeyed-known = record {
      classes = record {
        many = let e = at_end in let a = length-append of (class ∷ []) in let b = length-append pairs (pair ∷ []) in omega arith;
        each = λ k q there. elim (get-snoc pairs pair q k there) [
          | inl before ↦ kept-class kept_known k q (keyed.classes.each k q before)
          | inr last ↦
              let is = classed_known in
              subst (λ (p : ℕ × ℕ). IsClassed left right (of ++ class ∷ []) ones_after k p) (sym last.1)
              (subst (λ (n : ℕ). IsClassed left right (of ++ class ∷ []) ones_after n pair) (sym last.0) is)
        ];
        used = λ k within.
            let below : k < length ones = let e = ap length ones_is in omega arith in
            let one = get-index (0, 0) ones k below in
            used-class kept_known k one.0 one.1 (keyed.classes.used k below);
      };
      many = let e = keyed.many in let a = ap length ones_is in let b = ap length keys_is in omega arith;
      few = let f = keyed.few in let a = ap length ones_is in omega arith;
      key = λ k one there. subst (λ (xs : List (ℕ × ℕ)). slice_get xs k ≡ Some (slice_index left one.0, slice_index right one.1)) (sym keys_is)
          (keyed.key k one (subst (λ (xs : List (ℕ × ℕ)). slice_get xs k ≡ Some one) ones_is there));
      inside = λ k one there. keyed.inside k one (subst (λ (xs : List (ℕ × ℕ)). slice_get xs k ≡ Some one) ones_is there);
    }

  pub AreKeyed-more : Grows keys keys_after (slice_index left pair.0, slice_index right pair.1) → Notes class pair ones ones_after →
      AreKeyed pairs_after left right of_after ones_after keys_after
  AreKeyed-more (stays keys_is) (known apart ones_is) = AreKeyed-known ones_is keys_is
  AreKeyed-more (stays keys_is) (fresh at ones_is) =
      absurd (let e = keyed.many in let f = ap length keys_is in let g = place in omega arith)
  AreKeyed-more (comes none keys_is) (known apart ones_is) =
      absurd (apart (let last : class ≡ length keys = same_number class (length keys)
      (sym value ∙ ap (λ (xs : List (ℕ × ℕ)). number_in xs (slice_index left pair.0, slice_index right pair.1)) keys_is
      ∙ number_in-last keys (slice_index left pair.0, slice_index right pair.1) none) in last ∙ keyed.many))
  AreKeyed-more (comes none keys_is) (fresh at ones_is) = AreKeyed-fresh at ones_is keys_is
