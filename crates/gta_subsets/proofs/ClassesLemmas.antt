-- Classes, one set after the other.
use Rattle.std.proofs.Common.{◌≡◌, ℕ, zero, suc, ◌<◌, List, [], ◌∷◌, ◌++◌, length, length-append, Option, Some, None, slice_get}
use Rattle.std.proofs.Common.{slice_index, sym, ◌∙◌, ap, refl, subst, inl, inr, arith}
use Rattle.std.specs.Prelude.{map, Contains, All}
use Rattle.std.proofs.lemmas.Option.{slice_get_within}
use Rattle.std.proofs.lemmas.List.Elements.{All-contains}
use Rattle.gta_theory.proofs.ListsLemmas.{Contains-map, Contains-mapped}
use Rattle.gta_subsets.specs.Numbers.{number_in, AreNumbers, Grows, stays, comes}
use Rattle.gta_subsets.specs.Classes.{HaveClasses, IsClassed, IsClass, Notes, known, fresh, classes_of, AreKeyed}
use Rattle.bdd_walk.proofs.SetsLemmas.{set_of-has, set_of-only}
use Rattle.gta_subsets.proofs.NumbersLemmas.{number_in-get, number_in-last, get-snoc, get-kept, get-last}

pub get-index : {X : Type 0} (d : X) (xs : List X) (k : ℕ) → k < length xs → (x : X) × (slice_get xs k ≡ Some x)
get-index d [] k within = absurd (omega arith)
get-index d (x ∷ xs) zero within = (x, refl)
get-index d (x ∷ xs) (suc k) within = get-index d xs k (omega arith)

get-number : (xs : List ℕ) (k : ℕ) → k < length xs → slice_get xs k ≡ Some (slice_index xs k)
get-number [] k within = absurd (omega arith)
get-number (x ∷ xs) zero within = refl
get-number (x ∷ xs) (suc k) within = get-number xs k (omega arith)

same_some : (a b : List ℕ) → ◌≡◌ {A = Option (List ℕ)} (Some a) (Some b) → a ≡ b
same_some a b e = cc

same_number : (a b : ℕ) → ◌≡◌ {A = Option ℕ} (Some a) (Some b) → a ≡ b
same_number a b e = cc

pub AreKeyed-none : (states : List ℕ) → AreKeyed [] states [] [] []
AreKeyed-none states = record {
  classes = record {
    many = refl;
    each = λ k set e. absurd (let f : ◌≡◌ {A = Option (List ℕ)} None (Some set) = e in cc);
    used = λ class within. absurd (omega arith);
  };
  many = refl;
  few = omega arith;
  key = λ class one e. absurd (let f : ◌≡◌ {A = Option (List ℕ)} None (Some one) = e in cc);
  inside = λ class one e. absurd (let f : ◌≡◌ {A = Option (List ℕ)} None (Some one) = e in cc);
}

-- what a set of classes has
module _ (states set : List ℕ) where
  key-has : (q : ℕ) → Contains set q → Contains (classes_of states set) (slice_index states q)
  key-has q there = set_of-has (map (slice_index states) set) (slice_index states q) (Contains-map (slice_index states) set q there)

  key-only : (class : ℕ) → Contains (classes_of states set) class → (q : ℕ) × Contains set q × (slice_index states q ≡ class)
  key-only class there = Contains-mapped (slice_index states) set class (set_of-only (map (slice_index states) set) class there)

-- equal keys are equal classes
have-classes : (states one other : List ℕ) → All (λ q. q < length states) one → All (λ q. q < length states) other →
    classes_of states one ≡ classes_of states other → HaveClasses states one other
have-classes states one other in_one in_other same = record {
  there = λ q is.
      let r = key-only states other (slice_index states q) (subst (λ (key : List ℕ). Contains key (slice_index states q)) same (key-has states one q is)) in (
        r.0,
        r.1,
        at q (All-contains (λ (n : ℕ). n < length states) one q in_one is) ∙ ap (λ (n : ℕ). let o : Option ℕ = Some n in o) (sym r.2)
            ∙ sym (at r.0 (All-contains (λ (n : ℕ). n < length states) other r.0 in_other r.1)),
      );
  back = λ r is.
      let q = key-only states one (slice_index states r) (subst (λ (key : List ℕ). Contains key (slice_index states r)) (sym same)
      (key-has states other r is)) in (
        q.0,
        q.1,
        at q.0 (All-contains (λ (n : ℕ). n < length states) one q.0 in_one q.1) ∙ ap (λ (n : ℕ). let o : Option ℕ = Some n in o) q.2
            ∙ sym (at r (All-contains (λ (n : ℕ). n < length states) other r in_other is)),
      );
}
  where
    at : (q : ℕ) → q < length states → slice_get states q ≡ Some (slice_index states q)
    at q within = get-number states q within

-- one set more
module _ (sets : List (List ℕ)) (states of : List ℕ) (ones keys ones_after keys_after : List (List ℕ)) (set : List ℕ) (class : ℕ)
    (keyed : AreKeyed sets states of ones keys) (in_states : All (λ q. q < length states) set)
    (numbers : AreNumbers keys_after)
    (value : number_in keys_after (classes_of states set) ≡ Some class) (place : class < length keys_after) where
  abbrev pub of_after : List ℕ
  of_after = of ++ class ∷ []

  abbrev pub pairs_after : List (List ℕ)
  pairs_after = sets ++ set ∷ []

  at_end : length of ≡ length sets
  at_end = keyed.classes.many

  -- a class that stands keeps its set, and its states
  kept-class : ((k : ℕ) (one : List ℕ) → slice_get ones k ≡ Some one → slice_get ones_after k ≡ Some one) →
      (k : ℕ) (q : List ℕ) → IsClassed sets states (record { of = of; ones = ones }) k q →
      IsClassed pairs_after states (record { of = of_after; ones = ones_after }) k q
  kept-class kept k q is = record {
    class = is.class;
    has = get-kept of (class ∷ []) is.class k is.has;
    one = is.one;
    stands = kept is.class is.one is.stands;
    same = is.same;
  }

  used-class : ((k : ℕ) (one : List ℕ) → slice_get ones k ≡ Some one → slice_get ones_after k ≡ Some one) →
      (k : ℕ) (one : List ℕ) → slice_get ones k ≡ Some one → IsClass sets (record { of = of; ones = ones }) k →
      IsClass pairs_after (record { of = of_after; ones = ones_after }) k
  used-class kept k one there is =
      let q = get-index [] sets is.at is.inside in
      record {
        at = is.at;
        inside = let more = length-append sets (set ∷ []) in let below = is.inside in omega arith;
        has = get-kept of (class ∷ []) k is.at is.has;
        stands = kept k one there ∙ sym there ∙ is.stands ∙ q.1 ∙ sym (get-kept sets (set ∷ []) q.0 is.at q.1);
      }

  -- the class is new
  module _ (at : class ≡ length ones) (ones_is : ones_after ≡ ones ++ set ∷ [])
      (keys_is : keys_after ≡ keys ++ (classes_of states set) ∷ []) where
    kept_fresh : (k : ℕ) (one : List ℕ) → slice_get ones k ≡ Some one → slice_get ones_after k ≡ Some one
    kept_fresh k one there = subst (λ (xs : List (List ℕ)). slice_get xs k ≡ Some one) (sym ones_is) (get-kept ones (set ∷ []) one k there)

    stands_fresh : slice_get ones_after class ≡ Some set
    stands_fresh = ap (λ (xs : List (List ℕ)). slice_get xs class) ones_is ∙ ap (slice_get (ones ++ set ∷ [])) at ∙ get-last ones set

    pub AreKeyed-fresh : AreKeyed pairs_after states of_after ones_after keys_after
    AreKeyed-fresh = record {
      classes = record {
        many = let e = at_end in let a = length-append of (class ∷ []) in let b = length-append sets (set ∷ []) in omega arith;
        each = λ k q there. elim (get-snoc sets set q k there) [
          | inl before ↦ kept-class kept_fresh k q (keyed.classes.each k q before)
          | inr last ↦ record {
            class = class;
            has = ap (slice_get (of ++ class ∷ [])) (last.0 ∙ sym at_end) ∙ get-last of class;
            one = set;
            stands = stands_fresh;
            same = subst (λ (p : List ℕ). HaveClasses states p set) (sym last.1) (have-classes states set set in_states in_states refl);
          }
        ];
        used = λ k within.
            let one = get-index [] ones_after k within in
            elim (get-snoc ones set one.0 k (subst (λ (xs : List (List ℕ)). slice_get xs k ≡ Some one.0) ones_is one.1)) [
              | inl before ↦ used-class kept_fresh k one.0 before (keyed.classes.used k (slice_get_within ones k one.0 before))
              | inr last ↦ record {
                at = length sets;
                inside = let b = length-append sets (set ∷ []) in omega arith;
                has = ap (slice_get (of ++ class ∷ [])) (sym at_end) ∙ get-last of class ∙ ap (λ (n : ℕ). let o : Option ℕ = Some n in o) (at ∙ sym last.0);
                stands = one.1 ∙ ap (λ (p : List ℕ). let o : Option (List ℕ) = Some p in o) last.1 ∙ sym (get-last sets set);
              }
            ];
      };
      many =
          let e = keyed.many in
          let a = ap length ones_is ∙ length-append ones (set ∷ []) in
          let b = ap length keys_is ∙ length-append keys ((classes_of states set) ∷ []) in
          omega arith;
      few =
          let e = keyed.many in
          let a = ap length ones_is ∙ length-append ones (set ∷ []) in
          let b = ap length keys_is ∙ length-append keys ((classes_of states set) ∷ []) in
          let f = numbers.few in
          omega arith;
      key = λ k one there. elim (get-snoc ones set one k (subst (λ (xs : List (List ℕ)). slice_get xs k ≡ Some one) ones_is there)) [
        | inl before ↦ subst (λ (xs : List (List ℕ)). slice_get xs k ≡ Some (classes_of states one)) (sym keys_is)
            (get-kept keys ((classes_of states set) ∷ []) (classes_of states one) k
            (keyed.key k one before))
        | inr last ↦ subst (λ (p : List ℕ). slice_get keys_after k ≡ Some (classes_of states p)) (sym last.1)
            (subst (λ (xs : List (List ℕ)). slice_get xs k ≡ Some (classes_of states set)) (sym keys_is)
            (ap (slice_get (keys ++ (classes_of states set) ∷ [])) (last.0 ∙ sym keyed.many)
            ∙ get-last keys (classes_of states set)))
      ];
      inside = λ k one there. elim (get-snoc ones set one k (subst (λ (xs : List (List ℕ)). slice_get xs k ≡ Some one) ones_is there)) [
        | inl before ↦ keyed.inside k one before
        | inr last ↦ subst (λ (p : List ℕ). All (λ q. q < length states) p) (sym last.1) in_states
      ];
    }

  -- the class is known
  module _ (ones_is : ones_after ≡ ones) (keys_is : keys_after ≡ keys) where
    kept_known : (k : ℕ) (one : List ℕ) → slice_get ones k ≡ Some one → slice_get ones_after k ≡ Some one
    kept_known k one there = subst (λ (xs : List (List ℕ)). slice_get xs k ≡ Some one) (sym ones_is) there

    class_within : class < length ones
    class_within = let e = keyed.many in let f = ap length keys_is in let g = place in omega arith

    classed_known : IsClassed pairs_after states (record { of = of_after; ones = ones_after }) (length sets) set
    classed_known =
        let one = get-index [] ones class class_within in
        let key_one = keyed.key class one.0 one.1 in
        let key_pair = subst (λ (xs : List (List ℕ)). slice_get xs class ≡ Some (classes_of states set)) keys_is
        (number_in-get keys_after (classes_of states set) class value) in
        let within = keyed.inside class one.0 one.1 in
        record {
          class = class;
          has = ap (slice_get (of ++ class ∷ [])) (sym at_end) ∙ get-last of class;
          one = one.0;
          stands = kept_known class one.0 one.1;
          same = have-classes states set one.0 in_states within (same_some _ _ (sym key_pair ∙ key_one));
        }

    pub AreKeyed-known : AreKeyed pairs_after states of_after ones_after keys_after
    AreKeyed-known = record {
      classes = record {
        many = let e = at_end in let a = length-append of (class ∷ []) in let b = length-append sets (set ∷ []) in omega arith;
        each = λ k q there. elim (get-snoc sets set q k there) [
          | inl before ↦ kept-class kept_known k q (keyed.classes.each k q before)
          | inr last ↦
              let is = classed_known in
              subst (λ (p : List ℕ). IsClassed (sets ++ set ∷ []) states (record { of = of ++ class ∷ []; ones = ones_after }) k p) (sym last.1)
              (subst (λ (n : ℕ). IsClassed (sets ++ set ∷ []) states (record { of = of ++ class ∷ []; ones = ones_after }) n set) (sym last.0) is)
        ];
        used = λ k within.
            let below : k < length ones = let e = ap length ones_is in omega arith in
            let one = get-index [] ones k below in
            used-class kept_known k one.0 one.1 (keyed.classes.used k below);
      };
      many = let e = keyed.many in let a = ap length ones_is in let b = ap length keys_is in omega arith;
      few = let f = keyed.few in let a = ap length ones_is in omega arith;
      key = λ k one there. subst (λ (xs : List (List ℕ)). slice_get xs k ≡ Some (classes_of states one)) (sym keys_is)
          (keyed.key k one (subst (λ (xs : List (List ℕ)). slice_get xs k ≡ Some one) ones_is there));
      inside = λ k one there. keyed.inside k one (subst (λ (xs : List (List ℕ)). slice_get xs k ≡ Some one) ones_is there);
    }

  pub AreKeyed-more : Grows keys keys_after (classes_of states set) → Notes class set ones ones_after →
      AreKeyed pairs_after states of_after ones_after keys_after
  AreKeyed-more (stays keys_is) (known apart ones_is) = AreKeyed-known ones_is keys_is
  AreKeyed-more (stays keys_is) (fresh at ones_is) =
      absurd (let e = keyed.many in let f = ap length keys_is in let g = place in omega arith)
  AreKeyed-more (comes none keys_is) (known apart ones_is) =
      absurd (apart (let last : class ≡ length keys = same_number class (length keys)
      (sym value ∙ ap (λ (xs : List (List ℕ)). number_in xs (classes_of states set)) keys_is
      ∙ number_in-last keys (classes_of states set) none) in last ∙ keyed.many))
  AreKeyed-more (comes none keys_is) (fresh at ones_is) = AreKeyed-fresh at ones_is keys_is
