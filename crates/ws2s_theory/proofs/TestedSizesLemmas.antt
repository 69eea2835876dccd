-- On Sizes under the plain guide, by a test that computes: what is listed are the parts of the table.
use Rattle.std.proofs.Common.{◌≡◌, ◌≢◌, ℕ, zero, suc, ◌+◌, Bool, true, false, not, ◌&&◌, ◌||◌, cond, eqb, inl, inr, List, map, nat_lt}
use Rattle.std.proofs.Common.{length, All, Contains, flat_map, refl, sym, ap, subst, ◌∙◌, arith, eqb-true, eq-eqb}
use Rattle.std.proofs.lemmas.Bool.{false≢true, ltb-true, ltb-false, lt-ltb, and_parts, eqb-false}
use Rattle.std.proofs.lemmas.List.Elements.{All-map, All-contains}
use mathlib.Core.Path.{fun_ext}
use Rattle.labels.specs.Labels.{Label, empty_label, with_below}
use Rattle.gta_theory.specs.Guides.{IsSpace}
use Rattle.gta_theory.specs.Automata.{Automaton}
use Rattle.gta_theory.specs.Sizes.{IsListOf, AreDifferent, IsPart, IsChildPair, SizeIn, SizeOf, AreSameBelow}
use Rattle.gta_theory.proofs.ListsLemmas.{All-from_contains, Contains-map, Contains-flat_map, All-flat_map}
use Rattle.ws2s_theory.specs.Worked.{plain}
use Rattle.ws2s_theory.proofs.TestsLemmas.{all-pass, all-pass-at, some-pass, or-cases, some-pass-at, pairs-pass, pairs-pass-AllPairs}
use Rattle.ws2s_theory.proofs.TestsLemmas.{below-pass, below-pass-at, labels-pass, labels-pass-at, labels-fail}

not-true : (b : Bool) → not b ≡ true → b ≡ false
not-true true is = absurd cc
not-true false is = refl

-- a part of the table by its two states, the tracks that are fixed and how
abbrev pub Place : Type 0 → Type 0
Place Q = Q × Q × ℕ × Label

module _ {Q : Type 0} (number : Q → ℕ) (A : Automaton Q) (states : List Q) (k : ℕ) where
  abbrev pub function : Place Q → Label → Q
  function z = λ label. A.step 0 z.0 z.1 (with_below z.2 z.3 label)

  abbrev pub agree : (Label → Q) → (Label → Q) → Bool
  agree f h = labels-pass k (λ l. eqb (number (f l)) (number (h l)))

  abbrev pub is-constant : (Label → Q) → Bool
  is-constant f = agree f (λ l. f empty_label)

  abbrev pub has-place : List (Place Q) → Place Q → Bool
  has-place places z = is-constant (function z) || some-pass (λ y. agree (function z) (function y)) places

  abbrev pub square : List (Q × Q)
  square = flat_map (λ p. map (λ q. (p, q)) states) states

  abbrev pub is-state : Q → Bool
  is-state q = some-pass (λ p. eqb (number p) (number q)) states

  -- each function under the table is constant or at a listed place; the places are of states and aren't constant, and no
  -- two are the same; no state is listed twice
  abbrev pub is-tested : List (Place Q) → Bool
  is-tested places =
      (all-pass (λ p. all-pass (λ q. below-pass k (λ j. labels-pass j (λ fixed. has-place places (p, q, j, fixed)))) states) states
      && all-pass (λ z. (is-state z.0 && is-state z.1) && not (is-constant (function z))) places)
      && (pairs-pass (λ f h. not (agree f h)) (map function places)
      && pairs-pass (λ x y. not (eqb (number x.0) (number y.0) && eqb (number x.1) (number y.1))) square)

module _ {Q : Type 0} (number : Q → ℕ) (once : (p q : Q) → number p ≡ number q → p ≡ q) (A : Automaton Q) (has : ℕ → Q → Type 0)
    (states : List Q) (listed : (q : Q) → has 0 q → Contains states q) (met : (q : Q) → Contains states q → has 0 q) (k : ℕ)
    (looks : (p q : Q) (l m : Label) → AreSameBelow k l m → A.step 0 p q l ≡ A.step 0 p q m) where
  looks-place : (z : Place Q) (l m : Label) → AreSameBelow k l m → function number A states k z l ≡ function number A states k z m
  looks-place z l m same = looks z.0 z.1 (with_below z.2 z.3 l) (with_below z.2 z.3 m)
      (λ t less i. cond (nat_lt t z.2) (z.3 t) (same t less i))

  -- functions that look below k and agree are one
  agree-same : (f h : Label → Q) → ((l m : Label) → AreSameBelow k l m → f l ≡ f m) → ((l m : Label) → AreSameBelow k l m → h l ≡ h m) →
      agree number A states k f h ≡ true → (m : Label) → f m ≡ h m
  agree-same f h of_f of_h is m =
      let l = labels-pass-at k (λ l. eqb (number (f l)) (number (h l))) is m in
      sym (of_f l.0 m l.1) ∙ once (f l.0) (h l.0) (eqb-true (number (f l.0)) (number (h l.0)) l.2) ∙ of_h l.0 m l.1

  agree-differ : (f h : Label → Q) → agree number A states k f h ≡ false → AreDifferent f h
  agree-differ f h is =
      let l = labels-fail k (λ l. eqb (number (f l)) (number (h l))) is in
      record { label = l.0; differs = λ same. eqb-false (number (f l.0)) (number (h l.0)) l.1 (ap number same) }

  is-state-has : (q : Q) → is-state number A states k q ≡ true → has 0 q
  is-state-has q is =
      let p = some-pass-at (λ p. eqb (number p) (number q)) states is in
      met q (subst (Contains states) (once p.0 q (eqb-true (number p.0) (number q) p.2)) p.1)

  square-are : All (IsChildPair plain has 0) (square number A states k)
  square-are =
      All-flat_map (IsChildPair plain has 0) (λ p. map (λ q. (p, q)) states) states (λ p in_p.
      All-map (IsChildPair plain has 0) (λ q. (p, q)) states
      (All-from_contains (λ q. IsChildPair plain has 0 (p, q)) states (λ q in_q. (met p in_p, met q in_q))))

  Contains-square : (x : Q × Q) → IsChildPair plain has 0 x → Contains (square number A states k) x
  Contains-square x is =
      Contains-flat_map (λ p. map (λ q. (p, q)) states) states x.0 x (listed x.0 is.0)
      (Contains-map (λ q. (x.0, q)) states x.1 (listed x.1 is.1))

  differ-pairs : (x y : Q × Q) → not (eqb (number x.0) (number y.0) && eqb (number x.1) (number y.1)) ≡ true → x ≢ y
  differ-pairs x y is same = false≢true (sym (not-true (eqb (number x.0) (number y.0) && eqb (number x.1) (number y.1)) is)
      ∙ (λ i. eq-eqb (number x.0) (number y.0) (ap (λ z. number z.0) same) i && eq-eqb (number x.1) (number y.1) (ap (λ z. number z.1) same) i))

  module _ (places : List (Place Q)) (tested : is-tested number A states k places ≡ true) where
    abbrev at : Place Q → Label → Q
    at z = function number A states k z

    abbrev Covered : Bool
    Covered = all-pass (λ p. all-pass (λ q. below-pass k (λ j. labels-pass j (λ fixed. has-place number A states k places (p, q, j, fixed)))) states) states

    abbrev Good : Bool
    Good = all-pass (λ z. (is-state number A states k z.0 && is-state number A states k z.1) && not (is-constant number A states k (at z))) places

    abbrev Apart : Bool
    Apart = pairs-pass (λ f h. not (agree number A states k f h)) (map at places)

    abbrev Once : Bool
    Once = pairs-pass (λ x y. not (eqb (number x.0) (number y.0) && eqb (number x.1) (number y.1))) (square number A states k)

    first : (Covered ≡ true) × (Good ≡ true)
    first = and_parts Covered Good (and_parts (Covered && Good) (Apart && Once) tested).0

    second : (Apart ≡ true) × (Once ≡ true)
    second = and_parts Apart Once (and_parts (Covered && Good) (Apart && Once) tested).1

    place-part : (z : Place Q) → Contains places z → IsPart plain A has 0 (at z)
    place-part z h =
        let is = all-pass-at (λ z. (is-state number A states k z.0 && is-state number A states k z.1) && not (is-constant number A states k (at z)))
        places z first.1 h in
        let both = and_parts (is-state number A states k z.0 && is-state number A states k z.1) (not (is-constant number A states k (at z))) is in
        let sides = and_parts (is-state number A states k z.0) (is-state number A states k z.1) both.0 in
        let d = agree-differ (at z) (λ l. at z empty_label) (not-true (is-constant number A states k (at z)) both.1) in
        record {
          under = record {
            at_left = z.0;
            at_right = z.1;
            in_left = is-state-has z.0 sides.0;
            in_right = is-state-has z.1 sides.1;
            below = z.2;
            fixed = z.3;
            states = λ label. refl;
          };
          varied = record { one = d.label; other = empty_label; differs = d.differs };
        }

    -- each part is at a listed place
    part-place : (f : Label → Q) → IsPart plain A has 0 f → Contains (map at places) f
    part-place f part = choose (nat_lt (part.under).below k) refl
      where
        choose : (b : Bool) → nat_lt (part.under).below k ≡ b → Contains (map at places) f
        choose false no_less =
            let u = part.under in
            let v = part.varied in
            absurd (v.differs (u.states v.one
            ∙ looks u.at_left u.at_right (with_below u.below u.fixed v.one) (with_below u.below u.fixed v.other) (λ t less.
            let fits : nat_lt t u.below ≡ true = lt-ltb t u.below (omega (arith, ltb-false u.below k no_less)) in
            (λ i. cond (fits i) (u.fixed t) (v.one t)) ∙ sym (λ i. cond (fits i) (u.fixed t) (v.other t)))
            ∙ sym (u.states v.other)))
        choose true less =
            let u = part.under in
            let v = part.varied in
            let of_left = all-pass-at
            (λ p. all-pass (λ q. below-pass k (λ j. labels-pass j (λ fixed. has-place number A states k places (p, q, j, fixed)))) states)
            states u.at_left first.0 (listed u.at_left u.in_left) in
            let of_right = all-pass-at
            (λ q. below-pass k (λ j. labels-pass j (λ fixed. has-place number A states k places (u.at_left, q, j, fixed))))
            states u.at_right of_left (listed u.at_right u.in_right) in
            let of_below = below-pass-at k (λ j. labels-pass j (λ fixed. has-place number A states k places (u.at_left, u.at_right, j, fixed)))
            u.below of_right (ltb-true u.below k less) in
            let l = labels-pass-at u.below (λ fixed. has-place number A states k places (u.at_left, u.at_right, u.below, fixed)) of_below u.fixed in
            let z : Place Q = (u.at_left, u.at_right, u.below, l.0) in
            let is : (label : Label) → at z label ≡ f label = λ label.
            ap (A.step 0 u.at_left u.at_right) (fun_ext (λ t. fixed-same t label l.0 l.1 (nat_lt t u.below) refl)) ∙ sym (u.states label) in
            elim (or-cases (is-constant number A states k (at z)) (some-pass (λ y. agree number A states k (at z) (at y)) places) l.2)
            as (λ _. Contains (map at places) f) [
              | inl constant ↦
                  let all = agree-same (at z) (λ m. at z empty_label) (looks-place z) (λ l m same. refl) constant in
                  absurd (v.differs (sym (is v.one) ∙ all v.one ∙ sym (all v.other) ∙ is v.other))
              | inr found ↦
                  let y = some-pass-at (λ y. agree number A states k (at z) (at y)) places found in
                  let same = agree-same (at z) (at y.0) (looks-place z) (looks-place y.0) y.2 in
                  subst (Contains (map at places)) (fun_ext (λ label. sym (same label) ∙ is label)) (Contains-map at places y.0 y.1)
            ]
          where
            fixed-same : (t : ℕ) (label l : Label) → AreSameBelow (part.under).below l (part.under).fixed → (b : Bool) →
                nat_lt t (part.under).below ≡ b → cond b (l t) (label t) ≡ cond b ((part.under).fixed t) (label t)
            fixed-same t label l same true is = same t (ltb-true t (part.under).below is)
            fixed-same t label l same false is = refl

    pub pairs-tested : IsListOf (λ x y. x ≢ y) (IsChildPair plain has 0) (square number A states k)
    pairs-tested = record {
      every = Contains-square;
      only = λ x h. All-contains (IsChildPair plain has 0) (square number A states k) x square-are h;
      once = pairs-pass-AllPairs (λ x y. not (eqb (number x.0) (number y.0) && eqb (number x.1) (number y.1))) (λ x y. x ≢ y)
          differ-pairs (square number A states k) second.1;
    }

    pub SizeIn-tested : SizeIn plain A has 0 (length (square number A states k) + length (map at places))
    SizeIn-tested = record {
      pairs = square number A states k;
      parts = map at places;
      all_pairs = pairs-tested;
      all_parts = record {
        every = part-place;
        only = λ f h. All-contains (IsPart plain A has 0) (map at places) f
            (All-map (IsPart plain A has 0) at places (All-from_contains (λ z. IsPart plain A has 0 (at z)) places place-part)) h;
        once = pairs-pass-AllPairs (λ f h. not (agree number A states k f h)) AreDifferent
            (λ f h is. agree-differ f h (not-true (agree number A states k f h) is)) (map at places) second.0;
      };
      is_sum = refl;
    }

    pub SizeOf-tested : (n : ℕ) → length (square number A states k) + length (map at places) ≡ n → SizeOf plain A has n
    SizeOf-tested n is = record {
      sizes = λ s. n;
      in_space = λ s there. only-space s there;
      is_sum = omega arith;
    }
      where
        only-space : (s : ℕ) → IsSpace plain s → SizeIn plain A has s n
        only-space zero there = subst (SizeIn plain A has 0) is SizeIn-tested
        only-space (suc s) there = absurd (omega arith)
