-- On automata with their tracks renamed in order: the values, what is minimal, products, subset automata and Sizes go
-- along.
use Rattle.std.proofs.Common.{◌≡◌, ◌≢◌, ℕ, zero, suc, ◌+◌, ◌<◌, ◌≤◌, Bool, true, false, cond, eqb, nat_lt, ◌↔◌, inl, inr, List, [], ◌∷◌, map}
use Rattle.std.proofs.Common.{length, Contains, AllPairs, refl, sym, ap, subst, ◌∙◌, arith, eqb-true, eq-eqb, ne_eqb}
use Rattle.std.proofs.lemmas.Bool.{cases_lt, cases_eq, ltb-true, ltb-false, lt-ltb, le-ltb, eqb-false}
use Rattle.std.proofs.lemmas.List.{length-map}
use Rattle.std.proofs.lemmas.List.Elements.{All-map}
use Rattle.std.proofs.lemmas.List.Kept.{AllPairs-cons}
use mathlib.Core.Path.{fun_ext}
use Rattle.labels.specs.Labels.{Label, empty_label, with_track, with_below}
use Rattle.labels.proofs.LabelsLemmas.{HasAtMost-with_track, with_track-at_most}
use Rattle.gta_theory.specs.Assignments.{Position, Assignment, Covers, half}
use Rattle.gta_theory.specs.Guides.{Spaces, IsGuide, left, right}
use Rattle.gta_theory.specs.Automata.{Automaton, value, IsStable, Accepts}
use Rattle.gta_theory.specs.Constructions.{IsReached, IsProduct, Settled, starts, steps, IsSubset}
use Rattle.gta_theory.specs.Minimal.{value_with, IsMinimal}
use Rattle.gta_theory.specs.Sizes.{AreDifferent, IsPart, SizeIn, SizeOf}
use Rattle.gta_theory.specs.Renamed.{IsIncreasing, renamed_tracks}
use Rattle.gta_theory.proofs.AutomataLemmas.{Accepts-at}
use Rattle.gta_theory.proofs.ListsLemmas.{Contains-map, Contains-mapped}

-- images of things apart, each apart from the others
AllPairs-map : {X Y : Type 0} (Apart : X → X → Type 0) (Other : Y → Y → Type 0) (f : X → Y) →
    ((x y : X) → Apart x y → Other (f x) (f y)) → (xs : List X) → AllPairs Apart xs → AllPairs Other (map f xs)
AllPairs-map Apart Other f along [] h = λ i j d less inside. absurd (omega arith)
AllPairs-map Apart Other f along (x ∷ xs) h = AllPairs-cons Other (f x) (map f xs)
    (All-map (Other (f x)) f xs (λ k d inside. along x _ (h 0 (suc k) d (omega arith) (omega arith))))
    (AllPairs-map Apart Other f along xs (λ i j d less inside. h (suc i) (suc j) d (omega arith) (omega arith)))

module _ (r : ℕ → ℕ) (increasing : IsIncreasing r) where
  renamed-le : (t u : ℕ) → t ≤ u → r t ≤ r u
  renamed-le t u le = elim (cases_eq t u) as (λ _. r t ≤ r u) [
    | inl same ↦ subst (λ v. r t ≤ r v) same (omega arith)
    | inr other ↦ (let less = increasing t u (omega arith) in omega arith)
  ]

  renamed-lt_back : (t u : ℕ) → r t < r u → t < u
  renamed-lt_back t u less = elim (cases_lt t u) as (λ _. t < u) [
    | inl is ↦ is
    | inr not ↦ absurd (omega (arith, renamed-le u t not))
  ]

  -- no two tracks get one number
  pub IsIncreasing-injective : (t u : ℕ) → r t ≡ r u → t ≡ u
  IsIncreasing-injective t u same = elim (cases_lt t u) as (λ _. t ≡ u) [
    | inl less ↦ absurd (omega (arith, increasing t u less))
    | inr le ↦ elim (cases_lt u t) as (λ _. t ≡ u) [
      | inl less ↦ absurd (omega (arith, increasing u t less))
      | inr ge ↦ omega arith
    ]
  ]

  renamed-above : (t : ℕ) → t ≤ r t
  renamed-above zero = omega arith
  renamed-above (suc t) = omega (arith, renamed-above t, increasing t (suc t) (omega arith))

  -- the track that gets this number
  back_below : ℕ → ℕ → ℕ
  back_below zero u = 0
  back_below (suc n) u = cond (eqb (r n) u) n (back_below n u)

  back : ℕ → ℕ
  back u = back_below (suc u) u

  back_below-is : (n t : ℕ) → t < n → back_below n (r t) ≡ t
  unfolding back_below
  back_below-is zero t less = absurd (omega arith)
  back_below-is (suc n) t less = pick (eqb (r n) (r t)) refl (λ other. back_below-is n t (omega arith))
    where
      pick : (b : Bool) → eqb (r n) (r t) ≡ b → (n ≢ t → back_below n (r t) ≡ t) → cond b n (back_below n (r t)) ≡ t
      pick true is rest = IsIncreasing-injective n t (eqb-true (r n) (r t) is)
      pick false is rest = rest (λ same. eqb-false (r n) (r t) is (ap r same))

  back-is : (t : ℕ) → back (r t) ≡ t
  unfolding back
  back-is t = back_below-is (suc (r t)) t (omega (arith, renamed-above t))

  -- how many of the first tracks get numbers below b
  cut_below : ℕ → ℕ → ℕ
  cut_below zero b = 0
  cut_below (suc n) b = cond (nat_lt (r n) b) (suc n) (cut_below n b)

  cut_below-inside : (n b t : ℕ) → t < cut_below n b → r t < b
  unfolding cut_below
  cut_below-inside zero b t less = absurd (omega arith)
  cut_below-inside (suc n) b t less = pick (nat_lt (r n) b) refl less (cut_below-inside n b t)
    where
      pick : (c : Bool) → nat_lt (r n) b ≡ c → t < cond c (suc n) (cut_below n b) → (t < cut_below n b → r t < b) → r t < b
      pick true is below rest = omega (arith, ltb-true (r n) b is, renamed-le t n (omega arith))
      pick false is below rest = rest below

  cut_below-all : (n b t : ℕ) → t < n → r t < b → t < cut_below n b
  unfolding cut_below
  cut_below-all zero b t less below = absurd (omega arith)
  cut_below-all (suc n) b t less below = pick (nat_lt (r n) b) refl (λ other. cut_below-all n b t (omega arith) below)
    where
      pick : (c : Bool) → nat_lt (r n) b ≡ c → (t ≢ n → t < cut_below n b) → t < cond c (suc n) (cut_below n b)
      pick true is rest = less
      pick false is rest = rest (λ same. omega (arith, ltb-false (r n) b is, ap r same))

  cut : ℕ → ℕ
  cut b = cut_below b b

  cut-is : (b t : ℕ) → nat_lt (r t) b ≡ nat_lt t (cut b)
  unfolding cut
  cut-is b t = elim (cases_lt (r t) b) as (λ _. nat_lt (r t) b ≡ nat_lt t (cut_below b b)) [
    | inl less ↦ lt-ltb (r t) b less ∙ sym (lt-ltb t (cut_below b b) (cut_below-all b b t (omega (arith, renamed-above t)) less))
    | inr le ↦ elim (cases_lt t (cut_below b b)) as (λ _. nat_lt (r t) b ≡ nat_lt t (cut_below b b)) [
      | inl inside ↦ absurd (omega (arith, cut_below-inside b b t inside))
      | inr past ↦ le-ltb (r t) b le ∙ sym (le-ltb t (cut_below b b) past)
    ]
  ]

  below-same : (t b : ℕ) → nat_lt (r t) (r b) ≡ nat_lt t b
  below-same t b = elim (cases_lt t b) as (λ _. nat_lt (r t) (r b) ≡ nat_lt t b) [
    | inl less ↦ lt-ltb (r t) (r b) (increasing t b less) ∙ sym (lt-ltb t b less)
    | inr le ↦ le-ltb (r t) (r b) (renamed-le b t le) ∙ sym (le-ltb t b le)
  ]

  -- tracks fixed below a number, seen through the names
  with_below-cut : (b : ℕ) (fixed label : Label) (t : ℕ) →
      with_below b fixed label (r t) ≡ with_below (cut b) (λ u. fixed (r u)) (λ u. label (r u)) t
  with_below-cut b fixed label t i = cond (cut-is b t i) (fixed (r t)) (label (r t))

  with_below-back : (b : ℕ) (fixed label : Label) (t : ℕ) →
      with_below (r b) (λ u. fixed (back u)) label (r t) ≡ with_below b fixed (λ u. label (r u)) t
  with_below-back b fixed label t i = cond (below-same t b i) (fixed (back-is t i)) (label (r t))

  with_track-through : (label : Label) (t : ℕ) (bit : Bool) (u : ℕ) →
      with_track label (r t) bit (r u) ≡ with_track (λ v. label (r v)) t bit u
  with_track-through label t bit u i = cond (same i) bit (label (r u))
    where
      same : eqb (r u) (r t) ≡ eqb u t
      same = elim (cases_eq u t) as (λ _. eqb (r u) (r t) ≡ eqb u t) [
        | inl is ↦ eq-eqb (r u) (r t) (ap r is) ∙ sym (eq-eqb u t is)
        | inr other ↦ ne_eqb (r u) (r t) (λ e. other (IsIncreasing-injective u t e)) ∙ sym (ne_eqb u t other)
      ]

  module _ {Q : Type 0} (g : Spaces) (A : Automaton Q) where
    abbrev Other : Automaton Q
    Other = renamed_tracks r A

    abbrev through : Assignment → Assignment
    through a = λ t. a (r t)

    abbrev over : Assignment → Assignment
    over a = λ u. a (back u)

    -- the value is that of the sets of the tracks' numbers
    pub value-renamed : (s n : ℕ) (a : Assignment) → value g Other s n a ≡ value g A s n (through a)
    value-renamed s zero a = refl
    value-renamed s (suc n) a = λ i. A.step s
        (value-renamed (left g s) n (half false a) i) (value-renamed (right g s) n (half true a) i) (λ t. a (r t) [])

    value-over : (s n : ℕ) (a : Assignment) → value g Other s n (over a) ≡ value g A s n a
    value-over s n a = value-renamed s n (over a) ∙ (λ i. value g A s n (λ t. a (back-is t i)))

    value_with-renamed : (s : ℕ) (hole : Position) (q : Q) (n : ℕ) (a : Assignment) →
        value_with g Other s hole q n a ≡ value_with g A s hole q n (through a)
    value_with-renamed s [] q n a = refl
    value_with-renamed s (false ∷ p) q n a = λ i. A.step s
        (value_with-renamed (left g s) p q n (half false a) i) (value-renamed (right g s) n (half true a) i) (λ t. a (r t) [])
    value_with-renamed s (true ∷ p) q n a = λ i. A.step s
        (value-renamed (left g s) n (half false a) i) (value_with-renamed (right g s) p q n (half true a) i) (λ t. a (r t) [])

    value_with-over : (s : ℕ) (hole : Position) (q : Q) (n : ℕ) (a : Assignment) →
        value_with g Other s hole q n (over a) ≡ value_with g A s hole q n a
    value_with-over s hole q n a = value_with-renamed s hole q n (over a) ∙ (λ i. value_with g A s hole q n (λ t. a (back-is t i)))

    pub IsStable-renamed : IsStable g A → IsStable g Other
    IsStable-renamed stable = record { at = stable.at }

    pub Accepts-renamed : IsGuide g → IsStable g A → (n : ℕ) (a : Assignment) → Covers n a → Accepts g Other a ↔ Accepts g A (through a)
    Accepts-renamed guide stable n a covers = (
      (λ h. record {
        depth = h.depth;
        covers = λ t. h.covers (r t);
        accepted = ap (λ q. A.accepting q) (sym (value-renamed 0 h.depth a)) ∙ h.accepted;
      }),
      (λ h. record {
        depth = n;
        covers = covers;
        accepted = ap (λ q. A.accepting q) (value-renamed 0 n a) ∙ Accepts-at g guide A stable n (through a) (λ t. covers (r t)) h;
      }),
    )

    pub IsReached-renamed : (has : ℕ → Q → Type 0) → IsReached g A has → IsReached g Other has
    IsReached-renamed has reached = record {
      state = λ s q there. (
        (λ h.
            let v = (reached.state s q there).0 h in
            record {
              assignment = over v.assignment;
              depth = v.depth;
              covers = λ u. v.covers (back u);
              is_value = value-over s v.depth v.assignment ∙ v.is_value;
            }),
        (λ v. (reached.state s q there).1 (record {
          assignment = through v.assignment;
          depth = v.depth;
          covers = λ t. v.covers (r t);
          is_value = sym (value-renamed s v.depth v.assignment) ∙ v.is_value;
        })),
      );
    }

    pub IsMinimal-renamed : (has : ℕ → Q → Type 0) → IsMinimal g A has → IsMinimal g Other has
    IsMinimal-renamed has minimal = record {
      stable = IsStable-renamed minimal.stable;
      reached = IsReached-renamed has minimal.reached;
      apart = λ s p q there in_p in_q differ.
          let d = minimal.apart s p q there in_p in_q differ in
          record {
            hole = d.hole;
            assignment = over d.assignment;
            depth = d.depth;
            covers = λ u. d.covers (back u);
            is_there = d.is_there;
            differs = λ same. d.differs (ap (λ z. A.accepting z) (sym (value_with-over 0 d.hole p d.depth d.assignment))
                ∙ same ∙ ap (λ z. A.accepting z) (value_with-over 0 d.hole q d.depth d.assignment));
          };
    }

    -- the parts of the table are those before, seen through the names
    module _ (has : ℕ → Q → Type 0) (s : ℕ) where
      abbrev lifted : (Label → Q) → Label → Q
      lifted f = λ label. f (λ t. label (r t))

      lifted-over : (f : Label → Q) (label : Label) → lifted f (λ u. label (back u)) ≡ f label
      lifted-over f label i = f (λ t. label (back-is t i))

      IsPart-lifted : (f : Label → Q) → IsPart g A has s f → IsPart g Other has s (lifted f)
      IsPart-lifted f part =
          let u = part.under in
          let v = part.varied in
          record {
            under = record {
              at_left = u.at_left;
              at_right = u.at_right;
              in_left = u.in_left;
              in_right = u.in_right;
              below = r u.below;
              fixed = λ w. u.fixed (back w);
              states = λ label. u.states (λ t. label (r t))
                  ∙ ap (A.step s u.at_left u.at_right) (fun_ext (λ t. sym (with_below-back u.below u.fixed label t)));
            };
            varied = record {
              one = λ w. v.one (back w);
              other = λ w. v.other (back w);
              differs = λ same. v.differs (sym (lifted-over f v.one) ∙ same ∙ lifted-over f v.other);
            };
          }

      -- each part is one of these
      part-lifts : (h : Label → Q) → IsPart g Other has s h → (f : Label → Q) × IsPart g A has s f × (lifted f ≡ h)
      part-lifts h part =
          let u = part.under in
          let v = part.varied in
          let f : Label → Q = λ label. A.step s u.at_left u.at_right (with_below (cut u.below) (λ t. u.fixed (r t)) label) in
          let is : (label : Label) → lifted f label ≡ h label = λ label.
          ap (A.step s u.at_left u.at_right) (fun_ext (λ t. sym (with_below-cut u.below u.fixed label t))) ∙ sym (u.states label) in (
            f,
            record {
              under = record {
                at_left = u.at_left;
                at_right = u.at_right;
                in_left = u.in_left;
                in_right = u.in_right;
                below = cut u.below;
                fixed = λ t. u.fixed (r t);
                states = λ label. refl;
              };
              varied = record {
                one = λ t. v.one (r t);
                other = λ t. v.other (r t);
                differs = λ same. v.differs (sym (is v.one) ∙ same ∙ is v.other);
              };
            },
            fun_ext is,
          )

      lifted-differ : (f h : Label → Q) → AreDifferent f h → AreDifferent (lifted f) (lifted h)
      lifted-differ f h d = record {
        label = λ u. d.label (back u);
        differs = λ same. d.differs (sym (lifted-over f d.label) ∙ same ∙ lifted-over h d.label);
      }

      pub SizeIn-renamed : (n : ℕ) → SizeIn g A has s n → SizeIn g Other has s n
      SizeIn-renamed n size = record {
        pairs = size.pairs;
        parts = map lifted size.parts;
        all_pairs = size.all_pairs;
        all_parts = record {
          every = λ h part.
              let f = part-lifts h part in
              subst (Contains (map lifted size.parts)) f.2 (Contains-map lifted size.parts f.0 ((size.all_parts).every f.0 f.1));
          only = λ h inside.
              let f = Contains-mapped lifted size.parts h inside in
              subst (IsPart g Other has s) f.2 (IsPart-lifted f.0 ((size.all_parts).only f.0 f.1));
          once = AllPairs-map AreDifferent AreDifferent lifted lifted-differ size.parts (size.all_parts).once;
        };
        is_sum = ap (λ k. length size.pairs + k) (length-map size.parts lifted) ∙ size.is_sum;
      }

    pub SizeOf-renamed : (has : ℕ → Q → Type 0) (n : ℕ) → SizeOf g A has n → SizeOf g Other has n
    SizeOf-renamed has n size = record {
      sizes = size.sizes;
      in_space = λ s there. SizeIn-renamed has s (size.sizes s) (size.in_space s there);
      is_sum = size.is_sum;
    }

    -- what the dropped track doesn't tell apart
    Settled-renamed : (t s : ℕ) (q : Q) → Settled g A t s q → Settled g Other (r t) s q
    Settled-renamed t _ _ (starts s there) = starts s there
    Settled-renamed t _ _ (steps s p q label there at_most in_p in_q) =
        subst (Settled g Other (r t) s) (ap (A.step s p q) (fun_ext (λ u. with_track-through empty_label t (label t) u)
        ∙ with_track-at_most t label at_most))
        (steps s p q (with_track empty_label (r t) (label t)) there (HasAtMost-with_track (r t) (label t))
        (Settled-renamed t (left g s) p in_p) (Settled-renamed t (right g s) q in_q))

    Settled-through : (t s : ℕ) (q : Q) → Settled g Other (r t) s q → Settled g A t s q
    Settled-through t _ _ (starts s there) = starts s there
    Settled-through t _ _ (steps s p q label there at_most in_p in_q) =
        steps s p q (λ u. label (r u)) there (λ u other. at_most (r u) (λ same. other (IsIncreasing-injective u t same)))
        (Settled-through t (left g s) p in_p) (Settled-through t (right g s) q in_q)

  pub IsProduct-renamed : {Q R S : Type 0} (g : Spaces) (A : Automaton Q) (B : Automaton R) (C : Automaton S) (has : ℕ → S → Type 0)
      (pair : ℕ → S → Q × R) → IsProduct g A B C has pair →
      IsProduct g (renamed_tracks r A) (renamed_tracks r B) (renamed_tracks r C) has pair
  IsProduct-renamed g A B C has pair product = record {
    reached = IsReached-renamed g C has product.reached;
    naming = record {
      initial = (product.naming).initial;
      step = λ s p q label there in_p in_q. (product.naming).step s p q (λ t. label (r t)) there in_p in_q;
      accepting = (product.naming).accepting;
    };
    once = product.once;
  }

  pub IsSubset-renamed : {Q S : Type 0} (g : Spaces) (A : Automaton Q) (t : ℕ) (C : Automaton S) (has : ℕ → S → Type 0)
      (member : ℕ → S → Q → Type 0) → IsSubset g A t C has member →
      IsSubset g (renamed_tracks r A) (r t) (renamed_tracks r C) has member
  IsSubset-renamed g A t C has member subset = record {
    reached = IsReached-renamed g C has subset.reached;
    initial = λ s q there. (
      (λ h. Settled-renamed g A t s q ((subset.initial s q there).0 h)),
      (λ h. (subset.initial s q there).1 (Settled-through g A t s q h)),
    );
    step = λ s x y label q there in_x in_y. (
      (λ h.
          let z = (subset.step s x y (λ u. label (r u)) q there in_x in_y).0 h in
          record {
            left = z.left;
            right = z.right;
            bit = z.bit;
            in_left = z.in_left;
            in_right = z.in_right;
            is_step = ap (A.step s z.left z.right) (fun_ext (λ u. with_track-through label t z.bit u)) ∙ z.is_step;
          }),
      (λ z. (subset.step s x y (λ u. label (r u)) q there in_x in_y).1 (record {
        left = z.left;
        right = z.right;
        bit = z.bit;
        in_left = z.in_left;
        in_right = z.in_right;
        is_step = ap (A.step s z.left z.right) (fun_ext (λ u. sym (with_track-through label t z.bit u))) ∙ z.is_step;
      })),
    );
    accepting = λ x in_x. (
      (λ is.
          let z = (subset.accepting x in_x).0 is in
          record { state = z.state; inside = z.inside; accepting = z.accepting }),
      (λ z. (subset.accepting x in_x).1 (record { state = z.state; inside = z.inside; accepting = z.accepting })),
    );
    once = subset.once;
  }
