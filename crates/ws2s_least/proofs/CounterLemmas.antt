-- An automaton that counts the weight of an assignment up to a bound, and whether an automaton accepts anything.
use Rattle.std.proofs.Common.{◌≡◌, ◌⊎◌, inl, inr, ◌+◌, ◌<◌, ◌≤◌, ℕ, zero, suc, min, max, nat_lt, Bool, true, false, cond, List, [], ◌∷◌, refl, sym, ap, ap₂}
use Rattle.std.proofs.Common.{◌∙◌, arith}
use Rattle.std.proofs.lemmas.Bool.{cases_lt, lt-ltb, ltb-true, false≢true}
use Rattle.labels.specs.Labels.{Label, empty_label}
use Rattle.gta_theory.specs.Assignments.{Assignment, Covers, half, root_label, empty_assignment}
use Rattle.gta_theory.specs.Guides.{Spaces, IsGuide, left, right}
use Rattle.gta_theory.specs.Automata.{Automaton, value, IsStable, Accepts}
use Rattle.gta_theory.specs.Constructions.{IsReached, IsClosed}
use Rattle.gta_theory.specs.Numbered.{Below}
use Rattle.gta_theory.specs.Sizes.{AreSameBelow, LooksBelow}
use Rattle.gta_theory.specs.Weights.{label_weight, weight}
use Rattle.gta_theory.proofs.AssignmentsLemmas.{Covers-empty}
use Rattle.gta_theory.proofs.WeightsLemmas.{weight-deeper}

-- ---- tracks below a bound

-- a number above all tracks
abbrev pub bound : List ℕ → ℕ
bound [] = 0
bound (t ∷ tracks) = max (suc t) (bound tracks)

label-same : (tracks : List ℕ) (k : ℕ) → bound tracks ≤ k → (l m : Label) → AreSameBelow k l m → label_weight tracks l ≡ label_weight tracks m
label-same [] k enough l m same = refl
label-same (t ∷ tracks) k enough l m same =
    ap₂ (λ (b : Bool) (n : ℕ). cond b 1 0 + n) (same t (omega (arith, enough))) (label-same tracks k (omega (arith, enough)) l m same)

-- ---- the counter

cap-sum : (w x y l : ℕ) → min w (min w x + min w y + l) ≡ min w (l + (x + y))
cap-sum w x y l = omega arith

module _ (tracks : List ℕ) (w : ℕ) where
  -- its state is the weight so far, and w where that is w or more; it accepts below w
  abbrev pub counter : Automaton ℕ
  counter = record {
    initial = λ s. 0;
    step = λ s p q label. min w (p + q + label_weight tracks label);
    accepting = λ q. nat_lt q w;
  }

  -- its states are the numbers up to w
  abbrev pub counts : ℕ → ℕ
  counts s = suc w

  pub value-counter : (g : Spaces) (s n : ℕ) (a : Assignment) → value g counter s n a ≡ min w (weight tracks n a)
  value-counter g s zero a = let none : 0 ≡ min w 0 = omega arith in none
  value-counter g s (suc n) a =
      ap₂ (λ (x y : ℕ). min w (x + y + label_weight tracks (root_label a)))
      (value-counter g (left g s) n (half false a)) (value-counter g (right g s) n (half true a))
      ∙ cap-sum w (weight tracks n (half false a)) (weight tracks n (half true a)) (label_weight tracks (root_label a))

  pub stable-counter : (g : Spaces) → IsStable g counter
  stable-counter g = record {
    at = λ s there.
        let none : label_weight tracks empty_label + (0 + 0) ≡ 0 =
        weight-deeper tracks zero (suc zero) empty_assignment Covers-empty (omega arith) in
        let still : min w (0 + 0 + label_weight tracks empty_label) ≡ 0 = omega (arith, none) in
        still;
  }

  pub closed-counter : (g : Spaces) → IsClosed g counter (Below counts)
  closed-counter g = record {
    initial = λ s there. lt-ltb 0 (suc w) (omega arith);
    step = λ s p q label there in_left in_right. lt-ltb (min w (p + q + label_weight tracks label)) (suc w) (omega arith);
  }

  pub looks-counter : (g : Spaces) (k : ℕ) → bound tracks ≤ k → LooksBelow g counter (Below counts) k
  looks-counter g k enough = record {
    step = λ s p q l m there in_left in_right same. ap (λ (n : ℕ). min w (p + q + n)) (label-same tracks k enough l m same);
  }

  -- it accepts what weighs less than w
  pub light-from : (g : Spaces) (a : Assignment) → (accepts : Accepts g counter a) → weight tracks accepts.depth a < w
  light-from g a accepts =
      let is = value-counter g 0 accepts.depth a in
      let below = ltb-true (value g counter 0 accepts.depth a) w accepts.accepted in
      omega (arith, is, below)

  pub accepts-light : (g : Spaces) (n : ℕ) (a : Assignment) → Covers n a → weight tracks n a < w → Accepts g counter a
  accepts-light g n a covers light = record {
    depth = n;
    covers = covers;
    accepted = let is = value-counter g 0 n a in lt-ltb (value g counter 0 n a) w (omega (arith, is, light));
  }

-- ---- whether anything is accepted

module _ (g : Spaces) (guide : IsGuide g) (P : Automaton ℕ) (count : ℕ → ℕ) (reached : IsReached g P (Below count)) where
  -- some assignment is
  abbrev pub AcceptsSome : Type 0
  AcceptsSome = (n : ℕ) × (a : Assignment) × Covers n a × Accepts g P a

  abbrev NoneBelow : ℕ → Type 0
  NoneBelow n = (q : ℕ) → q < n → P.accepting q ≡ true → ⊥

  from-state : (q : ℕ) → q < count 0 → P.accepting q ≡ true → AcceptsSome
  from-state q inside accepting =
      let is = (reached.state 0 q guide.not_empty).0 (lt-ltb q (count 0) inside) in
      (is.depth, is.assignment, is.covers, record { depth = is.depth; covers = is.covers; accepted = ap P.accepting is.is_value ∙ accepting })

  next-state : (n : ℕ) → n < count 0 → NoneBelow n → (b : Bool) → P.accepting n ≡ b → AcceptsSome ⊎ NoneBelow (suc n)
  next-state n inside none true is = inl (from-state n inside is)
  next-state n inside none false is =
      inr (λ q below accepting. elim (cases_lt q n) [
        | inl less ↦ none q less accepting
        | inr more ↦ (let same : q ≡ n = omega (arith, below, more) in false≢true (sym is ∙ ap P.accepting (sym same) ∙ accepting))
      ])

  look : (n : ℕ) → n ≤ count 0 → AcceptsSome ⊎ NoneBelow n
  look zero enough = inr (λ q below accepting. absurd (omega (arith, below)))
  look (suc n) enough = elim (look n (omega (arith, enough))) as (λ _. AcceptsSome ⊎ NoneBelow (suc n)) [
    | inl found ↦ inl found
    | inr none ↦ next-state n (omega (arith, enough)) none (P.accepting n) refl
  ]

  pub accepts-decided : AcceptsSome ⊎ ((a : Assignment) → Accepts g P a → ⊥)
  accepts-decided = elim (look (count 0) (omega arith)) as (λ _. AcceptsSome ⊎ ((a : Assignment) → Accepts g P a → ⊥)) [
    | inl found ↦ inl found
    | inr none ↦ inr (λ a accepts.
        let q : ℕ = value g P 0 accepts.depth a in
        let has = (reached.state 0 q guide.not_empty).1 (record { assignment = a; depth = accepts.depth; covers = accepts.covers; is_value = refl }) in
        none q (ltb-true q (count 0) has) accepts.accepted)
  ]
