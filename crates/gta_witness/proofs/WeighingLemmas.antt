-- On weights of labels, each track counted once.
use Rattle.std.proofs.Common.{◌≡◌, ◌≢◌, ℕ, ◌+◌, ◌≤◌, Bool, true, false, cond, eqb, ◌||◌, if◌then◌else◌, List, [], ◌∷◌, inl, inr}
use Rattle.std.proofs.Common.{refl, sym, ap, subst, ◌∙◌, arith, eqb-true}
use Rattle.std.proofs.lemmas.Bool.{false≢true, cases_Bool, eqb-false}
use Rattle.labels.specs.Labels.{Label}
use Rattle.gta_theory.specs.Weights.{label_weight}
use Rattle.ws2s_core.specs.declared.track.Track.{Track}
use Rattle.gta_witness.specs.Lightest.{is_among, each_once}
use Rattle.gta_witness.specs.Rules.{bit_cost}

abbrev bit : Bool → ℕ
bit b = if b then 1 else 0

-- labels that agree weigh the same
pub label_weight-same : (ts : List ℕ) (l m : Label) → ((t : ℕ) → l t ≡ m t) → label_weight ts l ≡ label_weight ts m
label_weight-same [] l m agree = refl
label_weight-same (t ∷ ts) l m agree =
    let one : bit (l t) ≡ bit (m t) = ap bit (agree t) in
    let others = label_weight-same ts l m agree in
    omega arith

pub label_weight-none : (ts : List ℕ) (l : Label) → ((t : ℕ) → l t ≡ false) → label_weight ts l ≡ 0
label_weight-none [] l none = refl
label_weight-none (t ∷ ts) l none =
    let one : bit (l t) ≡ 0 = ap bit (none t) in
    let others = label_weight-none ts l none in
    omega arith

-- whether the number is in the list
abbrev listed : ℕ → List ℕ → Bool
listed t [] = false
listed t (u ∷ us) = eqb u t || listed t us

-- no number twice
abbrev Once : List ℕ → Type 0
Once [] = Unit {0}
Once (t ∷ ts) = (listed t ts ≡ false) × Once ts

or-false : (b c : Bool) → b || c ≡ false → (b ≡ false) × (c ≡ false)
or-false true c e = absurd (false≢true (sym e))
or-false false c e = (refl, e)

-- a label that has a track more weighs as much more as the track does, where the list has no track twice
module _ (t : ℕ) (l m : Label) (unset : l t ≡ false) (set : m t ≡ true) (others : (u : ℕ) → u ≢ t → m u ≡ l u) where
  other-weight : (ts : List ℕ) → listed t ts ≡ false → label_weight ts m ≡ label_weight ts l
  other-weight [] none = refl
  other-weight (u ∷ us) none =
      let parts = or-false (eqb u t) (listed t us) none in
      let one : bit (m u) ≡ bit (l u) = ap bit (others u (eqb-false u t parts.0)) in
      let rest = other-weight us parts.1 in
      omega arith

  more-weight : (ts : List ℕ) → Once ts → label_weight ts m ≡ bit (listed t ts) + label_weight ts l
  more-weight [] once = omega arith
  more-weight (u ∷ us) once = elim (cases_Bool (eqb u t)) [
    | inl same ↦
        let is : u ≡ t = eqb-true u t same in
        let gone : listed t us ≡ false = ap (λ (k : ℕ). listed k us) (sym is) ∙ once.0 in
        let rest = other-weight us gone in
        let now : bit (m u) ≡ 1 = ap bit (ap m is ∙ set) in
        let was : bit (l u) ≡ 0 = ap bit (ap l is ∙ unset) in
        let here : bit (listed t (u ∷ us)) ≡ 1 = ap (λ (b : Bool). bit (b || listed t us)) same in
        omega arith
    | inr apart ↦
        let one : bit (m u) ≡ bit (l u) = ap bit (others u (eqb-false u t apart)) in
        let rest = more-weight us once.1 in
        let here : bit (listed t (u ∷ us)) ≡ bit (listed t us) = ap (λ (b : Bool). bit (b || listed t us)) apart in
        omega arith
  ]

-- the numbers of tracks, each once
listed-each_once : (tracks : List Track) (t : ℕ) → listed t (each_once tracks) ≡ is_among tracks t
listed-each_once [] t = refl
listed-each_once (x ∷ xs) t = elim (cases_Bool (is_among xs x.0)) [
  | inl again ↦
      ap (λ (b : Bool). listed t (cond b (each_once xs) (x.0 ∷ each_once xs))) again ∙ listed-each_once xs t ∙ sym (same again)
  | inr new ↦
      ap (λ (b : Bool). listed t (cond b (each_once xs) (x.0 ∷ each_once xs))) new ∙ ap (λ (b : Bool). eqb x.0 t || b) (listed-each_once xs t)
]
  where
    same : is_among xs x.0 ≡ true → eqb x.0 t || is_among xs t ≡ is_among xs t
    same again = elim (cases_Bool (eqb x.0 t)) [
      | inl here ↦ ap (λ (b : Bool). b || is_among xs t) here ∙ sym (ap (is_among xs) (sym (eqb-true x.0 t here)) ∙ again)
      | inr apart ↦ ap (λ (b : Bool). b || is_among xs t) apart
    ]

Once-each_once : (tracks : List Track) → Once (each_once tracks)
Once-each_once [] = tt
Once-each_once (x ∷ xs) = elim (cases_Bool (is_among xs x.0)) [
  | inl again ↦ subst (λ (b : Bool). Once (cond b (each_once xs) (x.0 ∷ each_once xs))) (sym again) (Once-each_once xs)
  | inr new ↦ subst (λ (b : Bool). Once (cond b (each_once xs) (x.0 ∷ each_once xs))) (sym new) (listed-each_once xs x.0 ∙ new, Once-each_once xs)
]

-- a label with a track more costs the track's bit more
pub label_weight-more : (tracks : List Track) (t : ℕ) (l m : Label) → l t ≡ false → m t ≡ true → ((u : ℕ) → u ≢ t → m u ≡ l u) →
    label_weight (each_once tracks) m ≡ bit_cost (is_among tracks) t + label_weight (each_once tracks) l
label_weight-more tracks t l m unset set others =
    let more = more-weight t l m unset set others (each_once tracks) (Once-each_once tracks) in
    let cost : bit (listed t (each_once tracks)) ≡ bit_cost (is_among tracks) t = ap bit (listed-each_once tracks t) in
    omega arith

bit-le : (b c : Bool) → (b ≡ true → c ≡ true) → bit b ≤ bit c
bit-le true true to = omega arith
bit-le true false to = absurd (false≢true (to refl))
bit-le false true to = omega arith
bit-le false false to = omega arith

-- a label within another weighs no more
pub label_weight-le : (ts : List ℕ) (l m : Label) → ((t : ℕ) → l t ≡ true → m t ≡ true) → label_weight ts l ≤ label_weight ts m
label_weight-le [] l m to = omega arith
label_weight-le (t ∷ ts) l m to =
    let one = bit-le (l t) (m t) (to t) in
    let others = label_weight-le ts l m to in
    omega arith
