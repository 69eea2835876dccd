-- Answers for states that are listed.
use Rattle.std.proofs.Common.{◌≡◌, ◌≢◌, inl, inr, ℕ, zero, suc, ◌+◌, ◌<◌, ◌≤◌, Bool, true, false, List, [], ◌∷◌, ◌++◌, length, take, get_or}
use Rattle.std.proofs.Common.{slice_get, unwrap_or, refl, ap, sym, ◌∙◌, subst, arith, eqb-true}
use Rattle.std.specs.Prelude.{◌||◌, nat_eq, slice_set}
use Rattle.std.specs.List.{list_any}
use Rattle.std.proofs.lemmas.Bool.{cases_Bool, eqb-false}
use Rattle.std.proofs.lemmas.List.{take_more, take_all}

abbrev pub says : List Bool → ℕ → Bool
says answers q = unwrap_or (slice_get answers q) false

abbrev pub is_listed : List ℕ → ℕ → Bool
is_listed listed q = list_any (λ r. nat_eq r q) listed

-- one more that says no
pub says-push : (answers : List Bool) (q : ℕ) → says (answers ++ false ∷ []) q ≡ says answers q
says-push [] zero = refl
says-push [] (suc q) = refl
says-push (b ∷ answers) zero = refl
says-push (b ∷ answers) (suc q) = says-push answers q

-- one that says yes in its place
says-set-same : (answers : List Bool) (r : ℕ) → r < length answers → says (slice_set answers r true) r ≡ true
says-set-same [] r inside = absurd (omega (arith, inside))
says-set-same (b ∷ answers) zero inside = refl
says-set-same (b ∷ answers) (suc r) inside = says-set-same answers r (omega (arith, inside))

says-set-other : (answers : List Bool) (r q : ℕ) → r ≢ q → says (slice_set answers r true) q ≡ says answers q
says-set-other [] r q apart = refl
says-set-other (b ∷ answers) zero zero apart = absurd (apart refl)
says-set-other (b ∷ answers) zero (suc q) apart = refl
says-set-other (b ∷ answers) (suc r) zero apart = refl
says-set-other (b ∷ answers) (suc r) (suc q) apart = says-set-other answers r q (λ same. apart (ap suc same))

or-right : (b : Bool) → b || true ≡ true
or-right true = refl
or-right false = refl

or-none : (b : Bool) → b || false ≡ b
or-none true = refl
or-none false = refl

listed-push : (listed : List ℕ) (r q : ℕ) → is_listed (listed ++ r ∷ []) q ≡ is_listed listed q || nat_eq r q
listed-push [] r q = or-none (nat_eq r q)
listed-push (x ∷ listed) r q = by (nat_eq x q) (listed-push listed r q)
  where
    by : (b : Bool) → is_listed (listed ++ r ∷ []) q ≡ is_listed listed q || nat_eq r q →
        b || is_listed (listed ++ r ∷ []) q ≡ (b || is_listed listed q) || nat_eq r q
    by true same = refl
    by false same = same

pub listed-next : (listed : List ℕ) (i : ℕ) (answers long set : List Bool) → i < length listed →
    ((q : ℕ) → says answers q ≡ is_listed (take i listed) q) → ((q : ℕ) → says long q ≡ says answers q) → get_or listed i 0 < length long →
    set ≡ slice_set long (get_or listed i 0) true → (q : ℕ) → says set q ≡ is_listed (take (i + 1) listed) q
listed-next listed i answers long set inside are same within is q =
    let r = get_or listed i 0 in
    ap (λ (l : List Bool). says l q) is
    ∙ elim (cases_Bool (nat_eq r q)) as (λ _. says (slice_set long r true) q ≡ is_listed (take i listed) q || nat_eq r q) [
      | inl here ↦
          let e : r ≡ q = eqb-true r q here in
          subst (λ (n : ℕ). says (slice_set long r true) n ≡ true) e (says-set-same long r within)
          ∙ sym (ap (λ (b : Bool). is_listed (take i listed) q || b) here ∙ or-right (is_listed (take i listed) q))
      | inr other ↦
          says-set-other long r q (eqb-false r q other) ∙ same q ∙ are q
          ∙ sym (ap (λ (b : Bool). is_listed (take i listed) q || b) other ∙ or-none (is_listed (take i listed) q))
    ]
    ∙ sym (listed-push (take i listed) r q)
    ∙ ap (λ (l : List ℕ). is_listed l q) (sym (take_more listed i 0 inside))

pub listed-whole : (listed : List ℕ) (i : ℕ) (answers : List Bool) → length listed ≤ i → ((q : ℕ) → says answers q ≡ is_listed (take i listed) q) →
    (q : ℕ) → says answers q ≡ is_listed listed q
listed-whole listed i answers all are q = are q ∙ ap (λ (l : List ℕ). is_listed l q) (take_all i listed all)
