-- Marks are taken away, and numbers put to 0 again.
use Rattle.std.proofs.Common.{◌≡◌, ◌≢◌, ℕ, zero, suc, ◌+◌, ◌<◌, Bool, true, false, List, length, ◌⊎◌, inl, inr}
use Rattle.std.proofs.Common.{sym, ◌∙◌, ap, refl, arith}
use Rattle.std.specs.Prelude.{Contains, slice_index, slice_set, replicate}
use Rattle.std.proofs.lemmas.List.{get_or_default, get_or-set_same, get_or-set_other, get_or_past, length-set}
use Rattle.std.proofs.lemmas.Bool.{cases_eq, cases_lt, cases_Bool, false≢true}
use Rattle.gta_classes.specs.Chosen.{is_marked}
use Rattle.gta_classes.specs.Cuts.{IsIndicator}
use Rattle.gta_classes.specs.Marks.{IsClear, AreZero}

-- ---- marks

pub IsClear-none : (marks : List Bool) → ((i : ℕ) → is_marked marks i ≡ true → ⊥) → IsClear marks
IsClear-none marks none i = elim (cases_Bool (is_marked marks i)) [
  | inl marked ↦ absurd (none i marked)
  | inr unmarked ↦ unmarked
]

pub IsClear-replicate : (many : ℕ) → IsClear (replicate many false)
IsClear-replicate zero zero = refl
IsClear-replicate zero (suc i) = refl
IsClear-replicate (suc n) zero = refl
IsClear-replicate (suc n) (suc i) = IsClear-replicate n i

unmarked-at : (marks : List Bool) (i : ℕ) → is_marked (slice_set marks i false) i ≡ false
unmarked-at marks i = elim (cases_lt i (length marks)) [
  | inl inside ↦ get_or-set_same marks i false false inside
  | inr past ↦ get_or_past (slice_set marks i false) i false (let e = length-set marks i false in omega arith)
]

pub unmarked-set : (marks : List Bool) (i q : ℕ) → is_marked (slice_set marks i false) q ≡ true → (is_marked marks q ≡ true) × (q ≢ i)
unmarked-set marks i q marked = elim (cases_eq q i) [
  | inl same ↦ absurd (false≢true (sym (ap (is_marked (slice_set marks i false)) same ∙ unmarked-at marks i) ∙ marked))
  | inr other ↦ (sym (get_or-set_other marks i q false false other) ∙ marked, other)
]

-- the marks of the numbers so far are taken away
abbrev pub UnmarkedBelow : List Bool → List ℕ → List Bool → ℕ → Type 0
UnmarkedBelow marks numbers now below = (i : ℕ) → is_marked now i ≡ true →
    (is_marked marks i ≡ true) × ((k : ℕ) → k < below → slice_index numbers k ≡ i → ⊥)

pub UnmarkedBelow-none : (marks : List Bool) (numbers : List ℕ) → UnmarkedBelow marks numbers marks 0
UnmarkedBelow-none marks numbers i marked = (marked, λ k k_in e. absurd (omega arith))

pub UnmarkedBelow-next : (marks : List Bool) (numbers : List ℕ) (now : List Bool) (below : ℕ) → UnmarkedBelow marks numbers now below →
    UnmarkedBelow marks numbers (slice_set now (slice_index numbers below) false) (below + 1)
UnmarkedBelow-next marks numbers now below so_far i marked =
    let from = unmarked-set now (slice_index numbers below) i marked in
    let was = so_far i from.0 in (
      was.0,
      λ k k_in e. elim (cases_eq k below) [
        | inl same ↦ absurd (from.1 (sym e ∙ ap (slice_index numbers) same))
        | inr before ↦ was.1 k (omega arith) e
      ],
    )

pub unmarked-all : (marks : List Bool) (numbers : List ℕ) (now : List Bool) → UnmarkedBelow marks numbers now (length numbers) → (i : ℕ) →
    is_marked now i ≡ true → (is_marked marks i ≡ true) × (Contains numbers i → ⊥)
unmarked-all marks numbers now all i marked =
    let was = all i marked in
    (was.0, λ there. was.1 there.0 there.1 (get_or_default numbers there.0 0 i there.1 ∙ there.2))

-- ---- numbers

pub AreZero-replicate : (many : ℕ) → AreZero (replicate many 0)
AreZero-replicate zero zero = refl
AreZero-replicate zero (suc i) = refl
AreZero-replicate (suc n) zero = refl
AreZero-replicate (suc n) (suc i) = AreZero-replicate n i

-- the numbers of the listed states so far are 0
abbrev pub ResetBelow : List ℕ → List ℕ → ℕ → Type 0
ResetBelow listed now below = (q : ℕ) →
    (slice_index now q ≡ 0) ⊎ (Contains listed q × ((k : ℕ) → k < below → slice_index listed k ≡ q → ⊥))

pub ResetBelow-start : (listed ids : List ℕ) → IsIndicator listed ids → ResetBelow listed ids 0
ResetBelow-start listed ids indicator q = elim (indicator q) [
  | inl one ↦ inr (one.1, λ k k_in e. absurd (omega arith))
  | inr none ↦ inl none.0
]

pub ResetBelow-next : (listed now : List ℕ) (below : ℕ) → slice_index listed below < length now → ResetBelow listed now below →
    ResetBelow listed (slice_set now (slice_index listed below) 0) (below + 1)
ResetBelow-next listed now below small so_far q = elim (cases_eq q (slice_index listed below)) [
  | inl same ↦ inl (ap (slice_index (slice_set now (slice_index listed below) 0)) same ∙ get_or-set_same now (slice_index listed below) 0 0 small)
  | inr other ↦
      let at : slice_index (slice_set now (slice_index listed below) 0) q ≡ slice_index now q = get_or-set_other now (slice_index listed below) q 0 0 other in
      elim (so_far q) [
        | inl none ↦ inl (at ∙ none)
        | inr left ↦ inr (
          left.0,
          λ k k_in e. elim (cases_eq k below) [
            | inl last ↦ absurd (other (sym e ∙ ap (slice_index listed) last))
            | inr before ↦ left.1 k (omega arith) e
          ],
        )
      ]
]

pub AreZero-all : (listed now : List ℕ) → ResetBelow listed now (length listed) → AreZero now
AreZero-all listed now all q = elim (all q) [
  | inl none ↦ none
  | inr left ↦ absurd (left.1 left.0.0 left.0.1 (get_or_default listed left.0.0 0 q left.0.1 ∙ left.0.2))
]
