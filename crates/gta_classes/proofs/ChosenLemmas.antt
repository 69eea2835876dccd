-- Marks, and some reached states of each class.
use Rattle.std.proofs.Common.{◌≡◌, ℕ, zero, suc, ◌+◌, ◌<◌, Bool, true, false, List, [], ◌∷◌, ◌++◌, length, get_or, Some, ◌⊎◌, inl, inr}
use Rattle.std.proofs.Common.{sym, ◌∙◌, ap, refl, subst, arith}
use Rattle.std.specs.Prelude.{slice_get, slice_index, slice_set, Option, None, unwrap_or}
use Rattle.std.proofs.lemmas.List.{get_or-set_same, get_or-set_other, get_or_past, set-get_or}
use Rattle.std.proofs.lemmas.Bool.{cases_eq, cases_lt, false≢true}
use Rattle.std.proofs.lemmas.Option.{slice_get_within, unwrap_or-slice_get}
use Rattle.gta_theory.proofs.ListedLemmas.{slice_get-front, slice_get-last, slice_get-push}
use Rattle.gta_classes.specs.Chosen.{is_marked, IsAmong, HasLike, AreChosen}

pub marked-inside : (marks : List Bool) (q : ℕ) → is_marked marks q ≡ true → q < length marks
marked-inside marks q marked = elim (cases_lt q (length marks)) [
  | inl inside ↦ inside
  | inr past ↦ absurd (false≢true (sym (get_or_past marks q false past) ∙ marked))
]

pub marked-set_same : (marks : List Bool) (i : ℕ) → i < length marks → is_marked (slice_set marks i true) i ≡ true
marked-set_same marks i inside = get_or-set_same marks i true false inside

pub marked-set : (marks : List Bool) (i q : ℕ) → is_marked marks q ≡ true → is_marked (slice_set marks i true) q ≡ true
marked-set marks i q marked = elim (cases_eq q i) [
  | inl same ↦ subst (λ (k : ℕ). is_marked (slice_set marks k true) q ≡ true) same (marked-set_same marks q (marked-inside marks q marked))
  | inr other ↦ get_or-set_other marks i q true false other ∙ marked
]

pub marked-set_cases : (marks : List Bool) (i q : ℕ) → is_marked (slice_set marks i true) q ≡ true → (is_marked marks q ≡ true) ⊎ (q ≡ i)
marked-set_cases marks i q marked = elim (cases_eq q i) [
  | inl same ↦ inr same
  | inr other ↦ inl (sym (get_or-set_other marks i q true false other) ∙ marked)
]

pub IsAmong-push : (numbers : List ℕ) (more q : ℕ) → IsAmong numbers q → IsAmong (numbers ++ more ∷ []) q
IsAmong-push numbers more q among = record {
  place = among.place;
  there = slice_get-front numbers (more ∷ []) among.place (slice_get_within numbers among.place q among.there) ∙ among.there;
}

pub IsAmong-last : (numbers : List ℕ) (more : ℕ) → IsAmong (numbers ++ more ∷ []) more
IsAmong-last numbers more = record { place = length numbers; there = slice_get-last numbers more }

pub IsAmong-cases : (numbers : List ℕ) (more q : ℕ) → IsAmong (numbers ++ more ∷ []) q → IsAmong numbers q ⊎ (more ≡ q)
IsAmong-cases numbers more q among = elim (slice_get-push numbers more q among.place among.there) [
  | inl before ↦ inl (record { place = among.place; there = before })
  | inr last ↦ inr last.1
]

-- so far
pub record ChosenBelow (classes : List ℕ) (reached seen : List Bool) (chosen : List ℕ) (below : ℕ) : Type 0 where
  pub each : (q : ℕ) → IsAmong chosen q → is_marked reached q ≡ true
  pub all : (q : ℕ) → q < below → is_marked reached q ≡ true → HasLike classes chosen (slice_index classes q)
  pub marks : (class : ℕ) → is_marked seen class ≡ true → HasLike classes chosen class

pub HasLike-push : (classes chosen : List ℕ) (more class : ℕ) → HasLike classes chosen class → HasLike classes (chosen ++ more ∷ []) class
HasLike-push classes chosen more class has = record {
  like = has.like;
  among = IsAmong-push chosen more has.like has.among;
  same = has.same;
}

module _ (classes : List ℕ) (reached seen : List Bool) (chosen : List ℕ) (below : ℕ) (so_far : ChosenBelow classes reached seen chosen below) where
  -- the state isn't reached
  pub ChosenBelow-skip : is_marked reached below ≡ false → ChosenBelow classes reached seen chosen (below + 1)
  ChosenBelow-skip unreached = record {
    each = so_far.each;
    all = λ q inside marked. elim (cases_eq q below) [
      | inl same ↦ absurd (false≢true (sym unreached ∙ sym (ap (is_marked reached) same) ∙ marked))
      | inr other ↦ so_far.all q (omega arith) marked
    ];
    marks = so_far.marks;
  }

  -- its class was seen
  pub ChosenBelow-seen : is_marked seen (slice_index classes below) ≡ true → ChosenBelow classes reached seen chosen (below + 1)
  ChosenBelow-seen was_seen = record {
    each = so_far.each;
    all = λ q inside marked. elim (cases_eq q below) [
      | inl same ↦ subst (λ (k : ℕ). HasLike classes chosen (slice_index classes k)) (sym same) (so_far.marks (slice_index classes below) was_seen)
      | inr other ↦ so_far.all q (omega arith) marked
    ];
    marks = so_far.marks;
  }

  -- it is chosen
  pub ChosenBelow-push : is_marked reached below ≡ true →
      ChosenBelow classes reached (slice_set seen (slice_index classes below) true) (chosen ++ below ∷ []) (below + 1)
  ChosenBelow-push is_reached =
      let new : HasLike classes (chosen ++ below ∷ []) (slice_index classes below) = record {
        like = below;
        among = IsAmong-last chosen below;
        same = refl;
      } in
      record {
        each = λ q among. elim (IsAmong-cases chosen below q among) [
          | inl before ↦ so_far.each q before
          | inr last ↦ ap (is_marked reached) (sym last) ∙ is_reached
        ];
        all = λ q inside marked. elim (cases_eq q below) [
          | inl same ↦ subst (λ (k : ℕ). HasLike classes (chosen ++ below ∷ []) (slice_index classes k)) (sym same) new
          | inr other ↦ HasLike-push classes chosen below (slice_index classes q) (so_far.all q (omega arith) marked)
        ];
        marks = λ class marked. elim (marked-set_cases seen (slice_index classes below) class marked) [
          | inl before ↦ HasLike-push classes chosen below class (so_far.marks class before)
          | inr same ↦ subst (HasLike classes (chosen ++ below ∷ [])) (sym same) new
        ];
      }

-- a mark that is set, or isn't there
pub set-known : (marks : List Bool) (q : ℕ) → slice_get marks q ≡ Some true → marks ≡ slice_set marks q true
set-known marks q there =
    let e : get_or marks q false ≡ true = sym (unwrap_or-slice_get marks q false) ∙ ap (λ (o : Option Bool). unwrap_or o false) there in
    sym (ap (slice_set marks q) (sym e) ∙ set-get_or marks q false)

pub set-unknown : (marks : List Bool) (q : ℕ) → slice_get marks q ≡ None → marks ≡ slice_set marks q true
set-unknown [] zero none = refl
set-unknown [] (suc q) none = refl
set-unknown (b ∷ marks) zero none = absurd cc
set-unknown (b ∷ marks) (suc q) none = ap (λ (xs : List Bool). b ∷ xs) (set-unknown marks q none)

-- the same marks and states
pub ChosenBelow-same : (classes : List ℕ) (reached seen seen' : List Bool) (chosen chosen' : List ℕ) (below : ℕ) → seen ≡ seen' → chosen ≡ chosen' →
    ChosenBelow classes reached seen chosen below → ChosenBelow classes reached seen' chosen' below
ChosenBelow-same classes reached seen seen' chosen chosen' below same_seen same_chosen so_far =
    subst (λ (cs : List ℕ). ChosenBelow classes reached seen' cs below) same_chosen
    (subst (λ (ss : List Bool). ChosenBelow classes reached ss chosen below) same_seen so_far)

pub AreChosen-all : (classes : List ℕ) (reached seen : List Bool) (chosen : List ℕ) → ChosenBelow classes reached seen chosen (length reached) →
    AreChosen classes reached chosen
AreChosen-all classes reached seen chosen all = record {
  each = all.each;
  all = λ q marked. all.all q (marked-inside reached q marked) marked;
}
