-- On lists of tracks that get more.
use Rattle.std.proofs.Common.{◌≡◌, ◌↔◌, ◌⊎◌, ℕ, ◌+◌, ◌<◌, arith, Bool, true, IsTrue, inl, inr, List, [], ◌∷◌, ◌++◌, Some, Contains, ap, subst}
use Rattle.std.proofs.lemmas.Bool.{cases_eq}
use Rattle.std.proofs.lemmas.List.Elements.{Contains-append_left, Contains-append_right, Contains-append_cases}
use Rattle.gta_theory.proofs.ListsLemmas.{Contains-first, Contains-cases, Contains-none}
use Rattle.ws2s_core.specs.declared.track.Track.{Track}
use Rattle.tree_store.specs.Spots.{Adds}

-- nothing is added
pub Adds-none : (P : Track → Type 0) (tracks : List Track) → ((t : Track) → P t → ⊥) → Adds P tracks tracks
Adds-none P tracks none = record { kept = λ t there. there; added = λ t is. absurd (none t is); only = λ t there. inl there }

-- what is added in two steps
pub Adds-both : (P Q R : Track → Type 0) (old mid new : List Track) → Adds P old mid → Adds Q mid new → ((t : Track) → R t ↔ (P t ⊎ Q t)) →
    Adds R old new
Adds-both P Q R old mid new first second both = record {
  kept = λ t there. second.kept t (first.kept t there);
  added = λ t is. elim ((both t).0 is) as (λ _. Contains new t) [
    | inl one ↦ second.kept t (first.added t one)
    | inr other ↦ second.added t other
  ];
  only = λ t there. elim (second.only t there) as (λ _. Contains old t ⊎ R t) [
    | inl before ↦ elim (first.only t before) as (λ _. Contains old t ⊎ R t) [
      | inl early ↦ inl early
      | inr one ↦ inr ((both t).1 (inl one))
    ]
    | inr other ↦ inr ((both t).1 (inr other))
  ];
}

-- the same said otherwise
pub Adds-same : (P R : Track → Type 0) (old new : List Track) → Adds P old new → ((t : Track) → R t ↔ P t) → Adds R old new
Adds-same P R old new adds same = record {
  kept = adds.kept;
  added = λ t is. adds.added t ((same t).0 is);
  only = λ t there. elim (adds.only t there) as (λ _. Contains old t ⊎ R t) [
    | inl before ↦ inl before
    | inr is ↦ inr ((same t).1 is)
  ];
}

-- one track at the end
pub Adds-push : (P : Track → Type 0) (tracks : List Track) (track : Track) → ((t : Track) → P t ↔ (track ≡ t)) → Adds P tracks (tracks ++ track ∷ [])
Adds-push P tracks track is = record {
  kept = λ t there. Contains-append_left tracks (track ∷ []) t there;
  added = λ t so. Contains-append_right tracks (track ∷ []) t (subst (λ u. Contains (track ∷ []) u) ((is t).0 so) (Contains-first track []));
  only = λ t there. elim (Contains-append_cases tracks (track ∷ []) t there) as (λ _. Contains tracks t ⊎ P t) [
    | inl before ↦ inl before
    | inr end ↦ elim (Contains-cases track t [] end) as (λ _. Contains tracks t ⊎ P t) [
      | inl same ↦ inr ((is t).1 same)
      | inr none ↦ absurd (Contains-none t none)
    ]
  ];
}

-- one track, if there is one and it is to be added
pub Adds-where : (tracks : List Track) (on : Bool) (track : Track) → on ≡ true → Adds (λ t. IsTrue on × (Some track ≡ Some t)) tracks (tracks ++ track ∷ [])
Adds-where tracks on track is_on =
    Adds-push (λ t. IsTrue on × (Some track ≡ Some t)) tracks track
    (λ t. (λ is. one track t is.1, λ same. (is_on, ap (λ u. Some u) same)))
  where
    one : (a b : Track) → Some a ≡ Some b → a ≡ b
    one a b e = cc

-- the tracks of one number more
pub Adds-next : (F : ℕ → Track → Type 0) (n : ℕ) (old mid new : List Track) → Adds (λ t. (k : ℕ) × (k < n) × F k t) old mid → Adds (F n) mid new →
    Adds (λ t. (k : ℕ) × (k < n + 1) × F k t) old new
Adds-next F n old mid new first second =
    Adds-both (λ t. (k : ℕ) × (k < n) × F k t) (F n) (λ t. (k : ℕ) × (k < n + 1) × F k t) old mid new first second (λ t. (
      λ (k, inside, is). elim (cases_eq k n) as (λ _. ((k : ℕ) × (k < n) × F k t) ⊎ F n t) [
        | inl same ↦ inr (subst (λ m. F m t) same is)
        | inr apart ↦ inl (k, omega (arith, inside, apart), is)
      ],
      λ either. elim either as (λ _. (k : ℕ) × (k < n + 1) × F k t) [
        | inl (k, inside, is) ↦ (k, omega (arith, inside), is)
        | inr is ↦ (n, omega arith, is)
      ],
    ))

pub Adds-none_yet : (F : ℕ → Track → Type 0) (tracks : List Track) → Adds (λ t. (k : ℕ) × (k < 0) × F k t) tracks tracks
Adds-none_yet F tracks = Adds-none (λ t. (k : ℕ) × (k < 0) × F k t) tracks (λ t (k, inside, is). absurd (omega (arith, inside)))
