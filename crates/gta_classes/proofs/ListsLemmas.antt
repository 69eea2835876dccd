-- Lists of numbers at places.
use Rattle.std.proofs.Common.{◌≡◌, ℕ, zero, suc, ◌+◌, ◌<◌, ◌≤◌, Bool, true, List, [], ◌∷◌, ◌++◌, length, map, ◌⊎◌, inl, inr}
use Rattle.std.proofs.Common.{sym, ◌∙◌, ap, refl, subst, arith, length-append}
use Rattle.std.specs.Prelude.{Contains, flat_map, slice_index, slice_index_or, slice_set, ◌↔◌, Option, Some, unwrap_or}
use Rattle.std.proofs.lemmas.List.{get_or-set_same, get_or-set_other, length-set, get_or_default, get_or_append_left, get_or_past, get_or_push}
use Rattle.std.proofs.lemmas.Option.{slice_get_within, unwrap_or-slice_get, slice_get-get_or}
use Rattle.std.proofs.lemmas.List.Elements.{Contains-push, Contains-push_cases, Contains-append_left, Contains-append_right, Contains-append_cases}
use Rattle.std.proofs.lemmas.List.Elements.{Contains-get_or}
use Rattle.std.proofs.lemmas.Bool.{cases_eq, cases_lt}
use Rattle.gta_classes.specs.Chosen.{is_marked, IsAmong}
use Rattle.gta_classes.specs.Lists.{list_at, Leads, IsAdded}
use Rattle.gta_classes.proofs.ChosenLemmas.{marked-set_cases}

pub IsAdded-set : (old : List (List ℕ)) (place number : ℕ) → place < length old →
    IsAdded old place number (slice_set old place (list_at old place ++ number ∷ []))
IsAdded-set old place number inside =
    let more = list_at old place ++ number ∷ [] in
    let new = slice_set old place more in
    let here : list_at new place ≡ more = get_or-set_same old place more [] inside in
    record {
      many = length-set old place more;
      kept = λ a b there. elim (cases_eq a place) [
        | inl same ↦ subst (λ (xs : List ℕ). Contains xs b) (sym (ap (list_at new) same ∙ here))
            (Contains-append_left (list_at old place) (number ∷ []) b (subst (λ (k : ℕ). Leads old k b) same there))
        | inr other ↦ subst (λ (xs : List ℕ). Contains xs b) (sym (get_or-set_other old place a more [] other)) there
      ];
      added = λ in_range. subst (λ (xs : List ℕ). Contains xs number) (sym here) (Contains-push (list_at old place) number);
      sound = λ a b there. elim (cases_eq a place) [
        | inl same ↦ elim (Contains-push_cases (list_at old place) number b
            (subst (λ (xs : List ℕ). Contains xs b) (ap (list_at new) same ∙ here) there)) [
              | inl was ↦ inl (subst (λ (k : ℕ). Leads old k b) (sym same) was)
              | inr is_new ↦ inr (same, sym is_new)
            ]
        | inr other ↦ inl (subst (λ (xs : List ℕ). Contains xs b) (get_or-set_other old place a more [] other) there)
      ];
    }

pub IsAdded-past : (old : List (List ℕ)) (place number : ℕ) → length old ≤ place → IsAdded old place number old
IsAdded-past old place number past = record {
  many = refl;
  kept = λ a b there. there;
  added = λ inside. absurd (omega arith);
  sound = λ a b there. inl there;
}

Contains-first : {X : Type 0} (xs : List X) (x : X) → Contains (x ∷ xs) x
Contains-first xs x = (0, omega arith, refl)

Contains-next : {X : Type 0} (xs : List X) (y x : X) → Contains xs x → Contains (y ∷ xs) x
Contains-next xs y x there = (suc there.0, (let b = there.1 in omega arith), there.2)

-- what a list has, is the first or among the others
pub Contains-cases : {X : Type 0} (xs : List X) (y x : X) → Contains (y ∷ xs) x → (y ≡ x) ⊎ Contains xs x
Contains-cases {X} xs y x there = at there.0 there.1 there.2
  where
    at : (k : ℕ) → k < length (y ∷ xs) → slice_index_or (y ∷ xs) k x ≡ x → (y ≡ x) ⊎ Contains xs x
    at zero inside is = inl is
    at (suc k) inside is = inr (k, omega arith, is)

pub Contains-none : {X : Type 0} (x : X) → Contains [] x → ⊥
Contains-none x there = let b = there.1 in absurd (omega arith)

-- where a list of lists has a number from
pub record FromSome {X : Type 0} (f : X → List ℕ) (xs : List X) (number : ℕ) : Type 0 where
  pub source : X
  pub among : Contains xs source
  pub has : Contains (f source) number

pub FromSome-flat_map : {X : Type 0} (f : X → List ℕ) (xs : List X) (number : ℕ) → Contains (flat_map f xs) number → FromSome f xs number
FromSome-flat_map f [] number there = absurd (Contains-none number there)
FromSome-flat_map f (x ∷ xs) number there = elim (Contains-append_cases (f x) (flat_map f xs) number there) [
  | inl first ↦ record { source = x; among = Contains-first xs x; has = first }
  | inr rest ↦
      let later = FromSome-flat_map f xs number rest in
      record { source = later.source; among = Contains-next xs x later.source later.among; has = later.has }
]

pub Contains-flat_map : {X : Type 0} (f : X → List ℕ) (xs : List X) (x : X) (number : ℕ) → Contains xs x → Contains (f x) number →
    Contains (flat_map f xs) number
Contains-flat_map f [] x number there has = absurd (Contains-none x there)
Contains-flat_map f (y ∷ xs) x number there has = elim (Contains-cases xs y x there) [
  | inl first ↦ Contains-append_left (f y) (flat_map f xs) number (subst (λ z. Contains (f z) number) (sym first) has)
  | inr rest ↦ Contains-append_right (f y) (flat_map f xs) number (Contains-flat_map f xs x number rest has)
]

-- where a list of images has an image from
pub record FromMap {X Y : Type 0} (f : X → Y) (xs : List X) (y : Y) : Type 0 where
  pub source : X
  pub among : Contains xs source
  pub is : f source ≡ y

pub FromMap-map : {X Y : Type 0} (f : X → Y) (xs : List X) (y : Y) → Contains (map f xs) y → FromMap f xs y
FromMap-map f [] y there = absurd (Contains-none y there)
FromMap-map f (x ∷ xs) y there = elim (Contains-cases (map f xs) (f x) y there) [
  | inl first ↦ record { source = x; among = Contains-first xs x; is = first }
  | inr rest ↦
      let later = FromMap-map f xs y rest in
      record { source = later.source; among = Contains-next xs x later.source later.among; is = later.is }
]

pub Contains-map : {X Y : Type 0} (f : X → Y) (xs : List X) (x : X) → Contains xs x → Contains (map f xs) (f x)
Contains-map f [] x there = absurd (Contains-none x there)
Contains-map f (y ∷ xs) x there = elim (Contains-cases xs y x there) [
  | inl first ↦ subst (λ z. Contains (f y ∷ map f xs) (f z)) first (Contains-first (map f xs) (f y))
  | inr rest ↦ Contains-next (map f xs) (f y) (f x) (Contains-map f xs x rest)
]

-- a list of numbers has a number, or hasn't
pub cases_contains : (xs : List ℕ) (number : ℕ) → Contains xs number ⊎ (Contains xs number → ⊥)
cases_contains [] number = inr (λ there. Contains-none number there)
cases_contains (x ∷ xs) number = elim (cases_eq x number) [
  | inl first ↦ inl (subst (λ (k : ℕ). Contains (x ∷ xs) k) first (Contains-first xs x))
  | inr other ↦ elim (cases_contains xs number) [
    | inl rest ↦ inl (Contains-next xs x number rest)
    | inr none ↦ inr (λ there. elim (Contains-cases xs x number there) [
      | inl first ↦ absurd (other first)
      | inr rest ↦ absurd (none rest)
    ])
  ]
]

pub IsAmong-contains : (xs : List ℕ) (number : ℕ) → IsAmong xs number → Contains xs number
IsAmong-contains xs number among = (among.place, slice_get_within xs among.place number among.there, at)
  where
    at : slice_index_or xs among.place number ≡ number
    at = sym (unwrap_or-slice_get xs among.place number) ∙ ap (λ (o : Option ℕ). unwrap_or o number) among.there

pub Contains-among : (xs : List ℕ) (number : ℕ) → Contains xs number → IsAmong xs number
Contains-among xs number there = record {
  place = there.0;
  there = slice_get-get_or xs there.0 number there.1 ∙ ap (λ (k : ℕ). Some k) there.2;
}

-- the numbers so far, each once
pub record OnceBelow (numbers : List ℕ) (seen : List Bool) (once : List ℕ) (below : ℕ) : Type 0 where
  pub marks : (number : ℕ) → is_marked seen number ≡ true → Contains once number
  pub all : (k : ℕ) → k < below → Contains once (slice_index numbers k)
  pub sound : (number : ℕ) → Contains once number → Contains numbers number

module _ (numbers : List ℕ) (seen : List Bool) (once : List ℕ) (below : ℕ) (inside : below < length numbers)
    (so_far : OnceBelow numbers seen once below) where
  pub OnceBelow-seen : is_marked seen (slice_index numbers below) ≡ true → OnceBelow numbers seen once (below + 1)
  OnceBelow-seen was = record {
    marks = so_far.marks;
    all = λ k k_in. elim (cases_eq k below) [
      | inl same ↦ subst (λ (i : ℕ). Contains once (slice_index numbers i)) (sym same) (so_far.marks (slice_index numbers below) was)
      | inr other ↦ so_far.all k (omega arith)
    ];
    sound = so_far.sound;
  }

  pub OnceBelow-push : OnceBelow numbers (slice_set seen (slice_index numbers below) true) (once ++ slice_index numbers below ∷ []) (below + 1)
  OnceBelow-push =
      let number = slice_index numbers below in
      record {
        marks = λ other marked. elim (marked-set_cases seen number other marked) [
          | inl before ↦ Contains-append_left once (number ∷ []) other (so_far.marks other before)
          | inr same ↦ subst (Contains (once ++ number ∷ [])) (sym same) (Contains-push once number)
        ];
        all = λ k k_in. elim (cases_eq k below) [
          | inl same ↦ subst (λ (i : ℕ). Contains (once ++ number ∷ []) (slice_index numbers i)) (sym same) (Contains-push once number)
          | inr other ↦ Contains-append_left once (number ∷ []) (slice_index numbers k) (so_far.all k (omega arith))
        ];
        sound = λ other there. elim (Contains-push_cases once number other there) [
          | inl before ↦ so_far.sound other before
          | inr same ↦ subst (Contains numbers) same (Contains-get_or numbers below 0 inside)
        ];
      }

pub Once-all : (numbers : List ℕ) (seen : List Bool) (once : List ℕ) → OnceBelow numbers seen once (length numbers) → (number : ℕ) →
    Contains once number ↔ Contains numbers number
Once-all numbers seen once all number = (
  (λ there. all.sound number there),
  (λ there. subst (Contains once) there.2 (subst (Contains once) (get_or_default numbers there.0 0 number there.1) (all.all there.0 there.1))),
)

pub OnceBelow-same : (numbers : List ℕ) (seen seen' : List Bool) (once once' : List ℕ) (below : ℕ) → seen ≡ seen' → once ≡ once' →
    OnceBelow numbers seen once below → OnceBelow numbers seen' once' below
OnceBelow-same numbers seen seen' once once' below same_seen same_once so_far =
    subst (λ (xs : List ℕ). OnceBelow numbers seen' xs below) same_once (subst (λ (xs : List Bool). OnceBelow numbers xs once below) same_seen so_far)

-- one list more
pub Leads-more : (lists : List (List ℕ)) (more : List ℕ) (place number : ℕ) → Leads lists place number → Leads (lists ++ more ∷ []) place number
Leads-more lists more place number there = elim (cases_lt place (length lists)) [
  | inl before ↦ subst (λ (xs : List ℕ). Contains xs number) (sym (get_or_append_left lists (more ∷ []) [] place before)) there
  | inr past ↦ absurd (Contains-none number (subst (λ (xs : List ℕ). Contains xs number) (get_or_past lists place [] past) there))
]

-- one empty list more
pub Leads-none : (lists : List (List ℕ)) → ((place number : ℕ) → Leads lists place number → ⊥) → (place number : ℕ) →
    Leads (lists ++ [] ∷ []) place number → ⊥
Leads-none lists none place number there = elim (cases_lt place (length lists)) [
  | inl before ↦ none place number (subst (λ (xs : List ℕ). Contains xs number) (get_or_append_left lists ([] ∷ []) [] place before) there)
  | inr past ↦ elim (cases_eq place (length lists)) [
    | inl last ↦ Contains-none number (subst (λ (xs : List ℕ). Contains xs number) (get_or_push lists [] [] place (sym last)) there)
    | inr beyond ↦ Contains-none number (subst (λ (xs : List ℕ). Contains xs number)
        (get_or_past (lists ++ [] ∷ []) place [] (let e = length-append lists ([] ∷ []) in omega arith)) there)
  ]
]
