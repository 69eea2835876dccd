-- Lists that grow by what belongs in them.
use Rattle.std.proofs.Common.{◌≡◌, ◌⊎◌, inl, inr, ◌↔◌, ◌<◌, ◌+◌, ◌++◌, ◌∷◌, [], ℕ, List, map, refl, sym, ap, ◌∙◌, subst, slice_get, Some, arith, Contains}
use Rattle.std.proofs.lemmas.List.Elements.{Contains-push, Contains-push_cases, Contains-append_left, Contains-append_right, Contains-append_cases}
use Rattle.std.proofs.lemmas.Bool.{cases_lt}
use Rattle.std.proofs.lemmas.Option.{slice_get-get_or, slice_get_within, get_or_from_slice_get, slice_get-map}
use Rattle.std.specs.Option.{option_map}
use Rattle.routing_walks.specs.Gathering.{Gathers, HasAll, Before, Grows}

-- a number below the next one
pub below_suc : (i n : ℕ) → i < n + 1 → (i < n) ⊎ (i ≡ n)
below_suc i n h = elim (cases_lt i n) [ inl below ↦ inl below | inr above ↦ inr (omega arith) ]

module _ {X : Type 0} where
  -- an element and its place
  pub Contains-at : (xs : List X) (i : ℕ) (x : X) → slice_get xs i ≡ Some x → Contains xs x
  Contains-at xs i x at = (i, slice_get_within xs i x at, get_or_from_slice_get xs i x x at)

  pub place_in : (xs : List X) (x : X) → Contains xs x → (i : ℕ) × (slice_get xs i ≡ Some x)
  place_in xs x h = (h.0, slice_get-get_or xs h.0 x h.1 ∙ ap Some h.2)

  pub Contains-none : (x : X) → Contains [] x → ⊥
  Contains-none x h = absurd (omega arith)

  pub Contains-one : (y x : X) → Contains (y ∷ []) x → x ≡ y
  Contains-one y x h = elim (Contains-push_cases [] y x h) [ inl none ↦ absurd (Contains-none x none) | inr same ↦ sym same ]

  pub Contains-here : (y : X) (xs : List X) → Contains (y ∷ xs) y
  Contains-here y xs = Contains-append_left (y ∷ []) xs y (Contains-push [] y)

  pub Contains-there : (y : X) (xs : List X) (x : X) → Contains xs x → Contains (y ∷ xs) x
  Contains-there y xs x h = Contains-append_right (y ∷ []) xs x h

  pub Contains-cases : (y : X) (xs : List X) (x : X) → Contains (y ∷ xs) x → (x ≡ y) ⊎ Contains xs x
  Contains-cases y xs x h = elim (Contains-append_cases (y ∷ []) xs x h) [ inl here ↦ inl (Contains-one y x here) | inr there ↦ inr there ]

  -- ---- what is gathered

  pub Gathers-none : (xs : List X) (New : X → Type 0) → ((x : X) → New x → ⊥) → Gathers xs xs New
  Gathers-none xs New none x = (inl, λ h. elim h [ inl here ↦ here | inr new ↦ absurd (none x new) ])

  pub Gathers-push : (xs : List X) (y : X) → Gathers xs (xs ++ y ∷ []) (λ x. x ≡ y)
  Gathers-push xs y x = (
    λ h. elim (Contains-push_cases xs y x h) [ inl here ↦ inl here | inr same ↦ inr (sym same) ],
    λ h. elim h [ inl here ↦ Contains-append_left xs (y ∷ []) x here | inr same ↦ subst (λ z. Contains (xs ++ y ∷ []) z) (sym same) (Contains-push xs y) ],
  )

  pub Gathers-alike : (xs ys : List X) (P Q : X → Type 0) → Gathers xs ys P → ((x : X) → P x ↔ Q x) → Gathers xs ys Q
  Gathers-alike xs ys P Q h alike x = (
    λ there. elim ((h x).0 there) [ inl old ↦ inl old | inr new ↦ inr ((alike x).0 new) ],
    λ either. (h x).1 (elim either [ inl old ↦ inl old | inr new ↦ inr ((alike x).1 new) ]),
  )

  pub Gathers-both : (xs ys zs : List X) (P Q : X → Type 0) → Gathers xs ys P → Gathers ys zs Q → Gathers xs zs (λ x. P x ⊎ Q x)
  Gathers-both xs ys zs P Q one two x = (
    λ there. elim ((two x).0 there) [
      | inl old ↦ elim ((one x).0 old) [ inl first ↦ inl first | inr new ↦ inr (inl new) ]
      | inr new ↦ inr (inr new)
    ],
    λ either. elim either [
      | inl old ↦ (two x).1 (inl ((one x).1 (inl old)))
      | inr new ↦ elim new [ inl p ↦ (two x).1 (inl ((one x).1 (inr p))) | inr q ↦ (two x).1 (inr q) ]
    ],
  )

  -- one more in the middle, and at the end
  pub Gathers-first : (xs zs : List X) (y : X) → Gathers (xs ++ zs) ((xs ++ y ∷ []) ++ zs) (λ x. x ≡ y)
  Gathers-first xs zs y x = (
    λ there. elim (Contains-append_cases (xs ++ y ∷ []) zs x there) [
      | inl front ↦ elim ((Gathers-push xs y x).0 front) [ inl old ↦ inl (Contains-append_left xs zs x old) | inr new ↦ inr new ]
      | inr back ↦ inl (Contains-append_right xs zs x back)
    ],
    λ either. elim either [
      | inl old ↦ elim (Contains-append_cases xs zs x old) [
        | inl front ↦ Contains-append_left (xs ++ y ∷ []) zs x ((Gathers-push xs y x).1 (inl front))
        | inr back ↦ Contains-append_right (xs ++ y ∷ []) zs x back
      ]
      | inr new ↦ Contains-append_left (xs ++ y ∷ []) zs x ((Gathers-push xs y x).1 (inr new))
    ],
  )

  pub Gathers-last : (xs zs : List X) (y : X) → Gathers (zs ++ xs) (zs ++ (xs ++ y ∷ [])) (λ x. x ≡ y)
  Gathers-last xs zs y x = (
    λ there. elim (Contains-append_cases zs (xs ++ y ∷ []) x there) [
      | inl front ↦ inl (Contains-append_left zs xs x front)
      | inr back ↦ elim ((Gathers-push xs y x).0 back) [ inl old ↦ inl (Contains-append_right zs xs x old) | inr new ↦ inr new ]
    ],
    λ either. elim either [
      | inl old ↦ elim (Contains-append_cases zs xs x old) [
        | inl front ↦ Contains-append_left zs (xs ++ y ∷ []) x front
        | inr back ↦ Contains-append_right zs (xs ++ y ∷ []) x ((Gathers-push xs y x).1 (inl back))
      ]
      | inr new ↦ Contains-append_right zs (xs ++ y ∷ []) x ((Gathers-push xs y x).1 (inr new))
    ],
  )

  pub HasAll-gathered : (ys : List X) (P : X → Type 0) → Gathers [] ys P → HasAll ys P
  HasAll-gathered ys P h x = (λ there. elim ((h x).0 there) [ inl none ↦ absurd (Contains-none x none) | inr new ↦ new ], λ new. (h x).1 (inr new))

  pub HasAll-alike : (xs : List X) (P Q : X → Type 0) → HasAll xs P → ((x : X) → P x ↔ Q x) → HasAll xs Q
  HasAll-alike xs P Q h alike x = (λ there. (alike x).0 ((h x).0 there), λ q. (h x).1 ((alike x).1 q))

  pub HasAll-empty : (P : X → Type 0) → ((x : X) → P x → ⊥) → HasAll [] P
  HasAll-empty P none x = (λ there. absurd (Contains-none x there), λ p. absurd (none x p))

  pub HasAll-one : (y : X) (P : X → Type 0) → ((x : X) → P x ↔ (x ≡ y)) → HasAll (y ∷ []) P
  HasAll-one y P alike x = (λ there. (alike x).1 (Contains-one y x there), λ p. subst (λ z. Contains (y ∷ []) z) (sym ((alike x).0 p)) (Contains-here y []))

  -- ---- what is gathered place by place

  pub Before-some : (At : ℕ → X → Type 0) (n : ℕ) (x : X) (i : ℕ) → i < n → At i x → Before At n x
  Before-some At n x i below at = record { place = i; before = below; at = at }

  pub Gathers-start : (At : ℕ → X → Type 0) (xs : List X) → Gathers xs xs (Before At 0)
  Gathers-start At xs = Gathers-none xs (Before At 0) (λ x h. let below = h.before in absurd (omega arith))

  pub Gathers-next : (At : ℕ → X → Type 0) (n : ℕ) (xs ys zs : List X) → Gathers xs ys (Before At n) → Gathers ys zs (At n) → Gathers xs zs (Before At (n + 1))
  Gathers-next At n xs ys zs one two = Gathers-alike xs zs (λ x. Before At n x ⊎ At n x) (Before At (n + 1))
      (Gathers-both xs ys zs (Before At n) (At n) one two) alike
    where
      last : (x : X) (h : Before At (n + 1) x) → Before At n x ⊎ At n x
      last x h = elim (below_suc h.place n h.before) [
        | inl below ↦ inl (record { place = h.place; before = below; at = h.at })
        | inr same ↦ inr (subst (λ i. At i x) same h.at)
      ]

      alike : (x : X) → (Before At n x ⊎ At n x) ↔ Before At (n + 1) x
      alike x = (
        λ either. elim either [
          | inl h ↦ let below = h.before in record { place = h.place; before = omega arith; at = h.at }
          | inr at ↦ record { place = n; before = omega arith; at = at }
        ],
        last x,
      )

  -- ---- what goes to the end

  pub Grows-none : (xs : List X) (New : X → Type 0) → ((x : X) → New x → ⊥) → Grows xs xs New
  Grows-none xs New none = record { more = []; end = nothing xs; members = Gathers-none xs New none }
    where
      nothing : (xs : List X) → xs ≡ xs ++ []
      nothing [] = refl
      nothing (x ∷ xs) = ap (λ l. x ∷ l) (nothing xs)

  assoc : (xs ys zs : List X) → (xs ++ ys) ++ zs ≡ xs ++ (ys ++ zs)
  assoc [] ys zs = refl
  assoc (x ∷ xs) ys zs = ap (λ l. x ∷ l) (assoc xs ys zs)

  pub Grows-start : (At : ℕ → X → Type 0) (xs : List X) → Grows xs xs (Before At 0)
  Grows-start At xs = Grows-none xs (Before At 0) (λ x h. let below = h.before in absurd (omega arith))

  pub Grows-next : (At : ℕ → X → Type 0) (n : ℕ) (xs ys zs : List X) → Grows xs ys (Before At n) → Grows ys zs (At n) → Grows xs zs (Before At (n + 1))
  Grows-next At n xs ys zs one two = record {
    more = one.more ++ two.more;
    end = two.end ∙ ap (λ l. l ++ two.more) one.end ∙ assoc xs one.more two.more;
    members = Gathers-next At n xs ys zs one.members two.members;
  }

  pub Grows-alike : (xs ys : List X) (P Q : X → Type 0) → Grows xs ys P → ((x : X) → P x ↔ Q x) → Grows xs ys Q
  Grows-alike xs ys P Q h alike = record { more = h.more; end = h.end; members = Gathers-alike xs ys P Q h.members alike }

-- ---- lists of images

module _ {X Y : Type 0} (f : X → Y) where
  pub Contains-map : (xs : List X) (x : X) → Contains xs x → Contains (map f xs) (f x)
  Contains-map xs x h = let p = place_in xs x h in Contains-at (map f xs) p.0 (f x) (slice_get-map f xs p.0 ∙ ap (λ o. option_map f o) p.1)

  pub map-Contains : (xs : List X) (y : Y) → Contains (map f xs) y → (x : X) × Contains xs x × (f x ≡ y)
  map-Contains [] y h = absurd (Contains-none y h)
  map-Contains (x ∷ xs) y h = elim (Contains-cases (f x) (map f xs) y h) [
    | inl here ↦ (x, Contains-here x xs, sym here)
    | inr there ↦ let m = map-Contains xs y there in (m.0, Contains-there x xs m.0 m.1, m.2)
  ]
