-- What a walk has come to when it has looked at all that it met.
use Rattle.std.proofs.Common.{◌≡◌, ◌⊎◌, ℕ, zero, suc, ◌+◌, ◌<◌, ◌≤◌, true, false, List, [], ◌∷◌, ◌++◌, length, Contains, Option, Some, None}
use Rattle.std.proofs.Common.{slice_get, get_or, refl, ap, sym, ◌∙◌, subst, inl, inr, arith, min, take}
use Rattle.std.proofs.lemmas.Bool.{cases_Bool, cases_lt}
use Rattle.std.proofs.lemmas.Option.{slice_get_within, slice_get-get_or, get_or_from_slice_get}
use Rattle.std.proofs.lemmas.List.{take_more}
use Rattle.std.proofs.lemmas.List.Elements.{Contains-append_left, Contains-append_right}
use Rattle.labels.specs.Labels.{Label, empty_label, with_track}
use Rattle.gta_theory.proofs.ListedLemmas.{slice_get-front}
use Rattle.gta_theory.proofs.ListsLemmas.{Contains-first, Contains-cases, Contains-none}
use Rattle.cert_nodes.specs.declared.spots.Spot.{Spot}
use Rattle.cert_nodes.specs.declared.spots.Diagrams.{Diagrams}
use Rattle.cert_nodes.specs.declared.walk.Step.TheVariants.{Leaf}
use Rattle.cert_nodes.specs.Nodes.{AreNodes}
use Rattle.cert_nodes.specs.Spots.{states_at, track_at, earlier_of, IsLedTo, IsFirstOf, AsksFirst}
use Rattle.cert_nodes.specs.Walks.{AddsAtMost, leaves_of, sides_of, IsStepFrom, SplitsAt, IsWalked, WalksFrom}
use Rattle.cert_nodes.proofs.SidesLemmas.{weight_of, sides-states, sides-fall, leaves-states}
use Rattle.cert_nodes.proofs.UnaskedLemmas.{sides-come}

-- ---- the track that is asked first, of one spot more

pub last : {X : Type 0} (xs : List X) (x : X) → Contains (xs ++ x ∷ []) x
last xs x = Contains-append_right xs (x ∷ []) x (Contains-first x [])

pub push-cases : {X : Type 0} (xs : List X) (x y : X) → Contains (xs ++ x ∷ []) y → Contains xs y ⊎ (x ≡ y)
push-cases [] x y listed = elim (Contains-cases x y [] listed) [ inl is ↦ inr is | inr none ↦ inl none ]
push-cases (z ∷ xs) x y listed = elim (Contains-cases z y (xs ++ x ∷ []) listed) [
  | inl is ↦ inl (subst (Contains (z ∷ xs)) is (Contains-first z xs))
  | inr later ↦ elim (push-cases xs x y later) [
    | inl inside ↦ inl (Contains-append_right (z ∷ []) xs y inside)
    | inr is ↦ inr is
  ]
]

some-track : (s t : ℕ) → Some s ≡ Some t → s ≡ t
some-track s t e = cc

some_none : (t : ℕ) → Some t ≡ None → ⊥
some_none t e = cc

module _ (d : Diagrams) where
  push-none : (spots : List Spot) (spot : Spot) → IsFirstOf d spots None → track_at d spot ≡ None → IsFirstOf d (spots ++ spot ∷ []) None
  push-none spots spot none here other listed = elim (push-cases spots spot other listed) [
    | inl inside ↦ none other inside
    | inr is ↦ subst (λ (s : Spot). track_at d s ≡ None) is here
  ]

  push-first : (spots : List Spot) (spot : Spot) (t : ℕ) → IsFirstOf d spots None → track_at d spot ≡ Some t →
      IsFirstOf d (spots ++ spot ∷ []) (Some t)
  push-first spots spot t none here = record {
    asking = spot;
    listed = last spots spot;
    asks = here;
    none_before = λ other u listed asks. elim (push-cases spots spot other listed) as (λ _. t ≤ u) [
      | inl inside ↦ absurd (some_none u (sym asks ∙ none other inside))
      | inr is ↦
          let same : t ≡ u = some-track t u (sym here ∙ ap (λ (s : Spot). track_at d s) is ∙ asks) in
          omega (arith, same)
    ];
  }

  push-later : (spots : List Spot) (spot : Spot) (s : ℕ) → AsksFirst d spots s →
      ((u : ℕ) → track_at d spot ≡ Some u → s ≤ u) → AsksFirst d (spots ++ spot ∷ []) s
  push-later spots spot s first later = record {
    asking = first.asking;
    listed = Contains-append_left spots (spot ∷ []) first.asking first.listed;
    asks = first.asks;
    none_before = λ other u listed asks. elim (push-cases spots spot other listed) as (λ _. s ≤ u) [
      | inl inside ↦ first.none_before other u inside asks
      | inr is ↦ later u (ap (λ (x : Spot). track_at d x) is ∙ asks)
    ];
  }

  push-earlier : (spots : List Spot) (spot : Spot) (s t : ℕ) → AsksFirst d spots s → track_at d spot ≡ Some t → t ≤ s →
      AsksFirst d (spots ++ spot ∷ []) t
  push-earlier spots spot s t first here below = record {
    asking = spot;
    listed = last spots spot;
    asks = here;
    none_before = λ other u listed asks. elim (push-cases spots spot other listed) as (λ _. t ≤ u) [
      | inl inside ↦ (let h = first.none_before other u inside asks in omega (arith, h, below))
      | inr is ↦
          let same : t ≡ u = some-track t u (sym here ∙ ap (λ (x : Spot). track_at d x) is ∙ asks) in
          omega (arith, same)
    ];
  }

  first-push : (spots : List Spot) (spot : Spot) (first top : Option ℕ) → track_at d spot ≡ top → IsFirstOf d spots first →
      IsFirstOf d (spots ++ spot ∷ []) (earlier_of first top)
  first-push spots spot None None here first = push-none spots spot first here
  first-push spots spot None (Some t) here first = push-first spots spot t first here
  first-push spots spot (Some s) None here first = push-later spots spot s first (λ u asks. absurd (some_none u (sym asks ∙ here)))
  first-push spots spot (Some s) (Some t) here first = elim (cases_lt s t) as (λ _. AsksFirst d (spots ++ spot ∷ []) (min s t)) [
    | inl below ↦ subst (λ (u : ℕ). AsksFirst d (spots ++ spot ∷ []) u) (let e : s ≡ min s t = omega (arith, below) in e)
        (push-later spots spot s first (λ u asks. let same = some-track t u (sym here ∙ asks) in omega (arith, same, below)))
    | inr above ↦ subst (λ (u : ℕ). AsksFirst d (spots ++ spot ∷ []) u) (let e : t ≡ min s t = omega (arith, above) in e)
        (push-earlier spots spot s t first here above)
  ]

  pub IsFirstOf-push : (spots : List Spot) (spot : Spot) (first : Option ℕ) → IsFirstOf d spots first →
      IsFirstOf d (spots ++ spot ∷ []) (earlier_of first (track_at d spot))
  IsFirstOf-push spots spot first is_first = first-push spots spot first (track_at d spot) refl is_first

-- at the next place of a list
pub first-more : (d : Diagrams) (spots : List Spot) (i : ℕ) (none : Spot) (first top result : Option ℕ) → i < length spots →
    IsFirstOf d (take i spots) first → top ≡ track_at d (get_or spots i none) → result ≡ earlier_of first top →
    IsFirstOf d (take (i + 1) spots) result
first-more d spots i none first top result inside is_first is_top is_result =
    subst (λ (ss : List Spot). IsFirstOf d ss result) (sym (take_more spots i none inside))
    (subst (IsFirstOf d (take i spots ++ get_or spots i none ∷ [])) (sym (is_result ∙ ap (earlier_of first) is_top))
    (IsFirstOf-push d (take i spots) (get_or spots i none) first is_first))

-- ---- what stays when more is met

-- each element keeps its place
pub record Grows {X : Type 0} (old new : List X) : Type 0 where
  pub kept : (k : ℕ) (x : X) → slice_get old k ≡ Some x → slice_get new k ≡ Some x
  pub has : (x : X) → Contains old x → Contains new x

pub Grows-same : {X : Type 0} (old new : List X) → new ≡ old → Grows old new
Grows-same {X} old new is = record {
  kept = λ k x at. subst (λ (xs : List X). slice_get xs k ≡ Some x) (sym is) at;
  has = λ x listed. subst (λ (xs : List X). Contains xs x) (sym is) listed;
}

pub Grows-push : {X : Type 0} (old new : List X) (y : X) → new ≡ old ++ y ∷ [] → Grows old new
Grows-push {X} old new y is = record {
  kept = λ k x at. subst (λ (xs : List X). slice_get xs k ≡ Some x) (sym is)
      (slice_get-front old (y ∷ []) k (slice_get_within old k x at) ∙ at);
  has = λ x listed. subst (λ (xs : List X). Contains xs x) (sym is) (Contains-append_left old (y ∷ []) x listed);
}

pub Grows-adds : {X : Type 0} (old new : List X) (y : X) → AddsAtMost old y new → Grows old new
Grows-adds old new y adds = elim adds [ inl same ↦ Grows-same old new same | inr more ↦ Grows-push old new y more ]

pub Grows-both : {X : Type 0} (old mid new : List X) → Grows old mid → Grows mid new → Grows old new
Grows-both old mid new first second = record {
  kept = λ k x at. second.kept k x (first.kept k x at);
  has = λ x listed. second.has x (first.has x listed);
}

walked-more : (d : Diagrams) (dropped : ℕ) (met met' : List (List Spot)) (lists lists' : List (List ℕ)) (spots : List Spot) →
    Grows met met' → Grows lists lists' → IsWalked d dropped met lists spots → IsWalked d dropped met' lists' spots
walked-more d dropped met met' lists lists' spots more come walked = elim walked [
  | inl leaf ↦ inl (leaf.0, come.has (leaves_of spots) leaf.1)
  | inr split ↦ inr (split.0, split.1, more.has (sides_of d dropped split.0 false spots) split.2, more.has (sides_of d dropped split.0 true spots) split.3)
]

same-some : {X : Type 0} (x y : X) → Some x ≡ Some y → x ≡ y
same-some x y e = cc

-- a place more has been looked at
pub walks-on : (d : Diagrams) (dropped : ℕ) (starts met met' : List (List Spot)) (lists lists' : List (List ℕ)) (place : ℕ) (spots : List Spot) →
    WalksFrom d dropped starts met lists place → slice_get met place ≡ Some spots → Grows met met' → Grows lists lists' →
    IsWalked d dropped met' lists' spots →
    ((other : List Spot) (label : Label) → Contains met' other → IsLedTo d dropped starts (states_at d dropped other label)) →
    ((states : List ℕ) → Contains lists' states → IsLedTo d dropped starts states) →
    WalksFrom d dropped starts met' lists' (place + 1)
walks-on d dropped starts met met' lists lists' place spots walks at more come here came led = record {
  started = λ start listed. more.has start (walks.started start listed);
  walked = λ k other below found. elim (cases_lt k place) as (λ _. IsWalked d dropped met' lists' other) [
    | inl before ↦
        let within = slice_get_within met place spots at in
        let old : slice_get met k ≡ Some (get_or met k other) = slice_get-get_or met k other (omega (arith, before, within)) in
        let is : get_or met k other ≡ other = same-some (get_or met k other) other (sym (more.kept k (get_or met k other) old) ∙ found) in
        walked-more d dropped met met' lists lists' other more come
        (walks.walked k other before (old ∙ ap (λ (s : List Spot). let o : Option (List Spot) = Some s in o) is))
    | inr from ↦
        let now : place ≡ k = omega (arith, from, below) in
        let is : spots ≡ other = same-some spots other
        (sym (more.kept place spots at) ∙ ap (λ (n : ℕ). slice_get met' n) now ∙ found) in
        subst (IsWalked d dropped met' lists') is here
  ];
  came = came;
  led = led;
}

-- at the start nothing has been looked at
pub walks-start : (d : Diagrams) (dropped : ℕ) (starts : List (List Spot)) → WalksFrom d dropped starts starts [] 0
walks-start d dropped starts = record {
  started = λ spots listed. listed;
  walked = λ k spots below at. absurd (omega (arith, below));
  came = λ spots label listed. record { start = spots; listed = listed; label = label; leads = refl };
  led = λ states listed. absurd (Contains-none states listed);
}

pub adds-cases : {X : Type 0} (old new : List X) (x y : X) → AddsAtMost old x new → Contains new y → Contains old y ⊎ (x ≡ y)
adds-cases {X} old new x y adds listed = elim adds [
  | inl same ↦ inl (subst (λ (xs : List X). Contains xs y) same listed)
  | inr more ↦ push-cases old x y (subst (λ (xs : List X). Contains xs y) more listed)
]

Contains-at : {X : Type 0} (xs : List X) (k : ℕ) (x : X) → slice_get xs k ≡ Some x → Contains xs x
Contains-at xs k x at = (k, slice_get_within xs k x at, get_or_from_slice_get xs k x x at)

-- the list at the place has no nodes: its states come
pub walks-leaf : (d : Diagrams) (dropped : ℕ) (starts met : List (List Spot)) (lists lists' : List (List ℕ)) (place : ℕ) (spots : List Spot)
    (states : List ℕ) → WalksFrom d dropped starts met lists place → slice_get met place ≡ Some spots →
    IsStepFrom d dropped spots (Leaf states) → lists' ≡ lists ++ states ∷ [] → WalksFrom d dropped starts met lists' (place + 1)
walks-leaf d dropped starts met lists lists' place spots states walks at step is =
    walks-on d dropped starts met met lists lists' place spots walks at (Grows-same met met refl) (Grows-push lists lists' states is)
    (inl (
      step.0,
      subst (λ (ls : List (List ℕ)). Contains ls (leaves_of spots)) (sym is)
          (subst (Contains (lists ++ states ∷ [])) step.1 (last lists states)),
    ))
    walks.came
    (λ other listed. elim (push-cases lists states other (subst (λ (ls : List (List ℕ)). Contains ls other) is listed))
    as (λ _. IsLedTo d dropped starts other) [
      | inl old ↦ walks.led other old
      | inr new ↦ subst (IsLedTo d dropped starts) (leaves-states d dropped empty_label spots step.0 ∙ sym step.1 ∙ new)
          (walks.came spots empty_label (Contains-at met place spots at))
    ])

-- the list at the place has sides: both are met
pub walks-split : (d : Diagrams) (dropped : ℕ) (starts met mid met' : List (List Spot)) (lists : List (List ℕ)) (place : ℕ)
    (spots low high : List Spot) → AreNodes d.atoms → AreNodes d.told → WalksFrom d dropped starts met lists place →
    slice_get met place ≡ Some spots → (track : ℕ) × SplitsAt d dropped spots low high track → AddsAtMost met low mid → Contains mid low →
    AddsAtMost mid high met' → Contains met' high → WalksFrom d dropped starts met' lists (place + 1)
walks-split d dropped starts met mid met' lists place spots low high atoms told walks at split first has_low second has_high =
    let track = split.0 in
    let sides = split.1 in
    let here = Contains-at met place spots at in
    let grows = Grows-adds mid met' high second in
    let low_led = λ (label : Label). subst (IsLedTo d dropped starts)
    (sym (ap (λ (s : List Spot). states_at d dropped s label) sides.is_low ∙ sides-come d dropped atoms told track false label spots sides.first))
    (walks.came spots (with_track label track false) here) in
    let high_led = λ (label : Label). subst (IsLedTo d dropped starts)
    (sym (ap (λ (s : List Spot). states_at d dropped s label) sides.is_high ∙ sides-come d dropped atoms told track true label spots sides.first))
    (walks.came spots (with_track label track true) here) in
    walks-on d dropped starts met met' lists lists place spots walks at
    (Grows-both met mid met' (Grows-adds met mid low first) grows) (Grows-same lists lists refl)
    (inr (track, sides.first, subst (Contains met') sides.is_low (grows.has low has_low), subst (Contains met') sides.is_high has_high))
    (λ other label listed. elim (adds-cases mid met' high other second listed) as (λ _. IsLedTo d dropped starts (states_at d dropped other label)) [
      | inl in_mid ↦ elim (adds-cases met mid low other first in_mid) as (λ _. IsLedTo d dropped starts (states_at d dropped other label)) [
        | inl old ↦ walks.came other label old
        | inr is ↦ subst (λ (s : List Spot). IsLedTo d dropped starts (states_at d dropped s label)) is (low_led label)
      ]
      | inr is ↦ subst (λ (s : List Spot). IsLedTo d dropped starts (states_at d dropped s label)) is (high_led label)
    ])
    walks.led

-- ---- all is looked at

-- each list that was met leads to lists that were come to
reached : (d : Diagrams) (dropped : ℕ) (met : List (List Spot)) (lists : List (List ℕ)) → AreNodes d.atoms → AreNodes d.told →
    ((spots : List Spot) → Contains met spots → IsWalked d dropped met lists spots) →
    (n : ℕ) (spots : List Spot) (label : Label) → weight_of spots < n → Contains met spots → Contains lists (states_at d dropped spots label)
reached d dropped met lists atoms told walked zero spots label below listed = absurd (omega (arith, below))
reached d dropped met lists atoms told walked (suc n) spots label below listed =
    elim (walked spots listed) as (λ _. Contains lists (states_at d dropped spots label)) [
      | inl leaf ↦ subst (Contains lists) (sym (leaves-states d dropped label spots leaf.0)) leaf.1
      | inr split ↦
          let low = sides-fall d dropped atoms told split.0 false spots split.1.asking split.1.listed split.1.asks in
          let high = sides-fall d dropped atoms told split.0 true spots split.1.asking split.1.listed split.1.asks in
          elim (cases_Bool (label split.0)) as (λ _. Contains lists (states_at d dropped spots label)) [
            | inl set ↦ subst (Contains lists) (sides-states d dropped atoms told split.0 true label spots set)
                (reached d dropped met lists atoms told walked n (sides_of d dropped split.0 true spots) label (omega (arith, high, below)) split.3)
            | inr unset ↦ subst (Contains lists) (sides-states d dropped atoms told split.0 false label spots unset)
                (reached d dropped met lists atoms told walked n (sides_of d dropped split.0 false spots) label (omega (arith, low, below)) split.2)
          ]
    ]

-- the place of an element
place-of : {X : Type 0} (xs : List X) (x : X) → Contains xs x → (k : ℕ) × (k < length xs) × (slice_get xs k ≡ Some x)
place-of {X} xs x listed =
    let at = slice_get-get_or xs listed.0 x listed.1 in
    (listed.0, listed.1, at ∙ ap (λ (y : X). let o : Option X = Some y in o) listed.2)

pub walked-all : (d : Diagrams) (dropped : ℕ) (starts met : List (List Spot)) (lists : List (List ℕ)) (place : ℕ) →
    AreNodes d.atoms → AreNodes d.told → WalksFrom d dropped starts met lists place → length met ≤ place →
    (spots : List Spot) (label : Label) → Contains starts spots → Contains lists (states_at d dropped spots label)
walked-all d dropped starts met lists place atoms told walks all spots label listed =
    reached d dropped met lists atoms told
    (λ other there. let k = place-of met other there in walks.walked k.0 other (omega (arith, k.1, all)) k.2)
    (suc (weight_of spots)) spots label (omega arith) (walks.started spots listed)
