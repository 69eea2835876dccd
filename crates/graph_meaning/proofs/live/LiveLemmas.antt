-- The formula of live cells of a variant, after all events.
use Rattle.std.proofs.Common.{◌≡◌, ◌≢◌, ◌↔◌, ◌⊎◌, inl, inr, ℕ, ◌+◌, ◌<◌, ◌≤◌, Bool, true, false, cond, ◌==◌, IsSomeAnd, List, [], ◌∷◌, Option, Some, refl, sym}
use Rattle.std.proofs.Common.{ap, ◌∙◌, subst, arith}
use Rattle.std.proofs.lemmas.Bool.{false≢true, eqb-true, eq-eqb, and_parts, and_from}
use Rattle.std.specs.Prelude.{option_map}
use Rattle.gta_theory.specs.Assignments.{Position, Assignment, IsOnly}
use Rattle.ws2s_core.specs.declared.track.Track.{Track}
use Rattle.ws2s_core.specs.declared.formula.Formula.{Formula}
use Rattle.ws2s_core.specs.declared.formula.Formula.TheVariants.{And, Not}
use Rattle.ws2s_core.specs.Satisfaction.{WSat}
use Rattle.ws2s_forms.specs.Forms.{or, slot}
use Rattle.ws2s_forms.specs.Places.{slot_of}
use Rattle.ws2s_forms.proofs.PositionsLemmas.{IsOnly-same, IsOnly-along}
use Rattle.ws2s_forms.proofs.GoingLemmas.{WSat-slot}
use Rattle.store_core.specs.declared.ids.CellId.{CellId}
use Rattle.store_core.specs.declared.ids.FieldId.{FieldId}
use Rattle.store_core.specs.declared.ids.VariantId.{VariantId}
use Rattle.store_core.specs.declared.value.Value.{Value}
use Rattle.store_core.specs.Tables.{TypeEntry, VarEntry, variant_count}
use Rattle.store_core.specs.Stores.{StoreMap, CellEntry, Fits, cell_of, put_cell, set_field, remove_cell, blank_cell}
use Rattle.store_core.proofs.FittingLemmas.{IsSomeAnd-at}
use Rattle.store_laws.specs.Changed.{IsFieldSet, variant_of}
use Rattle.store_laws.proofs.ChangeLemmas.{IsPut-put_cell, IsFieldSet-set_field, IsRemoved-remove_cell}
use Rattle.routing_walks.specs.Walks.{IsOfVariant}
use Rattle.routing_walks.proofs.LiveLemmas.{IsSome-and}
use Rattle.tree_encode.specs.Tracks.{track_count}
use Rattle.tree_store.specs.Encoding.{IsAssignmentOf}
use Rattle.tree_store.proofs.SpotsLemmas.{of-some, map-some}
use Rattle.tree_formula.specs.WellEncoded.{is_of}
use Rattle.tree_store.specs.Shapes.{IsCellOf}
use Rattle.tree_store.proofs.StandingLemmas.{is_of-means}
use Rattle.tree_store.proofs.StoresLemmas.{marked-cell, cell-marked}
use Rattle.graph_view.specs.declared.view.Sym.{Sym}
use Rattle.graph_view.specs.declared.view.Event.{Event}
use Rattle.graph_view.specs.declared.view.Event.TheVariants.{New, Write, Free}
use Rattle.graph_view.specs.Syms.{is_in, guard}
use Rattle.graph_view.specs.Live.{is_variant, live_after, live_of}
use Rattle.graph_view.specs.After.{Standing, IsAt, AreStanding, IsTaken, Stood, new_cell, Makes, Happens, LeadTo}
use Rattle.graph_view.specs.After.{IsSymBelow, IsGuardBelow, IsEventBelow, AreEventsBelow}
use Rattle.graph_meaning.specs.Live.Meaning.{Agrees, MeansHere}
use Rattle.graph_meaning.specs.Live.Standing.{Sits, VariantAt}
use Rattle.graph_meaning.proofs.live.AgreeingLemmas.{sat-and, sat-or, sat-not}
use Rattle.graph_meaning.proofs.live.SymsLemmas.{guard-means, is_in-cell}
use Rattle.graph_meaning.proofs.live.StandingLemmas.{taken-decided, new-or-old, new-here, old-here, old-not_new, Sits-led}

-- ---- variants of cells

pub same-variant : (v w : VariantId) → is_variant v w ≡ true → v ≡ w
same-variant v w e =
    let both = and_parts (v.ty.0 == w.ty.0) (v.index == w.index) e in
    let types = eqb-true v.ty.0 w.ty.0 both.0 in
    let indices = eqb-true v.index w.index both.1 in
    (λ i. record { ty = record { 0 = types i }; index = indices i })

pub variant-same : (v w : VariantId) → v ≡ w → is_variant v w ≡ true
variant-same v w e =
    and_from (v.ty.0 == w.ty.0) (v.index == w.index) (eq-eqb v.ty.0 w.ty.0 (ap (λ (u : VariantId). u.ty.0) e))
    (eq-eqb v.index w.index (ap (λ (u : VariantId). u.index) e))

-- a cell that is as it was has its variant
pub variant-kept : (s t : StoreMap) (v : VariantId) (c : CellId) → cell_of t c ≡ cell_of s c → IsOfVariant t v c ↔ IsOfVariant s v c
variant-kept s t v c same = (
  (λ h. subst (λ (o : Option CellEntry). IsSomeAnd o (λ cell. cell.variant ≡ v)) same h),
  (λ h. subst (λ (o : Option CellEntry). IsSomeAnd o (λ cell. cell.variant ≡ v)) (sym same) h),
)

variant-is : (s : StoreMap) (v : VariantId) (c : CellId) → IsOfVariant s v c ↔ (variant_of s c ≡ Some v)
variant-is s v c = (
  (λ h.
      let (cell, at, is) = IsSomeAnd-at (cell_of s c) (λ e. e.variant ≡ v) h in
      ap (λ o. option_map (λ (e : CellEntry). e.variant) o) at ∙ ap (λ w. Some w) is),
  (λ h.
      let (cell, at, is) = map-some (λ (e : CellEntry). e.variant) (cell_of s c) v h in
      of-some (λ e. e.variant ≡ v) (cell_of s c) cell at is),
)

variant-alike : (s t : StoreMap) (v : VariantId) (c : CellId) → variant_of t c ≡ variant_of s c → IsOfVariant t v c ↔ IsOfVariant s v c
variant-alike s t v c same =
    let in_s = variant-is s v c in
    let in_t = variant-is t v c in (
      (λ h. in_s.1 (sym same ∙ in_t.0 h)),
      (λ h. in_t.1 (same ∙ in_s.0 h)),
    )

-- ---- what one event makes of the positions with cells of a variant

abbrev StoodAt : Stood → VariantId → Position → Type 0
StoodAt x v p = VariantAt x.store x.at v p

module _ (v : VariantId) (p : Position) where
  at-along : (x : Stood) (s : StoreMap) (at : Standing) → x.store ≡ s → x.at ≡ at → VariantAt s at v p ↔ StoodAt x v p
  at-along x s at store places = (
    (λ h. subst (λ t. VariantAt t x.at v p) (sym store) (subst (λ l. VariantAt s l v p) (sym places) h)),
    (λ h. subst (λ l. VariantAt s l v p) places (subst (λ t. VariantAt t x.at v p) store h)),
  )

  -- a new cell of a variant
  module _ (types : List TypeEntry) (s : StoreMap) (at : Standing) (sits : Sits s at) (w : VariantId) (place : Position) where
    new-variant : IsOfVariant (put_cell s types w) v (new_cell s) → v ≡ w
    new-variant of_v =
        let put = IsPut-put_cell types s w sits.above in
        let (cell, found, is) = IsSomeAnd-at (cell_of (put_cell s types w) (new_cell s)) (λ e. e.variant ≡ v) of_v in
        let both : Some cell ≡ Some (blank_cell types w) = sym found ∙ put.cell in
        let same : cell ≡ blank_cell types w = cc in
        sym is ∙ ap (λ (e : CellEntry). e.variant) same

    old-variant : (c : CellId) → IsAt at c p → IsOfVariant (put_cell s types w) v c ↔ IsOfVariant s v c
    old-variant c here =
        let put = IsPut-put_cell types s w sits.above in
        variant-kept s (put_cell s types w) v c (put.other_cells c (old-not_new s at c p sits here))

    old-at : VariantAt s at v p → VariantAt (put_cell s types w) ((new_cell s, place) ∷ at) v p
    old-at (c, here, of_v) = (c, old-here s at place c p here, (old-variant c here).1 of_v)

    put-at : VariantAt (put_cell s types w) ((new_cell s, place) ∷ at) v p → VariantAt s at v p ⊎ ((v ≡ w) × (p ≡ place))
    put-at (c, here, of_v) = elim (new-or-old s at place c p here) as (λ _. VariantAt s at v p ⊎ ((v ≡ w) × (p ≡ place))) [
      | inl new ↦ inr (new-variant (subst (λ d. IsOfVariant (put_cell s types w) v d) new.0 of_v), new.1)
      | inr old ↦ inl (c, old, (old-variant c old).0 of_v)
    ]

    at-put : v ≡ w → p ≡ place → VariantAt (put_cell s types w) ((new_cell s, place) ∷ at) v p
    at-put same is =
        let put = IsPut-put_cell types s w sits.above in (
          new_cell s,
          subst (λ q. IsAt ((new_cell s, place) ∷ at) (new_cell s) q) (sym is) (new-here s at place),
          of-some (λ e. e.variant ≡ v) (cell_of (put_cell s types w) (new_cell s)) (blank_cell types w) put.cell (sym same),
        )

  -- a written cell
  set-at : (s : StoreMap) (at : Standing) (c : CellId) (f : FieldId) (x : Value) → IsFieldSet c f x s (set_field s c f x) →
      VariantAt s at v p ↔ VariantAt (set_field s c f x) at v p
  set-at s at c f x set = (
    (λ h. (h.0, h.1, (variant-alike s (set_field s c f x) v h.0 (set.variants h.0)).1 h.2)),
    (λ h. (h.0, h.1, (variant-alike s (set_field s c f x) v h.0 (set.variants h.0)).0 h.2)),
  )

  -- a freed cell
  gone-at : (s : StoreMap) (at : Standing) (c : CellId) → Sits s at → (VariantAt s at v p × (IsAt at c p → ⊥)) ↔ VariantAt (remove_cell s c) at v p
  gone-at s at c sits =
      let gone = IsRemoved-remove_cell s c in (
        (λ (h : VariantAt s at v p × (IsAt at c p → ⊥)).
            let (d, here, of_v) = h.0 in
            let other : d ≢ c = λ e. h.1 (subst (λ y. IsAt at y p) e here) in
            (d, here, (variant-kept s (remove_cell s c) v d (gone.other_cells d other)).1 of_v)),
        (λ (h : VariantAt (remove_cell s c) at v p).
            let (d, here, of_v) = h in
            let live = IsSome-and (cell_of (remove_cell s c) d) (λ e. e.variant ≡ v) of_v in
            let other = ((gone.live d).0 live).1 in (
              (d, here, (variant-kept s (remove_cell s c) v d (gone.other_cells d other)).0 of_v),
              (λ also. other (sits.apart d c p here also)),
            )),
      )

-- ---- formulas

module _ (types : List TypeEntry) (slots count : ℕ) (a b : Assignment) (v : VariantId) (next y : ℕ) (p : Position) (agrees : Agrees count a b)
    (few : count ≤ next) (less : y < next) (only : IsOnly (b y) p) where
  at-slot : (i : ℕ) → WSat (slot next i y) b ↔ (p ≡ slot_of i)
  at-slot i =
      let means = WSat-slot next i y b less in (
        (λ h. IsOnly-same (b y) p (slot_of i) only (means.0 h)),
        (λ e. means.1 (IsOnly-along (b y) p (slot_of i) e only)),
      )

  -- a new cell
  new-means : (g : Option Track) (k : ℕ) (w : VariantId) (f : Formula) (x z : Stood) → Sits x.store x.at → IsGuardBelow count g →
      Happens types slots a (New g k w) x z → WSat f b ↔ StoodAt x v p → WSat (live_after next slots v y (New g k w) f) b ↔ StoodAt z v p
  new-means g k w f x z sits below happens means = by (is_variant v w) refl
    where
      place : Position
      place = slot_of (slots + k)

      both : WSat (And (guard next g) (slot next (slots + k) y)) b ↔ (IsTaken a g × (p ≡ slot_of (slots + k)))
      both = sat-and (guard next g) (slot next (slots + k) y) b (IsTaken a g) (p ≡ slot_of (slots + k))
          (guard-means count a b next g agrees few below) (at-slot (slots + k))

      made-at : (made : Makes types slots k w x z) → VariantAt (put_cell x.store types w) ((new_cell x.store, slot_of (slots + k)) ∷ x.at) v p ↔ StoodAt z v p
      made-at made = at-along v p z (put_cell x.store types w) ((new_cell x.store, slot_of (slots + k)) ∷ x.at) made.store made.at

      by : (t : Bool) → is_variant v w ≡ t → WSat (cond t (or f (And (guard next g) (slot next (slots + k) y))) f) b ↔ StoodAt z v p
      by true is =
          let either = sat-or f (And (guard next g) (slot next (slots + k) y)) b (StoodAt x v p) (IsTaken a g × (p ≡ slot_of (slots + k)))
          agrees.finite means both in
          elim (taken-decided a g) as (λ _. WSat (or f (And (guard next g) (slot next (slots + k) y))) b ↔ StoodAt z v p) [
            | inl taken ↦ (
                let made = made-at (happens.taken taken) in (
                  (λ h. elim (either.0 h) as (λ _. StoodAt z v p) [
                    | inl old ↦ made.0 (old-at v p types x.store x.at sits w (slot_of (slots + k)) old)
                    | inr new ↦ made.0 (at-put v p types x.store x.at sits w (slot_of (slots + k)) (same-variant v w is) new.1)
                  ]),
                  (λ h. either.1 (elim (put-at v p types x.store x.at sits w (slot_of (slots + k)) (made.1 h)) as
                      (λ _. StoodAt x v p ⊎ (IsTaken a g × (p ≡ slot_of (slots + k)))) [
                        | inl old ↦ inl old
                        | inr new ↦ inr (taken, new.1)
                      ])),
                ))
            | inr passed ↦ (
                let same = happens.passed passed in (
                  (λ h. elim (either.0 h) as (λ _. StoodAt z v p) [
                    | inl old ↦ subst (λ st. StoodAt st v p) (sym same) old
                    | inr new ↦ absurd (passed new.0)
                  ]),
                  (λ h. either.1 (inl (subst (λ st. StoodAt st v p) same h))),
                ))
          ]
      by false is =
          elim (taken-decided a g) as (λ _. WSat f b ↔ StoodAt z v p) [
            | inl taken ↦ (
                let made = made-at (happens.taken taken) in (
                  (λ h. made.0 (old-at v p types x.store x.at sits w (slot_of (slots + k)) (means.0 h))),
                  (λ h. means.1 (elim (put-at v p types x.store x.at sits w (slot_of (slots + k)) (made.1 h)) as (λ _. StoodAt x v p) [
                    | inl old ↦ old
                    | inr new ↦ absurd (false≢true (sym is ∙ variant-same v w new.0))
                  ])),
                ))
            | inr passed ↦ (
                let same = happens.passed passed in (
                  (λ h. subst (λ st. StoodAt st v p) (sym same) (means.0 h)),
                  (λ h. means.1 (subst (λ st. StoodAt st v p) same h)),
                ))
          ]

  -- a written one
  write-means : (g : Option Track) (u : Sym) (h : FieldId) (w : Sym) (f : Formula) (x z : Stood) →
      Happens types slots a (Write g u h w) x z → WSat f b ↔ StoodAt x v p → WSat f b ↔ StoodAt z v p
  write-means g u h w f x z happens means = elim (taken-decided a g) as (λ _. WSat f b ↔ StoodAt z v p) [
    | inl taken ↦ (
        let wrote = happens.taken taken in
        let set = set-at v p x.store x.at wrote.cell h wrote.value (IsFieldSet-set_field x.store wrote.cell h wrote.value wrote.has) in
        let to = at-along v p z (set_field x.store wrote.cell h wrote.value) x.at wrote.store wrote.at in (
          (λ k. to.0 (set.0 (means.0 k))),
          (λ k. means.1 (set.1 (to.1 k))),
        ))
    | inr passed ↦ (
        let same = happens.passed passed in (
          (λ k. subst (λ st. StoodAt st v p) (sym same) (means.0 k)),
          (λ k. means.1 (subst (λ st. StoodAt st v p) same k)),
        ))
  ]

  -- a freed one
  free-means : (g : Option Track) (u : Sym) (f : Formula) (x z : Stood) → Sits x.store x.at → IsGuardBelow count g → IsSymBelow count u →
      Happens types slots a (Free g u) x z → WSat f b ↔ StoodAt x v p → WSat (And f (Not (And (guard next g) (is_in next y u)))) b ↔ StoodAt z v p
  free-means g u f x z sits below under happens means =
      let whole = sat-and f (Not (And (guard next g) (is_in next y u))) b (StoodAt x v p) ((IsTaken a g × WSat (is_in next y u) b) → ⊥) means
      (sat-not (And (guard next g) (is_in next y u)) b (IsTaken a g × WSat (is_in next y u) b)
      (sat-and (guard next g) (is_in next y u) b (IsTaken a g) (WSat (is_in next y u) b) (guard-means count a b next g agrees few below)
      ((λ h. h), (λ h. h)))) in
      elim (taken-decided a g) as (λ _. WSat (And f (Not (And (guard next g) (is_in next y u)))) b ↔ StoodAt z v p) [
        | inl taken ↦ (
            let freed = happens.taken taken in
            let named = is_in-cell count a b next y p x.at u freed.cell agrees under only (sits.one freed.cell) freed.names in
            let gone = gone-at v p x.store x.at freed.cell sits in
            let to = at-along v p z (remove_cell x.store freed.cell) x.at freed.store freed.at in (
              (λ h. let both = whole.0 h in to.0 (gone.0 (both.0, (λ here. both.1 (taken, named.1 here))))),
              (λ h. let both = gone.1 (to.1 h) in whole.1 (both.0, (λ k. both.1 (named.0 k.1)))),
            ))
        | inr passed ↦ (
            let same = happens.passed passed in (
              (λ h. subst (λ st. StoodAt st v p) (sym same) (whole.0 h).0),
              (λ h. whole.1 (subst (λ st. StoodAt st v p) same h, (λ k. passed k.0))),
            ))
      ]

  -- any event
  event-means : (e : Event) (f : Formula) (x z : Stood) → Sits x.store x.at → IsEventBelow count e → Happens types slots a e x z →
      WSat f b ↔ StoodAt x v p → WSat (live_after next slots v y e f) b ↔ StoodAt z v p
  event-means (New g k w) f x z sits below happens means = new-means g k w f x z sits below happens means
  event-means (Write g u h w) f x z sits below happens means = write-means g u h w f x z happens means
  event-means (Free g u) f x z sits below happens means = free-means g u f x z sits below.0 below.1 happens means

-- no event: the cells of the first store
module _ (types : List TypeEntry) (vars : List VarEntry) (s : StoreMap) (a : Assignment) (at : Standing) (fits : Fits types vars s)
    (means : IsAssignmentOf types vars s a) (stand : AreStanding types vars s at) where
  pub first-means : (count : ℕ) (v : VariantId) → track_count types vars ≤ count → v.index < variant_count types v.ty →
      MeansHere count a (λ next y. is_of types v y) (VariantAt s at v)
  first-means count v enough known b next y p agrees few less only =
      let of_v = is_of-means types vars a b y p (record {
        same = λ t below. agrees.same t (omega (arith, below, enough));
        only = only;
        finite = agrees.finite;
      }) v known in (
        (λ h. let (c, placed, of) = marked-cell types vars s a fits means v p (of_v.0 h) in (c, (stand c p).1 placed, of)),
        (λ (h : VariantAt s at v p).
            let (c, here, of) = h in
            let (cell, found, is) = IsSomeAnd-at (cell_of s c) (λ e. e.variant ≡ v) of in
            of_v.1 (subst (λ w. IsCellOf types a w p) is (cell-marked types vars s a fits means c cell p found ((stand c p).0 here)))),
      )

-- all events
module _ (types : List TypeEntry) (slots count : ℕ) (a : Assignment) (v : VariantId) (first : Stood) (sits : Sits first.store first.at)
    (base : MeansHere count a (λ next y. is_of types v y) (VariantAt first.store first.at v)) where
  pub live_of-means : (events : List Event) (x : Stood) → LeadTo types slots a first events x → AreEventsBelow count events →
      MeansHere count a (λ next y. live_of types next slots v y events) (VariantAt x.store x.at v)
  live_of-means [] x led below b next y p agrees few less only =
      let same = base b next y p agrees few less only in (
        (λ h. subst (λ st. StoodAt st v p) (sym led) (same.0 h)),
        (λ h. same.1 (subst (λ st. StoodAt st v p) led h)),
      )
  live_of-means (e ∷ earlier) x (before, led, happens) below b next y p agrees few less only =
      event-means types slots count a b v next y p agrees few less only e (live_of types next slots v y earlier) before x
      (Sits-led types slots a first earlier before led sits) below.0 happens
      (live_of-means earlier before led below.1 b next y p agrees few less only)
