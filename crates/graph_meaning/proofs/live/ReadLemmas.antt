-- The formulas of live cells where all of a store is read, or a region of it.
use Rattle.std.proofs.Common.{◌≡◌, ◌↔◌, ℕ, zero, suc, ◌<◌, ◌≤◌, Bool, true, false, cond, IsTrue, IsSomeAnd, List, [], ◌∷◌, map, length, slice_get, Option, Some}
use Rattle.std.proofs.Common.{None, Contains, refl, sym, ap, ◌∙◌, subst, arith}
use Rattle.std.proofs.lemmas.Bool.{false≢true, eq-eqb}
use Rattle.std.specs.Prelude.{IsSome}
use Rattle.std.specs.Option.{option_map_or, option_and_then}
use Rattle.gta_theory.specs.Assignments.{Position, Assignment, IsOnly}
use Rattle.ws2s_core.specs.declared.track.Track.{Track}
use Rattle.ws2s_core.specs.declared.formula.Formula.{Formula}
use Rattle.ws2s_core.specs.declared.formula.Formula.TheVariants.{Sub, And, Not}
use Rattle.ws2s_core.specs.Satisfaction.{WSat}
use Rattle.ws2s_forms.specs.Forms.{track, or_list}
use Rattle.ws2s_forms.specs.Places.{with_position}
use Rattle.store_core.specs.declared.ids.CellId.{CellId}
use Rattle.store_core.specs.declared.ids.TypeId.{TypeId}
use Rattle.store_core.specs.declared.ids.FieldId.{FieldId}
use Rattle.store_core.specs.declared.ids.VariantId.{VariantId}
use Rattle.store_core.specs.declared.value.Value.{Value}
use Rattle.store_core.specs.Tables.{TypeEntry, FieldEntry, VarEntry, field_at, fields_of, variant_count, unnamed_of, is_had}
use Rattle.store_core.specs.Stores.{StoreMap, CellEntry, IsLive, Fits, SlotsFit, CellFits, cell_of, field_of, field_value}
use Rattle.store_core.proofs.FittingLemmas.{IsSomeAnd-at, IfSome-at, same_type}
use Rattle.routing_walks.specs.Walks.{IsOfType, IsOfVariant}
use Rattle.routing_walks.specs.Regions.{IsRest, has_number, store_on}
use Rattle.routing_walks.proofs.LiveLemmas.{IsSome-and}
use Rattle.routing_walks.proofs.RegionLemmas.{number_in, in_number, store_on-IsOn}
use Rattle.tree_encode.proofs.TracksLemmas.{and_then-some}
use Rattle.tree_store.proofs.SpotsLemmas.{of-some}
use Rattle.tree_formula.specs.WellEncoded.{type_id, variant_in, types_in, variants_of}
use Rattle.tree_store.specs.Premises.{OwnersAreThere}
use Rattle.tree_store.proofs.ListsLemmas.{Contains-named, named-inside}
use Rattle.tree_store.proofs.TablesLemmas.{type-known, unnamed-is, unnamed-known, owner-is, owner-inside, common-had, own-had, had-own}
use Rattle.graph_view.specs.declared.view.Sym.{Sym}
use Rattle.graph_view.specs.Syms.{is_in}
use Rattle.graph_view.specs.Sights.{Sight}
use Rattle.graph_view.specs.Live.{in_region, lives, lives_in, has, is_live, is_dead}
use Rattle.graph_view.specs.After.{Standing, IsAt, StandsForCell, IsRegion, IsRead, IsRegionBelow, IsSymBelow}
use Rattle.graph_meaning.specs.Live.Meaning.{Agrees, MeansHere}
use Rattle.graph_meaning.specs.Live.Standing.{Sits, LiveAt, VariantAt, TypeAt, FieldAt}
use Rattle.graph_meaning.proofs.live.AgreeingLemmas.{Agrees-bound, IsOnly-bound, member-agreed, sat-and, sat-not, sat-ex1, sat-or_list}
use Rattle.graph_meaning.proofs.live.SymsLemmas.{is_in-cell, is_in-null}
use Rattle.graph_meaning.proofs.live.LiveLemmas.{variant-kept}

-- ---- regions

pub is-none : {X : Type 0} (o : Option X) → o ≡ None → IsSome o → ⊥
is-none None e h = false≢true h
is-none (Some x) e h = cc

-- a live cell of the store on a set is in the set
pub on-set : (s : StoreMap) (cells : List CellId) (c : CellId) → IsLive (store_on s cells) c → Contains cells c
on-set s cells c live = by (has_number cells c.0) refl
  where
    by : (t : Bool) → has_number cells c.0 ≡ t → Contains cells c
    by true is = in_number cells c is
    by false is =
        absurd (is-none (cell_of (store_on s cells) c)
        ((store_on-IsOn s cells).outside c (λ here. false≢true (sym is ∙ number_in cells c here))) live)

module _ (types : List TypeEntry) (a : Assignment) (at : Standing) (s : StoreMap) (sits : Sits s at) (v : VariantId) (p : Position) where
  -- the cell there is in the region exactly where the position is on its track
  in-cells : (x : Track) (cells : List CellId) (c : CellId) → IsRegion types a at x s cells → IsAt at c p → IsTrue (a x.0 p) ↔ Contains cells c
  in-cells x cells c region here = (
    (λ h. let (d, inside, also) = (region.each p).0 h in subst (λ e. Contains cells e) (sits.apart d c p also here) inside),
    (λ h. (region.each p).1 (c, h, here)),
  )

  set-at : (cells : List CellId) → VariantAt (store_on s cells) at v p ↔ ((c : CellId) × IsAt at c p × IsOfVariant s v c × Contains cells c)
  set-at cells = (
    (λ (h : VariantAt (store_on s cells) at v p).
        let (c, here, of_v) = h in
        let inside = on-set s cells c (IsSome-and (cell_of (store_on s cells) c) (λ e. e.variant ≡ v) of_v) in
        (c, here, (variant-kept s (store_on s cells) v c ((store_on-IsOn s cells).inside c inside)).0 of_v, inside)),
    (λ h. (h.0, h.1, (variant-kept s (store_on s cells) v h.0 ((store_on-IsOn s cells).inside h.0 h.3)).1 h.2)),
  )

  region-at : (x : Track) (cells : List CellId) → IsRegion types a at x s cells →
      (VariantAt s at v p × IsTrue (a x.0 p)) ↔ VariantAt (store_on s cells) at v p
  region-at x cells region = (
    (λ (h : VariantAt s at v p × IsTrue (a x.0 p)).
        let (c, here, of_v) = h.0 in
        (set-at cells).1 (c, here, of_v, (in-cells x cells c region here).0 h.1)),
    (λ (h : VariantAt (store_on s cells) at v p).
        let (c, here, of_v, inside) = (set-at cells).0 h in
        ((c, here, of_v), (in-cells x cells c region here).1 inside)),
  )

  rest-at : (x : Track) (cells rest : List CellId) → IsRegion types a at x s cells → IsRest s cells rest →
      (VariantAt s at v p × (IsTrue (a x.0 p) → ⊥)) ↔ VariantAt (store_on s rest) at v p
  rest-at x cells rest region outside = (
    (λ (h : VariantAt s at v p × (IsTrue (a x.0 p) → ⊥)).
        let (c, here, of_v) = h.0 in
        (set-at rest).1 (
          c,
          here,
          of_v,
          (outside.members c).1 (
            IsSome-and (cell_of s c) (λ e. e.variant ≡ v) of_v,
            (λ inside. h.1 ((in-cells x cells c region here).1 inside)),
          ),
        )),
    (λ (h : VariantAt (store_on s rest) at v p).
        let (c, here, of_v, inside) = (set-at rest).0 h in
        ((c, here, of_v), (λ on. ((outside.members c).0 inside).1 ((in-cells x cells c region here).0 on)))),
  )

  -- the formula of a region
  pub in_region-means : (count : ℕ) (b : Assignment) (y : ℕ) (region : Option (Track × Bool)) (t : StoreMap) (f : Formula) → Agrees count a b →
      IsOnly (b y) p → IsRegionBelow count region → IsRead types a at region s t → WSat f b ↔ VariantAt s at v p →
      WSat (in_region y region f) b ↔ VariantAt t at v p
  in_region-means count b y None t f agrees only below read means = (
    (λ h. subst (λ r. VariantAt r at v p) (sym read) (means.0 h)),
    (λ h. means.1 (subst (λ r. VariantAt r at v p) read h)),
  )
  in_region-means count b y (Some (x, true)) t f agrees only below (cells, region, is) means =
      let both = sat-and f (Sub (track y) x) b (VariantAt s at v p) (IsTrue (a x.0 p)) means (member-agreed count a b y x.0 p agrees below only) in
      let on = region-at x cells region in (
        (λ h. subst (λ r. VariantAt r at v p) (sym is) (on.0 (both.0 h))),
        (λ h. both.1 (on.1 (subst (λ r. VariantAt r at v p) is h))),
      )
  in_region-means count b y (Some (x, false)) t f agrees only below (cells, rest, region, outside, is) means =
      let both = sat-and f (Not (Sub (track y) x)) b (VariantAt s at v p) (IsTrue (a x.0 p) → ⊥) means
      (sat-not (Sub (track y) x) b (IsTrue (a x.0 p)) (member-agreed count a b y x.0 p agrees below only)) in
      let on = rest-at x cells rest region outside in (
        (λ h. subst (λ r. VariantAt r at v p) (sym is) (on.0 (both.0 h))),
        (λ h. both.1 (on.1 (subst (λ r. VariantAt r at v p) is h))),
      )

-- what is read has cells of the store alone, as they are
pub read-cell : (types : List TypeEntry) (a : Assignment) (at : Standing) (region : Option (Track × Bool)) (s t : StoreMap) (c : CellId) →
    IsRead types a at region s t → IsLive t c → cell_of t c ≡ cell_of s c
read-cell types a at None s t c read live = ap (λ r. cell_of r c) read
read-cell types a at (Some (x, true)) s t c (cells, region, is) live =
    let inside = on-set s cells c (subst (λ r. IsLive r c) is live) in
    ap (λ r. cell_of r c) is ∙ (store_on-IsOn s cells).inside c inside
read-cell types a at (Some (x, false)) s t c (cells, rest, region, outside, is) live =
    let inside = on-set s rest c (subst (λ r. IsLive r c) is live) in
    ap (λ r. cell_of r c) is ∙ (store_on-IsOn s rest).inside c inside

-- ---- cells that fit

-- each cell of t is one that fits in s
pub record AreFitting (types : List TypeEntry) (s t : StoreMap) : Type 0 where
  pub fit : (c : CellId) (cell : CellEntry) → cell_of t c ≡ Some cell → CellFits types s cell

pub is-some : {X : Type 0} (o : Option X) (x : X) → o ≡ Some x → IsSome o
is-some o x e = subst IsSome (sym e) refl

pub read-fitting : (types : List TypeEntry) (vars : List VarEntry) (a : Assignment) (at : Standing) (region : Option (Track × Bool)) (s t : StoreMap) →
    Fits types vars s → IsRead types a at region s t → AreFitting types s t
read-fitting types vars a at region s t fits read = record {
  fit = λ c cell found.
      IfSome-at (cell_of s c) (CellFits types s) cell
      (sym (read-cell types a at region s t c read (is-some (cell_of t c) cell found)) ∙ found) (fits.cells c);
}

-- a field with a value is one that the variant has
slot-has : (s : StoreMap) (index : ℕ) (fs : List FieldEntry) (xs : List (Option Value)) (i : ℕ) (x : Value) → SlotsFit s index fs xs →
    option_and_then (λ (v : Option Value). v) (slice_get xs i) ≡ Some x → (entry : FieldEntry) × (slice_get fs i ≡ Some entry) × (is_had index entry ≡ true)
slot-has s index [] [] i x fit at = absurd (cc)
slot-has s index [] (y ∷ xs) i x fit at = absurd fit
slot-has s index (f ∷ fs) [] i x fit at = absurd fit
slot-has s index (f ∷ fs) (None ∷ xs) zero x fit at = absurd (cc)
slot-has s index (f ∷ fs) (Some y ∷ xs) zero x fit at = (f, refl, fit.0.0)
slot-has s index (f ∷ fs) (y ∷ xs) (suc i) x fit at = slot-has s index fs xs i x fit.1 at

-- a field that the variant has has a value
slot-had : (s : StoreMap) (index : ℕ) (fs : List FieldEntry) (xs : List (Option Value)) (i : ℕ) (entry : FieldEntry) → SlotsFit s index fs xs →
    slice_get fs i ≡ Some entry → is_had index entry ≡ true → (x : Value) × (slice_get xs i ≡ Some (Some x))
slot-had s index [] xs i entry fit there had = absurd (cc)
slot-had s index (f ∷ fs) [] i entry fit there had = absurd fit
slot-had s index (f ∷ fs) (None ∷ xs) zero entry fit there had =
    let same : f ≡ entry = cc in
    absurd (false≢true (sym (subst (λ e. is_had index e ≡ false) same fit.0) ∙ had))
slot-had s index (f ∷ fs) (Some x ∷ xs) zero entry fit there had = (x, refl)
slot-had s index (f ∷ fs) (x ∷ xs) (suc i) entry fit there had = slot-had s index fs xs i entry fit.1 there had

module _ (types : List TypeEntry) (s t : StoreMap) (at : Standing) (fitting : AreFitting types s t) where
  -- ---- variants and types of cells

  pub cell-variant : (v : VariantId) (c : CellId) → IsOfVariant t v c → v.index < variant_count types v.ty
  cell-variant v c of_v =
      let (cell, found, is) = IsSomeAnd-at (cell_of t c) (λ e. e.variant ≡ v) of_v in
      subst (λ (w : VariantId). w.index < variant_count types w.ty) is ((fitting.fit c cell found).variant)

  pub type-variant : (ty : TypeId) (p : Position) → TypeAt t at ty p → (i : ℕ) × (i < variant_count types ty) × VariantAt t at (variant_in ty i) p
  type-variant ty p (c, here, of_ty) =
      let (cell, found, is) = IsSomeAnd-at (cell_of t c) (λ e. e.variant.ty ≡ ty) of_ty in
      let of_v : IsOfVariant t (variant_in ty cell.variant.index) c =
      of-some (λ e. e.variant ≡ variant_in ty cell.variant.index) (cell_of t c) cell found (ap (λ y. variant_in y cell.variant.index) is) in
      (cell.variant.index, cell-variant (variant_in ty cell.variant.index) c of_v, (c, here, of_v))

  pub variant-type : (v : VariantId) (p : Position) → VariantAt t at v p → TypeAt t at v.ty p
  variant-type v p (c, here, of_v) =
      let (cell, found, is) = IsSomeAnd-at (cell_of t c) (λ e. e.variant ≡ v) of_v in
      (c, here, of-some (λ e. e.variant.ty ≡ v.ty) (cell_of t c) cell found (ap (λ (w : VariantId). w.ty) is))

  -- ---- cells with a field

  pub had-field : (f : FieldId) (entry : FieldEntry) (i : ℕ) (p : Position) → field_at types f ≡ Some entry → is_had i entry ≡ true →
      VariantAt t at (variant_in f.ty i) p → FieldAt t at f p
  had-field f entry i p there had (c, here, of_v) =
      let (cell, found, is) = IsSomeAnd-at (cell_of t c) (λ e. e.variant ≡ variant_in f.ty i) of_v in
      let fit = fitting.fit c cell found in
      let typed : cell.variant.ty ≡ f.ty = ap (λ (w : VariantId). w.ty) is in
      let index : cell.variant.index ≡ i = ap (λ (w : VariantId). w.index) is in
      let (x, slot) = slot-had s cell.variant.index (fields_of types cell.variant.ty) cell.values f.index entry fit.values
      (ap (λ y. slice_get (fields_of types y) f.index) typed ∙ there) (ap (λ j. is_had j entry) index ∙ had) in
      let value : field_of cell f ≡ Some x =
      ap (λ b. cond b (option_and_then (λ (o : Option Value). o) (slice_get cell.values f.index)) None)
      (eq-eqb cell.variant.ty.0 f.ty.0 (ap (λ (y : TypeId). y.0) typed)) ∙ ap (λ o. option_and_then (λ (y : Option Value). y) o) slot in
      (c, here, is-some (field_value t c f) x (ap (λ o. option_and_then (λ (e : CellEntry). field_of e f) o) found ∙ value))

  pub field-had : (f : FieldId) (entry : FieldEntry) (p : Position) → field_at types f ≡ Some entry → FieldAt t at f p →
      (i : ℕ) × (i < variant_count types f.ty) × (is_had i entry ≡ true) × VariantAt t at (variant_in f.ty i) p
  field-had f entry p there (c, here, some) =
      let (x, value) = present-value (field_value t c f) some in
      let (cell, found, has) = and_then-some (λ (e : CellEntry). field_of e f) (cell_of t c) x value in
      let (typed, slot) = same_type cell f x has in
      let fit = fitting.fit c cell found in
      let (own, is, had) = slot-has s cell.variant.index (fields_of types cell.variant.ty) cell.values f.index x fit.values slot in
      let both : Some own ≡ Some entry = sym is ∙ ap (λ y. slice_get (fields_of types y) f.index) typed ∙ there in
      let same : own ≡ entry = cc in
      let of_v : IsOfVariant t (variant_in f.ty cell.variant.index) c =
      of-some (λ e. e.variant ≡ variant_in f.ty cell.variant.index) (cell_of t c) cell found (ap (λ y. variant_in y cell.variant.index) typed) in
      (cell.variant.index, cell-variant (variant_in f.ty cell.variant.index) c of_v, subst (λ e. is_had cell.variant.index e ≡ true) same had, (c, here, of_v))
    where
      present-value : (o : Option Value) → IsSome o → (x : Value) × (o ≡ Some x)
      present-value None h = absurd (false≢true h)
      present-value (Some x) h = (x, refl)

-- ---- formulas of live cells, from those of variants

module _ (types : List TypeEntry) (s t : StoreMap) (at : Standing) (fitting : AreFitting types s t) (count : ℕ) (a : Assignment) (sight : Sight)
    (means : (v : VariantId) → v.index < variant_count types v.ty → MeansHere count a (λ next y. lives types sight next v y) (VariantAt t at v)) where
  pub lives_in-means : (ty : TypeId) → MeansHere count a (λ next y. lives_in types sight next ty y) (TypeAt t at ty)
  lives_in-means ty b next y p agrees few less only = by (unnamed_of types ty) refl
    where
      by : (o : Option VariantId) → unnamed_of types ty ≡ o →
          WSat (option_map_or (λ v. lives types sight next v y) o (or_list next (map (λ v. lives types sight next v y) (variants_of types ty)))) b
          ↔ TypeAt t at ty p
      by None is =
          let some = sat-or_list next (λ v. lives types sight next v y) (variants_of types ty) b (λ v. (v.ty ≡ ty) × VariantAt t at v p) agrees.finite
          (λ v listed.
          let (i, inside, name) = named-inside (variant_in ty) (variant_count types ty) v listed in
          let typed : v.ty ≡ ty = sym (ap (λ (w : VariantId). w.ty) name) in
          let known : v.index < variant_count types v.ty = subst (λ (w : VariantId). w.index < variant_count types w.ty) name inside in
          let one = means v known b next y p agrees few less only in ((λ h. (typed, one.0 h)), (λ h. one.1 h.1))) in (
            (λ h. let (v, listed, found) = some.0 h in subst (λ u. TypeAt t at u p) found.0 (variant-type types s t at fitting v p found.1)),
            (λ h.
                let (i, inside, of_v) = type-variant types s t at fitting ty p h in
                some.1 (variant_in ty i, Contains-named (variant_in ty) (variant_count types ty) i inside, (refl, of_v))),
          )
      by (Some v) is =
          let (same, single) = unnamed-is types ty v is in
          let one = means v (unnamed-known types ty v is) b next y p agrees few less only in (
            (λ h.
                subst (λ u. TypeAt t at u p) (sym (ap (λ (w : VariantId). w.ty) same)) (variant-type types s t at fitting v p (one.0 h))),
            (λ h.
                let (i, inside, of_v) = type-variant types s t at fitting ty p h in
                let first : i ≡ 0 = omega (arith, inside, single) in
                one.1 (subst (λ w. VariantAt t at w p) (ap (variant_in ty) first ∙ same) of_v)),
          )

  pub is_live-means : MeansHere count a (λ next y. is_live types sight next y) (LiveAt t at)
  is_live-means b next y p agrees few less only =
      let some = sat-or_list next (λ ty. lives_in types sight next ty y) (types_in types) b (λ ty. TypeAt t at ty p) agrees.finite
      (λ ty listed. lives_in-means ty b next y p agrees few less only) in (
        (λ h.
            let (ty, listed, (c, here, of_ty)) = some.0 h in
            (c, here, IsSome-and (cell_of t c) (λ e. e.variant.ty ≡ ty) of_ty)),
        (λ (h : LiveAt t at p).
            let (c, here, live) = h in
            let (cell, found) = present-cell (cell_of t c) live in
            let of_ty : IsOfType t cell.variant.ty c = of-some (λ e. e.variant.ty ≡ cell.variant.ty) (cell_of t c) cell found refl in
            some.1 (
              cell.variant.ty,
              Contains-named type_id (length types) cell.variant.ty.0
                  (type-known types cell.variant.ty cell.variant.index ((fitting.fit c cell found).variant)),
              (c, here, of_ty),
            )),
      )
    where
      present-cell : (o : Option CellEntry) → IsSome o → (x : CellEntry) × (o ≡ Some x)
      present-cell None h = absurd (false≢true h)
      present-cell (Some x) h = (x, refl)

  pub has-means : (f : FieldId) (entry : FieldEntry) → OwnersAreThere types → field_at types f ≡ Some entry →
      MeansHere count a (λ next y. has types sight next f y) (FieldAt t at f)
  has-means f entry owners there b next y p agrees few less only =
      subst (λ o. WSat (option_map_or (λ v. lives types sight next v y) o (lives_in types sight next f.ty y)) b ↔ FieldAt t at f p)
      (sym (owner-is types f entry there)) (by entry.only refl)
    where
      by : (o : Option ℕ) → entry.only ≡ o →
          WSat (option_map_or (λ v. lives types sight next v y) (option_map_or (λ i. Some (variant_in f.ty i)) o None) (lives_in types sight next f.ty y)) b
          ↔ FieldAt t at f p
      by None common =
          let live = lives_in-means f.ty b next y p agrees few less only in (
            (λ h.
                let (i, inside, of_v) = type-variant types s t at fitting f.ty p (live.0 h) in
                had-field types s t at fitting f entry i p there (common-had entry i common) of_v),
            (λ h.
                let (i, inside, had, of_v) = field-had types s t at fitting f entry p there h in
                live.1 (variant-type types s t at fitting (variant_in f.ty i) p of_v)),
          )
      by (Some i) own =
          let one = means (variant_in f.ty i) (owner-inside types f entry i owners there own) b next y p agrees few less only in (
            (λ h. had-field types s t at fitting f entry i p there (own-had entry i own) (one.0 h)),
            (λ h.
                let (j, inside, had, of_v) = field-had types s t at fitting f entry p there h in
                one.1 (subst (λ k. VariantAt t at (variant_in f.ty k) p) (sym (had-own entry i j own had)) of_v)),
          )

  -- the value is a dead cell
  pub is_dead-means : (b : Assignment) (next : ℕ) (u : Sym) (o : Option CellId) → ((c : CellId) (p q : Position) → IsAt at c p → IsAt at c q → p ≡ q) →
      ((c d : CellId) (p : Position) → IsAt at c p → IsAt at d p → c ≡ d) →
      Agrees count a b → count ≤ next → IsSymBelow count u → StandsForCell a at u o →
      WSat (is_dead types sight next u) b ↔ IsSomeAnd o (λ c. (p : Position) × (IsAt at c p × (IsLive t c → ⊥)))
  is_dead-means b next u None one apart agrees few below stands =
      let some = sat-ex1 next (And (is_in (suc next) next u) (Not (is_live types sight (suc next) next))) b (λ p. ⊥) (λ p.
      let bound = Agrees-bound count a b next p agrees few in
      let none = is_in-null count a (with_position b next p) (suc next) next p at u bound below (IsOnly-bound b next p) stands in (
        (λ h. none ((sat-and (is_in (suc next) next u) (Not (is_live types sight (suc next) next)) (with_position b next p)
            (WSat (is_in (suc next) next u) (with_position b next p)) (WSat (Not (is_live types sight (suc next) next)) (with_position b next p))
            ((λ k. k), (λ k. k)) ((λ k. k), (λ k. k))).0 h).0),
        (λ h. absurd h),
      )) in ((λ h. absurd (some.0 h).1), (λ h. absurd h))
  is_dead-means b next u (Some c) one apart agrees few below stands =
      sat-ex1 next (And (is_in (suc next) next u) (Not (is_live types sight (suc next) next))) b (λ p. IsAt at c p × (IsLive t c → ⊥)) (λ p.
      let bound = Agrees-bound count a b next p agrees few in
      let alone = IsOnly-bound b next p in
      let live = is_live-means (with_position b next p) (suc next) next p bound (omega (arith, few)) (omega arith) alone in
      let both = sat-and (is_in (suc next) next u) (Not (is_live types sight (suc next) next)) (with_position b next p) (IsAt at c p) (LiveAt t at p → ⊥)
      (is_in-cell count a (with_position b next p) (suc next) next p at u c bound below alone (one c) stands)
      (sat-not (is_live types sight (suc next) next) (with_position b next p) (LiveAt t at p) live) in (
        (λ h. let k = both.0 h in (k.0, (λ lives. k.1 (c, k.0, lives)))),
        (λ (h : IsAt at c p × (IsLive t c → ⊥)). both.1 (h.0, (λ (k : LiveAt t at p). h.1 (subst (λ d. IsLive t d) (apart k.0 c p k.1 h.0) k.2)))),
      ))
