-- What the words for cells mean where a track has one position.
use Rattle.std.proofs.Common.{◌≡◌, ◌≢◌, ℕ, ◌<◌, ◌≤◌, ◌↔◌, IsTrue, IsSomeAnd, List, map, Option, Some, None, refl, sym, ap, ◌∙◌, subst, arith}
use Rattle.std.specs.Option.{option_map_or}
use Rattle.gta_theory.specs.Assignments.{Position, PositionSet, Assignment, IsFinite, IsOnly}
use Rattle.gta_theory.proofs.AssignmentsLemmas.{replace-same, replace-other}
use Rattle.gta_theory.proofs.ListsLemmas.{Contains-map, Contains-mapped}
use Rattle.ws2s_core.specs.declared.track.Track.{Track}
use Rattle.ws2s_core.specs.declared.formula.Formula.TheVariants.{Sub}
use Rattle.ws2s_core.specs.Satisfaction.{WSat}
use Rattle.ws2s_forms.specs.Forms.{track, or_list}
use Rattle.ws2s_forms.specs.Places.{just, with_position}
use Rattle.ws2s_forms.proofs.PositionsLemmas.{IsOnly-just}
use Rattle.ws2s_forms.proofs.LawsLemmas.{law-or_list, law-member, IsFinite-position}
use Rattle.store_core.specs.declared.ids.TypeId.{TypeId}
use Rattle.store_core.specs.declared.ids.VariantId.{VariantId}
use Rattle.store_core.specs.declared.ids.FieldId.{FieldId}
use Rattle.store_core.specs.Tables.{TypeEntry, FieldEntry, VarEntry, field_at, variant_count, unnamed_of}
use Rattle.tree_encode.specs.Tracks.{of_variant, track_count, track_at}
use Rattle.tree_formula.specs.WellEncoded.{variant_in, variants_of, track_or_first, is_of, is_live, has}
use Rattle.tree_store.specs.Shapes.{IsCellOf, IsCellIn, HasFieldAt}
use Rattle.tree_store.specs.Premises.{OwnersAreThere}
use Rattle.tree_store.proofs.ListsLemmas.{Contains-named, named-inside}
use Rattle.tree_store.proofs.TablesLemmas.{number_of_variant, variant-there, cell-known, track-few, unnamed-known, only-cell, owner-is, owner-inside}
use Rattle.tree_store.proofs.TablesLemmas.{has_field-from, has_field-had, common-had, own-had, had-own}

-- the position alone is on track x of b, which has the first tracks of a
pub record StandsOn (count : ℕ) (a b : Assignment) (x : ℕ) (p : Position) : Type 0 where
  pub same : (t : ℕ) → t < count → b t ≡ a t
  pub only : IsOnly (b x) p
  pub finite : IsFinite b

not_same : (t next : ℕ) → t < next → t ≢ next
not_same t next below e = let k : ⊥ = omega (arith, e, below) in k

-- the position that a quantifier binds, on a track behind the layout's
pub StandsOn-bound : (count : ℕ) (a : Assignment) (next : ℕ) (p : Position) → count ≤ next → IsFinite a →
    StandsOn count a (with_position a next p) next p
StandsOn-bound count a next p few finite = record {
  same = λ t below. replace-other a next t (just p) (not_same t next (omega (arith, below, few)));
  only = subst (λ set. IsOnly set p) (sym (replace-same a next (just p))) (IsOnly-just p);
  finite = IsFinite-position a next p finite;
}

module _ (count : ℕ) (a b : Assignment) (x : ℕ) (p : Position) (next : ℕ) (q : Position) (few : count ≤ next) (stands : StandsOn count a b x p) where
  further-same : (t : ℕ) → t < count → with_position b next q t ≡ a t
  further-same t below = replace-other b next t (just q) (not_same t next (omega (arith, below, few))) ∙ stands.same t below

  -- the one that a quantifier inside binds, and the one from outside
  pub StandsOn-further : StandsOn count a (with_position b next q) next q
  StandsOn-further = record {
    same = further-same;
    only = subst (λ set. IsOnly set q) (sym (replace-same b next (just q))) (IsOnly-just q);
    finite = IsFinite-position b next q stands.finite;
  }

  pub StandsOn-still : x < next → StandsOn count a (with_position b next q) x p
  StandsOn-still below = record {
    same = further-same;
    only = subst (λ set. IsOnly set p) (sym (replace-other b next x (just q) (not_same x next below))) stands.only;
    finite = IsFinite-position b next q stands.finite;
  }

module _ (types : List TypeEntry) (vars : List VarEntry) (a b : Assignment) (x : ℕ) (p : Position) (stands : StandsOn (track_count types vars) a b x p) where
  -- the position is on a track of the layout
  pub on-track : (t : Track) → t.0 < track_count types vars → WSat (Sub (track x) t) b ↔ IsTrue (a t.0 p)
  on-track t below =
      let same = stands.same t.0 below in
      let member = law-member x t.0 b p stands.only in (
        (λ h. subst (λ (set : PositionSet). IsTrue (set p)) same (member.0 h)),
        (λ h. member.1 (subst (λ (set : PositionSet). IsTrue (set p)) (sym same) h)),
      )

  -- a cell of a variant
  pub is_of-means : (v : VariantId) → v.index < variant_count types v.ty → WSat (is_of types v x) b ↔ IsCellOf types a v p
  is_of-means v inside =
      let t = track_at (number_of_variant types v) in
      let is = variant-there types v inside in
      subst (λ o. WSat (Sub (track x) (track_or_first o)) b ↔ IsSomeAnd o (λ u. IsTrue (a u.0 p))) (sym is)
      (on-track t (track-few types vars (of_variant v) t is))

  -- a cell of a type, by its variants
  some-live : (next : ℕ) (ty : TypeId) → WSat (or_list next (map (λ v. is_of types v x) (variants_of types ty))) b ↔ IsCellIn types a ty p
  some-live next ty =
      let of = λ (v : VariantId). is_of types v x in
      let some = law-or_list next (map of (variants_of types ty)) b stands.finite in (
        (λ h.
            let (f, listed, holds) = some.0 h in
            let (v, among, is) = Contains-mapped of (variants_of types ty) f listed in
            let (k, below, name) = named-inside (variant_in ty) (variant_count types ty) v among in
            record {
              index = k;
              here = (is_of-means (variant_in ty k) below).0 (subst (λ g. WSat g b) (sym (ap of name ∙ is)) holds);
            }),
        (λ h.
            let known = cell-known types a (variant_in ty h.index) p h.here in
            some.1 (
              of (variant_in ty h.index),
              Contains-map of (variants_of types ty) (variant_in ty h.index) (Contains-named (variant_in ty) (variant_count types ty) h.index known),
              (is_of-means (variant_in ty h.index) known).1 h.here,
            )),
      )

  -- a cell of a type with the one variant
  one-live : (ty : TypeId) (v : VariantId) → unnamed_of types ty ≡ Some v → WSat (is_of types v x) b ↔ IsCellIn types a ty p
  one-live ty v unnamed =
      let of_v = is_of-means v (unnamed-known types ty v unnamed) in
      let cell = only-cell types a ty v p unnamed in ((λ h. cell.0 (of_v.0 h)), (λ h. of_v.1 (cell.1 h)))

  pub is_live-means : (next : ℕ) (ty : TypeId) → WSat (is_live next types ty x) b ↔ IsCellIn types a ty p
  is_live-means next ty = by (unnamed_of types ty) refl
    where
      by : (o : Option VariantId) → unnamed_of types ty ≡ o →
          WSat (option_map_or (λ v. is_of types v x) o (or_list next (map (λ v. is_of types v x) (variants_of types ty)))) b ↔ IsCellIn types a ty p
      by None is = some-live next ty
      by (Some v) is = one-live ty v is

  -- a cell that has a field
  pub has-means : (next : ℕ) (f : FieldId) (entry : FieldEntry) → OwnersAreThere types → field_at types f ≡ Some entry →
      WSat (has next types f x) b ↔ HasFieldAt types a f p
  has-means next f entry owners there =
      subst (λ o. WSat (option_map_or (λ v. is_of types v x) o (is_live next types f.ty x)) b ↔ HasFieldAt types a f p)
      (sym (owner-is types f entry there)) (by entry.only refl)
    where
      by : (o : Option ℕ) → entry.only ≡ o →
          WSat (option_map_or (λ v. is_of types v x) (option_map_or (λ i. Some (variant_in f.ty i)) o None) (is_live next types f.ty x)) b
          ↔ HasFieldAt types a f p
      by None common =
          let live = is_live-means next f.ty in (
            (λ h.
                let cell = live.0 h in
                record {
                  index = cell.index;
                  has = has_field-from types f entry cell.index there (cell-known types a (variant_in f.ty cell.index) p cell.here)
                      (common-had entry cell.index common);
                  here = cell.here;
                }),
            (λ h. live.1 (record { index = h.index; here = h.here })),
          )
      by (Some i) own =
          let inside = owner-inside types f entry i owners there own in
          let cell = is_of-means (variant_in f.ty i) inside in (
            (λ h. record { index = i; has = has_field-from types f entry i there inside (own-had entry i own); here = cell.0 h }),
            (λ h.
                let same : h.index ≡ i = sym (had-own entry i h.index own (has_field-had types f entry h.index there h.has)) in
                cell.1 (subst (λ j. IsCellOf types a (variant_in f.ty j) p) same h.here)),
          )
