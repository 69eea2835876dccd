-- Sets that have cells alone: those of true bool fields, and those of variables.
use Rattle.std.proofs.Common.{◌≡◌, ℕ, suc, ◌<◌, ◌≤◌, ◌↔◌, IsTrue, IsSomeAnd, List, Option, Some, None, refl, sym, subst}
use Rattle.std.specs.Option.{option_map_or}
use Rattle.gta_theory.specs.Assignments.{Position, Assignment, IsFinite}
use Rattle.ws2s_core.specs.declared.track.Track.{Track}
use Rattle.ws2s_core.specs.declared.formula.Formula.{Formula}
use Rattle.ws2s_core.specs.declared.formula.Formula.TheVariants.{Sub}
use Rattle.ws2s_core.specs.Satisfaction.{WSat}
use Rattle.ws2s_core.proofs.SatisfactionLemmas.{WSat-Sub}
use Rattle.ws2s_forms.specs.Forms.{track, imp, all1}
use Rattle.ws2s_forms.specs.Places.{with_position}
use Rattle.ws2s_forms.proofs.LawsLemmas.{law-all1, law-imp}
use Rattle.store_core.specs.declared.ids.TypeId.{TypeId}
use Rattle.store_core.specs.declared.ids.VariantId.{VariantId}
use Rattle.store_core.specs.declared.ids.FieldId.{FieldId}
use Rattle.store_core.specs.Tables.{TypeEntry, FieldEntry, VarEntry, field_at, variant_count, unnamed_of}
use Rattle.tree_encode.specs.Tracks.{track_count, track_at, variant_track}
use Rattle.tree_formula.specs.WellEncoded.{variant_in, track_or_first, is_live, has, only_variant, is_had, is_within}
use Rattle.tree_store.specs.Shapes.{IsCellOf, IsCellIn, HasFieldAt, HasCellsIn}
use Rattle.tree_store.specs.Premises.{OwnersAreThere}
use Rattle.tree_store.proofs.TablesLemmas.{number_of_variant, variant-there, cell-known, unnamed-known, only-cell, has_field-from, has_field-had, only-holder}
use Rattle.tree_store.proofs.StandingLemmas.{StandsOn, StandsOn-bound, on-track, is_live-means, has-means}

module _ (types : List TypeEntry) (vars : List VarEntry) (a : Assignment) (next : ℕ) (few : track_count types vars ≤ next) (finite : IsFinite a)
    (t : Track) (below : t.0 < track_count types vars) where
  bound : (p : Position) → StandsOn (track_count types vars) a (with_position a next p) next p
  bound p = StandsOn-bound (track_count types vars) a next p few finite

  finite_at : (p : Position) → IsFinite (with_position a next p)
  finite_at p = (let stands = bound p in stands.finite)

  -- each position on the track satisfies the formula
  each-on : (f : Formula) (P : Position → Type 0) → ((p : Position) → WSat f (with_position a next p) ↔ P p) →
      WSat (all1 next (imp (Sub (track next) t) f)) a ↔ ((p : Position) → IsTrue (a t.0 p) → P p)
  each-on f P means =
      let all = law-all1 next (imp (Sub (track next) t) f) a finite in (
        (λ h p on.
            (means p).0 ((law-imp (Sub (track next) t) f (with_position a next p) (finite_at p)).0 (all.0 h p)
            ((on-track types vars a (with_position a next p) next p (bound p) t below).1 on))),
        (λ h. all.1 (λ p. (law-imp (Sub (track next) t) f (with_position a next p) (finite_at p)).1 (λ on.
            (means p).1 (h p ((on-track types vars a (with_position a next p) next p (bound p) t below).0 on))))),
      )

  -- each is a cell of the variant
  cells-on : (v : VariantId) → v.index < variant_count types v.ty →
      WSat (Sub t (track_or_first (variant_track types v))) a ↔ ((p : Position) → IsTrue (a t.0 p) → IsCellOf types a v p)
  cells-on v inside =
      subst (λ o. WSat (Sub t (track_or_first o)) a ↔ ((p : Position) → IsTrue (a t.0 p) → IsSomeAnd o (λ u. IsTrue (a u.0 p))))
      (sym (variant-there types v inside)) (WSat-Sub t (track_at (number_of_variant types v)) a)

  -- each is a cell that has the field
  pub is_had-means : (f : FieldId) (entry : FieldEntry) → OwnersAreThere types → field_at types f ≡ Some entry →
      WSat (is_had next types f t) a ↔ ((p : Position) → IsTrue (a t.0 p) → HasFieldAt types a f p)
  is_had-means f entry owners there = by (only_variant types f) refl
    where
      by : (o : Option VariantId) → only_variant types f ≡ o →
          WSat (option_map_or (λ v. Sub t (track_or_first (variant_track types v))) o (all1 next (imp (Sub (track next) t) (has (suc next) types f next)))) a
          ↔ ((p : Position) → IsTrue (a t.0 p) → HasFieldAt types a f p)
      by None none =
          each-on (has (suc next) types f next) (HasFieldAt types a f)
          (λ p. has-means types vars a (with_position a next p) next p (bound p) (suc next) f entry owners there)
      by (Some v) only =
          let holder = only-holder types f entry v owners there only in
          let known : v.index < variant_count types v.ty = subst (λ (w : VariantId). w.index < variant_count types w.ty) holder.is holder.inside in
          let cells = cells-on v known in (
            (λ h p on. record {
              index = holder.index;
              has = has_field-from types f entry holder.index there holder.inside holder.had;
              here = subst (λ w. IsCellOf types a w p) (sym holder.is) (cells.0 h p on);
            }),
            (λ h. cells.1 (λ p on.
                let had = h p on in
                let same = holder.alone had.index (cell-known types a (variant_in f.ty had.index) p had.here)
                (has_field-had types f entry had.index there had.has) in
                subst (λ w. IsCellOf types a w p) holder.is (subst (λ i. IsCellOf types a (variant_in f.ty i) p) same had.here))),
          )

  -- each is a cell of the type
  pub is_within-means : (ty : TypeId) → WSat (is_within next types ty t) a ↔ HasCellsIn types a ty t.0
  is_within-means ty = by (unnamed_of types ty) refl
    where
      by : (o : Option VariantId) → unnamed_of types ty ≡ o →
          WSat (option_map_or (λ v. Sub t (track_or_first (variant_track types v))) o
          (all1 next (imp (Sub (track next) t) (is_live (suc next) types ty next)))) a
          ↔ HasCellsIn types a ty t.0
      by None none =
          each-on (is_live (suc next) types ty next) (λ p. IsCellIn types a ty p)
          (λ p. is_live-means types vars a (with_position a next p) next p (bound p) (suc next) ty)
      by (Some v) unnamed =
          let cells = cells-on v (unnamed-known types ty v unnamed) in (
            (λ h p on. (only-cell types a ty v p unnamed).0 (cells.0 h p on)),
            (λ h. cells.1 (λ p on. (only-cell types a ty v p unnamed).1 (h p on))),
          )
