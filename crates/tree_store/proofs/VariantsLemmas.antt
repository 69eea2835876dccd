-- What the parts for two variants mean.
use Rattle.std.proofs.Common.{ℕ, ◌<◌, ◌≤◌, ◌↔◌, List}
use Rattle.gta_theory.specs.Assignments.{Position, Assignment, IsFinite}
use Rattle.ws2s_core.specs.declared.formula.Formula.TheVariants.{And}
use Rattle.ws2s_core.specs.Satisfaction.{WSat}
use Rattle.ws2s_core.proofs.SatisfactionLemmas.{WSat-And, WSat-Not}
use Rattle.ws2s_forms.specs.Forms.{ex1}
use Rattle.ws2s_forms.specs.Places.{with_position}
use Rattle.ws2s_forms.proofs.LawsLemmas.{law-ex1}
use Rattle.store_core.specs.declared.ids.VariantId.{VariantId}
use Rattle.store_core.specs.Tables.{TypeEntry, VarEntry, variant_count}
use Rattle.tree_encode.specs.Tracks.{track_count}
use Rattle.tree_formula.specs.WellEncoded.{is_of, are_apart}
use Rattle.tree_store.specs.Shapes.{IsCellOf}
use Rattle.tree_store.proofs.StandingLemmas.{StandsOn, StandsOn-bound, is_of-means}

module _ (types : List TypeEntry) (vars : List VarEntry) (a : Assignment) (next : ℕ) (few : track_count types vars ≤ next) (finite : IsFinite a) where
  -- no position is a cell of both
  pub are_apart-means : (v w : VariantId) → v.index < variant_count types v.ty → w.index < variant_count types w.ty →
      WSat (are_apart next types v w) a ↔ ((p : Position) → IsCellOf types a v p → IsCellOf types a w p → ⊥)
  are_apart-means v w of_v of_w =
      let some = law-ex1 next (And (is_of types v next) (is_of types w next)) a in
      let not = WSat-Not (ex1 next (And (is_of types v next) (is_of types w next))) a in (
        (λ h p one other.
            not.0 h (some.1 (
              p,
              (WSat-And (is_of types v next) (is_of types w next) (with_position a next p)).1 (
                (is_of-means types vars a (with_position a next p) next p (bound p) v of_v).1 one,
                (is_of-means types vars a (with_position a next p) next p (bound p) w of_w).1 other,
              ),
            ))),
        (λ h. not.1 (λ found.
            let (p, holds) = some.0 found in
            let both = (WSat-And (is_of types v next) (is_of types w next) (with_position a next p)).0 holds in
            h p ((is_of-means types vars a (with_position a next p) next p (bound p) v of_v).0 both.0)
            ((is_of-means types vars a (with_position a next p) next p (bound p) w of_w).0 both.1))),
      )
    where
      bound : (p : Position) → StandsOn (track_count types vars) a (with_position a next p) next p
      bound p = StandsOn-bound (track_count types vars) a next p few finite
