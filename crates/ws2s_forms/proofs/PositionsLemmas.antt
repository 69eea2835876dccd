-- Positions on tracks: sets of one position, and quantifiers over them.
use Rattle.std.proofs.Common.{◌≡◌, ◌≢◌, ℕ, suc, ◌<◌, true, false, IsTrue, ◌↔◌, [], ◌∷◌, length, refl, sym, ap, ◌∙◌, subst, arith}
use Rattle.gta_theory.specs.Assignments.{Position, PositionSet, Assignment, IsFiniteSet, IsOnly, replace, is_same_position}
use Rattle.gta_theory.proofs.AssignmentsLemmas.{replace-same, replace-other}
use Rattle.ws2s_core.specs.declared.formula.Formula.{Formula}
use Rattle.ws2s_core.specs.declared.formula.Formula.TheVariants.{Single, And, Ex2}
use Rattle.ws2s_core.specs.Satisfaction.{WSat}
use Rattle.ws2s_core.proofs.ExamplesLemmas.{same_position-true, same_position-refl}
use Rattle.ws2s_core.proofs.SatisfactionLemmas.{WSat-Single, WSat-And, WSat-Ex2}
use Rattle.ws2s_forms.specs.Forms.{track, ex1}
use Rattle.ws2s_forms.specs.Places.{just}

pub IsOnly-just : (u : Position) → IsOnly (just u) u
IsOnly-just u p = (
  (λ h. sym (same_position-true u p h)),
  (λ e. ap (λ q. is_same_position u q) e ∙ same_position-refl u),
)

same_position-longer : (u p : Position) → length u < length p → is_same_position u p ≡ false
same_position-longer [] [] deep = absurd (omega arith)
same_position-longer [] (c ∷ p) deep = refl
same_position-longer (b ∷ u) [] deep = absurd (omega arith)
same_position-longer (true ∷ u) (true ∷ p) deep = same_position-longer u p (omega arith)
same_position-longer (true ∷ u) (false ∷ p) deep = refl
same_position-longer (false ∷ u) (true ∷ p) deep = refl
same_position-longer (false ∷ u) (false ∷ p) deep = same_position-longer u p (omega arith)

pub IsFiniteSet-just : (u : Position) → IsFiniteSet (just u)
IsFiniteSet-just u = (suc (length u), λ p deep. same_position-longer u p (omega arith))

-- the one position is in the set, and no set has two
pub IsOnly-inside : (set : PositionSet) (u : Position) → IsOnly set u → IsTrue (set u)
IsOnly-inside set u only = (only u).1 refl

pub IsOnly-same : (set : PositionSet) (u w : Position) → IsOnly set u → IsOnly set w → u ≡ w
IsOnly-same set u w only other = (other u).0 (IsOnly-inside set u only)

pub IsOnly-along : (set : PositionSet) (u w : Position) → u ≡ w → IsOnly set u → IsOnly set w
IsOnly-along set u w e only = subst (λ v. IsOnly set v) e only

-- on the track that was bound
pub bound_same : (a : Assignment) (next : ℕ) (set : PositionSet) (w : Position) → IsOnly (replace a next set next) w ↔ IsOnly set w
bound_same a next set w = (
  (λ h. subst (λ s. IsOnly s w) (replace-same a next set) h),
  (λ h. subst (λ s. IsOnly s w) (sym (replace-same a next set)) h),
)

-- on another track
pub bound_other : (a : Assignment) (next t : ℕ) (set : PositionSet) (w : Position) → t < next → IsOnly (replace a next set t) w ↔ IsOnly (a t) w
bound_other a next t set w below = (
  (λ h. subst (λ s. IsOnly s w) (replace-other a next t set other) h),
  (λ h. subst (λ s. IsOnly s w) (sym (replace-other a next t set other)) h),
)
  where
    other : t ≢ next
    other e = let k : ⊥ = omega (arith, below) in k

-- some position is on the next track, and the rest holds
pub WSat-ex1 : (next : ℕ) (f : Formula) (a : Assignment) (P : Position → Type 0) →
    ((set : PositionSet) (u : Position) → IsOnly set u → WSat f (replace a next set) ↔ P u) →
    WSat (ex1 next f) a ↔ ((u : Position) × P u)
WSat-ex1 next f a P rest = (
  (λ h.
      let set = (WSat-Ex2 (track next) (And (Single (track next)) f) a).0 h in
      let both = (WSat-And (Single (track next)) f (replace a next set.0)).0 set.2 in
      let one = (WSat-Single (track next) (replace a next set.0)).0 both.0 in
      (one.0, (rest set.0 one.0 ((bound_same a next set.0 one.0).0 one.1)).0 both.1)),
  (λ h.
      (WSat-Ex2 (track next) (And (Single (track next)) f) a).1 (
        just h.0,
        IsFiniteSet-just h.0,
        (WSat-And (Single (track next)) f (replace a next (just h.0))).1 (
          (WSat-Single (track next) (replace a next (just h.0))).1
              (h.0, (bound_same a next (just h.0) h.0).1 (IsOnly-just h.0)),
          (rest (just h.0) h.0 (IsOnly-just h.0)).1 h.1,
        ),
      )),
)

-- the next track is that position, and the rest holds
pub WSat-ex_at : (next : ℕ) (f g : Formula) (a : Assignment) (w : Position) (P : Type 0) →
    ((set : PositionSet) → WSat f (replace a next set) ↔ IsOnly set w) →
    ((set : PositionSet) → IsOnly set w → WSat g (replace a next set) ↔ P) →
    WSat (Ex2 (track next) (And f g)) a ↔ P
WSat-ex_at next f g a w P at rest = (
  (λ h.
      let set = (WSat-Ex2 (track next) (And f g) a).0 h in
      let both = (WSat-And f g (replace a next set.0)).0 set.2 in
      (rest set.0 ((at set.0).0 both.0)).0 both.1),
  (λ h.
      (WSat-Ex2 (track next) (And f g) a).1 (
        just w,
        IsFiniteSet-just w,
        (WSat-And f g (replace a next (just w))).1 (
          (at (just w)).1 (IsOnly-just w),
          (rest (just w) (IsOnly-just w)).1 h,
        ),
      )),
)
