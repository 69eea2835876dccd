-- Labels with a track set, or with the tracks below some number fixed.
use Rattle.std.proofs.Common.{◌≡◌, ◌≢◌, ℕ, suc, ◌<◌, ◌≤◌, Bool, true, false, cond, eqb, if◌then◌else◌, sym, ◌∙◌, ap, refl, inl, inr, arith, eqb-true}
use Rattle.std.proofs.lemmas.Bool.Decides.{nat_tests}
use Rattle.std.proofs.lemmas.Bool.{cases_lt, eqb-false, lt-ltb, le-ltb}
use mathlib.Core.Path.{fun_ext}
use Rattle.labels.specs.Labels.{Label, empty_label, with_track, with_below, HasAtMost}

pub with_track-same : (label : Label) (t : ℕ) (bit : Bool) → with_track label t bit t ≡ bit
with_track-same label t bit = grind (arith, nat_tests)

pub with_track-later : (label : Label) (t u : ℕ) (bit : Bool) → suc t ≤ u → with_track label t bit u ≡ label u
with_track-later label t u bit later = grind (arith, nat_tests)

pub with_track-other : (label : Label) (t u : ℕ) (bit : Bool) → u ≢ t → with_track label t bit u ≡ label u
with_track-other label t u bit other = grind (arith, nat_tests)

-- what is fixed below the number
pub with_below-under : (t : ℕ) (fixed label : Label) (u : ℕ) → u < t → with_below t fixed label u ≡ fixed u
with_below-under t fixed label u under = ap (λ (b : Bool). if b then fixed u else label u) (lt-ltb u t under)

-- what is left from the number on
pub with_below-from : (t : ℕ) (fixed label : Label) (u : ℕ) → t ≤ u → with_below t fixed label u ≡ label u
with_below-from t fixed label u from = ap (λ (b : Bool). if b then fixed u else label u) (le-ltb u t from)

-- one track more is fixed
abbrev pub fixed_with : ℕ → Label → ℕ → Bool → Label
fixed_with t fixed track bit = with_below t fixed (λ u. bit)

-- with the tracks up to this one fixed as before and this one by the bit, the fixed part is the same
pub with_below-with_below : (t : ℕ) (fixed label : Label) (track : ℕ) (bit : Bool) → t ≤ track → (u : ℕ) →
    with_below t fixed (with_below (suc track) (fixed_with t fixed track bit) label) u
    ≡ with_below (suc track) (fixed_with t fixed track bit) label u
with_below-with_below t fixed label track bit within u = elim (cases_lt u t) [
  | inl under ↦ with_below-under t fixed (with_below (suc track) (fixed_with t fixed track bit) label) u under
      ∙ sym (with_below-under t fixed (λ v. bit) u under)
      ∙ sym (with_below-under (suc track) (fixed_with t fixed track bit) label u (omega arith))
  | inr from ↦ with_below-from t fixed (with_below (suc track) (fixed_with t fixed track bit) label) u from
]

pub with_below-at : (t : ℕ) (fixed label : Label) (track : ℕ) (bit : Bool) → t ≤ track → with_below (suc track) (fixed_with t fixed track bit) label track ≡ bit
with_below-at t fixed label track bit within =
    with_below-under (suc track) (fixed_with t fixed track bit) label track (omega arith) ∙ with_below-from t fixed (λ v. bit) track within

-- a track below the number doesn't matter
pub with_below-with_track : (t : ℕ) (fixed label : Label) (track : ℕ) (bit : Bool) → track < t → (u : ℕ) →
    with_below t fixed (with_track label track bit) u ≡ with_below t fixed label u
with_below-with_track t fixed label track bit within u = elim (cases_lt u t) [
  | inl under ↦ with_below-under t fixed (with_track label track bit) u under ∙ sym (with_below-under t fixed label u under)
  | inr from ↦ with_below-from t fixed (with_track label track bit) u from
      ∙ with_track-later label track u bit (omega arith)
      ∙ sym (with_below-from t fixed label u from)
]

-- a label with at most one track is the empty one with that track as it stands
pub with_track-at_most : (t : ℕ) (label : Label) → HasAtMost t label → with_track empty_label t (label t) ≡ label
with_track-at_most t label at_most = fun_ext (λ u. pick u (eqb u t) refl)
  where
    pick : (u : ℕ) (b : Bool) → eqb u t ≡ b → cond b (label t) false ≡ label u
    pick u true is = ap label (sym (eqb-true u t is))
    pick u false is = sym (at_most u (eqb-false u t is))

pub HasAtMost-with_track : (t : ℕ) (bit : Bool) → HasAtMost t (with_track empty_label t bit)
HasAtMost-with_track t bit u other = pick (eqb u t) refl
  where
    pick : (b : Bool) → eqb u t ≡ b → cond b bit false ≡ false
    pick true is = absurd (other (eqb-true u t is))
    pick false is = refl
