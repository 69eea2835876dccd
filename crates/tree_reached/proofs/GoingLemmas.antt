-- One step more around the others.
use Rattle.std.proofs.Common.{◌≡◌, ℕ, zero, suc, ◌+◌, ◌-◌, ◌<◌, ◌≤◌, List, Some, None, ap, ◌∙◌, subst, arith}
use Rattle.ws2s_core.specs.declared.formula.Formula.{Formula}
use Rattle.ws2s_core.specs.declared.formula.Formula.TheVariants.{And, Ex2}
use Rattle.ws2s_forms.specs.Forms.{track}
use Rattle.store_core.specs.declared.ids.TypeId.{TypeId}
use Rattle.store_core.specs.Tables.{TypeEntry}
use Rattle.tree_reached.specs.declared.ways.Way.{Way}
use Rattle.tree_reached.specs.ByField.{are_led, led_apart, are_led_by}
use Rattle.tree_reached.specs.Going.{set_before, with_step}

-- the set before a step that isn't the first
pub before-later : (next number own : ℕ) → 0 < number → own ≡ next + (number - 1) → Some own ≡ set_before next number
before-later next zero own some is = absurd (let none : ⊥ = omega (arith, some) in none)
before-later next (suc k) own some is = (let e : own ≡ next + k = omega (arith, is) in ap (λ (n : ℕ). Some n) e)

module _ (types : List TypeEntry) (ws : List Way) (gaps : List ℕ) (ty : TypeId) (next : ℕ) where
  -- the last step is all of them
  pub last-only : (last : ℕ) (f : Formula) → f ≡ are_led (next + last) types ws ty last (set_before next last) None →
      f ≡ are_led_by (next + last) types ws gaps ty last (last - last) (set_before next last)
  last-only last f is =
      let e : 0 ≡ last - last = omega arith in
      is ∙ ap (λ (n : ℕ). are_led_by (next + last) types ws gaps ty last n (set_before next last)) e

  -- one more around those from the next one on
  pub step-more : (last m left : ℕ) (f whole : Formula) → left ≡ suc m → left ≤ last →
      f ≡ are_led_by (next + left) types ws gaps ty left (last - left) (set_before next left) → whole ≡ with_step next types ws gaps ty m f →
      whole ≡ are_led_by (next + m) types ws gaps ty m (last - m) (set_before next m)
  step-more last m left f whole is few inner outer =
      let P : ℕ → Type 0 = λ n. f ≡ are_led_by (next + n) types ws gaps ty n (last - n) (set_before next n) in
      let inside : f ≡ are_led_by (next + suc m) types ws gaps ty (suc m) (last - suc m) (Some (next + m)) = subst P is inner in
      let further : next + suc m ≡ suc (next + m) = omega arith in
      let count : suc (last - suc m) ≡ last - m = omega (arith, is, few) in
      outer
      ∙ ap (λ (g : Formula). Ex2 (track (next + m))
      (And g (led_apart (next + m) m gaps (are_led (suc (next + m)) types ws ty m (set_before next m) (Some (next + m))))))
      (inside ∙ ap (λ (n : ℕ). are_led_by n types ws gaps ty (suc m) (last - suc m) (Some (next + m))) further)
      ∙ ap (λ (n : ℕ). are_led_by (next + m) types ws gaps ty m n (set_before next m)) count

  -- with no step left these are all
  pub steps-all : (last left : ℕ) (f : Formula) → left ≡ 0 → f ≡ are_led_by (next + left) types ws gaps ty left (last - left) (set_before next left) →
      f ≡ are_led_by next types ws gaps ty 0 last None
  steps-all last left f is built =
      let P : ℕ → Type 0 = λ n. f ≡ are_led_by (next + n) types ws gaps ty n (last - n) (set_before next n) in
      let at : f ≡ are_led_by (next + 0) types ws gaps ty 0 (last - 0) None = subst P is built in
      let first : next + 0 ≡ next = omega arith in
      let all : last - 0 ≡ last = omega arith in
      at ∙ ap (λ (n : ℕ). are_led_by n types ws gaps ty 0 (last - 0) None) first ∙ ap (λ (n : ℕ). are_led_by next types ws gaps ty 0 n None) all
