-- What it says that a set shares no position with those of earlier steps.
use Rattle.std.proofs.Common.{◌≡◌, ℕ, suc, ◌<◌, ◌≤◌, ◌-◌, IsTrue, List, [], ◌∷◌, flat_map, Contains, sym, ap, ◌∙◌, subst, arith}
use Rattle.std.specs.Prelude.{nat_le}
use Rattle.std.proofs.lemmas.Bool.{leb-true}
use Rattle.gta_theory.specs.Assignments.{Position, PositionSet, Assignment, IsFinite, IsOnly, replace}
use Rattle.gta_theory.proofs.AssignmentsLemmas.{replace-same, replace-other}
use Rattle.gta_theory.proofs.ListsLemmas.{Contains-none}
use Rattle.ws2s_core.specs.declared.formula.Formula.{Formula}
use Rattle.ws2s_core.specs.declared.formula.Formula.TheVariants.{Sub, And, Not}
use Rattle.ws2s_core.specs.Satisfaction.{WSat}
use Rattle.ws2s_core.proofs.SatisfactionLemmas.{WSat-And, WSat-Not}
use Rattle.ws2s_forms.specs.Forms.{track, or_list, ex1}
use Rattle.ws2s_forms.specs.Places.{just, with_position}
use Rattle.ws2s_forms.proofs.LawsLemmas.{law-ex1, law-or_list, law-member, IsFinite-position}
use Rattle.ws2s_forms.proofs.PositionsLemmas.{IsOnly-just}
use Rattle.tree_store.proofs.ListsLemmas.{flat_map-inside, cond-inside}
use Rattle.tree_reached.specs.ByField.{is_earlier, apart_from, led_apart}
use Rattle.tree_reached.proofs.BeginsLemmas.{not_same}

-- what is kept apart is satisfied
pub from-apart : (own : ℕ) (parts : List Formula) (led : Formula) (b : Assignment) → WSat (apart_from own parts led) b → WSat led b
from-apart own [] led b sat = sat
from-apart own (part ∷ parts) led b sat =
    let inner = And (Sub (track (suc own)) (track own)) (or_list (suc (suc own)) (part ∷ parts)) in
    ((WSat-And led (Not (ex1 (suc own) inner)) b).0 sat).0

module _ (own : ℕ) (b : Assignment) (finite : IsFinite b) where
  only-there : (q : Position) → IsOnly (with_position b (suc own) q (suc own)) q
  only-there q = subst (λ (set : PositionSet). IsOnly set q) (sym (replace-same b (suc own) (just q))) (IsOnly-just q)

  on-track : (w : ℕ) (q : Position) → w < suc own → WSat (Sub (track (suc own)) (track w)) (with_position b (suc own) q) → IsTrue (b w q)
  on-track w q before sat =
      subst (λ (set : PositionSet). IsTrue (set q)) (replace-other b (suc own) w (just q) (not_same w (suc own) before))
      ((law-member (suc own) w (with_position b (suc own) q) q (only-there q)).0 sat)

  to-apart : (parts : List Formula) (led : Formula) → WSat led b →
      ((q : Position) → IsTrue (b own q) → (part : Formula) → Contains parts part → WSat part (with_position b (suc own) q) → ⊥) →
      WSat (apart_from own parts led) b
  to-apart [] led sat none = sat
  to-apart (part ∷ parts) led sat none =
      let inside = Sub (track (suc own)) (track own) in
      let earlier = or_list (suc (suc own)) (part ∷ parts) in
      (WSat-And led (Not (ex1 (suc own) (And inside earlier))) b).1 (
        sat,
        (WSat-Not (ex1 (suc own) (And inside earlier)) b).1 (λ some.
            let (q, holds) = (law-ex1 (suc own) (And inside earlier) b).0 some in
            let c = with_position b (suc own) q in
            let both = (WSat-And inside earlier c).0 holds in
            let (f, listed, here) = (law-or_list (suc (suc own)) (part ∷ parts) c (IsFinite-position b (suc own) q finite)).0 both.1 in
            let below : own < suc own = omega arith in
            none q (on-track own q below both.0) f listed here),
      )

  -- where no position is in the set and in that of a step which is a gap before
  pub kept-apart : (k : ℕ) (gs : List ℕ) (led : Formula) → k ≤ own → WSat led b →
      ((q : Position) → IsTrue (b own q) → (gap : ℕ) → Contains gs gap → gap ≤ k → IsTrue (b (own - gap) q) → ⊥) →
      WSat (led_apart own k gs led) b
  kept-apart k gs led few sat none =
      to-apart (flat_map (is_earlier own (suc own) k) gs) led sat (λ q on part among holds.
      let (gap, listed, of_gap) = flat_map-inside (is_earlier own (suc own) k) gs part among in
      let (within, is) = cond-inside (nat_le gap k) (Sub (track (suc own)) (track (own - gap))) part of_gap in
      let before : own - gap < suc own = omega arith in
      none q on gap listed (leb-true gap k within)
      (on-track (own - gap) q before (subst (λ (f : Formula). WSat f (with_position b (suc own) q)) (sym is) holds)))
