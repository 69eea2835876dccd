-- Labels with at most one track.
use Rattle.std.proofs.Common.{◌≡◌, ℕ, Bool, true, false, if◌then◌else◌, List, Option, Some, slice_get}
use Rattle.std.proofs.Common.{unwrap_or, inl, inr, ap, sym, ◌∙◌, subst, eqb, eqb-true, eq-eqb}
use Rattle.std.specs.Prelude.{◌↔◌, IsTrue, nat_eq}
use Rattle.std.proofs.lemmas.Bool.{cases_Bool, eqb-false}
use Rattle.std.proofs.lemmas.Option.{slice_get_within}
use Rattle.labels.specs.Labels.{Label, HasAtMost}
use Rattle.gta_theory.specs.Guides.{Spaces}
use Rattle.gta_theory.specs.Automata.{Automaton}
use Rattle.cert_text.specs.declared.line.SettleLine.{SettleLine}
use Rattle.cert_theory.specs.Tables.{PlacedState, Lists}
use Rattle.cert_settled.specs.Settling.{alone, Settles}

pub at-most-alone : (t : ℕ) (bit : Bool) → HasAtMost t (alone t bit)
at-most-alone t bit u other = elim (cases_Bool (eqb u t)) as (λ _. alone t bit u ≡ false) [
  | inl same ↦ absurd (other (eqb-true u t same))
  | inr apart ↦ ap (λ (b : Bool). if b then bit else false) apart
]

pub alone-set : (t u : ℕ) (bit : Bool) → bit ≡ true → u ≡ t → alone t bit u ≡ true
alone-set t u bit set same = ap (λ (b : Bool). if b then bit else false) (eq-eqb u t same) ∙ set

pub alone-unset : (t u : ℕ) (bit : Bool) → bit ≡ false → alone t bit u ≡ false
alone-unset t u bit unset = elim (cases_Bool (eqb u t)) as (λ _. alone t bit u ≡ false) [
  | inl same ↦ ap (λ (b : Bool). if b then bit else false) same ∙ unset
  | inr apart ↦ ap (λ (b : Bool). if b then bit else false) apart
]

-- such a label has the track alone, or none
pub alone-label : (t : ℕ) (label : Label) → HasAtMost t label → label ≡ alone t (label t)
alone-label t label few = λ i u. at u i
  where
    at : (u : ℕ) → label u ≡ alone t (label t) u
    at u = elim (cases_Bool (eqb u t)) as (λ _. label u ≡ alone t (label t) u) [
      | inl same ↦ ap label (eqb-true u t same) ∙ sym (ap (λ (b : Bool). if b then label t else false) same)
      | inr apart ↦ few u (eqb-false u t apart) ∙ sym (ap (λ (b : Bool). if b then label t else false) apart)
    ]

-- the step of two states that are there
pub settles-by : (g : Spaces) (A : Automaton ℕ) (t : ℕ) (list : List PlacedState) (line : SettleLine) (l r x : ℕ) →
    slice_get g line.space ≡ Some (l, r) → Lists list l line.left × Lists list r line.right →
    x ≡ A.step line.space line.left line.right (alone t line.has_bound) → IsTrue (nat_eq x line.state) ↔ Settles g A t list line
settles-by g A t list line l r x children there is = (
  (λ holds. record {
    in_space = slice_get_within g line.space (l, r) children;
    has_left = subst (λ (n : ℕ). Lists list n line.left) (sym (ap (λ (o : Option (ℕ × ℕ)). (unwrap_or o (0, 0)).0) children)) there.0;
    has_right = subst (λ (n : ℕ). Lists list n line.right) (sym (ap (λ (o : Option (ℕ × ℕ)). (unwrap_or o (0, 0)).1) children)) there.1;
    is_step = sym is ∙ eqb-true x line.state holds;
  }),
  (λ settles. eq-eqb x line.state (is ∙ settles.is_step)),
)
