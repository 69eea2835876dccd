-- On lists of settled states, and on starting sets that are too large.
use Rattle.std.proofs.lemmas.Option.{slice_get-get_or}
use Rattle.std.proofs.Common.{◌≡◌, ℕ, zero, suc, ◌<◌, inl, inr, ◌↔◌, List, Option, Some, slice_get, ap, subst, ◌∙◌, arith}
use Rattle.gta_theory.specs.Guides.{Spaces, left, right}
use Rattle.gta_theory.specs.Automata.{Automaton}
use Rattle.gta_theory.specs.Constructions.{Settled, starts, steps}
use Rattle.cert_theory.specs.Tables.{PlacedState, Lists, IsSettledList}

module _ (g : Spaces) (A : Automaton ℕ) (t : ℕ) (list : List PlacedState) (is : IsSettledList g A t list) where
  lists-settled : (s q : ℕ) → Settled g A t s q → Lists list s q
  lists-settled _ _ (starts s there) = is.initial s there
  lists-settled _ _ (steps s p r label there at_most in_l in_r) =
      is.closed s p r label there at_most (lists-settled (left g s) p in_l) (lists-settled (right g s) r in_r)

  settled-before : (fuel k s q : ℕ) → k < fuel → slice_get list k ≡ Some (record { space = s; state = q }) → Settled g A t s q
  settled-before zero k s q below at = absurd (omega arith)
  settled-before (suc fuel) k s q below at =
      let h = is.from_before k s q at in
      elim h.1 as (λ _. Settled g A t s q) [
        | inl same ↦ subst (Settled g A t s) same (starts s h.0)
        | inr step ↦ subst (Settled g A t s) step.is_step (steps s step.p step.r step.label h.0 step.at_most
            (settled-before fuel step.first (left g s) step.p (omega (arith, step.first_before)) step.is_first)
            (settled-before fuel step.second (right g s) step.r (omega (arith, step.second_before)) step.is_second))
      ]

  pub settled-lists : (s q : ℕ) → Lists list s q ↔ Settled g A t s q
  settled-lists s q = (
    (λ inside. settled-before (suc inside.0) inside.0 s q (omega arith) (found inside)),
    (λ settled. lists-settled s q settled),
  )
    where
      found : (inside : Lists list s q) → slice_get list inside.0 ≡ Some (record { space = s; state = q })
      found inside =
          slice_get-get_or list inside.0 (record { space = s; state = q }) inside.1
          ∙ ap (λ (y : PlacedState). let o : Option PlacedState = Some y in o) inside.2
