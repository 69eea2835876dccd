-- On tables of pairs: the value in the automaton that they lead to is where the parts' values go.
use Rattle.std.proofs.Common.{◌≡◌, ℕ, zero, suc, true, false, ◌&&◌, List, sym, ◌∙◌}
use Rattle.std.proofs.lemmas.Bool.{and_from, and_parts}
use mathlib.Core.Path.{transport}
use Rattle.labels.specs.Labels.{empty_label}
use Rattle.gta_theory.specs.Assignments.{Assignment, Covers, half, root_label}
use Rattle.gta_theory.specs.Guides.{Spaces, IsSpace, IsGuide, left, right}
use Rattle.gta_theory.specs.Automata.{Automaton, value, IsStable, Accepts}
use Rattle.gta_theory.proofs.AutomataLemmas.{Accepts-at}
use Rattle.ws2s_core.specs.declared.formula.Formula.{Formula}
use Rattle.ws2s_core.specs.declared.formula.Formula.TheVariants.{And}
use Rattle.ws2s_core.specs.Satisfaction.{WSat}
use Rattle.ws2s_core.specs.Recognising.{Recognises}
use Rattle.ws2s_core.proofs.SatisfactionLemmas.{WSat-And}
use Rattle.cert_theory.specs.Tables.{NamedPair, GoesTo, IsPairTable}

module _ (g : Spaces) (guide : IsGuide g) (A B C : Automaton ℕ) (table : List NamedPair) (is : IsPairTable g A B table C) where
  pub value-pair : (s n : ℕ) (a : Assignment) → IsSpace g s → GoesTo table s (value g A s n a) (value g B s n a) (value g C s n a)
  value-pair s zero a there = is.initial s there
  value-pair s (suc n) a there =
      is.step s _ _ _ _ _ _ (root_label a) there
      (value-pair (left g s) n (half false a) (guide.left_inside s there))
      (value-pair (right g s) n (half true a) (guide.right_inside s there))

  IsStable-paired : IsStable g A → IsStable g B → IsStable g C
  IsStable-paired of_A of_B = record {
    at = λ s there.
        let stepped = is.step s _ _ _ _ _ _ empty_label there
        (is.initial (left g s) (guide.left_inside s there)) (is.initial (right g s) (guide.right_inside s there)) in
        let same = transport (λ i. GoesTo table s (of_A.at s there i) (of_B.at s there i)
        (C.step s (C.initial (left g s)) (C.initial (right g s)) empty_label)) stepped in
        is.once s (A.initial s) (B.initial s) _ _ same (is.initial s there);
  }

  pub Recognises-pairs : (f h : Formula) → Recognises g A f → Recognises g B h → Recognises g C (And f h)
  Recognises-pairs f h of_A of_B = record {
    stable = IsStable-paired of_A.stable of_B.stable;
    exactly = λ n a covers. (there n a covers, back n a covers);
  }
    where
      both : (n : ℕ) (a : Assignment) →
          (A.accepting (value g A 0 n a) && B.accepting (value g B 0 n a)) ≡ C.accepting (value g C 0 n a)
      both n a = is.accepting _ _ _ (value-pair 0 n a guide.not_empty)

      there : (n : ℕ) (a : Assignment) → Covers n a → Accepts g C a → WSat (And f h) a
      there n a covers accepts =
          let parts = and_parts _ _ (both accepts.depth a ∙ accepts.accepted) in
          (WSat-And f h a).1 (
            (of_A.exactly n a covers).0 (record { depth = accepts.depth; covers = accepts.covers; accepted = parts.0 }),
            (of_B.exactly n a covers).0 (record { depth = accepts.depth; covers = accepts.covers; accepted = parts.1 }),
          )

      back : (n : ℕ) (a : Assignment) → Covers n a → WSat (And f h) a → Accepts g C a
      back n a covers sat =
          let parts = (WSat-And f h a).0 sat in
          record {
            depth = n;
            covers = covers;
            accepted = sym (both n a) ∙ and_from _ _
                (Accepts-at g guide A of_A.stable n a covers ((of_A.exactly n a covers).1 parts.0))
                (Accepts-at g guide B of_B.stable n a covers ((of_B.exactly n a covers).1 parts.1));
          }
