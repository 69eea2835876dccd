-- On what is needed at most: over each step it holds of the stack after it, whose automata are among what the step needs.
use Rattle.std.proofs.Common.{◌≡◌, ℕ, ◌+◌, ◌≤◌, max, List, [], ◌∷◌, refl, sym, ◌∙◌, ap, subst, arith}
use Rattle.std.proofs.Math.Nat.{le-max_right}
use Rattle.labels.specs.Labels.{Function, with_below}
use Rattle.gta_theory.specs.Guides.{Spaces, IsGuide}
use Rattle.gta_theory.specs.Automata.{Automaton, Has}
use Rattle.gta_theory.specs.Constructions.{complement}
use Rattle.gta_theory.specs.Sizes.{IsPart}
use Rattle.gta_theory.proofs.AlikeLemmas.{IsMinimal-complement}
use Rattle.ws2s_core.specs.declared.track.Track.{Track}
use Rattle.ws2s_core.specs.declared.formula.Formula.{Formula}
use Rattle.ws2s_core.specs.declared.formula.Formula.TheVariants.{And, Not, Ex2}
use Rattle.ws2s_core.proofs.FormulaLemmas.{formula-induction}
use Rattle.ws2s_core.proofs.RecognisingLemmas.{Recognises-Not}
use Rattle.ws2s_theory.specs.Peaks.{HasMinimalSize, HasPeak}
use Rattle.ws2s_theory.proofs.PeaksLemmas.{HasPeak-Sub, HasPeak-Single, HasPeak-Succ0, HasPeak-Succ1, HasPeak-Root, HasPeak-And, HasPeak-Not, HasPeak-Ex2}
use Rattle.ws2s_theory.proofs.PeaksLemmas.{HasPeak-exists}
use Rattle.ws2s_theory.proofs.SizesLemmas.{HasMinimalSize-exists, HasProductSize-exists, HasSubsetSize-exists, HasMinimalSize-unique}
use Rattle.ws2s_decide.specs.Tasks.{Step, visit, negate, conjoin, quantify, HasSum, more, Fits}

module _ (g : Spaces) (guide : IsGuide g) where
  -- with the same steps the parts of tables are the same
  IsPart-same : (A C : Automaton ℕ) (has : ℕ → ℕ → Type 0) → ((t p q : ℕ) → C.step t p q ≡ A.step t p q) → (s : ℕ) (f : Function) →
      IsPart g A has s f → IsPart g C has s f
  IsPart-same A C has same s f part =
      let under = part.under in
      record {
        under = record {
          at_left = under.at_left;
          at_right = under.at_right;
          in_left = under.in_left;
          in_right = under.in_right;
          below = under.below;
          fixed = under.fixed;
          states = λ label. under.states label
              ∙ sym (ap (λ (step : Function). step (with_below under.below under.fixed label)) (same s under.at_left under.at_right));
        };
        varied = part.varied;
      }

  -- a negation has the Size of its part
  HasMinimalSize-Not : (f : Formula) (n : ℕ) → HasMinimalSize g f n → HasMinimalSize g (Not f) n
  HasMinimalSize-Not f n of_f = record {
    automaton = complement of_f.automaton;
    states = of_f.states;
    is_minimal = record {
      minimal = IsMinimal-complement g guide of_f.automaton (Has of_f.states) (of_f.is_minimal).minimal;
      recognises = Recognises-Not g guide of_f.automaton f (of_f.is_minimal).recognises;
    };
    is_size = record {
      sizes = (of_f.is_size).sizes;
      in_space = λ s there.
          let size = (of_f.is_size).in_space s there in
          record {
            pairs = size.pairs;
            parts = size.parts;
            all_pairs = size.all_pairs;
            all_parts = record {
              every = λ part is. (size.all_parts).every part
                  (IsPart-same (complement of_f.automaton) of_f.automaton (Has of_f.states) (λ t p q. refl) s part is);
              only = λ part there. IsPart-same of_f.automaton (complement of_f.automaton) (Has of_f.states) (λ t p q. refl) s part
                  ((size.all_parts).only part there);
              once = (size.all_parts).once;
            };
            is_sum = size.is_sum;
          };
      is_sum = (of_f.is_size).is_sum;
    };
  }

  size-Not : (f : Formula) (n : ℕ) → HasMinimalSize g (Not f) n → HasMinimalSize g f n
  size-Not f n of_Not =
      let size = HasMinimalSize-exists g guide f in
      subst (HasMinimalSize g f) (HasMinimalSize-unique g guide (Not f) size.0 n (HasMinimalSize-Not f size.0 size.1) of_Not) size.1

  -- the Size is no more than the peak
  abbrev IsInPeak : Formula → Type 0
  IsInPeak f = (n p : ℕ) → HasMinimalSize g f n → HasPeak g f p → n ≤ p

  of_atom : (f : Formula) → ((p : ℕ) → HasPeak g f p → HasMinimalSize g f p) → IsInPeak f
  of_atom f peak n p size has = (let same = HasMinimalSize-unique g guide f n p size (peak p has) in omega (arith, same))

  size-le-peak : (f : Formula) → IsInPeak f
  size-le-peak = formula-induction IsInPeak (record {
    of_Sub = λ x y. of_atom _ (λ p. (HasPeak-Sub g x y p).0);
    of_Single = λ x. of_atom _ (λ p. (HasPeak-Single g x p).0);
    of_Succ0 = λ x y. of_atom _ (λ p. (HasPeak-Succ0 g x y p).0);
    of_Succ1 = λ x y. of_atom _ (λ p. (HasPeak-Succ1 g x y p).0);
    of_Root = λ x. of_atom _ (λ p. (HasPeak-Root g x p).0);
    of_And = λ f h of_f of_h n p size has.
        let cases = (HasPeak-And g f h p).0 has in
        let same = HasMinimalSize-unique g guide (And f h) n cases.size_result size cases.of_result in
        let all = cases.size_first + cases.size_second + cases.size_product + cases.size_result in
        let outer = le-max_right cases.peak_first (max (cases.size_first + cases.peak_second) all) in
        let inner = le-max_right (cases.size_first + cases.peak_second) all in
        omega (arith, same, outer, inner, cases.is_greatest);
    of_Not = λ f of_f n p size has. of_f n p (size-Not f n size) ((HasPeak-Not g f p).0 has);
    of_Ex2 = λ t f of_f n p size has.
        let cases = (HasPeak-Ex2 g t f p).0 has in
        let same = HasMinimalSize-unique g guide (Ex2 t f) n cases.size_result size cases.of_result in
        let greatest = le-max_right cases.peak_part (cases.size_part + cases.size_subset + cases.size_result) in
        omega (arith, same, greatest, cases.is_greatest);
  })

  module _ (n : ℕ) (steps : List Step) (stack : List Formula) where
    pub fits-visit : (f : Formula) → Fits g n (visit f ∷ steps) stack → Fits g n steps (f ∷ stack)
    fits-visit f fits = record { waiting = waiting; within = (fits.within).1 }
      where
        waiting : (s : ℕ) → HasSum g (f ∷ stack) s → s ≤ n
        waiting total (more _ _ m s size sum) =
            let peak = HasPeak-exists g guide f in
            let whole = (fits.within).0 s peak.0 sum peak.1 in
            let less = size-le-peak f m peak.0 size peak.1 in
            omega (arith, whole, less)

    pub fits-negate : (f : Formula) → Fits g n (negate ∷ steps) (f ∷ stack) → Fits g n steps (Not f ∷ stack)
    fits-negate f fits = record { waiting = waiting; within = fits.within }
      where
        waiting : (s : ℕ) → HasSum g (Not f ∷ stack) s → s ≤ n
        waiting total (more _ _ m s size sum) = fits.waiting (m + s) (more f stack m s (size-Not f m size) sum)

    pub fits-conjoin : (whole f h : Formula) → whole ≡ And f h → Fits g n (conjoin whole ∷ steps) (h ∷ f ∷ stack) → Fits g n steps (whole ∷ stack)
    fits-conjoin whole f h is fits = record { waiting = waiting; within = (fits.within).1 }
      where
        waiting : (s : ℕ) → HasSum g (whole ∷ stack) s → s ≤ n
        waiting total (more _ _ m s size sum) =
            let first = HasMinimalSize-exists g guide f in
            let second = HasMinimalSize-exists g guide h in
            let product = HasProductSize-exists g guide f h in
            let result = subst (λ (w : Formula). HasMinimalSize g w m) is size in
            let all = (fits.within).0 s first.0 second.0 product.0 m sum first.1 second.1 product.1 result in
            omega (arith, all)

    pub fits-quantify : (t : Track) (whole f : Formula) → whole ≡ Ex2 t f → Fits g n (quantify t whole ∷ steps) (f ∷ stack) → Fits g n steps (whole ∷ stack)
    fits-quantify t whole f is fits = record { waiting = waiting; within = (fits.within).1 }
      where
        waiting : (s : ℕ) → HasSum g (whole ∷ stack) s → s ≤ n
        waiting total (more _ _ m s size sum) =
            let part = HasMinimalSize-exists g guide f in
            let subset = HasSubsetSize-exists g guide t f in
            let result = subst (λ (w : Formula). HasMinimalSize g w m) is size in
            let all = (fits.within).0 s part.0 subset.0 m sum part.1 subset.1 result in
            omega (arith, all)

-- no automata need nothing
pub none-waits : (g : Spaces) (n s : ℕ) → HasSum g [] s → s ≤ n
none-waits g n s HasSum.none = omega arith
