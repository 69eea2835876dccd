-- On the worked Peaks 13 and 14: some set has one position, and several such formulas together, under the plain guide.
use Rattle.std.proofs.Common.{◌≡◌, zero, suc, max, ◌+◌, ◌≢◌, ℕ, Bool, true, false, IsTrue, ◌⊎◌, inl, [], ◌∷◌, refl, subst, cond, eq-eqb}
use Rattle.std.proofs.lemmas.Bool.{ltb-true}
use Rattle.labels.specs.Labels.{Label, empty_label, with_track}
use Rattle.labels.proofs.LabelsLemmas.{HasAtMost-with_track}
use Rattle.gta_theory.specs.Automata.{Automaton}
use Rattle.gta_theory.specs.Constructions.{pairs, IsReached, IsClosed, IsNaming, IsProduct, IsSubset, Settled, IsStepOf, HasAccepting}
use Rattle.gta_theory.specs.Generated.{Generated}
use Rattle.gta_theory.specs.Sizes.{SizeOf}
use Rattle.gta_theory.proofs.AutomataLemmas.{IsStable-pairs}
use Rattle.gta_theory.proofs.GeneratedLemmas.{IsReached-generated}
use Rattle.ws2s_core.specs.declared.track.Track.{Track}
use Rattle.ws2s_core.specs.declared.formula.Formula.{Formula}
use Rattle.ws2s_core.specs.declared.formula.Formula.TheVariants.{Single, And, Ex2}
use Rattle.ws2s_core.specs.Recognising.{Recognises, IsMinimalOf}
use Rattle.ws2s_core.specs.Examples.{track}
use Rattle.ws2s_core.proofs.RecognisingLemmas.{Recognises-And, Recognises-Ex2, Recognises-classes}
use Rattle.ws2s_theory.specs.Atoms.{SingleState, nothing, one, more, single_step, single_automaton}
use Rattle.ws2s_theory.specs.Peaks.{HasMinimalSize, HasProductSize, HasPeak}
use Rattle.ws2s_theory.specs.Worked.{plain, some_each}
use Rattle.ws2s_theory.proofs.FormsLemmas.{decide-single}
use Rattle.ws2s_theory.proofs.PeaksLemmas.{HasPeak-Single, HasPeak-And, HasPeak-Ex2}
use Rattle.ws2s_theory.proofs.SizesLemmas.{HasMinimalSize-of, HasProductSize-of, HasSubsetSize-of}
use Rattle.ws2s_theory.proofs.TestedSizesLemmas.{SizeOf-tested}
use Rattle.ws2s_theory.proofs.TestsLemmas.{Any}
use Rattle.ws2s_theory.proofs.WorkedLemmas.{plain-guide, zero-there, at-zero, minimal-all, minimal-single}
use Rattle.ws2s_theory.proofs.WorkedLemmas.{HasMinimalSize-single}

-- the automaton with one state, which accepts all
abbrev Sure : Automaton (Unit {0})
Sure = record { initial = λ s. tt; step = λ s p q label. tt; accepting = λ q. true }

decide-unit : (p q : Unit {0}) → (p ≡ q) ⊎ (p ≢ q)
decide-unit p q = inl refl

start-sure : (q : Unit {0}) → Generated plain Sure 0 q
start-sure q = Rattle.gta_theory.specs.Generated.starts 0 zero-there

reached-sure : IsReached plain Sure Any
reached-sure = IsReached-generated plain plain-guide Sure (record { at = λ s there. refl }) Any
    (record { initial = λ s there. tt; step = λ s p q label there in_p in_q. tt })
    (record { state = λ s q there h. at-zero (λ k. Generated plain Sure k q) (start-sure q) s there })

minimal-sure : (f : Formula) → Recognises plain Sure f → IsMinimalOf plain Sure Any f
minimal-sure f of_f = minimal-all Sure f of_f start-sure (λ p q differ. absurd (differ refl))

size-sure : SizeOf plain Sure Any 1
size-sure = SizeOf-tested (λ q. 0) (λ p q e. refl) Sure Any (tt ∷ []) (λ q is. (0, ltb-true 0 1 refl, refl)) (λ q h. tt) 0
    (λ p q l m same. refl) [] refl 1 refl

HasMinimalSize-sure : (f : Formula) → Recognises plain Sure f → HasMinimalSize plain f 1
HasMinimalSize-sure f of_f = HasMinimalSize-of plain plain-guide decide-unit f Sure Any (minimal-sure f of_f) 1 size-sure

-- the product of two such
abbrev Two : Automaton (Unit {0} × Unit {0})
Two = pairs Sure Sure

two-product : IsProduct plain Sure Sure Two Any (λ s z. z)
two-product = record {
  reached = IsReached-generated plain plain-guide Two
      (IsStable-pairs plain Sure Sure (record { at = λ s there. refl }) (record { at = λ s there. refl })) Any
      (record { initial = λ s there. tt; step = λ s p q label there in_p in_q. tt })
      (record { state = λ s q there h. at-zero (λ k. Generated plain Two k q) (Rattle.gta_theory.specs.Generated.starts 0 zero-there) s there });
  naming = record { initial = λ s there. refl; step = λ s z w label there in_z in_w. refl; accepting = λ z is. refl };
  once = record { once = λ s z w there in_z in_w same. same };
}

size-two : SizeOf plain Two Any 1
size-two = SizeOf-tested (λ z. 0) (λ p q e. refl) Two Any ((tt, tt) ∷ []) (λ z is. (0, ltb-true 0 1 refl, refl)) (λ z h. tt) 0
    (λ p q l m same. refl) [] refl 1 refl

sure-And : (f h : Formula) → Recognises plain Sure f → Recognises plain Sure h → Recognises plain Sure (And f h)
sure-And f h of_f of_h = Recognises-classes plain plain-guide Two (And f h)
    (Recognises-And plain plain-guide Sure f of_f Sure h of_h Two Any (λ s z. z) two-product) Any Sure (λ s z. tt) two-product.reached
    (record { initial = λ s there. refl; step = λ s z w label there in_z in_w. refl; accepting = λ z is. refl })

HasProductSize-sure : (f h : Formula) → Recognises plain Sure f → Recognises plain Sure h → HasProductSize plain f h 1
HasProductSize-sure f h of_f of_h = HasProductSize-of plain plain-guide decide-unit decide-unit f h Sure Any Sure Any Two Any (λ s z. z)
    (minimal-sure f of_f) (minimal-sure h of_h) two-product 1 size-two

-- some set has one position
module _ (x : Track) where
  abbrev Some : Formula
  Some = Ex2 x (Single x)

  abbrev One : Automaton SingleState
  One = single_automaton x.0

  bit-at : (label : Label) (bit : Bool) → with_track label x.0 bit x.0 ≡ bit
  bit-at label bit = λ i. cond (eq-eqb x.0 x.0 refl i) bit (label x.0)

  settled-start : Settled plain One x.0 0 nothing
  settled-start = Rattle.gta_theory.specs.Constructions.starts 0 zero-there

  settled-one : Settled plain One x.0 0 one
  settled-one = subst (Settled plain One x.0 0) (λ i. single_step nothing nothing (bit-at empty_label true i))
      (Rattle.gta_theory.specs.Constructions.steps 0 nothing nothing (with_track empty_label x.0 true) zero-there
      (HasAtMost-with_track x.0 true) settled-start settled-start)

  settled-all : (q : SingleState) → Settled plain One x.0 0 q
  settled-all nothing = settled-start
  settled-all one = settled-one
  settled-all more = Rattle.gta_theory.specs.Constructions.steps 0 one one (with_track empty_label x.0 true) zero-there
      (HasAtMost-with_track x.0 true) settled-one settled-one

  abbrev All-members : ℕ → Unit {0} → SingleState → Type 0
  All-members s z q = IsTrue true

  step-of : (s : ℕ) (label : Label) (q : SingleState) → IsStepOf One x.0 s (λ p. IsTrue true) (λ p. IsTrue true) label q
  step-of s label nothing = record {
    left = nothing;
    right = nothing;
    bit = false;
    in_left = refl;
    in_right = refl;
    is_step = λ i. single_step nothing nothing (bit-at label false i);
  }
  step-of s label one = record {
    left = nothing;
    right = nothing;
    bit = true;
    in_left = refl;
    in_right = refl;
    is_step = λ i. single_step nothing nothing (bit-at label true i);
  }
  step-of s label more = record { left = more; right = nothing; bit = false; in_left = refl; in_right = refl; is_step = refl }

  some-subset : IsSubset plain One x.0 Sure Any All-members
  some-subset = record {
    reached = reached-sure;
    initial = λ s q there. ((λ is. at-zero (λ k. Settled plain One x.0 k q) (settled-all q) s there), (λ h. refl));
    step = λ s z w label q there in_z in_w. ((λ is. step-of s label q), (λ h. refl));
    accepting = λ z is. ((λ yes_it_is. record { state = one; inside = refl; accepting = refl }), (λ h. refl));
    once = λ s z w there in_z in_w same. refl;
  }

  pub sure-Some : Recognises plain Sure Some
  sure-Some = Recognises-Ex2 plain plain-guide One (Single x) (minimal-single x).recognises x Sure Any All-members some-subset

  pub HasPeak-Some : HasPeak plain Some 13
  HasPeak-Some = (HasPeak-Ex2 plain x (Single x) 13).1 (record {
    peak_part = 11;
    size_part = 11;
    size_subset = 1;
    size_result = 1;
    of_peak_part = (HasPeak-Single plain x 11).1 (HasMinimalSize-single x);
    of_part = HasMinimalSize-single x;
    of_subset = HasSubsetSize-of plain plain-guide decide-single x (Single x) One Any Sure Any All-members (minimal-single x) some-subset 1 size-sure;
    of_result = HasMinimalSize-sure Some sure-Some;
    is_greatest = refl;
  })

-- a formula for each of the first tracks, all of them together
pub sure-each : (n : ℕ) → Recognises plain Sure (some_each n)
unfolding some_each
sure-each zero = sure-Some (track 0)
sure-each (suc n) = sure-And (some_each n) (Ex2 (track (suc n)) (Single (track (suc n)))) (sure-each n) (sure-Some (track (suc n)))

-- one more, beside what has a peak of 13 or 14
more-each : (n peak : ℕ) → max peak (max (1 + 13) (1 + 1 + 1 + 1)) ≡ 14 → HasPeak plain (some_each n) peak → HasPeak plain (some_each (suc n)) 14
unfolding some_each
more-each n peak greatest of_n =
    let last : Formula = Ex2 (track (suc n)) (Single (track (suc n))) in
    let of_last = sure-Some (track (suc n)) in
    (HasPeak-And plain (some_each n) last 14).1 (record {
      peak_first = peak;
      peak_second = 13;
      size_first = 1;
      size_second = 1;
      size_product = 1;
      size_result = 1;
      of_peak_first = of_n;
      of_peak_second = HasPeak-Some (track (suc n));
      of_first = HasMinimalSize-sure (some_each n) (sure-each n);
      of_second = HasMinimalSize-sure last of_last;
      of_product = HasProductSize-sure (some_each n) last (sure-each n) of_last;
      of_result = HasMinimalSize-sure (And (some_each n) last) (sure-And (some_each n) last (sure-each n) of_last);
      is_greatest = greatest;
    })

pub HasPeak-each : (n : ℕ) → HasPeak plain (some_each (suc n)) 14
unfolding some_each
HasPeak-each zero = more-each 0 13 refl (HasPeak-Some (track 0))
HasPeak-each (suc n) = more-each (suc n) 14 refl (HasPeak-each n)
