-- On automata with numbered states: they recognise what they did, and their values are the states' numbers.
use Rattle.std.proofs.Common.{◌≡◌, ℕ, zero, suc, ◌<◌, refl, ap, ◌∙◌, arith}
use Rattle.labels.specs.Labels.{empty_label}
use Rattle.gta_theory.specs.Assignments.{Assignment}
use Rattle.gta_theory.specs.Guides.{Spaces, IsGuide, left, right}
use Rattle.gta_theory.specs.Automata.{Automaton, value, IsStable}
use Rattle.gta_theory.specs.Constructions.{IsClosed, IsNaming}
use Rattle.gta_theory.proofs.AutomataLemmas.{Accepts-named}
use Rattle.ws2s_core.specs.declared.track.Track.{Track}
use Rattle.ws2s_core.specs.declared.formula.Formula.{Formula}
use Rattle.ws2s_core.specs.declared.formula.Formula.TheVariants.{Sub, Single, Succ0, Succ1, Root}
use Rattle.ws2s_core.specs.Recognising.{Recognises}
use Rattle.ws2s_theory.specs.Atoms.{SubState, inside, outside, sub_automaton, SingleState, nothing, one, more, single_automaton}
use Rattle.ws2s_theory.specs.Atoms.{RootState, absent, alone, lower, root_automaton, SuccState, neither, child, found, wrong}
use Rattle.ws2s_theory.specs.Atoms.{succ0_automaton, succ1_automaton}
use Rattle.ws2s_theory.proofs.AtomsLemmas.{Recognises-Sub, Recognises-Single, Recognises-Succ0, Recognises-Succ1, Recognises-Root}
use Rattle.ws2s_theory.proofs.FormsLemmas.{Recognises-same}
use Rattle.cert_theory.specs.Atoms.{numbered, sub_number, sub_state, sub_numbers, single_number, single_state, single_numbers}
use Rattle.cert_theory.specs.Atoms.{root_number, root_state, root_numbers, succ_number, succ_state, succ0_numbers, succ1_numbers}

module _ {Q : Type 0} (g : Spaces) (guide : IsGuide g) (number : Q → ℕ) (state : ℕ → Q) (back : (q : Q) → state (number q) ≡ q)
    (A : Automaton Q) where
  abbrev Any : ℕ → ℕ → Type 0
  Any s q = Unit {0}

  IsClosed-numbered : IsClosed g (numbered number state A) Any
  IsClosed-numbered = record { initial = λ s there. tt; step = λ s p q label there in_p in_q. tt }

  IsNaming-numbered : IsNaming g (numbered number state A) Any A (λ s q. state q)
  IsNaming-numbered = record {
    initial = λ s there. back (A.initial s);
    step = λ s p q label there in_p in_q. back (A.step s (state p) (state q) label);
    accepting = λ q inside. refl;
  }

  IsStable-numbered : IsStable g A → IsStable g (numbered number state A)
  IsStable-numbered stable = record {
    at = λ s there.
        (λ i. number (A.step s (back (A.initial (left g s)) i) (back (A.initial (right g s)) i) empty_label))
        ∙ ap number (stable.at s there);
  }

  Recognises-numbered : (f : Formula) → Recognises g A f → Recognises g (numbered number state A) f
  Recognises-numbered f of_A = Recognises-same g A (numbered number state A) f of_A (IsStable-numbered of_A.stable)
      (λ a. let names = Accepts-named g guide (numbered number state A) Any A (λ s q. state q) IsClosed-numbered IsNaming-numbered a in
      (names.1, names.0))

  -- every value is the number of a state
  value-below : (count : ℕ) → ((q : Q) → number q < count) → (s n : ℕ) (a : Assignment) →
      value g (numbered number state A) s n a < count
  value-below count below s zero a = below (A.initial s)
  value-below count below s (suc n) a = below _

sub_back : (q : SubState) → sub_state (sub_number q) ≡ q
sub_back inside = refl
sub_back outside = refl

sub_below : (q : SubState) → sub_number q < 2
sub_below inside = omega arith
sub_below outside = omega arith

single_back : (q : SingleState) → single_state (single_number q) ≡ q
single_back nothing = refl
single_back one = refl
single_back more = refl

pub single_below : (q : SingleState) → single_number q < 3
single_below nothing = omega arith
single_below one = omega arith
single_below more = omega arith

root_back : (q : RootState) → root_state (root_number q) ≡ q
root_back absent = refl
root_back alone = refl
root_back lower = refl

root_below : (q : RootState) → root_number q < 3
root_below absent = omega arith
root_below alone = omega arith
root_below lower = omega arith

succ_back : (q : SuccState) → succ_state (succ_number q) ≡ q
succ_back neither = refl
succ_back child = refl
succ_back found = refl
succ_back wrong = refl

succ_below : (q : SuccState) → succ_number q < 4
succ_below neither = omega arith
succ_below child = omega arith
succ_below found = omega arith
succ_below wrong = omega arith

module _ (g : Spaces) (guide : IsGuide g) where
  pub Recognises-sub_numbers : (x y : Track) → Recognises g (sub_numbers x.0 y.0) (Sub x y)
  Recognises-sub_numbers x y = Recognises-numbered g guide sub_number sub_state sub_back (sub_automaton x.0 y.0) (Sub x y) (Recognises-Sub g guide x y)

  pub Recognises-single_numbers : (x : Track) → Recognises g (single_numbers x.0) (Single x)
  Recognises-single_numbers x = Recognises-numbered g guide single_number single_state single_back (single_automaton x.0) (Single x)
      (Recognises-Single g guide x)

  pub Recognises-root_numbers : (x : Track) → Recognises g (root_numbers x.0) (Root x)
  Recognises-root_numbers x = Recognises-numbered g guide root_number root_state root_back (root_automaton x.0) (Root x) (Recognises-Root g guide x)

  pub Recognises-succ0_numbers : (x y : Track) → Recognises g (succ0_numbers x.0 y.0) (Succ0 x y)
  Recognises-succ0_numbers x y = Recognises-numbered g guide succ_number succ_state succ_back (succ0_automaton x.0 y.0) (Succ0 x y)
      (Recognises-Succ0 g guide x y)

  pub Recognises-succ1_numbers : (x y : Track) → Recognises g (succ1_numbers x.0 y.0) (Succ1 x y)
  Recognises-succ1_numbers x y = Recognises-numbered g guide succ_number succ_state succ_back (succ1_automaton x.0 y.0) (Succ1 x y)
      (Recognises-Succ1 g guide x y)

  pub sub_value-below : (x y n : ℕ) (a : Assignment) → value g (sub_numbers x y) 0 n a < 2
  sub_value-below x y n a = value-below g guide sub_number sub_state sub_back (sub_automaton x y) 2 sub_below 0 n a

  pub single_value-below : (x n : ℕ) (a : Assignment) → value g (single_numbers x) 0 n a < 3
  single_value-below x n a = value-below g guide single_number single_state single_back (single_automaton x) 3 single_below 0 n a

  pub root_value-below : (x n : ℕ) (a : Assignment) → value g (root_numbers x) 0 n a < 3
  root_value-below x n a = value-below g guide root_number root_state root_back (root_automaton x) 3 root_below 0 n a

  pub succ0_value-below : (x y n : ℕ) (a : Assignment) → value g (succ0_numbers x y) 0 n a < 4
  succ0_value-below x y n a = value-below g guide succ_number succ_state succ_back (succ0_automaton x y) 4 succ_below 0 n a

  pub succ1_value-below : (x y n : ℕ) (a : Assignment) → value g (succ1_numbers x y) 0 n a < 4
  succ1_value-below x y n a = value-below g guide succ_number succ_state succ_back (succ1_automaton x y) 4 succ_below 0 n a
