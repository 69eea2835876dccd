-- Starting sets that hold the initial states and that no step leads out of, but that are too large: with both states of
-- the automaton of "not a set within itself" in them, every set accepts, although nothing satisfies that.
use Rattle.std.proofs.Common.{◌≡◌, ℕ, zero, suc, Bool, true, false, ◌↔◌, inl, inr, List, [], ◌∷◌, Contains, refl, sym, ap, subst, ◌∙◌, arith}
use Rattle.std.proofs.lemmas.Bool.{false≢true}
use Rattle.labels.specs.Labels.{Label}
use Rattle.gta_theory.specs.Assignments.{Assignment}
use Rattle.gta_theory.specs.Guides.{IsSpace}
use Rattle.gta_theory.specs.Automata.{Automaton, Accepts, Has}
use Rattle.gta_theory.specs.Constructions.{complement, IsStepOf}
use Rattle.gta_theory.proofs.ListsLemmas.{Contains-first, Contains-later, Contains-cases, Contains-none}
use Rattle.ws2s_core.specs.declared.formula.Formula.{Formula}
use Rattle.ws2s_core.specs.declared.formula.Formula.TheVariants.{Sub, Not, Ex2}
use Rattle.ws2s_core.specs.Examples.{track}
use Rattle.ws2s_core.specs.Recognising.{Recognises}
use Rattle.ws2s_core.specs.Satisfaction.{WSat}
use Rattle.ws2s_core.proofs.RecognisingLemmas.{Recognises-Not}
use Rattle.ws2s_core.proofs.SatisfactionLemmas.{WSat-Not, WSat-Ex2, WSat-Sub}
use Rattle.ws2s_theory.specs.Atoms.{SubState, inside, outside, sub_step}
use Rattle.ws2s_theory.specs.Worked.{plain}
use Rattle.ws2s_theory.proofs.WorkedLemmas.{plain-guide}
use Rattle.cert_theory.specs.Atoms.{sub_number, sub_numbers}
use Rattle.cert_theory.specs.Tables.{NamedSet, SetGoesTo, IsSetTable, HoldsAndCloses}
use Rattle.cert_theory.proofs.AtomsLemmas.{Recognises-sub_numbers}

-- "the set of track 0 isn't within itself"
abbrev pub outside_itself : Formula
outside_itself = Not (Sub (track 0) (track 0))

abbrev pub part : Automaton ℕ
part = complement (sub_numbers 0 0)

-- the automaton with one state, which accepts
abbrev pub all : Automaton ℕ
all = record { initial = λ s. 0; step = λ s p q label. 0; accepting = λ q. true }

-- the number is 0 or 1
abbrev is_low : ℕ → Bool
is_low zero = true
is_low (suc zero) = true
is_low (suc (suc q)) = false

-- both states, in every space
abbrev pub both : ℕ → ℕ → Bool
both s q = is_low q

abbrev pub the_set : NamedSet
the_set = record { space = 0; members = 0 ∷ 1 ∷ []; state = 0 }

abbrev pub table : List NamedSet
table = the_set ∷ []

pub Recognises-part : Recognises plain part outside_itself
Recognises-part = Recognises-Not plain plain-guide (sub_numbers 0 0) (Sub (track 0) (track 0)) (Recognises-sub_numbers plain plain-guide (track 0) (track 0))

number-below : (q : SubState) → is_low (sub_number q) ≡ true
number-below inside = refl
number-below outside = refl

pub HoldsAndCloses-both : HoldsAndCloses plain part 1 (Has both)
HoldsAndCloses-both = record { initial = λ s there. refl; closed = λ s p q label there at_most in_l in_r. number-below _ }

member-below : (q : ℕ) → Contains (0 ∷ 1 ∷ []) q → is_low q ≡ true
member-below q h = elim (Contains-cases 0 q (1 ∷ []) h) as (λ _. is_low q ≡ true) [
  | inl is ↦ ap (λ n. is_low n) (sym is)
  | inr later ↦ elim (Contains-cases 1 q [] later) as (λ _. is_low q ≡ true) [
    | inl is ↦ ap (λ n. is_low n) (sym is)
    | inr none ↦ absurd (Contains-none q none)
  ]
]

below-member : (q : ℕ) → is_low q ≡ true → Contains (0 ∷ 1 ∷ []) q
below-member zero below = Contains-first 0 (1 ∷ [])
below-member (suc zero) below = Contains-later 0 1 (1 ∷ []) (Contains-first 1 [])
below-member (suc (suc q)) below = absurd (false≢true below)

only : (set : NamedSet) → Contains table set → the_set ≡ set
only set listed = elim (Contains-cases the_set set [] listed) as (λ _. the_set ≡ set) [
  | inl is ↦ is
  | inr none ↦ absurd (Contains-none set none)
]

goes : (s : ℕ) (IsMember : ℕ → Type 0) → IsSpace plain s → ((q : ℕ) → is_low q ≡ true ↔ IsMember q) → SetGoesTo table s IsMember 0
goes s IsMember there same = record {
  set = the_set;
  listed = Contains-first the_set [];
  in_space = omega (arith, there);
  exactly = λ q. ((λ h. (same q).0 (member-below q h)), (λ h. below-member q ((same q).1 h)));
  is_state = refl;
}

pub from-inside : (b : Bool) → sub_number (sub_step inside inside b b) ≡ 0
from-inside true = refl
from-inside false = refl

from-outside : (b : Bool) → sub_number (sub_step outside inside b b) ≡ 1
from-outside true = refl
from-outside false = refl

-- each state comes by a step of members of the set
comes : (s : ℕ) (label : Label) (q : ℕ) → is_low q ≡ true →
    IsStepOf part 1 s (Contains (the_set).members) (Contains (the_set).members) label q
comes s label zero below = record {
  left = 0;
  right = 0;
  bit = false;
  in_left = Contains-first 0 (1 ∷ []);
  in_right = Contains-first 0 (1 ∷ []);
  is_step = from-inside (label 0);
}
comes s label (suc zero) below = record {
  left = 1;
  right = 0;
  bit = false;
  in_left = Contains-later 0 1 (1 ∷ []) (Contains-first 1 []);
  in_right = Contains-first 0 (1 ∷ []);
  is_step = from-outside (label 0);
}
comes s label (suc (suc q)) below = absurd (false≢true below)

steps-goes : (s : ℕ) (l r : NamedSet) (label : Label) → IsSpace plain s → the_set ≡ l → the_set ≡ r →
    SetGoesTo table s (IsStepOf part 1 s (Contains l.members) (Contains r.members) label) 0
steps-goes s l r label there is_l is_r =
    goes s _ there (λ q. (
      (λ below. subst (λ (m : NamedSet). IsStepOf part 1 s (Contains l.members) (Contains m.members) label q) is_r
          (subst (λ (m : NamedSet). IsStepOf part 1 s (Contains m.members) (Contains (the_set).members) label q) is_l (comes s label q below))),
      (λ h. subst (λ n. is_low n ≡ true) h.is_step (number-below _)),
    ))

pub IsSetTable-both : IsSetTable plain part 1 (Has both) table all
IsSetTable-both = record {
  initial = λ s there. goes s (Has both s) there (λ q. ((λ h. h), (λ h. h)));
  step = λ s l r label there in_l in_r of_l of_r. steps-goes s l r label there (only l in_l) (only r in_r);
  accepting = λ set listed here. (
    (λ accepts. record {
      state = 1;
      inside = subst (λ (m : NamedSet). Contains m.members 1) (only set listed) (Contains-later 0 1 (1 ∷ []) (Contains-first 1 []));
      accepting = refl;
    }),
    (λ some. refl),
  );
  once = λ k m in_k in_m here same. ap (λ (set : NamedSet). set.state) (sym (only k in_k) ∙ only m in_m);
}

pub nothing-accepted : (a : Assignment) → Accepts plain (complement all) a → ⊥
nothing-accepted a accepts = false≢true accepts.accepted

pub always : (a : Assignment) → WSat (Not (Ex2 (track 1) outside_itself)) a
always a = (WSat-Not (Ex2 (track 1) outside_itself) a).1 (λ some.
    let way = (WSat-Ex2 (track 1) outside_itself a).0 some in
    (WSat-Not (Sub (track 0) (track 0)) _).0 way.2 ((WSat-Sub (track 0) (track 0) _).1 (λ p is. is)))
