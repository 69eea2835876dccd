-- On the worked Sizes: the minimal automata of the atoms under the plain guide.
use Rattle.std.proofs.Common.{◌≡◌, ◌≢◌, ℕ, zero, suc, ◌+◌, true, [], ◌∷◌, refl, sym, arith}
use Rattle.labels.specs.Labels.{Label, empty_label, with_track}
use Rattle.gta_theory.specs.Guides.{Spaces, IsGuide, IsSpace, left, right}
use Rattle.gta_theory.specs.Automata.{Automaton}
use Rattle.gta_theory.specs.Constructions.{IsReached}
use Rattle.gta_theory.specs.Generated.{Generated, starts, steps}
use Rattle.gta_theory.specs.Minimal.{AreSeparated, at_root, below_left, below_right}
use Rattle.gta_theory.specs.Renamed.{IsIncreasing}
use Rattle.gta_theory.specs.Sizes.{SizeOf}
use Rattle.gta_theory.proofs.GeneratedLemmas.{IsReached-generated, IsValue-generated}
use Rattle.gta_theory.proofs.MinimalLemmas.{AreToldApart-from_separated}
use Rattle.gta_theory.proofs.RenamedLemmas.{SizeOf-renamed}
use Rattle.ws2s_core.specs.declared.track.Track.{Track}
use Rattle.ws2s_core.specs.declared.formula.Formula.{Formula}
use Rattle.ws2s_core.specs.declared.formula.Formula.TheVariants.{Sub, Single, Root}
use Rattle.ws2s_core.specs.Recognising.{Recognises, IsMinimalOf}
use Rattle.ws2s_core.specs.Examples.{track}
use Rattle.ws2s_theory.specs.Atoms.{SubState, inside, outside, sub_step, sub_automaton}
use Rattle.ws2s_theory.specs.Atoms.{SingleState, nothing, one, more, single_step, single_automaton}
use Rattle.ws2s_theory.specs.Atoms.{RootState, absent, alone, lower, root_step, root_automaton}
use Rattle.ws2s_theory.specs.Peaks.{HasMinimalSize}
use Rattle.ws2s_theory.specs.Worked.{plain}
use Rattle.ws2s_theory.proofs.AtomsLemmas.{Recognises-Sub, Recognises-Single, Recognises-Root}
use Rattle.ws2s_theory.proofs.FormsLemmas.{all-sub, decide-sub, all-single, decide-single, all-root, decide-root}
use Rattle.ws2s_theory.proofs.SizesLemmas.{HasMinimalSize-of}
use Rattle.ws2s_theory.proofs.TestedSizesLemmas.{SizeOf-tested}
use Rattle.ws2s_theory.proofs.TestsLemmas.{Any, every_track}

pub plain-guide : IsGuide plain
plain-guide = record {
  not_empty = omega arith;
  left_inside = only-left;
  right_inside = only-right;
}
  where
    only-left : (s : ℕ) → IsSpace plain s → IsSpace plain (left plain s)
    only-left zero there = omega arith
    only-left (suc s) there = absurd (omega arith)

    only-right : (s : ℕ) → IsSpace plain s → IsSpace plain (right plain s)
    only-right zero there = omega arith
    only-right (suc s) there = absurd (omega arith)

pub zero-there : IsSpace plain 0
zero-there = omega arith

-- the plain guide's space is 0
pub at-zero : (P : ℕ → Type 0) → P 0 → (s : ℕ) → IsSpace plain s → P s
at-zero P h zero there = h
at-zero P h (suc s) there = absurd (omega arith)

pub separated-turned : {Q : Type 0} (g : Spaces) (A : Automaton Q) (s : ℕ) (p q : Q) → AreSeparated g A s p q → AreSeparated g A s q p
separated-turned g A _ _ _ (at_root p q differs) = at_root q p (λ same. differs (sym same))
separated-turned g A _ _ _ (below_left s p q beside label there v rest) =
    below_left s q p beside label there v (separated-turned g A s (A.step s p beside label) (A.step s q beside label) rest)
separated-turned g A _ _ _ (below_right s p q beside label there v rest) =
    below_right s q p beside label there v (separated-turned g A s (A.step s beside p label) (A.step s beside q label) rest)

-- an automaton all of whose states are generated and kept apart is minimal under the plain guide
module _ {Q : Type 0} (A : Automaton Q) (f : Formula) (of_A : Recognises plain A f) (generated : (q : Q) → Generated plain A 0 q) where
  pub reached-all : IsReached plain A Any
  reached-all = IsReached-generated plain plain-guide A of_A.stable Any
      (record { initial = λ s there. tt; step = λ s p q label there in_p in_q. tt })
      (record { state = λ s q there h. at-zero (λ z. Generated plain A z q) (generated q) s there })

  pub minimal-all : ((p q : Q) → p ≢ q → AreSeparated plain A 0 p q) → IsMinimalOf plain A Any f
  minimal-all apart = record {
    minimal = record {
      stable = of_A.stable;
      reached = reached-all;
      apart = λ s p q there in_p in_q differ.
          AreToldApart-from_separated plain plain-guide A of_A.stable s p q
          (at-zero (λ z. AreSeparated plain A z p q) (apart p q differ) s there);
    };
    recognises = of_A;
  }

abbrev pub unset : Label
unset = empty_label

abbrev pub only : ℕ → Label
only t = with_track empty_label t true

-- `Sub 1 0`
abbrev pub sub_10 : Automaton SubState
sub_10 = sub_automaton 1 0

abbrev pub sub-number : SubState → ℕ
sub-number inside = 0
sub-number outside = 1

pub sub-once : (p q : SubState) → sub-number p ≡ sub-number q → p ≡ q
sub-once inside inside e = refl
sub-once outside outside e = refl
sub-once inside outside e = absurd (omega (arith, e))
sub-once outside inside e = absurd (omega (arith, e))

sub-generated : (q : SubState) → Generated plain sub_10 0 q
sub-generated inside = starts 0 zero-there
sub-generated outside = steps 0 inside inside (only 1) zero-there (starts 0 zero-there) (starts 0 zero-there)

sub-apart : (p q : SubState) → p ≢ q → AreSeparated plain sub_10 0 p q
sub-apart inside inside differ = absurd (differ refl)
sub-apart outside outside differ = absurd (differ refl)
sub-apart inside outside differ = at_root inside outside (λ e. absurd cc)
sub-apart outside inside differ = at_root outside inside (λ e. absurd cc)

pub minimal-sub : IsMinimalOf plain sub_10 Any (Sub (track 1) (track 0))
minimal-sub = minimal-all sub_10 (Sub (track 1) (track 0)) (Recognises-Sub plain plain-guide (track 1) (track 0)) sub-generated sub-apart

size-sub : SizeOf plain sub_10 Any 6
size-sub = SizeOf-tested sub-number sub-once sub_10 Any (inside ∷ outside ∷ []) (λ q is. all-sub q) (λ q h. tt) 2
    (λ p q l m same i. sub_step p q (same 1 (omega arith) i) (same 0 (omega arith) i))
    ((inside, inside, 0, unset) ∷ (inside, inside, 1, unset) ∷ []) refl 6 refl

pub HasMinimalSize-sub : HasMinimalSize plain (Sub (track 1) (track 0)) 6
HasMinimalSize-sub = HasMinimalSize-of plain plain-guide decide-sub (Sub (track 1) (track 0)) sub_10 Any minimal-sub 6 size-sub

-- `Root 1`
abbrev pub root_1 : Automaton RootState
root_1 = root_automaton 1

abbrev pub root-number : RootState → ℕ
root-number absent = 0
root-number alone = 1
root-number lower = 2

pub root-once : (p q : RootState) → root-number p ≡ root-number q → p ≡ q
root-once absent absent e = refl
root-once alone alone e = refl
root-once lower lower e = refl
root-once p q e = absurd (omega (arith, e))

generated-alone : Generated plain root_1 0 alone
generated-alone = steps 0 absent absent (only 1) zero-there (starts 0 zero-there) (starts 0 zero-there)

root-generated : (q : RootState) → Generated plain root_1 0 q
root-generated absent = starts 0 zero-there
root-generated alone = generated-alone
root-generated lower = steps 0 alone absent unset zero-there generated-alone (starts 0 zero-there)

absent-lower : AreSeparated plain root_1 0 absent lower
absent-lower = below_left 0 absent lower absent (only 1) zero-there
    (IsValue-generated plain plain-guide root_1 (record { at = λ s there. refl }) 0 absent (starts 0 zero-there))
    (at_root alone lower (λ e. absurd cc))

root-apart : (p q : RootState) → p ≢ q → AreSeparated plain root_1 0 p q
root-apart absent absent differ = absurd (differ refl)
root-apart alone alone differ = absurd (differ refl)
root-apart lower lower differ = absurd (differ refl)
root-apart absent alone differ = at_root absent alone (λ e. absurd cc)
root-apart alone absent differ = at_root alone absent (λ e. absurd cc)
root-apart alone lower differ = at_root alone lower (λ e. absurd cc)
root-apart lower alone differ = at_root lower alone (λ e. absurd cc)
root-apart absent lower differ = absent-lower
root-apart lower absent differ = separated-turned plain root_1 0 absent lower absent-lower

pub minimal-root : IsMinimalOf plain root_1 Any (Root (track 1))
minimal-root = minimal-all root_1 (Root (track 1)) (Recognises-Root plain plain-guide (track 1)) root-generated root-apart

size-root : SizeOf plain root_1 Any 10
size-root = SizeOf-tested root-number root-once root_1 Any (absent ∷ alone ∷ lower ∷ []) (λ q is. all-root q) (λ q h. tt) 2
    (λ p q l m same i. root_step p q (same 1 (omega arith) i)) ((absent, absent, 0, unset) ∷ []) refl 10 refl

pub HasMinimalSize-root : HasMinimalSize plain (Root (track 1)) 10
HasMinimalSize-root = HasMinimalSize-of plain plain-guide decide-root (Root (track 1)) root_1 Any minimal-root 10 size-root

-- `Single 0`
abbrev single-number : SingleState → ℕ
single-number nothing = 0
single-number one = 1
single-number more = 2

single-once : (p q : SingleState) → single-number p ≡ single-number q → p ≡ q
single-once nothing nothing e = refl
single-once one one e = refl
single-once more more e = refl
single-once p q e = absurd (omega (arith, e))

size-single_0 : SizeOf plain (single_automaton 0) Any 11
size-single_0 = SizeOf-tested single-number single-once (single_automaton 0) Any (nothing ∷ one ∷ more ∷ []) (λ q is. all-single q) (λ q h. tt) 1
    (λ p q l m same i. single_step p q (same 0 (omega arith) i)) ((nothing, nothing, 0, unset) ∷ (one, nothing, 0, unset) ∷ []) refl 11 refl

-- `Single x`, which is that of track 0 with another name
module _ (x : Track) where
  abbrev One : Automaton SingleState
  One = single_automaton x.0

  abbrev start-single : Generated plain One 0 nothing
  start-single = starts 0 zero-there

  generated-one : Generated plain One 0 one
  generated-one = steps 0 nothing nothing every_track zero-there start-single start-single

  single-generated : (q : SingleState) → Generated plain One 0 q
  single-generated nothing = start-single
  single-generated one = generated-one
  single-generated more = steps 0 one one unset zero-there generated-one generated-one

  nothing-more : AreSeparated plain One 0 nothing more
  nothing-more = below_left 0 nothing more nothing every_track zero-there
      (IsValue-generated plain plain-guide One (record { at = λ s there. refl }) 0 nothing start-single)
      (at_root one more (λ e. absurd cc))

  single-apart : (p q : SingleState) → p ≢ q → AreSeparated plain One 0 p q
  single-apart nothing nothing differ = absurd (differ refl)
  single-apart one one differ = absurd (differ refl)
  single-apart more more differ = absurd (differ refl)
  single-apart nothing one differ = at_root nothing one (λ e. absurd cc)
  single-apart one nothing differ = at_root one nothing (λ e. absurd cc)
  single-apart one more differ = at_root one more (λ e. absurd cc)
  single-apart more one differ = at_root more one (λ e. absurd cc)
  single-apart nothing more differ = nothing-more
  single-apart more nothing differ = separated-turned plain One 0 nothing more nothing-more

  pub minimal-single : IsMinimalOf plain One Any (Single x)
  minimal-single = minimal-all One (Single x) (Recognises-Single plain plain-guide x) single-generated single-apart

  abbrev moved : ℕ → ℕ
  moved zero = x.0
  moved (suc t) = suc (x.0 + t)

  moved-increasing : IsIncreasing moved
  moved-increasing zero zero less = absurd (omega arith)
  moved-increasing zero (suc u) less = omega arith
  moved-increasing (suc t) zero less = absurd (omega arith)
  moved-increasing (suc t) (suc u) less = omega arith

  pub HasMinimalSize-single : HasMinimalSize plain (Single x) 11
  HasMinimalSize-single = HasMinimalSize-of plain plain-guide decide-single (Single x) One Any minimal-single 11
      (SizeOf-renamed moved moved-increasing plain (single_automaton 0) Any 11 size-single_0)
