-- On the worked Peak 65: the root is in each of four tracks' sets, under the plain guide.
use Rattle.std.proofs.Common.{◌≡◌, ◌≢◌, ℕ, zero, suc, ◌+◌, ◌*◌, ◌<◌, ◌≤◌, max, Bool, true, false, ◌&&◌, List, [], ◌∷◌, map, length}
use Rattle.std.proofs.Common.{Contains, refl, ap, subst, ◌∙◌, arith}
use Rattle.std.proofs.lemmas.Bool.{ltb-true}
use Rattle.labels.specs.Labels.{Label, empty_label, with_below}
use Rattle.labels.proofs.LabelsLemmas.{with_below-under, with_below-from}
use Rattle.gta_theory.specs.Automata.{Automaton, IsStable}
use Rattle.gta_theory.specs.Constructions.{pairs, IsNaming, IsProduct}
use Rattle.gta_theory.specs.Generated.{Generated, starts, steps}
use Rattle.gta_theory.specs.Minimal.{AreSeparated, at_root}
use Rattle.gta_theory.specs.Renamed.{IsIncreasing}
use Rattle.gta_theory.specs.Sizes.{AreSameBelow, SizeOf}
use Rattle.gta_theory.proofs.AutomataLemmas.{IsStable-pairs}
use Rattle.gta_theory.proofs.GeneratedLemmas.{IsReached-generated}
use Rattle.ws2s_core.specs.declared.formula.Formula.{Formula}
use Rattle.ws2s_core.specs.declared.formula.Formula.TheVariants.{Sub, Root, And, Not, Ex2}
use Rattle.ws2s_core.specs.Recognising.{Recognises, IsMinimalOf}
use Rattle.ws2s_core.specs.Examples.{track, has_root}
use Rattle.ws2s_core.specs.Tracks.{renamed, renamed_node}
use Rattle.ws2s_core.proofs.FormulaLemmas.{fold-Sub, fold-Root, fold-And, fold-Ex2}
use Rattle.ws2s_core.proofs.RecognisingLemmas.{Recognises-And, Recognises-classes}
use Rattle.ws2s_theory.specs.Peaks.{HasMinimalSize, HasProductSize, HasPeak}
use Rattle.ws2s_theory.specs.Worked.{plain, root_on, root_on_each}
use Rattle.ws2s_theory.proofs.PeaksLemmas.{HasPeak-And, HasPeak-Not}
use Rattle.ws2s_theory.proofs.RenamedLemmas.{IsMinimalOf-renamed, HasMinimalSize-renamed, HasPeak-renamed}
use Rattle.ws2s_theory.proofs.SizesLemmas.{HasMinimalSize-of, HasProductSize-of}
use Rattle.ws2s_theory.proofs.TestedSizesLemmas.{Place, function, square, is-tested, SizeOf-tested}
use Rattle.ws2s_theory.proofs.TestsLemmas.{Any, every_track}
use Rattle.ws2s_theory.proofs.WorkedLemmas.{plain-guide, zero-there, at-zero, minimal-all, unset}
use Rattle.ws2s_theory.proofs.WorkedPeakLemmas.{FlagState, missing, present, flag, is_present, Flag, flag-number, flag-number-once}
use Rattle.ws2s_theory.proofs.WorkedPeakLemmas.{root_within, minimal-flag, decide-flag, all-flag, HasMinimalSize-flag, HasPeak-has_root}

-- the automaton of "the root is in the set of track t"
abbrev OnTrack : ℕ → Automaton FlagState
OnTrack t = record { initial = λ s. missing; step = λ s p q label. flag (label t); accepting = is_present }

-- one such formula is the one of tracks 1 and 0 with other names
module _ (k t : ℕ) (before : t < k) where
  abbrev ahead : ℕ → ℕ
  ahead zero = t
  ahead (suc zero) = k
  ahead (suc (suc n)) = suc (k + n)

  ahead-increasing : IsIncreasing ahead
  ahead-increasing zero zero less = absurd (omega arith)
  ahead-increasing zero (suc zero) less = before
  ahead-increasing zero (suc (suc n)) less = omega arith
  ahead-increasing (suc zero) zero less = absurd (omega arith)
  ahead-increasing (suc zero) (suc zero) less = absurd (omega arith)
  ahead-increasing (suc zero) (suc (suc n)) less = omega arith
  ahead-increasing (suc (suc m)) zero less = absurd (omega arith)
  ahead-increasing (suc (suc m)) (suc zero) less = absurd (omega arith)
  ahead-increasing (suc (suc m)) (suc (suc n)) less = omega arith

  renamed-has_root : renamed ahead has_root ≡ root_on k t
  renamed-has_root =
      fold-Ex2 Formula (renamed_node ahead) (track 1) root_within
      ∙ ap (Ex2 (track k)) (fold-And Formula (renamed_node ahead) (Root (track 1)) (Sub (track 1) (track 0))
      ∙ (λ i. And (fold-Root Formula (renamed_node ahead) (track 1) i) (fold-Sub Formula (renamed_node ahead) (track 1) (track 0) i)))

  HasPeak-on : HasPeak plain (root_on k t) 58
  HasPeak-on = subst (λ f. HasPeak plain f 58) renamed-has_root
      (HasPeak-renamed plain plain-guide ahead ahead-increasing has_root 58 HasPeak-has_root)

  HasMinimalSize-on : HasMinimalSize plain (root_on k t) 5
  HasMinimalSize-on = subst (λ f. HasMinimalSize plain f 5) renamed-has_root
      (HasMinimalSize-renamed plain plain-guide ahead ahead-increasing has_root 5 HasMinimalSize-flag)

  minimal-on : IsMinimalOf plain (OnTrack t) Any (root_on k t)
  minimal-on = subst (IsMinimalOf plain (OnTrack t) Any) renamed-has_root
      (IsMinimalOf-renamed plain plain-guide ahead ahead-increasing Flag Any has_root minimal-flag)

-- the label has each track up to n
abbrev all_set : ℕ → Label → Bool
all_set zero label = label 0
all_set (suc n) label = all_set n label && label (suc n)

twice : (b : Bool) → b && b ≡ b
twice true = refl
twice false = refl

all_set-same : (n : ℕ) (b : Bool) (label : Label) → ((t : ℕ) → t ≤ n → label t ≡ b) → all_set n label ≡ b
all_set-same zero b label same = same 0 (omega arith)
all_set-same (suc n) b label same =
    let first = all_set-same n b label (λ t le. same t (omega arith)) in
    let last = same (suc n) (omega arith) in
    (λ i. first i && last i) ∙ twice b

all_set-looks : (n : ℕ) (l m : Label) → AreSameBelow (suc n) l m → all_set n l ≡ all_set n m
all_set-looks zero l m same = same 0 (omega arith)
all_set-looks (suc n) l m same =
    let first = all_set-looks n l m (λ t less. same t (omega arith)) in
    let last = same (suc n) (omega arith) in
    λ i. first i && last i

-- the automaton of all of them up to n
abbrev OnEach : ℕ → Automaton FlagState
OnEach n = record { initial = λ s. missing; step = λ s p q label. flag (all_set n label); accepting = is_present }

stable-each : (n : ℕ) → IsStable plain (OnEach n)
stable-each n = record { at = λ s there. ap flag (all_set-same n false empty_label (λ t le. refl)) }

each-generated : (n : ℕ) (q : FlagState) → Generated plain (OnEach n) 0 q
each-generated n missing = starts 0 zero-there
each-generated n present = subst (λ b. Generated plain (OnEach n) 0 (flag b)) (all_set-same n true every_track (λ t le. refl))
    (steps 0 missing missing every_track zero-there (starts 0 zero-there) (starts 0 zero-there))

each-apart : (n : ℕ) (p q : FlagState) → p ≢ q → AreSeparated plain (OnEach n) 0 p q
each-apart n missing missing differ = absurd (differ refl)
each-apart n present present differ = absurd (differ refl)
each-apart n missing present differ = at_root missing present (λ e. absurd cc)
each-apart n present missing differ = at_root present missing (λ e. absurd cc)

-- the automaton of those up to n beside that of the next one: each pair of states is met
module _ (n : ℕ) where
  abbrev Pair : Automaton (FlagState × FlagState)
  Pair = pairs (OnEach n) (OnTrack (suc n))

  -- the first bit for each track up to n, the second for those after
  abbrev bits : Bool → Bool → Label
  bits b c = with_below (suc n) (λ t. b) (λ t. c)

  bits-first : (b c : Bool) → all_set n (bits b c) ≡ b
  bits-first b c = all_set-same n b (bits b c) (λ t le. with_below-under (suc n) (λ u. b) (λ u. c) t (omega arith))

  bits-last : (b c : Bool) → bits b c (suc n) ≡ c
  bits-last b c = with_below-from (suc n) (λ u. b) (λ u. c) (suc n) (omega arith)

  pair-start : Generated plain Pair 0 (missing, missing)
  pair-start = starts 0 zero-there

  pair-of_bits : (b c : Bool) → Generated plain Pair 0 (flag b, flag c)
  pair-of_bits b c = subst (Generated plain Pair 0) (λ i. (flag (bits-first b c i), flag (bits-last b c i)))
      (steps 0 (missing, missing) (missing, missing) (bits b c) zero-there pair-start pair-start)

  pair-generated : (x y : FlagState) → Generated plain Pair 0 (x, y)
  pair-generated missing missing = pair-start
  pair-generated missing present = pair-of_bits false true
  pair-generated present missing = pair-of_bits true false
  pair-generated present present = pair-of_bits true true

  pair-product : IsProduct plain (OnEach n) (OnTrack (suc n)) Pair Any (λ s z. z)
  pair-product = record {
    reached = IsReached-generated plain plain-guide Pair
        (IsStable-pairs plain (OnEach n) (OnTrack (suc n)) (stable-each n) (record { at = λ s there. refl })) Any
        (record { initial = λ s there. tt; step = λ s p q label there in_p in_q. tt })
        (record { state = λ s z there h. at-zero (λ m. Generated plain Pair m z) (pair-generated z.0 z.1) s there });
    naming = record { initial = λ s there. refl; step = λ s z w label there in_z in_w. refl; accepting = λ z is. refl };
    once = record { once = λ s z w there in_z in_w same. same };
  }

  -- what a pair says of all of them
  abbrev both : FlagState → FlagState → FlagState
  both missing y = missing
  both present y = y

  both-flag : (b c : Bool) → both (flag b) (flag c) ≡ flag (b && c)
  both-flag true c = refl
  both-flag false c = refl

  both-accepting : (x y : FlagState) → is_present x && is_present y ≡ is_present (both x y)
  both-accepting missing y = refl
  both-accepting present y = refl

  pair-naming : IsNaming plain Pair Any (OnEach (suc n)) (λ s z. both z.0 z.1)
  pair-naming = record {
    initial = λ s there. refl;
    step = λ s z w label there in_z in_w. both-flag (all_set n label) (label (suc n));
    accepting = λ z is. both-accepting z.0 z.1;
  }

recognises-each : (k n : ℕ) → n < k → Recognises plain (OnEach n) (root_on_each k n)
unfolding root_on_each
recognises-each k zero before = (minimal-on k 0 before).recognises
recognises-each k (suc n) before =
    Recognises-classes plain plain-guide (Pair n) (And (root_on_each k n) (root_on k (suc n)))
    (Recognises-And plain plain-guide (OnEach n) (root_on_each k n) (recognises-each k n (omega arith))
    (OnTrack (suc n)) (root_on k (suc n)) (minimal-on k (suc n) before).recognises (Pair n) Any (λ s z. z) (pair-product n))
    Any (OnEach (suc n)) (λ s z. both n z.0 z.1) (pair-product n).reached (pair-naming n)

minimal-each : (k n : ℕ) → n < k → IsMinimalOf plain (OnEach n) Any (root_on_each k n)
minimal-each k n before = minimal-all (OnEach n) (root_on_each k n) (recognises-each k n before) (each-generated n) (each-apart n)

-- the places of the functions that are left where tracks below j are set, down to 0
abbrev places-each : ℕ → List (Place FlagState)
places-each zero = (missing, missing, 0, unset) ∷ []
places-each (suc j) = (missing, missing, suc j, every_track) ∷ places-each j

HasMinimalSize-each : (k n size : ℕ) → n < k → SizeOf plain (OnEach n) Any size → HasMinimalSize plain (root_on_each k n) size
HasMinimalSize-each k n size before = HasMinimalSize-of plain plain-guide decide-flag (root_on_each k n) (OnEach n) Any (minimal-each k n before) size

HasProductSize-each : (k n size : ℕ) → suc n < k → SizeOf plain (Pair n) Any size →
    HasProductSize plain (root_on_each k n) (root_on k (suc n)) size
HasProductSize-each k n size before = HasProductSize-of plain plain-guide decide-flag decide-flag (root_on_each k n) (root_on k (suc n))
    (OnEach n) Any (OnTrack (suc n)) Any (Pair n) Any (λ s z. z) (minimal-each k n (omega arith)) (minimal-on k (suc n) before) (pair-product n) size

-- their Sizes, by a test of the functions that are left where the tracks below some number are set
abbrev flags : List FlagState
flags = missing ∷ present ∷ []

size-each : (n size : ℕ) → is-tested flag-number (OnEach n) flags (suc n) (places-each n) ≡ true →
    length (square flag-number (OnEach n) flags (suc n)) + length (map (function flag-number (OnEach n) flags (suc n)) (places-each n)) ≡ size →
    SizeOf plain (OnEach n) Any size
size-each n size tested = SizeOf-tested flag-number flag-number-once (OnEach n) Any flags (λ q is. all-flag q) (λ q h. tt) (suc n)
    (λ p q l m same i. flag (all_set-looks n l m same i)) (places-each n) tested size

abbrev pair-number : FlagState × FlagState → ℕ
pair-number z = flag-number z.0 + 2 * flag-number z.1

flag-below : (x : FlagState) → flag-number x < 2
flag-below missing = omega arith
flag-below present = omega arith

pair-once : (z w : FlagState × FlagState) → pair-number z ≡ pair-number w → z ≡ w
pair-once z w e =
    let less = flag-below z.0 in
    let less' = flag-below w.0 in
    let of_first : flag-number z.0 ≡ flag-number w.0 = omega (arith, e, less, less') in
    let of_second : flag-number z.1 ≡ flag-number w.1 = omega (arith, e, less, less') in
    λ i. (flag-number-once z.0 w.0 of_first i, flag-number-once z.1 w.1 of_second i)

abbrev flag-pairs : List (FlagState × FlagState)
flag-pairs = (missing, missing) ∷ (missing, present) ∷ (present, missing) ∷ (present, present) ∷ []

all-pair : (x y : FlagState) → Contains flag-pairs (x, y)
all-pair missing missing = (0, ltb-true 0 4 refl, refl)
all-pair missing present = (1, ltb-true 1 4 refl, refl)
all-pair present missing = (2, ltb-true 2 4 refl, refl)
all-pair present present = (3, ltb-true 3 4 refl, refl)

abbrev none-met : FlagState × FlagState
none-met = (missing, missing)

abbrev places-pair : ℕ → List (Place (FlagState × FlagState))
places-pair zero = (none-met, none-met, 0, unset) ∷ (none-met, none-met, 1, unset) ∷ []
places-pair (suc j) = (none-met, none-met, suc j, every_track) ∷ places-pair j

size-pair : (n size : ℕ) → is-tested pair-number (Pair n) flag-pairs (suc (suc n)) (places-pair (suc n)) ≡ true →
    length (square pair-number (Pair n) flag-pairs (suc (suc n)))
    + length (map (function pair-number (Pair n) flag-pairs (suc (suc n))) (places-pair (suc n))) ≡ size →
    SizeOf plain (Pair n) Any size
size-pair n size tested = SizeOf-tested pair-number pair-once (Pair n) Any flag-pairs (λ z is. all-pair z.0 z.1) (λ z h. tt) (suc (suc n))
    (λ p q l m same i. (flag (all_set-looks n l m (λ t less. same t (omega arith)) i), flag (same (suc n) (omega arith) i)))
    (places-pair (suc n)) tested size

-- one formula more, whose automaton has the Size 5
more-roots : (k n peak first product result total : ℕ) → suc n < k → HasPeak plain (root_on_each k n) peak →
    SizeOf plain (OnEach n) Any first → SizeOf plain (Pair n) Any product → SizeOf plain (OnEach (suc n)) Any result →
    max peak (max (first + 58) (first + 5 + product + result)) ≡ total → HasPeak plain (root_on_each k (suc n)) total
unfolding root_on_each
more-roots k n peak first product result total before of_peak of_first of_product of_result greatest =
    (HasPeak-And plain (root_on_each k n) (root_on k (suc n)) total).1 (record {
      peak_first = peak;
      peak_second = 58;
      size_first = first;
      size_second = 5;
      size_product = product;
      size_result = result;
      of_peak_first = of_peak;
      of_peak_second = HasPeak-on k (suc n) before;
      of_first = HasMinimalSize-each k n first (omega arith) of_first;
      of_second = HasMinimalSize-on k (suc n) before;
      of_product = HasProductSize-each k n product before of_product;
      of_result = HasMinimalSize-each k (suc n) result before of_result;
      is_greatest = greatest;
    })

size-one : SizeOf plain (OnEach 0) Any 5
size-one = size-each 0 5 refl refl

size-two : SizeOf plain (OnEach 1) Any 6
size-two = size-each 1 6 refl refl

size-three : SizeOf plain (OnEach 2) Any 7
size-three = size-each 2 7 refl refl

size-four : SizeOf plain (OnEach 3) Any 8
size-four = size-each 3 8 refl refl

pub HasMinimalSize-three : HasMinimalSize plain (root_on_each 4 2) 7
HasMinimalSize-three = HasMinimalSize-each 4 2 7 (omega arith) size-three

HasPeak-first : HasPeak plain (root_on_each 4 0) 58
unfolding root_on_each
HasPeak-first = HasPeak-on 4 0 (omega arith)

HasPeak-two : HasPeak plain (root_on_each 4 1) 63
HasPeak-two = more-roots 4 0 58 5 19 6 63 (omega arith) HasPeak-first size-one (size-pair 0 19 refl refl) size-two refl

HasPeak-three : HasPeak plain (root_on_each 4 2) 64
HasPeak-three = more-roots 4 1 63 6 20 7 64 (omega arith) HasPeak-two size-two (size-pair 1 20 refl refl) size-three refl

pub HasPeak-four : HasPeak plain (root_on_each 4 3) 65
HasPeak-four = more-roots 4 2 64 7 21 8 65 (omega arith) HasPeak-three size-three (size-pair 2 21 refl refl) size-four refl

pub HasPeak-not_four : HasPeak plain (Not (root_on_each 4 3)) 65
HasPeak-not_four = (HasPeak-Not plain (root_on_each 4 3) 65).1 HasPeak-four
