-- On the worked Peak: some set that is the root alone is within a track, under the plain guide.
use Rattle.std.proofs.Common.{◌≡◌, ◌≢◌, ℕ, ◌+◌, ◌*◌, ◌<◌, Bool, true, false, ◌&&◌, IsTrue, ◌↔◌, ◌⊎◌, inl, inr, List, [], ◌∷◌, Contains, refl, ap, subst, arith}
use Rattle.std.proofs.lemmas.Bool.{ltb-true}
use Rattle.labels.specs.Labels.{Label, with_track}
use Rattle.labels.proofs.LabelsLemmas.{HasAtMost-with_track}
use Rattle.gta_theory.specs.Automata.{Automaton, IsStable}
use Rattle.gta_theory.specs.Constructions.{pairs, IsReached, IsClosed, IsNaming, IsProduct, IsSubset, Settled, IsStepOf, HasAccepting}
use Rattle.gta_theory.specs.Generated.{Generated}
use Rattle.gta_theory.specs.Minimal.{AreSeparated, at_root, below_left}
use Rattle.gta_theory.specs.Sizes.{SizeOf}
use Rattle.gta_theory.proofs.AutomataLemmas.{IsStable-pairs}
use Rattle.gta_theory.proofs.GeneratedLemmas.{IsReached-generated, IsValue-generated}
use Rattle.ws2s_core.specs.declared.formula.Formula.{Formula}
use Rattle.ws2s_core.specs.declared.formula.Formula.TheVariants.{Sub, Root, And, Not}
use Rattle.ws2s_core.specs.Recognising.{Recognises, IsMinimalOf}
use Rattle.ws2s_core.specs.Examples.{track, has_root}
use Rattle.ws2s_core.proofs.RecognisingLemmas.{Recognises-And, Recognises-Ex2, Recognises-classes}
use Rattle.ws2s_theory.specs.Atoms.{SubState, inside, outside, is_inside, sub_step, RootState, absent, alone, lower, is_alone, root_step}
use Rattle.ws2s_theory.specs.Peaks.{HasMinimalSize, HasProductSize, HasSubsetSize, HasPeak}
use Rattle.ws2s_theory.specs.Worked.{plain}
use Rattle.ws2s_theory.proofs.FormsLemmas.{decide-sub, decide-root}
use Rattle.ws2s_theory.proofs.PeaksLemmas.{HasPeak-Sub, HasPeak-Root, HasPeak-And, HasPeak-Not, HasPeak-Ex2}
use Rattle.ws2s_theory.proofs.SizesLemmas.{HasMinimalSize-of, HasProductSize-of, HasSubsetSize-of}
use Rattle.ws2s_theory.proofs.TestsLemmas.{all-pass-at}
use Rattle.ws2s_theory.proofs.TestedSizesLemmas.{SizeOf-tested}
use Rattle.ws2s_theory.proofs.TestsLemmas.{Any}
use Rattle.ws2s_theory.proofs.WorkedLemmas.{plain-guide, zero-there, at-zero, minimal-all, unset, only, sub_10, minimal-sub, root_1, minimal-root}
use Rattle.ws2s_theory.proofs.WorkedLemmas.{HasMinimalSize-sub, HasMinimalSize-root, root-number, root-once, sub-number, sub-once}

-- the root alone on track 1, and within track 0
abbrev pub root_within : Formula
root_within = And (Root (track 1)) (Sub (track 1) (track 0))

-- the pairs of states that are values: all but those where track 1 has nothing and yet isn't within
abbrev pub is-met : RootState → SubState → Bool
is-met absent outside = false
is-met p i = true

abbrev Both : Automaton (RootState × SubState)
Both = pairs root_1 sub_10

abbrev Met : ℕ → RootState × SubState → Type 0
Met s z = IsTrue (is-met z.0 z.1)

met-step : (p q : RootState) (i j : SubState) (b c : Bool) → is-met p i ≡ true → is-met q j ≡ true →
    is-met (root_step p q b) (sub_step i j b c) ≡ true
met-step absent absent inside inside false true in_p in_q = refl
met-step absent absent inside inside false false in_p in_q = refl
met-step absent absent inside inside true true in_p in_q = refl
met-step absent absent inside inside true false in_p in_q = refl
met-step absent absent outside j b c in_p in_q = absurd cc
met-step absent absent inside outside b c in_p in_q = absurd cc
met-step absent alone i j b c in_p in_q = refl
met-step absent lower i j b c in_p in_q = refl
met-step alone q i j b c in_p in_q = refl
met-step lower q i j b c in_p in_q = refl

stable-root : IsStable plain root_1
stable-root = record { at = λ s there. refl }

stable-sub : IsStable plain sub_10
stable-sub = record { at = λ s there. refl }

-- all of them are made by steps
start : Generated plain Both 0 (absent, inside)
start = Rattle.gta_theory.specs.Generated.starts 0 zero-there

abbrev both-tracks : Label
both-tracks = with_track (only 1) 0 true

at-alone : Generated plain Both 0 (alone, inside)
at-alone = Rattle.gta_theory.specs.Generated.steps 0 (absent, inside) (absent, inside) both-tracks zero-there start start

at-outside : Generated plain Both 0 (alone, outside)
at-outside = Rattle.gta_theory.specs.Generated.steps 0 (absent, inside) (absent, inside) (only 1) zero-there start start

generated-both : (p : RootState) (i : SubState) → is-met p i ≡ true → Generated plain Both 0 (p, i)
generated-both absent inside is = start
generated-both absent outside is = absurd cc
generated-both alone inside is = at-alone
generated-both alone outside is = at-outside
generated-both lower inside is = Rattle.gta_theory.specs.Generated.steps 0 (alone, inside) (absent, inside) unset zero-there at-alone start
generated-both lower outside is = Rattle.gta_theory.specs.Generated.steps 0 (alone, outside) (absent, inside) unset zero-there at-outside start

is-product : IsProduct plain root_1 sub_10 Both Met (λ s z. z)
is-product = record {
  reached = IsReached-generated plain plain-guide Both (IsStable-pairs plain root_1 sub_10 stable-root stable-sub) Met
      (record {
        initial = λ s there. refl;
        step = λ s z w label there in_z in_w. met-step z.0 w.0 z.1 w.1 (label 1) (label 0) in_z in_w;
      })
      (record { state = λ s z there is. at-zero (λ k. Generated plain Both k z) (generated-both z.0 z.1 is) s there });
  naming = record { initial = λ s there. refl; step = λ s z w label there in_z in_w. refl; accepting = λ z is. refl };
  once = record { once = λ s z w there in_z in_w same. same };
}

five : List (RootState × SubState)
five = (absent, inside) ∷ (alone, inside) ∷ (alone, outside) ∷ (lower, inside) ∷ (lower, outside) ∷ []

listed-five : (p : RootState) (i : SubState) → is-met p i ≡ true → Contains five (p, i)
unfolding five
listed-five absent inside is = (0, ltb-true 0 5 refl, refl)
listed-five absent outside is = absurd cc
listed-five alone inside is = (1, ltb-true 1 5 refl, refl)
listed-five alone outside is = (2, ltb-true 2 5 refl, refl)
listed-five lower inside is = (3, ltb-true 3 5 refl, refl)
listed-five lower outside is = (4, ltb-true 4 5 refl, refl)

root-below : (p : RootState) → root-number p < 3
root-below absent = omega arith
root-below alone = omega arith
root-below lower = omega arith

abbrev both-number : RootState → SubState → ℕ
both-number p i = root-number p + 3 * sub-number i

both-once : (p : RootState) (i : SubState) (q : RootState) (j : SubState) → both-number p i ≡ both-number q j →
    ◌≡◌ {A = RootState × SubState} (p, i) (q, j)
both-once p i q j e =
    let less = root-below p in
    let less' = root-below q in
    let of_root : root-number p ≡ root-number q = omega (arith, e, less, less') in
    let of_sub : sub-number i ≡ sub-number j = omega (arith, e, less, less') in
    λ k. (root-once p q of_root k, sub-once i j of_sub k)

size-both : SizeOf plain Both Met 30
unfolding five
size-both = SizeOf-tested (λ z. both-number z.0 z.1) (λ z w e. both-once z.0 z.1 w.0 w.1 e) Both Met five
    (λ z is. listed-five z.0 z.1 is) (λ z h. all-pass-at (λ w. is-met w.0 w.1) five z refl h) 2
    (λ z w l m same i. (root_step z.0 w.0 (same 1 (omega arith) i), sub_step z.1 w.1 (same 1 (omega arith) i) (same 0 (omega arith) i)))
    (((absent, inside), (absent, inside), 0, unset) ∷ ((absent, inside), (absent, inside), 1, unset)
    ∷ ((absent, inside), (absent, inside), 1, only 0) ∷ ((alone, inside), (absent, inside), 0, unset)
    ∷ ((alone, inside), (absent, inside), 1, unset) ∷ []) refl 30 refl

pub HasProductSize-both : HasProductSize plain (Root (track 1)) (Sub (track 1) (track 0)) 30
HasProductSize-both = HasProductSize-of plain plain-guide decide-root decide-sub (Root (track 1)) (Sub (track 1) (track 0))
    root_1 Any sub_10 Any Both Met (λ s z. z) minimal-root minimal-sub is-product 30 size-both

-- the classes of those pairs: track 1 has nothing, or the root alone and within track 0, or neither
pub data HereState : Type 0 where
  free : HereState
  here : HereState
  gone : HereState

abbrev here_step : HereState → HereState → Bool → Bool → HereState
here_step free free false in_set = free
here_step free free true true = here
here_step free free true false = gone
here_step p q in_first in_set = gone

abbrev is_here : HereState → Bool
is_here free = false
is_here here = true
is_here gone = false

abbrev Here : Automaton HereState
Here = record {
  initial = λ s. free;
  step = λ s p q label. here_step p q (label 1) (label 0);
  accepting = is_here;
}

abbrev class : RootState → SubState → HereState
class absent inside = free
class alone inside = here
class p i = gone

class-step : (p q : RootState) (i j : SubState) (b c : Bool) →
    class (root_step p q b) (sub_step i j b c) ≡ here_step (class p i) (class q j) b c
class-step absent absent inside inside true true = refl
class-step absent absent inside inside true false = refl
class-step absent absent inside inside false true = refl
class-step absent absent inside inside false false = refl
class-step absent absent outside j true c = refl
class-step absent absent outside j false c = refl
class-step absent absent inside outside true c = refl
class-step absent absent inside outside false c = refl
class-step absent alone outside j b c = refl
class-step absent alone inside inside b c = refl
class-step absent alone inside outside b c = refl
class-step absent lower outside j b c = refl
class-step absent lower inside j b c = refl
class-step alone q inside j b c = refl
class-step alone q outside j b c = refl
class-step lower q i j b c = refl

class-accepting : (p : RootState) (i : SubState) → is_alone p && is_inside i ≡ is_here (class p i)
class-accepting absent inside = refl
class-accepting absent outside = refl
class-accepting alone inside = refl
class-accepting alone outside = refl
class-accepting lower inside = refl
class-accepting lower outside = refl

is-naming : IsNaming plain Both Met Here (λ s z. class z.0 z.1)
is-naming = record {
  initial = λ s there. refl;
  step = λ s z w label there in_z in_w. class-step z.0 w.0 z.1 w.1 (label 1) (label 0);
  accepting = λ z is. class-accepting z.0 z.1;
}

recognises-here : Recognises plain Here root_within
recognises-here = Recognises-classes plain plain-guide Both root_within
    (Recognises-And plain plain-guide root_1 (Root (track 1)) minimal-root.recognises sub_10 (Sub (track 1) (track 0)) minimal-sub.recognises
    Both Met (λ s z. z) is-product) Met Here (λ s z. class z.0 z.1) is-product.reached is-naming

start-here : Generated plain Here 0 free
start-here = Rattle.gta_theory.specs.Generated.starts 0 zero-there

here-generated : (q : HereState) → Generated plain Here 0 q
here-generated free = start-here
here-generated here = Rattle.gta_theory.specs.Generated.steps 0 free free both-tracks zero-there start-here start-here
here-generated gone = Rattle.gta_theory.specs.Generated.steps 0 free free (only 1) zero-there start-here start-here

free-gone : AreSeparated plain Here 0 free gone
free-gone = below_left 0 free gone free both-tracks zero-there
    (IsValue-generated plain plain-guide Here recognises-here.stable 0 free start-here) (at_root here gone (λ e. absurd cc))

gone-free : AreSeparated plain Here 0 gone free
gone-free = below_left 0 gone free free both-tracks zero-there
    (IsValue-generated plain plain-guide Here recognises-here.stable 0 free start-here) (at_root gone here (λ e. absurd cc))

here-apart : (p q : HereState) → p ≢ q → AreSeparated plain Here 0 p q
here-apart free free differ = absurd (differ refl)
here-apart here here differ = absurd (differ refl)
here-apart gone gone differ = absurd (differ refl)
here-apart free here differ = at_root free here (λ e. absurd cc)
here-apart here free differ = at_root here free (λ e. absurd cc)
here-apart here gone differ = at_root here gone (λ e. absurd cc)
here-apart gone here differ = at_root gone here (λ e. absurd cc)
here-apart free gone differ = free-gone
here-apart gone free differ = gone-free

minimal-here : IsMinimalOf plain Here Any root_within
minimal-here = minimal-all Here root_within recognises-here here-generated here-apart

decide-here : (p q : HereState) → (p ≡ q) ⊎ (p ≢ q)
decide-here free free = inl refl
decide-here here here = inl refl
decide-here gone gone = inl refl
decide-here p q = inr (λ e. absurd cc)

abbrev here-number : HereState → ℕ
here-number free = 0
here-number here = 1
here-number gone = 2

here-once : (p q : HereState) → here-number p ≡ here-number q → p ≡ q
here-once free free e = refl
here-once here here e = refl
here-once gone gone e = refl
here-once p q e = absurd (omega (arith, e))

all-here : (q : HereState) → Contains (free ∷ here ∷ gone ∷ []) q
all-here free = (0, ltb-true 0 3 refl, refl)
all-here here = (1, ltb-true 1 3 refl, refl)
all-here gone = (2, ltb-true 2 3 refl, refl)

size-here : SizeOf plain Here Any 12
size-here = SizeOf-tested here-number here-once Here Any (free ∷ here ∷ gone ∷ []) (λ q is. all-here q) (λ q h. tt) 2
    (λ p q l m same i. here_step p q (same 1 (omega arith) i) (same 0 (omega arith) i))
    ((free, free, 0, unset) ∷ (free, free, 1, unset) ∷ (free, free, 1, only 0) ∷ []) refl 12 refl

pub HasMinimalSize-within : HasMinimalSize plain root_within 12
HasMinimalSize-within = HasMinimalSize-of plain plain-guide decide-here root_within Here Any minimal-here 12 size-here

-- whether the root is in track 0
pub data FlagState : Type 0 where
  missing : FlagState
  present : FlagState

abbrev pub flag : Bool → FlagState
flag true = present
flag false = missing

abbrev pub is_present : FlagState → Bool
is_present missing = false
is_present present = true

abbrev pub Flag : Automaton FlagState
Flag = record { initial = λ s. missing; step = λ s p q label. flag (label 0); accepting = is_present }

-- the set of states that it stands for
abbrev holds : FlagState → HereState → Bool
holds missing here = false
holds x q = true

abbrev Member : ℕ → FlagState → HereState → Type 0
Member s x q = IsTrue (holds x q)

start-flag : Generated plain Flag 0 missing
start-flag = Rattle.gta_theory.specs.Generated.starts 0 zero-there

flag-generated : (q : FlagState) → Generated plain Flag 0 q
flag-generated missing = start-flag
flag-generated present = Rattle.gta_theory.specs.Generated.steps 0 missing missing (only 0) zero-there start-flag start-flag

no-here : (p q : HereState) (b c : Bool) → c ≡ false → holds missing (here_step p q b c) ≡ true
no-here free free true true e = absurd cc
no-here free free true false e = refl
no-here free free false true e = refl
no-here free free false false e = refl
no-here free here b c e = refl
no-here free gone b c e = refl
no-here here q b c e = refl
no-here gone q b c e = refl

held-settled : (q : HereState) → holds missing q ≡ true → Settled plain Here 1 0 q
held-settled free is = Rattle.gta_theory.specs.Constructions.starts 0 zero-there
held-settled here is = absurd cc
held-settled gone is = Rattle.gta_theory.specs.Constructions.steps 0 free free (only 1) zero-there (HasAtMost-with_track 1 true)
    (Rattle.gta_theory.specs.Constructions.starts 0 zero-there) (Rattle.gta_theory.specs.Constructions.starts 0 zero-there)

settled-held : (s : ℕ) (q : HereState) → Settled plain Here 1 s q → holds missing q ≡ true
settled-held _ _ (Rattle.gta_theory.specs.Constructions.starts s there) = refl
settled-held _ _ (Rattle.gta_theory.specs.Constructions.steps s p q label there at_most l r) =
    no-here p q (label 1) (label 0) (at_most 0 (λ e. absurd (omega (arith, e))))

holds-free : (x : FlagState) → holds x free ≡ true
holds-free missing = refl
holds-free present = refl

holds-gone : (x : FlagState) → holds x gone ≡ true
holds-gone missing = refl
holds-gone present = refl

abbrev StepOf : ℕ → FlagState → FlagState → Label → HereState → Type 0
StepOf s x y label q = IsStepOf Here 1 s (λ p. IsTrue (holds x p)) (λ p. IsTrue (holds y p)) label q

held-step : (s : ℕ) (x y : FlagState) (label : Label) (c : Bool) → label 0 ≡ c → (q : HereState) → holds (flag c) q ≡ true → StepOf s x y label q
held-step s x y label c e free is = record {
  left = free;
  right = free;
  bit = false;
  in_left = holds-free x;
  in_right = holds-free y;
  is_step = refl;
}
held-step s x y label true e here is = record {
  left = free;
  right = free;
  bit = true;
  in_left = holds-free x;
  in_right = holds-free y;
  is_step = ap (here_step free free true) e;
}
held-step s x y label false e here is = absurd cc
held-step s x y label c e gone is = record {
  left = gone;
  right = free;
  bit = false;
  in_left = holds-gone x;
  in_right = holds-free y;
  is_step = refl;
}

step-held : (c : Bool) (p q r : HereState) (b : Bool) → here_step p q b c ≡ r → holds (flag c) r ≡ true
step-held true p q r b e = refl
step-held false p q r b e = subst (λ z. holds missing z ≡ true) e (no-here p q b false refl)

none-accepting : (q : HereState) → holds missing q ≡ true → is_here q ≡ true → ⊥
none-accepting free held is = absurd cc
none-accepting here held is = absurd cc
none-accepting gone held is = absurd cc

accepting-held : (x : FlagState) → IsTrue (is_present x) ↔ HasAccepting Here (λ q. IsTrue (holds x q))
accepting-held missing = ((λ is. absurd cc), (λ h. absurd (none-accepting h.state h.inside h.accepting)))
accepting-held present = ((λ is. record { state = here; inside = refl; accepting = refl }), (λ h. refl))

flag-once : (x y : FlagState) → IsTrue (holds x here) ↔ IsTrue (holds y here) → x ≡ y
flag-once missing missing same = refl
flag-once present present same = refl
flag-once missing present same = let e = same.1 refl in absurd cc
flag-once present missing same = let e = same.0 refl in absurd cc

closed-flag : IsClosed plain Flag Any
closed-flag = record { initial = λ s there. tt; step = λ s p q label there in_p in_q. tt }

is-subset : IsSubset plain Here 1 Flag Any Member
is-subset = record {
  reached = IsReached-generated plain plain-guide Flag (record { at = λ s there. refl }) Any closed-flag
      (record { state = λ s x there is. at-zero (λ k. Generated plain Flag k x) (flag-generated x) s there });
  initial = λ s q there. ((λ held. at-zero (λ k. Settled plain Here 1 k q) (held-settled q held) s there), settled-held s q);
  step = λ s x y label q there in_x in_y. (
    held-step s x y label (label 0) refl q,
    (λ h. step-held (label 0) h.left h.right q h.bit h.is_step),
  );
  accepting = λ x is. accepting-held x;
  once = λ s x y there in_x in_y same. flag-once x y (same here);
}

flag-apart : (p q : FlagState) → p ≢ q → AreSeparated plain Flag 0 p q
flag-apart missing missing differ = absurd (differ refl)
flag-apart present present differ = absurd (differ refl)
flag-apart missing present differ = at_root missing present (λ e. absurd cc)
flag-apart present missing differ = at_root present missing (λ e. absurd cc)

pub minimal-flag : IsMinimalOf plain Flag Any has_root
minimal-flag = minimal-all Flag has_root
    (Recognises-Ex2 plain plain-guide Here root_within recognises-here (track 1) Flag Any Member is-subset) flag-generated flag-apart

pub decide-flag : (p q : FlagState) → (p ≡ q) ⊎ (p ≢ q)
decide-flag missing missing = inl refl
decide-flag present present = inl refl
decide-flag missing present = inr (λ e. absurd cc)
decide-flag present missing = inr (λ e. absurd cc)

abbrev pub flag-number : FlagState → ℕ
flag-number missing = 0
flag-number present = 1

pub flag-number-once : (p q : FlagState) → flag-number p ≡ flag-number q → p ≡ q
flag-number-once missing missing e = refl
flag-number-once present present e = refl
flag-number-once missing present e = absurd (omega (arith, e))
flag-number-once present missing e = absurd (omega (arith, e))

pub all-flag : (q : FlagState) → Contains (missing ∷ present ∷ []) q
all-flag missing = (0, ltb-true 0 2 refl, refl)
all-flag present = (1, ltb-true 1 2 refl, refl)

size-flag : SizeOf plain Flag Any 5
size-flag = SizeOf-tested flag-number flag-number-once Flag Any (missing ∷ present ∷ []) (λ q is. all-flag q) (λ q h. tt) 1
    (λ p q l m same i. flag (same 0 (omega arith) i)) ((missing, missing, 0, unset) ∷ []) refl 5 refl

pub HasSubsetSize-flag : HasSubsetSize plain (track 1) root_within 5
HasSubsetSize-flag = HasSubsetSize-of plain plain-guide decide-here (track 1) root_within Here Any Flag Any Member minimal-here is-subset 5 size-flag

pub HasMinimalSize-flag : HasMinimalSize plain has_root 5
HasMinimalSize-flag = HasMinimalSize-of plain plain-guide decide-flag has_root Flag Any minimal-flag 5 size-flag

pub HasPeak-within : HasPeak plain root_within 58
HasPeak-within = (HasPeak-And plain (Root (track 1)) (Sub (track 1) (track 0)) 58).1 (record {
  peak_first = 10;
  peak_second = 6;
  size_first = 10;
  size_second = 6;
  size_product = 30;
  size_result = 12;
  of_peak_first = (HasPeak-Root plain (track 1) 10).1 HasMinimalSize-root;
  of_peak_second = (HasPeak-Sub plain (track 1) (track 0) 6).1 HasMinimalSize-sub;
  of_first = HasMinimalSize-root;
  of_second = HasMinimalSize-sub;
  of_product = HasProductSize-both;
  of_result = HasMinimalSize-within;
  is_greatest = refl;
})

pub HasPeak-has_root : HasPeak plain has_root 58
HasPeak-has_root = (HasPeak-Ex2 plain (track 1) root_within 58).1 (record {
  peak_part = 58;
  size_part = 12;
  size_subset = 5;
  size_result = 5;
  of_peak_part = HasPeak-within;
  of_part = HasMinimalSize-within;
  of_subset = HasSubsetSize-flag;
  of_result = HasMinimalSize-flag;
  is_greatest = refl;
})

pub HasPeak-not_has_root : HasPeak plain (Not has_root) 58
HasPeak-not_has_root = (HasPeak-Not plain has_root 58).1 HasPeak-has_root
