-- On merging: an atom of one track twice holds always or never, and its minimal automaton has one state.
use Rattle.std.proofs.Common.{◌≡◌, Bool, true, false, ℕ, refl}
use Rattle.gta_theory.specs.Guides.{Spaces, IsGuide, IsSpace, left, right}
use Rattle.gta_theory.specs.Automata.{Automaton}
use Rattle.gta_theory.specs.Constructions.{IsReached, IsClosed, IsNaming}
use Rattle.gta_theory.specs.Generated.{Generated, starts, steps}
use Rattle.gta_theory.proofs.GeneratedLemmas.{IsReached-generated}
use Rattle.gta_theory.proofs.MinimalLemmas.{IsMinimal-classes}
use Rattle.ws2s_core.specs.declared.track.Track.{Track}
use Rattle.ws2s_core.specs.declared.formula.Formula.{Formula}
use Rattle.ws2s_core.specs.declared.formula.Formula.TheVariants.{Sub, Succ0, Succ1}
use Rattle.ws2s_core.specs.Recognising.{Recognises, IsMinimalOf}
use Rattle.ws2s_core.proofs.RecognisingLemmas.{Recognises-classes}
use Rattle.ws2s_theory.specs.Atoms.{SubState, inside, outside, is_inside, sub_step, sub_automaton}
use Rattle.ws2s_theory.specs.Atoms.{SuccState, neither, child, found, wrong, is_found, succ_step, succ0_automaton, succ1_automaton}
use Rattle.ws2s_theory.specs.Merging.{merged, Stands}
use Rattle.ws2s_theory.proofs.AtomsLemmas.{Recognises-Sub, Recognises-Succ0, Recognises-Succ1}
use Rattle.ws2s_theory.proofs.TestsLemmas.{every_track}

-- an automaton whose states that are met accept alike
module _ {Q : Type 0} (g : Spaces) (guide : IsGuide g) (A : Automaton Q) (f : Formula) (of_A : Recognises g A f) (is_met : Q → Bool)
    (closed : IsClosed g A (λ s q. is_met q ≡ true)) (generated : (s : ℕ) (q : Q) → IsSpace g s → is_met q ≡ true → Generated g A s q)
    (only : Q) (met : is_met only ≡ true) (accepting : (q : Q) → is_met q ≡ true → A.accepting q ≡ A.accepting only) where
  abbrev Met : ℕ → Q → Type 0
  Met s q = is_met q ≡ true

  abbrev class : ℕ → Q → Q
  class s q = only

  reached : IsReached g A Met
  reached = IsReached-generated g guide A of_A.stable Met closed (record { state = generated })

  naming : IsNaming g A Met (merged class A) class
  naming = record { initial = λ s there. refl; step = λ s p q label there in_p in_q. refl; accepting = accepting }

  pub IsMinimalOf-one : IsMinimalOf g (merged class A) (Stands class) f
  IsMinimalOf-one = record {
    minimal = IsMinimal-classes g guide A of_A.stable Met reached (merged class A) class naming (Stands class)
        (λ s x there. ((λ e. (only, met, e)), (λ h. h.2))) (λ s p q there in_p in_q differ. absurd (differ refl));
    recognises = Recognises-classes g guide A f of_A Met (merged class A) class reached naming;
  }

sub-step : (p q : SubState) (b : Bool) → is_inside p ≡ true → is_inside q ≡ true → is_inside (sub_step p q b b) ≡ true
sub-step inside inside true in_p in_q = refl
sub-step inside inside false in_p in_q = refl
sub-step outside q b in_p in_q = absurd cc
sub-step inside outside b in_p in_q = absurd cc

sub-accepting : (q : SubState) → is_inside q ≡ true → is_inside q ≡ true
sub-accepting q is = is

abbrev is-hopeless : SuccState → Bool
is-hopeless neither = true
is-hopeless child = false
is-hopeless found = false
is-hopeless wrong = true

succ-step : (p q : SuccState) (b : Bool) → is-hopeless p ≡ true → is-hopeless q ≡ true → is-hopeless (succ_step p q b b) ≡ true
succ-step neither neither true in_p in_q = refl
succ-step neither neither false in_p in_q = refl
succ-step neither wrong b in_p in_q = refl
succ-step wrong q b in_p in_q = refl
succ-step neither child b in_p in_q = absurd cc
succ-step neither found b in_p in_q = absurd cc
succ-step child q b in_p in_q = absurd cc
succ-step found q b in_p in_q = absurd cc

succ-accepting : (q : SuccState) → is-hopeless q ≡ true → is_found q ≡ false
succ-accepting neither is = refl
succ-accepting wrong is = refl
succ-accepting child is = absurd cc
succ-accepting found is = absurd cc

module _ (g : Spaces) (guide : IsGuide g) (x : Track) where
  sub-generated : (s : ℕ) (q : SubState) → IsSpace g s → is_inside q ≡ true → Generated g (sub_automaton x.0 x.0) s q
  sub-generated s inside there is = starts s there
  sub-generated s outside there is = absurd cc

  pub IsMinimalOf-Sub_same : IsMinimalOf g (merged (λ s q. inside) (sub_automaton x.0 x.0)) (Stands (λ s q. inside)) (Sub x x)
  IsMinimalOf-Sub_same = IsMinimalOf-one g guide (sub_automaton x.0 x.0) (Sub x x) (Recognises-Sub g guide x x) is_inside
      (record { initial = λ s there. refl; step = λ s p q label there in_p in_q. sub-step p q (label x.0) in_p in_q })
      sub-generated inside refl sub-accepting

  succ0-generated : (s : ℕ) (q : SuccState) → IsSpace g s → is-hopeless q ≡ true → Generated g (succ0_automaton x.0 x.0) s q
  succ0-generated s neither there is = starts s there
  succ0-generated s wrong there is = steps s neither neither every_track there
      (starts (left g s) (guide.left_inside s there)) (starts (right g s) (guide.right_inside s there))
  succ0-generated s child there is = absurd cc
  succ0-generated s found there is = absurd cc

  pub IsMinimalOf-Succ0_same : IsMinimalOf g (merged (λ s q. neither) (succ0_automaton x.0 x.0)) (Stands (λ s q. neither)) (Succ0 x x)
  IsMinimalOf-Succ0_same = IsMinimalOf-one g guide (succ0_automaton x.0 x.0) (Succ0 x x) (Recognises-Succ0 g guide x x) is-hopeless
      (record { initial = λ s there. refl; step = λ s p q label there in_p in_q. succ-step p q (label x.0) in_p in_q })
      succ0-generated neither refl succ-accepting

  succ1-generated : (s : ℕ) (q : SuccState) → IsSpace g s → is-hopeless q ≡ true → Generated g (succ1_automaton x.0 x.0) s q
  succ1-generated s neither there is = starts s there
  succ1-generated s wrong there is = steps s neither neither every_track there
      (starts (left g s) (guide.left_inside s there)) (starts (right g s) (guide.right_inside s there))
  succ1-generated s child there is = absurd cc
  succ1-generated s found there is = absurd cc

  pub IsMinimalOf-Succ1_same : IsMinimalOf g (merged (λ s q. neither) (succ1_automaton x.0 x.0)) (Stands (λ s q. neither)) (Succ1 x x)
  IsMinimalOf-Succ1_same = IsMinimalOf-one g guide (succ1_automaton x.0 x.0) (Succ1 x x) (Recognises-Succ1 g guide x x) is-hopeless
      (record { initial = λ s there. refl; step = λ s p q label there in_p in_q. succ-step q p (label x.0) in_q in_p })
      succ1-generated neither refl succ-accepting
