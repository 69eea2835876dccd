-- On properties whose lightest trees are too large.
use Rattle.std.proofs.Common.{◌≡◌, ◌↔◌, ℕ, List, refl, subst}
use Rattle.gta_theory.specs.Assignments.{Assignment, Covers}
use Rattle.gta_theory.specs.Guides.{Spaces}
use Rattle.gta_theory.specs.Automata.{Automaton, Accepts}
use Rattle.ws2s_core.specs.declared.track.Track.{Track}
use Rattle.gta_witness.specs.declared.lightest.Lightest.{Lightest}
use Rattle.ws2s_core.specs.LabelTrees.{assignment_of}
use Rattle.gta_witness.specs.Lightest.{each_once, AreTooLarge}
use Rattle.gta_witness.specs.Answers.{IsLightestOf}

-- it is so for each property that is the same of assignments of finite sets
pub AreTooLarge-for : (P Q : Assignment → Type 0) (tracks : List ℕ) → ((n : ℕ) (a : Assignment) → Covers n a → P a → Q a) →
    ((n : ℕ) (a : Assignment) → Covers n a → Q a → P a) → AreTooLarge P tracks → AreTooLarge Q tracks
AreTooLarge-for P Q tracks to back large = record {
  some = (large.some.0, large.some.1, large.some.2, to large.some.0 large.some.1 large.some.2 large.some.3);
  no_room = λ n m a least tree room. large.no_room n m a
      (record {
        covers = least.covers;
        holds = back n a least.covers least.holds;
        least = λ k b covers holds. least.least k b covers (to k b covers holds);
      }) tree room;
}

pub AreTooLarge-same : (P Q : Assignment → Type 0) (tracks : List ℕ) → ((a : Assignment) → P a → Q a) → ((a : Assignment) → Q a → P a) →
    AreTooLarge P tracks → AreTooLarge Q tracks
AreTooLarge-same P Q tracks to back = AreTooLarge-for P Q tracks (λ n a covers. to a) (λ n a covers. back a)

-- nothing is accepted where that is said, and only there
pub none-exactly : {Q : Type 0} (g : Spaces) (A : Automaton Q) (tracks : List Track) (answer : Lightest) → IsLightestOf g A tracks answer →
    (answer ≡ Lightest.None) ↔ ((tree : Assignment) → Accepts g A tree → ⊥)
none-exactly g A tracks Lightest.None of = (λ e. of, λ nothing. refl)
none-exactly g A tracks (Lightest.Tree nodes w) of = (λ e. absurd cc, λ nothing. absurd (nothing (assignment_of nodes) of.accepted))
none-exactly g A tracks Lightest.TooLarge of = (λ e. absurd cc, λ nothing. absurd (nothing of.some.1 of.some.3))

pub large-so : {Q : Type 0} (g : Spaces) (A : Automaton Q) (tracks : List Track) (answer : Lightest) → IsLightestOf g A tracks answer →
    answer ≡ Lightest.TooLarge → AreTooLarge (Accepts g A) (each_once tracks)
large-so g A tracks answer of e = subst (IsLightestOf g A tracks) e of
