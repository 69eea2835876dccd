-- On subset automata: one with numbered states exists of an automaton with finitely many states, whose steps look at
-- finitely many tracks.
use Rattle.std.proofs.Common.{◌≡◌, ◌≢◌, ℕ, ◌<◌, Bool, IsTrue, ◌↔◌, ◌⊎◌, inl, inr, List, map, length, Contains, refl, sym, subst, ◌∙◌, arith}
use Rattle.std.proofs.lemmas.Bool.{cases_eq, ltb-true, lt-ltb}
use Rattle.std.proofs.lemmas.List.Elements.{All-contains, All-map}
use Rattle.labels.specs.Labels.{Label, empty_label, with_track, HasAtMost}
use Rattle.labels.proofs.LabelsLemmas.{with_track-at_most, HasAtMost-with_track}
use Rattle.gta_theory.specs.Guides.{Spaces, IsSpace, IsGuide, left, right}
use Rattle.gta_theory.specs.Automata.{Automaton, IsStable}
use Rattle.gta_theory.specs.Constructions.{IsClosed, Settled, starts, steps, IsStepOf, HasAccepting, IsSubset}
use Rattle.gta_theory.specs.Generated.{IsNamingSets}
use Rattle.gta_theory.specs.Sizes.{LooksBelow}
use Rattle.gta_theory.specs.Numbered.{Below, IsNumbered}
use Rattle.gta_theory.proofs.GeneratedLemmas.{IsStable-closed_sets}
use Rattle.gta_theory.proofs.LooksLemmas.{IsStepOf-looks}
use Rattle.gta_theory.proofs.NumberedLemmas.{IsMadeList, made-listed, listed-below, name-inside, IsNumbered-exists}
use Rattle.gta_theory.proofs.BitsLemmas.{member, bits, length-bits, member-bits, member-below, bits-same, decide-bits, bit-lists}
use Rattle.gta_theory.proofs.BitsLemmas.{Contains-bit-lists, bit-lists-length}
use Rattle.gta_theory.proofs.ListsLemmas.{All-from_contains, Contains-map, numbers, Contains-numbers, numbers-below, find, compare-pairs}
use Rattle.gta_theory.proofs.ListsLemmas.{all-pairs, Contains-all-pairs}
use Rattle.gta_theory.proofs.DecisionsLemmas.{both-bits, Contains-both-bits, decide-true, search-list, as-bit, as-bit-is, decide-and}

-- the members of a list of decisions are what holds
member-decided : (n : ℕ) (P : ℕ → Type 0) (decide : (q : ℕ) → P q ⊎ (P q → ⊥)) → ((q : ℕ) → P q → q < n) → (q : ℕ) →
    IsTrue (member (bits n (λ q. as-bit (decide q))) q) ↔ P q
member-decided n P decide below q = (
  (λ is.
      let inside = member-below (bits n (λ q. as-bit (decide q))) q is in
      let fits : q < n = omega (arith, inside, length-bits n (λ q. as-bit (decide q))) in
      (as-bit-is (decide q)).0 (sym (member-bits n (λ q. as-bit (decide q)) q fits) ∙ is)),
  (λ holds. member-bits n (λ q. as-bit (decide q)) q (below q holds) ∙ (as-bit-is (decide q)).1 holds),
)

-- steps and acceptance of sets are decided by search
module _ (A : Automaton ℕ) (t : ℕ) where
  abbrev StepOf : ℕ → List Bool → List Bool → Label → ℕ → Type 0
  StepOf s X Y label q = IsStepOf A t s (λ p. IsTrue (member X p)) (λ p. IsTrue (member Y p)) label q

  abbrev IsWay : ℕ → List Bool → List Bool → Label → ℕ → (ℕ × ℕ) × Bool → Type 0
  IsWay s X Y label q z =
      (IsTrue (member X (z.0).0) × IsTrue (member Y (z.0).1)) × (A.step s (z.0).0 (z.0).1 (with_track label t z.1) ≡ q)

  decide-step : (s : ℕ) (X Y : List Bool) (label : Label) (q : ℕ) → StepOf s X Y label q ⊎ (StepOf s X Y label q → ⊥)
  decide-step s X Y label q = elim (search-list (IsWay s X Y label q)
      (λ z. decide-and (decide-and (decide-true (member X (z.0).0)) (decide-true (member Y (z.0).1)))
      (cases_eq (A.step s (z.0).0 (z.0).1 (with_track label t z.1)) q))
      (all-pairs (all-pairs (numbers (length X)) (numbers (length Y))) both-bits))
      as (λ _. StepOf s X Y label q ⊎ (StepOf s X Y label q → ⊥)) [
        | inl found ↦ inl (record {
          left = ((found.0).0).0;
          right = ((found.0).0).1;
          bit = (found.0).1;
          in_left = ((found.2).0).0;
          in_right = ((found.2).0).1;
          is_step = (found.2).1;
        })
        | inr none ↦ inr (λ h. none ((h.left, h.right), h.bit)
            (Contains-all-pairs (all-pairs (numbers (length X)) (numbers (length Y))) both-bits (h.left, h.right) h.bit
            (Contains-all-pairs (numbers (length X)) (numbers (length Y)) h.left h.right
            (Contains-numbers (length X) h.left (member-below X h.left h.in_left))
            (Contains-numbers (length Y) h.right (member-below Y h.right h.in_right)))
            (Contains-both-bits h.bit))
            ((h.in_left, h.in_right), h.is_step))
      ]

  abbrev Accepting : List Bool → Type 0
  Accepting X = HasAccepting A (λ q. IsTrue (member X q))

  decide-accepting : (X : List Bool) → Accepting X ⊎ (Accepting X → ⊥)
  decide-accepting X = elim (search-list (λ q. IsTrue (member X q) × IsTrue (A.accepting q))
      (λ q. decide-and (decide-true (member X q)) (decide-true (A.accepting q))) (numbers (length X)))
      as (λ _. Accepting X ⊎ (Accepting X → ⊥)) [
        | inl found ↦ inl (record { state = found.0; inside = (found.2).0; accepting = (found.2).1 })
        | inr none ↦ inr (λ h. none h.state (Contains-numbers (length X) h.state (member-below X h.state h.inside)) (h.inside, h.accepting))
      ]

module _ (g : Spaces) (guide : IsGuide g) (A : Automaton ℕ) (stable : IsStable g A) (count : ℕ → ℕ)
    (closed : IsClosed g A (Below count)) (k : ℕ) (looks : LooksBelow g A (Below count) k) (t : ℕ) where
  -- the labels with at most the dropped track
  two-labels : List Label
  two-labels = map (with_track empty_label t) both-bits

  two-labels-at_most : (label : Label) → Contains two-labels label → HasAtMost t label
  unfolding two-labels
  two-labels-at_most label h = All-contains (HasAtMost t) (map (with_track empty_label t) both-bits) label
      (All-map (HasAtMost t) (with_track empty_label t) both-bits
      (All-from_contains (λ b. HasAtMost t (with_track empty_label t b)) both-bits (λ b inside. HasAtMost-with_track t b))) h

  abbrev IsSettledList : List (ℕ × ℕ) → Type 0
  IsSettledList = IsMadeList cases_eq g A (λ s. numbers (count s)) (listed-below g count A closed) two-labels (Settled g A t) starts
      (λ s p q label there in_two of_p of_q. steps s p q label there (two-labels-at_most label in_two) of_p of_q)

  settled-list : (ys : List (ℕ × ℕ)) × IsSettledList ys
  settled-list = made-listed cases_eq g A (λ s. numbers (count s)) (listed-below g count A closed) two-labels (Settled g A t) starts
      (λ s p q label there in_two of_p of_q. steps s p q label there (two-labels-at_most label in_two) of_p of_q)

  -- settled states are listed
  module _ (ys : List (ℕ × ℕ)) (of_ys : IsSettledList ys) where
    settled-in : (s q : ℕ) → Settled g A t s q → Contains ys (s, q)
    unfolding two-labels
    settled-in _ _ (starts s there) = of_ys.initial s there
    settled-in _ _ (steps s p q label there at_most l r) =
        subst (λ other. Contains ys (s, A.step s p q other)) (with_track-at_most t label at_most)
        (of_ys.step s p q (with_track empty_label t (label t)) there
        (Contains-map (with_track empty_label t) both-bits (label t) (Contains-both-bits (label t)))
        (settled-in (left g s) p l) (settled-in (right g s) q r))

    decide-in : (s q : ℕ) → Settled g A t s q ⊎ (Settled g A t s q → ⊥)
    decide-in s q = elim (find (λ x y. x ≢ y) (λ x. Unit {0}) (λ x y fine_x fine_y. compare-pairs cases_eq cases_eq x y) (s, q) ys tt (λ i d below. tt))
        as (λ _. Settled g A t s q ⊎ (Settled g A t s q → ⊥)) [
          | inl h ↦ inl (of_ys.good s q h).1
          | inr others ↦ inr (λ is. All-contains (λ x. (s, q) ≢ x) ys (s, q) others (settled-in s q is) refl)
        ]

  decide-settled : (s q : ℕ) → Settled g A t s q ⊎ (Settled g A t s q → ⊥)
  decide-settled = decide-in settled-list.0 settled-list.1

  settled-below : (s q : ℕ) → Settled g A t s q → q < count s
  settled-below s q is = numbers-below (count s) q ((settled-list.1).good s q (settled-in settled-list.0 settled-list.1 s q is)).0

  -- the automaton of all sets of states
  sets : Automaton (List Bool)
  sets = record {
    initial = λ s. bits (count s) (λ q. as-bit (decide-settled s q));
    step = λ s X Y label. bits (count s) (λ q. as-bit (decide-step A t s X Y label q));
    accepting = λ X. as-bit (decide-accepting A t X);
  }

  abbrev IsSet : ℕ → List Bool → Type 0
  IsSet s X = Contains (bit-lists (count s)) X

  abbrev IsMember : ℕ → List Bool → ℕ → Type 0
  IsMember s X q = IsTrue (member X q)

  IsClosed-sets : IsClosed g sets IsSet
  unfolding sets
  IsClosed-sets = record {
    initial = λ s there. Contains-bit-lists (count s) (sets.initial s) (length-bits (count s) (λ q. as-bit (decide-settled s q)));
    step = λ s X Y label there in_X in_Y. Contains-bit-lists (count s) (sets.step s X Y label)
        (length-bits (count s) (λ q. as-bit (decide-step A t s X Y label q)));
  }

  set-below : (s q : ℕ) (X : List Bool) → IsSet s X → IsTrue (member X q) → Below count s q
  set-below s q X inside is = lt-ltb q (count s) (omega (arith, member-below X q is, bit-lists-length (count s) X inside))

  step-below : (s : ℕ) (X Y : List Bool) (label : Label) → IsSpace g s → IsSet (left g s) X → IsSet (right g s) Y → (q : ℕ) →
      StepOf A t s X Y label q → q < count s
  step-below s X Y label there in_X in_Y q h = subst (λ z. z < count s) h.is_step
      (ltb-true (A.step s h.left h.right (with_track label t h.bit)) (count s)
      (closed.step s h.left h.right (with_track label t h.bit) there
      (set-below (left g s) h.left X in_X h.in_left) (set-below (right g s) h.right Y in_Y h.in_right)))

  member-step : (s : ℕ) (X Y : List Bool) (label : Label) (q : ℕ) → IsSpace g s → IsSet (left g s) X → IsSet (right g s) Y →
      IsTrue (member (sets.step s X Y label) q) ↔ StepOf A t s X Y label q
  unfolding sets
  member-step s X Y label q there in_X in_Y =
      member-decided (count s) (StepOf A t s X Y label) (decide-step A t s X Y label) (step-below s X Y label there in_X in_Y) q

  sets-once : (s : ℕ) (X Y : List Bool) → IsSet s X → IsSet s Y → ((q : ℕ) → IsTrue (member X q) ↔ IsTrue (member Y q)) → X ≡ Y
  sets-once s X Y in_X in_Y same = bits-same X Y (bit-lists-length (count s) X in_X ∙ sym (bit-lists-length (count s) Y in_Y)) same

  IsNamingSets-sets : IsNamingSets g A t sets IsSet IsMember
  unfolding sets
  IsNamingSets-sets = record {
    initial = λ s q there. member-decided (count s) (Settled g A t s) (decide-settled s) (settled-below s) q;
    step = λ s X Y label q there in_X in_Y. member-step s X Y label q there in_X in_Y;
    accepting = λ X in_X. as-bit-is (decide-accepting A t X);
    once = λ s X Y there in_X in_Y same. sets-once s X Y in_X in_Y same;
  }

  LooksBelow-sets : LooksBelow g sets IsSet k
  LooksBelow-sets = record {
    step = λ s X Y l m there in_X in_Y same.
        let in_left : (p : ℕ) → IsTrue (member X p) → Below count (left g s) p = λ p is. set-below (left g s) p X in_X is in
        let in_right : (p : ℕ) → IsTrue (member Y p) → Below count (right g s) p = λ p is. set-below (right g s) p Y in_Y is in
        sets-once s (sets.step s X Y l) (sets.step s X Y m)
        (IsClosed-sets.step s X Y l there in_X in_Y) (IsClosed-sets.step s X Y m there in_X in_Y) (λ q. (
          (λ h. (member-step s X Y m q there in_X in_Y).1 (IsStepOf-looks g A (Below count) k looks t s (λ p. IsTrue (member X p)) (λ p. IsTrue (member Y p))
              there in_left in_right l m q same ((member-step s X Y l q there in_X in_Y).0 h))),
          (λ h. (member-step s X Y l q there in_X in_Y).1 (IsStepOf-looks g A (Below count) k looks t s (λ p. IsTrue (member X p)) (λ p. IsTrue (member Y p))
              there in_left in_right m l q (λ u below. sym (same u below)) ((member-step s X Y m q there in_X in_Y).0 h))),
        ));
  }

  stable-sets : IsStable g sets
  stable-sets = IsStable-closed_sets g guide A stable t sets IsSet IsMember IsClosed-sets IsNamingSets-sets

  -- numbered sets are the subset automaton
  module _ (B : Automaton ℕ) (counts : ℕ → ℕ) (name : ℕ → ℕ → List Bool) (is : IsNumbered g sets B counts name) where
    is-set : (s x : ℕ) → IsSpace g s → Below counts s x → IsSet s (name s x)
    is-set = name-inside g guide sets stable-sets IsSet IsClosed-sets B counts name is

    IsSubset-numbered : IsSubset g A t B (Below counts) (λ s x q. IsTrue (member (name s x) q))
    IsSubset-numbered = record {
      reached = is.reached;
      initial = λ s q there. subst (λ X. IsTrue (member X q) ↔ Settled g A t s q) (sym ((is.naming).initial s there))
          (IsNamingSets-sets.initial s q there);
      step = λ s x y label q there in_x in_y.
          subst (λ X. IsTrue (member X q) ↔ StepOf A t s (name (left g s) x) (name (right g s) y) label q)
          (sym ((is.naming).step s x y label there in_x in_y))
          (IsNamingSets-sets.step s (name (left g s) x) (name (right g s) y) label q there
          (is-set (left g s) x (guide.left_inside s there) in_x) (is-set (right g s) y (guide.right_inside s there) in_y));
      accepting = λ x in_x. subst (λ b. IsTrue b ↔ Accepting A t (name 0 x)) (sym ((is.naming).accepting x in_x))
          (IsNamingSets-sets.accepting (name 0 x) (is-set 0 x guide.not_empty in_x));
      once = λ s x y there in_x in_y same. (is.once).once s x y there in_x in_y
          (IsNamingSets-sets.once s (name s x) (name s y) there (is-set s x there in_x) (is-set s y there in_y) same);
    }

  pub IsSubset-exists : (B : Automaton ℕ) × (counts : ℕ → ℕ) × (members : ℕ → ℕ → ℕ → Bool)
      × IsSubset g A t B (Below counts) (λ s x q. IsTrue (members s x q))
  IsSubset-exists =
      let found = IsNumbered-exists decide-bits g guide sets stable-sets (λ s. bit-lists (count s)) IsClosed-sets k LooksBelow-sets in
      (found.0, found.1, (λ s x q. member (found.2 s x) q), IsSubset-numbered found.0 found.1 found.2 found.3)
