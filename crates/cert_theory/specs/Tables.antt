-- Tables of pairs and of sets: how the states of a formula's parts go to the states of its automaton. A table of pairs
-- goes along with the steps of both parts, a table of sets with those of the part over all that a dropped track may be.
-- (Textbook: Comon and others, Tree Automata Techniques and Applications, chapter 1: product, projection, determinisation.)
use Rattle.std.specs.Prelude.{◌≡◌, ◌⊎◌, ℕ, ◌<◌, ◌&&◌, IsTrue, ◌↔◌, List, Contains, slice_get, Some}
use Rattle.labels.specs.Labels.{Label, HasAtMost}
use Rattle.gta_theory.specs.Guides.{Spaces, IsSpace, left, right}
use Rattle.gta_theory.specs.Automata.{Automaton}
use Rattle.gta_theory.specs.Constructions.{IsStepOf, HasAccepting}

-- in a space, a state of the left part and one of the right go to a state of the whole
pub record NamedPair : Type 0 where
  pub space : ℕ
  pub first : ℕ
  pub second : ℕ
  pub state : ℕ

-- in a space, the set of these states of the part goes to a state of the whole
pub record NamedSet : Type 0 where
  pub space : ℕ
  pub members : List ℕ
  pub state : ℕ

-- the pair goes to that state
pub record GoesTo (table : List NamedPair) (s p q state : ℕ) : Type 0 where
  pub pair : NamedPair
  pub listed : Contains table pair
  pub in_space : pair.space ≡ s
  pub is_first : pair.first ≡ p
  pub is_second : pair.second ≡ q
  pub is_state : pair.state ≡ state

-- the pairs lead from the automata A and B to C: the initial states go to the initial one; with two pairs of the child
-- spaces the pair of the parts' steps is there, and goes to the step of the states that the two go to; in space 0 A and B
-- accept exactly where C does; and no pair goes to two states
pub record IsPairTable (g : Spaces) (A B : Automaton ℕ) (table : List NamedPair) (C : Automaton ℕ) : Type 0 where
  pub initial : (s : ℕ) → IsSpace g s → GoesTo table s (A.initial s) (B.initial s) (C.initial s)
  pub step : (s p q x p' q' y : ℕ) (label : Label) → IsSpace g s →
      GoesTo table (left g s) p q x → GoesTo table (right g s) p' q' y →
      GoesTo table s (A.step s p p' label) (B.step s q q' label) (C.step s x y label)
  pub accepting : (p q x : ℕ) → GoesTo table 0 p q x → (A.accepting p && B.accepting q) ≡ C.accepting x
  pub once : (s p q x y : ℕ) → GoesTo table s p q x → GoesTo table s p q y → x ≡ y

-- a set of the table that has exactly these members goes to that state
pub record SetGoesTo (table : List NamedSet) (s : ℕ) (IsMember : ℕ → Type 0) (state : ℕ) : Type 0 where
  pub set : NamedSet
  pub listed : Contains table set
  pub in_space : set.space ≡ s
  pub exactly : (q : ℕ) → Contains set.members q ↔ IsMember q
  pub is_state : set.state ≡ state

-- the sets lead from the automaton A, with the track t dropped, to C: in each space the starting set goes to the initial
-- state; with two sets of the child spaces the set of all steps of members, with and without the track, is there, and goes
-- to the step of the states that the two go to; in space 0 some member accepts exactly where C does; and no set goes to
-- two states
pub record IsSetTable (g : Spaces) (A : Automaton ℕ) (t : ℕ) (Start : ℕ → ℕ → Type 0) (table : List NamedSet) (C : Automaton ℕ) :
    Type 0 where
  pub initial : (s : ℕ) → IsSpace g s → SetGoesTo table s (Start s) (C.initial s)
  pub step : (s : ℕ) (l r : NamedSet) (label : Label) → IsSpace g s → Contains table l → Contains table r →
      l.space ≡ left g s → r.space ≡ right g s →
      SetGoesTo table s (IsStepOf A t s (Contains l.members) (Contains r.members) label) (C.step s l.state r.state label)
  pub accepting : (set : NamedSet) → Contains table set → set.space ≡ 0 →
      IsTrue (C.accepting set.state) ↔ HasAccepting A (Contains set.members)
  pub once : (k m : NamedSet) → Contains table k → Contains table m → k.space ≡ m.space →
      ((q : ℕ) → Contains k.members q ↔ Contains m.members q) → k.state ≡ m.state

-- a space and a state of it
pub record PlacedState : Type 0 where
  pub space : ℕ
  pub state : ℕ

abbrev pub Lists : List PlacedState → ℕ → ℕ → Type 0
Lists list s q = Contains list (record { space = s; state = q })

-- the state is a step, on a label with at most the track t, of two that stand before place k
pub record IsStepBefore (g : Spaces) (A : Automaton ℕ) (t : ℕ) (list : List PlacedState) (k : ℕ) (s q : ℕ) : Type 0 where
  pub first : ℕ
  pub second : ℕ
  pub p : ℕ
  pub r : ℕ
  pub label : Label
  pub first_before : first < k
  pub second_before : second < k
  pub is_first : slice_get list first ≡ Some (record { space = left g s; state = p })
  pub is_second : slice_get list second ≡ Some (record { space = right g s; state = r })
  pub at_most : HasAtMost t label
  pub is_step : A.step s p r label ≡ q

-- the states that settle, in an order in which each one is initial or comes by a step of earlier ones; and no step leads
-- out of the list
pub record IsSettledList (g : Spaces) (A : Automaton ℕ) (t : ℕ) (list : List PlacedState) : Type 0 where
  pub from_before : (k s q : ℕ) → slice_get list k ≡ Some (record { space = s; state = q }) →
      IsSpace g s × ((A.initial s ≡ q) ⊎ IsStepBefore g A t list k s q)
  pub initial : (s : ℕ) → IsSpace g s → Lists list s (A.initial s)
  pub closed : (s p q : ℕ) (label : Label) → IsSpace g s → HasAtMost t label →
      Lists list (left g s) p → Lists list (right g s) q → Lists list s (A.step s p q label)

-- sets that hold the initial states and that no step on a label with at most the track t leads out of: this alone, without
-- "least"
pub record HoldsAndCloses (g : Spaces) (A : Automaton ℕ) (t : ℕ) (Start : ℕ → ℕ → Type 0) : Type 0 where
  pub initial : (s : ℕ) → IsSpace g s → Start s (A.initial s)
  pub closed : (s p q : ℕ) (label : Label) → IsSpace g s → HasAtMost t label →
      Start (left g s) p → Start (right g s) q → Start s (A.step s p q label)
