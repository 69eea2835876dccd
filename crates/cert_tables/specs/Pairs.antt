-- How pairs of states go along with the steps of three automata in one space.
use Rattle.std.specs.Prelude.{◌≡◌, ◌↔◌, ◌&&◌, ℕ, Bool, List, [], ◌∷◌, Contains}
use Rattle.labels.specs.Labels.{Label}
use Rattle.gta_theory.specs.Guides.{Spaces, left, right}
use Rattle.gta_theory.specs.Automata.{Automaton}
use Rattle.cert_text.specs.declared.line.PairLine.{PairLine}
use Rattle.cert_theory.specs.Tables.{NamedPair, GoesTo}
use Rattle.cert_nodes.specs.declared.spots.Spot.{Spot}
use Rattle.cert_tables.specs.declared.table.Table.{Table}
use Rattle.cert_tables.specs.declared.class_triples.ClassTriple.{ClassTriple}
use Rattle.cert_tables.specs.Automata.{class_in, spot_in, accepts_in, accepts_signed}

-- the classes of a pair and of what it goes to, on one side of a space
abbrev pub classes_of : Bool → ℕ → Table → Table → Table → PairLine → ClassTriple
classes_of is_right s a b c pair = record {
  first = class_in a is_right s pair.first;
  second = class_in b is_right s pair.second;
  state = class_in c is_right s pair.state;
}

-- where two triples of classes lead to, in each of the three automata
abbrev pub spots_of : ℕ → Table → Table → Table → ClassTriple → ClassTriple → List Spot
spots_of s a b c l r = spot_in a s l.first r.first ∷ spot_in b s l.second r.second ∷ spot_in c s l.state r.state ∷ []

-- a pair of the child space has these classes
pub record HasClasses (is_right : Bool) (s child : ℕ) (a b c : Table) (pairs : List PairLine) (triple : ClassTriple) : Type 0 where
  pub pair : PairLine
  pub listed : Contains pairs pair
  pub in_space : pair.space ≡ child
  pub classes : classes_of is_right s a b c pair ≡ triple

-- exactly the triples of classes that the pairs of the child space have
abbrev pub AreClassesOf : Bool → ℕ → ℕ → Table → Table → Table → List PairLine → List ClassTriple → Type 0
AreClassesOf is_right s child a b c pairs set = (triple : ClassTriple) → Contains set triple ↔ HasClasses is_right s child a b c pairs triple

-- the list has three states, and the first two go to the third
abbrev pub Goes : List NamedPair → ℕ → List ℕ → Type 0
Goes table s [] = ⊥
Goes table s (x ∷ []) = ⊥
Goes table s (x ∷ y ∷ []) = ⊥
Goes table s (x ∷ y ∷ z ∷ []) = GoesTo table s x y z
Goes table s (x ∷ y ∷ z ∷ w ∷ more) = ⊥

abbrev pub AllGo : List NamedPair → ℕ → List (List ℕ) → Type 0
AllGo table s lists = (list : List ℕ) → Contains lists list → Goes table s list

-- with two pairs of the child spaces the pair of the parts' steps goes to the step of the states that the two go to
abbrev pub GoAlong : Spaces → Automaton ℕ → Automaton ℕ → List NamedPair → Automaton ℕ → ℕ → Type 0
GoAlong g A B table C s =
    (p q x p' q' y : ℕ) (label : Label) → GoesTo table (left g s) p q x → GoesTo table (right g s) p' q' y →
    GoesTo table s (A.step s p p' label) (B.step s q q' label) (C.step s x y label)

-- the initial states go to the initial one
abbrev pub StartsTogether : Automaton ℕ → Automaton ℕ → List NamedPair → Automaton ℕ → ℕ → Type 0
StartsTogether A B table C s = GoesTo table s (A.initial s) (B.initial s) (C.initial s)

-- both parts accept exactly where the state does that the pair goes to
abbrev pub AcceptsAlike : Table → Bool → Table → Bool → Table → PairLine → Type 0
AcceptsAlike a a_negated b b_negated c pair =
    (accepts_signed a a_negated pair.first && accepts_signed b b_negated pair.second) ≡ accepts_in c pair.state

-- so do all pairs of space 0
abbrev pub AcceptAlike : Table → Bool → Table → Bool → Table → List PairLine → Type 0
AcceptAlike a a_negated b b_negated c pairs =
    (pair : PairLine) → Contains pairs pair → pair.space ≡ 0 → AcceptsAlike a a_negated b b_negated c pair
