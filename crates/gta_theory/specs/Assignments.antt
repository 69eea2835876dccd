-- Positions of the infinite binary tree, finite sets of them, and assignments, which give each track a set.
-- (Thatcher and Wright 1968; Doner 1970.)
use Rattle.std.specs.Prelude.{◌≡◌, ℕ, ◌≤◌, Bool, true, false, ◌&&◌, ◌==◌, nat_lt, if◌then◌else◌, IsTrue, ◌↔◌, List, [], ◌∷◌, length}
use Rattle.std.specs.List.{list_any}
use Rattle.labels.specs.Labels.{Label}

-- a word over 0 (`false`) and 1 (`true`): the way to a node from the root, which is the empty word
abbrev pub Position : Type 0
Position = List Bool

-- a set of positions, as its test
abbrev pub PositionSet : Type 0
PositionSet = Position → Bool

-- the set has no position of that length or longer
abbrev pub IsWithin : ℕ → PositionSet → Type 0
IsWithin depth set = (p : Position) → depth ≤ length p → set p ≡ false

-- some length is above those of all its positions
abbrev pub IsFiniteSet : PositionSet → Type 0
IsFiniteSet set = (depth : ℕ) × IsWithin depth set

-- the set without positions
abbrev pub no_positions : PositionSet
no_positions = λ p. false

-- the set has the position u and no other
abbrev pub IsOnly : PositionSet → Position → Type 0
IsOnly set u = (p : Position) → IsTrue (set p) ↔ (p ≡ u)

-- a set of positions for each track
abbrev pub Assignment : Type 0
Assignment = ℕ → PositionSet

-- the assignment without positions
abbrev pub empty_assignment : Assignment
empty_assignment = λ t. no_positions

-- each track has a finite set
abbrev pub IsFinite : Assignment → Type 0
IsFinite a = (t : ℕ) → IsFiniteSet (a t)

-- the depth covers the assignment: every position in it is shorter
abbrev pub Covers : ℕ → Assignment → Type 0
Covers depth a = (t : ℕ) → IsWithin depth (a t)

-- the half of an assignment below a letter: what it gives to the positions that begin with it, the letter taken off
abbrev pub half : Bool → Assignment → Assignment
half letter a = λ t p. a t (letter ∷ p)

-- the label of the empty word
abbrev pub root_label : Assignment → Label
root_label a = λ t. a t []

-- the assignment with another set for one track
abbrev pub replace : Assignment → ℕ → PositionSet → Assignment
replace a t set = λ u p. if u == t then set p else a u p

-- the assignment without the sets of the tracks from k on
abbrev pub only_below : ℕ → Assignment → Assignment
only_below k a = λ t p. nat_lt t k && a t p

-- the two words are the same
abbrev pub is_same_position : Position → Position → Bool
is_same_position [] [] = true
is_same_position [] (c ∷ q) = false
is_same_position (b ∷ p) [] = false
is_same_position (b ∷ p) (c ∷ q) = (if b then c else (if c then false else true)) && is_same_position p q

-- the assignment that has these positions on these tracks, and no other
abbrev pub listed : List (ℕ × Position) → Assignment
listed pairs = λ t p. list_any (λ pair. (pair.0 == t) && is_same_position pair.1 p) pairs
