-- The Size of an automaton: pairs of child states, and the functions of decision diagrams that stand for its table.
-- (Shared diagrams: Bryant 1986; as tables of tree automata: the guided tree automata of MONA.)
use Rattle.std.specs.Prelude.{◌≡◌, ◌≢◌, ℕ, zero, suc, ◌+◌, ◌<◌, List, length, Contains, AllPairs}
use Rattle.labels.specs.Labels.{Label, with_below}
use Rattle.gta_theory.specs.Guides.{Spaces, IsSpace, left, right}
use Rattle.gta_theory.specs.Automata.{Automaton}

-- the list has exactly the things with that property, and any two of them are apart
pub record IsListOf {X : Type 0} (Apart : X → X → Type 0) (Is : X → Type 0) (xs : List X) : Type 0 where
  pub every : (x : X) → Is x → Contains xs x
  pub only : (x : X) → Contains xs x → Is x
  pub once : AllPairs Apart xs

-- some label has different states by the two functions
pub record AreDifferent {Q : Type 0} (f h : Label → Q) : Type 0 where
  pub label : Label
  pub differs : f label ≢ h label

-- the function isn't constant: two labels have different states
pub record IsVaried {Q : Type 0} (f : Label → Q) : Type 0 where
  pub one : Label
  pub other : Label
  pub differs : f one ≢ f other

-- the function is got from one of the space's table, that of a state of each child, by fixing the tracks below some
-- number
pub record IsUnderTable {Q : Type 0} (g : Spaces) (A : Automaton Q) (has : ℕ → Q → Type 0) (s : ℕ) (f : Label → Q) :
    Type 0 where
  pub at_left : Q
  pub at_right : Q
  pub in_left : has (left g s) at_left
  pub in_right : has (right g s) at_right
  pub below : ℕ
  pub fixed : Label
  pub states : (label : Label) → f label ≡ A.step s at_left at_right (with_below below fixed label)

-- the function is under the space's table and isn't constant
pub record IsPart {Q : Type 0} (g : Spaces) (A : Automaton Q) (has : ℕ → Q → Type 0) (s : ℕ) (f : Label → Q) :
    Type 0 where
  pub under : IsUnderTable g A has s f
  pub varied : IsVaried f

-- the pair has a state of each child of the space
abbrev pub IsChildPair : {Q : Type 0} → Spaces → (ℕ → Q → Type 0) → ℕ → Q × Q → Type 0
IsChildPair g has s pair = has (left g s) pair.0 × has (right g s) pair.1

-- the size in a space: the pairs of child states, and the parts of its table
pub record SizeIn {Q : Type 0} (g : Spaces) (A : Automaton Q) (has : ℕ → Q → Type 0) (s n : ℕ) : Type 0 where
  pub pairs : List (Q × Q)
  pub parts : List (Label → Q)
  pub all_pairs : IsListOf (λ x y. x ≢ y) (IsChildPair g has s) pairs
  pub all_parts : IsListOf AreDifferent (IsPart g A has s) parts
  pub is_sum : length pairs + length parts ≡ n

-- the sum of the first n numbers
abbrev pub sum_below : (ℕ → ℕ) → ℕ → ℕ
sum_below f zero = 0
sum_below f (suc n) = sum_below f n + f n

-- the Size: the sum of the sizes in the spaces
pub record SizeOf {Q : Type 0} (g : Spaces) (A : Automaton Q) (has : ℕ → Q → Type 0) (n : ℕ) : Type 0 where
  pub sizes : ℕ → ℕ
  pub in_space : (s : ℕ) → IsSpace g s → SizeIn g A has s (sizes s)
  pub is_sum : sum_below sizes (length g) ≡ n

-- the two labels have the same tracks below k
abbrev pub AreSameBelow : ℕ → Label → Label → Type 0
AreSameBelow k l m = (t : ℕ) → t < k → l t ≡ m t

-- steps from states of the spaces look at the tracks below k alone
pub record LooksBelow {Q : Type 0} (g : Spaces) (A : Automaton Q) (has : ℕ → Q → Type 0) (k : ℕ) : Type 0 where
  pub step : (s : ℕ) (p q : Q) (l m : Label) → IsSpace g s → has (left g s) p → has (right g s) q →
      AreSameBelow k l m → A.step s p q l ≡ A.step s p q m
