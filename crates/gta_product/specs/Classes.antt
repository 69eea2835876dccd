-- Classes of pairs of states: pairs of a class have the same roots in both automata.
use Rattle.std.specs.Prelude.{◌≡◌, ◌≢◌, ℕ, ◌^◌, ◌<◌, ◌≤◌, List, [], ◌∷◌, ◌++◌, length, Some, slice_get, slice_index}
use Rattle.gta_product.specs.declared.classes.Classes.{Classes}
use Rattle.gta_product.specs.Numbers.{AreNumbers, Extends}

-- both states have the classes that two states of the other pair have
pub record HaveClasses (left right : List ℕ) (one other : ℕ × ℕ) : Type 0 where
  pub first : slice_get left one.0 ≡ slice_get left other.0
  pub second : slice_get right one.1 ≡ slice_get right other.1

-- the state with this place has a class, for which a pair with the same classes stands
pub record IsClassed (left right of : List ℕ) (ones : List (ℕ × ℕ)) (k : ℕ) (pair : ℕ × ℕ) : Type 0 where
  pub class : ℕ
  pub has : slice_get of k ≡ Some class
  pub one : ℕ × ℕ
  pub stands : slice_get ones class ≡ Some one
  pub same : HaveClasses left right pair one

-- each class has a pair of the list
pub record IsClass (pairs : List (ℕ × ℕ)) (of : List ℕ) (ones : List (ℕ × ℕ)) (class : ℕ) : Type 0 where
  pub at : ℕ
  pub inside : at < length pairs
  pub has : slice_get of at ≡ Some class
  pub stands : slice_get ones class ≡ slice_get pairs at

-- each pair of the list has a class, and each class a pair
pub record AreClasses (pairs : List (ℕ × ℕ)) (left right of : List ℕ) (ones : List (ℕ × ℕ)) : Type 0 where
  pub many : length of ≡ length pairs
  pub each : (k : ℕ) (pair : ℕ × ℕ) → slice_get pairs k ≡ Some pair → IsClassed left right of ones k pair
  pub used : (class : ℕ) → class < length ones → IsClass pairs of ones class

-- a pair stands for the class, if the class is new
pub data Notes (class : ℕ) (pair : ℕ × ℕ) (old new : List (ℕ × ℕ)) : Type 0 where
  known : class ≢ length old → new ≡ old → Notes class pair old new
  fresh : class ≡ length old → new ≡ old ++ pair ∷ [] → Notes class pair old new

-- the classes of the first pairs, and the key of each class: the classes of both states
pub record AreKeyed (pairs : List (ℕ × ℕ)) (left right : List ℕ) (of : List ℕ) (ones keys : List (ℕ × ℕ)) : Type 0 where
  pub classes : AreClasses pairs left right of ones
  pub many : length keys ≡ length ones
  pub few : length ones ≤ 2 ^ 31
  pub key : (class : ℕ) (one : ℕ × ℕ) → slice_get ones class ≡ Some one →
      slice_get keys class ≡ Some (slice_index left one.0, slice_index right one.1)
  pub inside : (class : ℕ) (one : ℕ × ℕ) → slice_get ones class ≡ Some one → (one.0 < length left) × (one.1 < length right)

-- the first pairs of the list, as many as were looked at, have classes, each with a key of its own
pub record IsKeyed (list : List (ℕ × ℕ)) (left right : List ℕ) (classes : Classes) : Type 0 where
  pub pairs : List (ℕ × ℕ)
  pub first : Extends pairs list
  pub numbers : AreNumbers classes.keys
  pub keyed : AreKeyed pairs left right classes.of classes.ones classes.keys
