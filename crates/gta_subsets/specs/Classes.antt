-- Classes of sets of states: sets of a class have the same roots.
use Rattle.std.specs.Prelude.{◌≡◌, ◌≢◌, ℕ, ◌^◌, ◌<◌, ◌≤◌, List, [], ◌∷◌, ◌++◌, map, length, All, Contains, Some, slice_get, slice_index}
use Rattle.gta_subsets.specs.declared.classes.Classes.{Classes}
use Rattle.bdd_walk.specs.Sets.{set_of}

-- each state of one has the class of a state of the other
pub record HaveClasses (classes one other : List ℕ) : Type 0 where
  pub there : (q : ℕ) → Contains one q → (r : ℕ) × Contains other r × (slice_get classes q ≡ slice_get classes r)
  pub back : (r : ℕ) → Contains other r → (q : ℕ) × Contains one q × (slice_get classes q ≡ slice_get classes r)

-- the set with this place has a class, for which a set with the same classes stands
pub record IsClassed (sets : List (List ℕ)) (states : List ℕ) (classes : Classes) (k : ℕ) (set : List ℕ) : Type 0 where
  pub class : ℕ
  pub has : slice_get classes.of k ≡ Some class
  pub one : List ℕ
  pub stands : slice_get classes.ones class ≡ Some one
  pub same : HaveClasses states set one

-- each class has a set of the list
pub record IsClass (sets : List (List ℕ)) (classes : Classes) (class : ℕ) : Type 0 where
  pub at : ℕ
  pub inside : at < length sets
  pub has : slice_get classes.of at ≡ Some class
  pub stands : slice_get classes.ones class ≡ slice_get sets at

-- each set of the list has a class, by the classes of states, and each class a set
pub record AreClasses (sets : List (List ℕ)) (states : List ℕ) (classes : Classes) : Type 0 where
  pub many : length classes.of ≡ length sets
  pub each : (k : ℕ) (set : List ℕ) → slice_get sets k ≡ Some set → IsClassed sets states classes k set
  pub used : (class : ℕ) → class < length classes.ones → IsClass sets classes class

-- a set stands for the class, if the class is new
pub data Notes (class : ℕ) (set : List ℕ) (old new : List (List ℕ)) : Type 0 where
  known : class ≢ length old → new ≡ old → Notes class set old new
  fresh : class ≡ length old → new ≡ old ++ set ∷ [] → Notes class set old new

-- the set of the classes of states
abbrev pub classes_of : List ℕ → List ℕ → List ℕ
classes_of states set = set_of (map (slice_index states) set)

-- the classes of the first sets, and the key of each class: the set of the classes of its states
pub record AreKeyed (sets : List (List ℕ)) (states of : List ℕ) (ones keys : List (List ℕ)) : Type 0 where
  pub classes : AreClasses sets states (record { of = of; ones = ones })
  pub many : length keys ≡ length ones
  pub few : length ones ≤ 2 ^ 31
  pub key : (class : ℕ) (one : List ℕ) → slice_get ones class ≡ Some one → slice_get keys class ≡ Some (classes_of states one)
  pub inside : (class : ℕ) (one : List ℕ) → slice_get ones class ≡ Some one → All (λ q. q < length states) one
