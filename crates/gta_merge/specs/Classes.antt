-- Classes by lines.
use Rattle.std.specs.Prelude.{◌≡◌, ℕ, ◌<◌, ◌≤◌, Bool, true, List, [], ◌∷◌, ◌++◌, length, map, Option, Some, None, slice_get, nat_eq}
use Rattle.std.specs.declared.vec.Vec.{Vec}
use Rattle.std.specs.declared.alloc.Global.{Global}
use Rattle.std.specs.Cmp.Lexicographic.{pointwise}
use Rattle.std.specs.declared.hash.FoldHasher.{FoldHasher}
use Rattle.std.specs.declared.hash.BuildHasherDefault.{BuildHasherDefault}
use Rattle.std.specs.HashMap.{get, get_by, HashMap, Updates}
use Rattle.std.specs.HashSet.{HashSet, contains}
use Rattle.std.specs.HashSet as set
use Rattle.bdd_nodes.specs.declared.node_ref.NodeRef.{NodeRef}
use Rattle.gta_merge.specs.declared.classes.Lines.{Lines}
use Rattle.gta_merge.specs.declared.classes.Classes.{Classes}
use Rattle.gta_merge.specs.Lines.{some_root}
use Rattle.gta_merge.specs.Merged.{AreClasses}

-- a line, as it is kept
abbrev pub Line : Type 0
Line = Vec NodeRef Global

-- the classes by their lines
abbrev pub ByLine : Type 0
ByLine = HashMap Line ℕ (BuildHasherDefault FoldHasher)

abbrev pub same_ref : NodeRef → NodeRef → Bool
same_ref a b = nat_eq a.word b.word

-- the class of a line
abbrev pub class_for : ByLine → List NodeRef → Option ℕ
class_for classes line = get_by (λ key. pointwise same_ref line key.items) classes

-- the line has a class, or it gets one, for which the state stands
pub data IsLineStep (line : Line) (state : ℕ) (classes : ByLine) (ones : List ℕ) : ByLine → List ℕ → ℕ → Type 0 where
  has : (class : ℕ) → class_for classes line.items ≡ Some class → IsLineStep line state classes ones classes ones class
  gets : (after : ByLine) (class : ℕ) → class_for classes line.items ≡ None → class ≡ length ones →
      Updates (λ a b. pointwise same_ref a.items b.items) classes after line (Some class) →
      IsLineStep line state classes ones after (ones ++ state ∷ []) class

-- the class of a state is known by the class that it had, or it is that of its line
pub data IsStateStep (roots : List (Option NodeRef)) (state had : ℕ) (before : Lines) : Lines → ℕ → Type 0 where
  known : (class : ℕ) → get nat_eq before.known had ≡ Some class → IsStateStep roots state had before before class
  looks : (after : Lines) (class : ℕ) (line : Line) → map some_root line.items ≡ roots →
      IsLineStep line state before.classes before.ones after.classes after.ones class →
      Updates nat_eq before.known after.known had (Some class) → IsStateStep roots state had before after class

-- the classes that were seen
abbrev pub Seen : Type 0
Seen = HashSet ℕ (BuildHasherDefault FoldHasher)

-- the class was seen, or the state is the first that had it
pub data IsFirstStep (had state : ℕ) (seen : Seen) (firsts : List ℕ) : Seen → List ℕ → Type 0 where
  was_seen : contains nat_eq seen had ≡ true → IsFirstStep had state seen firsts seen firsts
  is_first : (after : Seen) → set.Updates nat_eq seen after had true →
      IsFirstStep had state seen firsts after (firsts ++ state ∷ [])

-- one of the firsts had the class that the state had
pub record IsFirst (had firsts : List ℕ) (q : ℕ) : Type 0 where
  pub place : ℕ
  pub one : ℕ
  pub there : slice_get firsts place ≡ Some one
  pub same : slice_get had one ≡ slice_get had q

-- each of so many states had the class of one of these
pub record AreFirsts (had : List ℕ) (many : ℕ) (firsts : List ℕ) : Type 0 where
  pub within : (place one : ℕ) → slice_get firsts place ≡ Some one → one < many
  pub each : (q : ℕ) → q < many → IsFirst had firsts q

module _ (root : ℕ → ℕ → Option NodeRef) where
  -- states that had one class have the same roots
  abbrev pub HaveLikeRoots : List ℕ → Type 0
  HaveLikeRoots had = (q r : ℕ) → slice_get had q ≡ slice_get had r → (x : ℕ) → root q x ≡ root r x

  -- states with the same roots for these have the same roots
  abbrev pub AreToldApart : ℕ → List ℕ → Type 0
  AreToldApart many others = (q r : ℕ) → q < many → r < many → map (root q) others ≡ map (root r) others → (x : ℕ) → root q x ≡ root r x

  -- classes of so many states by their roots, each with a state that has it
  pub record AreClassed (count : ℕ) (given : Classes) : Type 0 where
    pub many : length given.of ≡ count
    pub few : length given.ones ≤ count
    pub classes : AreClasses (λ q r. (x : ℕ) → root q x ≡ root r x) (length given.ones) given.of
    pub ones : (class one : ℕ) → slice_get given.ones class ≡ Some one → slice_get given.of one ≡ Some class
