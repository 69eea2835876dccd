-- What is written of an assignment that satisfies a text: a line for each free variable. (The example that MONA gives of a satisfiable
-- formula: Klarlund and Møller, MONA Version 1.4 User Manual; the spelling is our own.)
use Rattle.std.specs.Prelude.{◌≡◌, ℕ, suc, Bool, true, false, IsTrue, ◌↔◌, List, [], ◌∷◌, ◌++◌, codes, Contains, slice_get, Some, if◌then◌else◌}
use Rattle.std.specs.List.{flat_map}
use Rattle.std.specs.List.Sorted.{IsStrictlySortedBy}
use Rattle.std.specs.Ordering.{nat_cmp}
use Rattle.std.specs.Cmp.Lexicographic.{slice_cmp}
use Rattle.gta_theory.specs.Assignments.{Position, PositionSet, Assignment, IsOnly}
use Rattle.ws2s_syntax.specs.declared.declaration.Free.{Free}

-- the way to a child
abbrev pub letter_text : Bool → List ℕ
letter_text false = codes ".0"
letter_text true = codes ".1"

-- a position: `root`, and the way from there, as `root.0.1`
abbrev pub position_text : Position → List ℕ
position_text p = codes "root" ++ flat_map letter_text p

-- the texts of the set's positions, each once, in std's order of texts
pub record AreTextsOf (set : PositionSet) (texts : List (List ℕ)) : Type 0 where
  pub each : (text : List ℕ) → Contains texts text ↔ ((p : Position) × IsTrue (set p) × (text ≡ position_text p))
  pub ascend : IsStrictlySortedBy (slice_cmp nat_cmp) texts

-- texts with a comma before each
abbrev pub others_text : List (List ℕ) → List ℕ
others_text texts = flat_map (λ text. codes ", " ++ text) texts

-- texts with commas between them
abbrev pub listed_text : List (List ℕ) → List ℕ
listed_text [] = []
listed_text (text ∷ texts) = text ++ others_text texts

-- what is written of a variable: its position, or its set as `{root, root.1}`
pub data IsValueText (variable : Free) (set : PositionSet) : List ℕ → Type 0 where
  one : (u : Position) → variable.set ≡ false → IsOnly set u → IsValueText variable set (position_text u)
  many : (texts : List (List ℕ)) → variable.set ≡ true → AreTextsOf set texts →
      IsValueText variable set (codes "{" ++ listed_text texts ++ codes "}")

-- what is written of a variable that has these texts
abbrev pub value_text : Free → List (List ℕ) → List ℕ
value_text variable texts = if variable.set then codes "{" ++ listed_text texts ++ codes "}" else listed_text texts

-- `NAME = VALUE`
abbrev pub line_of : Free → List ℕ → List ℕ
line_of variable value = variable.name ++ codes " = " ++ value ++ codes "\n"

-- a line for each variable in order, of the sets of the tracks from n on
pub data AreLines (a : Assignment) : ℕ → List Free → List ℕ → Type 0 where
  none : (n : ℕ) → AreLines a n [] []
  more : (n : ℕ) (variable : Free) (free : List Free) (value lines : List ℕ) → IsValueText variable (a n) value →
      AreLines a (suc n) free lines → AreLines a n (variable ∷ free) (line_of variable value ++ lines)

-- what is written of an assignment of these free variables, whose tracks are their numbers
abbrev pub IsExampleText : List Free → Assignment → List ℕ → Type 0
IsExampleText free a text = AreLines a 0 free text

-- each variable for a position has one
abbrev pub HaveOnePosition : List Free → Assignment → Type 0
HaveOnePosition free a =
    (i : ℕ) (variable : Free) → slice_get free i ≡ Some variable → variable.set ≡ false → (u : Position) × IsOnly (a i) u
