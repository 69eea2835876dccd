-- What is said of a WS2S text. (The answers are those of MONA: Klarlund and Møller, MONA Version 1.4 User Manual; what decides them:
-- Thatcher and Wright 1968.)
use Rattle.std.specs.Prelude.{ℕ, zero, suc, ◌<◌, ◌≤◌, max, List, [], ◌∷◌, length}
use Rattle.gta_theory.specs.Assignments.{Assignment, Covers}
use Rattle.gta_theory.specs.Guides.{Spaces}
use Rattle.gta_theory.specs.Weights.{weight}
use Rattle.gta_witness.specs.Lightest.{AreTooLarge}
use Rattle.ws2s_core.specs.declared.label_tree.TreeNode.{TreeNode}
use Rattle.ws2s_core.specs.LabelTrees.{assignment_of}
use Rattle.ws2s_theory.specs.Peaks.{HasPeak}
use Rattle.ws2s_syntax.specs.Checked.{Text}
use Rattle.ws2s_syntax.specs.Meaning.{Value, Gives, Satisfies, Classically}
use Rattle.ws2s_reduce.specs.Reducing.{holds_of, breaks_of}
use Rattle.ws2s_answer.specs.declared.answer.Answer.{Answer}

-- the assignment gives each `var1` one position, and satisfies the text
pub record IsModel (text : Text) (a : Assignment) : Type 0 where
  pub free : List Value
  pub gives : Gives a text free
  pub satisfies : Satisfies text free

-- so many numbers, from this one on
abbrev pub numbers_from : ℕ → ℕ → List ℕ
numbers_from first zero = []
numbers_from first (suc count) = first ∷ numbers_from (suc first) count

-- how many positions the assignment, which the depth covers, has on the tracks of the free variables, all in all
abbrev pub total_size : Text → ℕ → Assignment → ℕ
total_size text = weight (numbers_from 0 (length text.free))

-- no assignment of finite sets is a model
abbrev pub IsUnsatisfiable : Text → Type 0
IsUnsatisfiable text = (n : ℕ) (a : Assignment) → Covers n a → IsModel text a → ⊥

-- each assignment of finite sets that gives each `var1` one position satisfies the text
abbrev pub IsValid : Text → Type 0
IsValid text = (n : ℕ) (a : Assignment) (free : List Value) → Covers n a → Gives a text free → Classically (Satisfies text free)

-- the tree is a model, and no other has a smaller total size
pub record IsLeastModel (text : Text) (nodes : List TreeNode) : Type 0 where
  pub model : IsModel text (assignment_of nodes)
  pub least : (n : ℕ) (a : Assignment) → Covers n a → IsModel text a → total_size text (length nodes) (assignment_of nodes) ≤ total_size text n a

-- the tree is a least model of a text that isn't valid
pub record IsExample (text : Text) (nodes : List TreeNode) : Type 0 where
  pub least : IsLeastModel text nodes
  pub not_valid : IsValid text → ⊥

-- the text isn't valid, but some assignment is a model, and no tree of one of smallest total size has room
pub record IsTooLarge (text : Text) : Type 0 where
  pub large : AreTooLarge (IsModel text) (numbers_from 0 (length text.free))
  pub not_valid : IsValid text → ⊥

-- the guide with one space
abbrev pub plain : Spaces
plain = (0, 0) ∷ []

-- the greater of the Peaks of the text's two formulas is above the limit
abbrev pub IsPeakAbove : ℕ → Text → Type 0
IsPeakAbove limit text = (p q : ℕ) → HasPeak plain (holds_of text) p → HasPeak plain (breaks_of text) q → limit < max p q

-- the answer is true of the text, on a shelf of so many nodes
abbrev pub IsAnswer : ℕ → Text → Answer → Type 0
IsAnswer limit text Answer.Unsatisfiable = IsUnsatisfiable text
IsAnswer limit text Answer.Valid = IsValid text
IsAnswer limit text (Answer.Example nodes) = IsExample text nodes
IsAnswer limit text Answer.TooLarge = IsTooLarge text
IsAnswer limit text Answer.Limit = IsPeakAbove limit text
