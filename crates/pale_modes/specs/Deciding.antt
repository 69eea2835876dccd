-- What `ws2s` writes for a text and how it ends.
use Rattle.std.specs.Prelude.{◌<◌, ◌≤◌, ℕ, List, ◌++◌, codes, length}
use Rattle.pale_text.specs.declared.refusal.Refusal.{Refusal}
use Rattle.ws2s_core.specs.declared.label_tree.TreeNode.{TreeNode}
use Rattle.ws2s_core.specs.LabelTrees.{assignment_of}
use Rattle.ws2s_syntax.specs.Checked as checked
use Rattle.ws2s_read.specs.TextReading.{IsReadAs, IsRefusedAs}
use Rattle.ws2s_reduce.specs.Reducing.{holds_of, breaks_of}
use Rattle.ws2s_reduce.specs.Sizes.{IsSmall}
use Rattle.ws2s_answer.specs.declared.answer.Answer.{Answer}
use Rattle.ws2s_answer.specs.declared.answer.Answer.TheVariants as answer
use Rattle.ws2s_answer.specs.Answering.{IsAnswer}
use Rattle.ws2s_example.specs.Examples.{IsExampleText}
use Rattle.pale_status.specs.declared.status.Status.{Status}
use Rattle.pale_status.specs.declared.status.Status.TheVariants.{Good, Text, Limit}
use Rattle.pale_status.specs.Report.{refused_line, too_long_line}
use Rattle.pale_status.specs.Texts.{most_bytes}

-- both formulas of the text are small enough to be decided
abbrev pub HasSmallFormulas : checked.Text → Type 0
HasSmallFormulas tree = IsSmall (holds_of tree) × IsSmall (breaks_of tree)

-- the line for a text with a formula that is too big
abbrev pub big_line : List ℕ
big_line = codes "refused 1:1 big-formula\n"

-- how a call with this answer ends
abbrev pub status_of : Answer → Status
status_of answer.Unsatisfiable = Good
status_of answer.Valid = Good
status_of (answer.Example nodes) = Good
status_of answer.TooLarge = Good
status_of answer.Limit = Limit

-- what is written for the tree of a text, and the status: it has a formula that is too big; or it is unsatisfiable, valid, or
-- satisfiable with an example, or with examples that are too large; or its Peak is above the limit
pub data Says (limit : ℕ) (tree : checked.Text) : List ℕ → Status → Type 0 where
  big : (HasSmallFormulas tree → ⊥) → Says limit tree big_line Text
  unsatisfiable : HasSmallFormulas tree → IsAnswer limit tree answer.Unsatisfiable → Says limit tree (codes "unsatisfiable\n") Good
  valid : HasSmallFormulas tree → IsAnswer limit tree answer.Valid → Says limit tree (codes "valid\n") Good
  satisfiable : (nodes : List TreeNode) (lines : List ℕ) → HasSmallFormulas tree → IsAnswer limit tree (answer.Example nodes)
      → IsExampleText tree.free (assignment_of nodes) lines → Says limit tree (codes "satisfiable\n" ++ lines) Good
  too_large : HasSmallFormulas tree → IsAnswer limit tree answer.TooLarge → Says limit tree (codes "satisfiable\nexample too large\n") Good
  above : HasSmallFormulas tree → IsAnswer limit tree answer.Limit → Says limit tree (codes "limit\n") Limit

-- what is written for a text, and the status: the text has too many bytes, is no text, or is one
pub data Decides (limit : ℕ) (text : List ℕ) : List ℕ → Status → Type 0 where
  too_long : most_bytes < length text → Decides limit text too_long_line Text
  refused : (refusal : Refusal) → length text ≤ most_bytes → IsRefusedAs text refusal → Decides limit text (refused_line refusal) Text
  read : (tree : checked.Text) (written : List ℕ) (status : Status) → length text ≤ most_bytes → IsReadAs text tree
      → Says limit tree written status → Decides limit text written status
