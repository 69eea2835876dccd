-- The parts of a text that has more than a program: the program, a line `---`, and then a line that asks for something, as `triple K`.
use Rattle.std.specs.Prelude.{◌≡◌, ◌⊎◌, ◌≤◌, ℕ, List, [], ◌∷◌, ◌++◌, codes, Some, Contains, IsTrue}
use Rattle.store_text.specs.Lines.{lines_of}
use Rattle.store_text.specs.Spelling.{is_name, number_of}

-- the line between the two parts
abbrev pub cut_line : List ℕ
cut_line = codes "---"

-- the text is the program's part, its first line `---`, and this after it; that line is the last where it lacks an LF
pub record IsCutAs (text program after : List ℕ) : Type 0 where
  pub bytes : (text ≡ program ++ codes "---\n" ++ after) ⊎ ((text ≡ program ++ codes "---") × (after ≡ []))
  pub lines : lines_of text ≡ lines_of program ++ cut_line ∷ lines_of after
  pub first : Contains (lines_of program) cut_line → ⊥

-- no line is `---`
abbrev pub HasNoCut : List ℕ → Type 0
HasNoCut text = Contains (lines_of text) cut_line → ⊥

-- the line `triple K`, with a number from 1 to 1,000,000
pub record IsTripleLine (line : List ℕ) (number : ℕ) : Type 0 where
  pub word : List ℕ
  pub spelled : line ≡ codes "triple " ++ word
  pub counted : number_of word ≡ Some number

-- the line `run PROC STEPS`, with a name, a space (32), and a number of steps from 1 to 100,000
pub record IsRunLine (line name : List ℕ) (steps : ℕ) : Type 0 where
  pub word : List ℕ
  pub spelled : line ≡ codes "run " ++ name ++ 32 ∷ word
  pub named : IsTrue (is_name name)
  pub counted : number_of word ≡ Some steps
  pub few : steps ≤ 100000
