-- What it means that the spelling of a program is short.
use Rattle.std.specs.Prelude.{◌≡◌, ◌≤◌, ℕ, List, ◌∷◌, ◌++◌, length}
use Rattle.ll1_reader.specs.Readings.{Step}
use Rattle.pale_syntax.specs.declared.grammar.act.Act.{Act}
use Rattle.pale_text.specs.declared.token.Mark.TheVariants as mark
use Rattle.pale_text.specs.declared.token.TokenKind.{TokenKind}
use Rattle.pale_text.specs.declared.token.TokenKind.TheVariants as kind
use Rattle.pale_text.specs.declared.token.TokenList.{TokenList}
use Rattle.pale_syntax.specs.declared.tree.declaration.Program.{Program}
use Rattle.pale_text.specs.Lexing.{IsLexed}
use Rattle.pale_syntax.specs.ProgramReading.{IsProgram}
use Rattle.pale_text.specs.Spelled.{kinds_of}
use Rattle.pale_print.specs.DeclarationTokens.{program_tokens}
use Rattle.pale_print.specs.Placeless.{IsSameButForPlaces}

-- each text of the program, but for places, has at least as many tokens as its spelling
abbrev pub IsShortest : Program → Type 0
IsShortest tree =
    (text : List ℕ) (list : TokenList) (steps : List (Step Act)) (other : Program) → IsLexed text list →
    IsProgram list.tokens steps other → IsSameButForPlaces tree other → length (program_tokens tree) ≤ length list.tokens

-- without two parentheses of its spelling, no text is the program, but for places
abbrev pub NeedsItsParentheses : Program → Type 0
NeedsItsParentheses tree =
    (front inner behind : List TokenKind) →
    program_tokens tree ≡ front ++ kind.Mark mark.LeftParen ∷ (inner ++ kind.Mark mark.RightParen ∷ behind) →
    (text : List ℕ) (list : TokenList) (steps : List (Step Act)) (other : Program) → IsLexed text list →
    kinds_of list.tokens ≡ front ++ (inner ++ behind) → IsProgram list.tokens steps other → IsSameButForPlaces tree other → ⊥
