-- What the text of a program is read as, and what is refused first: a stray byte, then tokens that are no program or open too many
-- levels, then what breaks a static rule, then a triple with too many atoms or too many `new`.
use Rattle.std.specs.Prelude.{◌≡◌, ℕ, List, Some, None}
use Rattle.pale_text.specs.declared.refusal.Refusal.{Refusal}
use Rattle.pale_text.specs.declared.refusal.TextStop.{TextStop}
use Rattle.pale_text.specs.declared.refusal.TextStop.TheVariants as stop
use Rattle.pale_text.specs.declared.token.TokenList.{TokenList}
use Rattle.pale_text.specs.Lexing.{IsLexed, IsLexStop}
use Rattle.pale_syntax.specs.declared.tree.declaration.Program.{Program}
use Rattle.pale_syntax.specs.ProgramReading.{IsParsedAs, IsParseStop}
use Rattle.store_exec.specs.declared.triple.Triple.{Triple}
use Rattle.pale_types.specs.Programs.{program_fault, typed_program}
use Rattle.pale_typed.specs.TypedPrograms.{TypedProgram}
use Rattle.hoare_split.specs.Triples.{split_fault, triples_of}

-- ---- programs

-- the text's tokens are a program, which is this tree
pub record IsTextOf (text : List ℕ) (tree : Program) : Type 0 where
  pub list : TokenList
  pub lexed : IsLexed text list
  pub parsed : IsParsedAs list.tokens tree

-- the text is that of a program without a fault, which is typed so and has these triples
pub record IsReadAs (text : List ℕ) (program : TypedProgram) (triples : List Triple) : Type 0 where
  pub tree : Program
  pub written : IsTextOf text tree
  pub no_fault : program_fault tree ≡ None
  pub typed : program ≡ typed_program tree
  pub short : split_fault program ≡ None
  pub split : triples ≡ triples_of program

-- ---- refusals

-- the first refusal of a text
pub data IsRefusedAs (text : List ℕ) (refusal : Refusal) : Type 0 where
  stray : IsLexStop text (stop.Refused refusal) → IsRefusedAs text refusal
  unparsed : (list : TokenList) → IsLexed text list → IsParseStop list (stop.Refused refusal) → IsRefusedAs text refusal
  untyped : (tree : Program) → IsTextOf text tree → program_fault tree ≡ Some refusal → IsRefusedAs text refusal
  too_long : (tree : Program) → IsTextOf text tree → program_fault tree ≡ None → split_fault (typed_program tree) ≡ Some refusal
      → IsRefusedAs text refusal

-- what a stop says of a text: a refusal is the first one, and want of memory says nothing
abbrev pub IsStopOf : List ℕ → TextStop → Type 0
IsStopOf text (stop.Refused refusal) = IsRefusedAs text refusal
IsStopOf text stop.NoMemory = Unit {0}
