-- The first refusal of a text.
use Rattle.std.proofs.Common.{◌≡◌, ℕ, List, None, Result, Ok, Err, sym, ap, ◌∙◌, subst}
use Rattle.std.specs.Prelude.{IfErr, IsErrAnd}
use Rattle.pale_text.specs.declared.refusal.TextStop.{TextStop}
use Rattle.pale_text.specs.declared.refusal.TextStop.TheVariants as stop
use Rattle.pale_text.specs.declared.token.TokenList.{TokenList}
use Rattle.pale_text.specs.Lexing.{IsLexed, IsLexStop}
use Rattle.pale_syntax.specs.declared.tree.declaration.Program.{Program}
use Rattle.pale_syntax.specs.ProgramReading.{IsParseStop}
use Rattle.pale_tables.specs.Faults.{IsStop}
use Rattle.pale_types.specs.Programs.{program_fault, typed_program}
use Rattle.pale_typed.specs.TypedPrograms.{TypedProgram}
use Rattle.hoare_split.specs.Triples.{split_fault}
use Rattle.whole_program.specs.ProgramTexts.{IsTextOf, IsStopOf, stray, unparsed, untyped, too_long}

-- a `?` hands a stop on
pub handed_on : {X : Type 0} (text : List ℕ) (r : Result X TextStop) (e : TextStop) → IsErrAnd r (λ y. y ≡ e) → IsStopOf text e → IfErr r (IsStopOf text)
handed_on text (Ok x) e is said = absurd is
handed_on text (Err y) e is said = subst (IsStopOf text) (sym is) said

-- ---- what each step says

pub lex_stop : (text : List ℕ) (e : TextStop) → IsLexStop text e → IsStopOf text e
lex_stop text (stop.Refused refusal) is = stray is
lex_stop text stop.NoMemory is = tt

pub parse_stop : (text : List ℕ) (list : TokenList) → IsLexed text list → (e : TextStop) → IsParseStop list e → IsStopOf text e
parse_stop text list lexed (stop.Refused refusal) is = unparsed list lexed is
parse_stop text list lexed stop.NoMemory is = tt

pub type_stop : (text : List ℕ) (tree : Program) → IsTextOf text tree → (e : TextStop) → IsStop (program_fault tree) e → IsStopOf text e
type_stop text tree written (stop.Refused refusal) is = untyped tree written is
type_stop text tree written stop.NoMemory is = tt

pub split_stop : (text : List ℕ) (tree : Program) → IsTextOf text tree → program_fault tree ≡ None → (program : TypedProgram) →
    program ≡ typed_program tree → (e : TextStop) → IsStop (split_fault program) e → IsStopOf text e
split_stop text tree written none program typed (stop.Refused refusal) is = too_long tree written none (ap split_fault (sym typed) ∙ is)
split_stop text tree written none program typed stop.NoMemory is = tt
