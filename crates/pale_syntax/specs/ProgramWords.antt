-- The kinds of the tokens of program text, and its reserved words.
use Rattle.std.specs.Prelude.{ℕ, List, [], ◌∷◌, codes}
use Rattle.pale_syntax.specs.declared.grammar.kind.ProgramKind.{ProgramKind}
use Rattle.pale_syntax.specs.declared.grammar.kind.ProgramKind.TheVariants as kind
use Rattle.pale_text.specs.declared.token.Token.{Token}
use Rattle.pale_text.specs.declared.token.TokenKind.{TokenKind}
use Rattle.pale_text.specs.declared.token.TokenKind.TheVariants as token
use Rattle.pale_text.specs.Kinds.{kind_among, kinds_by}

-- the words that are no names in programs, each with its kind
abbrev pub reserved : List (List ℕ × ProgramKind)
reserved = (codes "type", kind.Type) ∷ (codes "bool", kind.Bool) ∷ (codes "data", kind.Data) ∷ (codes "pointer", kind.Pointer) ∷
    (codes "pred", kind.Pred) ∷ (codes "set", kind.Set) ∷ (codes "proc", kind.Proc) ∷ (codes "returns", kind.Returns) ∷
    (codes "logic", kind.Logic) ∷ (codes "pre", kind.Pre) ∷ (codes "post", kind.Post) ∷ (codes "skip", kind.Skip) ∷
    (codes "if", kind.If) ∷ (codes "else", kind.Else) ∷ (codes "while", kind.While) ∷ (codes "split", kind.Split) ∷
    (codes "assert", kind.Assert) ∷ (codes "free", kind.Free) ∷ (codes "new", kind.New) ∷ (codes "null", kind.Null) ∷
    (codes "true", kind.True) ∷ (codes "false", kind.False) ∷ (codes "call", kind.Call) ∷ (codes "keep", kind.Keep) ∷
    (codes "ex", kind.Ex) ∷ (codes "all", kind.All) ∷ (codes "in", kind.In) ∷ (codes "sub", kind.Sub) ∷ (codes "root", kind.Root) ∷ []

unfoldable pub name_kind : List ℕ → ProgramKind
name_kind name = kind_among reserved kind.Name name

abbrev pub kind_of : TokenKind → ProgramKind
kind_of (token.Name name) = name_kind name
kind_of (token.Number digits) = kind.Number
kind_of (token.Mark mark) = kind.Mark mark

abbrev pub kinds_in : List Token → List ProgramKind
kinds_in = kinds_by kind_of
