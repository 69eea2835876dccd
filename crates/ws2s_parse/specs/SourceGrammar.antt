-- The grammar of WS2S text, as rows of symbols. Above the rows of each part stands the part in words: `{ X }` is X any
-- number of times, `[ X ]` at most once.
--
-- `Read` and `reads` are a token, and `Open` and `opens` one that opens a level: `(` of a group, a prefix `~`, a
-- quantifier's keyword and `=>`. The level is closed at the end of its row. The other symbols that have no token say what
-- is made of what was read so far: a construct is made once its last operand is read. So operators that are repeated group
-- to the left, `=>` groups to the right, and the parentheses of a group leave nothing.
--
-- These rows alone let a quantifier's body end before an operator that could go on with it. The reading that counts, by
-- ll1_reader's `IsReading`, takes what may come again wherever it can: the body of a quantifier reaches as far as it
-- can. Each text has one such reading.
use Rattle.std.specs.Prelude.{List, [], ◌∷◌}
use Rattle.ll1_reader.specs.declared.symbol.Symbol.{Symbol}
use Rattle.ll1_reader.specs.declared.symbol.Symbol.TheVariants.{Read, Open, Once, Maybe, Many, Act}
use Rattle.ll1_reader.specs.Grammars.{Rows}
use Rattle.pale_text.specs.declared.token.Mark.{Mark}
use Rattle.pale_text.specs.declared.token.Mark.TheVariants as mark
use Rattle.ws2s_parse.specs.declared.grammar.kind.SourceKind.{SourceKind}
use Rattle.ws2s_parse.specs.declared.grammar.kind.SourceKind.TheVariants as kind
use Rattle.ws2s_parse.specs.declared.grammar.part.SourcePart.{SourcePart}
use Rattle.ws2s_parse.specs.declared.grammar.part.SourcePart.TheVariants as part
use Rattle.ws2s_parse.specs.declared.grammar.act.SourceAct.{SourceAct}
use Rattle.ws2s_parse.specs.declared.grammar.act.SourceAct.TheVariants as act
use Rattle.ws2s_parse.specs.declared.grammar.act.ItemAct.{ItemAct}
use Rattle.ws2s_parse.specs.declared.grammar.act.ItemAct.TheVariants as items
use Rattle.ws2s_parse.specs.declared.grammar.act.TermAct.{TermAct}
use Rattle.ws2s_parse.specs.declared.grammar.act.TermAct.TheVariants as terms
use Rattle.ws2s_parse.specs.declared.grammar.act.AtomAct.{AtomAct}
use Rattle.ws2s_parse.specs.declared.grammar.act.AtomAct.TheVariants as atoms
use Rattle.ws2s_parse.specs.declared.grammar.act.ConnectiveAct.{ConnectiveAct}
use Rattle.ws2s_parse.specs.declared.grammar.act.ConnectiveAct.TheVariants as connectives

abbrev pub SourceSymbol : Type 0
SourceSymbol = Symbol SourcePart SourceAct SourceKind

-- a mark, and a mark that opens a level
abbrev pub reads : Mark → SourceSymbol
reads sign = Read (kind.Mark sign)

abbrev pub opens : Mark → SourceSymbol
opens sign = Open (kind.Mark sign)

-- an act of each group: nothing is read, and something is made
abbrev pub item : ItemAct → SourceSymbol
item made = Act (act.Item made)

abbrev pub term : TermAct → SourceSymbol
term made = Act (act.Term made)

abbrev pub atom : AtomAct → SourceSymbol
atom made = Act (act.Atom made)

abbrev pub connective : ConnectiveAct → SourceSymbol
connective made = Act (act.Connective made)

-- what each part may stand for
unfoldable pub rows_of : SourcePart → List (List SourceSymbol)
-- ---- items
-- Item = "var1" Variables ";" | "var2" Variables ";" | "pred" Name "(" [ Parameters ] ")" "=" Formula ";" | Formula ";" .
rows_of part.Item =
    (Read kind.Var1 ∷ Once part.Variables ∷ item items.DeclarePositions ∷ reads mark.Semicolon ∷ []) ∷
    (Read kind.Var2 ∷ Once part.Variables ∷ item items.DeclareSets ∷ reads mark.Semicolon ∷ []) ∷
    (Read kind.Pred ∷ Read kind.Name ∷ term terms.PushName ∷ reads mark.LeftParen ∷ Maybe part.Parameters ∷ reads mark.RightParen ∷
    reads mark.Equals ∷ Once part.Formula ∷ reads mark.Semicolon ∷ item items.AddPredicate ∷ []) ∷
    (Once part.Formula ∷ reads mark.Semicolon ∷ item items.AddFormula ∷ []) ∷ []
-- Variables = Name { NextVariable } .
rows_of part.Variables = (Read kind.Name ∷ item items.AddVariable ∷ Many part.NextVariable ∷ []) ∷ []
-- NextVariable = "," Name .
rows_of part.NextVariable = (reads mark.Comma ∷ Read kind.Name ∷ item items.AddVariable ∷ []) ∷ []
-- Parameters = Parameter { NextParameter } .
rows_of part.Parameters = (Once part.Parameter ∷ Many part.NextParameter ∷ []) ∷ []
-- NextParameter = "," Parameter .
rows_of part.NextParameter = (reads mark.Comma ∷ Once part.Parameter ∷ []) ∷ []
-- Parameter = ( "var1" | "var2" ) Name .
rows_of part.Parameter =
    (Read kind.Var1 ∷ Read kind.Name ∷ item items.PositionParameter ∷ []) ∷
    (Read kind.Var2 ∷ Read kind.Name ∷ item items.SetParameter ∷ []) ∷ []
-- ---- formulas
-- Formula = Implication { NextImplication } .
rows_of part.Formula = (Once part.Implication ∷ Many part.NextImplication ∷ []) ∷ []
-- NextImplication = "<=>" Implication .
rows_of part.NextImplication = (reads mark.Equivalent ∷ Once part.Implication ∷ connective connectives.JoinIff ∷ []) ∷ []
-- Implication = OrChain [ Implied ] .
rows_of part.Implication = (Once part.OrChain ∷ Maybe part.Implied ∷ []) ∷ []
-- Implied = "=>" Implication .
rows_of part.Implied = (opens mark.Implies ∷ Once part.Implication ∷ connective connectives.MakeImplies ∷ []) ∷ []
-- OrChain = AndChain { NextAndChain } .
rows_of part.OrChain = (Once part.AndChain ∷ Many part.NextAndChain ∷ []) ∷ []
-- NextAndChain = "|" AndChain .
rows_of part.NextAndChain = (reads mark.Bar ∷ Once part.AndChain ∷ connective connectives.JoinOr ∷ []) ∷ []
-- AndChain = Negation { NextNegation } .
rows_of part.AndChain = (Once part.Negation ∷ Many part.NextNegation ∷ []) ∷ []
-- NextNegation = "&" Negation .
rows_of part.NextNegation = (reads mark.Ampersand ∷ Once part.Negation ∷ connective connectives.JoinAnd ∷ []) ∷ []
-- Negation = "~" Negation | ( "ex1" | "all1" | "ex2" | "all2" ) Bound | Primary .
rows_of part.Negation =
    (opens mark.Tilde ∷ Once part.Negation ∷ connective connectives.MakeNot ∷ []) ∷
    (Open kind.Ex1 ∷ connective connectives.BeginEx1 ∷ Once part.Bound ∷ []) ∷
    (Open kind.All1 ∷ connective connectives.BeginAll1 ∷ Once part.Bound ∷ []) ∷
    (Open kind.Ex2 ∷ connective connectives.BeginEx2 ∷ Once part.Bound ∷ []) ∷
    (Open kind.All2 ∷ connective connectives.BeginAll2 ∷ Once part.Bound ∷ []) ∷
    (Once part.Primary ∷ []) ∷ []
-- Bound = Name { NextBound } ":" Formula .
rows_of part.Bound =
    (Read kind.Name ∷ connective connectives.AddBound ∷ Many part.NextBound ∷ reads mark.Colon ∷ Once part.Formula ∷
    connective connectives.MakeQuantified ∷ []) ∷ []
-- NextBound = "," Name .
rows_of part.NextBound = (reads mark.Comma ∷ Read kind.Name ∷ connective connectives.AddBound ∷ []) ∷ []
-- Primary = "(" Formula ")" | "true" | "false" | "empty" "(" Name ")" | "root" { Successor } Relation | Name NameRest .
rows_of part.Primary =
    (opens mark.LeftParen ∷ Once part.Formula ∷ reads mark.RightParen ∷ []) ∷
    (Read kind.True ∷ atom atoms.TrueFormula ∷ []) ∷
    (Read kind.False ∷ atom atoms.FalseFormula ∷ []) ∷
    (Read kind.Empty ∷ reads mark.LeftParen ∷ Read kind.Name ∷ atom atoms.MakeEmpty ∷ reads mark.RightParen ∷ []) ∷
    (Read kind.Root ∷ term terms.StartRoot ∷ Many part.Successor ∷ Once part.Relation ∷ []) ∷
    (Read kind.Name ∷ term terms.PushName ∷ Once part.NameRest ∷ []) ∷ []
-- NameRest = "(" [ Arguments ] ")" | { Successor } Relation .
rows_of part.NameRest =
    (reads mark.LeftParen ∷ Maybe part.Arguments ∷ reads mark.RightParen ∷ atom atoms.MakeUse ∷ []) ∷
    (term terms.StartName ∷ Many part.Successor ∷ Once part.Relation ∷ []) ∷ []
-- Arguments = Term { NextArgument } .
rows_of part.Arguments = (Once part.Term ∷ term terms.AddArgument ∷ Many part.NextArgument ∷ []) ∷ []
-- NextArgument = "," Term .
rows_of part.NextArgument = (reads mark.Comma ∷ Once part.Term ∷ term terms.AddArgument ∷ []) ∷ []
-- Term = ( "root" | Name ) { Successor } .
rows_of part.Term =
    (Read kind.Root ∷ term terms.StartRoot ∷ Many part.Successor ∷ []) ∷
    (Read kind.Name ∷ term terms.PushName ∷ term terms.StartName ∷ Many part.Successor ∷ []) ∷ []
-- Successor = "." ( "0" | "1" ) .
rows_of part.Successor = (reads mark.Dot ∷ Once part.Child ∷ []) ∷ []
-- Child = "0" | "1" .
rows_of part.Child = (Read kind.Zero ∷ term terms.AddZero ∷ []) ∷ (Read kind.One ∷ term terms.AddOne ∷ []) ∷ []
-- Relation = ( "=" | "~=" ) Term | "in" Name | "notin" Name | "sub" Name .
rows_of part.Relation =
    (reads mark.Equals ∷ Once part.Term ∷ atom atoms.MakeSame ∷ []) ∷
    (reads mark.NotEqual ∷ Once part.Term ∷ atom atoms.MakeDiffer ∷ []) ∷
    (Read kind.In ∷ Read kind.Name ∷ atom atoms.MakeIn ∷ []) ∷
    (Read kind.NotIn ∷ Read kind.Name ∷ atom atoms.MakeNotIn ∷ []) ∷
    (Read kind.Sub ∷ Read kind.Name ∷ atom atoms.MakeSub ∷ []) ∷ []

-- a text = "ws2s" ";" { Item } .
abbrev pub text_row : List SourceSymbol
text_row = Read kind.Ws2s ∷ reads mark.Semicolon ∷ Many part.Item ∷ []

unfoldable pub source_grammar : Rows SourcePart SourceAct SourceKind
source_grammar = record { rows = rows_of; text = text_row }
