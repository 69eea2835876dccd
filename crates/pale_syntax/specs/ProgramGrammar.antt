-- The grammar of programs, as rows of symbols. Above the rows of each part stands the part in words: `{ X }` is X any
-- number of times, `[ X ]` at most once. A program is `{ Declaration }`.
--
-- `Read` and `reads` are a token, and `Open` and `opens` one that opens a level: `(` of a group, `{` of a block or a
-- procedure's body, a prefix `~` or `!`, a quantifier's keyword and `=>`. The level is closed at the end of its row. The
-- other symbols that have no token say what is made of what was read so far: a name or a place is noted, and a construct is
-- made once its last operand is read. So operators that are repeated group to the left, `=>` groups to the right, and the
-- parentheses of a group leave nothing.
--
-- These rows alone let a quantifier's body end before an operator that could go on with it. The reading that counts, by
-- ll1_reader's `IsReading`, takes what may come again wherever it can: the body of a quantifier reaches as far as it
-- can. Each program has one such reading.
use Rattle.std.specs.Prelude.{List, [], ◌∷◌}
use Rattle.ll1_reader.specs.declared.symbol.Symbol.{Symbol}
use Rattle.ll1_reader.specs.declared.symbol.Symbol.TheVariants.{Read, Open, Once, Maybe, Many, Act}
use Rattle.ll1_reader.specs.Grammars.{Rows}
use Rattle.pale_text.specs.declared.token.Mark.{Mark}
use Rattle.pale_text.specs.declared.token.Mark.TheVariants as mark
use Rattle.pale_syntax.specs.declared.grammar.kind.ProgramKind.{ProgramKind}
use Rattle.pale_syntax.specs.declared.grammar.kind.ProgramKind.TheVariants as kind
use Rattle.pale_syntax.specs.declared.grammar.part.ProgramPart.{ProgramPart}
use Rattle.pale_syntax.specs.declared.grammar.part.ProgramPart.TheVariants as part
use Rattle.pale_syntax.specs.declared.grammar.act.Act.{Act as ProgramAct}
use Rattle.pale_syntax.specs.declared.grammar.act.Act.TheVariants as act
use Rattle.pale_syntax.specs.declared.grammar.act.WordAct.{WordAct}
use Rattle.pale_syntax.specs.declared.grammar.act.WordAct.TheVariants as words
use Rattle.pale_syntax.specs.declared.grammar.act.RouteAct.{RouteAct}
use Rattle.pale_syntax.specs.declared.grammar.act.RouteAct.TheVariants as routes
use Rattle.pale_syntax.specs.declared.grammar.act.ConditionAct.{ConditionAct}
use Rattle.pale_syntax.specs.declared.grammar.act.ConditionAct.TheVariants as conditions
use Rattle.pale_syntax.specs.declared.grammar.act.AtomAct.{AtomAct}
use Rattle.pale_syntax.specs.declared.grammar.act.AtomAct.TheVariants as atoms
use Rattle.pale_syntax.specs.declared.grammar.act.ConnectiveAct.{ConnectiveAct}
use Rattle.pale_syntax.specs.declared.grammar.act.ConnectiveAct.TheVariants as connectives
use Rattle.pale_syntax.specs.declared.grammar.act.StatementAct.{StatementAct}
use Rattle.pale_syntax.specs.declared.grammar.act.StatementAct.TheVariants as statements
use Rattle.pale_syntax.specs.declared.grammar.act.CallAct.{CallAct}
use Rattle.pale_syntax.specs.declared.grammar.act.CallAct.TheVariants as calls
use Rattle.pale_syntax.specs.declared.grammar.act.TypeAct.{TypeAct}
use Rattle.pale_syntax.specs.declared.grammar.act.TypeAct.TheVariants as types
use Rattle.pale_syntax.specs.declared.grammar.act.PredicateAct.{PredicateAct}
use Rattle.pale_syntax.specs.declared.grammar.act.PredicateAct.TheVariants as predicates
use Rattle.pale_syntax.specs.declared.grammar.act.ProcedureAct.{ProcedureAct}
use Rattle.pale_syntax.specs.declared.grammar.act.ProcedureAct.TheVariants as procedures

abbrev pub ProgramSymbol : Type 0
ProgramSymbol = Symbol ProgramPart ProgramAct ProgramKind

-- a mark, and a mark that opens a level
abbrev pub reads : Mark → ProgramSymbol
reads sign = Read (kind.Mark sign)

abbrev pub opens : Mark → ProgramSymbol
opens sign = Open (kind.Mark sign)

-- an act of each group: nothing is read, and something is made
abbrev pub word : WordAct → ProgramSymbol
word made = Act (act.Word made)

abbrev pub route : RouteAct → ProgramSymbol
route made = Act (act.Route made)

abbrev pub condition : ConditionAct → ProgramSymbol
condition made = Act (act.Condition made)

abbrev pub atom : AtomAct → ProgramSymbol
atom made = Act (act.Atom made)

abbrev pub connective : ConnectiveAct → ProgramSymbol
connective made = Act (act.Connective made)

abbrev pub statement : StatementAct → ProgramSymbol
statement made = Act (act.Statement made)

abbrev pub call : CallAct → ProgramSymbol
call made = Act (act.Call made)

abbrev pub type : TypeAct → ProgramSymbol
type made = Act (act.Type made)

abbrev pub predicate : PredicateAct → ProgramSymbol
predicate made = Act (act.Predicate made)

abbrev pub procedure : ProcedureAct → ProgramSymbol
procedure made = Act (act.Procedure made)

-- the token read last is a name, and its place
abbrev pub push_name : ProgramSymbol
push_name = word words.PushName

abbrev pub mark_place : ProgramSymbol
mark_place = word words.MarkPlace

-- what each part may stand for
unfoldable pub rows_of : ProgramPart → List (List ProgramSymbol)
-- ---- declarations and types
-- Declaration = Type | Predicate | Procedure .
rows_of part.Declaration = (Once part.Type ∷ []) ∷ (Once part.Predicate ∷ []) ∷ (Once part.Procedure ∷ []) ∷ []
-- Type = "type" Name "=" "{" { Field } "}" { Variant } .
rows_of part.Type =
    (Read kind.Type ∷ Read kind.Name ∷ push_name ∷ reads mark.Equals ∷ reads mark.LeftBrace ∷ Many part.Field ∷ type types.EndCommon ∷
    reads mark.RightBrace ∷ Many part.Variant ∷ type types.AddType ∷ []) ∷ []
-- Variant = "|" Name "{" { Field } "}" .
rows_of part.Variant =
    (reads mark.Bar ∷ Read kind.Name ∷ push_name ∷ reads mark.LeftBrace ∷ Many part.Field ∷ reads mark.RightBrace ∷
    type types.AddVariant ∷ []) ∷ []
-- Field = "bool" Name ";" | "data" Name ":" Name ";" | "pointer" Name ":" Name "[" Route "]" ";" .
rows_of part.Field =
    (Read kind.Bool ∷ Read kind.Name ∷ push_name ∷ type types.BoolField ∷ reads mark.Semicolon ∷ []) ∷
    (Read kind.Data ∷ Read kind.Name ∷ push_name ∷ reads mark.Colon ∷ Read kind.Name ∷ push_name ∷ type types.DataField ∷
    reads mark.Semicolon ∷ []) ∷
    (Read kind.Pointer ∷ Read kind.Name ∷ push_name ∷ reads mark.Colon ∷ Read kind.Name ∷ push_name ∷ reads mark.LeftBracket ∷
    mark_place ∷ Once part.Route ∷ reads mark.RightBracket ∷ type types.PointerField ∷ reads mark.Semicolon ∷ []) ∷ []
-- ---- routes
-- Route = Sequence { NextAlternative } .
rows_of part.Route = (Once part.Sequence ∷ Many part.NextAlternative ∷ []) ∷ []
-- NextAlternative = "+" Sequence .
rows_of part.NextAlternative = (reads mark.Plus ∷ Once part.Sequence ∷ route routes.JoinOr ∷ []) ∷ []
-- Sequence = Repeated { NextRepeated } .
rows_of part.Sequence = (Once part.Repeated ∷ Many part.NextRepeated ∷ []) ∷ []
-- NextRepeated = "." Repeated .
rows_of part.NextRepeated = (reads mark.Dot ∷ Once part.Repeated ∷ route routes.JoinThen ∷ []) ∷ []
-- Repeated = Step { Star } .
rows_of part.Repeated = (Once part.Step ∷ Many part.Star ∷ []) ∷ []
-- Star = "*" .
rows_of part.Star = (reads mark.Star ∷ route routes.AddStar ∷ []) ∷ []
-- Step = Name | "^" [ UpName ] | "$" | "root" | "@" Name [ VariantTest ] | "?" Name | "!" Name | "(" Route ")" .
rows_of part.Step =
    (Read kind.Name ∷ push_name ∷ route routes.Down ∷ []) ∷
    (reads mark.Caret ∷ route routes.UpAny ∷ Maybe part.UpName ∷ []) ∷
    (reads mark.Dollar ∷ route routes.Leaf ∷ []) ∷
    (Read kind.Root ∷ route routes.Root ∷ []) ∷
    (reads mark.At ∷ Read kind.Name ∷ push_name ∷ route routes.IsType ∷ Maybe part.VariantTest ∷ []) ∷
    (reads mark.Question ∷ Read kind.Name ∷ push_name ∷ route routes.IsTrue ∷ []) ∷
    (reads mark.Bang ∷ Read kind.Name ∷ push_name ∷ route routes.IsFalse ∷ []) ∷
    (opens mark.LeftParen ∷ Once part.Route ∷ reads mark.RightParen ∷ []) ∷ []
-- UpName = Name .
rows_of part.UpName = (Read kind.Name ∷ push_name ∷ route routes.NameUp ∷ []) ∷ []
-- VariantTest = ":" Name .
rows_of part.VariantTest = (reads mark.Colon ∷ Read kind.Name ∷ push_name ∷ route routes.NarrowToVariant ∷ []) ∷ []
-- ---- predicates
-- Predicate = "pred" Name "(" [ PredicateParameters ] ")" "=" Bracketed ";" .
rows_of part.Predicate =
    (Read kind.Pred ∷ Read kind.Name ∷ push_name ∷ reads mark.LeftParen ∷ Maybe part.PredicateParameters ∷ reads mark.RightParen ∷
    reads mark.Equals ∷ Once part.Bracketed ∷ reads mark.Semicolon ∷ predicate predicates.AddPredicate ∷ []) ∷ []
-- PredicateParameters = PredicateParameter { NextPredicateParameter } .
rows_of part.PredicateParameters = (Once part.PredicateParameter ∷ Many part.NextPredicateParameter ∷ []) ∷ []
-- NextPredicateParameter = "," PredicateParameter .
rows_of part.NextPredicateParameter = (reads mark.Comma ∷ Once part.PredicateParameter ∷ []) ∷ []
-- PredicateParameter = Name ":" Name | "set" Name ":" Name | "bool" Name .
rows_of part.PredicateParameter =
    (Read kind.Name ∷ push_name ∷ reads mark.Colon ∷ Read kind.Name ∷ push_name ∷ predicate predicates.CellParameter ∷ []) ∷
    (Read kind.Set ∷ Read kind.Name ∷ push_name ∷ reads mark.Colon ∷ Read kind.Name ∷ push_name ∷ predicate predicates.SetParameter ∷ []) ∷
    (Read kind.Bool ∷ Read kind.Name ∷ push_name ∷ predicate predicates.BoolParameter ∷ []) ∷ []
-- Bracketed = "[" Iff "]" .
rows_of part.Bracketed =
    (reads mark.LeftBracket ∷ mark_place ∷ Once part.Iff ∷ reads mark.RightBracket ∷ connective connectives.Bracket ∷ []) ∷ []
-- ---- procedures
-- Procedure = "proc" Name "(" [ Parameters ] ")" [ Returns ] [ Logic ] [ Pre ] [ Post ] "{" { Local } { Statement } "}" .
rows_of part.Procedure =
    (Read kind.Proc ∷ mark_place ∷ Read kind.Name ∷ push_name ∷ reads mark.LeftParen ∷ Maybe part.Parameters ∷ reads mark.RightParen ∷
    procedure procedures.TakeParameters ∷ Maybe part.Returns ∷ Maybe part.Logic ∷ Maybe part.Pre ∷ Maybe part.Post ∷
    opens mark.LeftBrace ∷ statement statements.BeginBlock ∷ Many part.Local ∷ Many part.Statement ∷ reads mark.RightBrace ∷
    mark_place ∷ procedure procedures.AddProcedure ∷ []) ∷ []
-- Returns = "returns" "(" Parameters ")" .
rows_of part.Returns =
    (Read kind.Returns ∷ reads mark.LeftParen ∷ Once part.Parameters ∷ reads mark.RightParen ∷ procedure procedures.TakeResults ∷ []) ∷ []
-- Logic = "logic" LogicParameter { NextLogicParameter } .
rows_of part.Logic = (Read kind.Logic ∷ Once part.LogicParameter ∷ Many part.NextLogicParameter ∷ []) ∷ []
-- NextLogicParameter = "," LogicParameter .
rows_of part.NextLogicParameter = (reads mark.Comma ∷ Once part.LogicParameter ∷ []) ∷ []
-- LogicParameter = "set" Name ":" Name | "bool" Name .
rows_of part.LogicParameter =
    (Read kind.Set ∷ Read kind.Name ∷ push_name ∷ reads mark.Colon ∷ Read kind.Name ∷ push_name ∷ procedure procedures.LogicSet ∷ []) ∷
    (Read kind.Bool ∷ Read kind.Name ∷ push_name ∷ procedure procedures.LogicBool ∷ []) ∷ []
-- Pre = "pre" Bracketed .
rows_of part.Pre = (Read kind.Pre ∷ Once part.Bracketed ∷ procedure procedures.SetPre ∷ []) ∷ []
-- Post = "post" Bracketed .
rows_of part.Post = (Read kind.Post ∷ Once part.Bracketed ∷ procedure procedures.SetPost ∷ []) ∷ []
-- Parameters = Parameter { NextParameter } .
rows_of part.Parameters = (Once part.Parameter ∷ Many part.NextParameter ∷ []) ∷ []
-- NextParameter = "," Parameter .
rows_of part.NextParameter = (reads mark.Comma ∷ Once part.Parameter ∷ []) ∷ []
-- Parameter = "data" Name ":" Name | "pointer" Name ":" Name | "bool" Name .
rows_of part.Parameter =
    (Read kind.Data ∷ Read kind.Name ∷ push_name ∷ reads mark.Colon ∷ Read kind.Name ∷ push_name ∷ procedure procedures.DataParameter ∷ []) ∷
    (Read kind.Pointer ∷ Read kind.Name ∷ push_name ∷ reads mark.Colon ∷ Read kind.Name ∷ push_name ∷
    procedure procedures.PointerParameter ∷ []) ∷
    (Read kind.Bool ∷ Read kind.Name ∷ push_name ∷ procedure procedures.BoolVariable ∷ []) ∷ []
-- Local = Parameter ";" .
rows_of part.Local = (Once part.Parameter ∷ reads mark.Semicolon ∷ []) ∷ []
-- ---- statements
-- Block = "{" { Statement } "}" .
rows_of part.Block = (opens mark.LeftBrace ∷ statement statements.BeginBlock ∷ Many part.Statement ∷ reads mark.RightBrace ∷ []) ∷ []
-- Statement = "skip" ";" | "if" "(" Condition ")" Block [ Else ] | "while" "(" Condition ")" Bracketed Block | "split" Bracketed ";" | "assert"
-- Bracketed ";" | "free" Name ";" | "call" Name CallRest ";" | Path "=" Value ";" .
rows_of part.Statement =
    (Read kind.Skip ∷ mark_place ∷ statement statements.MakeSkip ∷ reads mark.Semicolon ∷ []) ∷
    (Read kind.If ∷ mark_place ∷ reads mark.LeftParen ∷ Once part.Condition ∷ reads mark.RightParen ∷ Once part.Block ∷
    statement statements.NoElse ∷ Maybe part.Else ∷ statement statements.MakeIf ∷ []) ∷
    (Read kind.While ∷ mark_place ∷ reads mark.LeftParen ∷ Once part.Condition ∷ reads mark.RightParen ∷ Once part.Bracketed ∷
    Once part.Block ∷ statement statements.MakeWhile ∷ []) ∷
    (Read kind.Split ∷ mark_place ∷ Once part.Bracketed ∷ reads mark.Semicolon ∷ statement statements.MakeSplit ∷ []) ∷
    (Read kind.Assert ∷ mark_place ∷ Once part.Bracketed ∷ reads mark.Semicolon ∷ statement statements.MakeAssert ∷ []) ∷
    (Read kind.Free ∷ mark_place ∷ Read kind.Name ∷ push_name ∷ reads mark.Semicolon ∷ statement statements.MakeFree ∷ []) ∷
    (Read kind.Call ∷ mark_place ∷ Read kind.Name ∷ push_name ∷ Once part.CallRest ∷ reads mark.Semicolon ∷ call calls.MakeCall ∷ []) ∷
    (Once part.Path ∷ reads mark.Equals ∷ mark_place ∷ Once part.Value ∷ reads mark.Semicolon ∷ statement statements.MakeAssign ∷ []) ∷ []
-- Else = "else" Block .
rows_of part.Else = (Read kind.Else ∷ Once part.Block ∷ statement statements.SetElse ∷ []) ∷ []
-- CallRest = "(" Arguments | { NextResult } "=" Name "(" Arguments .
rows_of part.CallRest =
    (reads mark.LeftParen ∷ Once part.Arguments ∷ []) ∷
    (call calls.TakeResult ∷ Many part.NextResult ∷ reads mark.Equals ∷ Read kind.Name ∷ push_name ∷ reads mark.LeftParen ∷
    Once part.Arguments ∷ []) ∷ []
-- NextResult = "," Name .
rows_of part.NextResult = (reads mark.Comma ∷ Read kind.Name ∷ push_name ∷ call calls.TakeResult ∷ []) ∷ []
-- Arguments = [ Argued ] [ LogicArguments ] ")" [ Keep ] .
rows_of part.Arguments =
    (Maybe part.Argued ∷ call calls.TakeArguments ∷ Maybe part.LogicArguments ∷ reads mark.RightParen ∷ Maybe part.Keep ∷ []) ∷ []
-- Argued = Argument { NextArgument } .
rows_of part.Argued = (Once part.Argument ∷ Many part.NextArgument ∷ []) ∷ []
-- NextArgument = "," Argument .
rows_of part.NextArgument = (reads mark.Comma ∷ Once part.Argument ∷ []) ∷ []
-- LogicArguments = ";" Argument { NextArgument } .
rows_of part.LogicArguments = (reads mark.Semicolon ∷ Once part.Argument ∷ Many part.NextArgument ∷ []) ∷ []
-- Argument = Name | "null" | "true" | "false" .
rows_of part.Argument =
    (Read kind.Name ∷ push_name ∷ call calls.NameArgument ∷ []) ∷
    (Read kind.Null ∷ call calls.NullArgument ∷ []) ∷
    (Read kind.True ∷ call calls.TrueArgument ∷ []) ∷
    (Read kind.False ∷ call calls.FalseArgument ∷ []) ∷ []
-- Keep = "keep" Bracketed .
rows_of part.Keep = (Read kind.Keep ∷ Once part.Bracketed ∷ call calls.SetKeep ∷ []) ∷ []
-- Value = "new" Name [ NewVariant ] | Condition .
rows_of part.Value =
    (Read kind.New ∷ mark_place ∷ Read kind.Name ∷ push_name ∷ statement statements.MakeNew ∷ Maybe part.NewVariant ∷ []) ∷
    (word words.MarkNext ∷ Once part.Condition ∷ statement statements.MakeValue ∷ []) ∷ []
-- NewVariant = ":" Name .
rows_of part.NewVariant = (reads mark.Colon ∷ Read kind.Name ∷ push_name ∷ statement statements.NarrowNew ∷ []) ∷ []
-- ---- conditions of the code
-- Condition = Conjunction { NextConjunction } .
rows_of part.Condition = (Once part.Conjunction ∷ Many part.NextConjunction ∷ []) ∷ []
-- NextConjunction = "||" Conjunction .
rows_of part.NextConjunction = (reads mark.OrElse ∷ Once part.Conjunction ∷ condition conditions.JoinOrElse ∷ []) ∷ []
-- Conjunction = Literal { NextLiteral } .
rows_of part.Conjunction = (Once part.Literal ∷ Many part.NextLiteral ∷ []) ∷ []
-- NextLiteral = "&&" Literal .
rows_of part.NextLiteral = (reads mark.AndAlso ∷ Once part.Literal ∷ condition conditions.JoinAndAlso ∷ []) ∷ []
-- Literal = "!" Literal | "(" Condition ")" | "true" | "false" | Term [ LiteralRelation ] .
rows_of part.Literal =
    (opens mark.Bang ∷ mark_place ∷ Once part.Literal ∷ condition conditions.NotCondition ∷ []) ∷
    (opens mark.LeftParen ∷ Once part.Condition ∷ reads mark.RightParen ∷ []) ∷
    (Read kind.True ∷ condition conditions.TrueCondition ∷ []) ∷
    (Read kind.False ∷ condition conditions.FalseCondition ∷ []) ∷
    (Once part.Term ∷ condition conditions.TermAlone ∷ Maybe part.LiteralRelation ∷ []) ∷ []
-- LiteralRelation = ( "==" | "!=" ) Term | ":" Name .
rows_of part.LiteralRelation =
    (condition conditions.TakeTermBack ∷ reads mark.SameAs ∷ mark_place ∷ Once part.Term ∷ condition conditions.SameAs ∷ []) ∷
    (condition conditions.TakeTermBack ∷ reads mark.NotSame ∷ mark_place ∷ Once part.Term ∷ condition conditions.NotSameAs ∷ []) ∷
    (condition conditions.TakeTermBack ∷ reads mark.Colon ∷ mark_place ∷ Read kind.Name ∷ push_name ∷ condition conditions.OfVariant ∷ []) ∷ []
-- Term = "null" | Path .
rows_of part.Term = (Read kind.Null ∷ word words.PushNull ∷ []) ∷ (Once part.Path ∷ word words.PathTerm ∷ []) ∷ []
-- Path = Name { PathStep } .
rows_of part.Path = (Read kind.Name ∷ push_name ∷ word words.StartPath ∷ Many part.PathStep ∷ []) ∷ []
-- PathStep = "." Name .
rows_of part.PathStep = (reads mark.Dot ∷ Read kind.Name ∷ push_name ∷ word words.ExtendPath ∷ []) ∷ []
-- ---- assertions
-- Iff = Implication { NextImplication } .
rows_of part.Iff = (Once part.Implication ∷ Many part.NextImplication ∷ []) ∷ []
-- NextImplication = "<=>" Implication .
rows_of part.NextImplication = (reads mark.Equivalent ∷ Once part.Implication ∷ connective connectives.JoinIff ∷ []) ∷ []
-- Implication = OrChain [ Implied ] .
rows_of part.Implication = (Once part.OrChain ∷ Maybe part.Implied ∷ []) ∷ []
-- Implied = "=>" Implication .
rows_of part.Implied = (opens mark.Implies ∷ mark_place ∷ Once part.Implication ∷ connective connectives.MakeImp ∷ []) ∷ []
-- OrChain = AndChain { NextAndChain } .
rows_of part.OrChain = (Once part.AndChain ∷ Many part.NextAndChain ∷ []) ∷ []
-- NextAndChain = "|" AndChain .
rows_of part.NextAndChain = (reads mark.Bar ∷ Once part.AndChain ∷ connective connectives.JoinOr ∷ []) ∷ []
-- AndChain = Negation { NextNegation } .
rows_of part.AndChain = (Once part.Negation ∷ Many part.NextNegation ∷ []) ∷ []
-- NextNegation = "&" Negation .
rows_of part.NextNegation = (reads mark.Ampersand ∷ Once part.Negation ∷ connective connectives.JoinAnd ∷ []) ∷ []
-- Negation = "~" Negation | "ex" Quantified | "all" Quantified | Primary .
rows_of part.Negation =
    (opens mark.Tilde ∷ mark_place ∷ Once part.Negation ∷ connective connectives.MakeNot ∷ []) ∷
    (Open kind.Ex ∷ connective connectives.BeginEx ∷ Once part.Quantified ∷ []) ∷
    (Open kind.All ∷ connective connectives.BeginAll ∷ Once part.Quantified ∷ []) ∷
    (Once part.Primary ∷ []) ∷ []
-- Quantified = [ SetWord ] Name { NextBound } ":" Name ":" Iff .
rows_of part.Quantified =
    (Maybe part.SetWord ∷ Read kind.Name ∷ push_name ∷ connective connectives.AddBound ∷ Many part.NextBound ∷ reads mark.Colon ∷
    Read kind.Name ∷ push_name ∷ reads mark.Colon ∷ Once part.Iff ∷ connective connectives.MakeQuantified ∷ []) ∷ []
-- SetWord = "set" .
rows_of part.SetWord = (Read kind.Set ∷ connective connectives.BindsSets ∷ []) ∷ []
-- NextBound = "," Name .
rows_of part.NextBound = (reads mark.Comma ∷ Read kind.Name ∷ push_name ∷ connective connectives.AddBound ∷ []) ∷ []
-- Primary = "(" Iff ")" | "true" | "false" | "null" Relation | Name [ NameRest ] .
rows_of part.Primary =
    (opens mark.LeftParen ∷ Once part.Iff ∷ reads mark.RightParen ∷ []) ∷
    (Read kind.True ∷ atom atoms.TrueAssertion ∷ []) ∷
    (Read kind.False ∷ atom atoms.FalseAssertion ∷ []) ∷
    (Read kind.Null ∷ word words.PushNull ∷ Once part.Relation ∷ []) ∷
    (Read kind.Name ∷ push_name ∷ word words.StartPath ∷ atom atoms.PathAlone ∷ Maybe part.NameRest ∷ []) ∷ []
-- NameRest = "(" [ UsedPaths ] ")" | PathAloneStep { PathAloneStep } [ NameRelation ] | NameRelation .
rows_of part.NameRest =
    (reads mark.LeftParen ∷ Maybe part.UsedPaths ∷ reads mark.RightParen ∷ atom atoms.MakeUse ∷ []) ∷
    (Once part.PathAloneStep ∷ Many part.PathAloneStep ∷ Maybe part.NameRelation ∷ []) ∷
    (Once part.NameRelation ∷ []) ∷ []
-- UsedPaths = Path { NextUsedPath } .
rows_of part.UsedPaths = (Once part.Path ∷ atom atoms.AddUsedPath ∷ Many part.NextUsedPath ∷ []) ∷ []
-- NextUsedPath = "," Path .
rows_of part.NextUsedPath = (reads mark.Comma ∷ Once part.Path ∷ atom atoms.AddUsedPath ∷ []) ∷ []
-- PathAloneStep = "." Name .
rows_of part.PathAloneStep = (reads mark.Dot ∷ Read kind.Name ∷ push_name ∷ atom atoms.ExtendPathAlone ∷ []) ∷ []
-- NameRelation = Relation .
rows_of part.NameRelation = (atom atoms.TakePathBack ∷ Once part.Relation ∷ []) ∷ []
-- Relation = "=" Term | "~=" Term | "in" Name | "sub" Name | "<" Route ">" Term | ":" Name .
rows_of part.Relation =
    (reads mark.Equals ∷ mark_place ∷ Once part.Term ∷ atom atoms.MakeSame ∷ []) ∷
    (reads mark.NotEqual ∷ mark_place ∷ Once part.Term ∷ atom atoms.MakeDiffer ∷ []) ∷
    (Read kind.In ∷ mark_place ∷ Read kind.Name ∷ push_name ∷ atom atoms.MakeMember ∷ []) ∷
    (Read kind.Sub ∷ mark_place ∷ Read kind.Name ∷ push_name ∷ atom atoms.MakeSubset ∷ []) ∷
    (reads mark.Less ∷ mark_place ∷ Once part.Route ∷ reads mark.Greater ∷ Once part.Term ∷ atom atoms.MakeWalk ∷ []) ∷
    (reads mark.Colon ∷ mark_place ∷ Read kind.Name ∷ push_name ∷ atom atoms.MakeIs ∷ []) ∷ []

unfoldable pub program_grammar : Rows ProgramPart ProgramAct ProgramKind
program_grammar = record { rows = rows_of; text = Many part.Declaration ∷ [] }
