-- The LL(1) table of the grammar of programs. ll1_reader's `is_ll1` says what is meant by each of these, and is
-- tried on each part.
use Rattle.std.specs.Prelude.{ℕ, List, [], ◌∷◌, ◌++◌}
use Rattle.ll1_reader.specs.Predicting.{Table}
use Rattle.pale_text.specs.declared.token.Mark.TheVariants as mark
unfoldable pub use Rattle.pale_text.specs.Marks.{mark_number}
use Rattle.pale_syntax.specs.declared.grammar.kind.ProgramKind.{ProgramKind}
use Rattle.pale_syntax.specs.declared.grammar.kind.ProgramKind.TheVariants as kind
use Rattle.pale_syntax.specs.declared.grammar.part.ProgramPart.{ProgramPart}
use Rattle.pale_syntax.specs.declared.grammar.part.ProgramPart.TheVariants as part
use Rattle.pale_parse.specs.declared.tables.production.ProgramProduction.{ProgramProduction}
use Rattle.pale_parse.specs.declared.tables.production.ProgramProduction.TheVariants as row
unfoldable pub use Rattle.pale_parse.specs.ParseSizes.{cost_of, sample_of, begin_of, size_of}

-- a number for each kind: those of the marks come first
unfoldable pub number_of : ProgramKind → ℕ
number_of kind.Name = 30
number_of kind.Number = 31
number_of kind.Type = 32
number_of kind.Bool = 33
number_of kind.Data = 34
number_of kind.Pointer = 35
number_of kind.Pred = 36
number_of kind.Set = 37
number_of kind.Proc = 38
number_of kind.Returns = 39
number_of kind.Logic = 40
number_of kind.Pre = 41
number_of kind.Post = 42
number_of kind.Skip = 43
number_of kind.If = 44
number_of kind.Else = 45
number_of kind.While = 46
number_of kind.Split = 47
number_of kind.Assert = 48
number_of kind.Free = 49
number_of kind.New = 50
number_of kind.Null = 51
number_of kind.True = 52
number_of kind.False = 53
number_of kind.Call = 54
number_of kind.Keep = 55
number_of kind.Ex = 56
number_of kind.All = 57
number_of kind.In = 58
number_of kind.Sub = 59
number_of kind.Root = 60
number_of (kind.Mark sign) = mark_number sign

-- a number for each part
unfoldable pub label_of : ProgramPart → ℕ
label_of part.Declaration = 0
label_of part.Type = 1
label_of part.Variant = 2
label_of part.Field = 3
label_of part.Route = 4
label_of part.NextAlternative = 5
label_of part.Sequence = 6
label_of part.NextRepeated = 7
label_of part.Repeated = 8
label_of part.Star = 9
label_of part.Step = 10
label_of part.UpName = 11
label_of part.VariantTest = 12
label_of part.Predicate = 13
label_of part.PredicateParameters = 14
label_of part.NextPredicateParameter = 15
label_of part.PredicateParameter = 16
label_of part.Bracketed = 17
label_of part.Procedure = 18
label_of part.Returns = 19
label_of part.Logic = 20
label_of part.NextLogicParameter = 21
label_of part.LogicParameter = 22
label_of part.Pre = 23
label_of part.Post = 24
label_of part.Parameters = 25
label_of part.NextParameter = 26
label_of part.Parameter = 27
label_of part.Local = 28
label_of part.Block = 29
label_of part.Statement = 30
label_of part.Else = 31
label_of part.CallRest = 32
label_of part.NextResult = 33
label_of part.Arguments = 34
label_of part.Argued = 35
label_of part.NextArgument = 36
label_of part.LogicArguments = 37
label_of part.Argument = 38
label_of part.Keep = 39
label_of part.Value = 40
label_of part.NewVariant = 41
label_of part.Condition = 42
label_of part.NextConjunction = 43
label_of part.Conjunction = 44
label_of part.NextLiteral = 45
label_of part.Literal = 46
label_of part.LiteralRelation = 47
label_of part.Term = 48
label_of part.Path = 49
label_of part.PathStep = 50
label_of part.Iff = 51
label_of part.NextImplication = 52
label_of part.Implication = 53
label_of part.Implied = 54
label_of part.OrChain = 55
label_of part.NextAndChain = 56
label_of part.AndChain = 57
label_of part.NextNegation = 58
label_of part.Negation = 59
label_of part.Quantified = 60
label_of part.SetWord = 61
label_of part.NextBound = 62
label_of part.Primary = 63
label_of part.NameRest = 64
label_of part.UsedPaths = 65
label_of part.NextUsedPath = 66
label_of part.PathAloneStep = 67
label_of part.NameRelation = 68
label_of part.Relation = 69

-- the FIRST set of each row
unfoldable pub first_set : ProgramProduction → List ProgramKind
first_set row.ATypeDeclaration = kind.Type ∷ []
first_set row.APredicateDeclaration = kind.Pred ∷ []
first_set row.AProcedureDeclaration = kind.Proc ∷ []
first_set row.TypeDeclared = kind.Type ∷ []
first_set row.VariantDeclared = kind.Mark mark.Bar ∷ []
first_set row.BoolFieldDeclared = kind.Bool ∷ []
first_set row.DataFieldDeclared = kind.Data ∷ []
first_set row.PointerFieldDeclared = kind.Pointer ∷ []
first_set row.RouteOfSequences = kind.Name ∷ kind.Mark mark.Caret ∷ kind.Mark mark.Dollar ∷ kind.Root ∷ kind.Mark mark.At ∷
    kind.Mark mark.Question ∷ kind.Mark mark.Bang ∷ kind.Mark mark.LeftParen ∷ []
first_set row.AlternativeAfterPlus = kind.Mark mark.Plus ∷ []
first_set row.SequenceOfRepeated = kind.Name ∷ kind.Mark mark.Caret ∷ kind.Mark mark.Dollar ∷ kind.Root ∷ kind.Mark mark.At ∷
    kind.Mark mark.Question ∷ kind.Mark mark.Bang ∷ kind.Mark mark.LeftParen ∷ []
first_set row.RepeatedAfterDot = kind.Mark mark.Dot ∷ []
first_set row.StepWithStars = kind.Name ∷ kind.Mark mark.Caret ∷ kind.Mark mark.Dollar ∷ kind.Root ∷ kind.Mark mark.At ∷
    kind.Mark mark.Question ∷ kind.Mark mark.Bang ∷ kind.Mark mark.LeftParen ∷ []
first_set row.OneStar = kind.Mark mark.Star ∷ []
first_set row.StepDown = kind.Name ∷ []
first_set row.StepUp = kind.Mark mark.Caret ∷ []
first_set row.LeafTest = kind.Mark mark.Dollar ∷ []
first_set row.RootTest = kind.Root ∷ []
first_set row.TypeTest = kind.Mark mark.At ∷ []
first_set row.TrueTest = kind.Mark mark.Question ∷ []
first_set row.FalseTest = kind.Mark mark.Bang ∷ []
first_set row.RouteGroup = kind.Mark mark.LeftParen ∷ []
first_set row.UpByName = kind.Name ∷ []
first_set row.TestedVariant = kind.Mark mark.Colon ∷ []
first_set row.PredicateDeclared = kind.Pred ∷ []
first_set row.PredicateParametersInOrder = kind.Name ∷ kind.Set ∷ kind.Bool ∷ []
first_set row.PredicateParameterAfterComma = kind.Mark mark.Comma ∷ []
first_set row.CellDeclared = kind.Name ∷ []
first_set row.SetDeclared = kind.Set ∷ []
first_set row.BoolDeclared = kind.Bool ∷ []
first_set row.AssertionInBrackets = kind.Mark mark.LeftBracket ∷ []
first_set row.ProcedureDeclared = kind.Proc ∷ []
first_set row.ResultsDeclared = kind.Returns ∷ []
first_set row.LogicDeclared = kind.Logic ∷ []
first_set row.LogicParameterAfterComma = kind.Mark mark.Comma ∷ []
first_set row.LogicSetDeclared = kind.Set ∷ []
first_set row.LogicBoolDeclared = kind.Bool ∷ []
first_set row.PreDeclared = kind.Pre ∷ []
first_set row.PostDeclared = kind.Post ∷ []
first_set row.ParametersInOrder = kind.Data ∷ kind.Pointer ∷ kind.Bool ∷ []
first_set row.ParameterAfterComma = kind.Mark mark.Comma ∷ []
first_set row.DataDeclared = kind.Data ∷ []
first_set row.PointerDeclared = kind.Pointer ∷ []
first_set row.BoolVariableDeclared = kind.Bool ∷ []
first_set row.LocalDeclared = kind.Data ∷ kind.Pointer ∷ kind.Bool ∷ []
first_set row.BlockOfStatements = kind.Mark mark.LeftBrace ∷ []
first_set row.Skip = kind.Skip ∷ []
first_set row.If = kind.If ∷ []
first_set row.While = kind.While ∷ []
first_set row.Split = kind.Split ∷ []
first_set row.Assert = kind.Assert ∷ []
first_set row.Free = kind.Free ∷ []
first_set row.Call = kind.Call ∷ []
first_set row.Assign = kind.Name ∷ []
first_set row.ElseBlock = kind.Else ∷ []
first_set row.CallWithoutResults = kind.Mark mark.LeftParen ∷ []
first_set row.CallWithResults = kind.Mark mark.Comma ∷ kind.Mark mark.Equals ∷ []
first_set row.ResultAfterComma = kind.Mark mark.Comma ∷ []
first_set row.ArgumentsOfBothKinds = kind.Name ∷ kind.Null ∷ kind.True ∷ kind.False ∷ kind.Mark mark.Semicolon ∷
    kind.Mark mark.RightParen ∷ []
first_set row.ArgumentsInOrder = kind.Name ∷ kind.Null ∷ kind.True ∷ kind.False ∷ []
first_set row.ArgumentAfterComma = kind.Mark mark.Comma ∷ []
first_set row.LogicArgumentsInOrder = kind.Mark mark.Semicolon ∷ []
first_set row.ANameArgument = kind.Name ∷ []
first_set row.ANullArgument = kind.Null ∷ []
first_set row.ATrueArgument = kind.True ∷ []
first_set row.AFalseArgument = kind.False ∷ []
first_set row.Kept = kind.Keep ∷ []
first_set row.NewCell = kind.New ∷ []
first_set row.ConditionValue = kind.Mark mark.Bang ∷ kind.Mark mark.LeftParen ∷ kind.True ∷ kind.False ∷ kind.Null ∷ kind.Name ∷ []
first_set row.VariantOfNew = kind.Mark mark.Colon ∷ []
first_set row.ConditionOfConjunctions = kind.Mark mark.Bang ∷ kind.Mark mark.LeftParen ∷ kind.True ∷ kind.False ∷ kind.Null ∷
    kind.Name ∷ []
first_set row.ConjunctionAfterOr = kind.Mark mark.OrElse ∷ []
first_set row.ConjunctionOfLiterals = kind.Mark mark.Bang ∷ kind.Mark mark.LeftParen ∷ kind.True ∷ kind.False ∷ kind.Null ∷ kind.Name ∷ []
first_set row.LiteralAfterAnd = kind.Mark mark.AndAlso ∷ []
first_set row.NotLiteral = kind.Mark mark.Bang ∷ []
first_set row.ConditionGroup = kind.Mark mark.LeftParen ∷ []
first_set row.TrueLiteral = kind.True ∷ []
first_set row.FalseLiteral = kind.False ∷ []
first_set row.TermLiteral = kind.Null ∷ kind.Name ∷ []
first_set row.SameLiteral = kind.Mark mark.SameAs ∷ []
first_set row.NotSameLiteral = kind.Mark mark.NotSame ∷ []
first_set row.VariantLiteral = kind.Mark mark.Colon ∷ []
first_set row.NullTerm = kind.Null ∷ []
first_set row.PathAsTerm = kind.Name ∷ []
first_set row.PathOfSteps = kind.Name ∷ []
first_set row.NameAfterDot = kind.Mark mark.Dot ∷ []
first_set row.IffOfImplications = kind.Mark mark.Tilde ∷ kind.Ex ∷ kind.All ∷ kind.Mark mark.LeftParen ∷ kind.True ∷ kind.False ∷
    kind.Null ∷ kind.Name ∷ []
first_set row.ImplicationAfterIff = kind.Mark mark.Equivalent ∷ []
first_set row.ImplicationOfChain = kind.Mark mark.Tilde ∷ kind.Ex ∷ kind.All ∷ kind.Mark mark.LeftParen ∷ kind.True ∷ kind.False ∷
    kind.Null ∷ kind.Name ∷ []
first_set row.ImplicationAfterArrow = kind.Mark mark.Implies ∷ []
first_set row.OrOfAndChains = kind.Mark mark.Tilde ∷ kind.Ex ∷ kind.All ∷ kind.Mark mark.LeftParen ∷ kind.True ∷ kind.False ∷
    kind.Null ∷ kind.Name ∷ []
first_set row.AndChainAfterBar = kind.Mark mark.Bar ∷ []
first_set row.AndOfNegations = kind.Mark mark.Tilde ∷ kind.Ex ∷ kind.All ∷ kind.Mark mark.LeftParen ∷ kind.True ∷ kind.False ∷
    kind.Null ∷ kind.Name ∷ []
first_set row.NegationAfterAmpersand = kind.Mark mark.Ampersand ∷ []
first_set row.NotAssertion = kind.Mark mark.Tilde ∷ []
first_set row.ExQuantified = kind.Ex ∷ []
first_set row.AllQuantified = kind.All ∷ []
first_set row.PrimaryAlone = kind.Mark mark.LeftParen ∷ kind.True ∷ kind.False ∷ kind.Null ∷ kind.Name ∷ []
first_set row.BoundWithBody = kind.Set ∷ kind.Name ∷ []
first_set row.OverSets = kind.Set ∷ []
first_set row.BoundAfterComma = kind.Mark mark.Comma ∷ []
first_set row.AssertionGroup = kind.Mark mark.LeftParen ∷ []
first_set row.TruePrimary = kind.True ∷ []
first_set row.FalsePrimary = kind.False ∷ []
first_set row.NullPrimary = kind.Null ∷ []
first_set row.NamePrimary = kind.Name ∷ []
first_set row.UseOfName = kind.Mark mark.LeftParen ∷ []
first_set row.LongerPath = kind.Mark mark.Dot ∷ []
first_set row.RelationOfName = kind.Mark mark.Equals ∷ kind.Mark mark.NotEqual ∷ kind.In ∷ kind.Sub ∷ kind.Mark mark.Less ∷
    kind.Mark mark.Colon ∷ []
first_set row.UsedPathsInOrder = kind.Name ∷ []
first_set row.UsedPathAfterComma = kind.Mark mark.Comma ∷ []
first_set row.PathAloneAfterDot = kind.Mark mark.Dot ∷ []
first_set row.RelationOfPath = kind.Mark mark.Equals ∷ kind.Mark mark.NotEqual ∷ kind.In ∷ kind.Sub ∷ kind.Mark mark.Less ∷
    kind.Mark mark.Colon ∷ []
first_set row.SameTerm = kind.Mark mark.Equals ∷ []
first_set row.DifferentTerm = kind.Mark mark.NotEqual ∷ []
first_set row.MemberOfSet = kind.In ∷ []
first_set row.SubsetOfSet = kind.Sub ∷ []
first_set row.WalkToTerm = kind.Mark mark.Less ∷ []
first_set row.OfThisVariant = kind.Mark mark.Colon ∷ []

-- With which tokens, and which part there, a part could go on where it may end. First those of
-- a path
abbrev pub path_tail : List (ProgramKind × ProgramPart)
path_tail = (kind.Mark mark.Dot, part.PathStep) ∷ []

-- a step of a route
abbrev pub step_tail : List (ProgramKind × ProgramPart)
step_tail = (kind.Name, part.UpName) ∷ (kind.Mark mark.Colon, part.VariantTest) ∷ []

-- a step with its stars
abbrev pub repeated_tail : List (ProgramKind × ProgramPart)
repeated_tail = (kind.Mark mark.Star, part.Star) ∷ step_tail

-- routes one after the other
abbrev pub sequence_tail : List (ProgramKind × ProgramPart)
sequence_tail = (kind.Mark mark.Dot, part.NextRepeated) ∷ repeated_tail

-- a route
abbrev pub route_tail : List (ProgramKind × ProgramPart)
route_tail = (kind.Mark mark.Plus, part.NextAlternative) ∷ sequence_tail

-- a literal
abbrev pub literal_tail : List (ProgramKind × ProgramPart)
literal_tail = (kind.Mark mark.SameAs, part.LiteralRelation) ∷ (kind.Mark mark.NotSame, part.LiteralRelation) ∷
    (kind.Mark mark.Colon, part.LiteralRelation) ∷ path_tail

-- a conjunction of literals
abbrev pub conjunction_tail : List (ProgramKind × ProgramPart)
conjunction_tail = (kind.Mark mark.AndAlso, part.NextLiteral) ∷ literal_tail

-- a condition
abbrev pub condition_tail : List (ProgramKind × ProgramPart)
condition_tail = (kind.Mark mark.OrElse, part.NextConjunction) ∷ conjunction_tail

-- what follows the name that begins an assertion
abbrev pub name_rest_tail : List (ProgramKind × ProgramPart)
name_rest_tail = (kind.Mark mark.Dot, part.PathAloneStep) ∷ (kind.Mark mark.Equals, part.NameRelation) ∷
    (kind.Mark mark.NotEqual, part.NameRelation) ∷ (kind.In, part.NameRelation) ∷ (kind.Sub, part.NameRelation) ∷
    (kind.Mark mark.Less, part.NameRelation) ∷ (kind.Mark mark.Colon, part.NameRelation) ∷ path_tail

-- an assertion without prefixes and connectives
abbrev pub primary_tail : List (ProgramKind × ProgramPart)
primary_tail = (kind.Mark mark.LeftParen, part.NameRest) ∷ (kind.Mark mark.Dot, part.NameRest) ∷
    (kind.Mark mark.Equals, part.NameRest) ∷ (kind.Mark mark.NotEqual, part.NameRest) ∷ (kind.In, part.NameRest) ∷
    (kind.Sub, part.NameRest) ∷ (kind.Mark mark.Less, part.NameRest) ∷ (kind.Mark mark.Colon, part.NameRest) ∷ name_rest_tail

-- an assertion: the body of a quantifier ends where the assertion does
abbrev pub assertion_tail : List (ProgramKind × ProgramPart)
assertion_tail = (kind.Mark mark.Equivalent, part.NextImplication) ∷ (kind.Mark mark.Implies, part.Implied) ∷
    (kind.Mark mark.Bar, part.NextAndChain) ∷ (kind.Mark mark.Ampersand, part.NextNegation) ∷ primary_tail

-- then of each part
unfoldable pub tails_of : ProgramPart → List (ProgramKind × ProgramPart)
tails_of part.Declaration = (kind.Mark mark.Bar, part.Variant) ∷ []
tails_of part.Type = (kind.Mark mark.Bar, part.Variant) ∷ []
tails_of part.Variant = []
tails_of part.Field = []
tails_of part.Route = route_tail
tails_of part.NextAlternative = sequence_tail
tails_of part.Sequence = sequence_tail
tails_of part.NextRepeated = repeated_tail
tails_of part.Repeated = repeated_tail
tails_of part.Star = []
tails_of part.Step = step_tail
tails_of part.UpName = []
tails_of part.VariantTest = []
tails_of part.Predicate = []
tails_of part.PredicateParameters = (kind.Mark mark.Comma, part.NextPredicateParameter) ∷ []
tails_of part.NextPredicateParameter = []
tails_of part.PredicateParameter = []
tails_of part.Bracketed = []
tails_of part.Procedure = []
tails_of part.Returns = []
tails_of part.Logic = (kind.Mark mark.Comma, part.NextLogicParameter) ∷ []
tails_of part.NextLogicParameter = []
tails_of part.LogicParameter = []
tails_of part.Pre = []
tails_of part.Post = []
tails_of part.Parameters = (kind.Mark mark.Comma, part.NextParameter) ∷ []
tails_of part.NextParameter = []
tails_of part.Parameter = []
tails_of part.Local = []
tails_of part.Block = []
tails_of part.Statement = (kind.Else, part.Else) ∷ []
tails_of part.Else = []
tails_of part.CallRest = (kind.Keep, part.Keep) ∷ []
tails_of part.NextResult = []
tails_of part.Arguments = (kind.Keep, part.Keep) ∷ []
tails_of part.Argued = (kind.Mark mark.Comma, part.NextArgument) ∷ []
tails_of part.NextArgument = []
tails_of part.LogicArguments = (kind.Mark mark.Comma, part.NextArgument) ∷ []
tails_of part.Argument = []
tails_of part.Keep = []
tails_of part.Value = (kind.Mark mark.Colon, part.NewVariant) ∷ condition_tail
tails_of part.NewVariant = []
tails_of part.Condition = condition_tail
tails_of part.NextConjunction = conjunction_tail
tails_of part.Conjunction = conjunction_tail
tails_of part.NextLiteral = literal_tail
tails_of part.Literal = literal_tail
tails_of part.LiteralRelation = path_tail
tails_of part.Term = path_tail
tails_of part.Path = path_tail
tails_of part.PathStep = []
tails_of part.Iff = assertion_tail
tails_of part.NextImplication = assertion_tail
tails_of part.Implication = assertion_tail
tails_of part.Implied = assertion_tail
tails_of part.OrChain = assertion_tail
tails_of part.NextAndChain = assertion_tail
tails_of part.AndChain = assertion_tail
tails_of part.NextNegation = assertion_tail
tails_of part.Negation = assertion_tail
tails_of part.Quantified = assertion_tail
tails_of part.SetWord = []
tails_of part.NextBound = []
tails_of part.Primary = primary_tail
tails_of part.NameRest = name_rest_tail
tails_of part.UsedPaths = (kind.Mark mark.Comma, part.NextUsedPath) ∷ path_tail
tails_of part.NextUsedPath = path_tail
tails_of part.PathAloneStep = []
tails_of part.NameRelation = path_tail
tails_of part.Relation = path_tail

-- of a whole text
abbrev pub text_tail : List (ProgramKind × ProgramPart)
text_tail = (kind.Type, part.Declaration) ∷ (kind.Pred, part.Declaration) ∷ (kind.Proc, part.Declaration) ∷
    (kind.Mark mark.Bar, part.Variant) ∷ []

unfoldable pub program_table : Table ProgramPart ProgramProduction ProgramKind
program_table = record {
  number = number_of;
  label = label_of;
  first = first_set;
  tails = tails_of;
  text_tail = text_tail;
  cost = cost_of;
  sample = sample_of;
  begin = begin_of;
  size = size_of;
}
