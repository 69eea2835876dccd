-- The rows of the grammar of programs by their names.
use Rattle.std.specs.Prelude.{ℕ, List, [], ◌∷◌, slice_get, Option, Some, None}
use Rattle.ll1_reader.specs.declared.symbol.Symbol.TheVariants.{Many}
use Rattle.ll1_reader.specs.Grammars.{Rules}
use Rattle.pale_syntax.specs.declared.grammar.kind.ProgramKind.{ProgramKind}
use Rattle.pale_syntax.specs.declared.grammar.part.ProgramPart.{ProgramPart}
use Rattle.pale_syntax.specs.declared.grammar.part.ProgramPart.TheVariants as part
use Rattle.pale_syntax.specs.declared.grammar.act.Act.{Act}
use Rattle.pale_syntax.specs.ProgramGrammar.{ProgramSymbol, rows_of}
use Rattle.pale_parse.specs.declared.tables.production.ProgramProduction.{ProgramProduction}
use Rattle.pale_parse.specs.declared.tables.production.ProgramProduction.TheVariants as row

-- the rows of each part, in the order of the grammar
unfoldable pub productions_of : ProgramPart → List ProgramProduction
productions_of part.Declaration = row.ATypeDeclaration ∷ row.APredicateDeclaration ∷ row.AProcedureDeclaration ∷ []
productions_of part.Type = row.TypeDeclared ∷ []
productions_of part.Variant = row.VariantDeclared ∷ []
productions_of part.Field = row.BoolFieldDeclared ∷ row.DataFieldDeclared ∷ row.PointerFieldDeclared ∷ []
productions_of part.Route = row.RouteOfSequences ∷ []
productions_of part.NextAlternative = row.AlternativeAfterPlus ∷ []
productions_of part.Sequence = row.SequenceOfRepeated ∷ []
productions_of part.NextRepeated = row.RepeatedAfterDot ∷ []
productions_of part.Repeated = row.StepWithStars ∷ []
productions_of part.Star = row.OneStar ∷ []
productions_of part.Step = row.StepDown ∷ row.StepUp ∷ row.LeafTest ∷ row.RootTest ∷ row.TypeTest ∷ row.TrueTest ∷ row.FalseTest ∷
    row.RouteGroup ∷ []
productions_of part.UpName = row.UpByName ∷ []
productions_of part.VariantTest = row.TestedVariant ∷ []
productions_of part.Predicate = row.PredicateDeclared ∷ []
productions_of part.PredicateParameters = row.PredicateParametersInOrder ∷ []
productions_of part.NextPredicateParameter = row.PredicateParameterAfterComma ∷ []
productions_of part.PredicateParameter = row.CellDeclared ∷ row.SetDeclared ∷ row.BoolDeclared ∷ []
productions_of part.Bracketed = row.AssertionInBrackets ∷ []
productions_of part.Procedure = row.ProcedureDeclared ∷ []
productions_of part.Returns = row.ResultsDeclared ∷ []
productions_of part.Logic = row.LogicDeclared ∷ []
productions_of part.NextLogicParameter = row.LogicParameterAfterComma ∷ []
productions_of part.LogicParameter = row.LogicSetDeclared ∷ row.LogicBoolDeclared ∷ []
productions_of part.Pre = row.PreDeclared ∷ []
productions_of part.Post = row.PostDeclared ∷ []
productions_of part.Parameters = row.ParametersInOrder ∷ []
productions_of part.NextParameter = row.ParameterAfterComma ∷ []
productions_of part.Parameter = row.DataDeclared ∷ row.PointerDeclared ∷ row.BoolVariableDeclared ∷ []
productions_of part.Local = row.LocalDeclared ∷ []
productions_of part.Block = row.BlockOfStatements ∷ []
productions_of part.Statement = row.Skip ∷ row.If ∷ row.While ∷ row.Split ∷ row.Assert ∷ row.Free ∷ row.Call ∷ row.Assign ∷ []
productions_of part.Else = row.ElseBlock ∷ []
productions_of part.CallRest = row.CallWithoutResults ∷ row.CallWithResults ∷ []
productions_of part.NextResult = row.ResultAfterComma ∷ []
productions_of part.Arguments = row.ArgumentsOfBothKinds ∷ []
productions_of part.Argued = row.ArgumentsInOrder ∷ []
productions_of part.NextArgument = row.ArgumentAfterComma ∷ []
productions_of part.LogicArguments = row.LogicArgumentsInOrder ∷ []
productions_of part.Argument = row.ANameArgument ∷ row.ANullArgument ∷ row.ATrueArgument ∷ row.AFalseArgument ∷ []
productions_of part.Keep = row.Kept ∷ []
productions_of part.Value = row.NewCell ∷ row.ConditionValue ∷ []
productions_of part.NewVariant = row.VariantOfNew ∷ []
productions_of part.Condition = row.ConditionOfConjunctions ∷ []
productions_of part.NextConjunction = row.ConjunctionAfterOr ∷ []
productions_of part.Conjunction = row.ConjunctionOfLiterals ∷ []
productions_of part.NextLiteral = row.LiteralAfterAnd ∷ []
productions_of part.Literal = row.NotLiteral ∷ row.ConditionGroup ∷ row.TrueLiteral ∷ row.FalseLiteral ∷ row.TermLiteral ∷ []
productions_of part.LiteralRelation = row.SameLiteral ∷ row.NotSameLiteral ∷ row.VariantLiteral ∷ []
productions_of part.Term = row.NullTerm ∷ row.PathAsTerm ∷ []
productions_of part.Path = row.PathOfSteps ∷ []
productions_of part.PathStep = row.NameAfterDot ∷ []
productions_of part.Iff = row.IffOfImplications ∷ []
productions_of part.NextImplication = row.ImplicationAfterIff ∷ []
productions_of part.Implication = row.ImplicationOfChain ∷ []
productions_of part.Implied = row.ImplicationAfterArrow ∷ []
productions_of part.OrChain = row.OrOfAndChains ∷ []
productions_of part.NextAndChain = row.AndChainAfterBar ∷ []
productions_of part.AndChain = row.AndOfNegations ∷ []
productions_of part.NextNegation = row.NegationAfterAmpersand ∷ []
productions_of part.Negation = row.NotAssertion ∷ row.ExQuantified ∷ row.AllQuantified ∷ row.PrimaryAlone ∷ []
productions_of part.Quantified = row.BoundWithBody ∷ []
productions_of part.SetWord = row.OverSets ∷ []
productions_of part.NextBound = row.BoundAfterComma ∷ []
productions_of part.Primary = row.AssertionGroup ∷ row.TruePrimary ∷ row.FalsePrimary ∷ row.NullPrimary ∷ row.NamePrimary ∷ []
productions_of part.NameRest = row.UseOfName ∷ row.LongerPath ∷ row.RelationOfName ∷ []
productions_of part.UsedPaths = row.UsedPathsInOrder ∷ []
productions_of part.NextUsedPath = row.UsedPathAfterComma ∷ []
productions_of part.PathAloneStep = row.PathAloneAfterDot ∷ []
productions_of part.NameRelation = row.RelationOfPath ∷ []
productions_of part.Relation = row.SameTerm ∷ row.DifferentTerm ∷ row.MemberOfSet ∷ row.SubsetOfSet ∷ row.WalkToTerm ∷ row.OfThisVariant ∷ []

-- the row itself, where there is one
abbrev pub this_row : Option (List ProgramSymbol) → List ProgramSymbol
this_row None = []
this_row (Some symbols) = symbols

-- the row of a part with this place among its rows
abbrev pub nth : ℕ → ProgramPart → List ProgramSymbol
nth place in_part = this_row (slice_get (rows_of in_part) place)

-- the symbols of a row
unfoldable pub row_of : ProgramProduction → List ProgramSymbol
row_of row.ATypeDeclaration = nth 0 part.Declaration
row_of row.APredicateDeclaration = nth 1 part.Declaration
row_of row.AProcedureDeclaration = nth 2 part.Declaration
row_of row.TypeDeclared = nth 0 part.Type
row_of row.VariantDeclared = nth 0 part.Variant
row_of row.BoolFieldDeclared = nth 0 part.Field
row_of row.DataFieldDeclared = nth 1 part.Field
row_of row.PointerFieldDeclared = nth 2 part.Field
row_of row.RouteOfSequences = nth 0 part.Route
row_of row.AlternativeAfterPlus = nth 0 part.NextAlternative
row_of row.SequenceOfRepeated = nth 0 part.Sequence
row_of row.RepeatedAfterDot = nth 0 part.NextRepeated
row_of row.StepWithStars = nth 0 part.Repeated
row_of row.OneStar = nth 0 part.Star
row_of row.StepDown = nth 0 part.Step
row_of row.StepUp = nth 1 part.Step
row_of row.LeafTest = nth 2 part.Step
row_of row.RootTest = nth 3 part.Step
row_of row.TypeTest = nth 4 part.Step
row_of row.TrueTest = nth 5 part.Step
row_of row.FalseTest = nth 6 part.Step
row_of row.RouteGroup = nth 7 part.Step
row_of row.UpByName = nth 0 part.UpName
row_of row.TestedVariant = nth 0 part.VariantTest
row_of row.PredicateDeclared = nth 0 part.Predicate
row_of row.PredicateParametersInOrder = nth 0 part.PredicateParameters
row_of row.PredicateParameterAfterComma = nth 0 part.NextPredicateParameter
row_of row.CellDeclared = nth 0 part.PredicateParameter
row_of row.SetDeclared = nth 1 part.PredicateParameter
row_of row.BoolDeclared = nth 2 part.PredicateParameter
row_of row.AssertionInBrackets = nth 0 part.Bracketed
row_of row.ProcedureDeclared = nth 0 part.Procedure
row_of row.ResultsDeclared = nth 0 part.Returns
row_of row.LogicDeclared = nth 0 part.Logic
row_of row.LogicParameterAfterComma = nth 0 part.NextLogicParameter
row_of row.LogicSetDeclared = nth 0 part.LogicParameter
row_of row.LogicBoolDeclared = nth 1 part.LogicParameter
row_of row.PreDeclared = nth 0 part.Pre
row_of row.PostDeclared = nth 0 part.Post
row_of row.ParametersInOrder = nth 0 part.Parameters
row_of row.ParameterAfterComma = nth 0 part.NextParameter
row_of row.DataDeclared = nth 0 part.Parameter
row_of row.PointerDeclared = nth 1 part.Parameter
row_of row.BoolVariableDeclared = nth 2 part.Parameter
row_of row.LocalDeclared = nth 0 part.Local
row_of row.BlockOfStatements = nth 0 part.Block
row_of row.Skip = nth 0 part.Statement
row_of row.If = nth 1 part.Statement
row_of row.While = nth 2 part.Statement
row_of row.Split = nth 3 part.Statement
row_of row.Assert = nth 4 part.Statement
row_of row.Free = nth 5 part.Statement
row_of row.Call = nth 6 part.Statement
row_of row.Assign = nth 7 part.Statement
row_of row.ElseBlock = nth 0 part.Else
row_of row.CallWithoutResults = nth 0 part.CallRest
row_of row.CallWithResults = nth 1 part.CallRest
row_of row.ResultAfterComma = nth 0 part.NextResult
row_of row.ArgumentsOfBothKinds = nth 0 part.Arguments
row_of row.ArgumentsInOrder = nth 0 part.Argued
row_of row.ArgumentAfterComma = nth 0 part.NextArgument
row_of row.LogicArgumentsInOrder = nth 0 part.LogicArguments
row_of row.ANameArgument = nth 0 part.Argument
row_of row.ANullArgument = nth 1 part.Argument
row_of row.ATrueArgument = nth 2 part.Argument
row_of row.AFalseArgument = nth 3 part.Argument
row_of row.Kept = nth 0 part.Keep
row_of row.NewCell = nth 0 part.Value
row_of row.ConditionValue = nth 1 part.Value
row_of row.VariantOfNew = nth 0 part.NewVariant
row_of row.ConditionOfConjunctions = nth 0 part.Condition
row_of row.ConjunctionAfterOr = nth 0 part.NextConjunction
row_of row.ConjunctionOfLiterals = nth 0 part.Conjunction
row_of row.LiteralAfterAnd = nth 0 part.NextLiteral
row_of row.NotLiteral = nth 0 part.Literal
row_of row.ConditionGroup = nth 1 part.Literal
row_of row.TrueLiteral = nth 2 part.Literal
row_of row.FalseLiteral = nth 3 part.Literal
row_of row.TermLiteral = nth 4 part.Literal
row_of row.SameLiteral = nth 0 part.LiteralRelation
row_of row.NotSameLiteral = nth 1 part.LiteralRelation
row_of row.VariantLiteral = nth 2 part.LiteralRelation
row_of row.NullTerm = nth 0 part.Term
row_of row.PathAsTerm = nth 1 part.Term
row_of row.PathOfSteps = nth 0 part.Path
row_of row.NameAfterDot = nth 0 part.PathStep
row_of row.IffOfImplications = nth 0 part.Iff
row_of row.ImplicationAfterIff = nth 0 part.NextImplication
row_of row.ImplicationOfChain = nth 0 part.Implication
row_of row.ImplicationAfterArrow = nth 0 part.Implied
row_of row.OrOfAndChains = nth 0 part.OrChain
row_of row.AndChainAfterBar = nth 0 part.NextAndChain
row_of row.AndOfNegations = nth 0 part.AndChain
row_of row.NegationAfterAmpersand = nth 0 part.NextNegation
row_of row.NotAssertion = nth 0 part.Negation
row_of row.ExQuantified = nth 1 part.Negation
row_of row.AllQuantified = nth 2 part.Negation
row_of row.PrimaryAlone = nth 3 part.Negation
row_of row.BoundWithBody = nth 0 part.Quantified
row_of row.OverSets = nth 0 part.SetWord
row_of row.BoundAfterComma = nth 0 part.NextBound
row_of row.AssertionGroup = nth 0 part.Primary
row_of row.TruePrimary = nth 1 part.Primary
row_of row.FalsePrimary = nth 2 part.Primary
row_of row.NullPrimary = nth 3 part.Primary
row_of row.NamePrimary = nth 4 part.Primary
row_of row.UseOfName = nth 0 part.NameRest
row_of row.LongerPath = nth 1 part.NameRest
row_of row.RelationOfName = nth 2 part.NameRest
row_of row.UsedPathsInOrder = nth 0 part.UsedPaths
row_of row.UsedPathAfterComma = nth 0 part.NextUsedPath
row_of row.PathAloneAfterDot = nth 0 part.PathAloneStep
row_of row.RelationOfPath = nth 0 part.NameRelation
row_of row.SameTerm = nth 0 part.Relation
row_of row.DifferentTerm = nth 1 part.Relation
row_of row.MemberOfSet = nth 2 part.Relation
row_of row.SubsetOfSet = nth 3 part.Relation
row_of row.WalkToTerm = nth 4 part.Relation
row_of row.OfThisVariant = nth 5 part.Relation

unfoldable pub program_rules : Rules ProgramPart ProgramProduction Act ProgramKind
program_rules = record { productions = productions_of; row = row_of; text = Many part.Declaration ∷ [] }
