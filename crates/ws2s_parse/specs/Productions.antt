-- The rows of the grammar of WS2S text by their names.
use Rattle.std.specs.Prelude.{ℕ, List, [], ◌∷◌, slice_get, Option, Some, None}
use Rattle.ll1_reader.specs.Grammars.{Rules}
use Rattle.ws2s_parse.specs.declared.grammar.kind.SourceKind.{SourceKind}
use Rattle.ws2s_parse.specs.declared.grammar.part.SourcePart.{SourcePart}
use Rattle.ws2s_parse.specs.declared.grammar.part.SourcePart.TheVariants as part
use Rattle.ws2s_parse.specs.declared.grammar.act.SourceAct.{SourceAct}
use Rattle.ws2s_parse.specs.SourceGrammar.{SourceSymbol, rows_of, text_row}
use Rattle.ws2s_parse.specs.declared.tables.production.SourceProduction.{SourceProduction}
use Rattle.ws2s_parse.specs.declared.tables.production.SourceProduction.TheVariants as row

-- the rows of each part, in the order of the grammar
unfoldable pub productions_of : SourcePart → List SourceProduction
productions_of part.Item = row.PositionsDeclared ∷ row.SetsDeclared ∷ row.PredicateDeclared ∷ row.FormulaStated ∷ []
productions_of part.Variables = row.VariablesInOrder ∷ []
productions_of part.NextVariable = row.VariableAfterComma ∷ []
productions_of part.Parameters = row.ParametersInOrder ∷ []
productions_of part.NextParameter = row.ParameterAfterComma ∷ []
productions_of part.Parameter = row.PositionParameterDeclared ∷ row.SetParameterDeclared ∷ []
productions_of part.Formula = row.IffOfImplications ∷ []
productions_of part.NextImplication = row.ImplicationAfterIff ∷ []
productions_of part.Implication = row.ImplicationOfChain ∷ []
productions_of part.Implied = row.ImplicationAfterArrow ∷ []
productions_of part.OrChain = row.OrOfAndChains ∷ []
productions_of part.NextAndChain = row.AndChainAfterBar ∷ []
productions_of part.AndChain = row.AndOfNegations ∷ []
productions_of part.NextNegation = row.NegationAfterAmpersand ∷ []
productions_of part.Negation = row.NotFormula ∷ row.Ex1Bound ∷ row.All1Bound ∷ row.Ex2Bound ∷ row.All2Bound ∷ row.PrimaryAlone ∷ []
productions_of part.Bound = row.BoundWithBody ∷ []
productions_of part.NextBound = row.BoundAfterComma ∷ []
productions_of part.Primary = row.FormulaGroup ∷ row.TruePrimary ∷ row.FalsePrimary ∷ row.EmptyPrimary ∷ row.RootPrimary ∷ row.NamePrimary ∷ []
productions_of part.NameRest = row.UseOfName ∷ row.TermOfName ∷ []
productions_of part.Arguments = row.ArgumentsInOrder ∷ []
productions_of part.NextArgument = row.ArgumentAfterComma ∷ []
productions_of part.Term = row.RootTerm ∷ row.NameTerm ∷ []
productions_of part.Successor = row.SuccessorAfterDot ∷ []
productions_of part.Child = row.ZeroChild ∷ row.OneChild ∷ []
productions_of part.Relation = row.SameTerm ∷ row.DifferentTerm ∷ row.MemberOfSet ∷ row.NoMemberOfSet ∷ row.WithinSet ∷ []

-- the row itself, where there is one
abbrev pub this_row : Option (List SourceSymbol) → List SourceSymbol
this_row None = []
this_row (Some symbols) = symbols

-- the row of a part with this place among its rows
abbrev pub nth : ℕ → SourcePart → List SourceSymbol
nth place in_part = this_row (slice_get (rows_of in_part) place)

-- the symbols of a row
unfoldable pub row_of : SourceProduction → List SourceSymbol
row_of row.PositionsDeclared = nth 0 part.Item
row_of row.SetsDeclared = nth 1 part.Item
row_of row.PredicateDeclared = nth 2 part.Item
row_of row.FormulaStated = nth 3 part.Item
row_of row.VariablesInOrder = nth 0 part.Variables
row_of row.VariableAfterComma = nth 0 part.NextVariable
row_of row.ParametersInOrder = nth 0 part.Parameters
row_of row.ParameterAfterComma = nth 0 part.NextParameter
row_of row.PositionParameterDeclared = nth 0 part.Parameter
row_of row.SetParameterDeclared = nth 1 part.Parameter
row_of row.IffOfImplications = nth 0 part.Formula
row_of row.ImplicationAfterIff = nth 0 part.NextImplication
row_of row.ImplicationOfChain = nth 0 part.Implication
row_of row.ImplicationAfterArrow = nth 0 part.Implied
row_of row.OrOfAndChains = nth 0 part.OrChain
row_of row.AndChainAfterBar = nth 0 part.NextAndChain
row_of row.AndOfNegations = nth 0 part.AndChain
row_of row.NegationAfterAmpersand = nth 0 part.NextNegation
row_of row.NotFormula = nth 0 part.Negation
row_of row.Ex1Bound = nth 1 part.Negation
row_of row.All1Bound = nth 2 part.Negation
row_of row.Ex2Bound = nth 3 part.Negation
row_of row.All2Bound = nth 4 part.Negation
row_of row.PrimaryAlone = nth 5 part.Negation
row_of row.BoundWithBody = nth 0 part.Bound
row_of row.BoundAfterComma = nth 0 part.NextBound
row_of row.FormulaGroup = nth 0 part.Primary
row_of row.TruePrimary = nth 1 part.Primary
row_of row.FalsePrimary = nth 2 part.Primary
row_of row.EmptyPrimary = nth 3 part.Primary
row_of row.RootPrimary = nth 4 part.Primary
row_of row.NamePrimary = nth 5 part.Primary
row_of row.UseOfName = nth 0 part.NameRest
row_of row.TermOfName = nth 1 part.NameRest
row_of row.ArgumentsInOrder = nth 0 part.Arguments
row_of row.ArgumentAfterComma = nth 0 part.NextArgument
row_of row.RootTerm = nth 0 part.Term
row_of row.NameTerm = nth 1 part.Term
row_of row.SuccessorAfterDot = nth 0 part.Successor
row_of row.ZeroChild = nth 0 part.Child
row_of row.OneChild = nth 1 part.Child
row_of row.SameTerm = nth 0 part.Relation
row_of row.DifferentTerm = nth 1 part.Relation
row_of row.MemberOfSet = nth 2 part.Relation
row_of row.NoMemberOfSet = nth 3 part.Relation
row_of row.WithinSet = nth 4 part.Relation

unfoldable pub source_rules : Rules SourcePart SourceProduction SourceAct SourceKind
source_rules = record { productions = productions_of; row = row_of; text = text_row }
