-- What each part of program text makes.
use Rattle.std.proofs.Common.{◌+◌, ◌≤◌, length, ◌≡◌, ◌⊎◌, inl, inr, ℕ, suc, Bool, true, false, List, ◌∷◌, Option}
use Rattle.pale_syntax.specs.declared.grammar.kind.ProgramKind.TheVariants as kind
use Rattle.pale_syntax.specs.declared.grammar.part.ProgramPart.{ProgramPart}
use Rattle.pale_syntax.specs.declared.grammar.part.ProgramPart.TheVariants as part
use Rattle.pale_text.specs.declared.place.Pos.{Pos}
use Rattle.pale_text.specs.declared.token.Mark.{Mark}
use Rattle.pale_text.specs.declared.token.Mark.TheVariants as mark
use Rattle.pale_text.specs.declared.token.Token.{Token}
use Rattle.pale_syntax.specs.declared.tree.names.Name.{Name}
use Rattle.pale_syntax.specs.declared.tree.names.Path.{Path}
use Rattle.pale_syntax.specs.declared.tree.names.Term.{Term}
use Rattle.pale_syntax.specs.declared.tree.route.Route.{Route}
use Rattle.pale_syntax.specs.declared.tree.condition.Condition.{Condition}
use Rattle.pale_syntax.specs.declared.tree.assertion.Assertion.{Assertion}
use Rattle.pale_syntax.specs.declared.tree.assertion.Assertion.TheVariants as assertion
use Rattle.pale_syntax.specs.declared.tree.assertion.Bracketed.{Bracketed}
use Rattle.pale_syntax.specs.declared.tree.assertion.Quantifier.{Quantifier}
use Rattle.pale_syntax.specs.declared.tree.assertion.QuantifierKind.{QuantifierKind}
use Rattle.pale_syntax.specs.declared.tree.statement.Argument.{Argument}
use Rattle.pale_syntax.specs.declared.tree.statement.Statement.{Statement}
use Rattle.pale_syntax.specs.declared.tree.statement.Value.{Value}
use Rattle.pale_syntax.specs.declared.tree.declaration.FieldDeclaration.{FieldDeclaration}
use Rattle.pale_syntax.specs.declared.tree.declaration.LogicParameter.{LogicParameter}
use Rattle.pale_syntax.specs.declared.tree.declaration.Parameter.{Parameter}
use Rattle.pale_syntax.specs.declared.tree.declaration.PredicateDeclaration.{PredicateDeclaration}
use Rattle.pale_syntax.specs.declared.tree.declaration.PredicateParameter.{PredicateParameter}
use Rattle.pale_syntax.specs.declared.tree.declaration.Procedure.{Procedure}
use Rattle.pale_syntax.specs.declared.tree.declaration.TypeDeclaration.{TypeDeclaration}
use Rattle.pale_syntax.specs.declared.tree.declaration.VariantDeclaration.{VariantDeclaration}
use Rattle.pale_syntax.specs.MakingAssertions.{begun}
use Rattle.pale_syntax.specs.ProgramWords.{kind_of, kinds_in}
use Rattle.pale_syntax.specs.FreeNames.{IsFree, AreFree, IsFreePath, AreFreePaths, IsFreeTerm}
use Rattle.pale_print_laws.specs.CanonicalRoutes.{asks as route_asks, RoutePlace, IsCanonicalRoute, whole as whole_route, sequence, repeated, single}
use Rattle.pale_print_laws.specs.CanonicalConditions.{asks as condition_asks, ConditionPlace, IsCanonicalCondition}
use Rattle.pale_print_laws.specs.CanonicalConditions.{whole as whole_condition, conjunction, literal}
use Rattle.pale_print_laws.specs.CanonicalAssertions.{asks, AssertionPlace, IsCanonicalAssertion, IsCanonicalBracketed, whole}
use Rattle.pale_print_laws.specs.CanonicalAssertions.{implication, disjunct, conjunct, operand}
use Rattle.pale_print_laws.specs.CanonicalStatements.{AreFreeArguments, IsFreeArgument, IsCanonicalClause, IsCanonicalValue}
use Rattle.pale_print_laws.specs.CanonicalStatements.{IsCanonicalStatement, AreCanonicalStatements}
use Rattle.pale_print_laws.specs.CanonicalDeclarations.{All, IsCanonicalField, IsCanonicalVariant, IsCanonicalType}
use Rattle.pale_print_laws.specs.CanonicalDeclarations.{IsFreePredicateParameter, IsCanonicalPredicate, IsFreeParameter}
use Rattle.pale_print_laws.specs.CanonicalDeclarations.{IsFreeLogicParameter, IsCanonicalProcedure}
use Rattle.pale_print_laws.proofs.Framework.{Counts}
use Rattle.pale_print_laws.proofs.NameSizes.{path_size, term_size}
use Rattle.pale_print_laws.proofs.RouteSizes.{route_size}
use Rattle.pale_print_laws.proofs.ConditionSizes.{condition_size}
use Rattle.pale_print_laws.proofs.AssertionSizes.{assertion_size, quantified_size, used_size}
use Rattle.pale_print_laws.proofs.ListSizes.{behind_size, separated_size}
use Rattle.pale_print_laws.proofs.StatementSizes.{one_token, clause_size, logic_argument_size, statement_size, statements_size, value_size}
use Rattle.pale_print_laws.proofs.DeclarationSizes.{field_size, variant_size, type_size, predicate_parameter_size}
use Rattle.pale_print_laws.proofs.DeclarationSizes.{predicate_size, parameter_size, logic_parameter_size, procedure_size}

-- ---- what parts make

pub record FreeName : Type 0 where
  pub name : Name
  pub free : IsFree name

-- What is made is spelled in no more tokens than there are from the first to the last, with so many of these for what is around it.

-- a name that is read in so many tokens
pub record NameMade (n : ℕ) (start end : List Token) : Type 0 where
  pub name : Name
  pub free : IsFree name
  pub short : n + length end ≤ length start

pub record PathMade (n : ℕ) (start end : List Token) : Type 0 where
  pub path : Path
  pub free : IsFreePath path
  pub short : n + (path_size path + length end) ≤ length start

pub record TermMade (start end : List Token) : Type 0 where
  pub term : Term
  pub free : IsFreeTerm term
  pub short : term_size term + length end ≤ length start

pub record RouteMade (p : RoutePlace) (room n : ℕ) (start end : List Token) : Type 0 where
  pub route : Route
  pub canonical : IsCanonicalRoute p room route
  pub short : n + (route_size route (route_asks p) + length end) ≤ length start

pub record StarMade (start end : List Token) : Type 0 where
  pub place : Pos
  pub short : suc (length end) ≤ length start

pub record ConditionMade (p : ConditionPlace) (room n : ℕ) (start end : List Token) : Type 0 where
  pub condition : Condition
  pub canonical : IsCanonicalCondition p room condition
  pub short : n + (condition_size condition (condition_asks p) + length end) ≤ length start

-- a condition of the term before it
pub record ConditionOfTerm (room : ℕ) (start end : List Token) : Type 0 where
  pub of : Term → Condition
  pub canonical : (t : Term) → IsFreeTerm t → IsCanonicalCondition literal room (of t)
  pub short : (t : Term) → condition_size (of t) 2 + length end ≤ term_size t + length start

-- the tokens begin with this mark
pub record BeginsWith (m : Mark) (tokens : List Token) : Type 0 where
  pub first : Token
  pub others : List Token
  pub tokens_are : tokens ≡ first ∷ others
  pub kind_is : kind_of first.kind ≡ kind.Mark m

-- the tokens begin with an operator
abbrev pub IsOperator : List Token → Type 0
IsOperator tokens = (BeginsWith mark.Ampersand tokens ⊎ BeginsWith mark.Bar tokens) ⊎ (BeginsWith mark.Implies tokens ⊎ BeginsWith mark.Equivalent tokens)

-- an operator comes next, where one is said to
abbrev pub MayFollow : Bool → List Token → Type 0
MayFollow false tokens = Unit {0}
MayFollow true tokens = IsOperator tokens

abbrev pub StopsAt : ProgramPart → List Token → Type 0
StopsAt n tokens = Counts n (kinds_in tokens)

-- the chains that end at these tokens, in each of which these tokens don't go on
pub record EndsAnd (tokens : List Token) : Type 0 where
  pub and : StopsAt part.NextNegation tokens

pub record EndsOr (tokens : List Token) : Type 0 where
  pub and : StopsAt part.NextNegation tokens
  pub or : StopsAt part.NextAndChain tokens

pub record EndsImplication (tokens : List Token) : Type 0 where
  pub and : StopsAt part.NextNegation tokens
  pub or : StopsAt part.NextAndChain tokens
  pub imp : StopsAt part.Implied tokens

pub record EndsIff (tokens : List Token) : Type 0 where
  pub and : StopsAt part.NextNegation tokens
  pub or : StopsAt part.NextAndChain tokens
  pub imp : StopsAt part.Implied tokens
  pub iff : StopsAt part.NextImplication tokens

pub record AssertionMade (p : AssertionPlace) (room n : ℕ) (start end : List Token) : Type 0 where
  pub assertion : Assertion
  pub canonical : (followed : Bool) → MayFollow followed end → IsCanonicalAssertion p followed room assertion
  pub short : (followed : Bool) → MayFollow followed end → n + (assertion_size assertion (asks p) followed + length end) ≤ length start

-- an assertion that ends with no quantifier
pub record AtomMade (room : ℕ) (start end : List Token) : Type 0 where
  pub assertion : Assertion
  pub canonical : (followed : Bool) → IsCanonicalAssertion operand followed room assertion
  pub short : (followed : Bool) → assertion_size assertion 4 followed + length end ≤ length start

pub record AtomOfPath (room : ℕ) (start end : List Token) : Type 0 where
  pub of : Path → Assertion
  pub canonical : (p : Path) → IsFreePath p → (followed : Bool) → IsCanonicalAssertion operand followed room (of p)
  pub short : (p : Path) (followed : Bool) → assertion_size (of p) 4 followed + length end ≤ path_size p + length start

pub record AtomOfTerm (room : ℕ) (start end : List Token) : Type 0 where
  pub of : Term → Assertion
  pub canonical : (t : Term) → IsFreeTerm t → (followed : Bool) → IsCanonicalAssertion operand followed room (of t)
  pub short : (t : Term) (followed : Bool) → assertion_size (of t) 4 followed + length end ≤ term_size t + length start

-- what is implied, behind `=>`
pub record ImpliedMade (room : ℕ) (start end : List Token) : Type 0 where
  pub place : Pos
  pub inside : ℕ
  pub opens : room ≡ suc inside
  pub right : AssertionMade implication inside 1 start end

-- a quantifier's names and type, and its body; its first word is before these tokens
pub record QuantifiedMade (room : ℕ) (start end : List Token) : Type 0 where
  pub quantifier : Quantifier → Quantifier
  pub body : Assertion
  pub canonical : (kind : QuantifierKind) (place : Pos) →
      IsCanonicalAssertion operand false (suc room) (assertion.Quantified (quantifier (begun kind place)) body)
  pub short : (kind : QuantifierKind) (place : Pos) →
      quantified_size (quantifier (begun kind place)) (assertion_size body) false + length end ≤ suc (length start)

pub record BracketedMade (room n : ℕ) (start end : List Token) : Type 0 where
  pub bracketed : Bracketed
  pub canonical : IsCanonicalBracketed room bracketed
  pub short : n + suc (suc (assertion_size bracketed.assertion 0 false + length end)) ≤ length start

pub record BlockMade (room n : ℕ) (start end : List Token) : Type 0 where
  pub inside : ℕ
  pub opens : room ≡ suc inside
  pub block : List Statement
  pub canonical : AreCanonicalStatements inside block
  pub short : n + suc (suc (statements_size block + length end)) ≤ length start

pub record StatementMade (room : ℕ) (start end : List Token) : Type 0 where
  pub statement : Statement
  pub canonical : IsCanonicalStatement room statement
  pub short : statement_size statement + length end ≤ length start

pub record ValueMade (room : ℕ) (start end : List Token) : Type 0 where
  pub value : Value
  pub canonical : IsCanonicalValue room value
  pub short : value_size value + length end ≤ length start

pub record ArgumentMade (n : ℕ) (start end : List Token) : Type 0 where
  pub argument : Argument
  pub free : IsFreeArgument argument
  pub short : n + suc (length end) ≤ length start

pub record ArgumentsMade (n : ℕ) (start end : List Token) : Type 0 where
  pub arguments : List Argument
  pub free : AreFreeArguments arguments
  pub short : n + (separated_size one_token arguments + length end) ≤ length start

pub record PathsMade (start end : List Token) : Type 0 where
  pub paths : List Path
  pub free : AreFreePaths paths
  pub short : used_size paths + length end ≤ length start

-- the arguments of a call, and what it keeps
pub record GivenMade (room : ℕ) (start end : List Token) : Type 0 where
  pub given : List Argument
  pub given_free : AreFreeArguments given
  pub logics : List Argument
  pub logics_free : AreFreeArguments logics
  pub keep : Option Bracketed
  pub keep_canonical : IsCanonicalClause room keep
  pub short : separated_size one_token given + (logic_argument_size logics + suc (clause_size keep + length end)) ≤ length start

-- what a call's first name is: the procedure's, or the first of these results
pub record ResultsMade : Type 0 where
  pub more : List Name
  pub more_free : AreFree more
  pub callee : FreeName

-- how many tokens there are up to the arguments
abbrev pub rest_size : Unit {0} ⊎ ResultsMade → ℕ
rest_size (inl u) = 1
rest_size (inr made) = suc (suc (suc (behind_size one_token made.more)))

pub record CallMade (room : ℕ) (start end : List Token) : Type 0 where
  pub results : Unit {0} ⊎ ResultsMade
  pub middle : List Token
  pub given : GivenMade room middle end
  pub short : rest_size results + length middle ≤ length start

pub record FieldMade (room : ℕ) (start end : List Token) : Type 0 where
  pub field : FieldDeclaration
  pub canonical : IsCanonicalField room field
  pub short : field_size field + length end ≤ length start

pub record VariantMade (room : ℕ) (start end : List Token) : Type 0 where
  pub variant : VariantDeclaration
  pub canonical : IsCanonicalVariant room variant
  pub short : suc (variant_size variant + length end) ≤ length start

pub record TypeMade (room : ℕ) (start end : List Token) : Type 0 where
  pub type : TypeDeclaration
  pub canonical : IsCanonicalType room type
  pub short : type_size type + length end ≤ length start

pub record PredicateParameterMade (n : ℕ) (start end : List Token) : Type 0 where
  pub parameter : PredicateParameter
  pub free : IsFreePredicateParameter parameter
  pub short : n + (predicate_parameter_size parameter + length end) ≤ length start

pub record PredicateParametersMade (start end : List Token) : Type 0 where
  pub parameters : List PredicateParameter
  pub free : All IsFreePredicateParameter parameters
  pub short : separated_size predicate_parameter_size parameters + length end ≤ length start

pub record PredicateMade (room : ℕ) (start end : List Token) : Type 0 where
  pub predicate : PredicateDeclaration
  pub canonical : IsCanonicalPredicate room predicate
  pub short : predicate_size predicate + length end ≤ length start

pub record ParameterMade (n : ℕ) (start end : List Token) : Type 0 where
  pub parameter : Parameter
  pub free : IsFreeParameter parameter
  pub short : n + (parameter_size parameter + length end) ≤ length start

pub record ParametersMade (n : ℕ) (start end : List Token) : Type 0 where
  pub parameters : List Parameter
  pub free : All IsFreeParameter parameters
  pub short : n + (separated_size parameter_size parameters + length end) ≤ length start

pub record LogicMade (n : ℕ) (start end : List Token) : Type 0 where
  pub logic : LogicParameter
  pub free : IsFreeLogicParameter logic
  pub short : n + (logic_parameter_size logic + length end) ≤ length start

pub record LogicsMade (start end : List Token) : Type 0 where
  pub logics : List LogicParameter
  pub free : All IsFreeLogicParameter logics
  pub short : suc (separated_size logic_parameter_size logics + length end) ≤ length start

pub record ProcedureMade (room : ℕ) (start end : List Token) : Type 0 where
  pub procedure : Procedure
  pub canonical : IsCanonicalProcedure room procedure
  pub short : procedure_size procedure + length end ≤ length start

abbrev pub Made : ProgramPart → ℕ → List Token → List Token → Type 0
Made part.Declaration room start end = TypeMade room start end ⊎ (PredicateMade room start end ⊎ ProcedureMade room start end)
Made part.«Type» room start end = TypeMade room start end
Made part.Variant room start end = VariantMade room start end
Made part.Field room start end = FieldMade room start end
Made part.Route room start end = RouteMade whole_route room 0 start end
Made part.NextAlternative room start end = RouteMade sequence room 1 start end
Made part.Sequence room start end = RouteMade sequence room 0 start end
Made part.NextRepeated room start end = RouteMade repeated room 1 start end
Made part.Repeated room start end = RouteMade repeated room 0 start end
Made part.Star room start end = StarMade start end
Made part.Step room start end = RouteMade single room 0 start end
Made part.UpName room start end = NameMade 1 start end
Made part.VariantTest room start end = NameMade 2 start end
Made part.Predicate room start end = PredicateMade room start end
Made part.PredicateParameters room start end = PredicateParametersMade start end
Made part.NextPredicateParameter room start end = PredicateParameterMade 1 start end
Made part.PredicateParameter room start end = PredicateParameterMade 0 start end
Made part.Bracketed room start end = BracketedMade room 0 start end
Made part.Procedure room start end = ProcedureMade room start end
Made part.Returns room start end = ParametersMade 3 start end
Made part.Logic room start end = LogicsMade start end
Made part.NextLogicParameter room start end = LogicMade 1 start end
Made part.LogicParameter room start end = LogicMade 0 start end
Made part.Pre room start end = BracketedMade room 1 start end
Made part.Post room start end = BracketedMade room 1 start end
Made part.Parameters room start end = ParametersMade 0 start end
Made part.NextParameter room start end = ParameterMade 1 start end
Made part.Parameter room start end = ParameterMade 0 start end
Made part.Local room start end = ParameterMade 1 start end
Made part.Block room start end = BlockMade room 0 start end
Made part.Statement room start end = StatementMade room start end
Made part.Else room start end = BlockMade room 1 start end
Made part.CallRest room start end = CallMade room start end
Made part.NextResult room start end = NameMade 2 start end
Made part.Arguments room start end = GivenMade room start end
Made part.Argued room start end = ArgumentsMade 0 start end
Made part.NextArgument room start end = ArgumentMade 1 start end
Made part.LogicArguments room start end = ArgumentsMade 1 start end
Made part.Argument room start end = ArgumentMade 0 start end
Made part.Keep room start end = BracketedMade room 1 start end
Made part.Value room start end = ValueMade room start end
Made part.NewVariant room start end = NameMade 2 start end
Made part.Condition room start end = ConditionMade whole_condition room 0 start end
Made part.NextConjunction room start end = ConditionMade conjunction room 1 start end
Made part.Conjunction room start end = ConditionMade conjunction room 0 start end
Made part.NextLiteral room start end = ConditionMade literal room 1 start end
Made part.Literal room start end = ConditionMade literal room 0 start end
Made part.LiteralRelation room start end = ConditionOfTerm room start end
Made part.Term room start end = TermMade start end
Made part.Path room start end = PathMade 0 start end
Made part.PathStep room start end = NameMade 2 start end
Made part.Iff room start end = AssertionMade whole room 0 start end × EndsIff end
Made part.NextImplication room start end = BeginsWith mark.Equivalent start × AssertionMade implication room 1 start end × EndsImplication end
Made part.Implication room start end = AssertionMade implication room 0 start end × EndsImplication end
Made part.Implied room start end = BeginsWith mark.Implies start × ImpliedMade room start end × EndsImplication end
Made part.OrChain room start end = AssertionMade disjunct room 0 start end × EndsOr end
Made part.NextAndChain room start end = BeginsWith mark.Bar start × AssertionMade conjunct room 1 start end × EndsAnd end
Made part.AndChain room start end = AssertionMade conjunct room 0 start end × EndsAnd end
Made part.NextNegation room start end = BeginsWith mark.Ampersand start × AssertionMade operand room 1 start end
Made part.Negation room start end = AssertionMade operand room 0 start end
Made part.Quantified room start end = QuantifiedMade room start end × EndsIff end
Made part.SetWord room start end = suc (length end) ≤ length start
Made part.NextBound room start end = NameMade 2 start end
Made part.Primary room start end = AtomMade room start end
Made part.NameRest room start end = AtomOfPath room start end
Made part.UsedPaths room start end = PathsMade start end
Made part.NextUsedPath room start end = PathMade 1 start end
Made part.PathAloneStep room start end = NameMade 2 start end
Made part.NameRelation room start end = AtomOfTerm room start end
Made part.Relation room start end = AtomOfTerm room start end
