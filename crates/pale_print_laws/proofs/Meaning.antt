-- What each part of program text makes, which words it is made of, what becomes of the parts made before it, and what has to
-- hold of these.
use Rattle.std.proofs.Common.{◌≡◌, List, [], ◌∷◌, ◌++◌, Option, None, Some, map}
use Rattle.std.specs.Prelude.{codes}
use Rattle.plain_data.specs.Stacks.{top, rest}
use Rattle.pale_syntax.specs.declared.grammar.part.ProgramPart.{ProgramPart}
use Rattle.pale_syntax.specs.declared.grammar.part.ProgramPart.TheVariants as part
use Rattle.pale_text.specs.declared.place.Pos.{Pos}
use Rattle.pale_text.specs.declared.token.Mark.TheVariants as mark
use Rattle.pale_text.specs.declared.token.Token.{Token}
use Rattle.pale_text.specs.Tokens.{first_of}
use Rattle.pale_syntax.specs.declared.tree.names.Name.{Name}
use Rattle.pale_syntax.specs.declared.tree.names.Path.{Path}
use Rattle.pale_syntax.specs.declared.tree.names.Term.{Term}
use Rattle.pale_syntax.specs.declared.tree.names.Term.TheVariants as term
use Rattle.pale_syntax.specs.declared.tree.route.Route.{Route}
use Rattle.pale_syntax.specs.declared.tree.route.Route.TheVariants as route
use Rattle.pale_syntax.specs.declared.tree.condition.Condition.{Condition}
use Rattle.pale_syntax.specs.declared.tree.assertion.Assertion.{Assertion}
use Rattle.pale_syntax.specs.declared.tree.assertion.Assertion.TheVariants as assertion
use Rattle.pale_syntax.specs.declared.tree.assertion.Bracketed.{Bracketed}
use Rattle.pale_syntax.specs.declared.tree.assertion.Quantifier.{Quantifier}
use Rattle.pale_syntax.specs.declared.tree.assertion.QuantifierKind.{QuantifierKind}
use Rattle.pale_syntax.specs.declared.tree.statement.Argument.{Argument}
use Rattle.pale_syntax.specs.declared.tree.statement.Statement.{Statement}
use Rattle.pale_syntax.specs.declared.tree.statement.Value.{Value}
use Rattle.pale_syntax.specs.declared.tree.declaration.Declaration.{Declaration}
use Rattle.pale_syntax.specs.declared.tree.declaration.Declaration.TheVariants as declaration
use Rattle.pale_syntax.specs.declared.tree.declaration.FieldDeclaration.{FieldDeclaration}
use Rattle.pale_syntax.specs.declared.tree.declaration.LogicParameter.{LogicParameter}
use Rattle.pale_syntax.specs.declared.tree.declaration.Parameter.{Parameter}
use Rattle.pale_syntax.specs.declared.tree.declaration.PredicateDeclaration.{PredicateDeclaration}
use Rattle.pale_syntax.specs.declared.tree.declaration.PredicateParameter.{PredicateParameter}
use Rattle.pale_syntax.specs.declared.tree.declaration.Procedure.{Procedure}
use Rattle.pale_syntax.specs.declared.tree.declaration.TypeDeclaration.{TypeDeclaration}
use Rattle.pale_syntax.specs.declared.tree.declaration.VariantDeclaration.{VariantDeclaration}
use Rattle.pale_syntax.specs.MakingParts.{Parts, nameless}
use Rattle.pale_syntax.specs.MakingWords.{pathless, termless, extended}
use Rattle.pale_syntax.specs.MakingRoutes.{routeless, tested_type, joined_then, joined_or, starred}
use Rattle.pale_syntax.specs.MakingConditions.{conditionless, term_alone, both_conditions, either_condition}
use Rattle.pale_syntax.specs.MakingAssertions.{assertionless, path_alone, both, either, equivalent, quantifierless, begun, of_sets, binding}
use Rattle.pale_syntax.specs.MakingStatements.{valueless, narrowed, with_statement}
use Rattle.pale_print_laws.specs.Words.{AreWords, Word, Words, ◌>>◌, sign, sign_at, word_of, separated, name_words, path_words, term_words}
use Rattle.pale_print_laws.specs.RouteWords.{route_words}
use Rattle.pale_print_laws.specs.ConditionWords.{condition_words}
use Rattle.pale_print_laws.specs.AssertionWords.{quantifier_word, assertion_words, bracketed_words}
use Rattle.pale_print_laws.specs.StatementWords.{value_words, value_place, argument_words, logic_argument_words, given_words}
use Rattle.pale_print_laws.specs.StatementWords.{block_words, statement_words}
use Rattle.pale_print_laws.specs.DeclarationWords.{field_words, variant_words, type_words, predicate_parameter_words, predicate_words}
use Rattle.pale_print_laws.specs.DeclarationWords.{parameter_words, results_words, logic_parameter_words, logics_words, local_words}
use Rattle.pale_print_laws.specs.DeclarationWords.{procedure_words, declaration_words}
use Rattle.pale_print_laws.specs.Operands.{HasOne, HasTypeTest, HasTermAlone, HasPathAlone, HasNameAlone, HasNewCell}
use Rattle.pale_print_laws.specs.Words.{IsAt}

-- ---- what parts make

-- what is implied, and the place of `=>`
pub record Implied : Type 0 where
  pub place : Pos
  pub right : Assertion

-- a quantifier's names and type, and its body
pub record Quantified : Type 0 where
  pub quantifier : Quantifier → Quantifier
  pub body : Assertion

-- what is given to a call, and what it keeps
pub record Given : Type 0 where
  pub given : List Argument
  pub logics : List Argument
  pub keep : Option Bracketed

-- the results of a call but the first, and the procedure
pub record Results : Type 0 where
  pub more : List Name
  pub callee : Name

-- what follows the first name of a call
pub record Called : Type 0 where
  pub results : Option Results
  pub given : Given

abbrev pub Thing : ProgramPart → Type 0
Thing part.Declaration = Declaration
Thing part.«Type» = TypeDeclaration
Thing part.Variant = VariantDeclaration
Thing part.Field = FieldDeclaration
Thing part.Route = Route
Thing part.NextAlternative = Route
Thing part.Sequence = Route
Thing part.NextRepeated = Route
Thing part.Repeated = Route
Thing part.Star = Pos
Thing part.Step = Route
Thing part.UpName = Name
Thing part.VariantTest = Name
Thing part.Predicate = PredicateDeclaration
Thing part.PredicateParameters = List PredicateParameter
Thing part.NextPredicateParameter = PredicateParameter
Thing part.PredicateParameter = PredicateParameter
Thing part.Bracketed = Bracketed
Thing part.Procedure = Procedure
Thing part.Returns = List Parameter
Thing part.Logic = List LogicParameter
Thing part.NextLogicParameter = LogicParameter
Thing part.LogicParameter = LogicParameter
Thing part.Pre = Bracketed
Thing part.Post = Bracketed
Thing part.Parameters = List Parameter
Thing part.NextParameter = Parameter
Thing part.Parameter = Parameter
Thing part.Local = Parameter
Thing part.Block = List Statement
Thing part.Statement = Statement
Thing part.Else = List Statement
Thing part.CallRest = Called
Thing part.NextResult = Name
Thing part.Arguments = Given
Thing part.Argued = List Argument
Thing part.NextArgument = Argument
Thing part.LogicArguments = List Argument
Thing part.Argument = Argument
Thing part.Keep = Bracketed
Thing part.Value = Value
Thing part.NewVariant = Name
Thing part.Condition = Condition
Thing part.NextConjunction = Condition
Thing part.Conjunction = Condition
Thing part.NextLiteral = Condition
Thing part.Literal = Condition
Thing part.LiteralRelation = Term → Condition
Thing part.Term = Term
Thing part.Path = Path
Thing part.PathStep = Name
Thing part.Iff = Assertion
Thing part.NextImplication = Assertion
Thing part.Implication = Assertion
Thing part.Implied = Implied
Thing part.OrChain = Assertion
Thing part.NextAndChain = Assertion
Thing part.AndChain = Assertion
Thing part.NextNegation = Assertion
Thing part.Negation = Assertion
Thing part.Quantified = Quantified
Thing part.SetWord = Unit {0}
Thing part.NextBound = Name
Thing part.Primary = Assertion
Thing part.NameRest = Path → Assertion
Thing part.UsedPaths = List Path
Thing part.NextUsedPath = Path
Thing part.PathAloneStep = Name
Thing part.NameRelation = Term → Assertion
Thing part.Relation = Term → Assertion

-- ---- of which words

-- the tokens from the first of these to the first of those are these words
pub record FromTo (words : Words) (start end : List Token) : Type 0 where
  pub along : (after : List Word) → AreWords end after → AreWords start (words after)

-- behind the words of anything, these tokens go on to what is made of it
abbrev pub GoesOn : {T : Type 0} → (T → Words) → (T → Words) → List Token → List Token → Type 0
GoesOn before made start end = (t : _) (first : List Token) → FromTo (before t) first start → FromTo (made t) first end

-- a value has the place of its first token
pub record IsValue (v : Value) (start end : List Token) : Type 0 where
  pub words : FromTo (value_words v) start end
  pub first : IsAt (value_place v) (first_of start)

-- at least one parameter
pub record AreParameters (xs : List Parameter) (start end : List Token) : Type 0 where
  pub first : Parameter
  pub others : List Parameter
  pub all : xs ≡ first ∷ others
  pub words : FromTo (separated mark.Comma parameter_words xs) start end

-- the first name of a call and what follows it, up to what is given
abbrev pub called_words : Name → Option Results → Words
called_words x None after = name_words x >> after
called_words x (Some r) after = separated mark.Comma name_words (x ∷ r.more) >> sign mark.Equals >> name_words r.callee >> after

abbrev pub IsMade : (n : ProgramPart) → Thing n → List Token → List Token → Type 0
IsMade part.Declaration x start end = FromTo (declaration_words x) start end
IsMade part.«Type» x start end = FromTo (type_words x) start end
IsMade part.Variant x start end = FromTo (λ after. sign mark.Bar >> variant_words x >> after) start end
IsMade part.Field x start end = FromTo (field_words x) start end
IsMade part.Route x start end = FromTo (route_words x) start end
IsMade part.NextAlternative x start end = FromTo (λ after. sign mark.Plus >> route_words x >> after) start end
IsMade part.Sequence x start end = FromTo (route_words x) start end
IsMade part.NextRepeated x start end = FromTo (λ after. sign mark.Dot >> route_words x >> after) start end
IsMade part.Repeated x start end = FromTo (route_words x) start end
IsMade part.Star x start end = FromTo (sign_at mark.Star x) start end
IsMade part.Step x start end = FromTo (route_words x) start end
IsMade part.UpName x start end = FromTo (name_words x) start end
IsMade part.VariantTest x start end = FromTo (λ after. sign mark.Colon >> name_words x >> after) start end
IsMade part.Predicate x start end = FromTo (predicate_words x) start end
IsMade part.PredicateParameters xs start end = FromTo (separated mark.Comma predicate_parameter_words xs) start end
IsMade part.NextPredicateParameter x start end = FromTo (λ after. sign mark.Comma >> predicate_parameter_words x >> after) start end
IsMade part.PredicateParameter x start end = FromTo (predicate_parameter_words x) start end
IsMade part.Bracketed x start end = FromTo (bracketed_words x) start end
IsMade part.Procedure x start end = FromTo (procedure_words x) start end
IsMade part.Returns xs start end = FromTo (results_words xs) start end
IsMade part.Logic xs start end = FromTo (logics_words xs) start end
IsMade part.NextLogicParameter x start end = FromTo (λ after. sign mark.Comma >> logic_parameter_words x >> after) start end
IsMade part.LogicParameter x start end = FromTo (logic_parameter_words x) start end
IsMade part.Pre x start end = FromTo (λ after. word_of (codes "pre") >> bracketed_words x >> after) start end
IsMade part.Post x start end = FromTo (λ after. word_of (codes "post") >> bracketed_words x >> after) start end
IsMade part.Parameters xs start end = AreParameters xs start end
IsMade part.NextParameter x start end = FromTo (λ after. sign mark.Comma >> parameter_words x >> after) start end
IsMade part.Parameter x start end = FromTo (parameter_words x) start end
IsMade part.Local x start end = FromTo (local_words x) start end
IsMade part.Block xs start end = FromTo (block_words (map statement_words xs)) start end
IsMade part.Statement x start end = FromTo (statement_words x) start end
IsMade part.Else xs start end = FromTo (λ after. word_of (codes "else") >> block_words (map statement_words xs) >> after) start end
IsMade part.CallRest x start end =
    GoesOn name_words (λ name after. called_words name x.results >> given_words x.given.given x.given.logics x.given.keep >> after) start end
IsMade part.NextResult x start end = FromTo (λ after. sign mark.Comma >> name_words x >> after) start end
IsMade part.Arguments x start end = FromTo (given_words x.given x.logics x.keep) start end
IsMade part.Argued xs start end = FromTo (separated mark.Comma argument_words xs) start end
IsMade part.NextArgument x start end = FromTo (λ after. sign mark.Comma >> argument_words x >> after) start end
IsMade part.LogicArguments xs start end = FromTo (logic_argument_words xs) start end
IsMade part.Argument x start end = FromTo (argument_words x) start end
IsMade part.Keep x start end = FromTo (λ after. word_of (codes "keep") >> bracketed_words x >> after) start end
IsMade part.Value x start end = IsValue x start end
IsMade part.NewVariant x start end = FromTo (λ after. sign mark.Colon >> name_words x >> after) start end
IsMade part.Condition x start end = FromTo (condition_words x) start end
IsMade part.NextConjunction x start end = FromTo (λ after. sign mark.OrElse >> condition_words x >> after) start end
IsMade part.Conjunction x start end = FromTo (condition_words x) start end
IsMade part.NextLiteral x start end = FromTo (λ after. sign mark.AndAlso >> condition_words x >> after) start end
IsMade part.Literal x start end = FromTo (condition_words x) start end
IsMade part.LiteralRelation of start end = GoesOn term_words (λ t. condition_words (of t)) start end
IsMade part.Term x start end = FromTo (term_words x) start end
IsMade part.Path x start end = FromTo (path_words x) start end
IsMade part.PathStep x start end = FromTo (λ after. sign mark.Dot >> name_words x >> after) start end
IsMade part.Iff x start end = FromTo (assertion_words x) start end
IsMade part.NextImplication x start end = FromTo (λ after. sign mark.Equivalent >> assertion_words x >> after) start end
IsMade part.Implication x start end = FromTo (assertion_words x) start end
IsMade part.Implied x start end = FromTo (λ after. sign_at mark.Implies x.place >> assertion_words x.right >> after) start end
IsMade part.OrChain x start end = FromTo (assertion_words x) start end
IsMade part.NextAndChain x start end = FromTo (λ after. sign mark.Bar >> assertion_words x >> after) start end
IsMade part.AndChain x start end = FromTo (assertion_words x) start end
IsMade part.NextNegation x start end = FromTo (λ after. sign mark.Ampersand >> assertion_words x >> after) start end
IsMade part.Negation x start end = FromTo (assertion_words x) start end
IsMade part.Quantified x start end =
    (kind : QuantifierKind) (place : Pos) (first : List Token) → FromTo (quantifier_word kind place) first start →
    FromTo (assertion_words (assertion.Quantified (x.quantifier (begun kind place)) x.body)) first end
IsMade part.SetWord x start end = FromTo (word_of (codes "set")) start end
IsMade part.NextBound x start end = FromTo (λ after. sign mark.Comma >> name_words x >> after) start end
IsMade part.Primary x start end = FromTo (assertion_words x) start end
IsMade part.NameRest of start end =
    (p : Path) → p.fields ≡ [] → (first : List Token) → FromTo (path_words p) first start → FromTo (assertion_words (of p)) first end
IsMade part.UsedPaths xs start end = FromTo (separated mark.Comma path_words xs) start end
IsMade part.NextUsedPath x start end = FromTo (λ after. sign mark.Comma >> path_words x >> after) start end
IsMade part.PathAloneStep x start end = FromTo (λ after. sign mark.Dot >> name_words x >> after) start end
IsMade part.NameRelation of start end = GoesOn term_words (λ t. assertion_words (of t)) start end
IsMade part.Relation of start end = GoesOn term_words (λ t. assertion_words (of t)) start end

-- ---- what becomes of the parts

abbrev pub put_type : TypeDeclaration → Parts → Parts
put_type x parts =
    record parts { declarations = parts.declarations ++ declaration.«Type» x ∷ []; common = []; variants = []; fields = [] }

abbrev pub put_predicate : PredicateDeclaration → Parts → Parts
put_predicate x parts = record parts { declarations = parts.declarations ++ declaration.Predicate x ∷ []; predicate_parameters = [] }

abbrev pub put_procedure : Procedure → Parts → Parts
put_procedure x parts =
    record parts {
      declarations = parts.declarations ++ declaration.Procedure x ∷ [];
      variables = [];
      parameters = [];
      results = [];
      logics = [];
      pre = None;
      post = None;
    }

abbrev pub put_declaration : Declaration → Parts → Parts
put_declaration (declaration.«Type» x) parts = put_type x parts
put_declaration (declaration.Predicate x) parts = put_predicate x parts
put_declaration (declaration.Procedure x) parts = put_procedure x parts

abbrev pub put_given : Given → Parts → Parts
put_given x parts = record parts { given = x.given; arguments = x.logics; keep = x.keep }

abbrev pub put_results : Option Results → Parts → Parts
put_results None parts = parts
put_results (Some x) parts =
    record parts {
      call_results = (parts.call_results ++ top nameless parts.names ∷ []) ++ x.more;
      names = x.callee ∷ rest parts.names;
    }

abbrev pub put : (n : ProgramPart) → Thing n → Parts → Parts
put part.Declaration x parts = put_declaration x parts
put part.«Type» x parts = put_type x parts
put part.Variant x parts = record parts { variants = parts.variants ++ x ∷ []; fields = [] }
put part.Field x parts = record parts { fields = parts.fields ++ x ∷ [] }
put part.Route x parts = record parts { routes = x ∷ parts.routes }
put part.NextAlternative x parts = record parts { routes = joined_or (top routeless parts.routes) x ∷ rest parts.routes }
put part.Sequence x parts = record parts { routes = x ∷ parts.routes }
put part.NextRepeated x parts = record parts { routes = joined_then (top routeless parts.routes) x ∷ rest parts.routes }
put part.Repeated x parts = record parts { routes = x ∷ parts.routes }
put part.Star x parts = record parts { routes = starred (top routeless parts.routes) x ∷ rest parts.routes }
put part.Step x parts = record parts { routes = x ∷ parts.routes }
put part.UpName x parts = record parts { routes = route.Up x ∷ rest parts.routes }
put part.VariantTest x parts =
    record parts { routes = route.IsVariant (tested_type (top routeless parts.routes)) x ∷ rest parts.routes }
put part.Predicate x parts = put_predicate x parts
put part.PredicateParameters x parts = record parts { predicate_parameters = x }
put part.NextPredicateParameter x parts = record parts { predicate_parameters = parts.predicate_parameters ++ x ∷ [] }
put part.PredicateParameter x parts = record parts { predicate_parameters = parts.predicate_parameters ++ x ∷ [] }
put part.Bracketed x parts = record parts { brackets = x ∷ parts.brackets }
put part.Procedure x parts = put_procedure x parts
put part.Returns x parts = record parts { results = x; variables = [] }
put part.Logic x parts = record parts { logics = x }
put part.NextLogicParameter x parts = record parts { logics = parts.logics ++ x ∷ [] }
put part.LogicParameter x parts = record parts { logics = parts.logics ++ x ∷ [] }
put part.Pre x parts = record parts { pre = Some x }
put part.Post x parts = record parts { post = Some x }
put part.Parameters x parts = record parts { variables = x }
put part.NextParameter x parts = record parts { variables = parts.variables ++ x ∷ [] }
put part.Parameter x parts = record parts { variables = parts.variables ++ x ∷ [] }
put part.Local x parts = record parts { variables = parts.variables ++ x ∷ [] }
put part.Block x parts = record parts { blocks = x ∷ parts.blocks }
put part.Statement x parts = record parts { blocks = with_statement x parts.blocks }
put part.Else x parts = record parts { elses = Some x ∷ rest parts.elses }
put part.CallRest x parts = put_given x.given (put_results x.results parts)
put part.NextResult x parts = record parts { call_results = parts.call_results ++ x ∷ [] }
put part.Arguments x parts = put_given x parts
put part.Argued x parts = record parts { arguments = x }
put part.NextArgument x parts = record parts { arguments = parts.arguments ++ x ∷ [] }
put part.LogicArguments x parts = record parts { arguments = x }
put part.Argument x parts = record parts { arguments = parts.arguments ++ x ∷ [] }
put part.Keep x parts = record parts { keep = Some x }
put part.Value x parts = record parts { values = x ∷ parts.values }
put part.NewVariant x parts = record parts { values = narrowed (top valueless parts.values) x ∷ rest parts.values }
put part.Condition x parts = record parts { conditions = x ∷ parts.conditions }
put part.NextConjunction x parts =
    record parts { conditions = either_condition (top conditionless parts.conditions) x ∷ rest parts.conditions }
put part.Conjunction x parts = record parts { conditions = x ∷ parts.conditions }
put part.NextLiteral x parts =
    record parts { conditions = both_conditions (top conditionless parts.conditions) x ∷ rest parts.conditions }
put part.Literal x parts = record parts { conditions = x ∷ parts.conditions }
put part.LiteralRelation x parts =
    record parts { conditions = x (term_alone (top conditionless parts.conditions)) ∷ rest parts.conditions }
put part.Term x parts = record parts { terms = x ∷ parts.terms }
put part.Path x parts = record parts { paths = x ∷ parts.paths }
put part.PathStep x parts = record parts { paths = extended (top pathless parts.paths) x ∷ rest parts.paths }
put part.Iff x parts = record parts { assertions = x ∷ parts.assertions }
put part.NextImplication x parts =
    record parts { assertions = equivalent (top assertionless parts.assertions) x ∷ rest parts.assertions }
put part.Implication x parts = record parts { assertions = x ∷ parts.assertions }
put part.Implied x parts =
    record parts { assertions = assertion.Imp (top assertionless parts.assertions) x.place x.right ∷ rest parts.assertions }
put part.OrChain x parts = record parts { assertions = x ∷ parts.assertions }
put part.NextAndChain x parts =
    record parts { assertions = either (top assertionless parts.assertions) x ∷ rest parts.assertions }
put part.AndChain x parts = record parts { assertions = x ∷ parts.assertions }
put part.NextNegation x parts =
    record parts { assertions = both (top assertionless parts.assertions) x ∷ rest parts.assertions }
put part.Negation x parts = record parts { assertions = x ∷ parts.assertions }
put part.Quantified x parts =
    record parts {
      assertions = assertion.Quantified (x.quantifier (top quantifierless parts.quantifiers)) x.body ∷ parts.assertions;
      quantifiers = rest parts.quantifiers;
    }
put part.SetWord x parts = record parts { quantifiers = of_sets (top quantifierless parts.quantifiers) ∷ rest parts.quantifiers }
put part.NextBound x parts =
    record parts { quantifiers = binding (top quantifierless parts.quantifiers) x ∷ rest parts.quantifiers }
put part.Primary x parts = record parts { assertions = x ∷ parts.assertions }
put part.NameRest x parts =
    record parts { assertions = x (path_alone (top assertionless parts.assertions)) ∷ rest parts.assertions }
put part.UsedPaths x parts = record parts { used = x }
put part.NextUsedPath x parts = record parts { used = parts.used ++ x ∷ [] }
put part.PathAloneStep x parts =
    record parts {
      assertions = assertion.Truth (extended (path_alone (top assertionless parts.assertions)) x) ∷ rest parts.assertions;
    }
put part.NameRelation x parts =
    record parts { assertions = x (term.Path (path_alone (top assertionless parts.assertions))) ∷ rest parts.assertions }
put part.Relation x parts =
    record parts { terms = rest parts.terms; assertions = x (top termless parts.terms) ∷ parts.assertions }

-- ---- what has to hold before

-- no arguments of a predicate are under way
abbrev pub NoneUsed : Parts → Type 0
NoneUsed parts = parts.used ≡ []

-- nothing of a call is under way
abbrev pub NoCall : Parts → Type 0
NoCall parts = NoneUsed parts × (parts.call_results ≡ []) × (parts.given ≡ []) × (parts.arguments ≡ []) × (parts.keep ≡ None)

-- no arguments of a call are under way
abbrev pub NoArguments : Parts → Type 0
NoArguments parts = NoneUsed parts × (parts.arguments ≡ []) × (parts.keep ≡ None)

abbrev pub BeforeType : Parts → Type 0
BeforeType parts = (parts.fields ≡ []) × (parts.variants ≡ [])

abbrev pub BeforePredicate : Parts → Type 0
BeforePredicate parts = NoneUsed parts × (parts.predicate_parameters ≡ [])

abbrev pub BeforeProcedure : Parts → Type 0
BeforeProcedure parts =
    NoCall parts × (parts.variables ≡ []) × (parts.results ≡ []) × (parts.logics ≡ []) × (parts.pre ≡ None) × (parts.post ≡ None)

abbrev pub BeforeDeclaration : Parts → Type 0
BeforeDeclaration parts = BeforeType parts × BeforePredicate parts × BeforeProcedure parts

abbrev pub Before : ProgramPart → Parts → Type 0
Before part.Declaration parts = BeforeDeclaration parts
Before part.«Type» parts = BeforeType parts
Before part.Variant parts = parts.fields ≡ []
Before part.NextAlternative parts = HasOne parts.routes
Before part.NextRepeated parts = HasOne parts.routes
Before part.Star parts = HasOne parts.routes
Before part.UpName parts = HasOne parts.routes
Before part.VariantTest parts = HasTypeTest parts.routes
Before part.Predicate parts = BeforePredicate parts
Before part.PredicateParameters parts = parts.predicate_parameters ≡ []
Before part.Bracketed parts = NoneUsed parts
Before part.Procedure parts = BeforeProcedure parts
Before part.Returns parts = parts.variables ≡ []
Before part.Logic parts = parts.logics ≡ []
Before part.Pre parts = NoneUsed parts
Before part.Post parts = NoneUsed parts
Before part.Parameters parts = parts.variables ≡ []
Before part.Block parts = NoCall parts
Before part.Statement parts = NoCall parts × HasOne parts.blocks
Before part.Else parts = NoCall parts × HasOne parts.elses
Before part.CallRest parts = NoArguments parts × HasOne parts.names
Before part.Arguments parts = NoArguments parts
Before part.Argued parts = parts.arguments ≡ []
Before part.LogicArguments parts = parts.arguments ≡ []
Before part.Keep parts = NoneUsed parts
Before part.NewVariant parts = HasNewCell parts.values
Before part.NextConjunction parts = HasOne parts.conditions
Before part.NextLiteral parts = HasOne parts.conditions
Before part.LiteralRelation parts = HasTermAlone parts.conditions
Before part.PathStep parts = HasOne parts.paths
Before part.Iff parts = NoneUsed parts
Before part.NextImplication parts = NoneUsed parts × HasOne parts.assertions
Before part.Implication parts = NoneUsed parts
Before part.Implied parts = NoneUsed parts × HasOne parts.assertions
Before part.OrChain parts = NoneUsed parts
Before part.NextAndChain parts = NoneUsed parts × HasOne parts.assertions
Before part.AndChain parts = NoneUsed parts
Before part.NextNegation parts = NoneUsed parts × HasOne parts.assertions
Before part.Negation parts = NoneUsed parts
Before part.Quantified parts = NoneUsed parts × HasOne parts.quantifiers
Before part.SetWord parts = HasOne parts.quantifiers
Before part.NextBound parts = HasOne parts.quantifiers
Before part.Primary parts = NoneUsed parts
Before part.NameRest parts = NoneUsed parts × HasNameAlone parts.assertions
Before part.UsedPaths parts = NoneUsed parts
Before part.PathAloneStep parts = HasPathAlone parts.assertions
Before part.NameRelation parts = HasPathAlone parts.assertions
Before part.Relation parts = HasOne parts.terms
Before _ parts = Unit {0}

-- the parts that may come any number of times
abbrev pub Between : ProgramPart → Parts → Type 0
Between part.Declaration parts = BeforeDeclaration parts
Between part.Variant parts = parts.fields ≡ []
Between part.Field parts = Unit {0}
Between part.NextAlternative parts = HasOne parts.routes
Between part.NextRepeated parts = HasOne parts.routes
Between part.Star parts = HasOne parts.routes
Between part.NextPredicateParameter parts = Unit {0}
Between part.NextLogicParameter parts = Unit {0}
Between part.NextParameter parts = Unit {0}
Between part.Local parts = Unit {0}
Between part.Statement parts = NoCall parts × HasOne parts.blocks
Between part.NextResult parts = Unit {0}
Between part.NextArgument parts = Unit {0}
Between part.NextConjunction parts = HasOne parts.conditions
Between part.NextLiteral parts = HasOne parts.conditions
Between part.PathStep parts = HasOne parts.paths
Between part.NextImplication parts = NoneUsed parts × HasOne parts.assertions
Between part.NextAndChain parts = NoneUsed parts × HasOne parts.assertions
Between part.NextNegation parts = NoneUsed parts × HasOne parts.assertions
Between part.NextBound parts = HasOne parts.quantifiers
Between part.NextUsedPath parts = Unit {0}
Between part.PathAloneStep parts = HasPathAlone parts.assertions
Between _ parts = ⊥
