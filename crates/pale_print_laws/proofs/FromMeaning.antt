-- What becomes of the parts that were made before, where a part of program text is read; and what has to hold of them.
use Rattle.std.proofs.Common.{◌≡◌, ◌⊎◌, inl, inr, ℕ, List, [], ◌∷◌, ◌++◌, None, Some}
use Rattle.plain_data.specs.Stacks.{top, rest}
use Rattle.pale_syntax.specs.declared.grammar.part.ProgramPart.{ProgramPart}
use Rattle.pale_syntax.specs.declared.grammar.part.ProgramPart.TheVariants as part
use Rattle.pale_text.specs.declared.token.Token.{Token}
use Rattle.pale_syntax.specs.declared.tree.names.Term.TheVariants as term
use Rattle.pale_syntax.specs.declared.tree.route.Route.TheVariants as route
use Rattle.pale_syntax.specs.declared.tree.assertion.Assertion.TheVariants as assertion
use Rattle.pale_syntax.specs.declared.tree.declaration.Declaration.TheVariants as declaration
use Rattle.pale_syntax.specs.MakingParts.{Parts, nameless}
use Rattle.pale_syntax.specs.MakingWords.{pathless, termless, extended}
use Rattle.pale_syntax.specs.MakingRoutes.{routeless, tested_type, joined_then, joined_or, starred}
use Rattle.pale_syntax.specs.MakingConditions.{conditionless, term_alone, both_conditions, either_condition}
use Rattle.pale_syntax.specs.MakingAssertions.{assertionless, path_alone, both, either, equivalent, quantifierless, of_sets, binding}
use Rattle.pale_syntax.specs.MakingStatements.{valueless, narrowed, with_statement}
use Rattle.pale_print_laws.proofs.FromRows.{Meaning}
use Rattle.pale_print_laws.proofs.FromMade.{GivenMade, ResultsMade, TypeMade, PredicateMade, ProcedureMade, Made}

-- ---- what becomes of the parts

abbrev put_type : {room : ℕ} {start end : List Token} → TypeMade room start end → Parts → Parts
put_type made parts =
    record parts { declarations = parts.declarations ++ declaration.«Type» made.type ∷ []; common = []; variants = []; fields = [] }

abbrev put_predicate : {room : ℕ} {start end : List Token} → PredicateMade room start end → Parts → Parts
put_predicate made parts =
    record parts { declarations = parts.declarations ++ declaration.Predicate made.predicate ∷ []; predicate_parameters = [] }

abbrev pub put_procedure : {room : ℕ} {start end : List Token} → ProcedureMade room start end → Parts → Parts
put_procedure made parts =
    record parts {
      declarations = parts.declarations ++ declaration.Procedure made.procedure ∷ [];
      variables = [];
      parameters = [];
      results = [];
      logics = [];
      pre = None;
      post = None;
    }

abbrev pub put_declaration : {room : ℕ} {start end : List Token} →
    TypeMade room start end ⊎ (PredicateMade room start end ⊎ ProcedureMade room start end) → Parts → Parts
put_declaration (inl made) parts = put_type made parts
put_declaration (inr (inl made)) parts = put_predicate made parts
put_declaration (inr (inr made)) parts = put_procedure made parts

abbrev put_given : {room : ℕ} {start end : List Token} → GivenMade room start end → Parts → Parts
put_given made parts = record parts { given = made.given; arguments = made.logics; keep = made.keep }

abbrev put_results : Unit {0} ⊎ ResultsMade → Parts → Parts
put_results (inl _) parts = parts
put_results (inr made) parts =
    record parts {
      call_results = (parts.call_results ++ top nameless parts.names ∷ []) ++ made.more;
      names = made.callee.name ∷ rest parts.names;
    }

abbrev pub put : (n : ProgramPart) (room : ℕ) (start end : List Token) → Made n room start end → Parts → Parts
put part.Declaration room start end made parts = put_declaration made parts
put part.«Type» room start end made parts = put_type made parts
put part.Variant room start end made parts = record parts { variants = parts.variants ++ made.variant ∷ []; fields = [] }
put part.Field room start end made parts = record parts { fields = parts.fields ++ made.field ∷ [] }
put part.Route room start end made parts = record parts { routes = made.route ∷ parts.routes }
put part.NextAlternative room start end made parts = record parts { routes = joined_or (top routeless parts.routes) made.route ∷ rest parts.routes }
put part.Sequence room start end made parts = record parts { routes = made.route ∷ parts.routes }
put part.NextRepeated room start end made parts = record parts { routes = joined_then (top routeless parts.routes) made.route ∷ rest parts.routes }
put part.Repeated room start end made parts = record parts { routes = made.route ∷ parts.routes }
put part.Star room start end made parts = record parts { routes = starred (top routeless parts.routes) made.place ∷ rest parts.routes }
put part.Step room start end made parts = record parts { routes = made.route ∷ parts.routes }
put part.UpName room start end made parts = record parts { routes = route.Up made.name ∷ rest parts.routes }
put part.VariantTest room start end made parts =
    record parts { routes = route.IsVariant (tested_type (top routeless parts.routes)) made.name ∷ rest parts.routes }
put part.Predicate room start end made parts = put_predicate made parts
put part.PredicateParameters room start end made parts = record parts { predicate_parameters = made.parameters }
put part.NextPredicateParameter room start end made parts = record parts { predicate_parameters = parts.predicate_parameters ++ made.parameter ∷ [] }
put part.PredicateParameter room start end made parts = record parts { predicate_parameters = parts.predicate_parameters ++ made.parameter ∷ [] }
put part.Bracketed room start end made parts = record parts { brackets = made.bracketed ∷ parts.brackets }
put part.Procedure room start end made parts = put_procedure made parts
put part.Returns room start end made parts = record parts { results = made.parameters; variables = [] }
put part.Logic room start end made parts = record parts { logics = made.logics }
put part.NextLogicParameter room start end made parts = record parts { logics = parts.logics ++ made.logic ∷ [] }
put part.LogicParameter room start end made parts = record parts { logics = parts.logics ++ made.logic ∷ [] }
put part.Pre room start end made parts = record parts { pre = Some made.bracketed }
put part.Post room start end made parts = record parts { post = Some made.bracketed }
put part.Parameters room start end made parts = record parts { variables = made.parameters }
put part.NextParameter room start end made parts = record parts { variables = parts.variables ++ made.parameter ∷ [] }
put part.Parameter room start end made parts = record parts { variables = parts.variables ++ made.parameter ∷ [] }
put part.Local room start end made parts = record parts { variables = parts.variables ++ made.parameter ∷ [] }
put part.Block room start end made parts = record parts { blocks = made.block ∷ parts.blocks }
put part.Statement room start end made parts = record parts { blocks = with_statement made.statement parts.blocks }
put part.Else room start end made parts = record parts { elses = Some made.block ∷ rest parts.elses }
put part.CallRest room start end made parts = put_given made.given (put_results made.results parts)
put part.NextResult room start end made parts = record parts { call_results = parts.call_results ++ made.name ∷ [] }
put part.Arguments room start end made parts = put_given made parts
put part.Argued room start end made parts = record parts { arguments = made.arguments }
put part.NextArgument room start end made parts = record parts { arguments = parts.arguments ++ made.argument ∷ [] }
put part.LogicArguments room start end made parts = record parts { arguments = made.arguments }
put part.Argument room start end made parts = record parts { arguments = parts.arguments ++ made.argument ∷ [] }
put part.Keep room start end made parts = record parts { keep = Some made.bracketed }
put part.Value room start end made parts = record parts { values = made.value ∷ parts.values }
put part.NewVariant room start end made parts = record parts { values = narrowed (top valueless parts.values) made.name ∷ rest parts.values }
put part.Condition room start end made parts = record parts { conditions = made.condition ∷ parts.conditions }
put part.NextConjunction room start end made parts =
    record parts { conditions = either_condition (top conditionless parts.conditions) made.condition ∷ rest parts.conditions }
put part.Conjunction room start end made parts = record parts { conditions = made.condition ∷ parts.conditions }
put part.NextLiteral room start end made parts =
    record parts { conditions = both_conditions (top conditionless parts.conditions) made.condition ∷ rest parts.conditions }
put part.Literal room start end made parts = record parts { conditions = made.condition ∷ parts.conditions }
put part.LiteralRelation room start end made parts =
    record parts { conditions = made.of (term_alone (top conditionless parts.conditions)) ∷ rest parts.conditions }
put part.Term room start end made parts = record parts { terms = made.term ∷ parts.terms }
put part.Path room start end made parts = record parts { paths = made.path ∷ parts.paths }
put part.PathStep room start end made parts = record parts { paths = extended (top pathless parts.paths) made.name ∷ rest parts.paths }
put part.Iff room start end made parts = record parts { assertions = made.0.assertion ∷ parts.assertions }
put part.NextImplication room start end made parts =
    record parts { assertions = equivalent (top assertionless parts.assertions) made.1.assertion ∷ rest parts.assertions }
put part.Implication room start end made parts = record parts { assertions = made.0.assertion ∷ parts.assertions }
put part.Implied room start end made parts =
    record parts { assertions = assertion.Imp (top assertionless parts.assertions) made.1.place made.1.right.assertion ∷ rest parts.assertions }
put part.OrChain room start end made parts = record parts { assertions = made.0.assertion ∷ parts.assertions }
put part.NextAndChain room start end made parts =
    record parts { assertions = either (top assertionless parts.assertions) made.1.assertion ∷ rest parts.assertions }
put part.AndChain room start end made parts = record parts { assertions = made.0.assertion ∷ parts.assertions }
put part.NextNegation room start end made parts =
    record parts { assertions = both (top assertionless parts.assertions) made.1.assertion ∷ rest parts.assertions }
put part.Negation room start end made parts = record parts { assertions = made.assertion ∷ parts.assertions }
put part.Quantified room start end made parts =
    record parts {
      assertions = assertion.Quantified (made.0.quantifier (top quantifierless parts.quantifiers)) made.0.body ∷ parts.assertions;
      quantifiers = rest parts.quantifiers;
    }
put part.SetWord room start end made parts = record parts { quantifiers = of_sets (top quantifierless parts.quantifiers) ∷ rest parts.quantifiers }
put part.NextBound room start end made parts =
    record parts { quantifiers = binding (top quantifierless parts.quantifiers) made.name ∷ rest parts.quantifiers }
put part.Primary room start end made parts = record parts { assertions = made.assertion ∷ parts.assertions }
put part.NameRest room start end made parts =
    record parts { assertions = made.of (path_alone (top assertionless parts.assertions)) ∷ rest parts.assertions }
put part.UsedPaths room start end made parts = record parts { used = made.paths }
put part.NextUsedPath room start end made parts = record parts { used = parts.used ++ made.path ∷ [] }
put part.PathAloneStep room start end made parts =
    record parts {
      assertions = assertion.Truth (extended (path_alone (top assertionless parts.assertions)) made.name) ∷ rest parts.assertions;
    }
put part.NameRelation room start end made parts =
    record parts { assertions = made.of (term.Path (path_alone (top assertionless parts.assertions))) ∷ rest parts.assertions }
put part.Relation room start end made parts =
    record parts { terms = rest parts.terms; assertions = made.of (top termless parts.terms) ∷ parts.assertions }

-- ---- what has to hold before

-- no arguments of a predicate are under way
abbrev pub NoneUsed : Parts → Type 0
NoneUsed parts = parts.used ≡ []

-- nothing of a call is under way
abbrev pub NoCall : Parts → Type 0
NoCall parts = NoneUsed parts × (parts.call_results ≡ []) × (parts.given ≡ []) × (parts.arguments ≡ []) × (parts.keep ≡ None)

-- no arguments of a call are under way
abbrev pub NoArguments : Parts → Type 0
NoArguments parts = NoneUsed parts × (parts.arguments ≡ []) × (parts.keep ≡ None)

abbrev pub BeforeType : ℕ → Parts → Type 0
BeforeType room parts = (parts.fields ≡ []) × (parts.variants ≡ [])

abbrev pub BeforePredicate : Parts → Type 0
BeforePredicate parts = NoneUsed parts × (parts.predicate_parameters ≡ [])

abbrev pub BeforeProcedure : ℕ → Parts → Type 0
BeforeProcedure room parts =
    NoCall parts × (parts.variables ≡ []) × (parts.results ≡ []) × (parts.logics ≡ []) × (parts.pre ≡ None) × (parts.post ≡ None)

abbrev pub BeforeDeclaration : ℕ → Parts → Type 0
BeforeDeclaration room parts = BeforeType room parts × BeforePredicate parts × BeforeProcedure room parts

abbrev pub Before : ProgramPart → ℕ → Parts → Type 0
Before part.Declaration room parts = BeforeDeclaration room parts
Before part.«Type» room parts = BeforeType room parts
Before part.Variant room parts = parts.fields ≡ []
Before part.Predicate room parts = BeforePredicate parts
Before part.PredicateParameters room parts = parts.predicate_parameters ≡ []
Before part.Bracketed room parts = NoneUsed parts
Before part.Procedure room parts = BeforeProcedure room parts
Before part.Returns room parts = parts.variables ≡ []
Before part.Logic room parts = parts.logics ≡ []
Before part.Pre room parts = NoneUsed parts
Before part.Post room parts = NoneUsed parts
Before part.Parameters room parts = parts.variables ≡ []
Before part.Block room parts = NoCall parts
Before part.Statement room parts = NoCall parts
Before part.Else room parts = NoCall parts
Before part.CallRest room parts = NoArguments parts
Before part.Arguments room parts = NoArguments parts
Before part.Argued room parts = parts.arguments ≡ []
Before part.LogicArguments room parts = parts.arguments ≡ []
Before part.Keep room parts = NoneUsed parts
Before part.Iff room parts = NoneUsed parts
Before part.NextImplication room parts = NoneUsed parts
Before part.Implication room parts = NoneUsed parts
Before part.Implied room parts = NoneUsed parts
Before part.OrChain room parts = NoneUsed parts
Before part.NextAndChain room parts = NoneUsed parts
Before part.AndChain room parts = NoneUsed parts
Before part.NextNegation room parts = NoneUsed parts
Before part.Negation room parts = NoneUsed parts
Before part.Quantified room parts = NoneUsed parts
Before part.Primary room parts = NoneUsed parts
Before part.NameRest room parts = NoneUsed parts
Before part.UsedPaths room parts = NoneUsed parts
Before _ room parts = Unit {0}

-- most parts come once only
abbrev pub Between : ProgramPart → ℕ → Parts → Type 0
Between part.Declaration room parts = BeforeDeclaration room parts
Between part.Variant room parts = parts.fields ≡ []
Between part.Field room parts = Unit {0}
Between part.NextAlternative room parts = Unit {0}
Between part.NextRepeated room parts = Unit {0}
Between part.Star room parts = Unit {0}
Between part.NextPredicateParameter room parts = Unit {0}
Between part.NextLogicParameter room parts = Unit {0}
Between part.NextParameter room parts = Unit {0}
Between part.Local room parts = Unit {0}
Between part.Statement room parts = NoCall parts
Between part.NextResult room parts = Unit {0}
Between part.NextArgument room parts = Unit {0}
Between part.NextConjunction room parts = Unit {0}
Between part.NextLiteral room parts = Unit {0}
Between part.PathStep room parts = Unit {0}
Between part.NextImplication room parts = NoneUsed parts
Between part.NextAndChain room parts = NoneUsed parts
Between part.NextNegation room parts = NoneUsed parts
Between part.NextBound room parts = Unit {0}
Between part.NextUsedPath room parts = Unit {0}
Between part.PathAloneStep room parts = Unit {0}
Between _ room parts = ⊥

abbrev pub program_meaning : Meaning
program_meaning = record { Made = Made; put = put; Before = Before; Between = Between }
