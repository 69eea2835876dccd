-- What each act of a reading takes from the parts made before it. An act that finds no such part makes something all the
-- same, of stand-ins.
use Rattle.std.specs.Prelude.{◌≡◌, List, [], ◌∷◌, Option}
use Rattle.plain_data.specs.Stacks.{rest}
use Rattle.ll1_reader.specs.declared.symbol.Event.{Event}
use Rattle.ll1_reader.specs.declared.symbol.Event.TheVariants as event
use Rattle.pale_syntax.specs.declared.grammar.act.Act.{Act}
use Rattle.pale_syntax.specs.declared.grammar.act.Act.TheVariants as made
use Rattle.pale_syntax.specs.declared.grammar.act.WordAct.{WordAct}
use Rattle.pale_syntax.specs.declared.grammar.act.WordAct.TheVariants as words
use Rattle.pale_syntax.specs.declared.grammar.act.RouteAct.{RouteAct}
use Rattle.pale_syntax.specs.declared.grammar.act.RouteAct.TheVariants as routes
use Rattle.pale_syntax.specs.declared.grammar.act.ConditionAct.{ConditionAct}
use Rattle.pale_syntax.specs.declared.grammar.act.ConditionAct.TheVariants as conditions
use Rattle.pale_syntax.specs.declared.grammar.act.AtomAct.{AtomAct}
use Rattle.pale_syntax.specs.declared.grammar.act.AtomAct.TheVariants as atoms
use Rattle.pale_syntax.specs.declared.grammar.act.ConnectiveAct.{ConnectiveAct}
use Rattle.pale_syntax.specs.declared.grammar.act.ConnectiveAct.TheVariants as connectives
use Rattle.pale_syntax.specs.declared.grammar.act.StatementAct.{StatementAct}
use Rattle.pale_syntax.specs.declared.grammar.act.StatementAct.TheVariants as statements
use Rattle.pale_syntax.specs.declared.grammar.act.CallAct.{CallAct}
use Rattle.pale_syntax.specs.declared.grammar.act.CallAct.TheVariants as calls
use Rattle.pale_syntax.specs.declared.grammar.act.TypeAct.{TypeAct}
use Rattle.pale_syntax.specs.declared.grammar.act.TypeAct.TheVariants as types
use Rattle.pale_syntax.specs.declared.grammar.act.PredicateAct.{PredicateAct}
use Rattle.pale_syntax.specs.declared.grammar.act.PredicateAct.TheVariants as predicates
use Rattle.pale_syntax.specs.declared.grammar.act.ProcedureAct.{ProcedureAct}
use Rattle.pale_syntax.specs.declared.grammar.act.ProcedureAct.TheVariants as procedures
use Rattle.pale_text.specs.declared.token.Token.{Token}
use Rattle.pale_text.specs.Tokens.{first_of}
use Rattle.pale_syntax.specs.declared.tree.assertion.Assertion.{Assertion, out-Assertion}
use Rattle.pale_syntax.specs.declared.tree.assertion.Assertion.TheOpen.{Assertion-F}
use Rattle.pale_syntax.specs.declared.tree.condition.Condition.{Condition, out-Condition}
use Rattle.pale_syntax.specs.declared.tree.condition.Condition.TheOpen.{Condition-F}
use Rattle.pale_syntax.specs.declared.tree.declaration.Program.{Program}
use Rattle.pale_syntax.specs.declared.tree.route.Route.{Route, out-Route}
use Rattle.pale_syntax.specs.declared.tree.route.Route.TheOpen.{Route-F}
use Rattle.pale_syntax.specs.declared.tree.statement.Value.{Value}
use Rattle.pale_syntax.specs.declared.tree.statement.Value.TheVariants as value
use Rattle.pale_syntax.specs.Making.{after}
use Rattle.pale_syntax.specs.MakingParts.{Parts, nothing}

-- the stack is not empty
abbrev pub HasOne : {T : Type 0} → List T → Type 0
HasOne [] = ⊥
HasOne (_ ∷ _) = Unit {0}

-- at least two lie on the stack
abbrev pub HasTwo : {T : Type 0} → List T → Type 0
HasTwo [] = ⊥
HasTwo (_ ∷ others) = HasOne others

abbrev pub IsTypeTest : Route-F Route → Type 0
IsTypeTest (Route-F.IsType ty) = Unit {0}
IsTypeTest _ = ⊥

-- the last route is a test for a type
abbrev pub HasTypeTest : List Route → Type 0
HasTypeTest [] = ⊥
HasTypeTest (last ∷ _) = IsTypeTest (out-Route last)

abbrev pub IsTermAlone : Condition-F Condition → Type 0
IsTermAlone (Condition-F.Truth term) = Unit {0}
IsTermAlone _ = ⊥

-- the last condition is a term alone
abbrev pub HasTermAlone : List Condition → Type 0
HasTermAlone [] = ⊥
HasTermAlone (last ∷ _) = IsTermAlone (out-Condition last)

abbrev pub IsPathAlone : Assertion-F Assertion → Type 0
IsPathAlone (Assertion-F.Truth path) = Unit {0}
IsPathAlone _ = ⊥

-- the last assertion is a path alone
abbrev pub HasPathAlone : List Assertion → Type 0
HasPathAlone [] = ⊥
HasPathAlone (last ∷ _) = IsPathAlone (out-Assertion last)

abbrev pub IsNameAlone : Assertion-F Assertion → Type 0
IsNameAlone (Assertion-F.Truth path) = path.fields ≡ []
IsNameAlone _ = ⊥

-- the last assertion is a path of one name alone
abbrev pub HasNameAlone : List Assertion → Type 0
HasNameAlone [] = ⊥
HasNameAlone (last ∷ _) = IsNameAlone (out-Assertion last)

abbrev pub IsNewCell : Value → Type 0
IsNewCell (value.New place ty variant) = Unit {0}
IsNewCell (value.Condition place condition) = ⊥

-- the last value is a new cell
abbrev pub HasNewCell : List Value → Type 0
HasNewCell [] = ⊥
HasNewCell (last ∷ _) = IsNewCell last

-- ---- what acts take

abbrev pub word_operands : WordAct → Parts → Type 0
word_operands words.PushName parts = Unit {0}
word_operands words.MarkPlace parts = Unit {0}
word_operands words.MarkNext parts = Unit {0}
word_operands words.StartPath parts = HasOne parts.names
word_operands words.ExtendPath parts = HasOne parts.paths × HasOne parts.names
word_operands words.PushNull parts = Unit {0}
word_operands words.PathTerm parts = HasOne parts.paths

abbrev pub route_operands : RouteAct → Parts → Type 0
route_operands routes.Down parts = HasOne parts.names
route_operands routes.UpAny parts = Unit {0}
route_operands routes.NameUp parts = HasOne parts.routes × HasOne parts.names
route_operands routes.Leaf parts = Unit {0}
route_operands routes.Root parts = Unit {0}
route_operands routes.IsType parts = HasOne parts.names
route_operands routes.NarrowToVariant parts = HasTypeTest parts.routes × HasOne parts.names
route_operands routes.IsTrue parts = HasOne parts.names
route_operands routes.IsFalse parts = HasOne parts.names
route_operands routes.JoinThen parts = HasTwo parts.routes
route_operands routes.JoinOr parts = HasTwo parts.routes
route_operands routes.AddStar parts = HasOne parts.routes

abbrev pub condition_operands : ConditionAct → Parts → Type 0
condition_operands conditions.TrueCondition parts = Unit {0}
condition_operands conditions.FalseCondition parts = Unit {0}
condition_operands conditions.TermAlone parts = HasOne parts.terms
condition_operands conditions.TakeTermBack parts = HasTermAlone parts.conditions
condition_operands conditions.SameAs parts = HasTwo parts.terms × HasOne parts.places
condition_operands conditions.NotSameAs parts = HasTwo parts.terms × HasOne parts.places
condition_operands conditions.OfVariant parts = HasOne parts.terms × HasOne parts.places × HasOne parts.names
condition_operands conditions.NotCondition parts = HasOne parts.places × HasOne parts.conditions
condition_operands conditions.JoinAndAlso parts = HasTwo parts.conditions
condition_operands conditions.JoinOrElse parts = HasTwo parts.conditions

abbrev pub atom_operands : AtomAct → Parts → Type 0
atom_operands atoms.TrueAssertion parts = Unit {0}
atom_operands atoms.FalseAssertion parts = Unit {0}
atom_operands atoms.PathAlone parts = HasOne parts.paths
atom_operands atoms.ExtendPathAlone parts = HasPathAlone parts.assertions × HasOne parts.names
atom_operands atoms.TakePathBack parts = HasPathAlone parts.assertions
atom_operands atoms.AddUsedPath parts = HasOne parts.paths
atom_operands atoms.MakeUse parts = HasNameAlone parts.assertions
atom_operands atoms.MakeSame parts = HasTwo parts.terms × HasOne parts.places
atom_operands atoms.MakeDiffer parts = HasTwo parts.terms × HasOne parts.places
atom_operands atoms.MakeMember parts = HasOne parts.terms × HasOne parts.places × HasOne parts.names
atom_operands atoms.MakeSubset parts = HasOne parts.terms × HasOne parts.places × HasOne parts.names
atom_operands atoms.MakeWalk parts = HasTwo parts.terms × HasOne parts.places × HasOne parts.routes
atom_operands atoms.MakeIs parts = HasOne parts.terms × HasOne parts.places × HasOne parts.names

abbrev pub connective_operands : ConnectiveAct → Parts → Type 0
connective_operands connectives.JoinIff parts = HasTwo parts.assertions
connective_operands connectives.MakeImp parts = HasTwo parts.assertions × HasOne parts.places
connective_operands connectives.JoinOr parts = HasTwo parts.assertions
connective_operands connectives.JoinAnd parts = HasTwo parts.assertions
connective_operands connectives.MakeNot parts = HasOne parts.places × HasOne parts.assertions
connective_operands connectives.BeginEx parts = Unit {0}
connective_operands connectives.BeginAll parts = Unit {0}
connective_operands connectives.BindsSets parts = HasOne parts.quantifiers
connective_operands connectives.AddBound parts = HasOne parts.quantifiers × HasOne parts.names
connective_operands connectives.MakeQuantified parts = HasOne parts.quantifiers × HasOne parts.names × HasOne parts.assertions
connective_operands connectives.Bracket parts = HasOne parts.places × HasOne parts.assertions

abbrev pub statement_operands : StatementAct → Parts → Type 0
statement_operands statements.BeginBlock parts = Unit {0}
statement_operands statements.MakeSkip parts = HasOne parts.blocks × HasOne parts.places
statement_operands statements.NoElse parts = Unit {0}
statement_operands statements.SetElse parts = HasOne parts.blocks × HasOne parts.elses
statement_operands statements.MakeIf parts = HasTwo parts.blocks × HasOne parts.places × HasOne parts.conditions × HasOne parts.elses
statement_operands statements.MakeWhile parts = HasTwo parts.blocks × HasOne parts.places × HasOne parts.conditions × HasOne parts.brackets
statement_operands statements.MakeSplit parts = HasOne parts.blocks × HasOne parts.places × HasOne parts.brackets
statement_operands statements.MakeAssert parts = HasOne parts.blocks × HasOne parts.places × HasOne parts.brackets
statement_operands statements.MakeFree parts = HasOne parts.blocks × HasOne parts.places × HasOne parts.names
statement_operands statements.MakeNew parts = HasOne parts.places × HasOne parts.names
statement_operands statements.NarrowNew parts = HasNewCell parts.values × HasOne parts.names
statement_operands statements.MakeValue parts = HasOne parts.places × HasOne parts.conditions
statement_operands statements.MakeAssign parts = HasOne parts.blocks × HasOne parts.paths × HasOne parts.places × HasOne parts.values

abbrev pub call_operands : CallAct → Parts → Type 0
call_operands calls.TakeResult parts = HasOne parts.names
call_operands calls.NameArgument parts = HasOne parts.names
call_operands calls.NullArgument parts = Unit {0}
call_operands calls.TrueArgument parts = Unit {0}
call_operands calls.FalseArgument parts = Unit {0}
call_operands calls.TakeArguments parts = Unit {0}
call_operands calls.SetKeep parts = HasOne parts.brackets
call_operands calls.MakeCall parts = HasOne parts.blocks × HasOne parts.places × HasOne parts.names

abbrev pub type_operands : TypeAct → Parts → Type 0
type_operands types.BoolField parts = HasOne parts.names
type_operands types.DataField parts = HasTwo parts.names
type_operands types.PointerField parts = HasTwo parts.names × HasOne parts.places × HasOne parts.routes
type_operands types.EndCommon parts = Unit {0}
type_operands types.AddVariant parts = HasOne parts.names
type_operands types.AddType parts = HasOne parts.names

abbrev pub predicate_operands : PredicateAct → Parts → Type 0
predicate_operands predicates.CellParameter parts = HasTwo parts.names
predicate_operands predicates.SetParameter parts = HasTwo parts.names
predicate_operands predicates.BoolParameter parts = HasOne parts.names
predicate_operands predicates.AddPredicate parts = HasOne parts.names × HasOne parts.brackets

abbrev pub procedure_operands : ProcedureAct → Parts → Type 0
procedure_operands procedures.DataParameter parts = HasTwo parts.names
procedure_operands procedures.PointerParameter parts = HasTwo parts.names
procedure_operands procedures.BoolVariable parts = HasOne parts.names
procedure_operands procedures.TakeParameters parts = Unit {0}
procedure_operands procedures.TakeResults parts = Unit {0}
procedure_operands procedures.LogicSet parts = HasTwo parts.names
procedure_operands procedures.LogicBool parts = HasOne parts.names
procedure_operands procedures.SetPre parts = HasOne parts.brackets
procedure_operands procedures.SetPost parts = HasOne parts.brackets
procedure_operands procedures.AddProcedure parts = HasTwo parts.places × HasOne parts.names × HasOne parts.blocks

-- what an act takes was made before it, and is of the form that it asks for
abbrev pub HasOperands : Act → Parts → Type 0
HasOperands (made.Word act) parts = word_operands act parts
HasOperands (made.Route act) parts = route_operands act parts
HasOperands (made.Condition act) parts = condition_operands act parts
HasOperands (made.Atom act) parts = atom_operands act parts
HasOperands (made.Connective act) parts = connective_operands act parts
HasOperands (made.Statement act) parts = statement_operands act parts
HasOperands (made.Call act) parts = call_operands act parts
HasOperands (made.«Type» act) parts = type_operands act parts
HasOperands (made.Predicate act) parts = predicate_operands act parts
HasOperands (made.Procedure act) parts = procedure_operands act parts

-- each act among these events has its operands, where `last` was read last and the tokens `left` are still to be read
abbrev pub EachHasOperands : List (Event Act) → Option Token → List Token → Parts → Type 0
EachHasOperands [] last left parts = Unit {0}
EachHasOperands (event.Token ∷ events) last left parts = EachHasOperands events (first_of left) (rest left) parts
EachHasOperands (event.Act act ∷ events) last left parts =
    HasOperands act parts × EachHasOperands events last left (after act (record { last = last; next = first_of left }) parts)

-- the parts of which nothing is left but the declarations of a program
abbrev pub only : Program → Parts
only tree = record nothing { declarations = tree.declarations }
