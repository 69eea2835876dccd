-- What is made of statements and calls.
use Rattle.std.specs.Prelude.{List, [], ◌∷◌, ◌++◌, true, false, None, Some}
use Rattle.plain_data.specs.Stacks.{top, rest}
use Rattle.pale_syntax.specs.declared.grammar.act.StatementAct.{StatementAct}
use Rattle.pale_syntax.specs.declared.grammar.act.StatementAct.TheVariants.{BeginBlock, MakeSkip, NoElse, SetElse, MakeIf, MakeWhile, MakeSplit}
use Rattle.pale_syntax.specs.declared.grammar.act.StatementAct.TheVariants.{MakeAssert, MakeFree, MakeNew, NarrowNew, MakeValue, MakeAssign}
use Rattle.pale_syntax.specs.declared.grammar.act.CallAct.{CallAct}
use Rattle.pale_syntax.specs.declared.grammar.act.CallAct.TheVariants.{TakeResult, NameArgument, NullArgument, TrueArgument, FalseArgument}
use Rattle.pale_syntax.specs.declared.grammar.act.CallAct.TheVariants.{TakeArguments, SetKeep, MakeCall}
use Rattle.pale_syntax.specs.declared.tree.names.Name.{Name}
use Rattle.pale_syntax.specs.declared.tree.assertion.Bracketed.{Bracketed}
use Rattle.pale_syntax.specs.declared.tree.statement.Argument.{Argument}
use Rattle.pale_syntax.specs.declared.tree.statement.Argument.TheVariants as argument
use Rattle.pale_syntax.specs.declared.tree.statement.Call.{Call}
use Rattle.pale_syntax.specs.declared.tree.statement.Statement.{Statement}
use Rattle.pale_syntax.specs.declared.tree.statement.Statement.TheVariants as statement
use Rattle.pale_syntax.specs.declared.tree.statement.Value.{Value}
use Rattle.pale_syntax.specs.declared.tree.statement.Value.TheVariants as value
use Rattle.pale_syntax.specs.MakingParts.{Parts, Near, nameless}
use Rattle.pale_text.specs.Places.{nowhere}
use Rattle.pale_text.specs.Tokens.{place_of}
use Rattle.pale_syntax.specs.MakingWords.{pathless}
use Rattle.pale_syntax.specs.MakingConditions.{conditionless}
use Rattle.pale_syntax.specs.MakingAssertions.{assertionless}

-- stands where no assertion in brackets is known
abbrev pub bracketless : Bracketed
bracketless = record { place = nowhere; assertion = assertionless }

-- stands where no value is known
abbrev pub valueless : Value
valueless = value.Condition nowhere conditionless

-- a new cell of this variant
abbrev pub narrowed : Value → Name → Value
narrowed (value.New place ty _) variant = value.New place ty (Some variant)
narrowed (value.Condition place condition) variant = value.Condition place condition

-- the statement goes to the end of the block on top
abbrev pub with_statement : Statement → List (List Statement) → List (List Statement)
with_statement one blocks = (top [] blocks ++ one ∷ []) ∷ rest blocks

abbrev pub after_statement : StatementAct → Near → Parts → Parts
after_statement BeginBlock near parts = record parts { blocks = [] ∷ parts.blocks }
after_statement MakeSkip near parts =
    record parts { blocks = with_statement (statement.Skip (top nowhere parts.places)) parts.blocks; places = rest parts.places }
after_statement NoElse near parts = record parts { elses = None ∷ parts.elses }
after_statement SetElse near parts = record parts { elses = Some (top [] parts.blocks) ∷ rest parts.elses; blocks = rest parts.blocks }
after_statement MakeIf near parts =
    record parts {
      blocks =
          with_statement
          (statement.If (top nowhere parts.places) (top conditionless parts.conditions) (top [] parts.blocks) (top None parts.elses))
          (rest parts.blocks);
      places = rest parts.places;
      conditions = rest parts.conditions;
      elses = rest parts.elses;
    }
after_statement MakeWhile near parts =
    record parts {
      blocks =
          with_statement
          (statement.While (top nowhere parts.places) (top conditionless parts.conditions) (top bracketless parts.brackets) (top [] parts.blocks))
          (rest parts.blocks);
      places = rest parts.places;
      conditions = rest parts.conditions;
      brackets = rest parts.brackets;
    }
after_statement MakeSplit near parts =
    record parts {
      blocks = with_statement (statement.Split (top nowhere parts.places) (top bracketless parts.brackets)) parts.blocks;
      places = rest parts.places;
      brackets = rest parts.brackets;
    }
after_statement MakeAssert near parts =
    record parts {
      blocks = with_statement (statement.Assert (top nowhere parts.places) (top bracketless parts.brackets)) parts.blocks;
      places = rest parts.places;
      brackets = rest parts.brackets;
    }
after_statement MakeFree near parts =
    record parts {
      blocks = with_statement (statement.Free (top nowhere parts.places) (top nameless parts.names)) parts.blocks;
      places = rest parts.places;
      names = rest parts.names;
    }
after_statement MakeNew near parts =
    record parts {
      values = value.New (top nowhere parts.places) (top nameless parts.names) None ∷ parts.values;
      places = rest parts.places;
      names = rest parts.names;
    }
after_statement NarrowNew near parts =
    record parts { values = narrowed (top valueless parts.values) (top nameless parts.names) ∷ rest parts.values; names = rest parts.names }
after_statement MakeValue near parts =
    record parts {
      values = value.Condition (top nowhere parts.places) (top conditionless parts.conditions) ∷ parts.values;
      places = rest parts.places;
      conditions = rest parts.conditions;
    }
after_statement MakeAssign near parts =
    record parts {
      blocks = with_statement (statement.Assign (top pathless parts.paths) (top nowhere parts.places) (top valueless parts.values)) parts.blocks;
      paths = rest parts.paths;
      places = rest parts.places;
      values = rest parts.values;
    }

-- the call whose parts these are
abbrev pub call_of : Parts → Call
call_of parts =
    record {
      place = top nowhere parts.places;
      results = parts.call_results;
      callee = top nameless parts.names;
      arguments = parts.given;
      logics = parts.arguments;
      keep = parts.keep;
    }

-- these parts are taken
abbrev pub without_call : Parts → Parts
without_call parts =
    record parts {
      places = rest parts.places;
      names = rest parts.names;
      call_results = [];
      given = [];
      arguments = [];
      keep = None;
    }

abbrev pub with_argument : Argument → Parts → Parts
with_argument one parts = record parts { arguments = parts.arguments ++ one ∷ [] }

abbrev pub after_call : CallAct → Near → Parts → Parts
after_call TakeResult near parts =
    record parts { call_results = parts.call_results ++ top nameless parts.names ∷ []; names = rest parts.names }
after_call NameArgument near parts = record (with_argument (argument.Name (top nameless parts.names)) parts) { names = rest parts.names }
after_call NullArgument near parts = with_argument (argument.Null (place_of near.last)) parts
after_call TrueArgument near parts = with_argument (argument.Truth (place_of near.last) true) parts
after_call FalseArgument near parts = with_argument (argument.Truth (place_of near.last) false) parts
after_call TakeArguments near parts = record parts { given = parts.arguments; arguments = [] }
after_call SetKeep near parts = record parts { keep = Some (top bracketless parts.brackets); brackets = rest parts.brackets }
after_call MakeCall near parts = record (without_call parts) { blocks = with_statement (statement.Call (call_of parts)) parts.blocks }
