-- Statements whose spelling is read as they are.
use Rattle.std.specs.Prelude.{ℕ, suc, List, [], ◌∷◌, Option, Some, None}
use Rattle.pale_text.specs.declared.place.Pos.{Pos}
use Rattle.pale_syntax.specs.declared.tree.names.Name.{Name}
use Rattle.pale_syntax.specs.declared.tree.names.Path.{Path}
use Rattle.pale_syntax.specs.declared.tree.condition.Condition.{Condition}
use Rattle.pale_syntax.specs.declared.tree.assertion.Bracketed.{Bracketed}
use Rattle.pale_syntax.specs.declared.tree.statement.Argument.{Argument}
use Rattle.pale_syntax.specs.declared.tree.statement.Argument.TheVariants as argument
use Rattle.pale_syntax.specs.declared.tree.statement.Call.{Call}
use Rattle.pale_syntax.specs.declared.tree.statement.Statement.{Statement}
use Rattle.pale_syntax.specs.declared.tree.statement.Statement.TheVariants as statement
use Rattle.pale_syntax.specs.declared.tree.statement.Value.{Value}
use Rattle.pale_syntax.specs.declared.tree.statement.Value.TheVariants as value
use Rattle.pale_syntax.specs.FreeNames.{IsFree, AreFree, IsFreePath}
use Rattle.pale_print_laws.specs.CanonicalConditions.{IsCanonicalCondition, whole}
use Rattle.pale_print_laws.specs.CanonicalAssertions.{IsCanonicalBracketed}

abbrev pub IsFreeArgument : Argument → Type 0
IsFreeArgument (argument.Name x) = IsFree x
IsFreeArgument (argument.Null place) = Unit {0}
IsFreeArgument (argument.Truth place value) = Unit {0}

abbrev pub AreFreeArguments : List Argument → Type 0
AreFreeArguments [] = Unit {0}
AreFreeArguments (a ∷ arguments) = IsFreeArgument a × AreFreeArguments arguments

-- an assertion in brackets, where there is one
abbrev pub IsCanonicalClause : ℕ → Option Bracketed → Type 0
IsCanonicalClause room None = Unit {0}
IsCanonicalClause room (Some b) = IsCanonicalBracketed room b

pub record IsCanonicalCall (room : ℕ) (c : Call) : Type 0 where
  pub results : AreFree c.results
  pub callee : IsFree c.callee
  pub arguments : AreFreeArguments c.arguments
  pub logics : AreFreeArguments c.logics
  pub keep : IsCanonicalClause room c.keep

abbrev pub IsFreeOption : Option Name → Type 0
IsFreeOption None = Unit {0}
IsFreeOption (Some x) = IsFree x

abbrev pub IsCanonicalValue : ℕ → Value → Type 0
IsCanonicalValue room (value.New place ty variant) = IsFree ty × IsFreeOption variant
IsCanonicalValue room (value.Condition place c) = IsCanonicalCondition whole room c

mutual
  -- the statement's spelling opens at most so many levels, and it is read as it is
  pub data IsCanonicalStatement : ℕ → Statement → Type 0 where
    skip : (room : ℕ) (place : Pos) → IsCanonicalStatement room (statement.Skip place)
    if_alone : (room : ℕ) (place : Pos) (c : Condition) (then : List Statement) → IsCanonicalCondition whole (suc room) c →
        AreCanonicalStatements room then → IsCanonicalStatement (suc room) (statement.If place c then None)
    if_else : (room : ℕ) (place : Pos) (c : Condition) (then otherwise : List Statement) → IsCanonicalCondition whole (suc room) c →
        AreCanonicalStatements room then → AreCanonicalStatements room otherwise → IsCanonicalStatement (suc room) (statement.If place c then (Some otherwise))
    while : (room : ℕ) (place : Pos) (c : Condition) (invariant : Bracketed) (body : List Statement) → IsCanonicalCondition whole (suc room) c →
        IsCanonicalBracketed (suc room) invariant → AreCanonicalStatements room body → IsCanonicalStatement (suc room) (statement.While place c invariant body)
    split : (room : ℕ) (place : Pos) (b : Bracketed) → IsCanonicalBracketed room b → IsCanonicalStatement room (statement.Split place b)
    assert : (room : ℕ) (place : Pos) (b : Bracketed) → IsCanonicalBracketed room b → IsCanonicalStatement room (statement.Assert place b)
    free : (room : ℕ) (place : Pos) (x : Name) → IsFree x → IsCanonicalStatement room (statement.Free place x)
    call : (room : ℕ) (c : Call) → IsCanonicalCall room c → IsCanonicalStatement room (statement.Call c)
    assign : (room : ℕ) (p : Path) (place : Pos) (v : Value) → IsFreePath p → IsCanonicalValue room v → IsCanonicalStatement room (statement.Assign p place v)

  pub data AreCanonicalStatements : ℕ → List Statement → Type 0 where
    none : (room : ℕ) → AreCanonicalStatements room []
    more : (room : ℕ) (s : Statement) (ss : List Statement) → IsCanonicalStatement room s → AreCanonicalStatements room ss
        → AreCanonicalStatements room (s ∷ ss)
