-- The tokens of statements.
use Rattle.std.specs.Prelude.{ℕ, Bool, true, false, List, [], ◌∷◌, Option, Some, None, codes}
use Rattle.pale_text.specs.declared.token.Mark.TheVariants as mark
use Rattle.pale_syntax.specs.declared.tree.names.Name.{Name}
use Rattle.pale_syntax.specs.declared.tree.assertion.Bracketed.{Bracketed}
use Rattle.pale_syntax.specs.declared.tree.statement.Argument.{Argument}
use Rattle.pale_syntax.specs.declared.tree.statement.Argument.TheVariants as argument
use Rattle.pale_syntax.specs.declared.tree.statement.Call.{Call}
use Rattle.pale_syntax.specs.declared.tree.statement.Statement.{Statement}
use Rattle.pale_syntax.specs.declared.tree.statement.Statement.TheOpen.{Statement-F}
use Rattle.pale_syntax.specs.declared.tree.statement.Statement.TheFolds.{fold-Statement}
use Rattle.pale_syntax.specs.declared.tree.statement.Value.{Value}
use Rattle.pale_syntax.specs.declared.tree.statement.Value.TheVariants as value
use Rattle.pale_print.specs.Tokens.{Tokens, ◌>>◌, sign, word, each, separated, name_tokens, path_tokens}
use Rattle.pale_print.specs.ConditionTokens.{condition_tokens}
use Rattle.pale_print.specs.AssertionTokens.{bracketed_tokens}

-- `true` or `false`
abbrev pub truth_tokens : Bool → Tokens
truth_tokens true = word (codes "true")
truth_tokens false = word (codes "false")

abbrev pub argument_tokens : Argument → Tokens
argument_tokens (argument.Name x) after = name_tokens x >> after
argument_tokens (argument.Null place) after = word (codes "null") >> after
argument_tokens (argument.Truth place value) after = truth_tokens value >> after

-- `: v`, and nothing where there is no variant
abbrev pub new_variant_tokens : Option Name → Tokens
new_variant_tokens None after = after
new_variant_tokens (Some v) after = sign mark.Colon >> name_tokens v >> after

abbrev pub value_tokens : Value → Tokens
value_tokens (value.New place ty v) after = word (codes "new") >> name_tokens ty >> new_variant_tokens v >> after
value_tokens (value.Condition place c) after = condition_tokens c 0 >> after

-- this word and the assertion in its brackets, and nothing where there is none
abbrev pub clause_tokens : List ℕ → Option Bracketed → Tokens
clause_tokens bytes None after = after
clause_tokens bytes (Some b) after = word bytes >> bracketed_tokens b >> after

-- `r , s =`, and nothing where there are no results
abbrev pub call_result_tokens : List Name → Tokens
call_result_tokens [] after = after
call_result_tokens (first ∷ others) after = separated mark.Comma name_tokens (first ∷ others) >> sign mark.Equals >> after

-- `; S , true`, and nothing where there are no such arguments
abbrev pub logic_argument_tokens : List Argument → Tokens
logic_argument_tokens [] after = after
logic_argument_tokens (first ∷ others) after = sign mark.Semicolon >> separated mark.Comma argument_tokens (first ∷ others) >> after

-- `call r , s = p ( x , null ; S ) keep [ a ] ;`
abbrev pub call_tokens : Call → Tokens
call_tokens c after =
    word (codes "call") >> call_result_tokens c.results >> name_tokens c.callee >> sign mark.LeftParen >>
    separated mark.Comma argument_tokens c.arguments >> logic_argument_tokens c.logics >> sign mark.RightParen >>
    clause_tokens (codes "keep") c.keep >> sign mark.Semicolon >> after

-- `{ .. }`
abbrev pub block_tokens : List Tokens → Tokens
block_tokens statements after = sign mark.LeftBrace >> each (λ one. one) statements >> sign mark.RightBrace >> after

-- `else { .. }`, and nothing where there is no such block
abbrev pub else_tokens : Option (List Tokens) → Tokens
else_tokens None after = after
else_tokens (Some statements) after = word (codes "else") >> block_tokens statements >> after

abbrev pub statement_node : Statement-F Tokens → Tokens
statement_node (Statement-F.Skip place) after = word (codes "skip") >> sign mark.Semicolon >> after
statement_node (Statement-F.If place c then otherwise) after =
    word (codes "if") >> sign mark.LeftParen >> condition_tokens c 0 >> sign mark.RightParen >> block_tokens then >>
    else_tokens otherwise >> after
statement_node (Statement-F.While place c invariant body) after =
    word (codes "while") >> sign mark.LeftParen >> condition_tokens c 0 >> sign mark.RightParen >> bracketed_tokens invariant >>
    block_tokens body >> after
statement_node (Statement-F.Split place b) after = word (codes "split") >> bracketed_tokens b >> sign mark.Semicolon >> after
statement_node (Statement-F.Assert place b) after = word (codes "assert") >> bracketed_tokens b >> sign mark.Semicolon >> after
statement_node (Statement-F.Free place x) after = word (codes "free") >> name_tokens x >> sign mark.Semicolon >> after
statement_node (Statement-F.Call c) after = call_tokens c >> after
statement_node (Statement-F.Assign p place v) after = path_tokens p >> sign mark.Equals >> value_tokens v >> sign mark.Semicolon >> after

unfoldable pub statement_tokens : Statement → Tokens
statement_tokens = fold-Statement Tokens statement_node
