-- The words of statements. Each keyword has a place.
use Rattle.std.specs.Prelude.{ℕ, Bool, true, false, List, [], ◌∷◌, Option, Some, None, codes}
use Rattle.pale_text.specs.declared.place.Pos.{Pos}
use Rattle.pale_text.specs.declared.token.Mark.TheVariants as mark
use Rattle.pale_text.specs.declared.token.TokenKind.TheVariants as kind
use Rattle.pale_syntax.specs.declared.tree.names.Name.{Name}
use Rattle.pale_syntax.specs.declared.tree.assertion.Bracketed.{Bracketed}
use Rattle.pale_syntax.specs.declared.tree.statement.Argument.{Argument}
use Rattle.pale_syntax.specs.declared.tree.statement.Argument.TheVariants as argument
use Rattle.pale_syntax.specs.declared.tree.statement.Call.{Call}
use Rattle.pale_syntax.specs.declared.tree.statement.Statement.{Statement}
use Rattle.pale_syntax.specs.declared.tree.statement.Statement.TheOpen.{Statement-F}
use Rattle.pale_syntax.specs.declared.tree.statement.Statement.TheFolds.{fold-Statement}
use Rattle.pale_syntax.specs.declared.tree.statement.Value.{Value}
use Rattle.pale_syntax.specs.declared.tree.statement.Value.TheVariants as value
use Rattle.pale_print_laws.specs.Words.{Words, ◌>>◌, sign, word_of, word_at, each, separated, name_words, path_words}
use Rattle.pale_print_laws.specs.ConditionWords.{condition_words}
use Rattle.pale_print_laws.specs.AssertionWords.{bracketed_words}

-- `true` or `false`
abbrev pub truth_word : Bool → Pos → Words
truth_word true = word_at (codes "true")
truth_word false = word_at (codes "false")

abbrev pub argument_words : Argument → Words
argument_words (argument.Name x) after = name_words x >> after
argument_words (argument.Null place) after = word_at (codes "null") place >> after
argument_words (argument.Truth place value) after = truth_word value place >> after

-- `: v`, and nothing where there is no variant
abbrev pub new_variant_words : Option Name → Words
new_variant_words None after = after
new_variant_words (Some v) after = sign mark.Colon >> name_words v >> after

abbrev pub value_words : Value → Words
value_words (value.New place ty v) after = word_at (codes "new") place >> name_words ty >> new_variant_words v >> after
value_words (value.Condition first c) after = condition_words c >> after

-- the place of the first token of a value, where the value keeps one that may be a parenthesis's
abbrev pub value_place : Value → Option Pos
value_place (value.New place ty v) = None
value_place (value.Condition first c) = Some first

-- `=` at this place, before a value
abbrev pub assigns : Pos → Value → Words
assigns place v after = record { kind = kind.Mark mark.Equals; place = Some place; next = value_place v } ∷ after

-- this word and the assertion in its brackets, and nothing where there is none
abbrev pub clause_words : List ℕ → Option Bracketed → Words
clause_words bytes None after = after
clause_words bytes (Some b) after = word_of bytes >> bracketed_words b >> after

-- `r , s =`, and nothing where there are no results
abbrev pub call_result_words : List Name → Words
call_result_words [] after = after
call_result_words (first ∷ others) after = separated mark.Comma name_words (first ∷ others) >> sign mark.Equals >> after

-- `; S , true`, and nothing where there are no such arguments
abbrev pub logic_argument_words : List Argument → Words
logic_argument_words [] after = after
logic_argument_words (first ∷ others) after = sign mark.Semicolon >> separated mark.Comma argument_words (first ∷ others) >> after

-- arguments `x , null ; S` and `keep [ a ]`
abbrev pub given_words : List Argument → List Argument → Option Bracketed → Words
given_words arguments logics keep after =
    separated mark.Comma argument_words arguments >> logic_argument_words logics >> clause_words (codes "keep") keep >> after

-- `call r , s = p x , null ; S keep [ a ] ;`
abbrev pub call_words : Call → Words
call_words c after =
    word_at (codes "call") c.place >> call_result_words c.results >> name_words c.callee >> given_words c.arguments c.logics c.keep >>
    sign mark.Semicolon >> after

-- `{ .. }`
abbrev pub block_words : List Words → Words
block_words statements after = sign mark.LeftBrace >> each (λ one. one) statements >> sign mark.RightBrace >> after

-- `else { .. }`, and nothing where there is no such block
abbrev pub else_words : Option (List Words) → Words
else_words None after = after
else_words (Some statements) after = word_of (codes "else") >> block_words statements >> after

abbrev pub statement_node : Statement-F Words → Words
statement_node (Statement-F.Skip place) after = word_at (codes "skip") place >> sign mark.Semicolon >> after
statement_node (Statement-F.If place c then otherwise) after =
    word_at (codes "if") place >> condition_words c >> block_words then >> else_words otherwise >> after
statement_node (Statement-F.While place c invariant body) after =
    word_at (codes "while") place >> condition_words c >> bracketed_words invariant >> block_words body >> after
statement_node (Statement-F.Split place b) after = word_at (codes "split") place >> bracketed_words b >> sign mark.Semicolon >> after
statement_node (Statement-F.Assert place b) after = word_at (codes "assert") place >> bracketed_words b >> sign mark.Semicolon >> after
statement_node (Statement-F.Free place x) after = word_at (codes "free") place >> name_words x >> sign mark.Semicolon >> after
statement_node (Statement-F.Call c) after = call_words c >> after
statement_node (Statement-F.Assign p place v) after = path_words p >> assigns place v >> value_words v >> sign mark.Semicolon >> after

unfoldable pub statement_words : Statement → Words
statement_words = fold-Statement Words statement_node
