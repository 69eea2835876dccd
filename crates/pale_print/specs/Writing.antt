-- What the steps of the printer do to its text, in words for what one step writes. Nothing outside of the crate cites this
-- page.
use Rattle.std.specs.Prelude.{◌≡◌, ℕ, zero, suc, Bool, true, false, List, [], ◌∷◌, ◌++◌, length, Option, Some, option_map, codes}
use Rattle.pale_text.specs.declared.place.Pos.{Pos}
use Rattle.pale_text.specs.declared.token.Mark.{Mark}
use Rattle.pale_text.specs.declared.token.Mark.TheVariants as mark
use Rattle.pale_text.specs.declared.token.TokenKind.{TokenKind}
use Rattle.pale_syntax.specs.declared.tree.assertion.Assertion.{Assertion}
use Rattle.pale_syntax.specs.declared.tree.assertion.Bracketed.{Bracketed}
use Rattle.pale_syntax.specs.declared.tree.assertion.Quantifier.{Quantifier}
use Rattle.pale_syntax.specs.declared.tree.declaration.PredicateDeclaration.{PredicateDeclaration}
use Rattle.pale_syntax.specs.declared.tree.declaration.PredicateParameter.{PredicateParameter}
use Rattle.pale_syntax.specs.declared.tree.declaration.Procedure.{Procedure}
use Rattle.pale_syntax.specs.declared.tree.condition.Condition.{Condition}
use Rattle.pale_syntax.specs.declared.tree.names.Name.{Name}
use Rattle.pale_syntax.specs.declared.tree.names.Path.{Path}
use Rattle.pale_syntax.specs.declared.tree.names.Term.{Term}
use Rattle.pale_syntax.specs.declared.tree.route.Route.{Route}
use Rattle.pale_syntax.specs.declared.tree.statement.Call.{Call}
use Rattle.pale_syntax.specs.declared.tree.statement.Statement.{Statement}
use Rattle.pale_syntax.specs.declared.tree.statement.Value.{Value}
use Rattle.pale_print.specs.Tokens.{Tokens, ◌>>◌, nothing, sign, word, each, separated, name_tokens, path_tokens, term_tokens}
use Rattle.pale_print.specs.RouteTokens.{stars, bool_test, route_tokens}
use Rattle.pale_print.specs.ConditionTokens.{condition_tokens}
use Rattle.pale_print.specs.AssertionTokens.{quantifier_word, set_word, assertion_tokens, bracketed_tokens}
use Rattle.pale_print.specs.StatementTokens.{argument_tokens, value_tokens, call_result_tokens, logic_argument_tokens, statement_tokens}
use Rattle.pale_print.specs.DeclarationTokens.{predicate_parameter_tokens, parameters_tokens, results_tokens, logics_tokens, local_tokens}
use Rattle.pale_print.specs.Spelling.{spelled}

-- the text that was begun and then these tokens are the whole text, and memory didn't run out so far
unfoldable pub Ends : Option (List ℕ) → List TokenKind → List ℕ → Type 0
Ends begun after whole = option_map (λ text. text ++ spelled after) begun ≡ Some whole

-- these tokens were written: whatever is to come after them, the whole text is the one in which they and that come after what
-- stood before
abbrev pub Writes : Tokens → Option (List ℕ) → Option (List ℕ) → Type 0
Writes tokens before now = (after : List TokenKind) (whole : List ℕ) → Ends now after whole → Ends before (tokens >> after) whole

-- ---- names and terms

-- a name behind a mark
abbrev pub marked : Mark → Name → Tokens
marked mark x after = sign mark >> name_tokens x >> after

-- two terms with a mark between them
abbrev pub compared : Term → Mark → Term → Tokens
compared t mark u after = term_tokens t >> sign mark >> term_tokens u >> after

-- `t : v`
abbrev pub variant_tested : Term → Name → Tokens
variant_tested t variant after = term_tokens t >> marked mark.Colon variant >> after

-- ---- groups and chains

-- the parentheses of a group, where they are needed
abbrev pub opening : Bool → Tokens
opening true = sign mark.LeftParen
opening false = nothing

abbrev pub closing : Bool → Tokens
closing true = sign mark.RightParen
closing false = nothing

-- an operator follows what stands last in a group, or in no group where one follows it
abbrev pub inside : Bool → Bool → Bool
inside true followed = false
inside false followed = followed

-- an operator follows an operand behind which so many others of its chain stand
abbrev pub goes_on : ℕ → Bool → Bool
goes_on zero followed = followed
goes_on (suc others) followed = true

-- the operands of chains, each behind its operator
abbrev pub route_operands : Mark → ℕ → List Route → Tokens
route_operands mark asked [] after = after
route_operands mark asked (one ∷ others) after = sign mark >> route_tokens one asked >> route_operands mark asked others >> after

abbrev pub condition_operands : Mark → ℕ → List Condition → Tokens
condition_operands mark asked [] after = after
condition_operands mark asked (one ∷ others) after =
    sign mark >> condition_tokens one asked >> condition_operands mark asked others >> after

abbrev pub assertion_operands : Mark → ℕ → List Assertion → Bool → Tokens
assertion_operands mark asked [] followed after = after
assertion_operands mark asked (one ∷ others) followed after =
    sign mark >> assertion_tokens one asked (goes_on (length others) followed) >> assertion_operands mark asked others followed >> after

-- a chain, in parentheses where they are needed
abbrev pub route_chain : Bool → Mark → ℕ → Route → List Route → Tokens
route_chain needed mark asked first others after =
    opening needed >> route_tokens first asked >> route_operands mark asked others >> closing needed >> after

abbrev pub condition_chain : Bool → Mark → ℕ → Condition → List Condition → Tokens
condition_chain needed mark asked first others after =
    opening needed >> condition_tokens first asked >> condition_operands mark asked others >> closing needed >> after

-- the same of assertions, and an operator follows the chain or not
abbrev pub assertion_chain : Bool → Mark → ℕ → Assertion → List Assertion → Bool → Tokens
assertion_chain needed mark asked first others followed after =
    opening needed >> assertion_tokens first asked (goes_on (length others) (inside needed followed)) >>
    assertion_operands mark asked others (inside needed followed) >> closing needed >> after

-- ---- routes and assertions

-- `R *`, in parentheses where they are needed
abbrev pub repeated : Bool → Route → List Pos → Tokens
repeated needed inner places after = opening needed >> route_tokens inner 3 >> stars places >> closing needed >> after

-- `? f` or `! f`
abbrev pub bool_tested : Bool → Name → Tokens
bool_tested value f after = bool_test value >> name_tokens f >> after

-- `t in S` or `t sub S`
abbrev pub related : Term → List ℕ → Name → Tokens
related t bytes set after = term_tokens t >> word bytes >> name_tokens set >> after

-- `t < R > u`
abbrev pub walked : Term → Route → Term → Tokens
walked t r u after = term_tokens t >> sign mark.Less >> route_tokens r 0 >> sign mark.Greater >> term_tokens u >> after

-- `p ( x , y . f )`
abbrev pub used : Name → List Path → Tokens
used predicate arguments after =
    name_tokens predicate >> sign mark.LeftParen >> separated mark.Comma path_tokens arguments >> sign mark.RightParen >> after

-- `ex`, `all`, `ex set` or `all set`
abbrev pub quantifier_words : Quantifier → Tokens
quantifier_words q after = quantifier_word q.kind >> set_word q.of_sets >> after

-- a quantifier up to what it governs
abbrev pub quantifier_tokens : Quantifier → Tokens
quantifier_tokens q after =
    quantifier_words q >> separated mark.Comma name_tokens q.names >> marked mark.Colon q.ty >> sign mark.Colon >> after

-- `~ a`, which an operator follows or not
abbrev pub denied : Assertion → Bool → Tokens
denied inner followed after = sign mark.Tilde >> assertion_tokens inner 4 followed >> after

-- `a => b`, in parentheses where they are needed
abbrev pub implication : Bool → Assertion → Assertion → Bool → Tokens
implication needed left right followed after =
    opening needed >> assertion_tokens left 2 true >> sign mark.Implies >> assertion_tokens right 1 (inside needed followed) >>
    closing needed >> after

-- a quantifier and what it governs, in parentheses where an operator follows
abbrev pub governed : Quantifier → Assertion → Bool → Tokens
governed q inner followed after =
    opening followed >> quantifier_tokens q >> assertion_tokens inner 0 false >> closing followed >> after

-- ---- statements

-- `if ( c )` or `while ( c )`
abbrev pub tested : List ℕ → Condition → Tokens
tested bytes c after = word bytes >> sign mark.LeftParen >> condition_tokens c 0 >> sign mark.RightParen >> after

-- `skip ;`
abbrev pub skipped : Tokens
skipped after = word (codes "skip") >> sign mark.Semicolon >> after

-- `split [ a ] ;` or `assert [ a ] ;`
abbrev pub said : List ℕ → Bracketed → Tokens
said bytes b after = word bytes >> bracketed_tokens b >> sign mark.Semicolon >> after

-- `free x ;`
abbrev pub freed : Name → Tokens
freed x after = word (codes "free") >> name_tokens x >> sign mark.Semicolon >> after

-- `p = v ;`
abbrev pub assigned : Path → Value → Tokens
assigned p v after = path_tokens p >> sign mark.Equals >> value_tokens v >> sign mark.Semicolon >> after

abbrev pub statements_tokens : List Statement → Tokens
statements_tokens statements = each statement_tokens statements

-- `{ .. }`
abbrev pub braced : List Statement → Tokens
braced statements after = sign mark.LeftBrace >> statements_tokens statements >> sign mark.RightBrace >> after

-- `call r , s = p (`
abbrev pub call_head : Call → Tokens
call_head c after = word (codes "call") >> call_result_tokens c.results >> name_tokens c.callee >> sign mark.LeftParen >> after

-- `x , null ; S )`
abbrev pub call_arguments : Call → Tokens
call_arguments c after =
    separated mark.Comma argument_tokens c.arguments >> logic_argument_tokens c.logics >> sign mark.RightParen >> after

-- ---- declarations

-- `[ R ]`
abbrev pub route_in_brackets : Route → Tokens
route_in_brackets r after = sign mark.LeftBracket >> route_tokens r 0 >> sign mark.RightBracket >> after

-- `( .. )` of a predicate
abbrev pub predicate_list : List PredicateParameter → Tokens
predicate_list parameters after =
    sign mark.LeftParen >> separated mark.Comma predicate_parameter_tokens parameters >> sign mark.RightParen >> after

-- `pred p ( .. )`
abbrev pub predicate_head : PredicateDeclaration → Tokens
predicate_head p after = word (codes "pred") >> name_tokens p.name >> predicate_list p.parameters >> after

-- `proc p ( .. ) returns ( .. ) logic ..`
abbrev pub signature_tokens : Procedure → Tokens
signature_tokens p after =
    word (codes "proc") >> name_tokens p.name >> parameters_tokens p.parameters >> results_tokens p.results >> logics_tokens p.logics >> after

-- `{ .. }` of a procedure
abbrev pub body_tokens : Procedure → Tokens
body_tokens p after =
    sign mark.LeftBrace >> each local_tokens p.locals >> statements_tokens p.body >> sign mark.RightBrace >> after
