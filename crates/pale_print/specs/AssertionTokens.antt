-- The tokens of assertions. One that binds less than its place asks is in parentheses, and a quantifier exactly where an
-- operator follows it, which its body would take.
use Rattle.std.specs.Prelude.{ℕ, nat_lt, Bool, true, false, List, [], ◌∷◌, codes}
use Rattle.pale_text.specs.declared.token.Mark.{Mark}
use Rattle.pale_text.specs.declared.token.Mark.TheVariants as mark
use Rattle.pale_syntax.specs.declared.tree.assertion.Assertion.{Assertion}
use Rattle.pale_syntax.specs.declared.tree.assertion.Assertion.TheOpen.{Assertion-F}
use Rattle.pale_syntax.specs.declared.tree.assertion.Assertion.TheFolds.{fold-Assertion}
use Rattle.pale_syntax.specs.declared.tree.assertion.Bracketed.{Bracketed}
use Rattle.pale_syntax.specs.declared.tree.assertion.Quantifier.{Quantifier}
use Rattle.pale_syntax.specs.declared.tree.assertion.QuantifierKind.{QuantifierKind}
use Rattle.pale_syntax.specs.declared.tree.assertion.QuantifierKind.TheVariants as quantifier
use Rattle.pale_print.specs.Tokens.{Tokens, ◌>>◌, nothing, sign, word, separated, name_tokens, path_tokens, term_tokens}
use Rattle.pale_print.specs.RouteTokens.{route_tokens}

-- tokens before an operator, or not
abbrev pub Followed : Type 0
Followed = Bool → Tokens

-- tokens at a place that asks how tightly they bind: `<=>` binds 0, `=>` 1, `|` 2, `&` 3, all others 4
abbrev pub Operand : Type 0
Operand = ℕ → Followed

-- in parentheses, where they are needed; no operator follows inside
abbrev pub grouped : Bool → Followed → Followed
grouped true inner followed after = sign mark.LeftParen >> inner false >> sign mark.RightParen >> after
grouped false inner followed after = inner followed >> after

-- an operator follows the operand that stands before these others of a chain, where one follows the chain or not
abbrev pub is_followed : List Operand → Bool → Bool
is_followed [] followed = followed
is_followed (next ∷ others) followed = true

-- the operands of a chain but the first, each of which is asked so much, behind their operators
abbrev pub operands : Mark → ℕ → List Operand → Followed
operands mark asked [] followed after = after
operands mark asked (one ∷ others) followed after =
    sign mark >> one asked (is_followed others followed) >> operands mark asked others followed >> after

abbrev pub chained : Mark → ℕ → Operand → List Operand → Followed
chained mark asked first others followed after =
    first asked (is_followed others followed) >> operands mark asked others followed >> after

-- `a => b`
abbrev pub implied : Operand → Operand → Followed
implied left right followed after = left 2 true >> sign mark.Implies >> right 1 followed >> after

abbrev pub quantifier_word : QuantifierKind → Tokens
quantifier_word quantifier.Ex = word (codes "ex")
quantifier_word quantifier.All = word (codes "all")

abbrev pub set_word : Bool → Tokens
set_word true = word (codes "set")
set_word false = nothing

-- `ex set S , U : T : a`
abbrev pub quantified : Quantifier → Operand → Followed
quantified q inner followed after =
    quantifier_word q.kind >> set_word q.of_sets >> separated mark.Comma name_tokens q.names >> sign mark.Colon >> name_tokens q.ty >>
    sign mark.Colon >> inner 0 followed >> after

abbrev pub assertion_node : Assertion-F Operand → Operand
assertion_node Assertion-F.True asked followed after = word (codes "true") >> after
assertion_node Assertion-F.False asked followed after = word (codes "false") >> after
assertion_node (Assertion-F.Truth p) asked followed after = path_tokens p >> after
assertion_node (Assertion-F.Same t place u) asked followed after = term_tokens t >> sign mark.Equals >> term_tokens u >> after
assertion_node (Assertion-F.Differ t place u) asked followed after = term_tokens t >> sign mark.NotEqual >> term_tokens u >> after
assertion_node (Assertion-F.Member t place set) asked followed after = term_tokens t >> word (codes "in") >> name_tokens set >> after
assertion_node (Assertion-F.Subset t place set) asked followed after = term_tokens t >> word (codes "sub") >> name_tokens set >> after
assertion_node (Assertion-F.Walk t place r u) asked followed after =
    term_tokens t >> sign mark.Less >> route_tokens r 0 >> sign mark.Greater >> term_tokens u >> after
assertion_node (Assertion-F.Is t place variant) asked followed after = term_tokens t >> sign mark.Colon >> name_tokens variant >> after
assertion_node (Assertion-F.Use predicate arguments) asked followed after =
    name_tokens predicate >> sign mark.LeftParen >> separated mark.Comma path_tokens arguments >> sign mark.RightParen >> after
assertion_node (Assertion-F.Not place inner) asked followed after = sign mark.Tilde >> inner 4 followed >> after
assertion_node (Assertion-F.And first others) asked followed after =
    grouped (nat_lt 3 asked) (chained mark.Ampersand 4 first others) followed >> after
assertion_node (Assertion-F.Or first others) asked followed after =
    grouped (nat_lt 2 asked) (chained mark.Bar 3 first others) followed >> after
assertion_node (Assertion-F.Imp left place right) asked followed after = grouped (nat_lt 1 asked) (implied left right) followed >> after
assertion_node (Assertion-F.Iff first others) asked followed after =
    grouped (nat_lt 0 asked) (chained mark.Equivalent 1 first others) followed >> after
assertion_node (Assertion-F.Quantified q inner) asked followed after = grouped followed (quantified q inner) followed >> after

unfoldable pub assertion_tokens : Assertion → Operand
assertion_tokens = fold-Assertion Operand assertion_node

-- `[ a ]`
abbrev pub bracketed_tokens : Bracketed → Tokens
bracketed_tokens b after = sign mark.LeftBracket >> assertion_tokens b.assertion 0 false >> sign mark.RightBracket >> after
