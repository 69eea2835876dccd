-- The tokens of routing expressions, in parentheses exactly where their place asks for a tighter construct.
use Rattle.std.specs.Prelude.{ℕ, nat_lt, Bool, true, false, List, codes}
use Rattle.pale_text.specs.declared.token.Mark.{Mark}
use Rattle.pale_text.specs.declared.token.Mark.TheVariants as mark
use Rattle.pale_text.specs.declared.place.Pos.{Pos}
use Rattle.pale_syntax.specs.declared.tree.route.Route.{Route}
use Rattle.pale_syntax.specs.declared.tree.route.Route.TheOpen.{Route-F}
use Rattle.pale_syntax.specs.declared.tree.route.Route.TheFolds.{fold-Route}
use Rattle.pale_print.specs.Tokens.{Tokens, ◌>>◌, sign, word, each, each_behind, name_tokens}

-- tokens at a place that asks how tightly they bind: `+` binds 0, `.` 1, `*` 2, a single step 3
abbrev pub Placed : Type 0
Placed = ℕ → Tokens

-- in parentheses, where they are needed
abbrev pub grouped : Bool → Tokens → Tokens
grouped true inner after = sign mark.LeftParen >> inner >> sign mark.RightParen >> after
grouped false inner after = inner >> after

-- the operands of a chain, each of which is asked so much
abbrev pub chained : Mark → ℕ → Placed → List Placed → Tokens
chained mark asked first others after = first asked >> each_behind mark (λ other. other asked) others >> after

-- as many stars as there are places
abbrev pub stars : List Pos → Tokens
stars places = each (λ place. sign mark.Star) places

-- `? f` or `! f`
abbrev pub bool_test : Bool → Tokens
bool_test true = sign mark.Question
bool_test false = sign mark.Bang

abbrev pub route_node : Route-F Placed → Placed
route_node (Route-F.Down f) asked after = name_tokens f >> after
route_node (Route-F.Up f) asked after = sign mark.Caret >> name_tokens f >> after
route_node Route-F.UpAny asked after = sign mark.Caret >> after
route_node Route-F.Root asked after = word (codes "root") >> after
route_node Route-F.Leaf asked after = sign mark.Dollar >> after
route_node (Route-F.IsType ty) asked after = sign mark.At >> name_tokens ty >> after
route_node (Route-F.IsVariant ty variant) asked after = sign mark.At >> name_tokens ty >> sign mark.Colon >> name_tokens variant >> after
route_node (Route-F.IsBool f value) asked after = bool_test value >> name_tokens f >> after
route_node (Route-F.Then first others) asked after = grouped (nat_lt 1 asked) (chained mark.Dot 2 first others) >> after
route_node (Route-F.Or first others) asked after = grouped (nat_lt 0 asked) (chained mark.Plus 1 first others) >> after
route_node (Route-F.Star inner places) asked after = grouped (nat_lt 2 asked) (λ then. inner 3 >> stars places >> then) >> after

unfoldable pub route_tokens : Route → Placed
route_tokens = fold-Route Placed route_node
