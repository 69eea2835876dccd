-- The tokens of conditions of code, in parentheses exactly where their place asks for a tighter construct.
use Rattle.std.specs.Prelude.{nat_lt, codes}
use Rattle.pale_text.specs.declared.token.Mark.TheVariants as mark
use Rattle.pale_syntax.specs.declared.tree.condition.Condition.{Condition}
use Rattle.pale_syntax.specs.declared.tree.condition.Condition.TheOpen.{Condition-F}
use Rattle.pale_syntax.specs.declared.tree.condition.Condition.TheFolds.{fold-Condition}
use Rattle.pale_print.specs.Tokens.{◌>>◌, sign, word, name_tokens, term_tokens}
use Rattle.pale_print.specs.RouteTokens.{Placed, grouped, chained}

-- `||` binds 0, `&&` 1, all others 2
abbrev pub condition_node : Condition-F Placed → Placed
condition_node (Condition-F.True place) asked after = word (codes "true") >> after
condition_node (Condition-F.False place) asked after = word (codes "false") >> after
condition_node (Condition-F.Truth t) asked after = term_tokens t >> after
condition_node (Condition-F.Same t place u) asked after = term_tokens t >> sign mark.SameAs >> term_tokens u >> after
condition_node (Condition-F.Differ t place u) asked after = term_tokens t >> sign mark.NotSame >> term_tokens u >> after
condition_node (Condition-F.Is t place variant) asked after = term_tokens t >> sign mark.Colon >> name_tokens variant >> after
condition_node (Condition-F.Not place inner) asked after = sign mark.Bang >> inner 2 >> after
condition_node (Condition-F.And first others) asked after = grouped (nat_lt 1 asked) (chained mark.AndAlso 2 first others) >> after
condition_node (Condition-F.Or first others) asked after = grouped (nat_lt 0 asked) (chained mark.OrElse 1 first others) >> after

unfoldable pub condition_tokens : Condition → Placed
condition_tokens = fold-Condition Placed condition_node
