-- The words of conditions of code. Each operator but `&&` and `||` has a place, and so have `true` and `false`.
use Rattle.std.specs.Prelude.{codes}
use Rattle.pale_text.specs.declared.token.Mark.TheVariants as mark
use Rattle.pale_syntax.specs.declared.tree.condition.Condition.{Condition}
use Rattle.pale_syntax.specs.declared.tree.condition.Condition.TheOpen.{Condition-F}
use Rattle.pale_syntax.specs.declared.tree.condition.Condition.TheFolds.{fold-Condition}
use Rattle.pale_print_laws.specs.Words.{Words, ◌>>◌, sign_at, word_at, each_behind, name_words, term_words}

abbrev pub condition_node : Condition-F Words → Words
condition_node (Condition-F.True place) after = word_at (codes "true") place >> after
condition_node (Condition-F.False place) after = word_at (codes "false") place >> after
condition_node (Condition-F.Truth t) after = term_words t >> after
condition_node (Condition-F.Same t place u) after = term_words t >> sign_at mark.SameAs place >> term_words u >> after
condition_node (Condition-F.Differ t place u) after = term_words t >> sign_at mark.NotSame place >> term_words u >> after
condition_node (Condition-F.Is t place variant) after = term_words t >> sign_at mark.Colon place >> name_words variant >> after
condition_node (Condition-F.Not place inner) after = sign_at mark.Bang place >> inner >> after
condition_node (Condition-F.And first others) after = first >> each_behind mark.AndAlso (λ other. other) others >> after
condition_node (Condition-F.Or first others) after = first >> each_behind mark.OrElse (λ other. other) others >> after

unfoldable pub condition_words : Condition → Words
condition_words = fold-Condition Words condition_node
