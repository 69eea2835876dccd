-- The words of routing expressions. Each star has a place.
use Rattle.std.specs.Prelude.{Bool, true, false, codes}
use Rattle.pale_text.specs.declared.token.Mark.TheVariants as mark
use Rattle.pale_syntax.specs.declared.tree.route.Route.{Route}
use Rattle.pale_syntax.specs.declared.tree.route.Route.TheOpen.{Route-F}
use Rattle.pale_syntax.specs.declared.tree.route.Route.TheFolds.{fold-Route}
use Rattle.pale_print_laws.specs.Words.{Words, ◌>>◌, sign, sign_at, word_of, each, each_behind, name_words}

-- `? f` or `! f`
abbrev pub bool_test : Bool → Words
bool_test true = sign mark.Question
bool_test false = sign mark.Bang

abbrev pub route_node : Route-F Words → Words
route_node (Route-F.Down f) after = name_words f >> after
route_node (Route-F.Up f) after = sign mark.Caret >> name_words f >> after
route_node Route-F.UpAny after = sign mark.Caret >> after
route_node Route-F.Root after = word_of (codes "root") >> after
route_node Route-F.Leaf after = sign mark.Dollar >> after
route_node (Route-F.IsType ty) after = sign mark.At >> name_words ty >> after
route_node (Route-F.IsVariant ty variant) after = sign mark.At >> name_words ty >> sign mark.Colon >> name_words variant >> after
route_node (Route-F.IsBool f value) after = bool_test value >> name_words f >> after
route_node (Route-F.Then first others) after = first >> each_behind mark.Dot (λ other. other) others >> after
route_node (Route-F.Or first others) after = first >> each_behind mark.Plus (λ other. other) others >> after
route_node (Route-F.Star inner places) after = inner >> each (sign_at mark.Star) places >> after

unfoldable pub route_words : Route → Words
route_words = fold-Route Words route_node
