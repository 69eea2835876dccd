-- The words of assertions. Each operator but `&`, `|` and `<=>` has a place, and so has a quantifier's keyword.
use Rattle.std.specs.Prelude.{Bool, true, false, codes}
use Rattle.pale_text.specs.declared.place.Pos.{Pos}
use Rattle.pale_text.specs.declared.token.Mark.TheVariants as mark
use Rattle.pale_syntax.specs.declared.tree.assertion.Assertion.{Assertion}
use Rattle.pale_syntax.specs.declared.tree.assertion.Assertion.TheOpen.{Assertion-F}
use Rattle.pale_syntax.specs.declared.tree.assertion.Assertion.TheFolds.{fold-Assertion}
use Rattle.pale_syntax.specs.declared.tree.assertion.Bracketed.{Bracketed}
use Rattle.pale_syntax.specs.declared.tree.assertion.Quantifier.{Quantifier}
use Rattle.pale_syntax.specs.declared.tree.assertion.QuantifierKind.{QuantifierKind}
use Rattle.pale_syntax.specs.declared.tree.assertion.QuantifierKind.TheVariants as quantifier
use Rattle.pale_print_laws.specs.Words.{Words, ◌>>◌, nothing, sign, sign_at, word_of, word_at, each_behind, separated}
use Rattle.pale_print_laws.specs.Words.{name_words, path_words, term_words}
use Rattle.pale_print_laws.specs.RouteWords.{route_words}

abbrev pub quantifier_word : QuantifierKind → Pos → Words
quantifier_word quantifier.Ex = word_at (codes "ex")
quantifier_word quantifier.All = word_at (codes "all")

abbrev pub set_word : Bool → Words
set_word true = word_of (codes "set")
set_word false = nothing

-- `ex set S , U : T :`
abbrev pub quantifier_words : Quantifier → Words
quantifier_words q after =
    quantifier_word q.kind q.place >> set_word q.of_sets >> separated mark.Comma name_words q.names >> sign mark.Colon >> name_words q.ty >>
    sign mark.Colon >> after

abbrev pub assertion_node : Assertion-F Words → Words
assertion_node Assertion-F.True after = word_of (codes "true") >> after
assertion_node Assertion-F.False after = word_of (codes "false") >> after
assertion_node (Assertion-F.Truth p) after = path_words p >> after
assertion_node (Assertion-F.Same t place u) after = term_words t >> sign_at mark.Equals place >> term_words u >> after
assertion_node (Assertion-F.Differ t place u) after = term_words t >> sign_at mark.NotEqual place >> term_words u >> after
assertion_node (Assertion-F.Member t place set) after = term_words t >> word_at (codes "in") place >> name_words set >> after
assertion_node (Assertion-F.Subset t place set) after = term_words t >> word_at (codes "sub") place >> name_words set >> after
assertion_node (Assertion-F.Walk t place r u) after =
    term_words t >> sign_at mark.Less place >> route_words r >> sign mark.Greater >> term_words u >> after
assertion_node (Assertion-F.Is t place variant) after = term_words t >> sign_at mark.Colon place >> name_words variant >> after
assertion_node (Assertion-F.Use predicate arguments) after = name_words predicate >> separated mark.Comma path_words arguments >> after
assertion_node (Assertion-F.Not place inner) after = sign_at mark.Tilde place >> inner >> after
assertion_node (Assertion-F.And first others) after = first >> each_behind mark.Ampersand (λ other. other) others >> after
assertion_node (Assertion-F.Or first others) after = first >> each_behind mark.Bar (λ other. other) others >> after
assertion_node (Assertion-F.Imp left place right) after = left >> sign_at mark.Implies place >> right >> after
assertion_node (Assertion-F.Iff first others) after = first >> each_behind mark.Equivalent (λ other. other) others >> after
assertion_node (Assertion-F.Quantified q inner) after = quantifier_words q >> inner >> after

unfoldable pub assertion_words : Assertion → Words
assertion_words = fold-Assertion Words assertion_node

-- `[ a ]`
abbrev pub bracketed_words : Bracketed → Words
bracketed_words b after = sign_at mark.LeftBracket b.place >> assertion_words b.assertion >> sign mark.RightBracket >> after
