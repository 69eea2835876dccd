-- The words of statements by their forms.
use Rattle.std.proofs.Common.{◌≡◌, List, map, sym, subst}
use Rattle.pale_text.specs.declared.token.Token.{Token}
use Rattle.pale_syntax.specs.declared.grammar.part.ProgramPart.TheVariants as part
use Rattle.pale_syntax.specs.declared.tree.statement.Statement.{Statement, roll-Statement}
use Rattle.pale_syntax.specs.declared.tree.statement.Statement.TheOpen.{Statement-F}
use Rattle.pale_syntax.specs.declared.tree.statement.Statement.TheFolds.{fold-roll-Statement, map-Statement}
use Rattle.pale_print_laws.specs.Words.{Words, each}
use Rattle.pale_print_laws.specs.StatementWords.{statement_node, statement_words}
use Rattle.pale_print_laws.proofs.Meaning.{FromTo}
use Rattle.pale_print_laws.proofs.PlaceFramework.{AreMade, no_more, one_more}

pub words_at : (x : Statement-F Statement) → statement_words (roll-Statement x) ≡ statement_node (map-Statement Statement Words statement_words x)
unfolding statement_words
words_at x = fold-roll-Statement Words statement_node x

-- a form of the words that it has
pub statement_made : (x : Statement-F Statement) {start end : List Token} →
    FromTo (statement_node (map-Statement Statement Words statement_words x)) start end → FromTo (statement_words (roll-Statement x)) start end
statement_made x {start} {end} made = subst (λ (w : Words). FromTo w start end) (sym (words_at x)) made

-- the words of each statement of a block are those of all
pub statements_words : {xs : List Statement} {start end : List Token} → AreMade part.Statement xs start end →
    FromTo (each (λ (one : Words). one) (map statement_words xs)) start end
statements_words (no_more start) = record { along = λ after e. e }
statements_words (one_more x xs start middle end one others) =
    record { along = λ after e. one.along (each (λ (w : Words). w) (map statement_words xs) after) ((statements_words others).along after e) }
