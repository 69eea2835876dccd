use Rattle.std.proofs.Common.{List, [], ap, ◌∙◌}
use Rattle.std.specs.Prelude.{codes}
use Rattle.pale_text.specs.declared.token.Mark.TheVariants as mark
use Rattle.pale_syntax.specs.declared.tree.condition.Condition.{roll-Condition}
use Rattle.pale_syntax.specs.declared.tree.condition.Condition.TheOpen.{Condition-F}
use Rattle.pale_syntax.specs.declared.tree.names.Term.TheVariants as term
use Rattle.pale_syntax.specs.declared.tree.statement.Statement.{roll-Statement}
use Rattle.pale_syntax.specs.declared.tree.statement.Statement.TheOpen.{Statement-F}
use Rattle.pale_syntax.specs.declared.tree.statement.Value.{Value}
use Rattle.pale_syntax.specs.declared.tree.statement.Value.TheVariants as value
use denote.Hole.Carrier.{roll}
use Rattle.pale_print_laws.specs.Words.{Word, Words, ◌>>◌, word_at, sign, sign_at, name_words}
use Rattle.pale_print_laws.specs.StatementWords.{assigns}
use Rattle.pale_print_laws.specs.DeclarationWords.{program_words}
use Rattle.pale_print_laws.specs.Example.{at, name_at, path_at, comparison}
use Rattle.pale_print_laws.proofs.ConditionForms.{words_at as condition_at}
use Rattle.pale_print_laws.proofs.StatementForms.{words_at as statement_at}
use Rattle.pale_print_laws.proofs.place_laws.words_of_an_example.Goals as goal

-- the words of the procedure, where these are its statement's
abbrev around : Words → List Word
around words =
    word_at (codes "proc") (at 1 1) >> name_words (name_at (codes "p") (at 1 6)) >> sign mark.LeftBrace >> words >> sign_at mark.RightBrace (at 3 1) >> []

abbrev assigned : Value
assigned = value.Condition (at 2 7) comparison

-- the words of the statement, where these are its condition's
abbrev assigning : Words → Words
assigning words after = name_words (name_at (codes "x") (at 2 3)) >> assigns (at 2 5) assigned >> words >> sign mark.Semicolon >> after

pub returns : goal.returns
unfolding program_words roll-Statement roll-Condition roll
returns c =
    ap around (statement_at (Statement-F.Assign (path_at (codes "x") (at 2 3)) (at 2 5) assigned)) ∙
    ap (λ (words : Words). around (assigning words))
    (condition_at (Condition-F.Same (term.Path (path_at (codes "y") (at 2 8))) (at 2 10) (term.Null (at 2 13))))
