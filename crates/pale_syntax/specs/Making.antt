-- The tree of a text by what happens in its reading: what each act makes of the parts made before it.
use Rattle.std.specs.Prelude.{List, Option}
use Rattle.ll1_reader.specs.declared.symbol.Event.{Event}
use Rattle.pale_syntax.specs.declared.grammar.act.Act.{Act}
use Rattle.pale_syntax.specs.declared.grammar.act.Act.TheVariants as made
use Rattle.pale_text.specs.declared.token.Token.{Token}
use Rattle.pale_text.specs.Making as text
use Rattle.pale_syntax.specs.declared.tree.declaration.Program.{Program}
use Rattle.pale_syntax.specs.MakingParts.{Parts, Near, nothing}
use Rattle.pale_syntax.specs.MakingWords.{after_word}
use Rattle.pale_syntax.specs.MakingRoutes.{after_route}
use Rattle.pale_syntax.specs.MakingConditions.{after_condition}
use Rattle.pale_syntax.specs.MakingAssertions.{after_atom, after_connective}
use Rattle.pale_syntax.specs.MakingStatements.{after_statement, after_call}
use Rattle.pale_syntax.specs.MakingDeclarations.{after_type, after_predicate, after_procedure}

-- the parts after an act
abbrev pub after : Act → Near → Parts → Parts
after (made.Word act) near parts = after_word act near parts
after (made.Route act) near parts = after_route act near parts
after (made.Condition act) near parts = after_condition act near parts
after (made.Atom act) near parts = after_atom act near parts
after (made.Connective act) near parts = after_connective act near parts
after (made.Statement act) near parts = after_statement act near parts
after (made.Call act) near parts = after_call act near parts
after (made.«Type» act) near parts = after_type act near parts
after (made.Predicate act) near parts = after_predicate act near parts
after (made.Procedure act) near parts = after_procedure act near parts

-- the parts after these events, where `last` was read last and the tokens `left` are still to be read
abbrev pub run : List (Event Act) → Option Token → List Token → Parts → Parts
run = text.run after

-- the program of all declarations that are whole
abbrev pub program_in : Parts → Program
program_in parts = record { declarations = parts.declarations }

-- the program that a text is by its tokens and what happens in their reading
abbrev pub program_of : List Token → List (Event Act) → Program
program_of = text.tree_by after nothing program_in
