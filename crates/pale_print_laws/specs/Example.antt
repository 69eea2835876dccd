-- The words of a small program, written out.
--
--     proc p() {
--       x = (y == null);
--     }
use Rattle.std.specs.Prelude.{ℕ, List, [], ◌∷◌, None, Some, codes}
use Rattle.pale_text.specs.declared.place.Pos.{Pos}
use Rattle.pale_text.specs.declared.token.Mark.TheVariants as mark
use Rattle.pale_text.specs.declared.token.TokenKind.TheVariants as kind
use Rattle.pale_syntax.specs.declared.tree.condition.Condition.{Condition}
use Rattle.pale_syntax.specs.declared.tree.condition.Condition.TheVariants as condition
use Rattle.pale_syntax.specs.declared.tree.declaration.Declaration.TheVariants as declaration
use Rattle.pale_syntax.specs.declared.tree.declaration.Program.{Program}
use Rattle.pale_syntax.specs.declared.tree.names.Name.{Name}
use Rattle.pale_syntax.specs.declared.tree.names.Path.{Path}
use Rattle.pale_syntax.specs.declared.tree.names.Term.TheVariants as term
use Rattle.pale_syntax.specs.declared.tree.statement.Statement.{Statement}
use Rattle.pale_syntax.specs.declared.tree.statement.Statement.TheVariants as statement
use Rattle.pale_syntax.specs.declared.tree.statement.Value.TheVariants as value
use Rattle.pale_print_laws.specs.Words.{Word}

abbrev pub at : ℕ → ℕ → Pos
at line column = record { line = line; column = column }

abbrev pub name_at : List ℕ → Pos → Name
name_at bytes place = record { bytes = bytes; place = place }

abbrev pub path_at : List ℕ → Pos → Path
path_at bytes place = record { base = name_at bytes place; fields = [] }

-- `y == null`
abbrev pub comparison : Condition
comparison = condition.Same (term.Path (path_at (codes "y") (at 2 8))) (at 2 10) (term.Null (at 2 13))

-- `x = (y == null);`, whose value begins at the parenthesis
abbrev pub assignment : Statement
assignment = statement.Assign (path_at (codes "x") (at 2 3)) (at 2 5) (value.Condition (at 2 7) comparison)

abbrev pub example : Program
example =
    record {
      declarations =
          declaration.Procedure (record {
            place = at 1 1;
            name = name_at (codes "p") (at 1 6);
            parameters = [];
            results = [];
            logics = [];
            pre = None;
            post = None;
            locals = [];
            body = assignment ∷ [];
            end = at 3 1;
          })
          ∷ [];
    }

abbrev pub example_words : List Word
example_words =
    record { kind = kind.Name (codes "proc"); place = Some (at 1 1); next = None } ∷
    record { kind = kind.Name (codes "p"); place = Some (at 1 6); next = None } ∷
    record { kind = kind.Mark mark.LeftBrace; place = None; next = None } ∷
    record { kind = kind.Name (codes "x"); place = Some (at 2 3); next = None } ∷
    record { kind = kind.Mark mark.Equals; place = Some (at 2 5); next = Some (at 2 7) } ∷
    record { kind = kind.Name (codes "y"); place = Some (at 2 8); next = None } ∷
    record { kind = kind.Mark mark.SameAs; place = Some (at 2 10); next = None } ∷
    record { kind = kind.Name (codes "null"); place = Some (at 2 13); next = None } ∷
    record { kind = kind.Mark mark.Semicolon; place = None; next = None } ∷
    record { kind = kind.Mark mark.RightBrace; place = Some (at 3 1); next = None } ∷ []
