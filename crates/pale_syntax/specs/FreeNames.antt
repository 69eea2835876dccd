-- Names, and paths and terms of names, that are no reserved words: their spelling is read as they are.
use Rattle.std.specs.Prelude.{◌≡◌, List, [], ◌∷◌}
use Rattle.pale_syntax.specs.declared.grammar.kind.ProgramKind.TheVariants as kind
use Rattle.pale_syntax.specs.declared.tree.names.Name.{Name}
use Rattle.pale_syntax.specs.declared.tree.names.Path.{Path}
use Rattle.pale_syntax.specs.declared.tree.names.Term.{Term}
use Rattle.pale_syntax.specs.declared.tree.names.Term.TheVariants as term
use Rattle.pale_syntax.specs.ProgramWords.{name_kind}
use Rattle.pale_text.specs.Spelling.{IsName}

-- the name is one, and no reserved word
pub record IsFree (x : Name) : Type 0 where
  pub named : IsName x.bytes
  pub free : name_kind x.bytes ≡ kind.Name

abbrev pub AreFree : List Name → Type 0
AreFree [] = Unit {0}
AreFree (x ∷ xs) = IsFree x × AreFree xs

-- a path of such names
pub record IsFreePath (p : Path) : Type 0 where
  pub base : IsFree p.base
  pub fields : AreFree p.fields

abbrev pub AreFreePaths : List Path → Type 0
AreFreePaths [] = Unit {0}
AreFreePaths (p ∷ ps) = IsFreePath p × AreFreePaths ps

abbrev pub IsFreeTerm : Term → Type 0
IsFreeTerm (term.Null place) = Unit {0}
IsFreeTerm (term.Path p) = IsFreePath p
