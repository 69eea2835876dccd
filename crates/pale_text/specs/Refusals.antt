-- Refusals at a place, and the words in which they are printed.
use Rattle.std.specs.Prelude.{ℕ, List, codes}
use Rattle.pale_text.specs.declared.place.Pos.{Pos}
use Rattle.pale_text.specs.declared.refusal.Refusal.{Refusal}
use Rattle.pale_text.specs.declared.refusal.RefusalKind.{RefusalKind}
use Rattle.pale_text.specs.declared.refusal.RefusalKind.TheVariants as kind

-- the refusal of what stands at this place
abbrev pub refused_at : Pos → RefusalKind → Refusal
refused_at place kind = record { line = place.line; column = place.column; kind = kind }

-- the word that is printed for a kind of refusal
abbrev pub word_of : RefusalKind → List ℕ
word_of kind.Char = codes "char"
word_of kind.Syntax = codes "syntax"
word_of kind.Deep = codes "deep"
word_of kind.Duplicate = codes "duplicate"
word_of kind.Unknown = codes "unknown"
word_of kind.Kind = codes "kind"
word_of kind.Type = codes "type"
word_of kind.Arity = codes "arity"
word_of kind.ManyTypes = codes "many-types"
word_of kind.ManyFields = codes "many-fields"
word_of kind.ManyVars = codes "many-vars"
word_of kind.LongPart = codes "long-part"
word_of kind.ManyNew = codes "many-new"
word_of kind.BigFormula = codes "big-formula"
word_of kind.ManyVariants = codes "many-variants"
word_of kind.BigRoute = codes "big-route"
word_of kind.LongPath = codes "long-path"
