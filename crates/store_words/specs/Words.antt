-- The words for causes, and the names of fields.
use Rattle.std.specs.Prelude.{ℕ, List, [], codes}
use Rattle.std.specs.Option.{option_map_or}
use Rattle.store_core.specs.declared.ids.FieldId.{FieldId}
use Rattle.store_core.specs.Tables.{TypeEntry, field_at}
use Rattle.store_exec.specs.declared.cause.Cause.{Cause}
use Rattle.store_exec.specs.declared.cause.Cause.TheVariants as cause

-- the word that is printed for a cause
abbrev pub word_of_cause : Cause → List ℕ
word_of_cause cause.Null = codes "null"
word_of_cause cause.Dangling = codes "dangling"
word_of_cause cause.DoubleFree = codes "double-free"
word_of_cause cause.DanglingRef = codes "dangling-ref"
word_of_cause cause.Shared = codes "shared"
word_of_cause cause.Leak = codes "leak"
word_of_cause cause.Field = codes "field"
word_of_cause cause.Escape = codes "escape"
word_of_cause cause.Post = codes "post"
word_of_cause cause.Assert = codes "assert"
word_of_cause cause.Variant = codes "variant"

-- the name of a field; nothing for an unknown one
abbrev pub field_name : List TypeEntry → FieldId → List ℕ
field_name types f = option_map_or (λ e. e.name) (field_at types f) []
