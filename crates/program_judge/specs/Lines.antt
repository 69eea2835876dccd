-- The lines that are written of a program that is checked. Each ends with LF.
use Rattle.std.specs.Prelude.{ℕ, List, [], ◌++◌, codes}
use Rattle.std.specs.Option.{option_map_or}
use Rattle.std.specs.Fmt.{decimal}
use Rattle.store_core.specs.declared.ids.TypeId.{TypeId}
use Rattle.store_core.specs.declared.ids.FieldId.{FieldId}
use Rattle.store_core.specs.declared.ids.CellId.{CellId}
use Rattle.store_core.specs.Tables.{TypeEntry, type_at}
use Rattle.store_exec.specs.declared.cause.Cause.{Cause}
use Rattle.store_words.specs.Words.{word_of_cause, field_name}

-- ---- fields

abbrev pub type_name : List TypeEntry → TypeId → List ℕ
type_name types ty = option_map_or (λ (t : TypeEntry). t.name) (type_at types ty) []

-- `field T.f`
abbrev pub field_head : List TypeEntry → FieldId → List ℕ
field_head types f = codes "field " ++ type_name types f.ty ++ codes "." ++ field_name types f

abbrev pub ambiguous_line : List TypeEntry → FieldId → CellId → List ℕ
ambiguous_line types f c = field_head types f ++ codes " ambiguous at " ++ decimal c.0 ++ codes "\n"

abbrev pub field_limit_line : List TypeEntry → FieldId → List ℕ
field_limit_line types f = field_head types f ++ codes " limit\n"

abbrev pub stopped_line : List ℕ
stopped_line = codes "stopped at fields\n"

-- ---- triples

-- `triple K PROC line L`
abbrev pub triple_head : ℕ → List ℕ → ℕ → List ℕ
triple_head k name line = codes "triple " ++ decimal k ++ codes " " ++ name ++ codes " line " ++ decimal line

abbrev pub valid_line : ℕ → List ℕ → ℕ → List ℕ
valid_line k name line = triple_head k name line ++ codes " valid\n"

abbrev pub limit_line : ℕ → List ℕ → ℕ → List ℕ
limit_line k name line = triple_head k name line ++ codes " limit\n"

abbrev pub invalid_line : ℕ → List ℕ → ℕ → Cause → ℕ → List ℕ
invalid_line k name line why at =
    triple_head k name line ++ codes " invalid " ++ word_of_cause why ++ codes " line " ++ decimal at ++ codes "\n"

-- so many triples, of which these are valid, these are invalid and these met the limit
abbrev pub totals_line : ℕ → ℕ → ℕ → ℕ → List ℕ
totals_line triples valid invalid limit =
    codes "triples " ++ decimal triples ++ codes " valid " ++ decimal valid ++ codes " invalid " ++ decimal invalid
    ++ codes " limit " ++ decimal limit ++ codes "\n"
