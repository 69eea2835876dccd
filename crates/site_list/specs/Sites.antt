-- The places where a triple can fail, in the order in which its code reaches them. (Møller and Schwartzbach, PLDI 2001; the causes and
-- their order are this project's.)
use Rattle.std.specs.Prelude.{ℕ, List, [], ◌∷◌, ◌++◌, map, flat_map, slice_get}
use Rattle.std.specs.Option.{option_map_or}
use Rattle.store_core.specs.declared.ids.VariantId.{VariantId}
use Rattle.store_core.specs.declared.ids.FieldId.{FieldId}
use Rattle.store_core.specs.declared.ids.VarId.{VarId}
use Rattle.store_core.specs.Tables.{TypeEntry}
use Rattle.store_logic.specs.declared.path.Operand.{Operand}
use Rattle.store_logic.specs.declared.path.Operand.TheVariants as operand
use Rattle.store_logic.specs.declared.cond.Cond.{Cond}
use Rattle.store_logic.specs.declared.cond.Cond.TheOpen.{Cond-F}
use Rattle.store_logic.specs.declared.cond.Cond.TheFolds.{fold-Cond}
use Rattle.store_logic.specs.declared.act.Rhs.{Rhs}
use Rattle.store_logic.specs.declared.act.Rhs.TheVariants as rhs
use Rattle.store_logic.specs.declared.act.Act.{Act}
use Rattle.store_logic.specs.declared.act.Act.TheVariants as act
use Rattle.store_exec.specs.declared.cause.Cause.{Cause}
use Rattle.store_exec.specs.declared.cause.Cause.TheVariants as cause
use Rattle.store_exec.specs.declared.code.Item.{Item}
use Rattle.store_exec.specs.declared.code.Item.TheOpen.{Item-F}
use Rattle.store_exec.specs.declared.code.Item.TheFolds.{fold-Item}
use Rattle.store_exec.specs.declared.code.Tail.TheOpen.{Tail-F, Code-F}
use Rattle.store_exec.specs.declared.code.Tail.TheFolds.{fold-Code}
use Rattle.store_exec.specs.declared.code.Code.{Code}
use Rattle.store_exec.specs.declared.triple.Cut.{Cut}
use Rattle.store_exec.specs.declared.triple.Triple.{Triple}
use Rattle.tree_formula.specs.WellEncoded.{owner}
use Rattle.site_list.specs.declared.site.Site.{Site}

abbrev pub site_at : ℕ → Cause → Site
site_at line why = record { cause = why; line = line }

-- ---- reading and writing of fields

-- a cell is looked at: it is null, or dead
abbrev pub cell_causes : List Cause
cell_causes = cause.Null ∷ cause.Dangling ∷ []

-- its field is read or written: where the field isn't common, the cell hasn't it
abbrev pub field_causes : List TypeEntry → FieldId → List Cause
field_causes types f = cell_causes ++ option_map_or (λ (v : VariantId). cause.Variant ∷ []) (owner types f) []

-- fields are read one after the other
abbrev pub path_causes : List TypeEntry → List FieldId → List Cause
path_causes types fields = flat_map (field_causes types) fields

abbrev pub operand_causes : List TypeEntry → Operand → List Cause
operand_causes types operand.Null = []
operand_causes types (operand.Path p) = path_causes types p.fields

-- ---- conditions, from the left

abbrev pub cond_causes_rule : List TypeEntry → Cond-F (List Cause) → List Cause
cond_causes_rule types Cond-F.True = []
cond_causes_rule types Cond-F.False = []
cond_causes_rule types (Cond-F.Bool p) = path_causes types p.fields
cond_causes_rule types (Cond-F.Is p v) = path_causes types p.fields ++ cell_causes
cond_causes_rule types (Cond-F.Same p q) = operand_causes types p ++ operand_causes types q
cond_causes_rule types (Cond-F.Not c) = c
cond_causes_rule types (Cond-F.And c d) = c ++ d
cond_causes_rule types (Cond-F.Or c d) = c ++ d

abbrev pub cond_causes : List TypeEntry → Cond → List Cause
cond_causes types = fold-Cond (List Cause) (cond_causes_rule types)

-- ---- acts

abbrev pub rhs_causes : List TypeEntry → Rhs → List Cause
rhs_causes types (rhs.Cell p) = operand_causes types p
rhs_causes types (rhs.New v) = []
rhs_causes types (rhs.Truth c) = cond_causes types c

-- a place is written after what is assigned was evaluated, and the fields before its last one are read before that
abbrev pub place_causes : List TypeEntry → FieldId → List FieldId → List Cause → List Cause
place_causes types f [] evaluated = evaluated ++ field_causes types f
place_causes types f (g ∷ fields) evaluated = field_causes types f ++ place_causes types g fields evaluated

abbrev pub assign_causes : List TypeEntry → List FieldId → List Cause → List Cause
assign_causes types [] evaluated = evaluated
assign_causes types (f ∷ fields) evaluated = place_causes types f fields evaluated

abbrev pub act_causes : List TypeEntry → Act → List Cause
act_causes types (act.Assign p x) = assign_causes types p.fields (rhs_causes types x)
act_causes types (act.Free v) = cause.Null ∷ cause.DoubleFree ∷ []
act_causes types (act.Assert a) = cause.Assert ∷ []

-- ---- cuts

abbrev pub escape_causes : List VarId → List Cause
escape_causes handed = cause.Escape ∷ []

-- a cut is arrived at; pointers are looked at where it has a handed part
abbrev pub cut_causes : Cut → List Cause
cut_causes cut =
    cause.DanglingRef ∷ cause.Shared ∷ cause.Leak ∷ cause.Field ∷ []
    ++ (option_map_or escape_causes cut.handed [] ++ cause.Post ∷ [])

abbrev pub cut_sites : Cut → List Site
cut_sites cut = map (site_at cut.line) (cut_causes cut)

-- ---- code

abbrev pub item_sites_rule : List TypeEntry → Item-F (List Site) → List Site
item_sites_rule types (Item-F.Do line a) = map (site_at line) (act_causes types a)
item_sites_rule types (Item-F.If line c taken other) =
    map (site_at line) (cond_causes types c) ++ (flat_map (λ sites. sites) taken ++ flat_map (λ sites. sites) other)

abbrev pub item_sites : List TypeEntry → Item → List Site
item_sites types = fold-Item (List Site) (item_sites_rule types)

abbrev pub items_sites : List TypeEntry → List Item → List Site
items_sites types items = flat_map (item_sites types) items

abbrev pub tail_sites_rule : List TypeEntry → List Cut → Tail-F (List Site) (List Site) → List Site
tail_sites_rule types cuts (Tail-F.Cut place) = option_map_or cut_sites (slice_get cuts place) []
tail_sites_rule types cuts (Tail-F.Branch line c taken other) = map (site_at line) (cond_causes types c) ++ (taken ++ other)

abbrev pub code_sites_rule : List TypeEntry → Code-F (List Site) (List Site) → List Site
code_sites_rule types x = items_sites types x.items ++ x.tail

-- the sites of a code of a triple with these cuts
abbrev pub code_sites : List TypeEntry → List Cut → Code → List Site
code_sites types cuts = fold-Code (List Site) (List Site) (tail_sites_rule types cuts) (code_sites_rule types)

-- every place where a cause can come, in order
abbrev pub sites_of : List TypeEntry → Triple → List Site
sites_of types t = code_sites types t.cuts t.code
