-- The formula of an assertion on a region, which the trees of the stores that satisfy it there satisfy. (Møller and Schwartzbach, PLDI 2001.)
use Rattle.std.specs.Prelude.{suc, Bool, true, false, List, [], map, None, Some}
use Rattle.store_core.specs.declared.ids.VarId.{VarId}
use Rattle.store_core.specs.Tables.{TypeEntry, VarEntry}
use Rattle.store_logic.specs.declared.region.Region.{Region}
use Rattle.store_logic.specs.declared.region.Region.TheVariants as region
use Rattle.store_logic.specs.declared.assertion.Assertion.{Assertion}
use Rattle.ws2s_core.specs.declared.formula.Formula.{Formula}
use Rattle.ws2s_core.specs.declared.formula.Formula.TheVariants.{And, Ex2}
use Rattle.ws2s_forms.specs.Forms.{track}
use Rattle.tree_encode.specs.Tracks.{track_count}
use Rattle.graph_view.specs.Sights.{Sight, var_slots}
use Rattle.graph_meaning.specs.Fields.Beginning.{own_tracks}
use Rattle.site_list.specs.States.{value_of}
use Rattle.site_list.specs.Claims.{assertion}
use Rattle.site_list.specs.Parts.{is_part}

-- all cells of the store as it is
abbrev pub all_cells : List VarEntry → Sight
all_cells vars = record { slots = var_slots vars; events = []; region = None }

-- its cells on the track behind those of the layout, or the rest of them
abbrev pub cells_on : List TypeEntry → List VarEntry → Bool → Sight
cells_on types vars inside = record { slots = var_slots vars; events = []; region = Some (track (track_count types vars), inside) }

-- the assertion on all cells
abbrev pub on_all : List TypeEntry → List VarEntry → Assertion → Formula
on_all types vars a = assertion types (all_cells vars) (own_tracks types vars) a (track_count types vars)

-- the assertion on the part of these data variables, or on the rest: the part is on the track behind those of the layout
abbrev pub on_part : List TypeEntry → List VarEntry → List VarId → Bool → Assertion → Formula
on_part types vars roots inside a = Ex2 (track (track_count types vars))
    (And (is_part types (all_cells vars) (map (value_of (own_tracks types vars)) roots) (track_count types vars) (suc (track_count types vars)))
    (assertion types (cells_on types vars inside) (own_tracks types vars) a (suc (track_count types vars))))

-- the assertion on the region
abbrev pub formula_on : List TypeEntry → List VarEntry → Region → Assertion → Formula
formula_on types vars region.All a = on_all types vars a
formula_on types vars (region.Part roots) a = on_part types vars roots true a
formula_on types vars (region.Rest roots) a = on_part types vars roots false a
