-- What is handed over and returned at calls: whole trees. (Møller and Schwartzbach, PLDI 2001, "procedure calls".)
use Rattle.std.specs.Prelude.{ℕ, suc, Bool, true, false, List, [], ◌∷◌, flat_map, ◌==◌, if◌then◌else◌}
use Rattle.std.specs.Option.{option_map_or}
use Rattle.std.specs.List.{list_any}
use Rattle.store_core.specs.declared.ids.VarId.{VarId}
use Rattle.store_core.specs.declared.kind.VarKind.{VarKind}
use Rattle.store_core.specs.declared.kind.VarKind.TheVariants as var
use Rattle.store_core.specs.Tables.{TypeEntry, VarEntry, var_at}
use Rattle.ws2s_core.specs.declared.formula.Formula.{Formula}
use Rattle.ws2s_core.specs.declared.formula.Formula.TheVariants.{Sub, And, Not}
use Rattle.ws2s_forms.specs.Forms.{track, or_list, imp, ex1, all2}
use Rattle.tree_formula.specs.WellEncoded.{vars_in}
use Rattle.graph_view.specs.declared.view.Sym.{Sym}
use Rattle.graph_view.specs.Syms.{is_in}
use Rattle.graph_view.specs.Sights.{Sight}
use Rattle.graph_view.specs.Cuts.{closes}
use Rattle.site_list.specs.States.{Text, value_of}

-- the track has what data fields reach from the roots: it is the least set that holds these and that no data field leaves
abbrev pub is_part : List TypeEntry → Sight → List Sym → ℕ → Text
is_part types sight roots p next =
    And (closes types sight roots next p) (all2 next (imp (closes types sight roots (suc next) next) (Sub (track p) (track next))))

-- ---- pointers into the part

abbrev pub is_pointer : VarKind → Bool
is_pointer (var.Pointer target) = true
is_pointer _ = false

abbrev pub is_var : VarId → VarId → Bool
is_var v w = v.0 == w.0

-- the pointer variable names a cell on the wrong side: outside the part where it is listed, and else inside
abbrev pub is_astray : List VarId → List Sym → ℕ → ℕ → VarId → Formula
is_astray inside values p next v =
    ex1 next (And (is_in (suc next) next (value_of values v))
    (if list_any (is_var v) inside then Not (Sub (track next) (track p)) else Sub (track next) (track p)))

-- the same of each pointer variable
abbrev pub astray_of : List VarEntry → List VarId → List Sym → ℕ → ℕ → VarId → List Formula
astray_of vars inside values p next v =
    option_map_or (λ entry. if is_pointer entry.kind then is_astray inside values p next v ∷ [] else []) (var_at vars v) []

-- some pointer variable names a cell on the wrong side
abbrev pub escapes : List VarEntry → List VarId → List Sym → ℕ → Text
escapes vars inside values p next = or_list next (flat_map (astray_of vars inside values p next) (vars_in vars))
