-- Where cells of a type may stand, told by field: each cell by its parent's field, one step by 1 after the other. (Klarlund and
-- Schwartzbach 1993: the well-formed labelings of a tree; the child number k of a cell r is at r 1^k 0. The chain of sets, one
-- for each step, is own.)
use Rattle.std.specs.Prelude.{ℕ, zero, suc, ◌==◌, ◌+◌, ◌-◌, nat_le, max, Bool, true, false, ◌&&◌, if◌then◌else◌}
use Rattle.std.specs.Prelude.{List, [], ◌∷◌, ◌++◌, flat_map, map, fold, Option, Some, None}
use Rattle.std.specs.Option.{option_map, option_map_or}
use Rattle.std.specs.List.{list_any}
use Rattle.ws2s_core.specs.declared.formula.Formula.{Formula}
use Rattle.ws2s_core.specs.declared.formula.Formula.TheVariants.{Sub, Succ0, Succ1, Root, And, Not, Ex2}
use Rattle.ws2s_forms.specs.Forms.{track, or_list, imp, ex1, all1, slot}
use Rattle.store_core.specs.declared.ids.TypeId.{TypeId}
use Rattle.store_core.specs.declared.ids.FieldId.{FieldId}
use Rattle.store_core.specs.declared.ids.VarId.{VarId}
use Rattle.store_core.specs.declared.kind.FieldKind.{FieldKind}
use Rattle.store_core.specs.declared.kind.FieldKind.TheVariants as field
use Rattle.store_core.specs.declared.kind.VarKind.{VarKind}
use Rattle.store_core.specs.declared.kind.VarKind.TheVariants as var
use Rattle.store_core.specs.declared.kind.Owner.{Owner}
use Rattle.store_core.specs.declared.kind.Owner.TheVariants as owner
use Rattle.store_core.specs.Tables.{TypeEntry, VarEntry, field_at, var_at, owner_of}
use Rattle.tree_encode.specs.Tracks.{slot_of_var, child_number}
use Rattle.tree_formula.specs.WellEncoded.{named, types_in, fields_in, vars_in, is_live, has, is_child}
use Rattle.tree_reached.specs.declared.ways.Way.{Way}

-- ---- ways to the cells of a type

-- so many steps by 1, and then one by 0, from a cell that has the field, or from the root
abbrev pub way : ℕ → Option FieldId → Way
way number holder = record { number = number; holder = holder }

-- to the slot of the variable, where it is a data variable of the type
abbrev pub way_to_slot : TypeId → VarKind → Option ℕ → List Way
way_to_slot ty (var.Data target) (Some i) = if target.0 == ty.0 then way i None ∷ [] else []
way_to_slot ty _ _ = []

-- to the child that the field leads to, where it is a data field with the type as target
abbrev pub way_to_child : TypeId → FieldId → FieldKind → Option ℕ → List Way
way_to_child ty f (field.Data target) (Some j) = if target.0 == ty.0 then way j (Some f) ∷ [] else []
way_to_child ty f _ _ = []

abbrev pub ways_of_var : List VarEntry → TypeId → VarId → List Way
ways_of_var vars ty v = option_map_or (λ e. way_to_slot ty e.kind (slot_of_var vars v)) (var_at vars v) []

abbrev pub ways_of_field : List TypeEntry → TypeId → FieldId → List Way
ways_of_field types ty f = option_map_or (λ e. way_to_child ty f e.kind (child_number types f)) (field_at types f) []

-- those of a type's fields
abbrev pub ways_from : List TypeEntry → TypeId → TypeId → List Way
ways_from types ty parent = flat_map (ways_of_field types ty) (fields_in types parent)

-- all ways to the cells of the type: to slots, and then to children
abbrev pub ways : List TypeEntry → List VarEntry → TypeId → List Way
ways types vars ty = flat_map (ways_of_var vars ty) (vars_in vars) ++ flat_map (ways_from types ty) (types_in types)

-- the greatest number of steps by 1
abbrev pub last_number : List Way → ℕ
last_number = fold (λ m (w : Way). max m w.number) 0

-- ---- the place at the end of a way

-- a is at the end of the way: the slot, or the child of a cell that has the field
abbrev pub place_of : ℕ → List TypeEntry → ℕ → Way → Formula
place_of next types a w = option_map_or (λ f. is_child next types a f w.number) w.holder (slot next w.number a)

-- each live cell of the type is at the end of one of the ways
abbrev pub are_at_ends : ℕ → List TypeEntry → TypeId → List Way → Formula
are_at_ends next types ty ways = all1 next (imp (is_live (suc next) types ty next) (or_list (suc next) (map (place_of (suc next) types next) ways)))

-- ---- step by step, back from the cells

-- r is where the way begins
abbrev pub begins : ℕ → List TypeEntry → ℕ → Option FieldId → Formula
begins next types r holder = option_map_or (λ f. has next types f r) holder (Root (track r))

-- the same of a way with k steps by 1
abbrev pub begins_after : ℕ → List TypeEntry → ℕ → ℕ → Way → List Formula
begins_after next types r k w = if w.number == k then begins next types r w.holder ∷ [] else []

-- a is looked at: it is in the set of the step before, or before all steps by 1 it is a live cell of the type
abbrev pub is_looked_at : ℕ → List TypeEntry → TypeId → Option ℕ → ℕ → Formula
is_looked_at next types ty from a = option_map_or (λ w. Sub (track a) (track w)) from (is_live next types ty a)

-- a is below r by the next step: by 1, or before all steps by 1 it is so by 0
abbrev pub is_below : Option ℕ → ℕ → ℕ → Formula
is_below from r a = option_map_or (λ w. Succ1 (track r) (track a)) from (Succ0 (track r) (track a))

-- r is in the set of this step
abbrev pub is_further : Option ℕ → ℕ → List Formula
is_further further r = option_map_or (λ w. Sub (track r) (track w) ∷ []) further []

-- r is in the set of this step, or where a way with k steps by 1 begins
abbrev pub comes : ℕ → List TypeEntry → List Way → ℕ → Option ℕ → ℕ → Formula
comes next types ways k further r = or_list next (is_further further r ++ flat_map (begins_after next types r k) ways)

-- a is below such a position
abbrev pub is_led : ℕ → List TypeEntry → List Way → ℕ → Option ℕ → Option ℕ → ℕ → Formula
is_led next types ways k from further a = ex1 next (And (is_below from next a) (comes (suc next) types ways k further next))

-- what is looked at is below such positions
abbrev pub are_led : ℕ → List TypeEntry → List Way → TypeId → ℕ → Option ℕ → Option ℕ → Formula
are_led next types ways ty k from further =
    all1 next (imp (is_looked_at (suc next) types ty from next) (is_led (suc next) types ways k from further next))

-- ---- which sets no position shares

-- some variant may have both fields, by which variants have each
abbrev pub owners_alike : Option Owner → Option Owner → Bool
owners_alike (Some (owner.Variant v)) (Some (owner.Variant w)) = v.index == w.index
owners_alike _ _ = true

-- ways of both holders may begin at one position: both at the root, or at a cell that has both fields
abbrev pub holders_alike : List TypeEntry → Option FieldId → Option FieldId → Bool
holders_alike types None None = true
holders_alike types (Some f) (Some g) =
    (f.ty.0 == g.ty.0) && owners_alike (option_map (owner_of f) (field_at types f)) (option_map (owner_of g) (field_at types g))
holders_alike types _ _ = false

-- the later way has so many more steps by 1, and may begin where the other one does
abbrev pub comes_later : List TypeEntry → Way → ℕ → Way → Bool
comes_later types w gap later = (w.number + gap == later.number) && holders_alike types w.holder later.holder

-- some way has so many more steps than this one
abbrev pub is_before : List TypeEntry → List Way → ℕ → Way → Bool
is_before types ways gap w = list_any (comes_later types w gap) ways

-- two of the ways that may begin at one position have so many steps between them
abbrev pub is_between : List TypeEntry → List Way → ℕ → Bool
is_between types ways gap = list_any (is_before types ways gap) ways

abbrev pub gap_at : List TypeEntry → List Way → ℕ → List ℕ
gap_at types ways gap = if is_between types ways gap then [] else gap ∷ []

abbrev pub number : ℕ → ℕ
number n = n

-- the gaps: how many steps no two ways that may begin at one position have between them. What a position is looked at for so
-- many steps apart would need two such ways
abbrev pub gaps : List TypeEntry → List Way → List ℕ
gaps types ways = flat_map (gap_at types ways) (named number (last_number ways))

-- r is in the set of the step that is a gap before the one with number k, whose set is on the track `own`, if there is such a step
abbrev pub is_earlier : ℕ → ℕ → ℕ → ℕ → List Formula
is_earlier own r k gap = if nat_le gap k then Sub (track r) (track (own - gap)) ∷ [] else []

-- no position is in the set and in one of those that the parts name, if there are any
abbrev pub apart_from : ℕ → List Formula → Formula → Formula
apart_from own [] led = led
apart_from own (part ∷ parts) led =
    And led (Not (ex1 (suc own) (And (Sub (track (suc own)) (track own)) (or_list (suc (suc own)) (part ∷ parts)))))

-- the step with number k, whose set, on the track `own`, shares no position with those of earlier steps that the gaps name
abbrev pub led_apart : ℕ → ℕ → List ℕ → Formula → Formula
led_apart own k gaps led = apart_from own (flat_map (is_earlier own (suc own) k) gaps) led

-- what is looked at is led to by ways with k steps by 1, or with up to n more: some set is what is looked at at the next step
abbrev pub are_led_by : ℕ → List TypeEntry → List Way → List ℕ → TypeId → ℕ → ℕ → Option ℕ → Formula
are_led_by next types ways gaps ty k zero from = are_led next types ways ty k from None
are_led_by next types ways gaps ty k (suc n) from =
    Ex2 (track next) (And (are_led_by (suc next) types ways gaps ty (suc k) n (Some next))
    (led_apart next k gaps (are_led (suc next) types ways ty k from (Some next))))

-- no live cell of the type is below a position by 1; this follows from the first step, and keeps the sets of the others few
abbrev pub none_by_one : ℕ → List TypeEntry → TypeId → Formula
none_by_one next types ty =
    Not (ex1 next (And (is_live (suc next) types ty next) (Ex2 (track (suc next)) (Succ1 (track (suc next)) (track next)))))

-- each live cell of the type is led to by the ways
abbrev pub are_led_to : ℕ → List TypeEntry → List Way → TypeId → Formula
are_led_to next types ways ty = And (none_by_one next types ty) (are_led_by next types ways (gaps types ways) ty 0 (last_number ways) None)

-- each live cell of the type is at one of its places, told by field
abbrev pub reached_by_field : ℕ → List TypeEntry → List VarEntry → TypeId → Formula
reached_by_field next types vars ty = are_led_to next types (ways types vars ty) ty
