-- Which positions have live cells after heap events: of a variant, of a type, with a field. Events stand with the last one
-- first. (Møller and Schwartzbach, PLDI 2001: the store as a formula of the store before.)
use Rattle.std.specs.Prelude.{ℕ, suc, ◌+◌, ◌==◌, ◌&&◌, List, [], ◌∷◌, map, Option, Some, None, if◌then◌else◌, true, false, Bool}
use Rattle.std.specs.Option.{option_map_or}
use Rattle.store_core.specs.declared.ids.TypeId.{TypeId}
use Rattle.store_core.specs.declared.ids.VariantId.{VariantId}
use Rattle.store_core.specs.declared.ids.FieldId.{FieldId}
use Rattle.store_core.specs.Tables.{TypeEntry, unnamed_of}
use Rattle.ws2s_core.specs.declared.track.Track.{Track}
use Rattle.ws2s_core.specs.declared.formula.Formula.{Formula}
use Rattle.ws2s_core.specs.declared.formula.Formula.TheVariants.{Sub, And, Not}
use Rattle.ws2s_forms.specs.Forms.{track, or, or_list, ex1, slot}
use Rattle.tree_formula.specs.WellEncoded.{types_in, variants_of, owner, is_of}
use Rattle.graph_view.specs.declared.view.Sym.{Sym}
use Rattle.graph_view.specs.declared.view.Event.{Event}
use Rattle.graph_view.specs.declared.view.Event.TheVariants.{New, Write, Free}
use Rattle.graph_view.specs.Syms.{is_in, is_changed, guard}
use Rattle.graph_view.specs.Sights.{Sight}

-- the same variant
abbrev pub is_variant : VariantId → VariantId → Bool
is_variant v w = (v.ty.0 == w.ty.0) && (v.index == w.index)

-- the event is taken, and track a is the slot of its new cell, behind those of data variables
abbrev pub is_made : ℕ → ℕ → ℕ → Option Track → ℕ → Formula
is_made next slots a g k = And (guard next g) (slot next (slots + k) a)

-- one event: a new cell of the variant is live in its slot, a freed cell isn't
abbrev pub live_after : ℕ → ℕ → VariantId → ℕ → Event → Formula → Formula
live_after next slots v a (New g k w) earlier = if is_variant v w then or earlier (is_made next slots a g k) else earlier
live_after next slots v a (Write g u f x) earlier = earlier
live_after next slots v a (Free g u) earlier = And earlier (Not (is_changed next a g u))

-- the position has a live cell of the variant
abbrev pub live_of : List TypeEntry → ℕ → ℕ → VariantId → ℕ → List Event → Formula
live_of types next slots v a [] = is_of types v a
live_of types next slots v a (e ∷ earlier) = live_after next slots v a e (live_of types next slots v a earlier)

-- a region: all cells, those on the track, or those not on it
abbrev pub in_region : ℕ → Option (Track × Bool) → Formula → Formula
in_region a None f = f
in_region a (Some (p, true)) f = And f (Sub (track a) p)
in_region a (Some (p, false)) f = And f (Not (Sub (track a) p))

-- a live cell of the variant, of the region
abbrev pub lives : List TypeEntry → Sight → ℕ → VariantId → ℕ → Formula
lives types sight next v a = in_region a sight.region (live_of types next sight.slots v a sight.events)

-- a live cell of the type: of the variant without a name, or of one of those with names
abbrev pub lives_in : List TypeEntry → Sight → ℕ → TypeId → ℕ → Formula
lives_in types sight next ty a =
    option_map_or (λ v. lives types sight next v a) (unnamed_of types ty) (or_list next (map (λ v. lives types sight next v a) (variants_of types ty)))

-- a live cell that has the field
abbrev pub has : List TypeEntry → Sight → ℕ → FieldId → ℕ → Formula
has types sight next f a = option_map_or (λ v. lives types sight next v a) (owner types f) (lives_in types sight next f.ty a)

-- a live cell
abbrev pub is_live : List TypeEntry → Sight → ℕ → ℕ → Formula
is_live types sight next a = or_list next (map (λ ty. lives_in types sight next ty a) (types_in types))

-- the value is a dead cell
abbrev pub is_dead : List TypeEntry → Sight → ℕ → Sym → Formula
is_dead types sight next u = ex1 next (And (is_in (suc next) next u) (Not (is_live types sight (suc next) next)))
