-- That no position has cells of two variants, as a formula, and when a formula holds of trees.
use Rattle.std.specs.Prelude.{ℕ, ◌≤◌, List, [], ◌∷◌, ◌++◌, map, flat_map}
use Rattle.gta_theory.specs.Assignments.{Assignment, IsFinite}
use Rattle.ws2s_core.specs.declared.formula.Formula.{Formula}
use Rattle.ws2s_core.specs.Satisfaction.{WSat}
use Rattle.ws2s_forms.specs.Forms.{and_list}
use Rattle.store_core.specs.declared.ids.VariantId.{VariantId}
use Rattle.store_core.specs.Tables.{TypeEntry, VarEntry}
use Rattle.tree_encode.specs.Tracks.{track_count}
use Rattle.tree_formula.specs.WellEncoded.{types_in, variants_of, are_apart, well_encoded}

-- all variants, type by type
abbrev pub all_variants : List TypeEntry → List VariantId
all_variants types = flat_map (variants_of types) (types_in types)

-- each with each later one, in order
abbrev pub pairs : {X Y : Type 0} → (X → X → Y) → List X → List Y
pairs pair [] = []
pairs pair (x ∷ xs) = map (pair x) xs ++ pairs pair xs

-- no position is a cell of two variants, of one type or of two; true where there is one variant alone
abbrev pub cells_apart : ℕ → List TypeEntry → Formula
cells_apart next types = and_list next (pairs (are_apart next types) (all_variants types))

-- all finite sets that satisfy the formula of trees satisfy this formula, whatever tracks the first one's quantifiers bind
abbrev pub HoldsOfTrees : List TypeEntry → List VarEntry → Formula → Type 0
HoldsOfTrees types vars f = (next : ℕ) (a : Assignment) → track_count types vars ≤ next → IsFinite a → WSat (well_encoded next types vars) a → WSat f a
