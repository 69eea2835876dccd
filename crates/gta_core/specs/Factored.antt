-- The roots of a space as they are kept.
use Rattle.std.specs.Prelude.{ℕ, ◌+◌, ◌*◌, Option, slice_get, option_and_then}
use Rattle.bdd_nodes.specs.declared.node_ref.NodeRef.{NodeRef}
use Rattle.gta_core.specs.declared.factored.FactoredPart.{FactoredPart}

-- the root of a pair of child states, by the classes of the two; none for an unknown state
abbrev pub factored_root : FactoredPart → ℕ → ℕ → Option NodeRef
factored_root part l r =
    option_and_then (λ row. option_and_then (λ column.
    option_and_then (λ cell. slice_get part.roots cell) (slice_get part.cells (row * part.width + column)))
    (slice_get part.columns r)) (slice_get part.rows l)
