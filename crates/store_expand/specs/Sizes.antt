-- How large the bodies of predicates become.
use Rattle.std.specs.Prelude.{ℕ, Bool, nat_lt, List, map, reverse}
use Rattle.store_logic.specs.declared.assertion.Assertion.{Assertion}
use Rattle.store_logic.specs.declared.pred.PredDef.{PredDef}
use Rattle.store_logic.specs.Sizes.{node_count}
use Rattle.store_logic.specs.Expansion.{expanded_bodies, expansion}
use Rattle.store_logic.specs.ExpandingSizes.{capped}

-- the sizes of the bodies, each with the predicates before it put in, up to the least that is too large
abbrev pub sizes_of : List PredDef → List ℕ
sizes_of preds = map (λ b. capped (node_count b)) (expanded_bodies (reverse preds))

-- it has more nodes than are allowed with its predicates put in
abbrev pub is_too_big : List PredDef → Assertion → Bool
is_too_big preds a = nat_lt 65536 (node_count (expansion preds a))
