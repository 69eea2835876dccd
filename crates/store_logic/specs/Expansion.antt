-- Assertions with their predicates put in.
use Rattle.std.specs.Prelude.{◌<◌, List, [], ◌∷◌, ◌++◌, slice_get, reverse}
use Rattle.std.specs.Option.{option_map_or}
use Rattle.store_logic.specs.declared.assertion.Assertion.{Assertion, roll-Assertion}
use Rattle.store_logic.specs.declared.assertion.Assertion.TheVariants as assertion
use Rattle.store_logic.specs.declared.assertion.Assertion.TheOpen.{Assertion-F}
use Rattle.store_logic.specs.declared.assertion.Assertion.TheFolds.{fold-Assertion}
use Rattle.store_logic.specs.declared.pred.PredDef.{PredDef}
use Rattle.store_logic.specs.Filling.{put_in}
use Rattle.store_logic.specs.Sizes.{node_count}

-- a predicate's use is its body with the arguments put in; every other form stays
abbrev pub expanded_node : List Assertion → Assertion-F Assertion → Assertion
expanded_node bodies (Assertion-F.Pred k args) = option_map_or (put_in args) (slice_get bodies k) (assertion.Pred k args)
expanded_node bodies other = roll-Assertion other

-- the assertion with these bodies put in for the predicates
abbrev pub with_bodies : List Assertion → Assertion → Assertion
with_bodies bodies = fold-Assertion Assertion (expanded_node bodies)

-- the bodies of the predicates of a list, the last of them first: in each, those before it are put in
abbrev pub expanded_bodies : List PredDef → List Assertion
expanded_bodies [] = []
expanded_bodies (p ∷ earlier) = expanded_bodies earlier ++ with_bodies (expanded_bodies earlier) p.body ∷ []

-- the assertion with every predicate put in
abbrev pub expansion : List PredDef → Assertion → Assertion
expansion preds a = with_bodies (expanded_bodies (reverse preds)) a

-- it has more nodes than are allowed
abbrev pub IsTooBig : List PredDef → Assertion → Type 0
IsTooBig preds a = 65536 < node_count (expansion preds a)
