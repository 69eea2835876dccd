-- How the formula is made, from its innermost part outwards.
use Rattle.std.specs.Prelude.{ℕ, zero, suc, ◌+◌, List, Option, Some, None}
use Rattle.ws2s_core.specs.declared.formula.Formula.{Formula}
use Rattle.ws2s_core.specs.declared.formula.Formula.TheVariants.{And, Ex2}
use Rattle.ws2s_forms.specs.Forms.{track}
use Rattle.store_core.specs.declared.ids.TypeId.{TypeId}
use Rattle.store_core.specs.Tables.{TypeEntry}
use Rattle.tree_reached.specs.declared.ways.Way.{Way}
use Rattle.tree_reached.specs.ByField.{are_led, led_apart}

-- the track of the set of the step before this one; before the first step by 1 there is none
abbrev pub set_before : ℕ → ℕ → Option ℕ
set_before next zero = None
set_before next (suc k) = Some (next + k)

-- the step with this number around the rest, with its set
abbrev pub with_step : ℕ → List TypeEntry → List Way → List ℕ → TypeId → ℕ → Formula → Formula
with_step next types ways gaps ty k rest =
    Ex2 (track (next + k))
    (And rest (led_apart (next + k) k gaps (are_led (suc (next + k)) types ways ty k (set_before next k) (Some (next + k)))))
