-- A formula that is written out by hand.
use Rattle.std.specs.Prelude.{List, [], ◌∷◌}
use Rattle.ws2s_core.specs.declared.formula.Formula.{Formula}
use Rattle.ws2s_core.specs.declared.formula.Formula.TheVariants.{Sub, Single, And, Not, Ex2}
use Rattle.store_core.specs.Tables.{TypeEntry}
use Rattle.tree_formula.specs.Worked.{t}

-- types S and T without fields
abbrev pub two_types : List TypeEntry
two_types = record { name = 83 ∷ []; variants = []; fields = [] } ∷ record { name = 84 ∷ []; variants = []; fields = [] } ∷ []

-- no position is on tracks 0 and 1, which are the two types'
abbrev pub two_apart : Formula
two_apart = Not (Ex2 (t 2) (And (Single (t 2)) (And (Sub (t 2) (t 0)) (Sub (t 2) (t 1)))))
