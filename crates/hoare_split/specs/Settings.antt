-- Settings to null or false that stand before a cut.
use Rattle.std.specs.Prelude.{ℕ, Bool, List, [], map, if◌then◌else◌}
use Rattle.store_core.specs.declared.ids.VarId.{VarId}
use Rattle.store_core.specs.Tables.{VarEntry}
use Rattle.store_logic.specs.declared.act.Act.TheVariants as act
use Rattle.store_logic.specs.declared.act.Rhs.{Rhs}
use Rattle.store_logic.specs.declared.act.Rhs.TheVariants as rhs
use Rattle.store_logic.specs.declared.path.Operand.TheVariants as operand
use Rattle.store_logic.specs.declared.cond.Cond.TheVariants as cond
use Rattle.store_exec.specs.declared.code.Item.{Item}
use Rattle.store_exec.specs.declared.code.Item.TheVariants as item
use Rattle.pale_calls.specs.declared.class.VarClass.{VarClass}
use Rattle.pale_calls.specs.Classes.{holds_cell}
use Rattle.hoare_split.specs.Picking.{class_at, those}

-- null, or false for a truth value
abbrev pub blank : VarClass → Rhs
blank of = if holds_cell of then rhs.Cell operand.Null else rhs.Truth cond.False

-- the variable is set to null or false, with this line
abbrev pub setting : List VarEntry → ℕ → VarId → Item
setting vars line v = item.Do line (act.Assign (record { var = v; fields = [] }) (blank (class_at vars v)))

-- the variables for which the test holds are set so, in order of the table
abbrev pub settings : List VarEntry → (VarClass → VarId → Bool) → ℕ → List Item
settings vars is line = map (setting vars line) (those is vars)
