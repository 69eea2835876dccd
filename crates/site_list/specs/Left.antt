-- Conditions that are left to be read.
use Rattle.std.specs.Prelude.{ℕ, List, flat_map, sum_by}
use Rattle.std.specs.Borrow.{Bor}
use Rattle.store_core.specs.Tables.{TypeEntry}
use Rattle.store_logic.specs.declared.cond.Cond.{Cond}
use Rattle.store_logic.specs.PostfixConds.{form_count}
use Rattle.store_exec.specs.declared.cause.Cause.{Cause}
use Rattle.site_list.specs.Sites.{cond_causes}

-- the causes that can come in those that are left, the first on top
abbrev pub causes_left : List TypeEntry → List (Bor Cond) → List Cause
causes_left types left = flat_map (λ c. cond_causes types c.now) left

-- how many forms are left to be read
abbrev pub forms_left : List (Bor Cond) → ℕ
forms_left = sum_by (λ c. form_count c.now)
