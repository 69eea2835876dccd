-- What is still to be done for the formula of an assertion.
use Rattle.std.specs.Prelude.{ℕ, ◌+◌, List, [], ◌∷◌, sum_by}
use Rattle.store_core.specs.Tables.{TypeEntry}
use Rattle.store_logic.specs.Postfix.{form_count}
use Rattle.ws2s_core.specs.declared.formula.Formula.{Formula}
use Rattle.graph_view.specs.declared.view.Sym.{Sym}
use Rattle.graph_view.specs.Sights.{Sight}
use Rattle.site_list.specs.Claims.{assertion}
use Rattle.claim_formula.specs.declared.whole.Task.{Task}
use Rattle.claim_formula.specs.declared.whole.Task.TheVariants as task
use Rattle.claim_formula.specs.Joining.{joined}

-- the formulas that are made by one task
abbrev pub done_by : List TypeEntry → Sight → List Sym → Task → List Formula → List Formula
done_by types sight values (task.Write a next) made = assertion types sight values a.now next ∷ made
done_by types sight values (task.Join a next) made = joined types sight a.now next made

-- and by all, the first on top
abbrev pub done : List TypeEntry → Sight → List Sym → List Task → List Formula → List Formula
done types sight values [] made = made
done types sight values (t ∷ ts) made = done types sight values ts (done_by types sight values t made)

-- how much a task is
abbrev pub weight : Task → ℕ
weight (task.Write a next) = form_count a.now + form_count a.now
weight (task.Join a next) = 1

abbrev pub weight_of : List Task → ℕ
weight_of = sum_by weight
