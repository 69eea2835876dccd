use Rattle.std.proofs.Common.{◌<◌, length, sym, subst}
use Rattle.std.specs.Prelude.{Contains}
use Rattle.store_core.specs.declared.ids.VarId.{VarId}
use Rattle.routing_walks.specs.Sets.{Has}
use Rattle.routing_expr.proofs.LeakLemmas.{none_left, first_left}
use Rattle.routing_expr.proofs.leak.first_leak.Goals as goal

-- every variable is among those that the search starts from
all : (c : goal.After-drop-roots-2) (v : VarId) → v.0 < length c.args.vars.now → Contains c.as_slice.result.now v
all c v within = subst (λ xs. Contains xs v) (sym c.as_slice.ensures.value) (c.in_ok-roots.ensures v within)

pub returns-clause-none : goal.returns-clause-none
returns-clause-none c = none_left c.args.types.now c.args.vars.now c.args.store.now c.as_slice.result.now (all c)
    (Has c.in_ok-left.left) c.in_ok-left.ensures.reached c.least.result c.least.ensures.none

pub returns-clause-some : goal.returns-clause-some
returns-clause-some c = first_left c.args.types.now c.args.vars.now c.args.store.now c.as_slice.result.now (all c)
    (Has c.in_ok-left.left) c.in_ok-left.ensures.reached c.least.result c.in_ok-left.ensures.left c.least.ensures.some
