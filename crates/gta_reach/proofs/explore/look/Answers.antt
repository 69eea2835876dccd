-- A leaf gives its state.
use Rattle.std.proofs.Common.{ℕ, List, subst}
use Rattle.std.specs.Prelude.{Contains}
use Rattle.gta_reach.specs.Exploring.{GivesGenerated}
use Rattle.gta_reach.proofs.ExploreLemmas.{generated-leaf}
use Rattle.gta_reach.proofs.explore.look.Goals as goal

pub pair_all-requires-clause-parents : goal.pair_all-requires-clause-parents
pair_all-requires-clause-parents c = λ parent there.
    c.requires.parents c.args.next.s parent (subst (λ (xs : List ℕ). Contains xs parent) c.list_of-parents.ensures there)

pub pair_all-requires-clause-state : goal.pair_all-requires-clause-state
pair_all-requires-clause-state c =
    generated-leaf c.args.form.now c.args.next.s c.in-Leaf.state (subst (GivesGenerated c.args.form.now c.args.next.s) c.in-Leaf.is c.requires.next)

pub meet_sides-requires-clause-node : goal.meet_sides-requires-clause-node
meet_sides-requires-clause-node c = subst (GivesGenerated c.args.form.now c.args.next.s) c.in-Inner.is c.requires.next
