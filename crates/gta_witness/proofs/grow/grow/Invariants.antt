use Rattle.std.proofs.Common.{◌<◌}
use Rattle.gta_witness.specs.declared.goal.Weight.{Weight}
use Rattle.gta_witness.specs.declared.goal.Goal.TheVariants.{State}
use Rattle.gta_witness.specs.Searching.{found_by, IsSettled}
use Rattle.gta_witness.specs.Growing.{Grows, rounds}
use Rattle.gta_witness.proofs.grow.grow.Given as goal

abbrev pub invariant-loop-nodes : goal.invariant-loop-nodes
invariant-loop-nodes l = (w : Weight) × IsSettled (found_by l.search) (State 0 l.state) w × (w.nodes < 4294967295)
    × Grows l.form l.weigh (found_by l.search) l.nodes l.tasks l.made (record { space = 0; state = l.state; weight = w })

abbrev pub decreases-loop-nodes : goal.decreases-loop-nodes
decreases-loop-nodes l = rounds (found_by l.search) l.tasks
