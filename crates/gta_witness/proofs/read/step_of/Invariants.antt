use Rattle.std.proofs.Common.{slice_get}
use Rattle.gta_witness.specs.declared.goal.Weight.{Weight}
use Rattle.gta_witness.specs.declared.goal.Goal.TheVariants.{State}
use Rattle.gta_witness.specs.Searching.{found_by, IsSettled}
use Rattle.gta_witness.specs.Reading.{Climbs, nodes_in, above_in}
use Rattle.gta_witness.proofs.read.step_of.Given as goal

abbrev pub invariant-loop-tracks : goal.invariant-loop-tracks
invariant-loop-tracks l = (w : Weight) × IsSettled (found_by l.search) (State l.space l.state) w
    × Climbs l.form l.weigh (found_by l.search) l.space l.state w l.goal l.tracks

abbrev pub decreases-loop-tracks : goal.decreases-loop-tracks
decreases-loop-tracks l = above_in (nodes_in (slice_get l.form.spaces l.space)) l.goal
