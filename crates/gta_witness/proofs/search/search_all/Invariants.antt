use Rattle.std.proofs.Common.{ℕ}
use Rattle.gta_witness.specs.Searching.{weighs_in, Running}
use Rattle.gta_witness.specs.Lists.{AreLines}
use Rattle.gta_witness.specs.Ending.{turns_left}
use Rattle.gta_witness.proofs.search.search_all.Given as goal

abbrev pub invariant-loop-lines : goal.invariant-loop-lines
invariant-loop-lines l = record {
  running : (now : ℕ) × Running l.form (weighs_in l.weighed) now l.lines l.search;
  lines : AreLines l.form l.lines;
}

abbrev pub decreases-loop-lines : goal.decreases-loop-lines
decreases-loop-lines l = turns_left l.search
