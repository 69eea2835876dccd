use Rattle.std.proofs.Common.{◌≡◌, ℕ}
use Rattle.std.specs.Prelude.{take}
use Rattle.gta_witness.specs.Lightest.{is_among}
use Rattle.gta_witness.specs.Searching.{weighs_in}
use Rattle.gta_witness.proofs.lightest.numbers_of.Given as goal

abbrev pub invariant-loop-track : goal.invariant-loop-track
invariant-loop-track l = (t : ℕ) → weighs_in l.numbers t ≡ is_among (take l.track-index l.tracks) t
