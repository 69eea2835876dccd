use Rattle.std.proofs.Common.{◌≡◌, vec_len}
use Rattle.gta_core.specs.Auto.{guide_of, automaton_of}
use Rattle.gta_core.specs.Accepting.{AreValues}
use Rattle.gta_core.proofs.acceptance.values_of.Given as goal

abbrev pub invariant-loop-k : goal.invariant-loop-k
invariant-loop-k l = (vec_len l.values ≡ l.k) × AreValues (guide_of l.a) (automaton_of l.shelf l.a) l.nodes l.spaces l.values.items
