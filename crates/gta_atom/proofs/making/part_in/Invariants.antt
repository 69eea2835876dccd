use Rattle.std.proofs.Common.{◌≡◌, length}
use Rattle.gta_theory.specs.Numbered.{Below}
use Rattle.gta_atom.specs.Children.{test_of}
use Rattle.gta_atom.specs.Automata.{counts_of, numbered_automaton}
use Rattle.gta_atom.specs.Cells.{AreRoots}
use Rattle.gta_room.specs.Progress.{Adds, IsUnderSomewhere}
use Rattle.gta_atom.proofs.making.part_in.Given as goal

abbrev pub invariant-loop-pair : goal.invariant-loop-pair
invariant-loop-pair l =
    (length l.roots ≡ l.pair)
    × AreRoots l.g l.plan (test_of l.test) l.shelf l.space l.roots
    × Adds (IsUnderSomewhere l.g (numbered_automaton l.g l.plan (test_of l.test)) (Below (counts_of l.plan (test_of l.test)))) l.fn.shelf l.shelf
