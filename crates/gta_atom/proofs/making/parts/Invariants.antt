use Rattle.std.proofs.Common.{◌≡◌, ℕ, length, Some}
use Rattle.std.specs.Prelude.{slice_get}
use Rattle.gta_theory.specs.Numbered.{Below}
use Rattle.gta_core.specs.declared.build.SpacePart.{SpacePart}
use Rattle.gta_atom.specs.Children.{test_of}
use Rattle.gta_atom.specs.Automata.{counts_of, numbered_automaton}
use Rattle.gta_atom.specs.Cells.{IsPartIn}
use Rattle.gta_room.specs.Progress.{Adds, IsUnderSomewhere}
use Rattle.gta_atom.proofs.making.parts.Given as goal

abbrev pub invariant-loop-space : goal.invariant-loop-space
invariant-loop-space l =
    (length l.spaces ≡ l.space)
    × ((s : ℕ) (part : SpacePart) → slice_get l.spaces s ≡ Some part → IsPartIn l.g l.plan (test_of l.test) l.shelf s part)
    × Adds (IsUnderSomewhere l.g (numbered_automaton l.g l.plan (test_of l.test)) (Below (counts_of l.plan (test_of l.test)))) l.fn.shelf l.shelf
