-- Two spaces of three states, where each step tells whether track 0 is set.
use Rattle.std.specs.Prelude.{List, [], ◌∷◌}
use Rattle.bdd_nodes.specs.declared.node_ref.NodeRef.{NodeRef}
use Rattle.gta_theory.specs.Guides.{Spaces}
use Rattle.gta_core.specs.declared.build.SpacePart.{SpacePart}

-- no position has space 1
abbrev pub two_spaces : Spaces
two_spaces = (0, 0) ∷ (1, 1) ∷ []

-- three states, and this root for each of the nine pairs
abbrev pub told_part : NodeRef → SpacePart
told_part told = record {
  states = 3;
  initial = 0;
  roots = told ∷ told ∷ told ∷ told ∷ told ∷ told ∷ told ∷ told ∷ told ∷ [];
}

abbrev pub told_parts : NodeRef → List SpacePart
told_parts told = told_part told ∷ told_part told ∷ []
