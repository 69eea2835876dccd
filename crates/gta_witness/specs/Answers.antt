-- What each answer says.
use Rattle.std.specs.Prelude.{List}
use Rattle.gta_theory.specs.Assignments.{Assignment}
use Rattle.gta_theory.specs.Guides.{Spaces}
use Rattle.gta_theory.specs.Automata.{Automaton, Accepts}
use Rattle.ws2s_core.specs.declared.track.Track.{Track}
use Rattle.gta_witness.specs.declared.lightest.Lightest.{Lightest}
use Rattle.gta_witness.specs.Lightest.{each_once, IsLightestTree, AreTooLarge}

-- nothing is accepted, the tree is a lightest one, or lightest ones are too large
abbrev pub IsLightestOf : {Q : Type 0} → Spaces → Automaton Q → List Track → Lightest → Type 0
IsLightestOf g A tracks Lightest.None = (tree : Assignment) → Accepts g A tree → ⊥
IsLightestOf g A tracks (Lightest.Tree nodes w) = IsLightestTree g A tracks nodes w
IsLightestOf g A tracks Lightest.TooLarge = AreTooLarge (Accepts g A) (each_once tracks)
