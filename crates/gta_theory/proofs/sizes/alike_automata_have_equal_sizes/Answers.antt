use Rattle.gta_theory.specs.Automata.{Has}
use Rattle.gta_theory.proofs.SizesLemmas.{SizeIn-alike, SizeOf-alike}
use Rattle.gta_theory.proofs.sizes.alike_automata_have_equal_sizes.Goals as goal

pub returns : goal.returns
returns c = record {
  in_space = λ g A B states_A states_B guide. SizeIn-alike g guide A (Has states_A) B (Has states_B);
  whole = λ g A B states_A states_B guide. SizeOf-alike g guide A (Has states_A) B (Has states_B);
}
