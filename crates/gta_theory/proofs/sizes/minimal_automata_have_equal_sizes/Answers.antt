use Rattle.std.proofs.lemmas.Bool.{cases_eq}
use Rattle.gta_theory.specs.Automata.{Has}
use Rattle.gta_theory.proofs.MinimalLemmas.{AreAlike-minimal}
use Rattle.gta_theory.proofs.SizesLemmas.{SizeIn-alike, SizeOf-alike}
use Rattle.gta_theory.proofs.sizes.minimal_automata_have_equal_sizes.Goals as goal

pub returns : goal.returns
returns c = record {
  in_space = λ g A B states_A states_B guide of_A of_B same.
      SizeIn-alike g guide A (Has states_A) B (Has states_B)
      (AreAlike-minimal cases_eq cases_eq g guide A (Has states_A) of_A B (Has states_B) of_B same);
  whole = λ g A B states_A states_B guide of_A of_B same.
      SizeOf-alike g guide A (Has states_A) B (Has states_B)
      (AreAlike-minimal cases_eq cases_eq g guide A (Has states_A) of_A B (Has states_B) of_B same);
}
