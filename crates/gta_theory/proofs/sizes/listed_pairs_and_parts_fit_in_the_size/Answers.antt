use Rattle.gta_theory.specs.Automata.{Has}
use Rattle.gta_theory.proofs.SizesLemmas.{SizeIn-fits, SizeOf-fits}
use Rattle.gta_theory.proofs.sizes.listed_pairs_and_parts_fit_in_the_size.Goals as goal

pub returns : goal.returns
returns c = record {
  in_space = λ g A states. SizeIn-fits g A (Has states);
  whole = λ g A states. SizeOf-fits g A (Has states);
}
