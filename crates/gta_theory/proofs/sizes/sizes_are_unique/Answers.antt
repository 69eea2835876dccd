use Rattle.gta_theory.specs.Automata.{Has}
use Rattle.gta_theory.proofs.SizesLemmas.{SizeIn-unique, SizeOf-unique}
use Rattle.gta_theory.proofs.sizes.sizes_are_unique.Goals as goal

pub returns : goal.returns
returns c = record {
  in_space = λ g A states guide. SizeIn-unique g guide A (Has states);
  whole = λ g A states guide. SizeOf-unique g guide A (Has states);
}
