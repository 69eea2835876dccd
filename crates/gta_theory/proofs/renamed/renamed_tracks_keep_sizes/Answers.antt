use Rattle.gta_theory.specs.Automata.{Has}
use Rattle.gta_theory.proofs.RenamedLemmas.{SizeIn-renamed, SizeOf-renamed}
use Rattle.gta_theory.proofs.renamed.renamed_tracks_keep_sizes.Goals as goal

pub returns : goal.returns
returns c = record {
  in_space = λ g A states r increasing s. SizeIn-renamed r increasing g A (Has states) s;
  whole = λ g A states r increasing. SizeOf-renamed r increasing g A (Has states);
}
