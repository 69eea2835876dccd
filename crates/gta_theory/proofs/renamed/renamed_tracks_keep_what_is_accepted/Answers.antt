use Rattle.gta_theory.specs.Automata.{Has}
use Rattle.gta_theory.proofs.RenamedLemmas.{Accepts-renamed, IsMinimal-renamed}
use Rattle.gta_theory.proofs.renamed.renamed_tracks_keep_what_is_accepted.Goals as goal

pub returns : goal.returns
returns c = record {
  accepts = λ g A r guide increasing stable. Accepts-renamed r increasing g A guide stable;
  minimal = λ g A states r increasing. IsMinimal-renamed r increasing g A (Has states);
}
