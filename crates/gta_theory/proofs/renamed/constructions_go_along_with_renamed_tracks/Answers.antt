use Rattle.std.proofs.Common.{IsTrue}
use Rattle.gta_theory.specs.Automata.{Has}
use Rattle.gta_theory.proofs.RenamedLemmas.{IsProduct-renamed, IsSubset-renamed}
use Rattle.gta_theory.proofs.renamed.constructions_go_along_with_renamed_tracks.Goals as goal

pub returns : goal.returns
returns c = record {
  product = λ g A B C states pair r increasing. IsProduct-renamed r increasing g A B C (Has states) pair;
  subset = λ g A C t states member r increasing. IsSubset-renamed r increasing g A t C (Has states) (λ s x q. IsTrue (member s x q));
}
