use Rattle.gta_theory.proofs.SubsetExistsLemmas.{IsSubset-exists}
use Rattle.gta_theory.proofs.numbered.subsets_exist.Goals as goal

pub returns : goal.returns
returns c = λ g A count k t guide stable closed looks. IsSubset-exists g guide A stable count closed k looks t
