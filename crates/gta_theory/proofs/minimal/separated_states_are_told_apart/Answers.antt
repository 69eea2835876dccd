use Rattle.gta_theory.proofs.MinimalLemmas.{AreToldApart-from_separated}
use Rattle.gta_theory.proofs.minimal.separated_states_are_told_apart.Goals as goal

pub returns : goal.returns
returns c = λ g A guide stable. AreToldApart-from_separated g guide A stable
