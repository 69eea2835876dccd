use Rattle.graph_meaning.proofs.fields.AloneLemmas.{light-tree}
use Rattle.graph_meaning.proofs.fields.each_fork_has_a_tree_as_light.Goals as goal

pub returns : goal.returns
returns c = λ types vars others s f table each fits backbone fork. light-tree types vars others s f table each fits backbone fork
