use Rattle.ws2s_theory.proofs.TreesLemmas.{below-position, space-left, space-right, space-inside}
use Rattle.ws2s_theory.proofs.label_trees.nodes_have_spaces.Goals as goal

pub returns : goal.returns
returns c = record {
  below = λ nodes k t p q tree stands. below-position nodes tree k p stands t q;
  left = space-left;
  right = space-right;
  space = λ g s p guide there. space-inside g guide s p there;
}
