use Rattle.graph_meaning.proofs.fields.FunctionalLemmas.{no-tree, functional-means}
use Rattle.graph_meaning.proofs.fields.fields_are_functional_where_no_tree_forks.Goals as goal

pub returns : goal.returns
returns c = record {
  one_each = λ types vars f table each. functional-means types vars f table each;
  any = λ types vars a f table finite satisfied. no-tree types vars f table a finite satisfied;
}
