use Rattle.std.proofs.Common.{length}
use Rattle.gta_theory.proofs.AssignmentsLemmas.{Covers-finite}
use Rattle.ws2s_core.specs.LabelTrees.{assignment_of}
use Rattle.ws2s_core.proofs.LabelTreesLemmas.{Covers-tree}
use Rattle.tree_store.proofs.FormulaLemmas.{well_encoded-means}
use Rattle.tree_store.proofs.HoldersLemmas.{backbone-lays}
use Rattle.tree_store.proofs.meaning.trees_of_backbones_satisfy_the_formula.Goals as goal

pub returns : goal.returns
returns c = record {
  assignment = λ types vars next s a owners fits backbone sets means finite few.
      (well_encoded-means types vars owners a next few finite).1 (backbone-lays types vars s a fits backbone sets means);
  tree = λ types vars next s nodes owners fits backbone sets tree few.
      let a = assignment_of nodes in
      (well_encoded-means types vars owners a next few (Covers-finite (length nodes) a (Covers-tree nodes))).1
      (backbone-lays types vars s a fits backbone sets tree.assignment);
}
