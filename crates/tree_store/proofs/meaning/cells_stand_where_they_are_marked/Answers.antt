use Rattle.tree_store.proofs.MarksLemmas.{one-variant, slot-or_child, one-parent}
use Rattle.tree_store.proofs.WordsLemmas.{slots-apart}
use Rattle.tree_store.proofs.meaning.cells_stand_where_they_are_marked.Goals as goal

pub returns : goal.returns
returns c = record {
  one_variant = λ types vars a v w p laid one other. one-variant types vars a laid v w p one other;
  slots = slots-apart;
  slot_or_child = λ types vars a v i j p laid here. slot-or_child types vars a laid v i j p here;
  one_parent = λ types vars a v w j k p q laid here there. one-parent types vars a laid v w j k p q here there;
}
