use Rattle.ws2s_theory.proofs.TreesLemmas.{label-at, left-at, right-at, root-at}
use Rattle.ws2s_theory.proofs.label_trees.nodes_stand_for_parts.Goals as goal

pub returns : goal.returns
returns c = record { label = label-at; left = left-at; right = right-at; root = root-at }
