use Rattle.ws2s_theory.proofs.TreesLemmas.{label-joined, left-joined, right-joined}
use Rattle.ws2s_theory.proofs.JoiningLemmas.{IsTree-joined}
use Rattle.ws2s_theory.proofs.label_trees.trees_are_joined.Goals as goal

pub returns : goal.returns
returns c = record { tree = IsTree-joined; label = label-joined; left = left-joined; right = right-joined }
