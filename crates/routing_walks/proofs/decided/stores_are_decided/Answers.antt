use Rattle.routing_walks.proofs.DecidedStores.{decided_tree, decided_reached, decided_dangles, decided_shared, decided_leaked, decided_only, decided_wrong}
use Rattle.routing_walks.proofs.decided.stores_are_decided.Goals as goal

pub returns : goal.returns
returns c = record {
  trees = decided_tree;
  reached = decided_reached;
  dangling = decided_dangles;
  shared = decided_shared;
  leaked = decided_leaked;
  only = decided_only;
  wrong = decided_wrong;
}
