use Rattle.std.proofs.Common.{◌≡◌, ℕ, Some, length, []}
use Rattle.std.specs.Prelude.{slice_get}
use Rattle.bdd_nodes.specs.declared.node_ref.NodeRef.{NodeRef}
use Rattle.bdd_list.specs.declared.listing.Listed.{Listed}
use Rattle.bdd_list.specs.Waits.{IsList, Lists}
use Rattle.bdd_list.proofs.walk.list_nodes.Given as goal

abbrev pub invariant-loop-index : goal.invariant-loop-index
invariant-loop-index l = record {
  none : l.stack ≡ [];
  list : IsList l.shelf l.roots l.nodes.items l.memo;
  many : length l.listed ≡ l.index;
  lists : (k : ℕ) (r : NodeRef) (x : Listed) → slice_get l.roots k ≡ Some r → slice_get l.listed k ≡ Some x → Lists l.shelf l.nodes.items r x;
}
