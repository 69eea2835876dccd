-- How a shelf keeps its nodes.
use Rattle.std.specs.Prelude.{◌≡◌, ℕ, ◌≤◌, List, length}
use Rattle.bdd_nodes.specs.declared.index.Index.{Index}
use Rattle.bdd_nodes.specs.declared.node.Node.{Node}
use Rattle.bdd_nodes.specs.Roots.{Registered}
use Rattle.bdd_nodes.specs.Shelf.{IsShelf}
use Rattle.bdd_nodes.specs.Index.{IsIndexed}
use Rattle.bdd_nodes.specs.Room.{HasRoom}

-- the nodes are those of a shelf, each has a link and is in its chain, and there is room for as many as the limit says
pub record IsStored (limit : ℕ) (nodes : List Node) (capacity : ℕ) (index : Index) (roots : Registered) : Type 0 where
  pub shelf : IsShelf (record { nodes = nodes; limit = limit; roots = roots })
  pub indexed : IsIndexed nodes index.buckets.items index.chain.items (length nodes)
  pub chain_len : length index.chain.items ≡ length nodes
  pub room : limit ≤ capacity
  pub index_room : HasRoom limit index
