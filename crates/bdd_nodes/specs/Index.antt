-- How nodes are found: a chain of indices for each bucket, from the latest node back to the earliest. A link is an index
-- plus one, and 0 ends a chain.
use Rattle.std.specs.Prelude.{◌≡◌, ◌≢◌, ℕ, suc, ◌<◌, ◌≤◌, List, length, slice_index}
use Rattle.bdd_nodes.specs.declared.node.Node.{Node}
use Rattle.bdd_nodes.specs.Nodes.{node_at}
use Rattle.bdd_nodes.specs.Hash.{bucket_of}

-- the link leads to the latest node of the bucket among those below an index
pub record IsLatest (nodes : List Node) (buckets bucket below link : ℕ) : Type 0 where
  pub within : link ≤ below
  pub belongs : (index : ℕ) → link ≡ suc index → bucket_of (node_at nodes index) buckets ≡ bucket
  pub none_since : (i : ℕ) → link ≤ i → i < below → bucket_of (node_at nodes i) buckets ≢ bucket

-- the nodes below an index are in their chains: a bucket leads to its latest one, and each of them to the one before
pub record IsIndexed (nodes : List Node) (buckets chain : List ℕ) (below : ℕ) : Type 0 where
  pub latest : (bucket : ℕ) → bucket < length buckets → IsLatest nodes (length buckets) bucket below (slice_index buckets bucket)
  pub before : (i : ℕ) → i < below → IsLatest nodes (length buckets) (bucket_of (node_at nodes i) (length buckets)) i (slice_index chain i)
