-- How much memory an index has.
use Rattle.std.specs.Prelude.{ℕ, ◌≤◌, length, vec_capacity}
use Rattle.bdd_nodes.specs.declared.index.Index.{Index}

-- the index has some buckets, no more than the limit, and room for as many buckets and links as the limit says
pub record HasRoom (limit : ℕ) (index : Index) : Type 0 where
  pub some : 1 ≤ length index.buckets.items
  pub within : length index.buckets.items ≤ limit
  pub buckets_room : limit ≤ vec_capacity index.buckets
  pub chain_room : limit ≤ vec_capacity index.chain
