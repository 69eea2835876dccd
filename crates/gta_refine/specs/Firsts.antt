-- The first state with each row of numbers, found by a hash of the row: each bucket has a chain of states, from the latest
-- back to the earliest. A link is a place among the states plus one, and 0 ends a chain.
use Rattle.std.specs.Prelude.{◌≡◌, ◌≢◌, ℕ, suc, ◌+◌, ◌*◌, ◌/◌, ◌%◌, ◌^◌, ◌<◌, ◌≤◌, List, [], ◌∷◌, length, slice_index}
use Rattle.bdd_nodes.specs.declared.node_ref.NodeRef.{NodeRef}
use Rattle.gta_refine.specs.declared.firsts.TheConstants.{FACTOR}

-- the hash of a row with one number more
unfoldable pub hash_more : ℕ → NodeRef → ℕ
hash_more hash number = (((hash + number.word) % 2 ^ 64) * FACTOR) % 2 ^ 64

-- the hash of a row, from that of what stands before it
abbrev pub hash_from : ℕ → List NodeRef → ℕ
hash_from hash [] = hash
hash_from hash (number ∷ row) = hash_from (hash_more hash number) row

-- which of so many buckets a row is sought in
unfoldable pub bucket_of : List NodeRef → ℕ → ℕ
bucket_of row buckets = (hash_from 0 row / 2 ^ 32) % buckets

-- the link leads to the latest state of the bucket among those below a place
pub record IsLatest (rows : ℕ → List NodeRef) (states : List ℕ) (buckets bucket below link : ℕ) : Type 0 where
  pub within : link ≤ below
  pub belongs : (place : ℕ) → link ≡ suc place → bucket_of (rows (slice_index states place)) buckets ≡ bucket
  pub none_since : (i : ℕ) → link ≤ i → i < below → bucket_of (rows (slice_index states i)) buckets ≢ bucket

-- the states have rows of their own, and are in their chains: a bucket leads to its latest one, and each of them to the one
-- before
pub record AreFirsts (rows : ℕ → List NodeRef) (many : ℕ) (states buckets chain : List ℕ) : Type 0 where
  pub buckets_many : length buckets ≡ many
  pub chained : length chain ≡ length states
  pub latest : (bucket : ℕ) → bucket < many → IsLatest rows states many bucket (length states) (slice_index buckets bucket)
  pub before : (i : ℕ) → i < length states →
      IsLatest rows states many (bucket_of (rows (slice_index states i)) many) i (slice_index chain i)
  pub differ : (i j : ℕ) → i < j → j < length states → rows (slice_index states i) ≢ rows (slice_index states j)

-- the first state with the row of a state
pub record HasFirst (rows : ℕ → List NodeRef) (states : List ℕ) (state first : ℕ) : Type 0 where
  pub place : ℕ
  pub within : place < length states
  pub is : slice_index states place ≡ first
  pub same : rows first ≡ rows state

-- the states stay, and one that is new is the given one
pub record GrowBy (state : ℕ) (old new : List ℕ) : Type 0 where
  pub least : length old ≤ length new
  pub kept : (i : ℕ) → i < length old → slice_index new i ≡ slice_index old i
  pub more : (i : ℕ) → length old ≤ i → i < length new → slice_index new i ≡ state
