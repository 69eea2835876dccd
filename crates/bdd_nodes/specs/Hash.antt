-- Which bucket a node is sought in.
use Rattle.std.specs.Prelude.{ℕ, ◌+◌, ◌*◌, ◌/◌, ◌%◌, ◌^◌}
use Rattle.bdd_nodes.specs.declared.node.Node.{Node}
use Rattle.bdd_nodes.specs.declared.node.TheConstants.{TRACK_FACTOR, LOW_FACTOR, HIGH_FACTOR}

-- the sum of the node's parts, each times a factor of its own, modulo 2 ^ 64
abbrev pub hash_of : Node → ℕ
hash_of n =
    (((n.track * TRACK_FACTOR) % 2 ^ 64 + (n.low.word * LOW_FACTOR) % 2 ^ 64) % 2 ^ 64 + (n.high.word * HIGH_FACTOR) % 2 ^ 64) % 2 ^ 64

-- the upper half of the hash, scaled to the number of buckets
unfoldable pub bucket_of : Node → ℕ → ℕ
bucket_of n buckets = (hash_of n / 2 ^ 32 * buckets) / 2 ^ 32
