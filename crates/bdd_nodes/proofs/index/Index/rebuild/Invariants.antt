use Rattle.std.proofs.Common.{◌≡◌, ◌≤◌, vec_len, vec_capacity}
use Rattle.bdd_nodes.specs.Index.{IsIndexed}
use Rattle.bdd_nodes.proofs.index.Index.rebuild.Given as goal

abbrev pub invariant-loop-index : goal.invariant-loop-index
invariant-loop-index l = record {
  indexed : IsIndexed l.nodes l.self.buckets.items l.self.chain.items l.index;
  buckets_len : vec_len l.self.buckets ≡ l.count;
  chain_len : vec_len l.self.chain ≡ l.index;
  buckets_room : vec_capacity l.fn.self.buckets ≤ vec_capacity l.self.buckets;
  chain_room : vec_capacity l.fn.self.chain ≤ vec_capacity l.self.chain;
}
