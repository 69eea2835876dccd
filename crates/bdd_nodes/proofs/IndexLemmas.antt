-- A search along a chain of indices.
use Rattle.std.proofs.Common.{◌≡◌, ◌≢◌, ℕ, suc, ◌<◌, ◌≤◌, List, length, get_or, sym, ◌∙◌, ap, refl, inl, inr, arith}
use Rattle.std.proofs.lemmas.Bool.{cases_lt}
use Rattle.bdd_nodes.specs.declared.node.Node.{Node}
use Rattle.bdd_nodes.specs.Nodes.{node_at}
use Rattle.bdd_nodes.specs.Hash.{bucket_of}
use Rattle.bdd_nodes.specs.Index.{IsIndexed}

-- a search has come to a link: the node is at none of the indices from there on
pub record HasPassed (nodes : List Node) (buckets : ℕ) (node : Node) (link : ℕ) : Type 0 where
  pub within : link ≤ length nodes
  pub belongs : (index : ℕ) → link ≡ suc index → bucket_of (node_at nodes index) buckets ≡ bucket_of node buckets
  pub absent : (i : ℕ) → link ≤ i → i < length nodes → node_at nodes i ≢ node

pub HasPassed-first : (nodes : List Node) (buckets chain : List ℕ) (node : Node) (bucket : ℕ) →
    IsIndexed nodes buckets chain (length nodes) → bucket ≡ bucket_of node (length buckets) →
    bucket < length buckets → HasPassed nodes (length buckets) node (get_or buckets bucket 0)
HasPassed-first nodes buckets chain node bucket indexed its in_range =
    let latest = indexed.latest bucket in_range in
    record {
      within = latest.within;
      belongs = λ index e. latest.belongs index e ∙ its;
      absent = λ i past below same. latest.none_since i past below (ap (λ (n : Node). bucket_of n (length buckets)) same ∙ sym its);
    }

pub HasPassed-more : (nodes : List Node) (buckets chain : List ℕ) (node : Node) (index : ℕ) →
    IsIndexed nodes buckets chain (length nodes) → HasPassed nodes (length buckets) node (suc index) →
    node_at nodes index ≢ node → HasPassed nodes (length buckets) node (get_or chain index 0)
HasPassed-more nodes buckets chain node index indexed passed other =
    let here : index < length nodes = let w = passed.within in omega arith in
    let its = passed.belongs index refl in
    let before = indexed.before index here in
    record {
      within = let w = before.within in omega arith;
      belongs = λ p e. before.belongs p e ∙ its;
      absent = λ i past below same. elim (cases_lt i index) [
        | inl earlier ↦ before.none_since i past earlier (ap (λ (n : Node). bucket_of n (length buckets)) same ∙ sym its)
        | inr not_earlier ↦ elim (cases_lt index i) [
          | inl later ↦ passed.absent i later below same
          | inr not_later ↦ other (ap (node_at nodes) (let e : index ≡ i = omega arith in e) ∙ same)
        ]
      ];
    }
