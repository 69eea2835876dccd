-- What references name.
use Rattle.std.proofs.Common.{◌≡◌, ℕ, ◌-◌, ◌^◌, ◌<◌, ◌≤◌, sym, ◌∙◌, ap, inl, inr, arith}
use Rattle.std.proofs.lemmas.Bool.Decides.{nat_tests}
use Rattle.std.proofs.lemmas.Bool.{cases_lt}
use Rattle.bdd_nodes.specs.declared.node_ref.NodeRef.{NodeRef}
use Rattle.bdd_nodes.specs.declared.node_ref.Named.TheVariants.{Leaf, Inner}
use Rattle.bdd_nodes.specs.Nodes.{node_of}

-- a word below 2 ^ 31 is a leaf's state
pub node_of-leaf : (r : NodeRef) → r.word < 2 ^ 31 → node_of r ≡ Leaf r.word
unfolding node_of
node_of-leaf r small = grind (arith, nat_tests)

-- a word past that is an inner node's index
pub node_of-inner : (r : NodeRef) → 2 ^ 31 ≤ r.word → node_of r ≡ Inner (r.word - 2 ^ 31)
unfolding node_of
node_of-inner r large = grind (arith, nat_tests)

same_word : (a b : NodeRef) → a.word ≡ b.word → a ≡ b
same_word a b e = ap (λ (w : ℕ). let r : NodeRef = record { word = w } in r) e

-- references that name the same are the same
pub node_of-injective : (a b : NodeRef) → node_of a ≡ node_of b → a ≡ b
node_of-injective a b e = elim (cases_lt a.word (2 ^ 31)) [
  | inl a_leaf ↦ elim (cases_lt b.word (2 ^ 31)) [
    | inl b_leaf ↦ same_word a b (let f : Leaf a.word ≡ Leaf b.word = sym (node_of-leaf a a_leaf) ∙ e ∙ node_of-leaf b b_leaf in cc)
    | inr b_inner ↦ absurd (let f : Leaf a.word ≡ Inner (b.word - 2 ^ 31) = sym (node_of-leaf a a_leaf) ∙ e ∙ node_of-inner b b_inner in cc)
  ]
  | inr a_inner ↦ elim (cases_lt b.word (2 ^ 31)) [
    | inl b_leaf ↦ absurd (let f : Inner (a.word - 2 ^ 31) ≡ Leaf b.word = sym (node_of-inner a a_inner) ∙ e ∙ node_of-leaf b b_leaf in cc)
    | inr b_inner ↦ same_word a b (
        let f : Inner (a.word - 2 ^ 31) ≡ Inner (b.word - 2 ^ 31) = sym (node_of-inner a a_inner) ∙ e ∙ node_of-inner b b_inner in
        let g : a.word - 2 ^ 31 ≡ b.word - 2 ^ 31 = cc in
        omega arith)
  ]
]
