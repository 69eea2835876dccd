-- What is under a reference, and which references are equal, for callers that go down.
use Rattle.std.proofs.Common.{◌≡◌, ℕ, suc, zero, ◌^◌, ◌<◌, ◌≤◌, Bool, true, false, if◌then◌else◌, length, Some, None, sym, ap, refl, subst, arith}
use Rattle.std.proofs.lemmas.Bool.{ltb-true, ltb-false, lt-ltb}
use Rattle.bdd_nodes.specs.declared.node_ref.NodeRef.{NodeRef}
use Rattle.bdd_nodes.specs.declared.node_ref.Named.{Named}
use Rattle.bdd_nodes.specs.declared.node_ref.Named.TheVariants.{Leaf, Inner}
use Rattle.labels.specs.Labels.{Label}
use Rattle.bdd_nodes.specs.Nodes.{node_of, node_at, first_track, IsNamedIn, AsksNoneBelow}
use Rattle.bdd_nodes.specs.Shelf.{Contents, IsShelf, IsValid, Splits, SameFunction, AsksFrom, state_of, top_of, low_of, high_of, rank_of}
use Rattle.bdd_nodes.specs.Changes.{is_valid, is_named_in}
use Rattle.bdd_nodes.proofs.RefLemmas.{node_of-injective}
use Rattle.bdd_nodes.proofs.CanonicalLemmas.{equal_named, state_named-unasked, AsksNoneBelow-weaker}
use Rattle.bdd_nodes.proofs.ReadLemmas.{Splits-inner, IsLeaf-named}

-- references of one function are equal
pub same_reference : (shelf : Contents) (a b : NodeRef) → IsShelf shelf → IsValid shelf a → IsValid shelf b → SameFunction shelf a b → a ≡ b
same_reference shelf a b is_shelf a_valid b_valid same =
    node_of-injective a b (equal_named shelf.nodes is_shelf.canonical (node_of a) (node_of b) a_valid b_valid same)

-- what isn't asked doesn't matter
pub unasked : (shelf : Contents) (r : NodeRef) (t : ℕ) (l m : Label) → IsShelf shelf → IsValid shelf r →
    AsksFrom shelf t r → ((u : ℕ) → t ≤ u → l u ≡ m u) → state_of shelf r l ≡ state_of shelf r m
unasked shelf r t l m is_shelf valid asks agree =
    state_named-unasked shelf.nodes is_shelf.canonical (node_of r) t l m valid asks agree

pub AsksFrom-weaker : (shelf : Contents) (r : NodeRef) (s t : ℕ) → s ≤ t → AsksFrom shelf t r → AsksFrom shelf s r
AsksFrom-weaker shelf r s t below asks = AsksNoneBelow-weaker shelf.nodes s t (node_of r) below asks

-- a reference is a leaf, which every shelf has and which asks nothing, or it splits at the track that it asks first
pub data Cases (shelf : Contents) (r : NodeRef) : Type 0 where
  is_leaf : top_of shelf r ≡ None → ((other : Contents) → IsValid other r) → ((t : ℕ) → AsksFrom shelf t r) → Cases shelf r
  splits : (track : ℕ) → top_of shelf r ≡ Some track → Splits shelf r track →
      ((t : ℕ) → t ≤ track → AsksFrom shelf t r) → ((t : ℕ) → AsksFrom shelf t r → t ≤ track) → Cases shelf r

cases_named : (shelf : Contents) (r : NodeRef) (named : Named) → IsShelf shelf → IsValid shelf r → node_of r ≡ named → Cases shelf r
cases_named shelf r (Leaf state) is_shelf valid named =
    is_leaf (ap (first_track shelf.nodes) named) (λ other. subst (IsNamedIn other.nodes) (sym named) tt)
    (λ t. subst (AsksNoneBelow shelf.nodes t) (sym named) tt)
cases_named shelf r (Inner index) is_shelf valid named =
    splits (node_at shelf.nodes index).track (ap (first_track shelf.nodes) named)
    (Splits-inner shelf is_shelf r index named (subst (IsNamedIn shelf.nodes) named valid))
    (λ t below. subst (AsksNoneBelow shelf.nodes t) (sym named) below)
    (λ t asks. subst (AsksNoneBelow shelf.nodes t) named asks)

pub cases_of : (shelf : Contents) (r : NodeRef) → IsShelf shelf → IsValid shelf r → Cases shelf r
cases_of shelf r is_shelf valid = cases_named shelf r (node_of r) is_shelf valid refl

-- the test of validity decides it
is_named_in-true : (shelf : Contents) (named : Named) → is_named_in shelf.nodes named ≡ true → IsNamedIn shelf.nodes named
is_named_in-true shelf (Leaf state) test = tt
is_named_in-true shelf (Inner index) test = ltb-true index (length shelf.nodes) test

is_named_in-false : (shelf : Contents) (named : Named) → is_named_in shelf.nodes named ≡ false → IsNamedIn shelf.nodes named → ⊥
is_named_in-false shelf (Leaf state) test valid = cc
is_named_in-false shelf (Inner index) test valid = let past = ltb-false index (length shelf.nodes) test in omega arith

pub is_valid-true : (shelf : Contents) (r : NodeRef) → is_valid shelf r ≡ true → IsValid shelf r
unfolding is_valid
is_valid-true shelf r test = is_named_in-true shelf (node_of r) test

pub is_valid-false : (shelf : Contents) (r : NodeRef) → is_valid shelf r ≡ false → IsValid shelf r → ⊥
unfolding is_valid
is_valid-false shelf r test valid = is_named_in-false shelf (node_of r) test valid

is_named_in-IsNamedIn : (shelf : Contents) (named : Named) → IsNamedIn shelf.nodes named → is_named_in shelf.nodes named ≡ true
is_named_in-IsNamedIn shelf (Leaf state) valid = refl
is_named_in-IsNamedIn shelf (Inner index) valid = lt-ltb index (length shelf.nodes) valid

pub is_valid-IsValid : (shelf : Contents) (r : NodeRef) → IsValid shelf r → is_valid shelf r ≡ true
unfolding is_valid
is_valid-IsValid shelf r valid = is_named_in-IsNamedIn shelf (node_of r) valid

small-if : (b : Bool) (x y : ℕ) → x < 2 ^ 31 → y < 2 ^ 31 → (if b then x else y) < 2 ^ 31
small-if true x y p q = p
small-if false x y p q = q

-- states are below 2 ^ 31
module _ (shelf : Contents) (is_shelf : IsShelf shelf) (label : Label) where
  small_within : (k : ℕ) (r : NodeRef) (named : Named) → node_of r ≡ named → rank_of r ≤ k → IsValid shelf r → state_of shelf r label < 2 ^ 31
  small_within k r (Leaf state) named below valid =
      let leaf = IsLeaf-named r state named in
      subst (λ (n : ℕ). n < 2 ^ 31) (sym (leaf.states shelf label)) leaf.small
  small_within zero r (Inner index) named below valid =
      let split = Splits-inner shelf is_shelf r index named (subst (IsNamedIn shelf.nodes) named valid) in
      absurd (let falls = split.low_falls in omega arith)
  small_within (suc k) r (Inner index) named below valid =
      let track = (node_at shelf.nodes index).track in
      let split = Splits-inner shelf is_shelf r index named (subst (IsNamedIn shelf.nodes) named valid) in
      subst (λ (n : ℕ). n < 2 ^ 31) (sym (split.states label))
      (small-if (label track) (state_of shelf (high_of shelf r) label) (state_of shelf (low_of shelf r) label)
      (small_within k (high_of shelf r) (node_of (high_of shelf r)) refl (let falls = split.high_falls in omega arith) split.high.valid)
      (small_within k (low_of shelf r) (node_of (low_of shelf r)) refl (let falls = split.low_falls in omega arith) split.low.valid))

  pub small_state : (r : NodeRef) → IsValid shelf r → state_of shelf r label < 2 ^ 31
  small_state r valid = small_within (rank_of r) r (node_of r) refl (omega arith) valid
