-- A list of nodes with one node more.
use Rattle.std.proofs.Common.{◌≡◌, ◌≢◌, ℕ, suc, ◌<◌, ◌≤◌, List, [], ◌∷◌, ◌++◌, length, if◌then◌else◌, Option, Some, sym, ◌∙◌, ap}
use Rattle.std.proofs.Common.{refl, subst, inl, inr, arith, length-append}
use Rattle.std.proofs.lemmas.Bool.{cases_lt}
use Rattle.std.proofs.Math.ListN.{get_or-append}
use Rattle.std.proofs.Math.Seq.{get_or-append_seam}
use Rattle.bdd_nodes.specs.declared.node_ref.NodeRef.{NodeRef}
use Rattle.bdd_nodes.specs.declared.node_ref.Named.{Named}
use Rattle.bdd_nodes.specs.declared.node_ref.Named.TheVariants.{Leaf, Inner}
use Rattle.bdd_nodes.specs.declared.node.Node.{Node}
use Rattle.labels.specs.Labels.{Label}
use Rattle.bdd_nodes.specs.Nodes.{node_of, rank, node_at, state_named, IsNamedIn, first_track, AsksNoneBelow, IsSide, AreCanonical}
use Rattle.bdd_nodes.proofs.NodesLemmas.{state_named-inner, state_named-append, if_same}
use Rattle.bdd_nodes.proofs.CanonicalLemmas.{rank-IsNamedIn, IsNamedIn-rank, equal_named}

-- the nodes with one more at the end
abbrev pub grown : List Node → Node → List Node
grown nodes n = nodes ++ n ∷ []

pub length-grown : (nodes : List Node) (n : Node) → length (grown nodes n) ≡ suc (length nodes)
length-grown nodes n = let e = length-append nodes (n ∷ []) in omega arith

pub node_at-grown : (nodes : List Node) (n : Node) (i : ℕ) → i < length nodes → node_at (grown nodes n) i ≡ node_at nodes i
node_at-grown nodes n i within = get_or-append nodes (n ∷ []) _ i within

pub node_at-last : (nodes : List Node) (n : Node) → node_at (grown nodes n) (length nodes) ≡ n
node_at-last nodes n = get_or-append_seam nodes n [] _

pub IsNamedIn-grown : (nodes : List Node) (n : Node) (named : Named) → IsNamedIn nodes named → IsNamedIn (grown nodes n) named
IsNamedIn-grown nodes n (Leaf state) valid = tt
IsNamedIn-grown nodes n (Inner index) valid = let e = length-grown nodes n in omega arith

abbrev first_of : Node → Option ℕ
first_of m = Some m.track

pub first_track-grown : (nodes : List Node) (n : Node) (named : Named) → IsNamedIn nodes named → first_track (grown nodes n) named ≡ first_track nodes named
first_track-grown nodes n (Leaf state) valid = refl
first_track-grown nodes n (Inner index) valid = ap (λ (m : Node). first_of m) (node_at-grown nodes n index valid)

-- what asks no track below t in the nodes asks none with one more
pub AsksNoneBelow-grown : (nodes : List Node) (n : Node) (t : ℕ) (named : Named) → IsNamedIn nodes named →
    AsksNoneBelow nodes t named → AsksNoneBelow (grown nodes n) t named
AsksNoneBelow-grown nodes n t (Leaf state) valid asks = tt
AsksNoneBelow-grown nodes n t (Inner index) valid asks = subst (λ (m : Node). t ≤ m.track) (sym (node_at-grown nodes n index valid)) asks

IsSide-grown : (nodes : List Node) (n : Node) (index t : ℕ) (r : NodeRef) → index ≤ length nodes → IsSide nodes index t r → IsSide (grown nodes n) index t r
IsSide-grown nodes n index t r within side = record {
  before = side.before;
  later = AsksNoneBelow-grown nodes n (suc t) (node_of r) (IsNamedIn-rank nodes _ (let b = side.before in omega arith)) side.later;
}

module _ (nodes : List Node) (canonical : AreCanonical nodes) (n : Node)
    (low : IsSide nodes (length nodes) n.track n.low) (high : IsSide nodes (length nodes) n.track n.high)
    (differ : n.low ≢ n.high) (absent : (i : ℕ) → i < length nodes → node_at nodes i ≢ n) where
  last_or_before : (P : ℕ → Node → Type 0) → ((i : ℕ) → i < length nodes → P i (node_at nodes i)) →
      P (length nodes) n → (i : ℕ) → i < length (grown nodes n) → P i (node_at (grown nodes n) i)
  last_or_before P before last i within = elim (cases_lt i (length nodes)) [
    | inl earlier ↦ subst (P i) (sym (node_at-grown nodes n i earlier)) (before i earlier)
    | inr not_earlier ↦
        let e : length nodes ≡ i = let l = length-grown nodes n in omega arith in
        subst (λ (k : ℕ). P k (node_at (grown nodes n) k)) e (subst (P (length nodes)) (sym (node_at-last nodes n)) last)
  ]

  once : (i j : ℕ) → i < length (grown nodes n) → j < length (grown nodes n) → node_at (grown nodes n) i ≡ node_at (grown nodes n) j → i ≡ j
  once i j i_in j_in same = elim (cases_lt i (length nodes)) [
    | inl i_earlier ↦ elim (cases_lt j (length nodes)) [
      | inl j_earlier ↦ canonical.once i j i_earlier j_earlier (sym (node_at-grown nodes n i i_earlier) ∙ same ∙ node_at-grown nodes n j j_earlier)
      | inr j_last ↦
          let e : j ≡ length nodes = let l = length-grown nodes n in omega arith in
          absurd (absent i i_earlier (sym (node_at-grown nodes n i i_earlier) ∙ same ∙ ap (node_at (grown nodes n)) e ∙ node_at-last nodes n))
    ]
    | inr i_last ↦
        let e : i ≡ length nodes = let l = length-grown nodes n in omega arith in
        elim (cases_lt j (length nodes)) [
          | inl j_earlier ↦ absurd (absent j j_earlier (sym (node_at-grown nodes n j j_earlier) ∙ sym same
              ∙ ap (node_at (grown nodes n)) e ∙ node_at-last nodes n))
          | inr j_last ↦ (let l = length-grown nodes n in omega arith)
        ]
  ]

  -- a node that isn't there, over two different sides, keeps the nodes canonical
  pub AreCanonical-grown : AreCanonical (grown nodes n)
  AreCanonical-grown = record {
    low = last_or_before (λ i m. IsSide (grown nodes n) i m.track m.low)
        (λ i within. IsSide-grown nodes n i _ _ (omega arith) (canonical.low i within))
        (IsSide-grown nodes n _ _ _ (omega arith) low);
    high = last_or_before (λ i m. IsSide (grown nodes n) i m.track m.high)
        (λ i within. IsSide-grown nodes n i _ _ (omega arith) (canonical.high i within))
        (IsSide-grown nodes n _ _ _ (omega arith) high);
    differ = last_or_before (λ i m. m.low ≢ m.high) canonical.differ differ;
    once = once;
  }

  -- the last node's function picks a side
  pub state_named-last : (label : Label) → state_named (grown nodes n) (Inner (length nodes)) label
      ≡ (if label n.track then state_named nodes (node_of n.high) label else state_named nodes (node_of n.low) label)
  state_named-last label =
      let l = length-grown nodes n in
      let e = node_at-last nodes n in
      state_named-inner (grown nodes n) (length nodes) label (omega arith)
      (subst (λ (m : Node). rank (node_of m.low) ≤ length nodes) (sym e) low.before)
      (subst (λ (m : Node). rank (node_of m.high) ≤ length nodes) (sym e) high.before)
      ∙ ap (λ (m : Node). if label m.track then state_named (grown nodes n) (node_of m.high) label else state_named (grown nodes n) (node_of m.low) label) e
      ∙ if_same (label n.track) _ _ _ _ (state_named-append nodes (n ∷ []) (node_of n.high) label high.before)
      (state_named-append nodes (n ∷ []) (node_of n.low) label low.before)

  -- nothing that was there stands for that function
  pub none_stood : (named : Named) → IsNamedIn nodes named →
      ((label : Label) → state_named nodes named label
      ≡ (if label n.track then state_named nodes (node_of n.high) label else state_named nodes
      (node_of n.low) label)) → ⊥
  none_stood named valid same =
      let l = length-grown nodes n in
      let e : named ≡ Inner (length nodes) =
      equal_named (grown nodes n) AreCanonical-grown named (Inner (length nodes))
      (IsNamedIn-grown nodes n named valid) (let f : length nodes < length (grown nodes n) = omega arith in f)
      (λ label. state_named-append nodes (n ∷ []) named label (rank-IsNamedIn nodes named valid) ∙ same label ∙ sym (state_named-last label)) in
      let past : length nodes < length nodes = subst (IsNamedIn nodes) e valid in
      omega arith
