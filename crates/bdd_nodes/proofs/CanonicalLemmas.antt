-- In a canonical list of nodes, references are equal exactly where their functions are, and others differ for some label.
use Rattle.std.proofs.Common.{◌≡◌, ◌⊎◌, Some, ℕ, suc, zero, ◌+◌, ◌<◌, ◌≤◌, Bool, true, false, List, length, if◌then◌else◌, sym, ◌∙◌, ap, inl, inr, arith}
use Rattle.std.proofs.lemmas.Bool.{cases_lt, cases_eq}
use Rattle.bdd_nodes.specs.declared.node_ref.NodeRef.{NodeRef}
use Rattle.bdd_nodes.specs.declared.node_ref.Named.{Named}
use Rattle.bdd_nodes.specs.declared.node_ref.Named.TheVariants.{Leaf, Inner}
use Rattle.bdd_nodes.specs.declared.node.Node.{Node}
use Rattle.labels.specs.Labels.{Label, with_track}
use Rattle.labels.proofs.LabelsLemmas.{with_track-same, with_track-later}
use Rattle.bdd_nodes.specs.Nodes.{node_of, rank, node_at, state_named, IsNamedIn, first_track, AsksNoneBelow, AreCanonical}
use Rattle.bdd_nodes.proofs.RefLemmas.{node_of-injective}
use Rattle.bdd_nodes.proofs.NodesLemmas.{state_named-leaf, state_named-inner, if_same}

-- what looks back over no more than the nodes is valid
pub IsNamedIn-rank : (nodes : List Node) (named : Named) → rank named ≤ length nodes → IsNamedIn nodes named
IsNamedIn-rank nodes (Leaf state) within = tt
IsNamedIn-rank nodes (Inner index) within = within

pub rank-IsNamedIn : (nodes : List Node) (named : Named) → IsNamedIn nodes named → rank named ≤ length nodes
rank-IsNamedIn nodes (Leaf state) valid = omega arith
rank-IsNamedIn nodes (Inner index) valid = valid

pub AsksNoneBelow-weaker : (nodes : List Node) (s t : ℕ) (named : Named) → s ≤ t → AsksNoneBelow nodes t named → AsksNoneBelow nodes s named
AsksNoneBelow-weaker nodes s t (Leaf state) below asks = tt
AsksNoneBelow-weaker nodes s t (Inner index) below asks = omega arith

abbrev node_with : ℕ → NodeRef → NodeRef → Node
node_with t low high = record { track = t; low = low; high = high }

pub same_node : (a b : Node) → a.track ≡ b.track → a.low ≡ b.low → a.high ≡ b.high → a ≡ b
same_node a b e f g =
    ap (λ (t : ℕ). node_with t a.low a.high) e ∙ ap (λ (r : NodeRef). node_with b.track r a.high) f ∙ ap (λ (r : NodeRef). node_with b.track b.low r) g

module _ (nodes : List Node) (canonical : AreCanonical nodes) where
  -- what a node's low side names
  low_at : ℕ → Named
  low_at i = node_of (node_at nodes i).low

  high_at : ℕ → Named
  high_at i = node_of (node_at nodes i).high

  low_valid : (i : ℕ) → i < length nodes → IsNamedIn nodes (low_at i)
  unfolding low_at
  low_valid i within = IsNamedIn-rank nodes _ (let side = canonical.low i within in omega (arith, side.before))

  high_valid : (i : ℕ) → i < length nodes → IsNamedIn nodes (high_at i)
  unfolding high_at
  high_valid i within = IsNamedIn-rank nodes _ (let side = canonical.high i within in omega (arith, side.before))

  low_rank : (i : ℕ) → i < length nodes → rank (low_at i) ≤ i
  unfolding low_at
  low_rank i within = (canonical.low i within).before

  high_rank : (i : ℕ) → i < length nodes → rank (high_at i) ≤ i
  unfolding high_at
  high_rank i within = (canonical.high i within).before

  low_later : (i : ℕ) → i < length nodes → AsksNoneBelow nodes (suc (node_at nodes i).track) (low_at i)
  unfolding low_at
  low_later i within = (canonical.low i within).later

  high_later : (i : ℕ) → i < length nodes → AsksNoneBelow nodes (suc (node_at nodes i).track) (high_at i)
  unfolding high_at
  high_later i within = (canonical.high i within).later

  inner_states : (i : ℕ) (label : Label) → i < length nodes → state_named nodes (Inner i) label
      ≡ (if label (node_at nodes i).track then state_named nodes (high_at i) label else state_named nodes
      (low_at i) label)
  unfolding low_at high_at
  inner_states i label within = state_named-inner nodes i label within (low_rank i within) (high_rank i within)

  unasked_up_to : (k : ℕ) (named : Named) (t : ℕ) (l m : Label) → rank named ≤ k → IsNamedIn nodes named →
      AsksNoneBelow nodes t named → ((u : ℕ) → t ≤ u → l u ≡ m u) → state_named nodes named l
      ≡ state_named nodes named m
  unasked_up_to k (Leaf state) t l m below valid asks agree = state_named-leaf nodes state l ∙ sym (state_named-leaf nodes state m)
  unasked_up_to zero (Inner i) t l m below valid asks agree = absurd (omega arith)
  unasked_up_to (suc k) (Inner i) t l m below valid asks agree =
      let track = (node_at nodes i).track in
      inner_states i l valid
      ∙ ap (λ (b : Bool). if b then state_named nodes (high_at i) l else state_named nodes (low_at i) l) (agree track asks)
      ∙ if_same (m track) _ _ _ _
      (unasked_up_to k (high_at i) t l m (let r = high_rank i valid in omega arith) (high_valid i valid)
      (AsksNoneBelow-weaker nodes t (suc track) _ (omega arith) (high_later i valid)) agree)
      (unasked_up_to k (low_at i) t l m (let r = low_rank i valid in omega arith) (low_valid i valid)
      (AsksNoneBelow-weaker nodes t (suc track) _ (omega arith) (low_later i valid)) agree)
      ∙ sym (inner_states i m valid)

  -- what isn't asked doesn't matter
  pub state_named-unasked : (named : Named) (t : ℕ) (l m : Label) → IsNamedIn nodes named →
      AsksNoneBelow nodes t named → ((u : ℕ) → t ≤ u → l u ≡ m u) → state_named nodes named l
      ≡ state_named nodes named m
  state_named-unasked named t l m valid asks agree = unasked_up_to (rank named) named t l m (omega arith) valid asks agree

  pick : ℕ → Bool → Named
  pick i bit = if bit then high_at i else low_at i

  side_states : (i : ℕ) (bit : Bool) (label : Label) → i < length nodes → state_named nodes (pick i bit) label
      ≡ state_named nodes (Inner i) (with_track label (node_at nodes i).track bit)
  unfolding pick
  side_states i true label within =
      let t = (node_at nodes i).track in
      state_named-unasked (high_at i) (suc t) label (with_track label t true) (high_valid i within)
      (high_later i within) (λ u later. sym (with_track-later label t u true later))
      ∙ ap (λ (b : Bool). if b then state_named nodes (high_at i) (with_track label t true) else state_named nodes
      (low_at i) (with_track label t true)) (sym (with_track-same label t true))
      ∙ sym (inner_states i (with_track label t true) within)
  side_states i false label within =
      let t = (node_at nodes i).track in
      state_named-unasked (low_at i) (suc t) label (with_track label t false) (low_valid i within)
      (low_later i within) (λ u later. sym (with_track-later label t u false later))
      ∙ ap (λ (b : Bool). if b then state_named nodes (high_at i) (with_track label t false) else state_named nodes
      (low_at i) (with_track label t false)) (sym (with_track-same label t false))
      ∙ sym (inner_states i (with_track label t false) within)

  low_states : (i : ℕ) (label : Label) → i < length nodes → state_named nodes (low_at i) label
      ≡ state_named nodes (Inner i) (with_track label (node_at nodes i).track false)
  unfolding pick
  low_states i label within = side_states i false label within

  high_states : (i : ℕ) (label : Label) → i < length nodes → state_named nodes (high_at i) label
      ≡ state_named nodes (Inner i) (with_track label (node_at nodes i).track true)
  unfolding pick
  high_states i label within = side_states i true label within

  sides_differ : (i : ℕ) → i < length nodes → low_at i ≡ high_at i → ⊥
  unfolding low_at high_at
  sides_differ i within same = canonical.differ i within (node_of-injective _ _ same)

  same_index : (i j : ℕ) → i < length nodes → j < length nodes → (node_at nodes i).track ≡ (node_at nodes j).track →
      low_at i ≡ low_at j → high_at i ≡ high_at j → i ≡ j
  unfolding low_at high_at
  same_index i j i_in j_in tracks lows highs =
      canonical.once i j i_in j_in (same_node _ _ tracks (node_of-injective _ _ lows) (node_of-injective _ _ highs))

  -- a function that doesn't ask the track of node i isn't node i's, as the sides would be equal
  sides_same_where_unasked : (i : ℕ) (named : Named) → i < length nodes → IsNamedIn nodes named →
      AsksNoneBelow nodes (suc (node_at nodes i).track) named →
      ((label : Label) → state_named nodes (Inner i) label ≡ state_named nodes named label) → (label : Label) →
      state_named nodes (low_at i) label ≡ state_named nodes (high_at i) label
  sides_same_where_unasked i named within valid asks same label =
      let t = (node_at nodes i).track in
      low_states i label within
      ∙ same (with_track label t false)
      ∙ state_named-unasked named (suc t) (with_track label t false) (with_track label t true) valid asks
      (λ u later. with_track-later label t u false later ∙ sym (with_track-later label t u true later))
      ∙ sym (same (with_track label t true))
      ∙ sym (high_states i label within)

  equal_up_to : (k : ℕ) (a b : Named) → rank a ≤ k → rank b ≤ k → IsNamedIn nodes a → IsNamedIn nodes b →
      ((label : Label) → state_named nodes a label ≡ state_named nodes b label) → a ≡ b
  equal_up_to k (Leaf s) (Leaf u) a_below b_below a_valid b_valid same =
      ap Leaf (sym (state_named-leaf nodes s (λ _. false)) ∙ same (λ _. false) ∙ state_named-leaf nodes u (λ _. false))
  equal_up_to zero (Leaf s) (Inner j) a_below b_below a_valid b_valid same = absurd (omega arith)
  equal_up_to zero (Inner i) (Leaf u) a_below b_below a_valid b_valid same = absurd (omega arith)
  equal_up_to zero (Inner i) (Inner j) a_below b_below a_valid b_valid same = absurd (omega arith)
  equal_up_to (suc k) (Leaf s) (Inner j) a_below b_below a_valid b_valid same =
      absurd (sides_differ j b_valid (equal_up_to k (low_at j) (high_at j)
      (let r = low_rank j b_valid in omega arith) (let r = high_rank j b_valid in omega arith) (low_valid j b_valid) (high_valid j b_valid)
      (sides_same_where_unasked j (Leaf s) b_valid tt tt (λ l. sym (same l)))))
  equal_up_to (suc k) (Inner i) (Leaf u) a_below b_below a_valid b_valid same =
      absurd (sides_differ i a_valid (equal_up_to k (low_at i) (high_at i)
      (let r = low_rank i a_valid in omega arith) (let r = high_rank i a_valid in omega arith) (low_valid i a_valid) (high_valid i a_valid)
      (sides_same_where_unasked i (Leaf u) a_valid tt tt same)))
  equal_up_to (suc k) (Inner i) (Inner j) a_below b_below a_valid b_valid same =
      let t = (node_at nodes i).track in
      let u = (node_at nodes j).track in
      elim (cases_lt t u) [
        | inl below ↦ absurd (sides_differ i a_valid (equal_up_to k (low_at i) (high_at i)
            (let r = low_rank i a_valid in omega arith) (let r = high_rank i a_valid in omega arith) (low_valid i a_valid) (high_valid i a_valid)
            (sides_same_where_unasked i (Inner j) a_valid b_valid below same)))
        | inr not_below ↦ elim (cases_lt u t) [
          | inl above ↦ absurd (sides_differ j b_valid (equal_up_to k (low_at j) (high_at j)
              (let r = low_rank j b_valid in omega arith) (let r = high_rank j b_valid in omega arith) (low_valid j b_valid) (high_valid j b_valid)
              (sides_same_where_unasked j (Inner i) b_valid a_valid above (λ l. sym (same l)))))
          | inr not_above ↦
              let tracks : t ≡ u = omega arith in
              ap Inner (same_index i j a_valid b_valid tracks
              (equal_up_to k (low_at i) (low_at j) (let r = low_rank i a_valid in omega arith)
              (let r = low_rank j b_valid in omega arith) (low_valid i a_valid) (low_valid j b_valid)
              (λ l. low_states i l a_valid ∙ same (with_track l t false)
              ∙ ap (λ (v : ℕ). state_named nodes (Inner j) (with_track l v false)) tracks
              ∙ sym (low_states j l b_valid)))
              (equal_up_to k (high_at i) (high_at j) (let r = high_rank i a_valid in omega arith)
              (let r = high_rank j b_valid in omega arith) (high_valid i a_valid) (high_valid j b_valid)
              (λ l. high_states i l a_valid ∙ same (with_track l t true)
              ∙ ap (λ (v : ℕ). state_named nodes (Inner j) (with_track l v true)) tracks
              ∙ sym (high_states j l b_valid))))
        ]
      ]

  -- equal functions have equal references
  pub equal_named : (a b : Named) → IsNamedIn nodes a → IsNamedIn nodes b → ((label : Label) → state_named nodes a label ≡ state_named nodes b label) → a ≡ b
  equal_named a b a_valid b_valid same =
      equal_up_to (rank a + rank b) a b (omega arith) (omega arith) a_valid b_valid same

  -- a label for which the two are different
  abbrev pub Differ : Named → Named → Type 0
  Differ a b = (label : Label) × (state_named nodes a label ≡ state_named nodes b label → ⊥)

  Differ-flipped : (a b : Named) → Differ a b → Differ b a
  Differ-flipped a b h = (h.0, λ e. h.1 (sym e))

  -- where the sides of node i differ, so do its function and one that doesn't ask its track, with the track set or unset
  inner_differs : (i : ℕ) (named : Named) → i < length nodes → IsNamedIn nodes named → AsksNoneBelow nodes (suc (node_at nodes i).track) named →
      Differ (low_at i) (high_at i) → Differ (Inner i) named
  inner_differs i named within valid asks sides =
      let t = (node_at nodes i).track in
      let l = sides.0 in
      let same : state_named nodes named (with_track l t false) ≡ state_named nodes named (with_track l t true) =
      state_named-unasked named (suc t) (with_track l t false) (with_track l t true) valid asks
      (λ u later. with_track-later l t u false later ∙ sym (with_track-later l t u true later)) in
      elim (cases_eq (state_named nodes (low_at i) l) (state_named nodes named (with_track l t false))) as (λ _. Differ (Inner i) named) [
        | inl low ↦ (with_track l t true, λ e. sides.1 (low ∙ same ∙ sym e ∙ sym (high_states i l within)))
        | inr low ↦ (with_track l t false, λ e. low (low_states i l within ∙ e))
      ]

  Differ-leaves : (s u : ℕ) → (s ≡ u → ⊥) → Differ (Leaf s) (Leaf u)
  Differ-leaves s u other = (
    (λ _. false),
    (λ e. other (sym (state_named-leaf nodes s (λ _. false)) ∙ e ∙ state_named-leaf nodes u (λ _. false))),
  )

  Differ-low : (i j : ℕ) → i < length nodes → j < length nodes → (node_at nodes i).track ≡ (node_at nodes j).track →
      Differ (low_at i) (low_at j) → Differ (Inner i) (Inner j)
  Differ-low i j i_in j_in tracks h = (
    with_track h.0 (node_at nodes i).track false,
    (λ e. h.1 (low_states i h.0 i_in ∙ e ∙ ap (λ (v : ℕ). state_named nodes (Inner j) (with_track h.0 v false)) tracks
        ∙ sym (low_states j h.0 j_in))),
  )

  Differ-high : (i j : ℕ) → i < length nodes → j < length nodes → (node_at nodes i).track ≡ (node_at nodes j).track →
      Differ (high_at i) (high_at j) → Differ (Inner i) (Inner j)
  Differ-high i j i_in j_in tracks h = (
    with_track h.0 (node_at nodes i).track true,
    (λ e. h.1 (high_states i h.0 i_in ∙ e ∙ ap (λ (v : ℕ). state_named nodes (Inner j) (with_track h.0 v true)) tracks
        ∙ sym (high_states j h.0 j_in))),
  )

  -- where both sides are the same or differ, so are the nodes of one track
  inner_apart : (i j : ℕ) → i < length nodes → j < length nodes → (node_at nodes i).track ≡ (node_at nodes j).track →
      (low_at i ≡ low_at j) ⊎ Differ (low_at i) (low_at j) → (high_at i ≡ high_at j) ⊎ Differ (high_at i) (high_at j) →
      (Inner i ≡ Inner j) ⊎ Differ (Inner i) (Inner j)
  inner_apart i j i_in j_in tracks (inr lows) highs = inr (Differ-low i j i_in j_in tracks lows)
  inner_apart i j i_in j_in tracks (inl lows) (inr highs) = inr (Differ-high i j i_in j_in tracks highs)
  inner_apart i j i_in j_in tracks (inl lows) (inl highs) = inl (ap Inner (same_index i j i_in j_in tracks lows highs))

  -- the sides of a node differ, where it is known of them that they are the same or differ
  sides_apart : (i : ℕ) → i < length nodes → (low_at i ≡ high_at i) ⊎ Differ (low_at i) (high_at i) → Differ (low_at i) (high_at i)
  sides_apart i within (inl same) = absurd (sides_differ i within same)
  sides_apart i within (inr differ) = differ

  apart_up_to : (k : ℕ) (a b : Named) → rank a ≤ k → rank b ≤ k → IsNamedIn nodes a → IsNamedIn nodes b → (a ≡ b) ⊎ Differ a b
  apart_up_to k (Leaf s) (Leaf u) a_below b_below a_valid b_valid =
      elim (cases_eq s u) as (λ _. (Leaf s ≡ Leaf u) ⊎ Differ (Leaf s) (Leaf u)) [
        | inl same ↦ inl (ap Leaf same)
        | inr other ↦ inr (Differ-leaves s u other)
      ]
  apart_up_to zero (Leaf s) (Inner j) a_below b_below a_valid b_valid = absurd (omega arith)
  apart_up_to zero (Inner i) (Leaf u) a_below b_below a_valid b_valid = absurd (omega arith)
  apart_up_to zero (Inner i) (Inner j) a_below b_below a_valid b_valid = absurd (omega arith)
  apart_up_to (suc k) (Leaf s) (Inner j) a_below b_below a_valid b_valid =
      let sides = sides_apart j b_valid (apart_up_to k (low_at j) (high_at j) (let r = low_rank j b_valid in omega arith)
      (let r = high_rank j b_valid in omega arith) (low_valid j b_valid) (high_valid j b_valid)) in
      inr (Differ-flipped (Inner j) (Leaf s) (inner_differs j (Leaf s) b_valid tt tt sides))
  apart_up_to (suc k) (Inner i) (Leaf u) a_below b_below a_valid b_valid =
      let sides = sides_apart i a_valid (apart_up_to k (low_at i) (high_at i) (let r = low_rank i a_valid in omega arith)
      (let r = high_rank i a_valid in omega arith) (low_valid i a_valid) (high_valid i a_valid)) in
      inr (inner_differs i (Leaf u) a_valid tt tt sides)
  apart_up_to (suc k) (Inner i) (Inner j) a_below b_below a_valid b_valid =
      let t = (node_at nodes i).track in
      let u = (node_at nodes j).track in
      elim (cases_lt t u) as (λ _. (Inner i ≡ Inner j) ⊎ Differ (Inner i) (Inner j)) [
        | inl below ↦ inr (inner_differs i (Inner j) a_valid b_valid below
            (sides_apart i a_valid (apart_up_to k (low_at i) (high_at i) (let r = low_rank i a_valid in omega arith)
            (let r = high_rank i a_valid in omega arith) (low_valid i a_valid) (high_valid i a_valid))))
        | inr not_below ↦ elim (cases_lt u t) as (λ _. (Inner i ≡ Inner j) ⊎ Differ (Inner i) (Inner j)) [
          | inl above ↦ inr (Differ-flipped (Inner j) (Inner i) (inner_differs j (Inner i) b_valid a_valid above
              (sides_apart j b_valid (apart_up_to k (low_at j) (high_at j) (let r = low_rank j b_valid in omega arith)
              (let r = high_rank j b_valid in omega arith) (low_valid j b_valid) (high_valid j b_valid)))))
          | inr not_above ↦
              let tracks : t ≡ u = omega arith in
              inner_apart i j a_valid b_valid tracks
              (apart_up_to k (low_at i) (low_at j) (let r = low_rank i a_valid in omega arith)
              (let r = low_rank j b_valid in omega arith) (low_valid i a_valid) (low_valid j b_valid))
              (apart_up_to k (high_at i) (high_at j) (let r = high_rank i a_valid in omega arith)
              (let r = high_rank j b_valid in omega arith) (high_valid i a_valid) (high_valid j b_valid))
        ]
      ]

  -- two that aren't the same differ for some label
  pub differ_named : (a b : Named) → IsNamedIn nodes a → IsNamedIn nodes b → (a ≡ b → ⊥) → Differ a b
  differ_named a b a_valid b_valid other = pick (apart_up_to (rank a + rank b) a b (omega arith) (omega arith) a_valid b_valid)
    where
      pick : (a ≡ b) ⊎ Differ a b → Differ a b
      pick (inl same) = absurd (other same)
      pick (inr differ) = differ

  -- for some label the state changes with the first track
  pub changes_named : (named : Named) (t : ℕ) → IsNamedIn nodes named → first_track nodes named ≡ Some t →
      (label : Label) × (state_named nodes named (with_track label t false) ≡ state_named nodes named (with_track label t true) → ⊥)
  changes_named (Leaf state) t valid first = absurd cc
  changes_named (Inner i) t valid first =
      let sides = differ_named (low_at i) (high_at i) (low_valid i valid) (high_valid i valid) (sides_differ i valid) in
      let track : (node_at nodes i).track ≡ t = cc in (
        sides.0,
        λ e. sides.1 (low_states i sides.0 valid
            ∙ ap (λ (v : ℕ). state_named nodes (Inner i) (with_track sides.0 v false)) track ∙ e
            ∙ sym (ap (λ (v : ℕ). state_named nodes (Inner i) (with_track sides.0 v true)) track) ∙ sym (high_states i sides.0 valid)),
      )
