-- The functions under a function are those of the references that are reached.
use Rattle.std.proofs.Common.{◌≡◌, ◌⊎◌, ℕ, suc, zero, ◌<◌, ◌≤◌, Bool, true, false, List, eqb, ltb, max, if◌then◌else◌, None}
use Rattle.std.proofs.Common.{sym, ◌∙◌, ap, refl, subst, inl, inr, arith}
use Rattle.std.proofs.lemmas.Bool.{cases_lt}
use Rattle.std.proofs.lemmas.Bool.Decides.{nat_tests}
use Rattle.bdd_nodes.specs.declared.node_ref.NodeRef.{NodeRef}
use Rattle.bdd_nodes.specs.declared.node_ref.Named.{Named}
use Rattle.bdd_nodes.specs.declared.node_ref.Named.TheVariants.{Leaf, Inner}
use Rattle.bdd_nodes.specs.declared.node.Node.{Node}
use Rattle.labels.specs.Labels.{Label, with_below, IsUnder}
use Rattle.labels.proofs.LabelsLemmas.{with_below-under, with_below-from}
use Rattle.bdd_nodes.specs.Nodes.{node_of, rank, node_at, state_named, IsNamedIn, AsksNoneBelow}
use Rattle.bdd_nodes.specs.Shelf.{Contents, IsShelf, IsValid, state_of, low_named, high_named, roots_of, tables_added}
use Rattle.bdd_nodes.specs.Changes.{Reaches, itself, by_low, by_high, ReachesFunction}
use Rattle.bdd_nodes.proofs.NodesLemmas.{state_named-inner}
use Rattle.bdd_nodes.proofs.CanonicalLemmas.{IsNamedIn-rank, state_named-unasked}
use Rattle.bdd_nodes.proofs.RootsLemmas.{roots_under-none}

AsksNoneBelow-zero : (nodes : List Node) (named : Named) → AsksNoneBelow nodes 0 named
AsksNoneBelow-zero nodes (Leaf state) = tt
AsksNoneBelow-zero nodes (Inner index) = omega arith

pick-if : (b c : Bool) (x y : ℕ) → b ≡ c → (if b then x else y) ≡ (if c then x else y)
pick-if b c x y same = ap (λ (d : Bool). if d then x else y) same

true_or_false : (b : Bool) → (b ≡ true) ⊎ (b ≡ false)
true_or_false true = inl refl
true_or_false false = inr refl

if_true : (b : Bool) → (if true then b else false) ≡ b
if_true b = refl

pick-first : (k : ℕ) (fixed : Label) (t : ℕ) (bit : Bool) (u : ℕ) → u < k → (if ltb u k then fixed u else (if eqb u t then bit else false)) ≡ fixed u
pick-first k fixed t bit u first =
    ap (λ (b : Bool). if b then fixed u else (if eqb u t then bit else false)) (let e : ltb u k
    ≡ true = grind (arith, nat_tests) in e)

pick-second : (k : ℕ) (fixed : Label) (t : ℕ) (bit : Bool) (u : ℕ) → k ≤ u →
    (if ltb u k then fixed u else (if eqb u t then bit else false)) ≡ (if eqb u t then bit else false)
pick-second k fixed t bit u not_first =
    ap (λ (b : Bool). if b then fixed u else (if eqb u t then bit else false)) (let e : ltb u k
    ≡ false = grind (arith, nat_tests) in e)

module _ (shelf : Contents) (is_shelf : IsShelf shelf) where
  -- labels that agree at every track give the same state
  same_label : (named : Named) (l m : Label) → IsNamedIn shelf.nodes named → ((t : ℕ) → l t ≡ m t) →
      state_named shelf.nodes named l ≡ state_named shelf.nodes named m
  same_label named l m valid agree =
      state_named-unasked shelf.nodes is_shelf.canonical named 0 l m valid (AsksNoneBelow-zero shelf.nodes named) (λ u above. agree u)

  -- what is reached where the tracks below k are fixed
  record IsReachedFrom (from : NodeRef) (named : Named) (k : ℕ) (fixed : Label) : Type 0 where
    at : NodeRef
    valid : IsNamedIn shelf.nodes (node_of at)
    reached : Reaches shelf.nodes from at
    states : (label : Label) → state_named shelf.nodes (node_of at) label ≡ state_named shelf.nodes named (with_below k fixed label)

  stays : (from r : NodeRef) (named : Named) (k : ℕ) (fixed : Label) → node_of r ≡ named →
      Reaches shelf.nodes from r → IsNamedIn shelf.nodes named → AsksNoneBelow shelf.nodes k named →
      IsReachedFrom from named k fixed
  stays from r named k fixed names reached valid asks = record {
    at = r;
    valid = subst (IsNamedIn shelf.nodes) (sym names) valid;
    reached = reached;
    states = λ label. ap (λ (m : Named). state_named shelf.nodes m label) names
        ∙ state_named-unasked shelf.nodes is_shelf.canonical named k label (with_below k fixed label) valid asks
        (λ u above. sym (with_below-from k fixed label u above));
  }

  reach : (n : ℕ) (from r : NodeRef) (named : Named) (k : ℕ) (fixed : Label) → node_of r ≡ named → rank named ≤ n →
      Reaches shelf.nodes from r → IsNamedIn shelf.nodes named → IsReachedFrom from named k fixed
  reach n from r (Leaf state) k fixed names below reached valid = stays from r (Leaf state) k fixed names reached valid tt
  reach zero from r (Inner p) k fixed names below reached valid = absurd (omega arith)
  reach (suc n) from r (Inner p) k fixed names below reached valid = elim (cases_lt (node_at shelf.nodes p).track k) [
    | inr not_below ↦ stays from r (Inner p) k fixed names reached valid not_below
    | inl asked ↦
        let t = (node_at shelf.nodes p).track in
        let low = is_shelf.canonical.low p valid in
        let high = is_shelf.canonical.high p valid in
        elim (true_or_false (fixed t)) [
          | inl set ↦
              let further = reach n from (node_at shelf.nodes p).high (node_of (node_at shelf.nodes p).high) k fixed refl (let b = high.before in omega arith)
              (subst (Reaches shelf.nodes from) (ap (high_named shelf.nodes r) names) (by_high r reached))
              (IsNamedIn-rank shelf.nodes _ (let b = high.before in omega arith)) in
              record {
                at = further.at;
                valid = further.valid;
                reached = further.reached;
                states = λ label. further.states label ∙ sym (state_named-inner shelf.nodes p (with_below k fixed label) valid low.before high.before
                    ∙ pick-if (with_below k fixed label t) true _ _ (with_below-under k fixed label t asked ∙ set));
              }
          | inr unset ↦
              let further = reach n from (node_at shelf.nodes p).low (node_of (node_at shelf.nodes p).low) k fixed refl (let b = low.before in omega arith)
              (subst (Reaches shelf.nodes from) (ap (low_named shelf.nodes r) names) (by_low r reached))
              (IsNamedIn-rank shelf.nodes _ (let b = low.before in omega arith)) in
              record {
                at = further.at;
                valid = further.valid;
                reached = further.reached;
                states = λ label. further.states label ∙ sym (state_named-inner shelf.nodes p (with_below k fixed label) valid low.before high.before
                    ∙ pick-if (with_below k fixed label t) false _ _ (with_below-under k fixed label t asked ∙ unset));
              }
        ]
  ]

  -- what a function becomes where its first tracks are fixed is reached
  pub ReachesFunction-fixed : (from : NodeRef) (k : ℕ) (fixed : Label) → IsValid shelf from →
      ReachesFunction shelf from (λ label. state_of shelf from (with_below k fixed label))
  ReachesFunction-fixed from k fixed valid =
      let there = reach (rank (node_of from)) from from (node_of from) k fixed refl (omega arith) itself valid in
      record { at = there.at; valid = there.valid; reached = there.reached; states = there.states }

  -- a reference that is reached is valid and stands for a function under the first one's
  record IsUnderAt (from : NodeRef) (named : Named) : Type 0 where
    valid : IsNamedIn shelf.nodes named
    below : ℕ
    fixed : Label
    states : (label : Label) → state_named shelf.nodes named label ≡ state_named shelf.nodes (node_of from) (with_below below fixed label)

  -- the tracks up to t are fixed after those below k
  both : ℕ → Label → ℕ → Bool → Label
  both k fixed t bit = λ u. if ltb u k then fixed u else (if eqb u t then bit else false)

  agree : (k : ℕ) (fixed : Label) (t : ℕ) (bit : Bool) (label : Label) (u : ℕ) →
      with_below k fixed (with_below (suc t) (λ v. if eqb v t then bit else false) label) u
      ≡ with_below (max k (suc t)) (both k fixed t bit) label u
  unfolding both
  agree k fixed t bit label u =
      let only : Label = λ v. if eqb v t then bit else false in
      let second_label : Label = with_below (suc t) only label in
      elim (cases_lt u k) [
        | inl first ↦ with_below-under k fixed second_label u first
            ∙ sym (with_below-under (max k (suc t)) (both k fixed t bit) label u (omega arith)
            ∙ pick-first k fixed t bit u first)
        | inr not_first ↦ with_below-from k fixed second_label u not_first ∙ elim (cases_lt u (suc t)) [
          | inl second ↦ with_below-under (suc t) only label u second
              ∙ sym (with_below-under (max k (suc t)) (both k fixed t bit) label u (omega arith)
              ∙ pick-second k fixed t bit u not_first)
          | inr later ↦ with_below-from (suc t) only label u later ∙ sym (with_below-from (max k (suc t)) (both k fixed t bit) label u (omega arith))
        ]
      ]

  bit_at : (t : ℕ) (bit : Bool) (label : Label) → with_below (suc t) (λ v. if eqb v t then bit else false) label t ≡ bit
  bit_at t bit label = with_below-under (suc t) (λ v. if eqb v t then bit else false) label t (omega arith)
      ∙ ap (λ (b : Bool). if b then bit else false) (let e : eqb t t ≡ true = grind (arith, nat_tests) in e) ∙ if_true bit

  -- one side further
  module _ (from : NodeRef) (p : ℕ) (so_far : IsUnderAt from (Inner p)) (from_valid : IsNamedIn shelf.nodes (node_of from)) where
    track : ℕ
    track = (node_at shelf.nodes p).track

    -- what a side gives is what the node gives where the tracks up to its own are fixed
    side_states : (bit : Bool) (named : Named) → IsNamedIn shelf.nodes named →
        AsksNoneBelow shelf.nodes (suc (node_at shelf.nodes p).track) named →
        ((label : Label) → label (node_at shelf.nodes p).track ≡ bit → state_named shelf.nodes (Inner p) label
        ≡ state_named shelf.nodes named label) → (label : Label) → state_named shelf.nodes named label
        ≡ state_named shelf.nodes (node_of from)
        (with_below (max so_far.below (suc (node_at shelf.nodes p).track))
        (both so_far.below so_far.fixed (node_at shelf.nodes p).track bit) label)
    side_states bit named valid asks picks label =
        let t = (node_at shelf.nodes p).track in
        let only : Label = λ v. if eqb v t then bit else false in
        let fixed_label : Label = with_below (suc t) only label in
        state_named-unasked shelf.nodes is_shelf.canonical named (suc t) label fixed_label valid asks
        (λ u above. sym (with_below-from (suc t) only label u above))
        ∙ sym (picks fixed_label (bit_at t bit label))
        ∙ so_far.states fixed_label
        ∙ same_label (node_of from) (with_below so_far.below so_far.fixed fixed_label)
        (with_below (max so_far.below (suc t)) (both so_far.below so_far.fixed t bit) label) from_valid
        (agree so_far.below so_far.fixed t bit label)

    under_low : IsUnderAt from (node_of (node_at shelf.nodes p).low)
    under_low =
        let low = is_shelf.canonical.low p so_far.valid in
        let high = is_shelf.canonical.high p so_far.valid in
        let valid = IsNamedIn-rank shelf.nodes (node_of (node_at shelf.nodes p).low) (let b = low.before in let v = so_far.valid in omega arith) in
        record {
          valid = valid;
          below = max so_far.below (suc (node_at shelf.nodes p).track);
          fixed = both so_far.below so_far.fixed (node_at shelf.nodes p).track false;
          states = side_states false (node_of (node_at shelf.nodes p).low) valid low.later (λ label unset.
              state_named-inner shelf.nodes p label so_far.valid low.before high.before ∙ pick-if (label (node_at shelf.nodes p).track) false _ _ unset);
        }

    under_high : IsUnderAt from (node_of (node_at shelf.nodes p).high)
    under_high =
        let low = is_shelf.canonical.low p so_far.valid in
        let high = is_shelf.canonical.high p so_far.valid in
        let valid = IsNamedIn-rank shelf.nodes (node_of (node_at shelf.nodes p).high) (let b = high.before in let v = so_far.valid in omega arith) in
        record {
          valid = valid;
          below = max so_far.below (suc (node_at shelf.nodes p).track);
          fixed = both so_far.below so_far.fixed (node_at shelf.nodes p).track true;
          states = side_states true (node_of (node_at shelf.nodes p).high) valid high.later (λ label set.
              state_named-inner shelf.nodes p label so_far.valid low.before high.before ∙ pick-if (label (node_at shelf.nodes p).track) true _ _ set);
        }

  under_low_named : (from q : NodeRef) (named : Named) → node_of q ≡ named → IsNamedIn shelf.nodes (node_of from) →
      IsUnderAt from named → IsUnderAt from (node_of (low_named shelf.nodes q named))
  under_low_named from q (Leaf state) names valid so_far = subst (IsUnderAt from) (sym names) so_far
  under_low_named from q (Inner p) names valid so_far = under_low from p so_far valid

  under_high_named : (from q : NodeRef) (named : Named) → node_of q ≡ named → IsNamedIn shelf.nodes (node_of from) →
      IsUnderAt from named → IsUnderAt from (node_of (high_named shelf.nodes q named))
  under_high_named from q (Leaf state) names valid so_far = subst (IsUnderAt from) (sym names) so_far
  under_high_named from q (Inner p) names valid so_far = under_high from p so_far valid

  under : (from r : NodeRef) → IsNamedIn shelf.nodes (node_of from) → Reaches shelf.nodes from r → IsUnderAt from (node_of r)
  under from r valid itself = record {
    valid = valid;
    below = 0;
    fixed = λ t. false;
    states = λ label. same_label (node_of from) label (with_below 0 (λ t. false) label) valid (λ u. sym (with_below-from 0 (λ t. false) label u (omega arith)));
  }
  under from r valid (by_low q reached) = under_low_named from q (node_of q) refl valid (under from q valid reached)
  under from r valid (by_high q reached) = under_high_named from q (node_of q) refl valid (under from q valid reached)

  -- what is reached is valid
  pub IsValid-reached : (from r : NodeRef) → IsValid shelf from → Reaches shelf.nodes from r → IsValid shelf r
  IsValid-reached from r valid reached = (under from r valid reached).valid

  -- what is reached stands for a function under the first one
  pub IsUnder-reached : (from r : NodeRef) → IsValid shelf from → Reaches shelf.nodes from r → IsUnder (state_of shelf from) (state_of shelf r)
  IsUnder-reached from r valid reached =
      let there = under from r valid reached in
      record { below = there.below; fixed = there.fixed; states = there.states }

  pub roots_of-unused : (number : ℕ) → tables_added shelf ≤ number → roots_of shelf number ≡ None
  roots_of-unused number unused = roots_under-none shelf.roots.tables number (λ i within same. let g = is_shelf.numbered.given i within in omega arith)
