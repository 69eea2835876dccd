-- Classes that are split by one root of each state.
use Rattle.std.proofs.Common.{◌≡◌, ℕ, ◌+◌, ◌<◌, true, List, [], ◌∷◌, ◌++◌, length, get_or, Option, Some, None, inl, inr}
use Rattle.std.proofs.Common.{sym, ◌∙◌, ap, arith, length-append}
use Rattle.std.specs.Prelude.{slice_get, unwrap_or, option_and_then, nat_eq}
use Rattle.std.specs.HashMap.{get, Updates}
use Rattle.std.proofs.lemmas.Bool.{cases_Bool, eqb-true}
use Rattle.std.proofs.lemmas.Option.{slice_get_within, slice_get-get_or}
use Rattle.bdd_nodes.specs.declared.node_ref.NodeRef.{NodeRef}
use Rattle.bdd_walk.specs.Laws.{and-left, and-right, same_word}
use Rattle.gta_theory.proofs.ListedLemmas.{slice_get-push}
use Rattle.gta_merge.specs.Told.{ByPair, same_pair, class_by, IsPairStep, had_one, gets_one, ShareClasses, AreApart}

-- the class that a state had; all had one where none is given
abbrev pub had_at : List ℕ → ℕ → ℕ
had_at before i = unwrap_or (slice_get before i) 0

-- the class by a root that may be missing
abbrev pub class_with : ByPair → ℕ → Option NodeRef → Option ℕ
class_with found had root = option_and_then (class_by found had) root

pair-same : (had h : ℕ) (root r : NodeRef) → same_pair (had, root) (h, r) ≡ true → ◌≡◌ {A = ℕ × NodeRef} (had, root) (h, r)
pair-same had h root r same =
    ap (λ (k : ℕ). let p : ℕ × NodeRef = (k, root) in p) (eqb-true had h (and-left (nat_eq had h) (nat_eq root.word r.word) same))
    ∙ ap (λ (k : NodeRef). let p : ℕ × NodeRef = (h, k) in p) (same_word root r (and-right (nat_eq had h) (nat_eq root.word r.word) same))

-- what a pair has stays
kept-gets : (before after : ByPair) (had : ℕ) (root : NodeRef) (class : ℕ) → class_by before had root ≡ None →
    Updates same_pair before after (had, root) (Some class) → (h : ℕ) (r : NodeRef) (c : ℕ) → class_by before h r ≡ Some c →
    class_by after h r ≡ Some c
kept-gets before after had root class absent updates h r c there = elim (cases_Bool (same_pair (had, root) (h, r))) [
  | inl same ↦ absurd (let e : None ≡ Some c = sym absent ∙ ap (get same_pair before) (pair-same had h root r same) ∙ there in cc)
  | inr apart ↦ updates.2 (h, r) apart ∙ there
]

step-kept : (before after : ByPair) (had : ℕ) (root : NodeRef) (class : ℕ) → IsPairStep had root before after class →
    (h : ℕ) (r : NodeRef) (c : ℕ) → class_by before h r ≡ Some c → class_by after h r ≡ Some c
step-kept before _ had root _ (had_one class found) h r c there = there
step-kept before _ had root _ (gets_one after class absent updates) h r c there = kept-gets before after had root class absent updates h r c there

step-here : (before after : ByPair) (had : ℕ) (root : NodeRef) (class : ℕ) → IsPairStep had root before after class →
    class_by after had root ≡ Some class
step-here before _ had root _ (had_one class found) = found
step-here before _ had root _ (gets_one after class absent updates) = updates.1

with-kept : (before after : ByPair) → ((h : ℕ) (r : NodeRef) (c : ℕ) → class_by before h r ≡ Some c → class_by after h r ≡ Some c) →
    (h c : ℕ) (root : Option NodeRef) → class_with before h root ≡ Some c → class_with after h root ≡ Some c
with-kept before after kept h c None there = absurd cc
with-kept before after kept h c (Some r) there = kept h r c there

module _ (root : ℕ → ℕ → Option NodeRef) (states before : List ℕ) (other : ℕ) where
  -- the classes of the first states
  pub record SplitBelow (found : ByPair) (classes : List ℕ) (below : ℕ) : Type 0 where
    pub many : length classes ≡ below
    pub each : (i q class : ℕ) → slice_get states i ≡ Some q → slice_get classes i ≡ Some class →
        class_with found (had_at before i) (root q other) ≡ Some class

  pub SplitBelow-none : (found : ByPair) → SplitBelow found [] 0
  SplitBelow-none found = record { many = omega arith; each = λ i q class at there. absurd cc }

  pub SplitBelow-step : (found after : ByPair) (classes : List ℕ) (below state : ℕ) (r : NodeRef) (class : ℕ) → SplitBelow found classes below →
      slice_get states below ≡ Some state → root state other ≡ Some r → IsPairStep (had_at before below) r found after class →
      SplitBelow after (classes ++ class ∷ []) (below + 1)
  SplitBelow-step found after classes below state r class so_far at is step = record {
    many = length-append classes (class ∷ []) ∙ (let m = so_far.many in omega arith);
    each = λ i q c q_at c_at. elim (slice_get-push classes class c i c_at) [
      | inl was ↦
          with-kept found after (step-kept found after (had_at before below) r class step) (had_at before i) c (root q other) (so_far.each i q c q_at was)
      | inr last ↦
          let is_below : below ≡ i = sym so_far.many ∙ sym last.0 in
          let e : Some state ≡ Some q = sym at ∙ ap (slice_get states) is_below ∙ q_at in
          let same : state ≡ q = cc in
          ap (λ (k : ℕ). class_with after (had_at before k) (root q other)) (sym is_below)
          ∙ ap (λ (k : ℕ). class_with after (had_at before below) (root k other)) (sym same)
          ∙ ap (class_with after (had_at before below)) is
          ∙ step-here found after (had_at before below) r class step
          ∙ ap (λ (k : ℕ). let o : Option ℕ = Some k in o) last.1
    ];
  }

  pub ShareClasses-all : (found : ByPair) (classes : List ℕ) → SplitBelow found classes (length states) → ShareClasses root states before →
      ShareClasses root states classes
  ShareClasses-all found classes all share i j q r q_at r_at like =
      let i_in = slice_get_within states i q q_at in
      let j_in = slice_get_within states j r r_at in
      let m = all.many in
      let first = slice_get-get_or classes i 0 (omega arith) in
      let second = slice_get-get_or classes j 0 (omega arith) in
      first
      ∙ sym (all.each i q (get_or classes i 0) q_at first)
      ∙ ap (λ (o : Option ℕ). class_with found (unwrap_or o 0) (root q other)) (share i j q r q_at r_at like)
      ∙ ap (class_with found (had_at before j)) (like other)
      ∙ all.each j r (get_or classes j 0) r_at second
      ∙ sym second

-- one state at most
pub AreApart-few : (root : ℕ → ℕ → Option NodeRef) (states : List ℕ) → length states < 2 → AreApart root states
AreApart-few root states few i j q r q_at r_at like =
    let i_in = slice_get_within states i q q_at in
    let j_in = slice_get_within states j r r_at in
    let is : i ≡ j = omega arith in
    let e : Some q ≡ Some r = sym q_at ∙ ap (slice_get states) is ∙ r_at in
    cc

-- where each state is the first of its class
pub AreApart-own : (root : ℕ → ℕ → Option NodeRef) (states : List ℕ) → ShareClasses root states states → AreApart root states
AreApart-own root states share i j q r q_at r_at like =
    let e : Some q ≡ Some r = sym q_at ∙ share i j q r q_at r_at like ∙ r_at in cc
