-- Marks for the nodes under what is listed.
use Rattle.std.proofs.Common.{◌≡◌, ℕ, suc, ◌+◌, ◌<◌, ◌≤◌, Bool, true, false, List, [], length, Some, ◌⊎◌, inl, inr, if◌then◌else◌}
use Rattle.std.proofs.Common.{sym, ◌∙◌, ap, refl, subst, arith}
use Rattle.std.specs.Prelude.{slice_get, slice_index_or, Contains}
use Rattle.std.proofs.lemmas.List.{length-set}
use Rattle.std.proofs.lemmas.Bool.{cases_lt, false≢true}
use Rattle.std.proofs.Math.Path.{fun_ext}
use Rattle.std.proofs.lemmas.Option.{slice_get_within, slice_get-get_or}
use Rattle.labels.specs.Labels.{Label, Function, with_track, with_below, IsUnder}
use Rattle.labels.proofs.LabelsLemmas.{with_track-same, with_track-later, with_below-from, with_below-at, with_below-with_below}
use Rattle.labels.proofs.LabelsLemmas.{with_below-with_track, fixed_with}
use Rattle.bdd_list.specs.declared.listing.Listed.{Listed}
use Rattle.bdd_list.specs.declared.listing.Listed.TheVariants.{Leaf, Inner}
use Rattle.bdd_list.specs.declared.listing.ListedNode.{ListedNode}
use Rattle.bdd_list.specs.Listing.{node_at, function_in, AreOrdered}
use Rattle.bdd_list.proofs.ListingLemmas.{function_in-inner, function_in-unasked}
use Rattle.gta_classes.specs.Chosen.{is_marked}
use Rattle.gta_classes.proofs.ChosenLemmas.{marked-set, marked-set_same, marked-set_cases}
use Rattle.gta_reach.specs.declared.form.FormSpace.{FormSpace}
use Rattle.gta_reach.specs.Reached.{with_node, with_state, IsTouched, AreSidesTouched}
use Rattle.gta_reach.proofs.SweepLemmas.{AreSidesTouched-node}
use Rattle.gta_minimise.specs.Marked.{IsUnderListed, AreUnder, AreTouched}

-- ---- functions under others

pub IsUnder-itself : (f : Function) → IsUnder f f
IsUnder-itself f = record {
  below = 0;
  fixed = λ u. false;
  states = λ label. ap f (fun_ext (λ u. sym (with_below-from 0 (λ v. false) label u (omega arith))));
}

-- a side, which asks later tracks alone, is what a function under the whole becomes where its track is fixed
module _ (whole part side : Function) (track : ℕ) (bit : Bool)
    (later : (l m : Label) → ((u : ℕ) → suc track ≤ u → l u ≡ m u) → side l ≡ side m)
    (is_side : (label : Label) → label track ≡ bit → part label ≡ side label) (under : IsUnder whole part) where
  fixed-before : track < under.below → (label : Label) → side label ≡ whole (with_below under.below under.fixed label)
  fixed-before within label =
      later label (with_track label track bit) (λ u after. sym (with_track-later label track u bit after))
      ∙ sym (is_side (with_track label track bit) (with_track-same label track bit))
      ∙ under.states (with_track label track bit)
      ∙ ap whole (fun_ext (with_below-with_track under.below under.fixed label track bit within))

  fixed-now : under.below ≤ track → (label : Label) → side label ≡ whole (with_below (suc track) (fixed_with under.below under.fixed track bit) label)
  fixed-now within label =
      let fixed = fixed_with under.below under.fixed track bit in
      later label (with_below (suc track) fixed label) (λ u after. sym (with_below-from (suc track) fixed label u after))
      ∙ sym (is_side (with_below (suc track) fixed label) (with_below-at under.below under.fixed label track bit within))
      ∙ under.states (with_below (suc track) fixed label)
      ∙ ap whole (fun_ext (with_below-with_below under.below under.fixed label track bit within))

  pub IsUnder-side : IsUnder whole side
  IsUnder-side = elim (cases_lt track under.below) [
    | inl within ↦ record { below = under.below; fixed = under.fixed; states = fixed-before within }
    | inr within ↦ record { below = suc track; fixed = fixed_with under.below under.fixed track bit; states = fixed-now within }
  ]

-- ---- the sides of a node

module _ (nodes : List ListedNode) (ordered : AreOrdered nodes) (i : ℕ) (inside : i < length nodes) (roots : List Listed)
    (under : IsUnderListed nodes roots (function_in nodes (Inner i))) where
  picked : (label : Label) → function_in nodes (Inner i) label ≡ (if label (node_at nodes i).track then function_in nodes (node_at nodes i).high label
      else function_in nodes (node_at nodes i).low label)
  picked label = function_in-inner nodes i label inside (ordered.low i inside).before (ordered.high i inside).before

  pub under-low : IsUnderListed nodes roots (function_in nodes (node_at nodes i).low)
  under-low =
      let n = node_at nodes i in
      let side = ordered.low i inside in
      record {
        place = under.place;
        root = under.root;
        there = under.there;
        under = IsUnder-side (function_in nodes under.root) (function_in nodes (Inner i)) (function_in nodes n.low) n.track false
            (λ l m agree. function_in-unasked nodes ordered n.low (suc n.track) l m (let b = side.before in omega arith) side.later agree)
            (λ label unset. picked label ∙ ap (λ (b : Bool). if b then function_in nodes n.high label else function_in nodes n.low label) unset)
            under.under;
      }

  pub under-high : IsUnderListed nodes roots (function_in nodes (node_at nodes i).high)
  under-high =
      let n = node_at nodes i in
      let side = ordered.high i inside in
      record {
        place = under.place;
        root = under.root;
        there = under.there;
        under = IsUnder-side (function_in nodes under.root) (function_in nodes (Inner i)) (function_in nodes n.high) n.track true
            (λ l m agree. function_in-unasked nodes ordered n.high (suc n.track) l m (let b = side.before in omega arith) side.later agree)
            (λ label set. picked label ∙ ap (λ (b : Bool). if b then function_in nodes n.high label else function_in nodes n.low label) set)
            under.under;
      }

-- ---- marks

pub many-touch : (marks : List Bool) (listed : Listed) → length (with_node marks listed) ≡ length marks
many-touch marks (Leaf q) = refl
many-touch marks (Inner j) = length-set marks j true

pub kept-touch : (marks : List Bool) (listed : Listed) (i : ℕ) → is_marked marks i ≡ true → is_marked (with_node marks listed) i ≡ true
kept-touch marks (Leaf q) i marked = marked
kept-touch marks (Inner j) i marked = marked-set marks j i marked

-- what is marked is touched
pub touched-touch : (marks : List Bool) (listed : Listed) → IsTouched (with_node marks listed) [] listed
touched-touch marks (Leaf q) = λ inside. absurd (omega arith)
touched-touch marks (Inner j) = λ inside. marked-set_same marks j (let e = length-set marks j true in omega arith)

-- and stays so
pub touched-kept : (old new : List Bool) (listed : Listed) → length new ≡ length old →
    ((i : ℕ) → is_marked old i ≡ true → is_marked new i ≡ true) → IsTouched old [] listed → IsTouched new [] listed
touched-kept old new (Leaf q) many kept touched = touched
touched-kept old new (Inner j) many kept touched = λ inside. kept j (touched (omega arith))

pub AreUnder-touch : (nodes : List ListedNode) (roots : List Listed) (marks : List Bool) (listed : Listed) → AreUnder nodes roots marks →
    IsUnderListed nodes roots (function_in nodes listed) → AreUnder nodes roots (with_node marks listed)
AreUnder-touch nodes roots marks (Leaf q) so_far under = so_far
AreUnder-touch nodes roots marks (Inner j) so_far under = λ i marked. elim (marked-set_cases marks j i marked) [
  | inl old ↦ so_far i old
  | inr same ↦ subst (λ (k : ℕ). IsUnderListed nodes roots (function_in nodes (Inner k))) (sym same) under
]

-- ---- the roots

-- the first roots are marked
pub record TouchedBelow (roots : List Listed) (old new : List Bool) (below : ℕ) : Type 0 where
  pub many : length new ≡ length old
  pub touched : (k : ℕ) (root : Listed) → k < below → slice_get roots k ≡ Some root → IsTouched new [] root
  pub sound : (i : ℕ) → is_marked new i ≡ true → (is_marked old i ≡ true) ⊎ Contains roots (Inner i)

pub TouchedBelow-none : (roots : List Listed) (old : List Bool) → TouchedBelow roots old old 0
TouchedBelow-none roots old = record {
  many = refl;
  touched = λ k root k_in there. absurd (omega arith);
  sound = λ i marked. inl marked;
}

sound-touch : (roots : List Listed) (old new : List Bool) (place : ℕ) (listed : Listed) → slice_get roots place ≡ Some listed →
    ((i : ℕ) → is_marked new i ≡ true → (is_marked old i ≡ true) ⊎ Contains roots (Inner i)) →
    (i : ℕ) → is_marked (with_node new listed) i ≡ true → (is_marked old i ≡ true) ⊎ Contains roots (Inner i)
sound-touch roots old new place (Leaf q) at sound = sound
sound-touch roots old new place (Inner j) at sound = λ i marked. elim (marked-set_cases new j i marked) [
  | inl was ↦ sound i was
  | inr same ↦
      let b = slice_get_within roots place (Inner j) at in
      let e : Some (slice_index_or roots place (Inner i)) ≡ Some (Inner j) = sym (slice_get-get_or roots place (Inner i) b) ∙ at in
      let is : slice_index_or roots place (Inner i) ≡ Inner j = cc in
      inr (place, b, is ∙ ap (λ (k : ℕ). Inner k) (sym same))
]

pub TouchedBelow-push : (roots : List Listed) (old new after : List Bool) (below : ℕ) (listed : Listed) → TouchedBelow roots old new below →
    slice_get roots below ≡ Some listed → after ≡ with_node new listed → TouchedBelow roots old after (below + 1)
TouchedBelow-push roots old new after below listed so_far at is = subst (λ (xs : List Bool). TouchedBelow roots old xs (below + 1)) (sym is) (record {
  many = many-touch new listed ∙ so_far.many;
  touched = λ k root k_in there. elim (cases_lt k below) [
    | inl before ↦ touched-kept new (with_node new listed) root (many-touch new listed) (kept-touch new listed) (so_far.touched k root before there)
    | inr last ↦
        let k_is : k ≡ below = omega arith in
        let e : Some listed ≡ Some root = sym at ∙ ap (slice_get roots) (sym k_is) ∙ there in
        let same : listed ≡ root = cc in
        subst (λ (l : Listed). IsTouched (with_node new listed) [] l) same (touched-touch new listed)
  ];
  sound = sound-touch roots old new below listed at so_far.sound;
})

pub AreTouched-all : (roots : List Listed) (old new : List Bool) → TouchedBelow roots old new (length roots) → AreTouched roots old new
AreTouched-all roots old new all = record {
  many = all.many;
  touched = λ k root there. all.touched k root (slice_get_within roots k root there) there;
  sound = all.sound;
}

-- where nothing was marked, what is marked is one of the roots
pub AreUnder-roots : (nodes : List ListedNode) (roots : List Listed) (old new : List Bool) → ((i : ℕ) → is_marked old i ≡ false) →
    AreTouched roots old new → AreUnder nodes roots new
AreUnder-roots nodes roots old new clear touched i marked = elim (touched.sound i marked) [
  | inl was ↦ absurd (false≢true (sym (clear i) ∙ was))
  | inr there ↦ record {
    place = there.0;
    root = Inner i;
    there = slice_get-get_or roots there.0 (Inner i) there.1 ∙ ap (λ (l : Listed). Some l) there.2;
    under = IsUnder-itself (function_in nodes (Inner i));
  }
]

-- ---- the sides of one more node

no-states : (listed : Listed) → [] ≡ with_state [] listed
no-states (Leaf q) = refl
no-states (Inner j) = refl

module _ (space : FormSpace) (ordered : AreOrdered space.listing.nodes) (i : ℕ) (inside : i < length space.listing.nodes)
    (marks low high : List Bool) (low_is : low ≡ with_node marks (node_at space.listing.nodes i).low)
    (high_is : high ≡ with_node low (node_at space.listing.nodes i).high) where
  pub sides-node : AreSidesTouched space marks [] (suc i) → AreSidesTouched space high [] i
  sides-node sides = AreSidesTouched-node space ordered i inside marks [] low [] high [] sides low_is (no-states (node_at space.listing.nodes i).low)
      high_is (no-states (node_at space.listing.nodes i).high)

  pub many-node : length high ≡ length marks
  many-node = ap length high_is ∙ many-touch low (node_at space.listing.nodes i).high
      ∙ ap length low_is ∙ many-touch marks (node_at space.listing.nodes i).low

  pub kept-node : (k : ℕ) → is_marked marks k ≡ true → is_marked high k ≡ true
  kept-node k marked = subst (λ (xs : List Bool). is_marked xs k ≡ true) (sym high_is)
      (kept-touch low (node_at space.listing.nodes i).high k
      (subst (λ (xs : List Bool). is_marked xs k ≡ true) (sym low_is) (kept-touch marks (node_at space.listing.nodes i).low k marked)))

  pub under-node : (roots : List Listed) → is_marked marks i ≡ true → AreUnder space.listing.nodes roots marks →
      AreUnder space.listing.nodes roots high
  under-node roots marked so_far =
      let nodes = space.listing.nodes in
      let here = so_far i marked in
      subst (λ (xs : List Bool). AreUnder nodes roots xs) (sym high_is)
      (AreUnder-touch nodes roots low (node_at nodes i).high
      (subst (λ (xs : List Bool). AreUnder nodes roots xs) (sym low_is)
      (AreUnder-touch nodes roots marks (node_at nodes i).low so_far (under-low nodes ordered i inside roots here)))
      (under-high nodes ordered i inside roots here))
