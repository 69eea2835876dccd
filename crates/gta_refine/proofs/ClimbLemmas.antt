-- What gives some states is found from the leaves up.
use Rattle.std.proofs.Common.{◌≡◌, ℕ, zero, suc, ◌+◌, ◌<◌, ◌≤◌, Bool, true, false, List, ◌∷◌, ◌++◌, length, map, ◌⊎◌, inl, inr, if◌then◌else◌, []}
use Rattle.std.proofs.Common.{sym, ◌∙◌, ap, refl, subst, arith, length-append, append-nil, append_assoc}
use Rattle.std.specs.Prelude.{Contains, slice_index, slice_index_or, slice_set}
use Rattle.std.proofs.lemmas.List.{get_or_default, get_or_append_left}
use Rattle.std.proofs.lemmas.List.Elements.{Contains-push, Contains-push_cases, Contains-append_left, Contains-append_cases}
use Rattle.std.proofs.lemmas.List.Elements.{Contains-get_or}
use Rattle.std.proofs.lemmas.Bool.{cases_eq, false≢true}
use Rattle.labels.specs.Labels.{Label, with_track}
use Rattle.bdd_list.specs.declared.listing.Listed.{Listed}
use Rattle.bdd_list.specs.declared.listing.Listed.TheVariants.{Leaf, Inner}
use Rattle.bdd_list.specs.declared.listing.ListedNode.{ListedNode}
use Rattle.bdd_list.specs.Listing.{rank, function_in, node_at, IsIn, AreOrdered}
use Rattle.bdd_list.proofs.ListingLemmas.{function_in-leaf, function_in-inner}
use Rattle.gta_classes.specs.Chosen.{is_marked}
use Rattle.gta_refine.specs.Uses.{above_of, HasPlace, AreAbove, HasSide}
use Rattle.gta_classes.specs.Marks.{IsClear}
use Rattle.gta_refine.specs.Givers.{GivesSome, AreClimbed, AddsNodes}
use Rattle.gta_reach.proofs.NodeLemmas.{gives-low, gives-high}
use Rattle.gta_classes.proofs.ChosenLemmas.{marked-set_cases}
use Rattle.gta_classes.proofs.ListsLemmas.{FromMap-map, Contains-map, Contains-none}

-- a node gives what its sides give
module _ (nodes : List ListedNode) (ordered : AreOrdered nodes) (i : ℕ) (inside : i < length nodes) where
  GivesSome-side : (states : List ℕ) (listed : Listed) → ((node_at nodes i).low ≡ listed) ⊎ ((node_at nodes i).high ≡ listed) →
      GivesSome nodes states listed → GivesSome nodes states (Inner i)
  GivesSome-side states listed side gives = elim side [
    | inl low ↦ record {
      label = with_track gives.label (node_at nodes i).track false;
      gives = subst (Contains states)
          (sym (gives-low nodes ordered i inside gives.label ∙ ap (λ (l : Listed). function_in nodes l gives.label) low)) gives.gives;
    }
    | inr high ↦ record {
      label = with_track gives.label (node_at nodes i).track true;
      gives = subst (Contains states)
          (sym (gives-high nodes ordered i inside gives.label ∙ ap (λ (l : Listed). function_in nodes l gives.label) high)) gives.gives;
    }
  ]

-- the nodes so far
pub record AddsBelow (nodes : List ℕ) (found : List Bool) (list : List Listed) (now_found : List Bool) (now_list : List Listed) (below : ℕ) : Type 0 where
  pub more : List Listed
  pub grown : now_list ≡ list ++ more
  pub found_new : (i : ℕ) → is_marked now_found i ≡ true → (is_marked found i ≡ true) ⊎ Contains now_list (Inner i)
  pub all : (k : ℕ) → k < below → (is_marked found (slice_index nodes k) ≡ true) ⊎ Contains now_list (Inner (slice_index nodes k))
  pub sound : (listed : Listed) → Contains more listed → (i : ℕ) × Contains nodes i × (listed ≡ Inner i)

pub AddsBelow-none : (nodes : List ℕ) (found : List Bool) (list : List Listed) → AddsBelow nodes found list found list 0
AddsBelow-none nodes found list = record {
  more = [];
  grown = sym (append-nil list);
  found_new = λ i marked. inl marked;
  all = λ k k_in. absurd (omega arith);
  sound = λ listed there. absurd (Contains-none listed there);
}

module _ (nodes : List ℕ) (found : List Bool) (list : List Listed) (now_found : List Bool) (now_list : List Listed) (below : ℕ)
    (so_far : AddsBelow nodes found list now_found now_list below) where
  pub AddsBelow-found : is_marked now_found (slice_index nodes below) ≡ true → AddsBelow nodes found list now_found now_list (below + 1)
  AddsBelow-found was = record {
    more = so_far.more;
    grown = so_far.grown;
    found_new = so_far.found_new;
    all = λ k k_in. elim (cases_eq k below) [
      | inl same ↦ subst (λ (i : ℕ). (is_marked found (slice_index nodes i) ≡ true) ⊎ Contains now_list (Inner (slice_index nodes i))) (sym same)
          (so_far.found_new (slice_index nodes below) was)
      | inr other ↦ so_far.all k (omega arith)
    ];
    sound = so_far.sound;
  }

  later : (node i : ℕ) → (is_marked found i ≡ true) ⊎ Contains now_list (Inner i) →
      (is_marked found i ≡ true) ⊎ Contains (now_list ++ Inner node ∷ []) (Inner i)
  later node i before = elim before [
    | inl marked ↦ inl marked
    | inr there ↦ inr (Contains-append_left now_list (Inner node ∷ []) (Inner i) there)
  ]

  pub AddsBelow-push : below < length nodes →
      AddsBelow nodes found list (slice_set now_found (slice_index nodes below) true) (now_list ++ Inner (slice_index nodes below) ∷ []) (below + 1)
  AddsBelow-push inside =
      let node = slice_index nodes below in
      record {
        more = so_far.more ++ Inner node ∷ [];
        grown = ap (λ (xs : List Listed). xs ++ Inner node ∷ []) so_far.grown ∙ append_assoc list so_far.more (Inner node ∷ []);
        found_new = λ i marked. elim (marked-set_cases now_found node i marked) [
          | inl before ↦ later node i (so_far.found_new i before)
          | inr same ↦ inr (subst (λ (k : ℕ). Contains (now_list ++ Inner node ∷ []) (Inner k)) (sym same) (Contains-push now_list (Inner node)))
        ];
        all = λ k k_in. elim (cases_eq k below) [
          | inl same ↦ inr (subst (λ (j : ℕ). Contains (now_list ++ Inner node ∷ []) (Inner (slice_index nodes j))) (sym same)
              (Contains-push now_list (Inner node)))
          | inr other ↦ later node (slice_index nodes k) (so_far.all k (omega arith))
        ];
        sound = λ listed there. elim (Contains-push_cases so_far.more (Inner node) listed there) [
          | inl before ↦ so_far.sound listed before
          | inr same ↦ (node, Contains-get_or nodes below 0 inside, sym same)
        ];
      }

pub AddsBelow-same : (nodes : List ℕ) (found : List Bool) (list : List Listed) (one one' : List Bool) (other other' : List Listed) (below : ℕ) →
    one ≡ one' → other ≡ other' → AddsBelow nodes found list one other below → AddsBelow nodes found list one' other' below
AddsBelow-same nodes found list one one' other other' below same_one same_other so_far =
    subst (λ (xs : List Listed). AddsBelow nodes found list one' xs below) same_other
    (subst (λ (xs : List Bool). AddsBelow nodes found list xs other below) same_one so_far)

pub AddsNodes-all : (nodes : List ℕ) (found : List Bool) (list : List Listed) (now_found : List Bool) (now_list : List Listed) →
    AddsBelow nodes found list now_found now_list (length nodes) → AddsNodes nodes found list now_found now_list
AddsNodes-all nodes found list now_found now_list all = record {
  more = all.more;
  grown = all.grown;
  found_new = all.found_new;
  all = λ i there. subst (λ (k : ℕ). (is_marked found k ≡ true) ⊎ Contains now_list (Inner k))
      (get_or_default nodes there.0 0 i there.1 ∙ there.2) (all.all there.0 there.1);
  sound = all.sound;
}

-- what is found so far: those listed before a place have their nodes above found
module _ (nodes : List ListedNode) (states : List ℕ) (leaves above : List (List ℕ)) where
  pub record Climbs (found : List Bool) (list : List Listed) (at : ℕ) : Type 0 where
    pub starts : (q : ℕ) → Contains states q → Contains list (Leaf q)
    pub marks : (i : ℕ) → is_marked found i ≡ true → Contains list (Inner i)
    pub closed : (k i : ℕ) → k < at → k < length list → Contains (above_of leaves above (slice_index_or list k (Leaf 0))) i → Contains list (Inner i)
    pub sound : (listed : Listed) → Contains list listed → IsIn nodes listed × GivesSome nodes states listed

  pub Climbs-start : (found : List Bool) → IsClear found → Climbs found (map (λ q. Leaf q) states) 0
  Climbs-start found clear = record {
    starts = λ q there. Contains-map (λ p. Leaf p) states q there;
    marks = λ i marked. absurd (false≢true (sym (clear i) ∙ marked));
    closed = λ k i k_in inside there. absurd (omega arith);
    sound = λ listed there.
        let from = FromMap-map (λ p. Leaf p) states listed there in (
          subst (IsIn nodes) from.is (omega arith),
          subst (GivesSome nodes states) from.is (record {
            label = λ t. false;
            gives = subst (Contains states) (sym (function_in-leaf nodes from.source (λ t. false))) from.among;
          }),
        );
  }

  module _ (ordered : AreOrdered nodes) (parents : AreAbove (HasSide nodes) leaves above) where
    pub Climbs-step : (found new_found : List Bool) (list new_list : List Listed) (at : ℕ) → Climbs found list at → at < length list →
        AddsNodes (above_of leaves above (slice_index_or list at (Leaf 0))) found list new_found new_list → Climbs new_found new_list (at + 1)
    Climbs-step found new_found list new_list at so_far inside adds =
        let longer = length-append list adds.more in
        let grown = ap length adds.grown in
        let keep : (listed : Listed) → Contains list listed → Contains new_list listed = λ listed there.
        subst (λ (xs : List Listed). Contains xs listed) (sym adds.grown) (Contains-append_left list adds.more listed there) in
        let same_at : (k : ℕ) → k < length list → slice_index_or new_list k (Leaf 0) ≡ slice_index_or list k (Leaf 0) = λ k k_in.
        ap (λ (xs : List Listed). slice_index_or xs k (Leaf 0)) adds.grown ∙ get_or_append_left list adds.more (Leaf 0) k k_in in
        let all_above : (i : ℕ) → Contains (above_of leaves above (slice_index_or list at (Leaf 0))) i → Contains new_list (Inner i) = λ i there.
        elim (adds.all i there) [
          | inl marked ↦ keep (Inner i) (so_far.marks i marked)
          | inr listed ↦ listed
        ] in
        record {
          starts = λ q there. keep (Leaf q) (so_far.starts q there);
          marks = λ i marked. elim (adds.found_new i marked) [
            | inl before ↦ keep (Inner i) (so_far.marks i before)
            | inr listed ↦ listed
          ];
          closed = λ k i k_in k_inside there. elim (cases_eq k at) [
            | inl same ↦ all_above i (subst (λ (l : Listed). Contains (above_of leaves above l) i)
                (ap (λ (j : ℕ). slice_index_or new_list j (Leaf 0)) same ∙ same_at at inside) there)
            | inr other ↦ keep (Inner i) (so_far.closed k i (omega arith) (omega arith)
                (subst (λ (l : Listed). Contains (above_of leaves above l) i) (same_at k (omega arith)) there))
          ];
          sound = λ listed there.
              elim (Contains-append_cases list adds.more listed (subst (λ (xs : List Listed). Contains xs listed) adds.grown there)) [
                | inl before ↦ so_far.sound listed before
                | inr new_one ↦
                    let from = adds.sound listed new_one in
                    let below = slice_index_or list at (Leaf 0) in
                    let side = parents.sound below from.0 from.1 in
                    let was = so_far.sound below (Contains-get_or list at (Leaf 0) inside) in (
                      subst (IsIn nodes) (sym from.2) (let b = side.0 in omega arith),
                      subst (GivesSome nodes states) (sym from.2) (GivesSome-side nodes ordered from.0 side.0 states below side.1 was.1),
                    )
              ];
        }

    -- nothing above is left out
    module _ (found : List Bool) (list : List Listed) (at : ℕ) (all : Climbs found list at) (end : length list ≤ at)
        (small : (q : ℕ) → Contains states q → q < length leaves) (many : length above ≡ length nodes) where
      has-place : (listed : Listed) (label : Label) → IsIn nodes listed → Contains states (function_in nodes listed label) → HasPlace leaves above listed
      has-place (Leaf q) label is_in there = small q (subst (Contains states) (function_in-leaf nodes q label) there)
      has-place (Inner i) label is_in there = let m = many in omega arith

      -- a node above what is found
      up : (listed : Listed) (i : ℕ) (label : Label) → HasSide nodes i listed → IsIn nodes listed → Contains states (function_in nodes listed label) →
          Contains list listed → Contains list (Inner i)
      up listed i label side is_in gives there = all.closed there.0 i (let b = there.1 in let e = end in omega arith) there.1
          (subst (λ (l : Listed). Contains (above_of leaves above l) i) (sym (get_or_default list there.0 (Leaf 0) listed there.1 ∙ there.2))
          (parents.complete listed i side (has-place listed label is_in gives)))

      climb-at : (bound : ℕ) (listed : Listed) (label : Label) → rank listed ≤ bound → IsIn nodes listed →
          Contains states (function_in nodes listed label) → Contains list listed
      climb-at bound (Leaf q) label below is_in there = all.starts q (subst (Contains states) (function_in-leaf nodes q label) there)
      climb-at zero (Inner i) label below is_in there = absurd (omega arith)
      climb-at (suc bound) (Inner i) label below is_in there =
          let n = node_at nodes i in
          let inside : i < length nodes = omega arith in
          let low = (ordered.low i inside).before in
          let high = (ordered.high i inside).before in
          let e = function_in-inner nodes i label inside low high in
          choose (λ l l_below l_in l_gives. climb-at bound l label l_below l_in l_gives) (label n.track) low high (subst (Contains states) e there)
        where
          choose : ((l : Listed) → rank l ≤ bound → IsIn nodes l → Contains states (function_in nodes l label) → Contains list l) →
              (b : Bool) → rank (node_at nodes i).low ≤ i → rank (node_at nodes i).high ≤ i →
              Contains states (if b then function_in nodes (node_at nodes i).high label else function_in nodes (node_at nodes i).low label) →
              Contains list (Inner i)
          choose climbed true low high gives = up (node_at nodes i).high i label (omega arith, inr refl) (omega arith) gives
              (climbed (node_at nodes i).high (omega arith) (omega arith) gives)
          choose climbed false low high gives = up (node_at nodes i).low i label (omega arith, inl refl) (omega arith) gives
              (climbed (node_at nodes i).low (omega arith) (omega arith) gives)

      pub AreClimbed-all : AreClimbed nodes states list
      AreClimbed-all = record {
        sound = all.sound;
        complete = λ listed is_in gives. climb-at (rank listed) listed gives.label (omega arith) is_in gives.gives;
      }
