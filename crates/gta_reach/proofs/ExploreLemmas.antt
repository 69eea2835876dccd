-- What is met leads to generated states alone.
use Rattle.std.proofs.Common.{◌≡◌, ℕ, ◌<◌, Bool, true, false, List, [], ◌∷◌, ◌++◌, length, Some, None, inl, inr}
use Rattle.std.proofs.Common.{sym, ◌∙◌, ap, refl, subst, arith}
use Rattle.std.specs.Prelude.{All, slice_get, slice_index_or, slice_set, nat_lt}
use Rattle.std.proofs.lemmas.List.{get_or-set_same, get_or-set_other, length-set}
use Rattle.std.proofs.lemmas.List.Elements.{All-nil, All-cons}
use Rattle.std.proofs.lemmas.Bool.{cases_eq, ltb-true}
use Rattle.std.proofs.lemmas.Option.{slice_get_within, slice_get-get_or, slice_get_read, slice_get_past}
use Rattle.labels.specs.Labels.{Label, with_track}
use Rattle.bdd_list.specs.declared.listing.Listed.{Listed}
use Rattle.bdd_list.specs.declared.listing.Listed.TheVariants.{Leaf, Inner}
use Rattle.bdd_list.specs.Listing.{function_of, node_at}
use Rattle.bdd_list.proofs.ListingLemmas.{function_in-leaf}
use Rattle.gta_theory.specs.Guides.{IsSpace, left, right}
use Rattle.gta_theory.specs.Generated.{Generated, starts, steps}
use Rattle.gta_theory.specs.Numbered.{Below}
use Rattle.gta_theory.proofs.GeneratedLemmas.{IsValue-closed, IsValue-generated}
use Rattle.gta_theory.proofs.ListedLemmas.{slice_get-push}
use Rattle.gta_reach.specs.declared.form.FormSpace.{FormSpace}
use Rattle.gta_reach.specs.declared.form.Form.{Form}
use Rattle.gta_reach.specs.declared.sides.Side.{Side}
use Rattle.gta_reach.specs.declared.sides.Side.TheVariants.{Left, Right}
use Rattle.gta_reach.specs.declared.explore.Waiting.{Waiting}
use Rattle.gta_reach.specs.declared.explore.Kept.{Kept}
use Rattle.gta_reach.specs.Form.{cell_in, root_in, guide_of, states_of, initial_of, automaton_of, IsForm}
use Rattle.gta_classes.specs.Chosen.{is_marked}
use Rattle.gta_reach.specs.Sides.{cell_at, HasRootAt, child_of, child_at, opposite}
use Rattle.gta_reach.specs.Reached.{HasRoot, is_reached, AreGenerated}
use Rattle.gta_classes.specs.Lists.{list_at, IsAdded}
use Rattle.gta_classes.specs.Marks.{IsClear}
use Rattle.gta_reach.specs.Exploring.{with_mark, AreClear, IsGeneratedIn, IsGeneratedAt, GivesGenerated, IsWaiting, KeepsNone, AllKeepNone, AreKept, AreSpaces}
use Rattle.gta_classes.proofs.ChosenLemmas.{marked-set, marked-set_cases}
use Rattle.gta_reach.proofs.ReachLemmas.{left-at, right-at, initial-at, step-at, many_spaces, initial-form, at-other, at-same}
use Rattle.gta_reach.proofs.NodeLemmas.{gives-low, gives-high}

-- ---- states

-- a generated state is a state of its space
pub generated-below : (form : Form) → IsForm form → (s q : ℕ) → IsSpace (guide_of form) s → IsGeneratedIn form s q → q < states_of form s
generated-below form is_form s q there generated =
    let below : nat_lt q (states_of form s) ≡ true =
    IsValue-closed (guide_of form) is_form.guide (automaton_of form) (Below (states_of form)) is_form.closed s q there
    (IsValue-generated (guide_of form) is_form.guide (automaton_of form) is_form.stable s q generated) in
    ltb-true q (states_of form s) below

-- one more generated state is marked
pub AreGenerated-mark : (form : Form) (marks : List (List Bool)) → AreGenerated form marks → (s q : ℕ) → s < length form.spaces →
    IsGeneratedIn form s q → AreGenerated form (with_mark marks s q)
AreGenerated-mark form marks are s q inside generated =
    let here : List Bool = slice_set (slice_index_or marks s []) q true in
    let in_list : s < length marks = (let e = are.spaces in omega arith) in
    record {
      spaces = length-set marks s here ∙ are.spaces;
      many = λ k there. elim (cases_eq k s) [
        | inl same ↦ ap (λ (j : ℕ). length (slice_index_or (slice_set marks s here) j [])) same
            ∙ ap length (at-same marks s here in_list) ∙ length-set (slice_index_or marks s []) q true
            ∙ ap (λ (j : ℕ). length (slice_index_or marks j [])) (sym same) ∙ are.many k there
        | inr other ↦ ap length (at-other marks s k here other) ∙ are.many k there
      ];
      starts = λ k there. elim (cases_eq k s) [
        | inl same ↦ ap (λ (j : ℕ). is_reached (slice_set marks s here) j (initial_of form k)) same
            ∙ ap (λ (xs : List Bool). is_marked xs (initial_of form k)) (at-same marks s here in_list)
            ∙ marked-set (slice_index_or marks s []) q (initial_of form k)
            (ap (λ (j : ℕ). is_marked (slice_index_or marks j []) (initial_of form k)) (sym same) ∙ are.starts k there)
        | inr other ↦ ap (λ (xs : List Bool). is_marked xs (initial_of form k)) (at-other marks s k here other) ∙ are.starts k there
      ];
      generated = λ k p there marked. elim (cases_eq k s) [
        | inl same ↦
            let now : is_marked here p ≡ true = sym (ap (λ (j : ℕ). is_reached (slice_set marks s here) j p) same
            ∙ ap (λ (xs : List Bool). is_marked xs p) (at-same marks s here in_list)) ∙ marked in
            subst (λ (j : ℕ). Generated (guide_of form) (automaton_of form) j p) (sym same)
            (elim (marked-set_cases (slice_index_or marks s []) q p now) [
              | inl old ↦ are.generated s p (subst (λ (j : ℕ). IsSpace (guide_of form) j) same there) old
              | inr last ↦ subst (Generated (guide_of form) (automaton_of form) s) (sym last) generated
            ])
        | inr other ↦ are.generated k p there (sym (ap (λ (xs : List Bool). is_marked xs p) (at-other marks s k here other)) ∙ marked)
      ];
    }

-- ---- what is listed

-- it is of a space
pub space-inside : (form : Form) (s : ℕ) (listed : Listed) → GivesGenerated form s listed → s < length form.spaces
space-inside form s listed from = slice_get_within form.spaces s from.space from.at

-- a leaf gives its state
pub generated-leaf : (form : Form) (s q : ℕ) → GivesGenerated form s (Leaf q) → IsGeneratedIn form s q
generated-leaf form s q from =
    subst (Generated (guide_of form) (automaton_of form) s) (function_in-leaf from.space.listing.nodes q (λ t. false)) (from.gives (λ t. false))

module _ (form : Form) (s : ℕ) (space : FormSpace) (at : slice_get form.spaces s ≡ Some space) where
  own_space : IsSpace (guide_of form) s
  own_space = let e = many_spaces form in let b = slice_get_within form.spaces s space at in omega arith

  -- the space of a child
  pub child-is : (side : Side) → child_at (guide_of form) side s ≡ child_of space side
  child-is Left = left-at form s space at
  child-is Right = right-at form s space at

  pub GivesGenerated-initial : GivesGenerated form s (Leaf space.initial)
  GivesGenerated-initial = record {
    space = space;
    at = at;
    inside = omega arith;
    gives = λ label. subst (Generated (guide_of form) (automaton_of form) s)
        (initial-form form s ∙ initial-at form s space at ∙ sym (function_in-leaf space.listing.nodes space.initial label))
        (starts s own_space);
  }

  module _ (is_form : IsForm form) where
    child-there : (side : Side) → IsSpace (guide_of form) (child_at (guide_of form) side s)
    child-there Left = is_form.guide.left_inside s own_space
    child-there Right = is_form.guide.right_inside s own_space

    has_root-pair : (l r : ℕ) → l < states_of form (left (guide_of form) s) → r < states_of form (right (guide_of form) s) → HasRoot space l r
    has_root-pair l r l_below r_below =
        let fs = is_form.spaces s space at in
        record {
          row = let e = fs.rows in omega arith;
          column = let e = fs.columns in omega arith;
          cell = fs.cells l r l_below r_below;
          root = fs.roots l r l_below r_below;
          inside = fs.inside (cell_in space l r) (fs.roots l r l_below r_below);
        }

    has_root-states : (l r : ℕ) → IsGeneratedAt form s Left l → IsGeneratedAt form s Right r → HasRoot space l r
    has_root-states l r of_left of_right = has_root-pair l r
        (generated-below form is_form (left (guide_of form) s) l (child-there Left) of_left)
        (generated-below form is_form (right (guide_of form) s) r (child-there Right) of_right)

    gives-pair : (l r : ℕ) → IsGeneratedAt form s Left l → IsGeneratedAt form s Right r → GivesGenerated form s (root_in space (cell_in space l r))
    gives-pair l r of_left of_right = record {
      space = space;
      at = at;
      inside = (has_root-states l r of_left of_right).inside;
      gives = λ label. subst (Generated (guide_of form) (automaton_of form) s) (step-at form s space at l r label)
          (steps s l r label own_space of_left of_right);
    }

    -- generated child states have a root, and what it gives is generated
    pub has_root-generated : (side : Side) (own beside : ℕ) → IsGeneratedAt form s side own → IsGeneratedAt form s (opposite side) beside →
        HasRootAt space side own beside
    has_root-generated Left own beside of_own of_beside = has_root-states own beside of_own of_beside
    has_root-generated Right own beside of_own of_beside = has_root-states beside own of_beside of_own

    pub GivesGenerated-root : (side : Side) (own beside : ℕ) → IsGeneratedAt form s side own → IsGeneratedAt form s (opposite side) beside →
        GivesGenerated form s (root_in space (cell_at space side own beside))
    GivesGenerated-root Left own beside of_own of_beside = gives-pair own beside of_own of_beside
    GivesGenerated-root Right own beside of_own of_beside = gives-pair beside own of_beside of_own

    -- what a node gives its sides give
    module _ (i : ℕ) (from : GivesGenerated form s (Inner i)) where
      same_space : from.space ≡ space
      same_space = let e : Some from.space ≡ Some space = sym from.at ∙ at in cc

      pub node-inside : i < length space.listing.nodes
      node-inside = let e = ap (λ (p : FormSpace). length p.listing.nodes) same_space in let b = from.inside in omega arith

      from-node : (label : Label) → IsGeneratedIn form s (function_of space.listing (Inner i) label)
      from-node label =
          subst (λ (p : FormSpace). Generated (guide_of form) (automaton_of form) s (function_of p.listing (Inner i) label)) same_space (from.gives label)

      pub GivesGenerated-low : GivesGenerated form s (node_at space.listing.nodes i).low
      GivesGenerated-low =
          let ordered = (is_form.spaces s space at).ordered in
          record {
            space = space;
            at = at;
            inside = let b = (ordered.low i node-inside).before in let k = node-inside in omega arith;
            gives = λ label. subst (Generated (guide_of form) (automaton_of form) s) (gives-low space.listing.nodes ordered i node-inside label)
                (from-node (with_track label (node_at space.listing.nodes i).track false));
          }

      pub GivesGenerated-high : GivesGenerated form s (node_at space.listing.nodes i).high
      GivesGenerated-high =
          let ordered = (is_form.spaces s space at).ordered in
          record {
            space = space;
            at = at;
            inside = let b = (ordered.high i node-inside).before in let k = node-inside in omega arith;
            gives = λ label. subst (Generated (guide_of form) (automaton_of form) s) (gives-high space.listing.nodes ordered i node-inside label)
                (from-node (with_track label (node_at space.listing.nodes i).track true));
          }

-- ---- what waits

-- one thing more
pub waiting-push : (form : Form) (s : ℕ) (listed : Listed) (next : Waiting) (waiting new : List Waiting) → next.s ≡ s → next.listed ≡ listed →
    new ≡ next ∷ waiting → GivesGenerated form s listed → All (IsWaiting form) waiting → All (IsWaiting form) new
waiting-push form s listed next waiting new same_space same_listed is gives all =
    let of_next : GivesGenerated form next.s next.listed = subst (λ (k : ℕ). GivesGenerated form k next.listed) (sym same_space)
    (subst (GivesGenerated form s) (sym same_listed) gives) in
    subst (All (IsWaiting form)) (sym is) (All-cons (IsWaiting form) next waiting of_next all)

-- ---- what is kept

pub AreKept-none : (form : Form) (side : Side) (kept : List Kept) → length kept ≡ length form.spaces → AllKeepNone kept → AreKept form side kept
AreKept-none form side kept many none = record {
  many = many;
  each = λ s one at. subst (All (IsGeneratedAt form s side)) (sym (none s one at)) (All-nil (IsGeneratedAt form s side));
}

-- the part of a space
pub kept-read : (form : Form) (side : Side) (kept : List Kept) (s : ℕ) (one : Kept) → AreKept form side kept → s < length form.spaces →
    one ≡ slice_index_or kept s one → All (IsGeneratedAt form s side) one.states
kept-read form side kept s one are inside is =
    are.each s one (slice_get_read kept (length kept) s one refl (let m = are.many in omega arith) is)

-- another part of a space
pub AreKept-set : (form : Form) (side : Side) (kept : List Kept) (s : ℕ) (one : Kept) → AreKept form side kept → s < length form.spaces →
    All (IsGeneratedAt form s side) one.states → AreKept form side (slice_set kept s one)
AreKept-set form side kept s one are inside new = record {
  many = length-set kept s one ∙ are.many;
  each = λ k part at. elim (cases_eq k s) [
    | inl same ↦
        let here : slice_get (slice_set kept s one) s ≡ Some one =
        slice_get-get_or (slice_set kept s one) s one (let e = length-set kept s one in let m = are.many in omega arith)
        ∙ ap (λ (x : Kept). Some x) (get_or-set_same kept s one one (let m = are.many in omega arith)) in
        let is : Some one ≡ Some part = sym here ∙ ap (slice_get (slice_set kept s one)) (sym same) ∙ at in
        let equal : one ≡ part = cc in
        subst (λ (x : Kept). All (IsGeneratedAt form k side) x.states) equal
        (subst (λ (j : ℕ). All (IsGeneratedAt form j side) one.states) (sym same) new)
    | inr other ↦
        let b = slice_get_within (slice_set kept s one) k part at in
        let was : slice_get kept k ≡ Some part =
        slice_get-get_or kept k part (let e = length-set kept s one in omega arith)
        ∙ ap (λ (x : Kept). Some x) (sym (get_or-set_other kept s k one part other))
        ∙ sym (slice_get-get_or (slice_set kept s one) k part b) ∙ at in
        are.each k part was
  ];
}

pub AllKeepNone-push : (kept : List Kept) (more : Kept) → KeepsNone more → AllKeepNone kept → AllKeepNone (kept ++ more ∷ [])
AllKeepNone-push kept more new before s one there = elim (slice_get-push kept more one s there) [
  | inl earlier ↦ before s one earlier
  | inr last ↦ subst (λ (x : Kept). KeepsNone x) last.1 new
]

-- ---- spaces

-- one more of them is listed
pub AreSpaces-add : (form : Form) (old new : List (List ℕ)) (place number : ℕ) → IsAdded old place number new → number < length form.spaces →
    ((s : ℕ) → AreSpaces form (list_at old s)) → (s : ℕ) → AreSpaces form (list_at new s)
AreSpaces-add form old new place number added inside before s parent there = elim (added.sound s parent there) [
  | inl was ↦ before s parent was
  | inr last ↦ (let e = last.1 in omega arith)
]

-- ---- marks

pub AreClear-none : (marks : List (List Bool)) → marks ≡ [] → AreClear marks
AreClear-none marks is s one there =
    let past : slice_get marks s ≡ None = slice_get_past marks s (let e = ap length is in omega arith) in
    absurd (let e : None ≡ Some one = sym past ∙ there in cc)

pub AreClear-push : (marks : List (List Bool)) (more : List Bool) → IsClear more → AreClear marks → AreClear (marks ++ more ∷ [])
AreClear-push marks more new before s one there = elim (slice_get-push marks more one s there) [
  | inl earlier ↦ before s one earlier
  | inr last ↦ subst (λ (x : List Bool). IsClear x) last.1 new
]
