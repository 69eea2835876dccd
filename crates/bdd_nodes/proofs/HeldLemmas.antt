-- The marks are those of the nodes that registered roots hold.
use Rattle.std.proofs.Common.{◌≡◌, ◌≢◌, ◌⊎◌, ℕ, suc, zero, ◌<◌, ◌≤◌, Bool, true, false, List, [], ◌∷◌, length, eqb, get_or}
use Rattle.std.proofs.Common.{if◌then◌else◌, Option, Some, None, sym, ◌∙◌, ap, refl, subst, inl, inr, arith}
use Rattle.std.specs.Prelude.{Contains, slice_get, option_and_then}
use Rattle.std.proofs.lemmas.Bool.{cases_lt}
use Rattle.std.proofs.lemmas.Bool.Decides.{nat_tests}
use Rattle.std.proofs.lemmas.Option.{slice_get_within, slice_get-get_or, get_or_from_slice_get}
use Rattle.std.proofs.lemmas.List.Elements.{Contains-append_left, Contains-append_right, Contains-append_cases}
use Rattle.bdd_nodes.specs.declared.node_ref.NodeRef.{NodeRef}
use Rattle.bdd_nodes.specs.declared.node_ref.Named.{Named}
use Rattle.bdd_nodes.specs.declared.node_ref.Named.TheVariants.{Leaf, Inner}
use Rattle.bdd_nodes.specs.declared.node.Node.{Node}
use Rattle.bdd_nodes.specs.declared.roots.RootTable.{RootTable}
use Rattle.bdd_nodes.specs.Nodes.{node_of, node_at, first_track, IsNamedIn, AreCanonical}
use Rattle.bdd_nodes.specs.Roots.{number_of, number_at, roots_under, root_under, table_at}
use Rattle.bdd_nodes.specs.Shelf.{low_named, high_named}
use Rattle.bdd_nodes.specs.Changes.{Reaches, by_low, by_high, itself, IsUnderRoot}
use Rattle.bdd_nodes.specs.Collecting.{reference_to, all_roots, IsMarked, MarksList, MarksSides, AreClosed, marked_below}
use Rattle.bdd_nodes.proofs.CanonicalLemmas.{IsNamedIn-rank}
use Rattle.bdd_nodes.proofs.RootsLemmas.{roots_under-at, pick-same, pick-other}
use Rattle.bdd_nodes.proofs.MarksLemmas.{node_of-reference_to, reference_to-named, IsMarked-kept}

-- a root among all, by its table's position
record IsAt (tables : List RootTable) (r : NodeRef) : Type 0 where
  position : ℕ
  within : position < length tables
  index : ℕ
  there : slice_get (table_at tables position).roots index ≡ Some r

slice_get-Contains : (roots : List NodeRef) (r : NodeRef) → (there : Contains roots r) → slice_get roots there.0 ≡ Some r
slice_get-Contains roots r there = slice_get-get_or roots there.0 r there.1 ∙ ap Some there.2

IsAt-Contains : (tables : List RootTable) (r : NodeRef) → Contains (all_roots tables) r → IsAt tables r
IsAt-Contains [] r there = let w = there.1 in absurd (omega arith)
IsAt-Contains (t ∷ tables) r there = elim (Contains-append_cases t.roots (all_roots tables) r there) [
  | inl first ↦ record { position = 0; within = omega arith; index = first.0; there = slice_get-Contains t.roots r first }
  | inr later ↦ (let at = IsAt-Contains tables r later in
      record {
        position = suc at.position;
        within = (let w = at.within in omega arith);
        index = at.index;
        there = at.there;
      })
]

-- a root among all is registered
pub record IsRoot (tables : List RootTable) (r : NodeRef) : Type 0 where
  pub number : ℕ
  pub index : ℕ
  pub registered : root_under tables number index ≡ Some r

pub IsRoot-Contains : (tables : List RootTable) (r : NodeRef) →
    ((i j : ℕ) → i < j → j < length tables → number_at tables i < number_at tables j) →
    Contains (all_roots tables) r → IsRoot tables r
IsRoot-Contains tables r rise there =
    let at = IsAt-Contains tables r there in
    record {
      number = number_at tables at.position;
      index = at.index;
      registered = ap (λ (o : Option (List NodeRef)). option_and_then (λ roots. slice_get roots at.index) o)
          (roots_under-at tables at.position rise at.within) ∙ at.there;
    }

Contains-slice_get : (roots : List NodeRef) (index : ℕ) (r : NodeRef) → slice_get roots index ≡ Some r → Contains roots r
Contains-slice_get roots index r there = (index, slice_get_within roots index r there, get_or_from_slice_get roots index r r there)

is_or_other : (a b : ℕ) → (a ≡ b) ⊎ (a ≢ b)
is_or_other a b = elim (cases_lt a b) [
  | inl below ↦ inr (λ e. omega arith)
  | inr not_below ↦ elim (cases_lt b a) [ inl above ↦ inr (λ e. omega arith) | inr not_above ↦ inl (omega arith) ]
]

-- a registered root is among all
pub Contains-root_under : (tables : List RootTable) (number index : ℕ) (r : NodeRef) → root_under tables number index ≡ Some r → Contains (all_roots tables) r
Contains-root_under [] number index r there = absurd (let e : ◌≡◌ {A = Option NodeRef} None (Some r) = there in cc)
Contains-root_under (t ∷ tables) number index r there = elim (is_or_other (number_of t.id) number) [
  | inl same ↦ Contains-append_left t.roots (all_roots tables) r (Contains-slice_get t.roots index r
      (ap (λ (o : Option (List NodeRef)). option_and_then (λ roots. slice_get roots index) o)
      (sym (pick-same t (roots_under tables number) number same)) ∙ there))
  | inr other ↦ Contains-append_right t.roots (all_roots tables) r (Contains-root_under tables number index r
      (ap (λ (o : Option (List NodeRef)). option_and_then (λ roots. slice_get roots index) o)
      (sym (pick-other t (roots_under tables number) number other)) ∙ there))
]

-- the first step marks the roots, and the second what is reached from them
module _ (nodes : List Node) (canonical : AreCanonical nodes) (tables : List RootTable) (rise : (i j : ℕ) → i < j →
    j < length tables → number_at tables i < number_at tables j) (valid : (number index : ℕ) (root : NodeRef) →
    root_under tables number index ≡ Some root → IsNamedIn nodes (node_of root)) (zeros first marks : List ℕ)
    (zero_all : (i : ℕ) → get_or zeros i 0 ≡ 0) (roots : MarksList (all_roots tables) zeros first)
    (sides : MarksSides nodes first marks 0) where
  bits_all : (i : ℕ) → get_or marks i 0 ≤ 1
  bits_all i = sides.bits i (roots.bits i (let z = zero_all i in omega arith))

  -- a move may go by them
  pub AreClosed-marks : AreClosed nodes marks
  AreClosed-marks = record {
    bits = bits_all;
    low = λ i within marked. sides.low i (omega arith) within marked;
    high = λ i within marked. sides.high i (omega arith) within marked;
  }

  pub IsMarked-root : (r : NodeRef) → Contains (all_roots tables) r → IsMarked marks (node_of r)
  IsMarked-root r there = IsMarked-kept first marks (node_of r) sides.kept (roots.marked r there)

  -- what is marked is an inner node under a root
  pub IsUnderRoot-marked : (i : ℕ) → get_or marks i 0 ≡ 1 → IsUnderRoot nodes tables (reference_to i)
  IsUnderRoot-marked i marked =
      let from = sides.sound i marked in
      let some = roots.sound from.start from.marked (λ e. let z = zero_all from.start in omega arith) in
      let is_root = IsRoot-Contains tables some.root rise some.there in
      record {
        track = (node_at nodes i).track;
        inner = ap (first_track nodes) (node_of-reference_to i);
        number = is_root.number;
        index = is_root.index;
        root = some.root;
        registered = is_root.registered;
        reached = subst (λ (r : NodeRef). Reaches nodes r (reference_to i)) (sym (reference_to-named some.root from.start some.names)) from.reached;
      }

  low_step : (r : NodeRef) (named : Named) → IsNamedIn nodes named → IsMarked marks named →
      IsNamedIn nodes (node_of r) → IsMarked marks (node_of r) → IsNamedIn nodes (node_of (low_named nodes r named))
      × IsMarked marks (node_of (low_named nodes r named))
  low_step r (Leaf state) valid_named marked valid_r marked_r = (valid_r, marked_r)
  low_step r (Inner p) valid_named marked valid_r marked_r =
      (IsNamedIn-rank nodes _ (let b = (canonical.low p valid_named).before in omega arith), sides.low p (omega arith) valid_named marked)

  high_step : (r : NodeRef) (named : Named) → IsNamedIn nodes named → IsMarked marks named →
      IsNamedIn nodes (node_of r) → IsMarked marks (node_of r) →
      IsNamedIn nodes (node_of (high_named nodes r named)) × IsMarked marks (node_of (high_named nodes r named))
  high_step r (Leaf state) valid_named marked valid_r marked_r = (valid_r, marked_r)
  high_step r (Inner p) valid_named marked valid_r marked_r =
      (IsNamedIn-rank nodes _ (let b = (canonical.high p valid_named).before in omega arith), sides.high p (omega arith) valid_named marked)

  reached_marked : (root r : NodeRef) → IsNamedIn nodes (node_of root) → IsMarked marks (node_of root) →
      Reaches nodes root r → IsNamedIn nodes (node_of r) × IsMarked marks (node_of r)
  reached_marked root r root_valid root_marked itself = (root_valid, root_marked)
  reached_marked root r root_valid root_marked (by_low q reached) =
      let so_far = reached_marked root q root_valid root_marked reached in low_step q (node_of q) so_far.0 so_far.1 so_far.0 so_far.1
  reached_marked root r root_valid root_marked (by_high q reached) =
      let so_far = reached_marked root q root_valid root_marked reached in high_step q (node_of q) so_far.0 so_far.1 so_far.0 so_far.1

  -- what is under a root is valid and marked
  pub marked-IsUnderRoot : (r : NodeRef) → IsUnderRoot nodes tables r → IsNamedIn nodes (node_of r) × IsMarked marks (node_of r)
  marked-IsUnderRoot r under =
      reached_marked under.root r (valid under.number under.index under.root under.registered)
      (IsMarked-root under.root (Contains-root_under tables under.number under.index under.root under.registered)) under.reached

-- the references to the marked indices below an index, the last one first
pub held_below : List ℕ → ℕ → List NodeRef
held_below marks zero = []
held_below marks (suc n) = if eqb (get_or marks n 0) 1 then reference_to n ∷ held_below marks n else held_below marks n

reference_to-injective : (i j : ℕ) → reference_to i ≡ reference_to j → i ≡ j
reference_to-injective i j same = let e = ap (λ (r : NodeRef). r.word) same in omega arith

module _ (marks : List ℕ) where
  unmarked-step : (n : ℕ) → (get_or marks n 0 ≡ 1 → ⊥) → held_below marks (suc n) ≡ held_below marks n
  unfolding held_below
  unmarked-step n unmarked = ap (λ (b : Bool). if b then reference_to n ∷ held_below marks n
      else held_below marks n) (let e : eqb (get_or marks n 0) 1 ≡ false = grind (arith, nat_tests) in e)

  marked-step : (n : ℕ) → get_or marks n 0 ≡ 1 → held_below marks (suc n) ≡ reference_to n ∷ held_below marks n
  unfolding held_below
  marked-step n marked = ap (λ (b : Bool). if b then reference_to n ∷ held_below marks n else held_below marks n)
      (let e : eqb (get_or marks n 0) 1 ≡ true = grind (arith, nat_tests) in e)

  pub length-held_below : ((i : ℕ) → get_or marks i 0 ≤ 1) → (n : ℕ) → length (held_below marks n) ≡ marked_below marks n
  unfolding held_below
  length-held_below bits zero = refl
  length-held_below bits (suc n) = elim (is_or_other (get_or marks n 0) 1) [
    | inl marked ↦ ap length (marked-step n marked) ∙ (let r = length-held_below bits n in omega arith)
    | inr unmarked ↦ ap length (unmarked-step n unmarked) ∙ (let r = length-held_below bits n in let b = bits n in
        let z : get_or marks n 0 ≡ 0 =
        (elim (cases_lt (get_or marks n 0) 1) [
          | inl below ↦ omega arith
          | inr not_below ↦
              absurd (unmarked (omega arith))
        ]) in omega arith)
  ]

  -- a marked index's reference
  pub record IsIndex (n : ℕ) (r : NodeRef) : Type 0 where
    pub index : ℕ
    pub within : index < n
    pub marked : get_or marks index 0 ≡ 1
    pub names : r ≡ reference_to index

  cons_cases : (x r : NodeRef) (xs : List NodeRef) (k : ℕ) → k < length (x ∷ xs) → get_or (x ∷ xs) k r ≡ r → (x ≡ r) ⊎ Contains xs r
  cons_cases x r xs zero within there = inl there
  cons_cases x r xs (suc k) within there = inr (k, omega arith, there)

  pub IsIndex-held : (n : ℕ) (r : NodeRef) → Contains (held_below marks n) r → IsIndex n r
  unfolding held_below
  IsIndex-held zero r there = let w = there.1 in absurd (omega arith)
  IsIndex-held (suc n) r there = elim (is_or_other (get_or marks n 0) 1) [
    | inl marked ↦
        let here = subst (λ (rs : List NodeRef). Contains rs r) (marked-step n marked) there in
        elim (cons_cases (reference_to n) r (held_below marks n) here.0 here.1 here.2) [
          | inl last ↦ record { index = n; within = omega arith; marked = marked; names = sym last }
          | inr before ↦ (let p = IsIndex-held n r before in
              record {
                index = p.index;
                within = (let w = p.within in omega arith);
                marked = p.marked;
                names = p.names;
              })
        ]
    | inr unmarked ↦
        (let p = IsIndex-held n r (subst (λ (rs : List NodeRef). Contains rs r) (unmarked-step n unmarked) there) in
        record { index = p.index; within = (let w = p.within in omega arith); marked = p.marked; names = p.names })
  ]

  pub Contains-held : (n i : ℕ) → i < n → get_or marks i 0 ≡ 1 → Contains (held_below marks n) (reference_to i)
  Contains-held zero i within marked = absurd (omega arith)
  Contains-held (suc n) i within marked = elim (cases_lt i n) [
    | inl earlier ↦ elim (is_or_other (get_or marks n 0) 1) [
      | inl last_marked ↦
          let there = Contains-held n i earlier marked in
          subst (λ (rs : List NodeRef). Contains rs (reference_to i)) (sym (marked-step n last_marked)) (suc there.0, (let w = there.1 in omega arith), there.2)
      | inr unmarked ↦ subst (λ (rs : List NodeRef). Contains rs (reference_to i)) (sym (unmarked-step n unmarked)) (Contains-held n i earlier marked)
    ]
    | inr here ↦
        let e : n ≡ i = omega arith in
        subst (λ (k : ℕ). Contains (held_below marks (suc n)) (reference_to k)) e
        (subst (λ (rs : List NodeRef). Contains rs (reference_to n)) (sym (marked-step n (ap (λ (k : ℕ). get_or marks k 0) e ∙ marked))) (0, omega arith, refl))
  ]

  not_later : (n k : ℕ) (r : NodeRef) → r ≡ reference_to n → slice_get (held_below marks n) k ≡ Some r → ⊥
  not_later n k r names there =
      let p = IsIndex-held n r (Contains-slice_get (held_below marks n) k r there) in
      let e : n ≡ p.index = reference_to-injective n p.index (sym names ∙ p.names) in
      let w = p.within in omega arith

  cons_once : (n i j : ℕ) (r : NodeRef) →
      ((i j : ℕ) (r : NodeRef) → slice_get (held_below marks n) i ≡ Some r → slice_get (held_below marks n) j
      ≡ Some r → i ≡ j) → slice_get (reference_to n ∷ held_below marks n) i ≡ Some r →
      slice_get (reference_to n ∷ held_below marks n) j ≡ Some r → i ≡ j
  cons_once n zero zero r before at_i at_j = refl
  cons_once n zero (suc j) r before at_i at_j =
      absurd (not_later n j r (let e : ◌≡◌ {A = Option NodeRef} (Some (reference_to n)) (Some r) = at_i in let f : r
      ≡ reference_to n = cc in f) at_j)
  cons_once n (suc i) zero r before at_i at_j =
      absurd (not_later n i r (let e : ◌≡◌ {A = Option NodeRef} (Some (reference_to n)) (Some r) = at_j in let f : r
      ≡ reference_to n = cc in f) at_i)
  cons_once n (suc i) (suc j) r before at_i at_j = ap suc (before i j r at_i at_j)

  pub once-held : (n i j : ℕ) (r : NodeRef) → slice_get (held_below marks n) i ≡ Some r → slice_get (held_below marks n) j ≡ Some r → i ≡ j
  unfolding held_below
  once-held zero i j r at_i at_j = absurd (let e : ◌≡◌ {A = Option NodeRef} None (Some r) = at_i in cc)
  once-held (suc n) i j r at_i at_j = elim (is_or_other (get_or marks n 0) 1) [
    | inl marked ↦ cons_once n i j r (once-held n)
        (ap (λ (rs : List NodeRef). slice_get rs i) (sym (marked-step n marked)) ∙ at_i)
        (ap (λ (rs : List NodeRef). slice_get rs j) (sym (marked-step n marked)) ∙ at_j)
    | inr unmarked ↦ once-held n i j r
        (ap (λ (rs : List NodeRef). slice_get rs i) (sym (unmarked-step n unmarked)) ∙ at_i)
        (ap (λ (rs : List NodeRef). slice_get rs j) (sym (unmarked-step n unmarked)) ∙ at_j)
  ]
