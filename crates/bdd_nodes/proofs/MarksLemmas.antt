-- Marks at indices.
use Rattle.std.proofs.Common.{◌≡◌, ◌≢◌, ◌⊎◌, ℕ, suc, zero, ◌<◌, ◌≤◌, List, [], ◌∷◌, ◌++◌, length, get_or, set, sym, ◌∙◌, ap, refl}
use Rattle.std.proofs.Common.{subst, inl, inr, arith, append_assoc}
use Rattle.std.specs.Prelude.{All, Contains}
use Rattle.std.proofs.lemmas.Bool.{cases_lt}
use Rattle.std.proofs.lemmas.List.{get_or-set_other, get_or-set_same, length-set, append-nil}
use Rattle.std.proofs.lemmas.List.Elements.{Contains-append_left, Contains-append_right, Contains-append_cases}
use Rattle.bdd_nodes.specs.declared.node_ref.NodeRef.{NodeRef}
use Rattle.bdd_nodes.specs.declared.node_ref.Named.{Named}
use Rattle.bdd_nodes.specs.declared.node_ref.Named.TheVariants.{Leaf, Inner}
use Rattle.bdd_nodes.specs.declared.node.Node.{Node}
use Rattle.bdd_nodes.specs.declared.roots.RootTable.{RootTable}
use Rattle.bdd_nodes.specs.Nodes.{node_of, rank, node_at, AreCanonical}
use Rattle.bdd_nodes.specs.Shelf.{low_named, high_named}
use Rattle.bdd_nodes.specs.Changes.{Reaches, by_low, by_high, itself}
use Rattle.bdd_nodes.specs.Roots.{table_at}
use Rattle.bdd_nodes.specs.Collecting.{reference_to, all_roots, with_mark, IsMarked, SomeNames, MarksList, FromMarked, MarksSides}
use Rattle.bdd_nodes.proofs.RefLemmas.{node_of-inner, node_of-injective}

-- the reference to an index names the node there
pub node_of-reference_to : (index : ℕ) → node_of (reference_to index) ≡ Inner index
node_of-reference_to index = node_of-inner (reference_to index) (omega arith) ∙ ap Inner (omega arith)

-- and it is the only one
pub reference_to-named : (r : NodeRef) (index : ℕ) → node_of r ≡ Inner index → r ≡ reference_to index
reference_to-named r index named = node_of-injective r (reference_to index) (named ∙ sym (node_of-reference_to index))

length-with_mark : (marks : List ℕ) (named : Named) → length (with_mark marks named) ≡ length marks
length-with_mark marks (Leaf state) = refl
length-with_mark marks (Inner index) = length-set marks index 1

with_mark-other : (marks : List ℕ) (index i : ℕ) → i ≢ index → get_or (with_mark marks (Inner index)) i 0 ≡ get_or marks i 0
with_mark-other marks index i other = get_or-set_other marks index i 1 0 other

get_or-past : (marks : List ℕ) (index i : ℕ) → length marks ≤ index → get_or (set marks index 1) i 0 ≡ get_or marks i 0
get_or-past [] index i past = refl
get_or-past (m ∷ marks) zero i past = absurd (omega arith)
get_or-past (m ∷ marks) (suc index) zero past = refl
get_or-past (m ∷ marks) (suc index) (suc i) past = get_or-past marks index i (omega arith)

-- a mark is as it was, or it is the new one
with_mark-cases : (marks : List ℕ) (named : Named) (i : ℕ) → (get_or (with_mark marks named) i 0 ≡ get_or marks i 0)
    ⊎ ((named ≡ Inner i) × (get_or (with_mark marks named) i 0 ≡ 1))
with_mark-cases marks (Leaf state) i = inl refl
with_mark-cases marks (Inner index) i = elim (cases_lt i index) [
  | inl below ↦ inl (with_mark-other marks index i (λ e. omega arith))
  | inr not_below ↦ elim (cases_lt index i) [
    | inl above ↦ inl (with_mark-other marks index i (λ e. omega arith))
    | inr not_above ↦ elim (cases_lt index (length marks)) [
      | inl within ↦
          let same : index ≡ i = omega arith in
          inr (ap Inner same, subst (λ (k : ℕ). get_or (set marks index 1) k 0 ≡ 1) same (get_or-set_same marks index 1 0 within))
      | inr past ↦ inl (get_or-past marks index i past)
    ]
  ]
]

with_mark-bits : (marks : List ℕ) (named : Named) (i : ℕ) → get_or marks i 0 ≤ 1 → get_or (with_mark marks named) i 0 ≤ 1
with_mark-bits marks named i bit = elim (with_mark-cases marks named i) [ inl same ↦ omega arith | inr new ↦ (let e = new.1 in omega arith) ]

with_mark-kept : (marks : List ℕ) (named : Named) (i : ℕ) → get_or marks i 0 ≡ 1 → get_or (with_mark marks named) i 0 ≡ 1
with_mark-kept marks named i marked = elim (with_mark-cases marks named i) [ inl same ↦ same ∙ marked | inr new ↦ new.1 ]

with_mark-sound : (marks : List ℕ) (named : Named) (i : ℕ) → get_or (with_mark marks named) i 0 ≡ 1 → (get_or marks i 0 ≡ 1 → ⊥) → named ≡ Inner i
with_mark-sound marks named i marked unmarked = elim (with_mark-cases marks named i) [ inl same ↦ absurd (unmarked (sym same ∙ marked)) | inr new ↦ new.0 ]

with_mark-marked : (marks : List ℕ) (named : Named) → rank named ≤ length marks → IsMarked (with_mark marks named) named
with_mark-marked marks (Leaf state) within = tt
with_mark-marked marks (Inner index) within = get_or-set_same marks index 1 0 within

pub IsMarked-kept : (old new : List ℕ) (named : Named) → ((i : ℕ) → get_or old i 0 ≡ 1 → get_or new i 0 ≡ 1) → IsMarked old named → IsMarked new named
IsMarked-kept old new (Leaf state) kept marked = tt
IsMarked-kept old new (Inner index) kept marked = kept index marked

-- a number is 1 or isn't
pub one_or_not : (n : ℕ) → (n ≡ 1) ⊎ (n ≡ 1 → ⊥)
one_or_not n = elim (cases_lt n 1) [
  | inl below ↦ inr (λ e. omega arith)
  | inr not_below ↦ elim (cases_lt 1 n) [ inl above ↦ inr (λ e. omega arith) | inr not_above ↦ inl (omega arith) ]
]

pub MarksList-none : (marks : List ℕ) → MarksList [] marks marks
MarksList-none marks = record {
  len = refl;
  bits = λ i bit. bit;
  kept = λ i marked. marked;
  marked = λ r there. let w = there.1 in absurd (omega arith);
  sound = λ i marked unmarked. absurd (unmarked marked);
}

SomeNames-left : (xs ys : List NodeRef) (i : ℕ) → SomeNames xs i → SomeNames (xs ++ ys) i
SomeNames-left xs ys i some = record { root = some.root; there = Contains-append_left xs ys some.root some.there; names = some.names }

SomeNames-right : (xs ys : List NodeRef) (i : ℕ) → SomeNames ys i → SomeNames (xs ++ ys) i
SomeNames-right xs ys i some = record { root = some.root; there = Contains-append_right xs ys some.root some.there; names = some.names }

-- one list of references after the other
pub MarksList-append : (xs ys : List NodeRef) (old middle new : List ℕ) → MarksList xs old middle → MarksList ys middle new → MarksList (xs ++ ys) old new
MarksList-append xs ys old middle new first second = record {
  len = second.len ∙ first.len;
  bits = λ i bit. second.bits i (first.bits i bit);
  kept = λ i marked. second.kept i (first.kept i marked);
  marked = λ r there. elim (Contains-append_cases xs ys r there) [
    | inl left ↦ IsMarked-kept middle new (node_of r) second.kept (first.marked r left)
    | inr right ↦ second.marked r right
  ];
  sound = λ i marked unmarked. elim (one_or_not (get_or middle i 0)) [
    | inl before ↦ SomeNames-left xs ys i (first.sound i before unmarked)
    | inr after ↦ SomeNames-right xs ys i (second.sound i marked after)
  ];
}

Contains-one : (x r : NodeRef) → Contains (x ∷ []) r → x ≡ r
Contains-one x r there = subst (λ (k : ℕ). get_or (x ∷ []) k r ≡ r) (let w = there.1 in let e : there.0 ≡ 0 = omega arith in e) there.2

MarksList-one : (r : NodeRef) (marks : List ℕ) → rank (node_of r) ≤ length marks → MarksList (r ∷ []) marks (with_mark marks (node_of r))
MarksList-one r marks within = record {
  len = length-with_mark marks (node_of r);
  bits = with_mark-bits marks (node_of r);
  kept = with_mark-kept marks (node_of r);
  marked = λ q there. subst (λ (x : NodeRef). IsMarked (with_mark marks (node_of r)) (node_of x))
      (Contains-one r q there) (with_mark-marked marks (node_of r) within);
  sound = λ i marked unmarked. record { root = r; there = (0, omega arith, refl); names = with_mark-sound marks (node_of r) i marked unmarked };
}

-- one reference more
pub MarksList-push : (roots : List NodeRef) (r : NodeRef) (old marks : List ℕ) → MarksList roots old marks →
    rank (node_of r) ≤ length old → MarksList (roots ++ r ∷ []) old (with_mark marks (node_of r))
MarksList-push roots r old marks so_far within =
    MarksList-append roots (r ∷ []) old marks _ so_far (MarksList-one r marks (let l = so_far.len in omega arith))

-- the roots of one table are among all
pub Contains-all_roots : (tables : List RootTable) (index : ℕ) (r : NodeRef) → index < length tables →
    Contains (table_at tables index).roots r → Contains (all_roots tables) r
Contains-all_roots [] index r within there = absurd (omega arith)
Contains-all_roots (t ∷ tables) zero r within there = Contains-append_left t.roots (all_roots tables) r there
Contains-all_roots (t ∷ tables) (suc index) r within there =
    Contains-append_right t.roots (all_roots tables) r (Contains-all_roots tables index r (omega arith) there)

pub All-Contains : (P : NodeRef → Type 0) (roots : List NodeRef) (r : NodeRef) → All P roots → Contains roots r → P r
All-Contains P roots r all there = subst P there.2 (all there.0 r there.1)

pub Contains-at : (roots : List NodeRef) (k : ℕ) (d : NodeRef) → k < length roots → Contains roots (get_or roots k d)
Contains-at [] k d within = absurd (omega arith)
Contains-at (x ∷ roots) zero d within = (0, omega arith, refl)
Contains-at (x ∷ roots) (suc k) d within = let there = Contains-at roots k d (omega arith) in (suc there.0, (let w = there.1 in omega arith), there.2)

-- what holds of all roots holds of those of one table
pub All-table : (P : NodeRef → Type 0) (tables : List RootTable) (index : ℕ) → index < length tables →
    All P (all_roots tables) → All P (table_at tables index).roots
All-table P tables index within all = λ k d in_range.
    All-Contains P (all_roots tables) _ all (Contains-all_roots tables index _ within (Contains-at (table_at tables index).roots k d in_range))

-- marking sides begins with all indices ahead
pub MarksSides-none : (nodes : List Node) (marks : List ℕ) → MarksSides nodes marks marks (length nodes)
MarksSides-none nodes marks = record {
  len = refl;
  bits = λ i bit. bit;
  kept = λ i marked. marked;
  low = λ i from within marked. absurd (omega arith);
  high = λ i from within marked. absurd (omega arith);
  sound = λ i marked. record { start = i; marked = marked; reached = itself };
}

module _ (nodes : List Node) (canonical : AreCanonical nodes) (old marks : List ℕ) (index : ℕ)
    (so_far : MarksSides nodes old marks (suc index)) (within : index < length nodes)
    (fits : length nodes ≤ length old) where
  -- an unmarked node asks for nothing
  pub MarksSides-unmarked : (get_or marks index 0 ≡ 1 → ⊥) → MarksSides nodes old marks index
  MarksSides-unmarked unmarked = record {
    len = so_far.len;
    bits = so_far.bits;
    kept = so_far.kept;
    low = λ i from in_range marked. elim (cases_lt index i) [
      | inl later ↦ so_far.low i later in_range marked
      | inr here ↦ absurd (unmarked (ap (λ (k : ℕ). get_or marks k 0) (let e : index ≡ i = omega arith in e) ∙ marked))
    ];
    high = λ i from in_range marked. elim (cases_lt index i) [
      | inl later ↦ so_far.high i later in_range marked
      | inr here ↦ absurd (unmarked (ap (λ (k : ℕ). get_or marks k 0) (let e : index ≡ i = omega arith in e) ∙ marked))
    ];
    sound = so_far.sound;
  }

  module _ (is_marked : get_or marks index 0 ≡ 1) where
    low : Named
    low = node_of (node_at nodes index).low

    high : Named
    high = node_of (node_at nodes index).high

    with_low : List ℕ
    with_low = with_mark marks low

    with_both : List ℕ
    with_both = with_mark with_low high

    low_before : rank low ≤ index
    unfolding low
    low_before = (canonical.low index within).before

    high_before : rank high ≤ index
    unfolding high
    high_before = (canonical.high index within).before

    both_kept : (i : ℕ) → get_or marks i 0 ≡ 1 → get_or with_both i 0 ≡ 1
    unfolding with_both with_low
    both_kept i marked = with_mark-kept with_low high i (with_mark-kept marks low i marked)

    -- what is new is a side of the node
    new_names : (i : ℕ) → get_or with_both i 0 ≡ 1 → (get_or marks i 0 ≡ 1 → ⊥) → (low ≡ Inner i) ⊎ (high ≡ Inner i)
    unfolding with_both with_low
    new_names i marked unmarked = elim (one_or_not (get_or with_low i 0)) [
      | inl by_first ↦ inl (with_mark-sound marks low i by_first unmarked)
      | inr by_second ↦ inr (with_mark-sound with_low high i marked by_second)
    ]

    rank-Inner : (named : Named) (i : ℕ) → named ≡ Inner i → rank named ≤ index → i < index
    rank-Inner named i e below = subst (λ (m : Named). rank m ≤ index) e below

    -- no mark is new from the node on
    same_ahead : (i : ℕ) → index ≤ i → get_or with_both i 0 ≡ 1 → get_or marks i 0 ≡ 1
    same_ahead i ahead marked = elim (one_or_not (get_or marks i 0)) [
      | inl before ↦ before
      | inr unmarked ↦ elim (new_names i marked unmarked) [
        | inl e ↦ absurd (let b = rank-Inner low i e low_before in omega arith)
        | inr e ↦ absurd (let b = rank-Inner high i e high_before in omega arith)
      ]
    ]

    low_marked : IsMarked with_both low
    unfolding with_both with_low
    low_marked = IsMarked-kept with_low with_both low (with_mark-kept with_low high)
        (with_mark-marked marks low (let l = so_far.len in let b = low_before in omega arith))

    high_marked : IsMarked with_both high
    unfolding with_both with_low
    high_marked = with_mark-marked with_low high (let l = so_far.len in let m = length-with_mark marks low in let b = high_before in omega arith)

    by_low-index : (i : ℕ) → low ≡ Inner i → Reaches nodes (reference_to (so_far.sound index is_marked).start) (reference_to i)
    unfolding low
    by_low-index i names = subst (Reaches nodes _)
        (ap (low_named nodes (reference_to index)) (node_of-reference_to index)
        ∙ reference_to-named (node_at nodes index).low i names)
        (by_low (reference_to index) (so_far.sound index is_marked).reached)

    by_high-index : (i : ℕ) → high ≡ Inner i → Reaches nodes (reference_to (so_far.sound index is_marked).start) (reference_to i)
    unfolding high
    by_high-index i names = subst (Reaches nodes _)
        (ap (high_named nodes (reference_to index)) (node_of-reference_to index)
        ∙ reference_to-named (node_at nodes index).high i names)
        (by_high (reference_to index) (so_far.sound index is_marked).reached)

    both_sound : (i : ℕ) → get_or with_both i 0 ≡ 1 → FromMarked nodes old i
    both_sound i marked = elim (one_or_not (get_or marks i 0)) [
      | inl before ↦ so_far.sound i before
      | inr unmarked ↦ elim (new_names i marked unmarked) [
        | inl e ↦ record { start = (so_far.sound index is_marked).start; marked = (so_far.sound index is_marked).marked; reached = by_low-index i e }
        | inr e ↦ record { start = (so_far.sound index is_marked).start; marked = (so_far.sound index is_marked).marked; reached = by_high-index i e }
      ]
    ]

    both_low : (i : ℕ) → index ≤ i → i < length nodes → get_or with_both i 0 ≡ 1 → IsMarked with_both (node_of (node_at nodes i).low)
    unfolding low
    both_low i from in_range marked = elim (cases_lt index i) [
      | inl later ↦ IsMarked-kept marks with_both _ both_kept (so_far.low i later in_range (same_ahead i from marked))
      | inr here ↦ subst (λ (k : ℕ). IsMarked with_both (node_of (node_at nodes k).low)) (let e : index ≡ i = omega arith in e) low_marked
    ]

    both_high : (i : ℕ) → index ≤ i → i < length nodes → get_or with_both i 0 ≡ 1 → IsMarked with_both (node_of (node_at nodes i).high)
    unfolding high
    both_high i from in_range marked = elim (cases_lt index i) [
      | inl later ↦ IsMarked-kept marks with_both _ both_kept (so_far.high i later in_range (same_ahead i from marked))
      | inr here ↦ subst (λ (k : ℕ). IsMarked with_both (node_of (node_at nodes k).high)) (let e : index ≡ i = omega arith in e) high_marked
    ]

    both_len : length with_both ≡ length old
    unfolding with_both with_low
    both_len = length-with_mark with_low high ∙ length-with_mark marks low ∙ so_far.len

    both_bits : (i : ℕ) → get_or old i 0 ≤ 1 → get_or with_both i 0 ≤ 1
    unfolding with_both with_low
    both_bits i bit = with_mark-bits with_low high i (with_mark-bits marks low i (so_far.bits i bit))

    -- a marked node has its sides marked
    pub MarksSides-marked : MarksSides nodes old (with_mark (with_mark marks (node_of (node_at nodes index).low)) (node_of (node_at nodes index).high)) index
    unfolding with_both with_low low high
    MarksSides-marked = record {
      len = both_len;
      bits = both_bits;
      kept = λ i marked. both_kept i (so_far.kept i marked);
      low = both_low;
      high = both_high;
      sound = both_sound;
    }

-- the roots of one table more
pub all_roots-push : (tables : List RootTable) (t : RootTable) → all_roots (tables ++ t ∷ []) ≡ all_roots tables ++ t.roots
all_roots-push [] t = append-nil t.roots
all_roots-push (u ∷ tables) t = ap (λ (rs : List NodeRef). u.roots ++ rs) (all_roots-push tables t) ∙ sym (append_assoc u.roots (all_roots tables) t.roots)
