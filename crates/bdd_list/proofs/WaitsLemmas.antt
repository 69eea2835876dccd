-- What is kept on the way.
use Rattle.std.proofs.Common.{◌≡◌, ℕ, suc, zero, ◌<◌, ◌≤◌, true, false, List, [], ◌∷◌, ◌++◌, length, Option, Some, None}
use Rattle.std.proofs.Common.{◌⊎◌, inl, inr}
use Rattle.std.proofs.Common.{if◌then◌else◌, sym, ◌∙◌, ap, refl, subst, arith, length-append, append_assoc, append-nil, slice_get}
use Rattle.std.specs.Prelude.{MatchOption, Contains}
use Rattle.std.specs.HashMap.{Updates}
use Rattle.std.proofs.Math.ListN.{get_or-append}
use Rattle.std.proofs.Math.Seq.{get_or-append_seam}
use Rattle.std.proofs.lemmas.Bool.{cases_Bool, eqb-true, cases_lt, cases_eq}
use Rattle.labels.specs.Labels.{Label, Function, with_track}
use Rattle.bdd_nodes.specs.declared.node_ref.NodeRef.{NodeRef}
use Rattle.bdd_nodes.specs.Nodes.{node_of}
use Rattle.bdd_nodes.specs.Shelf.{Contents, IsShelf, IsValid, IsLeaf, Splits, state_of, top_of, low_of, high_of, rank_of}
use Rattle.bdd_nodes.specs.Changes.{itself, by_low, by_high}
use Rattle.bdd_nodes.proofs.CanonicalLemmas.{differ_named, changes_named}
use Rattle.bdd_nodes.proofs.RefLemmas.{node_of-injective}
use Rattle.bdd_nodes.proofs.UnderLemmas.{IsUnder-reached}
use Rattle.bdd_list.specs.declared.listing.Listed.{Listed}
use Rattle.bdd_list.specs.declared.listing.Listed.TheVariants.{Leaf, Inner}
use Rattle.bdd_list.specs.declared.listing.ListedNode.{ListedNode}
use Rattle.bdd_list.specs.declared.walk.Frame.{Frame}
use Rattle.bdd_list.specs.declared.walk.Frame.TheVariants.{Low, High}
use Rattle.bdd_list.specs.declared.walk.Turn.TheVariants.{Visit, Done}
use Rattle.bdd_list.specs.Listing.{node_at, first_track, function_in, IsIn, IsSide, AreOrdered, DifferSomewhere, IsUnderRoot, IsListing}
use Rattle.bdd_list.specs.Waits.{Memo, same_ref, found, Extends, Lists, IsUnderSome, IsFor, IsList, IsDue, AllWait, Work, Works}
use Rattle.bdd_list.proofs.ListingLemmas.{if_same, function_in-leaf, function_in-inner, function_in-append}

-- equal words are equal references
same_word : (a b : NodeRef) → same_ref a b ≡ true → a ≡ b
same_word a b e = ap (λ (w : ℕ). let r : NodeRef = record { word = w } in r) (eqb-true a.word b.word e)

other_rank : (a b : NodeRef) → rank_of a < rank_of b → same_ref a b ≡ false
other_rank a b less = elim (cases_Bool (same_ref a b)) [
  | inl same ↦ absurd (let e = ap rank_of (same_word a b same) in omega arith)
  | inr apart ↦ apart
]

-- more nodes change nothing for what is listed
node_at-append : (nodes more : List ListedNode) (i : ℕ) → i < length nodes → node_at (nodes ++ more) i ≡ node_at nodes i
node_at-append nodes more i inside = get_or-append nodes more (record { track = 0; low = Leaf 0; high = Leaf 0 }) i inside

first_track-append : (nodes more : List ListedNode) (listed : Listed) → IsIn nodes listed → first_track (nodes ++ more) listed ≡ first_track nodes listed
first_track-append nodes more (Leaf state) inside = refl
first_track-append nodes more (Inner i) inside = ap (λ (n : ListedNode). Some n.track) (node_at-append nodes more i (omega arith))

IsIn-append : (nodes more : List ListedNode) (listed : Listed) → IsIn nodes listed → IsIn (nodes ++ more) listed
IsIn-append nodes more listed inside = let e = length-append nodes more in omega arith

pub Lists-append : (shelf : Contents) (nodes more : List ListedNode) (r : NodeRef) (listed : Listed) →
    Lists shelf nodes r listed → Lists shelf (nodes ++ more) r listed
Lists-append shelf nodes more r listed lists = record {
  valid = lists.valid;
  inside = IsIn-append nodes more listed lists.inside;
  top = first_track-append nodes more listed lists.inside ∙ lists.top;
  states = λ label. function_in-append nodes more listed label lists.inside ∙ lists.states label;
}

pub Lists-extends : (shelf : Contents) (old new : List ListedNode) (r : NodeRef) (listed : Listed) → Extends old new →
    Lists shelf old r listed → Lists shelf new r listed
Lists-extends shelf old new r listed extends lists =
    subst (λ (nodes : List ListedNode). Lists shelf nodes r listed) (sym extends.is) (Lists-append shelf old extends.more r listed lists)

IsSide-append : (nodes more : List ListedNode) (i track : ℕ) (listed : Listed) → i ≤ length nodes →
    IsSide nodes i track listed → IsSide (nodes ++ more) i track listed
IsSide-append nodes more i track listed inside side = record {
  before = side.before;
  later = subst (λ (first : Option ℕ). MatchOption first (Unit {0}) (λ t. suc track ≤ t))
      (sym (first_track-append nodes more listed (let b = side.before in omega arith))) side.later;
}

-- an ordered list with one more node
module _ (nodes : List ListedNode) (n : ListedNode) (ordered : AreOrdered nodes)
    (low : IsSide nodes (length nodes) n.track n.low) (high : IsSide nodes (length nodes) n.track n.high) where
  node_at-last : node_at (nodes ++ n ∷ []) (length nodes) ≡ n
  node_at-last = get_or-append_seam nodes n [] (record { track = 0; low = Leaf 0; high = Leaf 0 })

  SideAt : (ListedNode → Listed) → ℕ → Type 0
  SideAt side i = let at = node_at (nodes ++ n ∷ []) i in IsSide (nodes ++ n ∷ []) i at.track (side at)

  side-before : (side : ListedNode → Listed) (i : ℕ) → i < length nodes →
      IsSide nodes i (node_at nodes i).track (side (node_at nodes i)) → SideAt side i
  unfolding SideAt
  side-before side i inside is_side =
      subst (λ (at : ListedNode). IsSide (nodes ++ n ∷ []) i at.track (side at)) (sym (node_at-append nodes (n ∷ []) i inside))
      (IsSide-append nodes (n ∷ []) i (node_at nodes i).track (side (node_at nodes i)) (omega arith) is_side)

  side-last : (side : ListedNode → Listed) (i : ℕ) → i ≡ length nodes →
      IsSide nodes (length nodes) n.track (side n) → SideAt side i
  unfolding SideAt
  side-last side i last is_side =
      subst (λ (k : ℕ). let at = node_at (nodes ++ n ∷ []) k in IsSide (nodes ++ n ∷ []) k at.track (side at)) (sym last)
      (subst (λ (at : ListedNode). IsSide (nodes ++ n ∷ []) (length nodes) at.track (side at)) (sym node_at-last)
      (IsSide-append nodes (n ∷ []) (length nodes) n.track (side n) (omega arith) is_side))

  pub AreOrdered-push : AreOrdered (nodes ++ n ∷ [])
  unfolding SideAt
  AreOrdered-push = let e = length-append nodes (n ∷ []) in record {
    low = λ i inside. elim (cases_lt i (length nodes)) [
      | inl before ↦ side-before (λ (m : ListedNode). m.low) i before (ordered.low i before)
      | inr last ↦ side-last (λ (m : ListedNode). m.low) i (omega arith) low
    ];
    high = λ i inside. elim (cases_lt i (length nodes)) [
      | inl before ↦ side-before (λ (m : ListedNode). m.high) i before (ordered.high i before)
      | inr last ↦ side-last (λ (m : ListedNode). m.high) i (omega arith) high
    ];
  }

-- what waits goes on waiting, where a node below it is listed
module _ (shelf : Contents) (roots : List NodeRef) (nodes more : List ListedNode) (memo after : Memo) (whole made : NodeRef)
    (listed : Listed) (updates : Updates same_ref memo after made (Some listed)) where
  IsDue-kept : (node : NodeRef) (track : ℕ) → rank_of made < rank_of node → IsDue shelf roots memo node track → IsDue shelf roots after node track
  IsDue-kept node track below due = record {
    valid = due.valid;
    top = due.top;
    splits = due.splits;
    fresh = updates.2 node (other_rank made node below) ∙ due.fresh;
    under = due.under;
  }

  pub AllWait-kept : (frames : List Frame) (focus : NodeRef) → rank_of made ≤ rank_of focus →
      AllWait shelf roots nodes memo whole frames focus → AllWait shelf roots (nodes ++ more) after whole frames focus
  AllWait-kept [] focus below waits = waits
  AllWait-kept (Low node track high ∷ frames) focus below waits =
      let falls : rank_of focus < rank_of node = (let e = ap rank_of waits.0 in let f = waits.2.splits.low_falls in omega arith) in (
        waits.0,
        waits.1,
        IsDue-kept node track (omega arith) waits.2,
        AllWait-kept frames node (omega arith) waits.3,
      )
  AllWait-kept (High node track low ∷ frames) focus below waits =
      let falls : rank_of focus < rank_of node = (let e = ap rank_of waits.0 in let f = waits.2.splits.high_falls in omega arith) in (
        waits.0,
        Lists-append shelf nodes more (low_of shelf node) low waits.1,
        IsDue-kept node track (omega arith) waits.2,
        AllWait-kept frames node (omega arith) waits.3,
      )

module _ (work : Work) (nodes : List ListedNode) (memo : Memo) (stack : List Frame) where
  -- a leaf
  pub works-leaf : (r : NodeRef) (state : ℕ) → IsLeaf r state → Works work nodes memo stack (Visit r) →
      Works work nodes memo stack (Done (Leaf state))
  works-leaf r state leaf works = record {
    is_shelf = works.is_shelf;
    list = works.list;
    extends = works.extends;
    underway = record {
      focus = r;
      lists = record {
        valid = works.underway.valid;
        inside = omega arith;
        top = sym (leaf.top work.shelf);
        states = λ label. function_in-leaf nodes state label ∙ sym (leaf.states work.shelf label);
      };
      waits = works.underway.waits;
    };
  }

  -- what is listed already
  pub works-found : (r : NodeRef) (listed : Listed) → found memo r ≡ Some listed → Works work nodes memo stack (Visit r) →
      Works work nodes memo stack (Done listed)
  works-found r listed is works = record {
    is_shelf = works.is_shelf;
    list = works.list;
    extends = works.extends;
    underway = record { focus = r; lists = works.list.lists r listed is; waits = works.underway.waits };
  }

  -- down to the low side
  pub works-low : (r : NodeRef) (track : ℕ) (low high : NodeRef) → found memo r ≡ None → top_of work.shelf r ≡ Some track →
      Splits work.shelf r track → low ≡ low_of work.shelf r → high ≡ high_of work.shelf r →
      Works work nodes memo stack (Visit r) → Works work nodes memo (Low r track high ∷ stack) (Visit low)
  works-low r track low high fresh top splits is_low is_high works = record {
    is_shelf = works.is_shelf;
    list = works.list;
    extends = works.extends;
    underway = record {
      valid = subst (IsValid work.shelf) (sym is_low) splits.low.valid;
      under = subst (IsUnderSome work.shelf work.roots) (sym is_low) (record {
        root = works.underway.under.root;
        there = works.underway.under.there;
        reached = by_low r works.underway.under.reached;
      });
      waits = (
        is_low,
        is_high,
        record { valid = works.underway.valid; top = top; splits = splits; fresh = fresh; under = works.underway.under },
        works.underway.waits,
      );
    };
  }

  -- down to the high side
  pub works-high : (r : NodeRef) (track : ℕ) (high : NodeRef) (listed : Listed) →
      Works work nodes memo (Low r track high ∷ stack) (Done listed) →
      Works work nodes memo (High r track listed ∷ stack) (Visit high)
  works-high r track high listed works =
      let due = works.underway.waits.2 in
      let is_high = works.underway.waits.1 in
      record {
        is_shelf = works.is_shelf;
        list = works.list;
        extends = works.extends;
        underway = record {
          valid = subst (IsValid work.shelf) (sym is_high) due.splits.high.valid;
          under = subst (IsUnderSome work.shelf work.roots) (sym is_high) (record {
            root = due.under.root;
            there = due.under.there;
            reached = by_high r due.under.reached;
          });
          waits = (
            is_high,
            subst (λ (side : NodeRef). Lists work.shelf nodes side listed) works.underway.waits.0 works.underway.lists,
            due,
            works.underway.waits.3,
          );
        };
      }

  -- one more node
  module _ (node : NodeRef) (track : ℕ) (low high : Listed) (after : Memo) (place : ℕ)
      (works : Works work nodes memo (High node track low ∷ stack) (Done high)) (is_place : place ≡ length nodes)
      (updates : Updates same_ref memo after node (Some (Inner place))) where
    made : ListedNode
    made = record { track = track; low = low; high = high }

    due : IsDue work.shelf work.roots memo node track
    due = works.underway.waits.2

    listed_low : Lists work.shelf nodes (low_of work.shelf node) low
    listed_low = works.underway.waits.1

    listed_high : Lists work.shelf nodes (high_of work.shelf node) high
    listed_high = subst (λ (side : NodeRef). Lists work.shelf nodes side high) works.underway.waits.0 works.underway.lists

    ordered-made : AreOrdered (nodes ++ made ∷ [])
    unfolding made
    ordered-made = AreOrdered-push nodes made works.list.ordered
        (record {
          before = listed_low.inside;
          later = subst (λ (first : Option ℕ). MatchOption first (Unit {0}) (λ t. suc track ≤ t)) (sym listed_low.top) due.splits.low.later;
        })
        (record {
          before = listed_high.inside;
          later = subst (λ (first : Option ℕ). MatchOption first (Unit {0}) (λ t. suc track ≤ t)) (sym listed_high.top) due.splits.high.later;
        })

    at_place : node_at (nodes ++ made ∷ []) place ≡ made
    at_place = ap (node_at (nodes ++ made ∷ [])) is_place ∙ get_or-append_seam nodes made [] (record { track = 0; low = Leaf 0; high = Leaf 0 })

    function-made : (label : Label) → function_in (nodes ++ made ∷ []) (Inner place) label ≡ state_of work.shelf node label
    unfolding made
    function-made label =
        let e = length-append nodes (made ∷ []) in
        let inside : place < length (nodes ++ made ∷ []) = omega arith in
        function_in-inner (nodes ++ made ∷ []) place label inside
        (ordered-made.low place inside).before (ordered-made.high place inside).before
        ∙ ap (λ (at : ListedNode). if label at.track then function_in (nodes ++ made ∷ []) at.high label
        else function_in (nodes ++ made ∷ []) at.low label) at_place
        ∙ if_same (label track) _ _ _ _
        (function_in-append nodes (made ∷ []) high label listed_high.inside ∙ listed_high.states label)
        (function_in-append nodes (made ∷ []) low label listed_low.inside ∙ listed_low.states label)
        ∙ sym (due.splits.states label)

    lists-made : Lists work.shelf (nodes ++ made ∷ []) node (Inner place)
    unfolding made
    lists-made = record {
      valid = due.valid;
      inside = let e = length-append nodes (made ∷ []) in omega arith;
      top = ap (λ (at : ListedNode). Some at.track) at_place ∙ sym due.top;
      states = function-made;
    }

    found-made : found after node ≡ Some (Inner place)
    found-made = updates.1

    lists-after : (r : NodeRef) (listed : Listed) → found after r ≡ Some listed → Lists work.shelf (nodes ++ made ∷ []) r listed
    lists-after r listed there = elim (cases_Bool (same_ref node r)) [
      | inl same ↦
          let is : node ≡ r = same_word node r same in
          let now : Some (Inner place) ≡ Some listed = sym found-made ∙ ap (found after) is ∙ there in
          let same_listed : Inner place ≡ listed = cc in
          subst (λ (x : NodeRef). Lists work.shelf (nodes ++ made ∷ []) x listed) is
          (subst (Lists work.shelf (nodes ++ made ∷ []) node) same_listed lists-made)
      | inr apart ↦ Lists-append work.shelf nodes (made ∷ []) r listed (works.list.lists r listed (sym (updates.2 r apart) ∙ there))
    ]

    apart-fresh : (r : NodeRef) (listed : Listed) → found memo r ≡ Some listed → same_ref node r ≡ false
    apart-fresh r listed there = elim (cases_Bool (same_ref node r)) [
      | inl same ↦ absurd (let e : None ≡ Some listed = sym due.fresh ∙ ap (found memo) (same_word node r same) ∙ there in cc)
      | inr apart ↦ apart
    ]

    each-after : (index : ℕ) → index < length (nodes ++ made ∷ []) → IsFor work.shelf work.roots after index
    each-after index inside = let e = length-append nodes (made ∷ []) in elim (cases_lt index (length nodes)) [
      | inl before ↦
          let was = works.list.each index before in
          record {
            node = was.node;
            found_there = updates.2 was.node (apart-fresh was.node (Inner index) was.found_there) ∙ was.found_there;
            under = was.under;
          }
      | inr last ↦
          let is : place ≡ index = omega arith in
          record { node = node; found_there = found-made ∙ ap (λ (k : ℕ). Some (Inner k)) is; under = due.under }
    ]

    pub works-made : Works work (nodes ++ record { track = track; low = low; high = high } ∷ []) after stack (Done (Inner place))
    unfolding made
    works-made = record {
      is_shelf = works.is_shelf;
      list = record { ordered = ordered-made; lists = lists-after; each = each-after };
      extends = record {
        more = works.extends.more ++ made ∷ [];
        is = ap (λ (ns : List ListedNode). ns ++ made ∷ []) works.extends.is ∙ append_assoc work.before works.extends.more (made ∷ []);
      };
      underway = record {
        focus = node;
        lists = lists-made;
        waits = AllWait-kept work.shelf work.roots nodes (made ∷ []) memo after work.whole node (Inner place) updates
            stack node (omega arith) works.underway.waits.3;
      };
    }

-- at the start
pub works-start : (work : Work) (nodes : List ListedNode) (memo : Memo) (stack : List Frame) → IsShelf work.shelf →
    work.before ≡ nodes → stack ≡ [] → IsValid work.shelf work.whole → Contains work.roots work.whole →
    IsList work.shelf work.roots nodes memo → Works work nodes memo stack (Visit work.whole)
works-start work nodes memo stack is_shelf before empty valid there list = record {
  is_shelf = is_shelf;
  list = list;
  extends = record { more = []; is = sym before ∙ sym (append-nil work.before) };
  underway = record {
    valid = valid;
    under = record { root = work.whole; there = there; reached = itself };
    waits = subst (λ (frames : List Frame). AllWait work.shelf work.roots nodes memo work.whole frames work.whole) (sym empty) refl;
  };
}

-- at the end
pub lists-whole : (work : Work) (nodes : List ListedNode) (memo : Memo) (stack : List Frame) (listed : Listed) → stack ≡ [] →
    Works work nodes memo stack (Done listed) → Lists work.shelf nodes work.whole listed
lists-whole work nodes memo stack listed empty works =
    let waits = subst (λ (frames : List Frame). AllWait work.shelf work.roots nodes memo work.whole frames works.underway.focus) empty works.underway.waits in
    subst (λ (r : NodeRef). Lists work.shelf nodes r listed) waits works.underway.lists

pub IsList-none : (shelf : Contents) (roots : List NodeRef) (memo : Memo) → ((r : NodeRef) → found memo r ≡ None) → IsList shelf roots [] memo
IsList-none shelf roots memo none = record {
  ordered = record { low = λ i inside. absurd (omega arith); high = λ i inside. absurd (omega arith) };
  lists = λ r listed there. absurd (let e = none r in let f : None ≡ Some listed = sym e ∙ there in cc);
  each = λ index inside. absurd (omega arith);
}

-- the whole list
module _ (shelf : Contents) (roots : List NodeRef) (nodes : List ListedNode) (memo : Memo) (is_shelf : IsShelf shelf)
    (list : IsList shelf roots nodes memo) (valid : (r : NodeRef) → Contains roots r → IsValid shelf r) where
  lists-for : (index : ℕ) (inside : index < length nodes) → Lists shelf nodes (list.each index inside).node (Inner index)
  lists-for index inside = list.lists (list.each index inside).node (Inner index) (list.each index inside).found_there

  differ-sym : (f h : Function) → DifferSomewhere f h → DifferSomewhere h f
  differ-sym f h differ = record { label = differ.label; differs = λ e. differ.differs (sym e) }

  -- an inner node is no leaf
  leaf-inner : (state index : ℕ) → index < length nodes → DifferSomewhere (function_in nodes (Leaf state)) (function_in nodes (Inner index))
  leaf-inner state index inside =
      let r = (list.each index inside).node in
      let lists = lists-for index inside in
      let changes = changes_named shelf.nodes is_shelf.canonical (node_of r) (node_at nodes index).track lists.valid (sym lists.top) in
      let unset = with_track changes.0 (node_at nodes index).track false in
      let set = with_track changes.0 (node_at nodes index).track true in
      elim (cases_eq (state_of shelf r unset) state) [
        | inl same ↦ record {
          label = set;
          differs = λ e. changes.1 (same ∙ sym (function_in-leaf nodes state set) ∙ e ∙ lists.states set);
        }
        | inr other ↦ record {
          label = unset;
          differs = λ e. other (sym (lists.states unset) ∙ sym e ∙ function_in-leaf nodes state unset);
        }
      ]

  -- two inner nodes are for two references
  inner-inner : (i j : ℕ) → i < length nodes → j < length nodes → (i ≡ j → ⊥) → DifferSomewhere (function_in nodes (Inner i)) (function_in nodes (Inner j))
  inner-inner i j i_inside j_inside other =
      let one = list.each i i_inside in
      let two = list.each j j_inside in
      let apart : one.node ≡ two.node → ⊥ = λ same. other
      (let e : Some (Inner i) ≡ Some (Inner j) = sym one.found_there ∙ ap (found memo) same ∙ two.found_there in cc) in
      let differ = differ_named shelf.nodes is_shelf.canonical (node_of one.node) (node_of two.node)
      (lists-for i i_inside).valid (lists-for j j_inside).valid (λ e. apart (node_of-injective one.node two.node e)) in
      record {
        label = differ.0;
        differs = λ e. differ.1 (sym ((lists-for i i_inside).states differ.0) ∙ e ∙ (lists-for j j_inside).states differ.0);
      }

  differ-listed : (one other : Listed) → IsIn nodes one → IsIn nodes other → (one ≡ other → ⊥) → DifferSomewhere (function_in nodes one)
      (function_in nodes other)
  differ-listed (Leaf p) (Leaf q) one_in other_in apart = record {
    label = λ t. false;
    differs = λ e. apart (ap (λ (n : ℕ). Leaf n) (sym (function_in-leaf nodes p (λ t. false)) ∙ e ∙ function_in-leaf nodes q (λ t. false)));
  }
  differ-listed (Leaf p) (Inner j) one_in other_in apart = leaf-inner p j (omega arith)
  differ-listed (Inner i) (Leaf q) one_in other_in apart =
      differ-sym (function_in nodes (Leaf q)) (function_in nodes (Inner i)) (leaf-inner q i (omega arith))
  differ-listed (Inner i) (Inner j) one_in other_in apart =
      inner-inner i j (omega arith) (omega arith) (λ e. apart (ap (λ (n : ℕ). Inner n) e))

  under-listed : (i : ℕ) → i < length nodes → IsUnderRoot shelf roots (function_in nodes (Inner i))
  under-listed i inside =
      let for_it = list.each i inside in
      let under = IsUnder-reached shelf is_shelf for_it.under.root for_it.node (valid for_it.under.root for_it.under.there) for_it.under.reached in
      record {
        root = for_it.under.root;
        there = for_it.under.there;
        under = record {
          below = under.below;
          fixed = under.fixed;
          states = λ label. (lists-for i inside).states label ∙ under.states label;
        };
      }

  pub IsListing-whole : (listed : List Listed) → length listed ≡ length roots →
      ((k : ℕ) (r : NodeRef) (x : Listed) → slice_get roots k ≡ Some r → slice_get listed k ≡ Some x → Lists shelf nodes r x) →
      ((k : ℕ) (x : Listed) → slice_get listed k ≡ Some x → (r : NodeRef) × (slice_get roots k ≡ Some r)) →
      IsListing shelf roots (record { nodes = nodes; roots = listed })
  IsListing-whole listed many each at = record {
    many = many;
    ordered = list.ordered;
    inside = λ k x there. let r = at k x there in (each k r.0 x r.1 there).inside;
    root = λ k r x r_there there label. (each k r x r_there there).states label;
    under = under-listed;
    differ = differ-listed;
  }

-- elements of a list with one more
pub push-cases : {X : Type 0} (xs : List X) (y z : X) (k : ℕ) → slice_get (xs ++ y ∷ []) k ≡ Some z →
    (slice_get xs k ≡ Some z) ⊎ ((k ≡ length xs) × (y ≡ z))
push-cases [] y z zero e = inr (refl, cc)
push-cases [] y z (suc k) e = absurd cc
push-cases (x ∷ xs) y z zero e = inl e
push-cases (x ∷ xs) y z (suc k) e =
    elim (push-cases xs y z k e) as (λ _. (slice_get xs k ≡ Some z) ⊎ ((suc k ≡ suc (length xs)) × (y ≡ z))) [
      | inl h ↦ inl h
      | inr h ↦ inr (ap suc h.0, h.1)
    ]

-- a place within a list has an element
pub slice_get-total : {X : Type 0} (xs : List X) (k : ℕ) → k < length xs → (x : X) × (slice_get xs k ≡ Some x)
slice_get-total [] k inside = absurd (omega arith)
slice_get-total (x ∷ xs) zero inside = (x, refl)
slice_get-total (x ∷ xs) (suc k) inside = slice_get-total xs k (omega arith)
