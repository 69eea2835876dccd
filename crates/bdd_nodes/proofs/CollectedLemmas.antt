-- The shelf after a collection.
use Rattle.std.proofs.Common.{◌≡◌, ◌↔◌, ℕ, ◌≤◌, Bool, true, false, List, [], ◌∷◌, length, eqb, get_or, take, if◌then◌else◌}
use Rattle.std.proofs.Common.{Option, Some, None, sym, ◌∙◌, ap, refl, subst, arith}
use Rattle.std.specs.Prelude.{All, Contains, map, slice_get, option_and_then, option_map, IsSome}
use Rattle.std.proofs.lemmas.List.{length-map}
use Rattle.std.proofs.lemmas.Option.{slice_get-map}
use Rattle.bdd_nodes.specs.declared.node_ref.NodeRef.{NodeRef}
use Rattle.bdd_nodes.specs.declared.node_ref.Named.{Named}
use Rattle.bdd_nodes.specs.declared.node_ref.Named.TheVariants.{Leaf, Inner}
use Rattle.bdd_nodes.specs.declared.node.Node.{Node}
use Rattle.bdd_nodes.specs.declared.roots.RootTable.{RootTable}
use Rattle.bdd_nodes.specs.Nodes.{node_of, rank, state_named, first_track, IsNamedIn}
use Rattle.bdd_nodes.specs.Roots.{number_of, roots_under, root_under}
use Rattle.bdd_nodes.specs.Shelf.{Contents, IsShelf, IsValid, count_of, root_of}
use Rattle.bdd_nodes.specs.Changes.{IsHeld, CountsHeld, IsMoved, MovesRoots}
use Rattle.bdd_nodes.specs.Collecting.{reference_to, all_roots, IsMarked, AreClosed, marked_below, moved_named, moved, MovesBelow}
use Rattle.bdd_nodes.specs.Collecting.{MarksList, MarksSides, linked_named, linked, linked_table, IsLinked}
use Rattle.bdd_nodes.proofs.CanonicalLemmas.{rank-IsNamedIn}
use Rattle.bdd_nodes.proofs.RootsLemmas.{AreNumbered-map}
use Rattle.bdd_nodes.proofs.MarksLemmas.{reference_to-named, Contains-at}
use Rattle.bdd_nodes.proofs.MovesLemmas.{marked_below-le}
use Rattle.bdd_nodes.proofs.HeldLemmas.{IsRoot-Contains, Contains-root_under, AreClosed-marks, IsMarked-root, IsUnderRoot-marked}
use Rattle.bdd_nodes.proofs.HeldLemmas.{marked-IsUnderRoot, held_below, length-held_below, IsIndex-held, Contains-held, once-held}
use Rattle.bdd_nodes.proofs.CollectLemmas.{node_of-moved, HasMoved, HasMoved-take, IsNamedIn-moved_to, first_track-moved_to}
use Rattle.bdd_nodes.proofs.CollectLemmas.{AreCanonical-left, state_named-moved_to}

-- what is found in tables whose roots were replaced
root_under-if : (f : NodeRef → NodeRef) (b : Bool) (roots : List NodeRef) (index : ℕ)
    (rest new_rest : Option (List NodeRef)) → option_and_then (λ rs. slice_get rs index) new_rest
    ≡ option_map f (option_and_then (λ rs. slice_get rs index) rest) →
    option_and_then (λ rs. slice_get rs index) (if b then Some (map f roots) else new_rest)
    ≡ option_map f (option_and_then (λ rs. slice_get rs index) (if b then Some roots else rest))
root_under-if f true roots index rest new_rest same = slice_get-map f roots index
root_under-if f false roots index rest new_rest same = same

root_under-map : (links : List ℕ) (tables : List RootTable) (number index : ℕ) →
    root_under (map (linked_table links) tables) number index
    ≡ option_map (linked links) (root_under tables number index)
root_under-map links [] number index = refl
root_under-map links (t ∷ tables) number index =
    root_under-if (linked links) (eqb (number_of t.id) number) t.roots index (roots_under tables number)
    (roots_under (map (linked_table links) tables) number) (root_under-map links tables number index)

length-if : (f : NodeRef → NodeRef) (b : Bool) (roots : List NodeRef) (rest new_rest : Option (List NodeRef)) →
    option_map length new_rest ≡ option_map length rest →
    option_map length (if b then Some (map f roots) else new_rest) ≡ option_map length (if b then Some roots else rest)
length-if f true roots rest new_rest same = ap Some (simp length-map)
length-if f false roots rest new_rest same = same

lengths-map : (links : List ℕ) (tables : List RootTable) (number : ℕ) →
    option_map length (roots_under (map (linked_table links) tables) number)
    ≡ option_map length (roots_under tables number)
lengths-map links [] number = refl
lengths-map links (t ∷ tables) number =
    length-if (linked links) (eqb (number_of t.id) number) t.roots (roots_under tables number)
    (roots_under (map (linked_table links) tables) number) (lengths-map links tables number)

IsSome-length : (o new : Option (List NodeRef)) → option_map length new ≡ option_map length o → IsSome o → IsSome new
IsSome-length o (Some roots) same is_there = refl
IsSome-length (Some roots) None same is_there = absurd (let e : ◌≡◌ {A = Option ℕ} None (Some (length roots)) = same in cc)
IsSome-length None None same is_there = is_there

-- a mapped option that has a value has it from one
record CameFrom (f : NodeRef → NodeRef) (o : Option NodeRef) (now : NodeRef) : Type 0 where
  was : NodeRef
  had : o ≡ Some was
  became : f was ≡ now

CameFrom-map : (f : NodeRef → NodeRef) (o : Option NodeRef) (now : NodeRef) → option_map f o ≡ Some now → CameFrom f o now
CameFrom-map f None now has = absurd (let e : ◌≡◌ {A = Option NodeRef} None (Some now) = has in cc)
CameFrom-map f (Some was) now has = record { was = was; had = refl; became = (let e : ◌≡◌ {A = Option NodeRef} (Some (f was)) (Some now) = has in cc) }

-- roots are valid, so marking them finds their indices
module _ (shelf : Contents) (is_shelf : IsShelf shelf) where
  valid-Contains : (r : NodeRef) → Contains (all_roots shelf.roots.tables) r → IsNamedIn shelf.nodes (node_of r)
  valid-Contains r there =
      let root = IsRoot-Contains shelf.roots.tables r is_shelf.numbered.rise there in
      is_shelf.roots root.number root.index r root.registered

  pub All-rank : (n : ℕ) → length shelf.nodes ≤ n → All (λ r. rank (node_of r) ≤ n) (all_roots shelf.roots.tables)
  All-rank n fits = λ k d within.
      let r = get_or (all_roots shelf.roots.tables) k d in
      let w = rank-IsNamedIn shelf.nodes (node_of r) (valid-Contains r (Contains-at (all_roots shelf.roots.tables) k d within)) in
      omega arith

module _ (shelf : Contents) (is_shelf : IsShelf shelf) (zeros first marks : List ℕ) (zero_all : (i : ℕ) →
    get_or zeros i 0 ≡ 0) (roots : MarksList (all_roots shelf.roots.tables) zeros first)
    (sides : MarksSides shelf.nodes first marks 0) where
  pub closed-marks : AreClosed shelf.nodes marks
  closed-marks = AreClosed-marks shelf.nodes is_shelf.canonical shelf.roots.tables is_shelf.numbered.rise is_shelf.roots zeros first marks zero_all roots sides

  root_marked : (r : NodeRef) → Contains (all_roots shelf.roots.tables) r → IsMarked marks (node_of r)
  root_marked r there = IsMarked-root shelf.nodes is_shelf.canonical shelf.roots.tables is_shelf.numbered.rise
      is_shelf.roots zeros first marks zero_all roots sides r there

  Contains-inner : (r : NodeRef) (named : Named) (track : ℕ) → node_of r ≡ named → first_track shelf.nodes named
      ≡ Some track → IsNamedIn shelf.nodes named → IsMarked marks named →
      Contains (held_below marks (length shelf.nodes)) r
  Contains-inner r (Leaf state) track names inner valid marked = absurd (let e : ◌≡◌ {A = Option ℕ} None (Some track) = inner in cc)
  Contains-inner r (Inner p) track names inner valid marked =
      subst (Contains (held_below marks (length shelf.nodes))) (sym (reference_to-named r p names)) (Contains-held marks (length shelf.nodes) p valid marked)

  held_each : (r : NodeRef) → Contains (held_below marks (length shelf.nodes)) r ↔ IsHeld shelf r
  held_each r = (
    λ there.
        let p = IsIndex-held marks (length shelf.nodes) r there in
        subst (IsHeld shelf) (sym p.names)
        (IsUnderRoot-marked shelf.nodes is_shelf.canonical shelf.roots.tables is_shelf.numbered.rise
        is_shelf.roots zeros first marks zero_all roots sides p.index p.marked),
    λ under.
        let m = marked-IsUnderRoot shelf.nodes is_shelf.canonical shelf.roots.tables is_shelf.numbered.rise
        is_shelf.roots zeros first marks zero_all roots sides r under in
        Contains-inner r (node_of r) under.track refl under.inner m.0 m.1,
  )

  -- the marked indices are as many as the nodes that are held
  pub CountsHeld-marks : CountsHeld shelf (marked_below marks (length shelf.nodes))
  CountsHeld-marks = record {
    held = held_below marks (length shelf.nodes);
    each = held_each;
    once = once-held marks (length shelf.nodes);
    length = length-held_below marks closed-marks.bits (length shelf.nodes);
  }

  module _ (now : List Node) (links : List ℕ) (moves : MovesBelow shelf.nodes marks now links (length shelf.nodes)) where
    linked_named-root : (r : NodeRef) (named : Named) → IsNamedIn shelf.nodes named → IsMarked marks named →
        linked_named links r named ≡ moved_named marks r named
    linked_named-root r (Leaf state) valid marked = refl
    linked_named-root r (Inner p) valid marked = ap reference_to (let l = moves.linked.at p valid marked in omega arith)

    IsLinked-root : (named : Named) → length shelf.nodes ≤ length marks → IsNamedIn shelf.nodes named → IsMarked marks named → IsLinked links named
    IsLinked-root (Leaf state) fits valid marked = tt
    IsLinked-root (Inner p) fits valid marked =
        let l = moves.linked.at p valid marked in
        let m = marked_below-le marks p closed-marks.bits in
        let e = moves.links_len in
        let w = is_shelf.within in
        let s = is_shelf.small in
        (omega arith, omega arith, omega arith)

    pub All-linked : length shelf.nodes ≤ length marks → All (λ r. IsLinked links (node_of r)) (all_roots shelf.roots.tables)
    All-linked fits = λ k d within.
        let r = get_or (all_roots shelf.roots.tables) k d in
        let there = Contains-at (all_roots shelf.roots.tables) k d within in
        IsLinked-root (node_of r) fits (valid-Contains shelf is_shelf r there) (root_marked r there)

    abbrev pub collected : Contents
    collected = record {
      nodes = take (marked_below marks (length shelf.nodes)) now;
      limit = shelf.limit;
      roots = record { tables = map (linked_table links) shelf.roots.tables; added = shelf.roots.added };
    }

    has_moved : HasMoved shelf.nodes marks collected.nodes
    has_moved = HasMoved-take shelf.nodes marks now links closed-marks.bits moves

    -- a root that stands in a table now has moved from the one that stood there
    record IsFrom (number index : ℕ) (now_root : NodeRef) : Type 0 where
      was : NodeRef
      had : root_of shelf number index ≡ Some was
      became : moved marks was ≡ now_root
      valid : IsNamedIn shelf.nodes (node_of was)
      marked : IsMarked marks (node_of was)

    IsFrom-root : (number index : ℕ) (now_root : NodeRef) → root_of collected number index ≡ Some now_root → IsFrom number index now_root
    IsFrom-root number index now_root there =
        let from = CameFrom-map (linked links) (root_of shelf number index) now_root (sym (root_under-map links shelf.roots.tables number index) ∙ there) in
        let contained = Contains-root_under shelf.roots.tables number index from.was from.had in
        let valid_was = is_shelf.roots number index from.was from.had in
        record {
          was = from.was;
          had = from.had;
          became = sym (linked_named-root from.was (node_of from.was) valid_was (root_marked from.was contained)) ∙ from.became;
          valid = valid_was;
          marked = root_marked from.was contained;
        }

    moved_valid : (was : NodeRef) → IsNamedIn shelf.nodes (node_of was) → IsMarked marks (node_of was) → IsNamedIn collected.nodes (node_of (moved marks was))
    moved_valid was valid marked = subst (IsNamedIn collected.nodes) (sym (node_of-moved marks was))
        (IsNamedIn-moved_to shelf.nodes is_shelf.canonical marks closed-marks collected.nodes has_moved (node_of was) valid marked)

    pub IsShelf-collected : IsShelf collected
    IsShelf-collected = record {
      canonical = AreCanonical-left shelf.nodes is_shelf.canonical marks closed-marks collected.nodes has_moved;
      within = let l = has_moved.len in let m = marked_below-le marks (length shelf.nodes) closed-marks.bits in let w = is_shelf.within in omega arith;
      some = is_shelf.some;
      small = is_shelf.small;
      numbered = AreNumbered-map (linked_table links) shelf.roots.tables shelf.roots.added (λ t. refl) is_shelf.numbered;
      roots = λ number index root there.
          let from = IsFrom-root number index root there in
          subst (IsValid collected) from.became (moved_valid from.was from.valid from.marked);
    }

    IsMoved-root : (was : NodeRef) → IsNamedIn shelf.nodes (node_of was) → IsMarked marks (node_of was) → IsMoved shelf collected was (moved marks was)
    IsMoved-root was valid marked = record {
      states = λ label. ap (λ (m : Named). state_named collected.nodes m label) (node_of-moved marks was)
          ∙ state_named-moved_to shelf.nodes is_shelf.canonical marks closed-marks collected.nodes has_moved (node_of was) label valid marked;
      top = ap (first_track collected.nodes) (node_of-moved marks was)
          ∙ first_track-moved_to shelf.nodes is_shelf.canonical marks closed-marks collected.nodes has_moved (node_of was) valid marked;
    }

    same_some : (o : Option NodeRef) (a b : NodeRef) → o ≡ Some a → o ≡ Some b → a ≡ b
    same_some o a b is_a is_b = let e : ◌≡◌ {A = Option NodeRef} (Some a) (Some b) = sym is_a ∙ is_b in cc

    pub MovesRoots-collected : MovesRoots shelf collected
    MovesRoots-collected = record {
      added = refl;
      lengths = lengths-map links shelf.roots.tables;
      registered = λ number is_there. IsSome-length _ _ (lengths-map links shelf.roots.tables number) is_there;
      moved = λ number index was now_root had has.
          let from = IsFrom-root number index now_root has in
          let same : from.was ≡ was = same_some (root_of shelf number index) from.was was from.had had in
          subst (λ (r : NodeRef). IsMoved shelf collected was r) (ap (moved marks) (sym same) ∙ from.became)
          (IsMoved-root was (subst (λ (r : NodeRef). IsNamedIn shelf.nodes (node_of r)) same from.valid)
          (subst (λ (r : NodeRef). IsMarked marks (node_of r)) same from.marked));
    }

    pub CountsHeld-collected : CountsHeld shelf (count_of collected)
    CountsHeld-collected = subst (CountsHeld shelf) (sym has_moved.len) CountsHeld-marks
