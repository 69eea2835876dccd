use Rattle.std.proofs.Common.{◌≡◌, ℕ, ◌≤◌, List, length, take, sym, ◌∙◌, ap, subst, arith}
use Rattle.bdd_nodes.specs.declared.node.Node.{Node}
use Rattle.bdd_nodes.specs.declared.roots.RootTable.{RootTable}
use Rattle.bdd_nodes.specs.Roots.{Registered}
use Rattle.bdd_nodes.specs.Shelf.{Contents, IsShelf, count_of}
use Rattle.bdd_nodes.specs.Changes.{MovesRoots, CountsHeld}
use Rattle.bdd_nodes.specs.Collecting.{marked_below, MarksSides, MovesBelow}
use Rattle.bdd_nodes.specs.Index.{IsIndexed}
use Rattle.bdd_nodes.proofs.ElementsLemmas.{take-written}
use Rattle.bdd_nodes.proofs.CollectedLemmas.{All-rank, All-linked, collected, IsShelf-collected, MovesRoots-collected, CountsHeld-collected}
use Rattle.bdd_nodes.proofs.shelf.Shelf.collect.Goals as goal
use Rattle.bdd_nodes.proofs.shelf.Shelf.collect.Goals.{After-rebuild}

abbrev opened-of : List Node → ℕ → Registered → Contents
opened-of nodes limit roots = record { nodes = nodes; limit = limit; roots = roots }

abbrev registered : List RootTable → ℕ → Registered
registered tables added = record { tables = tables; added = added }

pub mark-requires : goal.mark-requires
mark-requires c =
    All-rank (opened-of c.self.inside.nodes.items c.self.inside.limit c.self.inside.roots) c.self.invariant.shelf (length c.clear.new.numbers)
    (let l = c.self.invariant.chain_len in let e = c.clear.ensures.len in let v = ap length c.as_mut_slice-marks.ensures.value in omega arith)

sides-of : (ns nodes : List Node) (first marks : List ℕ) → ns ≡ nodes → MarksSides ns first marks 0 → MarksSides nodes first marks 0
sides-of ns nodes first marks same sides = subst (λ (ms : List Node). MarksSides ms first marks 0) same sides

moves-of : (ns nodes : List Node) (marks : List ℕ) (now : List Node) (links : List ℕ) → ns ≡ nodes →
    MovesBelow ns marks now links (length ns) → MovesBelow nodes marks now links (length nodes)
moves-of ns nodes marks now links same moves = subst (λ (ms : List Node). MovesBelow ms marks now links (length ms)) same moves

pub move_all-requires : goal.move_all-requires
move_all-requires c =
    let fits : length c.self.inside.nodes.items ≤ length c.mark_sides.new.marks =
    (let l = c.self.invariant.chain_len in let e = c.clear.ensures.len in let v = ap length c.as_mut_slice-marks.ensures.value in
    let f = c.mark.ensures.len in let m = c.mark_sides.ensures.len in omega arith) in
    (All-linked (opened-of c.self.inside.nodes.items c.self.inside.limit c.self.inside.roots) c.self.invariant.shelf
    c.clear.new.numbers c.mark.new.marks c.mark_sides.new.marks c.clear.ensures.zero
    c.mark.ensures (sides-of _ _ _ _ c.deref.ensures.value c.mark_sides.ensures)
    c.move_nodes-count.new.nodes c.move_nodes-count.new.marks (moves-of _ _ _ _ _ c.deref_mut.ensures.value c.move_nodes-count.ensures.moved) fits)

same_registered : (r : Registered) (tables : List RootTable) (added : ℕ) → r.tables ≡ tables → r.added ≡ added → r ≡ registered tables added
same_registered r tables added e f = ap (λ (ts : List RootTable). registered ts r.added) e ∙ ap (registered tables) f

-- the shelf as it was opened
abbrev opened : (c : After-rebuild) → Contents
opened c = opened-of c.self.inside.nodes.items c.self.inside.limit c.self.inside.roots

abbrev marks : (c : After-rebuild) → List ℕ
marks c = c.mark_sides.new.marks

abbrev links : (c : After-rebuild) → List ℕ
links c = c.move_nodes-count.new.marks

sides : (c : After-rebuild) → MarksSides c.self.inside.nodes.items c.mark.new.marks (marks c) 0
sides c = sides-of _ _ _ _ c.deref.ensures.value c.mark_sides.ensures

moves : (c : After-rebuild) → MovesBelow c.self.inside.nodes.items (marks c) c.move_nodes-count.new.nodes (links c) (length c.self.inside.nodes.items)
moves c = moves-of _ _ _ _ _ c.deref_mut.ensures.value c.move_nodes-count.ensures.moved

abbrev left : (c : After-rebuild) → Contents
left c = collected (opened c) c.self.invariant.shelf c.clear.new.numbers c.mark.new.marks
    (marks c) c.clear.ensures.zero c.mark.ensures (sides c) c.move_nodes-count.new.nodes (links c) (moves c)

items-left : (c : After-rebuild) → c.truncate.new.self.items ≡ take (marked_below (marks c) (length c.self.inside.nodes.items)) c.move_nodes-count.new.nodes
items-left c =
    c.truncate.ensures.items
    ∙ ap (take c.move_nodes-count.result)
    (take-written c.move_nodes-count.new.nodes c.self.inside.nodes.items c.self.inside.nodes.len
    c.self.inside.nodes.ok.0 (moves c).len)
    ∙ ap (λ (n : ℕ). take n c.move_nodes-count.new.nodes) (c.move_nodes-count.ensures.count
    ∙ ap (λ (ns : List Node). marked_below (marks c) (length ns)) c.deref_mut.ensures.value)

-- the new view is the collected shelf
view-is : (c : After-rebuild) → opened-of c.truncate.new.self.items c.self.inside.limit c.move_all.new.self ≡ left c
view-is c =
    ap (λ (ns : List Node). opened-of ns c.self.inside.limit c.move_all.new.self) (items-left c)
    ∙ ap (opened-of (take (marked_below (marks c) (length c.self.inside.nodes.items)) c.move_nodes-count.new.nodes) c.self.inside.limit)
    (same_registered c.move_all.new.self _ _ c.move_all.ensures.tables c.move_all.ensures.added)

shelf : (c : After-rebuild) → IsShelf (opened-of c.truncate.new.self.items c.self.inside.limit c.move_all.new.self)
shelf c = subst IsShelf (sym (view-is c))
    (IsShelf-collected (opened c) c.self.invariant.shelf c.clear.new.numbers c.mark.new.marks
    (marks c) c.clear.ensures.zero c.mark.ensures (sides c) c.move_nodes-count.new.nodes (links c) (moves c))

pub invariant_of-self : goal.invariant_of-self
invariant_of-self c = record {
  shelf = shelf c;
  indexed = subst (λ (ns : List Node). IsIndexed ns c.rebuild.new.self.buckets.items c.rebuild.new.self.chain.items
      (length ns)) c.deref-2.ensures.value c.rebuild.ensures.indexed;
  chain_len = let l = c.rebuild.ensures.chain_len in let v = c.rebuild.new.self.chain.ok.0 in let d = ap length c.deref-2.ensures.value in omega arith;
  room = (let t = c.truncate.ensures.capacity in let r = c.self.invariant.room in omega arith);
  index_room =
      let e = c.rebuild.ensures in
      let was = c.self.invariant.index_room in
      let l = c.len-buckets.ensures in
      let v = c.rebuild.new.self.buckets.ok.0 in
      let o = c.self.inside.index.buckets.ok.0 in
      record {
        some = let s = was.some in let b = e.buckets_len in omega arith;
        within = let s = was.within in let b = e.buckets_len in omega arith;
        buckets_room = let s = was.buckets_room in let b = e.buckets_room in omega arith;
        chain_room = let s = was.chain_room in let b = e.chain_room in omega arith;
      };
}

pub returns-clause-roots : goal.returns-clause-roots
returns-clause-roots c =
    subst (λ (s : Contents). MovesRoots s (opened-of c.truncate.new.self.items c.self.inside.limit c.move_all.new.self)) c.self.view_is
    (subst (MovesRoots (opened c)) (sym (view-is c))
    (MovesRoots-collected (opened c) c.self.invariant.shelf c.clear.new.numbers c.mark.new.marks
    (marks c) c.clear.ensures.zero c.mark.ensures (sides c) c.move_nodes-count.new.nodes (links c) (moves c)))

pub returns-clause-count : goal.returns-clause-count
returns-clause-count c =
    subst (λ (s : Contents). CountsHeld s (length c.truncate.new.self.items)) c.self.view_is
    (subst (λ (s : Contents). CountsHeld (opened c) (count_of s)) (sym (view-is c))
    (CountsHeld-collected (opened c) c.self.invariant.shelf c.clear.new.numbers c.mark.new.marks
    (marks c) c.clear.ensures.zero c.mark.ensures (sides c) c.move_nodes-count.new.nodes (links c) (moves c)))

pub returns-clause-shelf : goal.returns-clause-shelf
returns-clause-shelf c = shelf c
