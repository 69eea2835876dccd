use Rattle.std.proofs.Common.{◌≡◌, ℕ, List, [], true, length}
use Rattle.bdd_list.specs.declared.listing.Listed.{Listed}
use Rattle.gta_classes.specs.Chosen.{is_marked}
use Rattle.gta_reach.specs.Reached.{AreSidesTouched}
use Rattle.gta_minimise.specs.Marked.{AreUnder}
use Rattle.gta_minimise.proofs.marks.mark_sides.Given as goal

abbrev pub invariant-loop-index : goal.invariant-loop-index
invariant-loop-index l = record {
  many : length l.marks.items ≡ length l.fn.marks.items;
  kept : (i : ℕ) → is_marked l.fn.marks.items i ≡ true → is_marked l.marks.items i ≡ true;
  under : (roots : List Listed) → AreUnder l.space.listing.nodes roots l.fn.marks.items → AreUnder l.space.listing.nodes roots l.marks.items;
  sides : AreSidesTouched l.space l.marks.items [] l.index;
}
