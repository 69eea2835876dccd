-- What is listed, with states replaced by their classes.
use Rattle.std.proofs.Common.{◌≡◌, ℕ, ◌≤◌, Bool, List, length, Some, ◌∙◌, ap, subst, arith}
use Rattle.std.specs.Prelude.{slice_get, slice_index, slice_index_or, All}
use Rattle.std.proofs.lemmas.Option.{slice_get_within, slice_get-get_or}
use Rattle.labels.specs.Labels.{Function}
use Rattle.bdd_nodes.specs.declared.node_ref.NodeRef.{NodeRef}
use Rattle.bdd_nodes.specs.Shelf.{Contents}
use Rattle.bdd_list.specs.declared.listing.Listed.{Listed}
use Rattle.bdd_list.specs.declared.listing.Listed.TheVariants.{Leaf}
use Rattle.bdd_list.specs.declared.listing.ListedNode.{ListedNode}
use Rattle.bdd_list.specs.Listing.{rank, IsIn}
use Rattle.gta_refine.specs.Numbered.{StandFor}
use Rattle.gta_minimise.specs.Marked.{AreMarked}
use Rattle.gta_minimise.specs.Renamed.{IsRenamed, IsUnderRenamed, AreMade, AreRenamed}
use Rattle.gta_minimise.proofs.MadeLemmas.{IsNumbered-marked}

module _ (classes : List ℕ) (nodes : List ListedNode) (roots : List Listed) (marks : List Bool) (marked : AreMarked nodes roots marks) where
  -- the references for the roots
  pub AreRenamed-made : (new : Contents) (refs references : List NodeRef) → AreMade new classes nodes marks refs →
      length refs ≡ length marks → StandFor classes refs roots references → AreRenamed new classes nodes roots references
  AreRenamed-made new refs references made many stand =
      let stands = λ (k : ℕ) (root : Listed) (r : NodeRef) (root_at : slice_get roots k ≡ Some root) (at : slice_get references k ≡ Some r).
      stand.each new nodes k root r
      (IsNumbered-marked new classes nodes marks refs made (omega arith) root (marked.touched k root root_at)) root_at at in
      record {
        many = stand.many;
        valid = λ k r at.
            let b = slice_get_within references k r at in
            let n = stand.many in
            (stands k (slice_index_or roots k (Leaf 0)) r (slice_get-get_or roots k (Leaf 0) (omega arith)) at).valid;
        states = λ k root r label root_at at. (stands k root r root_at at).states label;
      }

  -- the function of a marked node is under that of a root
  under-marked : (h : Function) → IsRenamed classes nodes marks h → IsUnderRenamed classes nodes roots h
  under-marked h renamed =
      let found = marked.under renamed.index renamed.marked in
      record {
        place = found.place;
        root = found.root;
        there = found.there;
        below = (found.under).below;
        fixed = (found.under).fixed;
        states = λ label. renamed.states label ∙ ap (slice_index classes) ((found.under).states label);
      }

  pub under-read : (others : List ListedNode) → others ≡ nodes → (h : Function) → IsRenamed classes others marks h → IsUnderRenamed classes nodes roots h
  under-read others are h renamed = under-marked h (subst (λ (ns : List ListedNode). IsRenamed classes ns marks h) are renamed)

  pub inside-made : (refs : List NodeRef) → length refs ≡ length marks → All (IsIn nodes) roots → All (λ one. rank one ≤ length refs) roots
  inside-made refs many inside = λ k d k_in. let i = inside k d k_in in let m = marked.many in omega arith
