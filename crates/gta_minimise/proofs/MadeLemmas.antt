-- Nodes are made for marked ones.
use Rattle.std.proofs.Common.{◌≡◌, ◌<◌, ◌≤◌, ℕ, Bool, true, false, List, [], ◌∷◌, ◌++◌, length, inl, inr, sym, ◌∙◌, ap, subst, arith}
use Rattle.std.specs.Prelude.{Result, Ok, Err, IfOk}
use Rattle.std.proofs.lemmas.Bool.{false≢true}
use Rattle.std.proofs.lemmas.Option.{slice_get_within}
use Rattle.labels.specs.Labels.{Label}
use Rattle.bdd_nodes.specs.declared.node_ref.NodeRef.{NodeRef}
use Rattle.bdd_nodes.specs.declared.shelf.Full.{Full}
use Rattle.bdd_nodes.specs.Shelf.{Contents, IsValid, AsksFrom, state_of, choice_of}
use Rattle.bdd_nodes.specs.Changes.{Keeps}
use Rattle.bdd_list.specs.declared.listing.Listed.{Listed}
use Rattle.bdd_list.specs.declared.listing.Listed.TheVariants.{Inner}
use Rattle.bdd_list.specs.declared.listing.ListedNode.{ListedNode}
use Rattle.bdd_list.specs.Listing.{node_at, AreOrdered}
use Rattle.gta_theory.proofs.ListedLemmas.{slice_get-push}
use Rattle.gta_classes.specs.Chosen.{is_marked}
use Rattle.gta_reach.specs.Reached.{IsTouched}
use Rattle.gta_refine.specs.Numbered.{Stands, IsNumbered}
use Rattle.gta_refine.proofs.NumbersLemmas.{Stands-made, Stands-kept, Stands-states}
use Rattle.gta_minimise.specs.Renamed.{IsRenamed, AreMade}

pub AreMade-none : (shelf : Contents) (classes : List ℕ) (nodes : List ListedNode) (marks : List Bool) → AreMade shelf classes nodes marks []
AreMade-none shelf classes nodes marks = record { each = λ i r there marked. absurd cc }

-- the reference of what is marked stands for it
pub IsNumbered-marked : (shelf : Contents) (classes : List ℕ) (nodes : List ListedNode) (marks : List Bool) (refs : List NodeRef) →
    AreMade shelf classes nodes marks refs → length refs ≤ length marks → (listed : Listed) → IsTouched marks [] listed →
    IsNumbered shelf classes nodes refs listed
IsNumbered-marked shelf classes nodes marks refs made many listed touched = record {
  each = λ i r is there.
      let b = slice_get_within refs i r there in
      let here = subst (λ (l : Listed). IsTouched marks [] l) is touched in
      subst (λ (l : Listed). Stands shelf classes nodes l r) (sym is) (made.each i r there (here (omega arith)));
}

AreMade-push : (shelf : Contents) (classes : List ℕ) (nodes : List ListedNode) (marks : List Bool) (refs : List NodeRef) (made : NodeRef) (index : ℕ) →
    length refs ≡ index → AreMade shelf classes nodes marks refs → (is_marked marks index ≡ true → Stands shelf classes nodes (Inner index) made) →
    AreMade shelf classes nodes marks (refs ++ made ∷ [])
AreMade-push shelf classes nodes marks refs made index many before here = record {
  each = λ i r there marked. elim (slice_get-push refs made r i there) [
    | inl earlier ↦ before.each i r earlier marked
    | inr last ↦
        let is : index ≡ i = sym many ∙ sym last.0 in
        subst (λ (x : NodeRef). Stands shelf classes nodes (Inner i) x) last.1
        (subst (λ (k : ℕ). Stands shelf classes nodes (Inner k) made) is (here (ap (is_marked marks) is ∙ marked)))
  ];
}

-- a node that isn't marked
pub AreMade-skip : (shelf : Contents) (classes : List ℕ) (nodes : List ListedNode) (marks : List Bool) (refs : List NodeRef) (made : NodeRef)
    (index : ℕ) → length refs ≡ index → AreMade shelf classes nodes marks refs → is_marked marks index ≡ false →
    AreMade shelf classes nodes marks (refs ++ made ∷ [])
AreMade-skip shelf classes nodes marks refs made index many before unmarked =
    AreMade-push shelf classes nodes marks refs made index many before (λ marked. absurd (false≢true (sym unmarked ∙ marked)))

module _ (old : Contents) (classes : List ℕ) (nodes : List ListedNode) (ordered : AreOrdered nodes) (index : ℕ) (inside : index < length nodes)
    (low high : NodeRef) (stands_low : Stands old classes nodes (node_at nodes index).low low)
    (stands_high : Stands old classes nodes (node_at nodes index).high high) (marks : List Bool) where
  -- the choice of what stands for the sides is the function of the node
  pub IsRenamed-choice : is_marked marks index ≡ true → IsRenamed classes nodes marks (choice_of old (node_at nodes index).track low high)
  IsRenamed-choice marked = record {
    index = index;
    inside = inside;
    marked = marked;
    states = Stands-states old classes nodes ordered index inside low high stands_low stands_high;
  }

  -- what is made stands for the node
  pub AreMade-made : (new : Contents) (refs : List NodeRef) → AreMade old classes nodes marks refs → length refs ≡ index → Keeps old new →
      (result : Result NodeRef Full) →
      IfOk {E = Full} result (λ made. (label : Label) → state_of new made label ≡ choice_of old (node_at nodes index).track low high label) →
      IfOk {E = Full} result (IsValid new) → IfOk {E = Full} result (AsksFrom new (node_at nodes index).track) →
      IfOk {E = Full} result (λ made. AreMade new classes nodes marks (refs ++ made ∷ []))
  AreMade-made new refs before many keeps (Ok made) states valid later =
      AreMade-push new classes nodes marks refs made index many
      (record { each = λ i r there marked. Stands-kept old new classes nodes (Inner i) r keeps (before.each i r there marked) })
      (λ marked. Stands-made old new classes nodes ordered index inside low high made stands_low stands_high valid states later)
  AreMade-made new refs before many keeps (Err why) states valid later = tt
